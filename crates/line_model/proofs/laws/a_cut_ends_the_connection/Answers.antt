use Rattle.line_model.proofs.laws.a_cut_ends_the_connection.Goals as goal
use Rattle.line_model.proofs.Buses.{cut_closes, cut_stops, cut_keeps, cut_empties}

pub returns-clause-closed : goal.returns-clause-closed
returns-clause-closed c = cut_closes

pub returns-clause-stopped : goal.returns-clause-stopped
returns-clause-stopped c = cut_stops

pub returns-clause-kept : goal.returns-clause-kept
returns-clause-kept c = cut_keeps

pub returns-clause-emptied : goal.returns-clause-emptied
returns-clause-emptied c = cut_empties
