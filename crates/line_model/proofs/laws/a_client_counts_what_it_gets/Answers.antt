use Rattle.line_model.proofs.laws.a_client_counts_what_it_gets.Goals as goal
use Rattle.line_model.proofs.Channels.{again, agreed}

pub returns-clause-again : goal.returns-clause-again
returns-clause-again c = again

pub returns-clause-agreed : goal.returns-clause-agreed
returns-clause-agreed c = agreed
