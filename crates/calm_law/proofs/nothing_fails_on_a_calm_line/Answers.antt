use Rattle.calm_law.proofs.nothing_fails_on_a_calm_line.Goals as goal
use Rattle.calm_law.proofs.JoinedLaw.{nothing_fails, refuses_rightly, ends_well, each_brings, each_heard, comes_for_jobs, comes_for_writes, no_try_fails}

pub returns-clause-prompt : goal.returns-clause-prompt
returns-clause-prompt c = nothing_fails

pub returns-clause-refuses : goal.returns-clause-refuses
returns-clause-refuses c = refuses_rightly

pub returns-clause-ended : goal.returns-clause-ended
returns-clause-ended c = ends_well

pub returns-clause-reached : goal.returns-clause-reached
returns-clause-reached c = no_try_fails

pub returns-clause-brings : goal.returns-clause-brings
returns-clause-brings c = each_brings

pub returns-clause-heard : goal.returns-clause-heard
returns-clause-heard c = each_heard

pub returns-clause-shared : goal.returns-clause-shared
returns-clause-shared c = comes_for_jobs

pub returns-clause-unread : goal.returns-clause-unread
returns-clause-unread c = comes_for_writes
