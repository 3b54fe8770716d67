use Rattle.calm_law.proofs.undisturbed_runs_are_prompt.Goals as goal
use Rattle.calm_law.proofs.Scripts.{are_calm}
use Rattle.calm_law.proofs.JoinedLaw.{nothing_fails, refuses_rightly, ends_well}

pub returns-clause-prompt : goal.returns-clause-prompt
returns-clause-prompt c = λ jobs turns start events log power client values script run.
    nothing_fails jobs turns start events log run.served run.devices power client (are_calm script run.says start events client.safe.legal run.follows) values

pub returns-clause-refuses : goal.returns-clause-refuses
returns-clause-refuses c = λ jobs turns start events log script run power client values.
    refuses_rightly jobs turns start events log run.served run.devices power client (are_calm script run.says start events client.safe.legal run.follows) values

pub returns-clause-ended : goal.returns-clause-ended
returns-clause-ended c = λ jobs turns start events log script run power client values.
    ends_well jobs turns start events log run.served run.devices power client (are_calm script run.says start events client.safe.legal run.follows) values
