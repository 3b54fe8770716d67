use Rattle.load_law.proofs.undisturbed_downloads_end_done.Goals as goal
use Rattle.std.proofs.Common.{refl}
use Rattle.load_law.specs.Download.{IsOnly}
use Rattle.load_law.proofs.Ends.{ends}

pub returns-clause-legal : goal.returns-clause-legal
returns-clause-legal c = λ plan me d power can answers fit. (ends (IsOnly plan) plan me d refl can power answers fit).legal

pub returns-clause-follows : goal.returns-clause-follows
returns-clause-follows c = λ plan me d power can answers fit. (ends (IsOnly plan) plan me d refl can power answers fit).follows

pub returns-clause-done : goal.returns-clause-done
returns-clause-done c = λ plan me d power can answers fit. (ends (IsOnly plan) plan me d refl can power answers fit).done
