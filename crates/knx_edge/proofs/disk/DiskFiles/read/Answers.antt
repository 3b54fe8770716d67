use Rattle.knx_edge.proofs.Counts.{faults_rise, faults_stand}
use Rattle.knx_edge.proofs.disk.DiskFiles.read.Goals as goal

pub returns-in_ok-keep-in-Err-Failed-clause-failed :
    goal.returns-in_ok-keep-in-Err-Failed-clause-failed
returns-in_ok-keep-in-Err-Failed-clause-failed g c = λ _. rw c.in_ok-keep-in-Err-Failed.ensures.kept (faults_rise c.args.self.now.failed.items c.args.name.now)

pub returns-in_ok-keep-in-Err-Failed-clause-others :
    goal.returns-in_ok-keep-in-Err-Failed-clause-others
returns-in_ok-keep-in-Err-Failed-clause-others g c = λ other differ. rw c.in_ok-keep-in-Err-Failed.ensures.kept (faults_stand c.args.self.now.failed.items c.args.name.now other differ)
