use denote.Param.{param}
use denote.Param.Send.{IsSend, IsSync, sendable}
use Rattle.std.proofs.Common.{◌-◌, arith}
use Rattle.shared_hub.proofs.Sends.{back_send, workers_send}
use Rattle.shared_hub.proofs.Works.{leads_fewer, workers_done}
use Rattle.shared_hub.proofs.crew.+all_worked+fn-all_worked-join+arg2.Goals as goal

pub join-all-requires-send-F : goal.join-all-requires-send-F
join-all-requires-send-F g t c κs within =
    let send-L : IsSend (param 1 g.row.L) = search sendable in
    let sync-R : IsSync (param 0 g.row.R) = search sendable in
    let send-W : IsSend (param 2 g.row.W) = search sendable in
    let sync-G : IsSync (param 3 g.row.G) = search sendable in
    workers_send (param 0 g.row.R) (param 1 g.row.L) (param 2 g.row.W) (param 3 g.row.G) g.L.Link g.W.Watcher sync-R send-L send-W sync-G _ _ _ _ _ _ _ _ _ _

pub join-all-requires-send-A : goal.join-all-requires-send-A
join-all-requires-send-A g t c κs within =
    let send-L : IsSend (param 1 g.row.L) = search sendable in
    let send-W : IsSend (param 2 g.row.W) = search sendable in
    back_send (param 1 g.row.L) (param 2 g.row.W) g.L.Link g.W.Watcher send-L send-W _

pub join+arg2-all_worked-requires-clause-leads : goal.join+arg2-all_worked-requires-clause-leads
join+arg2-all_worked-requires-clause-leads g t c κs within = leads_fewer (c.captures.count - 1) c.captures.count _ _ (omega arith) c.requires.6

pub returns-clause-done : goal.returns-clause-done
returns-clause-done g t c = workers_done c.args.count (c.args.count - 1) _ _ _ (omega arith) c.join.ensures.begins.0 c.join.ensures.begins.1 c.join-all.ensures.first.1 c.join-all.ensures.second.1
