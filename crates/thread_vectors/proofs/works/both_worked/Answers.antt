use denote.Param.{param}
use Rattle.std.proofs.Common.{ap, subst, sym, ◌∙◌}
use Rattle.shared_hub.specs.Works.{Leads}
use Rattle.shared_hub.proofs.Sends.{back_send, workers_send}
use Rattle.thread_vectors.proofs.works.both_worked.Goals as goal

pub join-both-requires-send-F : goal.join-both-requires-send-F
join-both-requires-send-F g c κs within = workers_send (param 0 g.row.R) (param 1 g.row.L) (param 2 g.row.W) (param 3 g.row.G) g.L.Link g.W.Watcher c.type_bounds.sync-R c.type_bounds.send-L c.type_bounds.send-W c.type_bounds.sync-G _ _ _ _ _ _ _ _ _ _

pub join-both-requires-send-A : goal.join-both-requires-send-A
join-both-requires-send-A g c κs within = back_send (param 1 g.row.L) (param 2 g.row.W) g.L.Link g.W.Watcher c.type_bounds.send-L c.type_bounds.send-W _

pub join-both-requires-after_bounds : goal.join-both-requires-after_bounds
join-both-requires-after_bounds g c κs within =
    let same = c.split-other.ensures.left in
    let other = c.split-other.ensures.right in (
      (ap (λ s. s.cell) same ∙ c.requires.of, ap (λ s. s.turn) same ∙ c.requires.free, c.requires.first_from_1, subst (λ s. Leads c.args.first c.args.relay.now s.seen) (sym same) c.requires.first_leads),
      (ap (λ s. s.cell) other ∙ c.requires.of, ap (λ s. s.turn) other, c.requires.second_from_1, subst (λ s. Leads c.args.second c.args.relay.now s.seen) (sym other) c.requires.second_leads),
    )
