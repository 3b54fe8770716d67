use denote.Exit.{no}
use denote.Param.{param}
use denote.Param.Send.{arg_send, arg_sync, param_send, param_sync}
use Rattle.std.proofs.Common.{ap, arith, subst, sym, ◌∙◌}
use Rattle.shared_hub.specs.Items.{HasTold}
use Rattle.shared_hub.specs.Sites.{items_of}
use Rattle.shared_hub.specs.Works.{AllDone, Leads, WasDone}
use Rattle.shared_hub.proofs.Sends.{both_send, group_send}
use Rattle.shared_hub.proofs.Works.{all_later, leads_fewer, was_later}
use Rattle.shared_hub.proofs.crew.all_done.Goals as goal

pub join-last-requires-send-F : goal.join-last-requires-send-F
join-last-requires-send-F g c κs within = group_send (param 0 g.row.R) (param 1 g.row.L) (param 2 g.row.W) g.L.Link g.W.Watcher c.type_bounds.sync-R c.type_bounds.send-L c.type_bounds.send-W _ _ _ _ _ _ _ _

pub join-last-requires-send-A : goal.join-last-requires-send-A
join-last-requires-send-A g c κs within = both_send (param 1 g.row.L) (param 2 g.row.W) g.L.Link g.W.Watcher c.type_bounds.send-L c.type_bounds.send-W _ _

pub join-last-requires-after_bounds : goal.join-last-requires-after_bounds
join-last-requires-after_bounds g c κs within =
    let same = c.split-group.ensures.left in
    let group = c.split-group.ensures.right in
    let sync-R = param_sync _ _ (arg_sync _ no _ c.type_bounds.sync-R) in
    let sync-G = param_sync _ _ (arg_sync _ no _ c.type_bounds.sync-G) in
    let few = c.requires.few in let whole = c.requires.whole in let parts = ap (λ s. s.parts) same in (
      (ap (λ s. s.cell) group ∙ c.requires.of, ap (λ s. s.turn) group, subst (λ s. Leads 0 c.args.relay.now s.seen) (sym group) (leads_fewer 0 c.args.workers c.args.relay.now _ (omega arith) c.requires.leads), c.requires.listens),
      (
        (
          sync-R,
          sync-G,
          ap (λ s. s.cell) same ∙ c.requires.of,
          ap (λ s. s.turn) same ∙ c.requires.free,
          c.requires.some,
          omega (arith, few, whole, parts),
          subst (λ s. Leads c.args.workers c.args.relay.now s.seen) (sym same) c.requires.leads,
        ),
        (param_send _ _ (arg_send _ no _ c.type_bounds.send-L), param_send _ _ (arg_send _ no _ c.type_bounds.send-W), sync-R, sync-G),
      ),
    )

pub returns-clause-done : goal.returns-clause-done
returns-clause-done g c = subst (λ s. AllDone c.args.workers (items_of s)) (sym c.into_inner.ensures) (all_later c.args.workers _ _ c.close.ensures.seen (all_later c.args.workers _ _ c.join.ensures.begins.0 c.join-last.ensures.second.1))

pub returns-clause-told : goal.returns-clause-told
returns-clause-told g c = subst (λ s. WasDone HasTold (items_of s)) (sym c.into_inner.ensures) (was_later HasTold _ _ c.close.ensures.seen (was_later HasTold _ _ c.join.ensures.begins.1 c.join-last.ensures.first.1))
