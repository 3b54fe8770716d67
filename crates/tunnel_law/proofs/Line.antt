-- The same of the whole line: its tunnel's part is a run of the tunnel, with the same record.
use Rattle.std.proofs.Common.{◌≡◌, List, [], ◌∷◌, sym, ap, subst, ◌∙◌}
use Rattle.line_model.specs.ActedOnce.{IsActedOnce, ActedOnce}
use Rattle.line_model.specs.Fresh.{IsFresh}
use Rattle.line_model.specs.Legal.{IsLegal}
use Rattle.line_model.specs.Record.{Entry, record_of, tunnel_record, item_at}
use Rattle.line_model.specs.Renews.{RenewsRightly}
use Rattle.line_model.specs.Sendings.{SendsRightly}
use Rattle.line_model.specs.Tunnel.{Tunnel, Commissions, fresh, replay as tunnel_replay, IsLegal as IsLegalInTunnel}
use Rattle.line_model.specs.World.{World, Event, me, now, replay, tunnel_events}
use Rattle.line_model.proofs.Projection.{runs, legal, records}
use Rattle.tunnel_law.proofs.Joined.{once_both}
use Rattle.tunnel_law.proofs.Law.{renews_before, sends_before}

here : (start : World) (events : List Event) → IsFresh start → IsLegal Commissions start events → RenewsRightly (record_of start events) → SendsRightly (record_of start events)
    → IsActedOnce (replay start events).tunnel.gateway (record_of start events)
here start events f l a b =
    let run : (replay start events).tunnel ≡ tunnel_replay (fresh (me start)) (tunnel_events start events)
    = runs start events ∙ ap (λ (t : Tunnel). tunnel_replay t (tunnel_events start events)) f.tunnel in
    let same : record_of start events ≡ tunnel_record (fresh (me start)) (tunnel_events start events)
    = records start events ∙ ap (λ (t : Tunnel). tunnel_record t (tunnel_events start events)) f.tunnel in
    let is_legal : IsLegalInTunnel Commissions (fresh (me start)) (tunnel_events start events)
    = subst (λ (t : Tunnel). IsLegalInTunnel Commissions t (tunnel_events start events)) f.tunnel (legal Commissions start events l) in
    let it = once_both (me start) (tunnel_events start events) is_legal (subst RenewsRightly same a) (subst SendsRightly same b) in
    subst (λ (t : Tunnel). IsActedOnce t.gateway (record_of start events)) (sym run)
    (subst (λ (r : List Entry). IsActedOnce (tunnel_replay (fresh (me start)) (tunnel_events start events)).gateway r) (sym same) it)

pub line_once : (start : World) (events : List Event) → IsFresh start → IsLegal Commissions start events → RenewsRightly (record_of start events) → SendsRightly (record_of start events)
    → ActedOnce start events
line_once start [] f l a b = here start [] f l a b
line_once start (e ∷ events) f l a b = (
  here start (e ∷ events) f l a b,
  line_once start events f l.1 (renews_before (item_at (replay start events) e) (now (replay start (e ∷ events))) (record_of start events) a)
      (sends_before (item_at (replay start events) e) (now (replay start (e ∷ events))) (record_of start events) b),
)
