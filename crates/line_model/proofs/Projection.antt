-- The tunnel's part of a run of the line is a run of the tunnel, with the same record.
use Rattle.std.proofs.Common.{◌≡◌, List, [], ◌∷◌, refl, ap, subst, ◌∙◌}
use Rattle.line_model.specs.Legal.{IsLegal}
use Rattle.line_model.specs.Record.{Entry, noted, item_of, record_of, tunnel_record}
use Rattle.line_model.specs.Tunnel as tunnel
use Rattle.line_model.specs.Tunnel.{Tunnel, TunnelEvent, Mode}
use Rattle.line_model.specs.World.{World, Event, tunnel_event, tunnel_events, replay}

pub runs : (start : World) (events : List Event) → (replay start events).tunnel ≡ tunnel.replay start.tunnel (tunnel_events start events)
runs start [] = refl
runs start (e ∷ events) = ap (λ (t : Tunnel). tunnel.step t (tunnel_event (replay start events) e)) (runs start events)

pub legal : (mode : Mode) (start : World) (events : List Event) → IsLegal mode start events → tunnel.IsLegal mode start.tunnel (tunnel_events start events)
legal mode start [] h = tt
legal mode start (e ∷ events) h =
    let P : Tunnel → Type 0 = λ t. tunnel.MayHappen mode t (tunnel_event (replay start events) e) in
    (subst P (runs start events) h.0.tunnel, legal mode start events h.1)

-- an entry is read off the tunnel before the event and the time after it
noted_alike : (t t' : Tunnel) (e : TunnelEvent) (r r' : List Entry) → t ≡ t' → r ≡ r' → noted (item_of t e) (tunnel.step t e).now r ≡ noted (item_of t' e) (tunnel.step t' e).now r'
noted_alike t t' e r r' p q =
    ap (λ (x : Tunnel). noted (item_of x e) (tunnel.step x e).now r) p ∙ ap (λ (x : List Entry). noted (item_of t' e) (tunnel.step t' e).now x) q

pub records : (start : World) (events : List Event) → record_of start events ≡ tunnel_record start.tunnel (tunnel_events start events)
records start [] = refl
records start (e ∷ events) =
    noted_alike (replay start events).tunnel (tunnel.replay start.tunnel (tunnel_events start events)) (tunnel_event (replay start events) e) (record_of start events)
    (tunnel_record start.tunnel (tunnel_events start events)) (runs start events) (records start events)
