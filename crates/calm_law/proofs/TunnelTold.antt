-- The first connect response that opens a channel tells the gateway's own tunnel address, whatever is lost, repeated or late.
use Rattle.std.proofs.Common.{◌≡◌, ℕ, List, [], ◌∷◌, Option, Some, None, refl}
use Rattle.std.specs.Prelude.{IfSome}
use Rattle.knx_model.specs.declared.address.IndAddr.{IndAddr}
use Rattle.line_model.specs.ClientView.{ClientChannel, Sought, Open, channel}
use Rattle.line_model.specs.Faults.{opens, or_newer, first_tunnel}
use Rattle.line_model.specs.Fresh.{IsFresh}
use Rattle.line_model.specs.Legal.{IsLegal}
use Rattle.line_model.specs.Reading.{tunnel_told}
use Rattle.line_model.specs.Record.{Item, Entry, entry, got_in, item_at, noted, record_of}
use Rattle.line_model.specs.Tunnel.{Commissions}
use Rattle.line_model.specs.World.{World, Event, me, now, replay, step, tunnel_event}
use Rattle.line_law.proofs.Arrivals.{Arrives, arrives}
use Rattle.line_law.proofs.OwnAddress.{IsOwn, told_own, item_own}

module _ (own : IndAddr) where
  opens_own : (before next : ClientChannel) (x : Entry) → IsOwn own (tunnel_told (got_in x.what)) → IsOwn own (opens before next x)
  opens_own (Sought since) (Open c l) x h = h
  opens_own before next x h = tt

  newer_own : (older newer : Option IndAddr) → IsOwn own older → IsOwn own newer → IsOwn own (or_newer older newer)
  newer_own (Some a) newer h k = h
  newer_own None newer h k = k

  noted_own : (o : Option Item) (now : ℕ) (r : List Entry) → ((what : Item) → o ≡ Some what → IsOwn own (tunnel_told (got_in what))) → IsOwn own (first_tunnel r) → IsOwn own (first_tunnel (noted o now r))
  noted_own None now r h k = k
  noted_own (Some what) now r h k =
      let x : Entry = entry what now in
      newer_own (first_tunnel r) (opens (channel r) (channel (x ∷ r)) x) k (opens_own (channel r) (channel (x ∷ r)) x (h what refl))

pub tunnel_is_told : (start : World) (events : List Event) → IsFresh start → IsLegal Commissions start events → IfSome (first_tunnel (record_of start events)) (λ tunnel. tunnel ≡ me start)
tunnel_is_told start [] f l = tt
tunnel_is_told start (e ∷ events) f l =
    let w : World = replay start events in
    let a : Arrives (me start) w (record_of start events) = arrives start events f l.1 in
    noted_own (me start) (item_at w e) (now (step w e)) (record_of start events) (λ what is. told_own (me start) (got_in what) (item_own (me start) w.tunnel (tunnel_event w e) a.tunnel what is)) (tunnel_is_told start events f l.1)
