-- What an event is to the record and to the time.
use Rattle.std.proofs.Common.{◌≡◌, ℕ, suc, ◌+◌, ◌≤◌, Bool, true, false, List, [], ◌∷◌, length, Option, Some, None, refl, ap, sym, ◌∙◌, arith}
use Rattle.knx_model.specs.declared.frames.cemi.Ldata.{Ldata}
use Rattle.line_model.specs.LinkStory.{newest_time}
use Rattle.line_model.specs.Record.{Item, Entry, entry, item_of, noted}
use Rattle.line_model.specs.Tunnel as tunnel
use Rattle.line_model.specs.Tunnel.{Tunnel, TunnelEvent}
use Rattle.line_model.specs.World.{AtGateway, Comes, IsLost, heard}
use Rattle.tunnel_sim.proofs.Times.{still, tunnel_timeless, tunnel_passes}
use Rattle.address_world.specs.AddressWorld.{AddressWorld, AddressEvent, Send, Renew, Up, UpRefused, Down, LoseUp, LoseDown, Bus, Respond, GwRepeat, GwClose, Pass, carried, next_frame, oldest_at, tunnel_event, tunnel_events, step, replay}
use Rattle.address_world.specs.AddressStory.{record_of}
use Rattle.address_sim.specs.Turns.{is_unseen}

-- ---- the world's tunnel is the tunnel of its events

pub same_tunnel : (start : AddressWorld) (events : List AddressEvent) → tunnel.replay start.tunnel (tunnel_events start events) ≡ (replay start events).tunnel
same_tunnel start [] = refl
same_tunnel start (e ∷ events) = ap (λ (t : Tunnel). tunnel.step t (tunnel_event (replay start events) e)) (same_tunnel start events)

-- ---- the time

abbrev pub is_still : AddressEvent → Bool
is_still (Pass ms) = false
is_still _ = true

carried_still : (w : AddressWorld) (o : Option Ldata) → still (carried w o) ≡ true
carried_still w None = refl
carried_still w (Some frame) = refl

heard_still : (at : AtGateway) (o : Option Ldata) → still (heard at o) ≡ true
heard_still Comes (Some frame) = refl
heard_still Comes None = refl
heard_still IsLost o = refl

event_still : (w : AddressWorld) (e : AddressEvent) → is_still e ≡ true → still (tunnel_event w e) ≡ true
event_still w (Send octets) s = refl
event_still w Renew s = refl
event_still w (Up age) s = refl
event_still w (UpRefused age status) s = refl
event_still w (Down age) s = refl
event_still w (LoseUp age) s = refl
event_still w (LoseDown age) s = refl
event_still w (Bus left_out) s = carried_still w (next_frame w)
event_still w (Respond place at) s = heard_still at (oldest_at place w.units)
event_still w GwRepeat s = refl
event_still w GwClose s = refl
event_still w (Pass ms) s = cc

pub timeless : (w : AddressWorld) (e : AddressEvent) → is_still e ≡ true → (step w e).tunnel.now ≡ w.tunnel.now
timeless w e s = tunnel_timeless w.tunnel (tunnel_event w e) (event_still w e s)

pub passes : (w : AddressWorld) (ms : ℕ) → (step w (Pass ms)).tunnel.now ≡ w.tunnel.now + ms
passes w ms = tunnel_passes w.tunnel ms

unseen_still : (e : AddressEvent) → is_unseen e ≡ true → is_still e ≡ true
unseen_still (Send octets) h = refl
unseen_still Renew h = refl
unseen_still (Up age) h = refl
unseen_still (UpRefused age status) h = refl
unseen_still (Down age) h = refl
unseen_still (LoseUp age) h = refl
unseen_still (LoseDown age) h = refl
unseen_still (Bus left_out) h = refl
unseen_still (Respond place at) h = refl
unseen_still GwRepeat h = refl
unseen_still GwClose h = refl
unseen_still (Pass ms) h = cc

pub unseen_timeless : (w : AddressWorld) (e : AddressEvent) → is_unseen e ≡ true → (step w e).tunnel.now ≡ w.tunnel.now
unseen_timeless w e h = timeless w e (unseen_still e h)

-- ---- the record

carried_unseen : (t : Tunnel) (w : AddressWorld) (o : Option Ldata) → item_of t (carried w o) ≡ None
carried_unseen t w None = refl
carried_unseen t w (Some frame) = refl

heard_unseen : (t : Tunnel) (at : AtGateway) (o : Option Ldata) → item_of t (heard at o) ≡ None
heard_unseen t Comes None = refl
heard_unseen t Comes (Some frame) = refl
heard_unseen t IsLost o = refl

unseen_item : (t : Tunnel) (w : AddressWorld) (e : AddressEvent) → is_unseen e ≡ true → item_of t (tunnel_event w e) ≡ None
unseen_item t w (Send octets) h = cc
unseen_item t w Renew h = cc
unseen_item t w (Up age) h = refl
unseen_item t w (UpRefused age status) h = refl
unseen_item t w (Down age) h = cc
unseen_item t w (LoseUp age) h = refl
unseen_item t w (LoseDown age) h = refl
unseen_item t w (Bus left_out) h = carried_unseen t w (next_frame w)
unseen_item t w (Respond place at) h = heard_unseen t at (oldest_at place w.units)
unseen_item t w GwRepeat h = refl
unseen_item t w GwClose h = refl
unseen_item t w (Pass ms) h = cc

-- what happened unseen is not in the record
pub unseen_record : (start : AddressWorld) (events : List AddressEvent) (e : AddressEvent) → is_unseen e ≡ true → record_of start (e ∷ events) ≡ record_of start events
unseen_record start events e h =
    ap (λ (o : Option Item). noted o (tunnel.replay start.tunnel (tunnel_events start (e ∷ events))).now (record_of start events)) (unseen_item (tunnel.replay start.tunnel (tunnel_events start events)) (replay start events) e h)

now_is : (start : AddressWorld) (events : List AddressEvent) (e : AddressEvent) → (tunnel.replay start.tunnel (tunnel_events start (e ∷ events))).now ≡ (replay start (e ∷ events)).tunnel.now
now_is start events e = ap (λ (t : Tunnel). t.now) (same_tunnel start (e ∷ events))

-- an event of the client, or the time, is its newest entry
pub seen_record : (start : AddressWorld) (events : List AddressEvent) (e : AddressEvent) (what : Item) → item_of (replay start events).tunnel (tunnel_event (replay start events) e) ≡ Some what
    → record_of start (e ∷ events) ≡ entry what (replay start (e ∷ events)).tunnel.now ∷ record_of start events
seen_record start events e what h =
    let item : item_of (tunnel.replay start.tunnel (tunnel_events start events)) (tunnel_event (replay start events) e) ≡ Some what = ap (λ (t : Tunnel). item_of t (tunnel_event (replay start events) e)) (same_tunnel start events) ∙ h in
    ap (λ (o : Option Item). noted o (tunnel.replay start.tunnel (tunnel_events start (e ∷ events))).now (record_of start events)) item
    ∙ ap (λ (n : ℕ). entry what n ∷ record_of start events) (now_is start events e)

-- ---- the newest entry has the time that it is

item_or_none : (o : Option Item) (now time : ℕ) (r : List Entry) → (o ≡ None → now ≡ time) → newest_time r ≡ time → newest_time (noted o now r) ≡ now
item_or_none None now time r same h = h ∙ sym (same refl)
item_or_none (Some what) now time r same h = refl

still_unseen : (t : Tunnel) (w : AddressWorld) (e : AddressEvent) → item_of t (tunnel_event w e) ≡ None → is_still e ≡ true
still_unseen t w (Send octets) h = refl
still_unseen t w Renew h = refl
still_unseen t w (Up age) h = refl
still_unseen t w (UpRefused age status) h = refl
still_unseen t w (Down age) h = refl
still_unseen t w (LoseUp age) h = refl
still_unseen t w (LoseDown age) h = refl
still_unseen t w (Bus left_out) h = refl
still_unseen t w (Respond place at) h = refl
still_unseen t w GwRepeat h = refl
still_unseen t w GwClose h = refl
still_unseen t w (Pass ms) h = cc

pub newest : (start : AddressWorld) (events : List AddressEvent) → start.tunnel.now ≡ 0 → newest_time (record_of start events) ≡ (replay start events).tunnel.now
newest start [] zero = sym zero
newest start (e ∷ events) zero =
    let t : Tunnel = tunnel.replay start.tunnel (tunnel_events start events) in
    let now : ℕ = (tunnel.replay start.tunnel (tunnel_events start (e ∷ events))).now in
    item_or_none (item_of t (tunnel_event (replay start events) e)) now (replay start events).tunnel.now (record_of start events)
    (λ none. now_is start events e ∙ timeless (replay start events) e (still_unseen t (replay start events) e none)) (newest start events zero) ∙ now_is start events e

-- ---- how long it is

noted_length : (o : Option Item) (now : ℕ) (r : List Entry) (n : ℕ) → length r ≤ n → length (noted o now r) ≤ suc n
noted_length None now r n h = omega (arith, h)
noted_length (Some what) now r n h = omega (arith, h)

pub no_longer : (start : AddressWorld) (events : List AddressEvent) → length (record_of start events) ≤ length events
no_longer start [] = omega arith
no_longer start (e ∷ events) =
    noted_length (item_of (tunnel.replay start.tunnel (tunnel_events start events)) (tunnel_event (replay start events) e)) (tunnel.replay start.tunnel (tunnel_events start (e ∷ events))).now (record_of start events) (length events)
    (no_longer start events)
