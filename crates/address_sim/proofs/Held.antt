-- What is held of a run after an event.
use Rattle.std.proofs.Common.{◌≡◌, ℕ, suc, ◌+◌, ◌-◌, ◌^◌, ◌<◌, ◌≤◌, Bool, true, false, List, [], ◌∷◌, length, Some, refl, ap, sym, subst, ◌∙◌, arith}
use Rattle.std.specs.List.{AllByRecursion}
use Rattle.line_model.specs.Record.{Item, item_of}
use Rattle.line_model.specs.Tunnel as tunnel
use Rattle.line_model.specs.Tunnel.{Tunnel, TunnelEvent, Commissions, fresh, made}
use Rattle.tunnel_sim.specs.Tunnels.{TunnelNow, IsTunnel}
use Rattle.tunnel_sim.proofs.Counting.{Within, farthest, one_on, step_within}
use Rattle.address_world.specs.declared.unit.Unit.{Unit as BusUnit}
use Rattle.address_world.specs.AddressWorld.{AddressWorld, AddressEvent, UnitState, tunnel_event, units_after, replay}
use Rattle.address_world.specs.AddressLegal.{IsFresh, MayHappen}
use Rattle.address_world.specs.AddressStory.{record_of}
use Rattle.address_sim.specs.declared.units.Units.{Units as HeldUnits}
use Rattle.address_sim.specs.Follows.{IsInPlace, broadcasts, is_broadcast_event, one_more_if, responses, is_response}
use Rattle.address_sim.specs.Held.{IsHeld, IsNumbered}
use Rattle.address_sim.specs.Told.{Begun, start_of}
use Rattle.address_sim.specs.Turns.{is_unseen, Went, Happens, GoesUnseen}
use Rattle.address_sim.specs.Units.{AreUnits, AreCounted}
use Rattle.address_sim.proofs.Seen.{seen_record, unseen_record}

-- ---- numbers

numbered : (events : ℕ) (t : Tunnel) (e : TunnelEvent) → IsNumbered events t → tunnel.MayHappen Commissions t e → IsNumbered (suc events) (tunnel.step t e)
numbered events t e is may =
    let more : Within t (tunnel.step t e) (farthest e + 0) 1 1 1 2 = step_within t e in
    let one : farthest e ≡ 1 = one_on t e may in
    record { endpoints = omega (arith, more.present, one, is.endpoints); channels = omega (arith, more.made, is.channels) }

-- an endpoint and a channel more can be counted
pub can_count : (n : TunnelNow) (t : Tunnel) (events : ℕ) → IsTunnel n t → IsNumbered events t → events < 2 ^ 63 → (n.present < 2 ^ 64 - 1) × (n.gateway.made < 2 ^ 64 - 1)
can_count n t events is numbers few =
    let present : t.present ≡ n.present = is.present in
    let channels : made t ≡ n.gateway.made = is.gateway.made in
    (omega (arith, present, few, numbers.endpoints), omega (arith, channels, few, numbers.channels))

at_most : (b : Bool) (n m : ℕ) → n ≤ m → one_more_if b n ≤ suc m
at_most true n m h = omega (arith, h)
at_most false n m h = omega (arith, h)

pub few_broadcasts : (start : AddressWorld) (events : List AddressEvent) → broadcasts start events ≤ length events
few_broadcasts start [] = omega arith
few_broadcasts start (e ∷ events) = at_most (is_broadcast_event (replay start events) e) (broadcasts start events) (length events) (few_broadcasts start events)

pub few_responses : (place : ℕ) (events : List AddressEvent) → responses place events ≤ length events
few_responses place [] = omega arith
few_responses place (e ∷ events) = at_most (is_response place e) (responses place events) (length events) (few_responses place events)

-- ---- an event

-- what it does to what is held
pub record Changes (b : Begun) (events : List AddressEvent) (e : AddressEvent) (n m : TunnelNow) (v : HeldUnits) (y d : ℕ) : Type 0 where
  pub tunnel : (t : Tunnel) → IsTunnel n t → IsTunnel m (tunnel.step t (tunnel_event (replay (start_of b) events) e))
  pub units : AreUnits v (units_after (replay (start_of b) events) e)
  pub counted : AreCounted v (e ∷ events)
  pub entries : y ≡ length (record_of (start_of b) (e ∷ events))
  pub broadcast : d ≡ broadcasts (start_of b) (e ∷ events)
  pub may : MayHappen (replay (start_of b) events) e
  pub next : IsInPlace b.losses (start_of b) events e

held_now : (b : Begun) (events : List AddressEvent) (n m : TunnelNow) (u v : HeldUnits) (x y bc d : ℕ) (e : AddressEvent) → IsHeld (record { begun = b; events = events }) n u x bc → length events + 1 < 2 ^ 63
    → Changes b events e n m v y d → IsHeld (record { begun = b; events = e ∷ events }) m v y d
held_now b events n m u v x y bc d e held few changes = record {
  tunnel = changes.tunnel (replay (start_of b) events).tunnel held.tunnel;
  units = changes.units;
  counted = changes.counted;
  entries = changes.entries;
  broadcast = changes.broadcast;
  numbered = numbered (length events) (replay (start_of b) events).tunnel (tunnel_event (replay (start_of b) events) e) held.numbered changes.may.tunnel;
  few = omega (arith, few);
  keeps = record { fresh = held.keeps.fresh; legal = (changes.may, held.keeps.legal); follows = (changes.next, held.keeps.follows) };
}

pub held_after : (b : Begun) (old mid new : List AddressEvent) (n m : TunnelNow) (u v : HeldUnits) (x y bc d : ℕ) (e : AddressEvent) → mid ≡ old → new ≡ e ∷ mid → IsHeld (record { begun = b; events = old }) n u x bc → length old + 1 < 2 ^ 63
    → Changes b old e n m v y d → IsHeld (record { begun = b; events = new }) m v y d
held_after b old mid new n m u v x y bc d e same more held few changes =
    subst (λ (es : List AddressEvent). IsHeld (record { begun = b; events = es }) m v y d) (sym (more ∙ ap (λ (es : List AddressEvent). e ∷ es) same)) (held_now b old n m u v x y bc d e held few changes)

-- ---- one of the client's, or time: an entry more

pub one_entry : (start : AddressWorld) (events : List AddressEvent) (e : AddressEvent) (what : Item) (x y : ℕ) → item_of (replay start events).tunnel (tunnel_event (replay start events) e) ≡ Some what
    → x ≡ length (record_of start events) → y ≡ x + 1 → y ≡ length (record_of start (e ∷ events))
one_entry start events e what x y item is more =
    let longer : length (record_of start (e ∷ events)) ≡ suc (length (record_of start events)) = ap length (seen_record start events e what item) in
    omega (arith, longer, is, more)

-- and none of another
pub no_entry : (start : AddressWorld) (events : List AddressEvent) (e : AddressEvent) (x : ℕ) → is_unseen e ≡ true → x ≡ length (record_of start events) → x ≡ length (record_of start (e ∷ events))
no_entry start events e x unseen is = is ∙ sym (ap length (unseen_record start events e unseen))

-- ---- the beginning

nothing_unsent : (units : List BusUnit) → AllByRecursion (λ (u : UnitState). u.unsent ≡ []) (start_of (record { tunnel = record { raw = 0 }; units = units; losses = [] })).units
nothing_unsent [] = tt
nothing_unsent (u ∷ units) = (refl, nothing_unsent units)

pub begins : (b : Begun) → IsFresh (start_of b)
begins b = record { tunnel = refl; nothing_unsent = nothing_unsent b.units }

pub held_first : (b : Begun) (events : List AddressEvent) (n : TunnelNow) (u : HeldUnits) → events ≡ [] → IsTunnel n (fresh b.tunnel) → AreUnits u (start_of b).units → AreCounted u [] → IsHeld (record { begun = b; events = events }) n u 0 0
held_first b events n u none tunnel units counted = subst (λ (es : List AddressEvent). IsHeld (record { begun = b; events = es }) n u 0 0) (sym none) (record {
  tunnel = tunnel;
  units = units;
  counted = counted;
  entries = refl;
  broadcast = refl;
  numbered = record { endpoints = omega arith; channels = omega arith };
  few = omega arith;
  keeps = record { fresh = begins b; legal = tt; follows = tt };
})

-- ---- what is told of it

pub went_so : (b : Begun) (old mid new : List AddressEvent) (room room' : ℕ) (e : AddressEvent) → mid ≡ old → new ≡ e ∷ mid → Went (record { begun = b; events = old; room = room }) e (record { begun = b; events = new; room = room' })
went_so b old mid new room room' e same more = ap (λ (es : List AddressEvent). record { begun = b; events = es }) (more ∙ ap (λ (es : List AddressEvent). e ∷ es) same)

pub happens_so : (b : Begun) (old mid new : List AddressEvent) (room room' : ℕ) (e : AddressEvent) → mid ≡ old → new ≡ e ∷ mid → MayHappen (replay (start_of b) old) e → IsInPlace b.losses (start_of b) old e
    → Happens (record { begun = b; events = old; room = room }) e (record { begun = b; events = new; room = room' })
happens_so b old mid new room room' e same more may next = record { went = went_so b old mid new room room' e same more; right = record { may = may; next = next } }

pub unseen_so : (b : Begun) (old mid new : List AddressEvent) (room room' : ℕ) (e : AddressEvent) → is_unseen e ≡ true → mid ≡ old → new ≡ e ∷ mid → MayHappen (replay (start_of b) old) e → IsInPlace b.losses (start_of b) old e
    → GoesUnseen (record { begun = b; events = old; room = room }) (record { begun = b; events = new; room = room' })
unseen_so b old mid new room room' e unseen same more may next = record { event = e; happens = happens_so b old mid new room room' e same more may next; unseen = unseen }
