-- A frame of the client goes over the bus: what is counted of it.
use Rattle.std.proofs.Common.{◌≡◌, ◌≢◌, ℕ, ◌==◌, Bool, true, false, not, ◌&&◌, is_some, List, [], Option, Some, None, refl, ap, sym, ◌∙◌, arith, if◌then◌else◌}
use Rattle.knx_model.specs.declared.device.Took.TheVariants.{NotMine, TooLong, Taken, Off}
use Rattle.knx_model.specs.declared.frames.cemi.Ldata.{Ldata}
use Rattle.knx_model.specs.Device.{Effect, Nothing, is_write}
use Rattle.knx_model.specs.DeviceFrames.{connection_took, effect_delivered, effect_of_frame, is_taken, is_too_long, took_of, would_write, write_kind}
use Rattle.knx_model.specs.DeviceState.{DeviceState}
use Rattle.line_model.specs.Arrives.{is_for, only_for}
use Rattle.line_model.specs.Counts.{takes_alone, write_of}
use Rattle.line_model.specs.World.{World, Bus, BusTorn, BusWorn, is_among, next_frame}
use Rattle.bus_sim.proofs.Counting.{Counts, takes_nothing, writes_nothing}

alike : (a d : ℕ) → (d == a) ≡ (a == d)
alike a d = grind arith

same_number : (a b : ℕ) → (a == b) ≡ true → a ≡ b
same_number a b e = grind arith

other_number : (a b : ℕ) → (a == b) ≡ false → a ≢ b
other_number a b e = grind arith

is_other : (a b : ℕ) → a ≢ b → (a == b) ≡ false
is_other a b e = grind arith

and_false : (s : Bool) → (s && false) ≡ false
and_false true = refl
and_false false = refl

-- ---- who takes it

-- each device has the address at which it is
abbrev pub AreNamed : World → Type 0
AreNamed w = (a : ℕ) (d : DeviceState) → w.devices a ≡ Some d → d.address.raw ≡ a

not_taken : (d : DeviceState) (frame : Ldata) → (frame.destination == d.address.raw) ≡ false → (not frame.group && is_taken (took_of d frame)) ≡ false
not_taken d frame other = by_tests d.power frame.group
  where
    by_tests : (p g : Bool) → (not g && is_taken (if not p then Off else (if not g && not (frame.destination == d.address.raw) then NotMine else (if is_too_long d.frames frame then TooLong else Taken)))) ≡ false
    by_tests p true = refl
    by_tests false false = refl
    by_tests true false = ap (λ t. is_taken (if not t then NotMine else (if is_too_long d.frames frame then TooLong else Taken))) other

nothing_written : (d : DeviceState) → is_some (if is_write d.kept Nothing then write_kind Nothing else None) ≡ false
nothing_written d = by_test (is_write d.kept Nothing)
  where
    by_test : (t : Bool) → is_some (if t then write_kind Nothing else None) ≡ false
    by_test true = refl
    by_test false = refl

and_turned : (s t : Bool) → (s && t) ≡ (t && s)
and_turned true true = refl
and_turned true false = refl
and_turned false true = refl
and_turned false false = refl

-- what isn't taken alone isn't written
not_written : (d : DeviceState) (frame : Ldata) → (not frame.group && is_taken (took_of d frame)) ≡ false → is_some (would_write d frame) ≡ false
not_written d frame none =
    let nothing : effect_of_frame d frame ≡ Nothing = ap (λ (t : Bool). if t then effect_delivered (connection_took d frame) else Nothing) (and_turned (is_taken (took_of d frame)) (not frame.group) ∙ none) in
    ap (λ (x : Effect). is_some (if is_write d.kept x then write_kind x else None)) nothing ∙ nothing_written d

others_take_nothing : (o : Option DeviceState) (a : ℕ) (frame : Ldata) → ((d : DeviceState) → o ≡ Some d → d.address.raw ≡ a) → (a == frame.destination) ≡ false → takes_alone o (Some frame) ≡ false
others_take_nothing None a frame named other = refl
others_take_nothing (Some d) a frame named other = not_taken d frame (is_other _ _ (λ same. other_number a frame.destination other (sym (same ∙ named d refl))))

others_write_nothing : (o : Option DeviceState) (a : ℕ) (frame : Ldata) → ((d : DeviceState) → o ≡ Some d → d.address.raw ≡ a) → (a == frame.destination) ≡ false → is_some (write_of o (Some frame)) ≡ false
others_write_nothing None a frame named other = refl
others_write_nothing (Some d) a frame named other = not_written d frame (not_taken d frame (is_other _ _ (λ same. other_number a frame.destination other (sym (same ∙ named d refl)))))

-- a frame to a group is nobody's alone
pub group_taken : (o : Option DeviceState) (frame : Ldata) → frame.group ≡ true → takes_alone o (Some frame) ≡ false
group_taken None frame e = refl
group_taken (Some d) frame e = ap (λ t. not t && is_taken (took_of d frame)) e

pub group_written : (o : Option DeviceState) (frame : Ldata) → frame.group ≡ true → is_some (write_of o (Some frame)) ≡ false
group_written None frame e = refl
group_written (Some d) frame e = not_written d frame (ap (λ t. not t && is_taken (took_of d frame)) e)

-- ---- the counts

abbrev pub comes : List ℕ → Ldata → Bool
comes left_out frame = not frame.group && not (is_among left_out frame.destination)

module _ (w : World) (left_out : List ℕ) (frame : Ldata) (due : Some frame ≡ next_frame w) (named : AreNamed w) where
  pub to_at : (a : ℕ) → is_for a (next_frame w) ≡ (if a == frame.destination then not frame.group else false)
  to_at a = sym (ap (is_for a) due) ∙ by_test (frame.destination == a) (a == frame.destination) refl refl
    where
      by_test : (s t : Bool) → (frame.destination == a) ≡ s → (a == frame.destination) ≡ t → (not frame.group && s) ≡ (if t then not frame.group else false)
      by_test true true e f = and_turned (not frame.group) true
      by_test false false e f = and_false (not frame.group)
      by_test true false e f = let h = alike a frame.destination in cc
      by_test false true e f = let h = alike a frame.destination in cc

  pub taken_at : (a : ℕ) → takes_alone (w.devices a) (if is_among left_out a then None else next_frame w) ≡ (if a == frame.destination then comes left_out frame && takes_alone (w.devices frame.destination) (Some frame) else false)
  taken_at a = by_here (a == frame.destination) refl
    where
      here : (g l : Bool) → frame.group ≡ g → takes_alone (w.devices frame.destination) (if l then None else next_frame w) ≡ ((not g && not l) && takes_alone (w.devices frame.destination) (Some frame))
      here true true e = takes_nothing (w.devices frame.destination)
      here false true e = takes_nothing (w.devices frame.destination)
      here true false e = sym (ap (takes_alone (w.devices frame.destination)) due) ∙ group_taken (w.devices frame.destination) frame e
      here false false e = sym (ap (takes_alone (w.devices frame.destination)) due)

      away : (l : Bool) → (a == frame.destination) ≡ false → takes_alone (w.devices a) (if l then None else next_frame w) ≡ false
      away true other = takes_nothing (w.devices a)
      away false other = sym (ap (takes_alone (w.devices a)) due) ∙ others_take_nothing (w.devices a) a frame (named a) other

      by_here : (t : Bool) → (a == frame.destination) ≡ t → takes_alone (w.devices a) (if is_among left_out a then None else next_frame w) ≡ (if t then comes left_out frame && takes_alone (w.devices frame.destination) (Some frame) else false)
      by_here true e = ap (λ k. takes_alone (w.devices k) (if is_among left_out k then None else next_frame w)) (same_number a frame.destination e) ∙ here frame.group (is_among left_out frame.destination) refl
      by_here false e = away (is_among left_out a) e

  pub wrote_at : (a : ℕ) → is_some (write_of (w.devices a) (if is_among left_out a then None else next_frame w)) ≡ (if a == frame.destination then comes left_out frame && is_some (write_of (w.devices frame.destination) (Some frame)) else false)
  wrote_at a = by_here (a == frame.destination) refl
    where
      here : (g l : Bool) → frame.group ≡ g → is_some (write_of (w.devices frame.destination) (if l then None else next_frame w)) ≡ ((not g && not l) && is_some (write_of (w.devices frame.destination) (Some frame)))
      here true true e = writes_nothing (w.devices frame.destination)
      here false true e = writes_nothing (w.devices frame.destination)
      here true false e = sym (ap (λ f. is_some (write_of (w.devices frame.destination) f)) due) ∙ group_written (w.devices frame.destination) frame e
      here false false e = sym (ap (λ f. is_some (write_of (w.devices frame.destination) f)) due)

      away : (l : Bool) → (a == frame.destination) ≡ false → is_some (write_of (w.devices a) (if l then None else next_frame w)) ≡ false
      away true other = writes_nothing (w.devices a)
      away false other = sym (ap (λ f. is_some (write_of (w.devices a) f)) due) ∙ others_write_nothing (w.devices a) a frame (named a) other

      by_here : (t : Bool) → (a == frame.destination) ≡ t
          → is_some (write_of (w.devices a) (if is_among left_out a then None else next_frame w)) ≡ (if t then comes left_out frame && is_some (write_of (w.devices frame.destination) (Some frame)) else false)
      by_here true e = ap (λ k. is_some (write_of (w.devices k) (if is_among left_out k then None else next_frame w))) (same_number a frame.destination e) ∙ here frame.group (is_among left_out frame.destination) refl
      by_here false e = away (is_among left_out a) e

  -- torn and worn, it comes to the device that it is for alone
  pub alone_taken_at : (a : ℕ) → frame.group ≡ false → takes_alone (w.devices a) (only_for a (next_frame w)) ≡ (if a == frame.destination then takes_alone (w.devices frame.destination) (Some frame) else false)
  alone_taken_at a alone = ap (λ t. takes_alone (w.devices a) (if t then next_frame w else None)) (to_at a ∙ ap (λ t. if a == frame.destination then not t else false) alone) ∙ by_here (a == frame.destination) refl
    where
      by_here : (t : Bool) → (a == frame.destination) ≡ t → takes_alone (w.devices a) (if (if t then true else false) then next_frame w else None) ≡ (if t then takes_alone (w.devices frame.destination) (Some frame) else false)
      by_here true e = sym (ap (takes_alone (w.devices a)) due) ∙ ap (λ k. takes_alone (w.devices k) (Some frame)) (same_number a frame.destination e)
      by_here false e = takes_nothing (w.devices a)

  pub alone_wrote_at : (a : ℕ) → frame.group ≡ false → is_some (write_of (w.devices a) (only_for a (next_frame w))) ≡ (if a == frame.destination then is_some (write_of (w.devices frame.destination) (Some frame)) else false)
  alone_wrote_at a alone = ap (λ t. is_some (write_of (w.devices a) (if t then next_frame w else None))) (to_at a ∙ ap (λ t. if a == frame.destination then not t else false) alone) ∙ by_here (a == frame.destination) refl
    where
      by_here : (t : Bool) → (a == frame.destination) ≡ t → is_some (write_of (w.devices a) (if (if t then true else false) then next_frame w else None)) ≡ (if t then is_some (write_of (w.devices frame.destination) (Some frame)) else false)
      by_here true e = sym (ap (λ f. is_some (write_of (w.devices a) f)) due) ∙ ap (λ k. is_some (write_of (w.devices k) (Some frame))) (same_number a frame.destination e)
      by_here false e = writes_nothing (w.devices a)

none_from : (t : Bool) → false ≡ (if t then false else false)
none_from true = refl
none_from false = refl

-- it goes whole
pub bus_one : (w : World) (left_out : List ℕ) (frame : Ldata) (taken wrote : Bool) → Some frame ≡ next_frame w → AreNamed w → taken ≡ (comes left_out frame && takes_alone (w.devices frame.destination) (Some frame))
    → wrote ≡ (comes left_out frame && is_some (write_of (w.devices frame.destination) (Some frame))) → Counts w (Bus left_out) frame.destination (record { to = not frame.group; from = false; taken = taken; wrote = wrote })
bus_one w left_out frame taken wrote due named takes writes = record {
  to = to_at w left_out frame due named;
  from = λ a. none_from (a == frame.destination);
  taken = λ a. taken_at w left_out frame due named a ∙ ap (λ t. if a == frame.destination then t else false) (sym takes);
  wrote = λ a. wrote_at w left_out frame due named a ∙ ap (λ t. if a == frame.destination then t else false) (sym writes);
  connect = refl;
}

-- a frame that is a write is for one device, which takes it
pub record IsWritten (w : World) (frame : Ldata) : Type 0 where
  pub alone : frame.group ≡ false
  pub taken : takes_alone (w.devices frame.destination) (Some frame) ≡ true
  pub written : is_some (write_of (w.devices frame.destination) (Some frame)) ≡ true

pub is_written : (w : World) (frame : Ldata) → is_some (write_of (w.devices frame.destination) (Some frame)) ≡ true → IsWritten w frame
is_written w frame e = record { alone = alone frame.group refl; taken = by_device (w.devices frame.destination) e; written = e }
  where
    alone : (g : Bool) → frame.group ≡ g → frame.group ≡ false
    alone false h = h
    alone true h = let none = group_written (w.devices frame.destination) frame h in cc

    by_device : (o : Option DeviceState) → is_some (write_of o (Some frame)) ≡ true → takes_alone o (Some frame) ≡ true
    by_device None h = cc
    by_device (Some d) h = by_taken (not frame.group && is_taken (took_of d frame)) refl
      where
        by_taken : (t : Bool) → (not frame.group && is_taken (took_of d frame)) ≡ t → (not frame.group && is_taken (took_of d frame)) ≡ true
        by_taken true k = k
        by_taken false k = let none = not_written d frame k in cc

pub torn_one : (w : World) (frame : Ldata) (fresh : Bool) (octets : List ℕ) → Some frame ≡ next_frame w → AreNamed w → IsWritten w frame → Counts w (BusTorn fresh octets) frame.destination (record { to = true; from = false; taken = true; wrote = true })
torn_one w frame fresh octets due named is = record {
  to = λ a. to_at w [] frame due named a ∙ ap (λ t. if a == frame.destination then not t else false) is.alone;
  from = λ a. none_from (a == frame.destination);
  taken = λ a. alone_taken_at w [] frame due named a is.alone ∙ ap (λ t. if a == frame.destination then t else false) is.taken;
  wrote = λ a. alone_wrote_at w [] frame due named a is.alone ∙ ap (λ t. if a == frame.destination then t else false) is.written;
  connect = refl;
}

pub worn_one : (w : World) (frame : Ldata) (octets : List ℕ) → Some frame ≡ next_frame w → AreNamed w → IsWritten w frame → Counts w (BusWorn octets) frame.destination (record { to = true; from = false; taken = true; wrote = true })
worn_one w frame octets due named is = record {
  to = λ a. to_at w [] frame due named a ∙ ap (λ t. if a == frame.destination then not t else false) is.alone;
  from = λ a. none_from (a == frame.destination);
  taken = λ a. alone_taken_at w [] frame due named a is.alone ∙ ap (λ t. if a == frame.destination then t else false) is.taken;
  wrote = λ a. alone_wrote_at w [] frame due named a is.alone ∙ ap (λ t. if a == frame.destination then t else false) is.written;
  connect = refl;
}
