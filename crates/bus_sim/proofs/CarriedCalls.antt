-- A frame of the client goes over the bus: what it calls for.
use Rattle.std.proofs.Common.{◌≡◌, ℕ, suc, ◌+◌, ◌-◌, ◌^◌, ◌==◌, Bool, true, false, not, ◌&&◌, List, [], ◌∷◌, ◌++◌, Option, Some, None, refl, ap, sym, ◌∙◌, arith, if◌then◌else◌}
use Rattle.std.specs.Prelude.{min}
use Rattle.knx_model.specs.declared.frames.cemi.Ldata.{Ldata}
use Rattle.line_model.specs.Arrives.{is_for, only_for}
use Rattle.line_model.specs.Counts.{carried_at, frames_to, goes_to, takes_alone, takes_one}
use Rattle.line_model.specs.Lines.{closes, repeats_to}
use Rattle.line_model.specs.Owed.{Owed, BringAgain, ConnectionCloses, caused, connection_closes, frame_again, owed_if, owed_of_carried, power_returns}
use Rattle.line_model.specs.World.{World, Event, Bus, is_among, next_frame, replay}
use Rattle.line_sim.specs.Line.{LineNow}
use Rattle.script_index.specs.declared.index.ScriptIndex.{ScriptIndex}
use Rattle.bus_sim.specs.declared.beginning.Beginning.{Beginning}
use Rattle.bus_sim.specs.declared.counts.DeviceCounts.{DeviceCounts}
use Rattle.bus_sim.specs.Begun.{said, start_of}
use Rattle.bus_sim.specs.Counted.{CountsNow, counts_at}
use Rattle.bus_sim.specs.Held.{IsHeld}
use Rattle.bus_sim.proofs.AtDevices.{closes_so, on_line}
use Rattle.bus_sim.proofs.Calls.{where_taken}
use Rattle.bus_sim.proofs.Holds.{run}
use Rattle.bus_sim.proofs.Numbers.{to_known}
use Rattle.bus_sim.proofs.Carried.{AreNamed, group_taken, comes, taken_at, IsWritten}

module _ (b : Beginning) (es : List Event) (index : ScriptIndex) (n : LineNow) (counts : CountsNow) (o : List Owed) (h : IsHeld (run b es) index n counts o) where
  -- where an event brings a device a frame that it takes, this is the next one for it
  pub again_so : (e : Event) (device : ℕ) (taken : Bool) (k : ℕ) (c : DeviceCounts) (f : Option Ldata) → takes_one device (replay (start_of b) es) e ≡ takes_alone ((replay (start_of b) es).devices device) f → taken ≡ takes_one device (replay (start_of b) es) e
      → (takes_one device (replay (start_of b) es) e ≡ true → goes_to device (replay (start_of b) es) e ≡ true) → k ≡ min (c.to + 1) (2 ^ 64 - 1) → c ≡ counts_at counts device
      → owed_if (taken && repeats_to (said b) device k) (BringAgain device) ≡ frame_again (said b) (start_of b) es e device
  again_so e device taken k c f comes takes goes number of_it =
      ap (λ t. owed_if t (BringAgain device)) (where_taken taken (takes_one device (replay (start_of b) es) e) (repeats_to (said b) device) k (frames_to device (start_of b) (e ∷ es)) takes
      (λ one. number ∙ ap (λ (x : DeviceCounts). min (x.to + 1) (2 ^ 64 - 1)) of_it ∙ to_known b es index n counts o h device (on_line b es index n counts o h device f (sym comes ∙ one))
      ∙ sym (ap (λ t. if t then suc (frames_to device (start_of b) es) else frames_to device (start_of b) es) (goes one))))

  -- a frame that isn't lost for its device
  module _ (frame : Ldata) (due : Some frame ≡ next_frame (replay (start_of b) es)) where
    -- what a frame that goes over the bus calls for
    alone_calls : (e : Event) (before first second : List Owed) → carried_at (replay (start_of b) es) e ≡ Some frame → frame.group ≡ false → before ≡ power_returns e frame.destination → first ≡ frame_again (said b) (start_of b) es e frame.destination
        → second ≡ connection_closes (said b) (start_of b) es e frame.destination → (before ++ first) ++ second ≡ owed_of_carried (said b) (start_of b) es e (carried_at (replay (start_of b) es) e)
    alone_calls e before first second goes alone power again close =
        ap (λ x. (x ++ first) ++ second) power ∙ ap (λ x. (power_returns e frame.destination ++ x) ++ second) again ∙ ap (λ x. (power_returns e frame.destination ++ frame_again (said b) (start_of b) es e frame.destination) ++ x) close
        ∙ sym (ap (λ t. if t then [] else power_returns e frame.destination ++ frame_again (said b) (start_of b) es e frame.destination ++ connection_closes (said b) (start_of b) es e frame.destination) alone)
        ∙ sym (ap (owed_of_carried (said b) (start_of b) es e) goes)

    group_calls : (e : Event) → carried_at (replay (start_of b) es) e ≡ Some frame → frame.group ≡ true → [] ≡ owed_of_carried (said b) (start_of b) es e (carried_at (replay (start_of b) es) e)
    group_calls e goes group =
        sym (ap (λ t. if t then [] else power_returns e frame.destination ++ frame_again (said b) (start_of b) es e frame.destination ++ connection_closes (said b) (start_of b) es e frame.destination) group)
        ∙ sym (ap (owed_of_carried (said b) (start_of b) es e) goes)

    -- for whichever device it goes, it goes to that one
    goes_there : (a : ℕ) → takes_alone ((replay (start_of b) es).devices a) (Some frame) ≡ true → a ≡ frame.destination → is_for a (Some frame) ≡ true
    goes_there a takes same = by_group frame.group refl
      where
        met : (x y : ℕ) → x ≡ y → (y == x) ≡ true
        met x y e = grind arith

        by_group : (g : Bool) → frame.group ≡ g → (not frame.group && (frame.destination == a)) ≡ true
        by_group false e = ap (λ t. not t && (frame.destination == a)) e ∙ met a frame.destination same
        by_group true e = let none = group_taken ((replay (start_of b) es).devices a) frame e in cc

    pub bus_calls : (left_out : List ℕ) (taken : Bool) (k m : ℕ) (c : DeviceCounts) → AreNamed (replay (start_of b) es) → taken ≡ (comes left_out frame && takes_alone ((replay (start_of b) es).devices frame.destination) (Some frame))
        → k ≡ min (c.to + 1) (2 ^ 64 - 1) → m ≡ min (c.taken + 1) (2 ^ 64 - 1) → c ≡ counts_at counts frame.destination
        → owed_if (taken && repeats_to (said b) frame.destination k) (BringAgain frame.destination) ++ owed_if (taken && closes (said b) frame.destination m) (ConnectionCloses frame.destination) ≡ caused (said b) (start_of b) es (Bus left_out)
    bus_calls left_out taken k m c named takes number other of_it = by_group frame.group refl
      where
        w : World
        w = replay (start_of b) es

        e : Event
        e = Bus left_out

        is_self : (a : ℕ) → (a == a) ≡ true
        is_self a = grind arith

        one : takes_one frame.destination w e ≡ (comes left_out frame && takes_alone (w.devices frame.destination) (Some frame))
        one = taken_at w left_out frame due named frame.destination ∙ ap (λ t. if t then comes left_out frame && takes_alone (w.devices frame.destination) (Some frame) else false) (is_self frame.destination)

        both : (s t : Bool) → (s && t) ≡ true → t ≡ true
        both true t h = h
        both false t h = cc

        goes : takes_one frame.destination w e ≡ true → goes_to frame.destination w e ≡ true
        goes so = sym (ap (is_for frame.destination) due) ∙ goes_there frame.destination (both (comes left_out frame) _ (sym one ∙ so)) refl

        by_group : (g : Bool) → frame.group ≡ g
            → owed_if (taken && repeats_to (said b) frame.destination k) (BringAgain frame.destination) ++ owed_if (taken && closes (said b) frame.destination m) (ConnectionCloses frame.destination) ≡ caused (said b) (start_of b) es (Bus left_out)
        by_group false alone = alone_calls e [] _ _ (sym due) alone refl
            (again_so e frame.destination taken k c (if is_among left_out frame.destination then None else next_frame w) refl (takes ∙ sym one) goes number of_it)
            (closes_so b es index n counts o h e frame.destination taken m c (if is_among left_out frame.destination then None else next_frame w) refl (takes ∙ sym one) other of_it)
        by_group true group =
            let nobody : taken ≡ false = takes ∙ ap (λ t. (not t && not (is_among left_out frame.destination)) && takes_alone (w.devices frame.destination) (Some frame)) group in
            ap (λ t. owed_if (t && repeats_to (said b) frame.destination k) (BringAgain frame.destination) ++ owed_if (t && closes (said b) frame.destination m) (ConnectionCloses frame.destination)) nobody ∙ group_calls e (sym due) group

    -- torn and worn writes are taken
    pub write_calls : (e : Event) (before : List Owed) (k m : ℕ) (c : DeviceCounts) → carried_at (replay (start_of b) es) e ≡ Some frame → before ≡ power_returns e frame.destination → takes_one frame.destination (replay (start_of b) es) e ≡ takes_alone ((replay (start_of b) es).devices frame.destination) (only_for frame.destination (next_frame (replay (start_of b) es)))
        → IsWritten (replay (start_of b) es) frame → k ≡ min (c.to + 1) (2 ^ 64 - 1) → m ≡ min (c.taken + 1) (2 ^ 64 - 1) → c ≡ counts_at counts frame.destination
        → (before ++ owed_if (true && repeats_to (said b) frame.destination k) (BringAgain frame.destination)) ++ owed_if (true && closes (said b) frame.destination m) (ConnectionCloses frame.destination)
        ≡ owed_of_carried (said b) (start_of b) es e (carried_at (replay (start_of b) es) e)
    write_calls e before k m c goes power comes_so is number other of_it =
        let w : World = replay (start_of b) es in
        let its : is_for frame.destination (Some frame) ≡ true = goes_there frame.destination is.taken refl in
        let comes : only_for frame.destination (next_frame w) ≡ Some frame = sym (ap (only_for frame.destination) due) ∙ ap (λ t. if t then Some frame else None) its in
        let one : takes_one frame.destination w e ≡ true = comes_so ∙ ap (takes_alone (w.devices frame.destination)) comes ∙ is.taken in
        let there : goes_to frame.destination w e ≡ true = ap (is_for frame.destination) goes ∙ its in
        alone_calls e before _ _ goes is.alone power
        (again_so e frame.destination true k c (only_for frame.destination (next_frame w)) comes_so (sym one) (λ so. there) number of_it)
        (closes_so b es index n counts o h e frame.destination true m c (only_for frame.destination (next_frame w)) comes_so (sym one) other of_it)
