-- What an event calls for at a device that took a frame.
use Rattle.std.proofs.Common.{◌≡◌, ◌≢◌, ℕ, suc, ◌+◌, ◌-◌, ◌^◌, ◌==◌, Bool, true, false, ◌&&◌, List, ◌∷◌, Option, Some, None, refl, ap, sym, ◌∙◌, arith, if◌then◌else◌}
use Rattle.std.specs.Prelude.{min}
use Rattle.knx_model.specs.DeviceState.{DeviceState}
use Rattle.knx_model.specs.declared.frames.cemi.Ldata.{Ldata}
use Rattle.line_model.specs.Counts.{frames_taken, takes_alone, takes_one}
use Rattle.line_model.specs.Lines.{closes}
use Rattle.line_model.specs.Owed.{Owed, ConnectionCloses, connection_closes, owed_if}
use Rattle.line_model.specs.StartOf.{line_of}
use Rattle.line_model.specs.World.{World, Event, BusAgain, replay}
use Rattle.line_sim.specs.Line.{LineNow, last_at}
use Rattle.script_index.specs.declared.index.ScriptIndex.{ScriptIndex}
use Rattle.bus_sim.specs.declared.beginning.Beginning.{Beginning}
use Rattle.bus_sim.specs.declared.counts.DeviceCounts.{DeviceCounts}
use Rattle.bus_sim.specs.Begun.{said, start_of}
use Rattle.bus_sim.specs.Counted.{CountsNow, counts_at}
use Rattle.bus_sim.specs.Held.{IsHeld}
use Rattle.bus_sim.proofs.Calls.{where_taken}
use Rattle.bus_sim.proofs.Holds.{run}
use Rattle.bus_sim.proofs.Numbers.{taken_known}

decide : (P : Type 0) (t : Bool) → (t ≡ true → P) → (t ≡ false → P) → P
decide P true this that = this refl
decide P false this that = that refl

same_number : (a b : ℕ) → (a == b) ≡ true → a ≡ b
same_number a b e = grind arith

other_number : (a b : ℕ) → (a == b) ≡ false → a ≢ b
other_number a b e = grind arith

-- a device that takes a frame is there
takes_there : (o : Option DeviceState) (f : Option Ldata) → takes_alone o f ≡ true → o ≢ None
takes_there None f e none = cc
takes_there (Some d) f e none = cc

module _ (b : Beginning) (es : List Event) (index : ScriptIndex) (n : LineNow) (counts : CountsNow) (o : List Owed) (h : IsHeld (run b es) index n counts o) where
  -- it is on the line
  pub on_line : (a : ℕ) (f : Option Ldata) → takes_alone ((replay (start_of b) es).devices a) f ≡ true → line_of a ≡ counts.line
  on_line a f takes = decide (line_of a ≡ counts.line) (line_of a == counts.line) (λ y. same_number _ _ y) (λ x. absurd (takes_there _ f takes (h.placed a (other_number _ _ x))))

  -- where an event brings it a frame that it takes, this is the next one that it took
  pub closes_so : (e : Event) (device : ℕ) (taken : Bool) (k : ℕ) (c : DeviceCounts) (f : Option Ldata) → takes_one device (replay (start_of b) es) e ≡ takes_alone ((replay (start_of b) es).devices device) f → taken ≡ takes_one device (replay (start_of b) es) e
      → k ≡ min (c.taken + 1) (2 ^ 64 - 1) → c ≡ counts_at counts device → owed_if (taken && closes (said b) device k) (ConnectionCloses device) ≡ connection_closes (said b) (start_of b) es e device
  closes_so e device taken k c f comes takes number of_it =
      let on : taken ≡ true → line_of device ≡ counts.line = λ yes_taken. on_line device f (sym comes ∙ sym takes ∙ yes_taken) in
      ap (λ t. owed_if t (ConnectionCloses device)) (where_taken taken (takes_one device (replay (start_of b) es) e) (closes (said b) device) k (frames_taken device (start_of b) (e ∷ es)) takes
      (λ one. number ∙ ap (λ (x : DeviceCounts). min (x.taken + 1) (2 ^ 64 - 1)) of_it ∙ taken_known b es index n counts o h device (on (takes ∙ one)) ∙ sym (ap (λ t. if t then suc (frames_taken device (start_of b) es) else frames_taken device (start_of b) es) one)))

-- of a frame that comes again
pub again_closes : (b : Beginning) (es : List Event) (index : ScriptIndex) (n : LineNow) (counts : CountsNow) (o : List Owed) (h : IsHeld (run b es) index n counts o) (device : ℕ) (taken : Bool) (k : ℕ) (c : DeviceCounts)
    → taken ≡ takes_alone ((replay (start_of b) es).devices device) (last_at (replay (start_of b) es) device) → k ≡ min (c.taken + 1) (2 ^ 64 - 1) → c ≡ counts_at counts device
    → owed_if (taken && closes (said b) device k) (ConnectionCloses device) ≡ connection_closes (said b) (start_of b) es (BusAgain device) device
again_closes b es index n counts o h device taken k c takes number of_it =
    let w : World = replay (start_of b) es in
    let here : takes_one device w (BusAgain device) ≡ takes_alone (w.devices device) (last_at w device) = ap (λ t. takes_alone (w.devices device) (if t then last_at w device else None)) (is_same device device refl) in
    closes_so b es index n counts o h (BusAgain device) device taken k c (last_at w device) here (takes ∙ sym here) number of_it
  where
    is_same : (a b : ℕ) → a ≡ b → (a == b) ≡ true
    is_same a b e = grind arith
