-- After a torn write power returns, at once: what is held of a run then.
use Rattle.std.proofs.Common.{◌≡◌, ℕ, ◌+◌, ◌^◌, ◌<◌, inr, Bool, List, [], ◌∷◌, ◌++◌, length, drop, Some, None, refl, ap, sym, subst, ◌∙◌, arith}
use Rattle.std.specs.List.{filter}
use Rattle.knx_model.specs.declared.frames.cemi.Ldata.{Ldata}
use Rattle.knx_model.specs.DeviceFrames.{Torn}
use Rattle.line_model.specs.Follows.{IsNext}
use Rattle.line_model.specs.Legal.{MayHappen}
use Rattle.line_model.specs.Owed.{Owed, PowerReturns, caused, is_possible}
use Rattle.line_model.specs.Tunnel.{Mode}
use Rattle.line_model.specs.World.{World, Event, BusTorn, On, next_frame, replay, step}
use Rattle.line_sim.specs.Line.{LineNow, IsNow, AreCounted}
use Rattle.script_index.specs.declared.index.ScriptIndex.{ScriptIndex}
use Rattle.bus_sim.specs.declared.beginning.Beginning.{Beginning}
use Rattle.bus_sim.specs.Begun.{mode_in, said, start_of}
use Rattle.bus_sim.specs.Counted.{CountsNow, AreCounts}
use Rattle.bus_sim.specs.Held.{IsHeld}
use Rattle.bus_sim.specs.Owing.{first_of}
use Rattle.bus_sim.specs.RunNow.{IsRight, NothingCalled, owed_in}
use Rattle.bus_sim.proofs.CalledFor.{some_no}
use Rattle.bus_sim.proofs.Counting.{uncounted, takes_nothing, writes_nothing}
use Rattle.bus_sim.proofs.Holds.{after_own, run}
use Rattle.bus_sim.proofs.Meets.{is_there}
use Rattle.bus_sim.proofs.Modes.{elsewhere}
use Rattle.bus_sim.proofs.Owes.{goes_there}
use Rattle.bus_sim.proofs.Owings.{and_nothing}
use Rattle.bus_sim.proofs.Presence.{presence}

-- the device that took it torn is there
pub may_return : (mode : Mode) (w : World) (frame : Ldata) (fresh : Bool) (octets : List ℕ) → Some frame ≡ next_frame w → MayHappen mode w (BusTorn fresh octets) → MayHappen mode (step w (BusTorn fresh octets)) (On frame.destination)
may_return mode w frame fresh octets due may = record {
  tunnel = elsewhere mode (step w (BusTorn fresh octets)).tunnel;
  devices = is_there ((step w (BusTorn fresh octets)).devices frame.destination) (presence w (BusTorn fresh octets) frame.destination ∙ goes_there w (Torn fresh octets) (next_frame w) frame may.devices (sym due));
}

none_called : (l : List Owed) → first_of l ≡ None → l ≡ []
none_called [] e = refl
none_called (x ∷ l) e = absurd (some_no e)

-- it comes before what else the write calls for
power_before : (mode : Mode) (w : World) (device : ℕ) (o l cs : List Owed) → o ≡ [] → l ≡ filter (is_possible mode w) (drop 1 o ++ cs) → PowerReturns device ∷ l ≡ filter (is_possible mode w) (drop 1 o ++ PowerReturns device ∷ cs)
power_before mode w device o l cs none e =
    ap (λ x. PowerReturns device ∷ x) (e ∙ ap (λ x. filter (is_possible mode w) (drop 1 x ++ cs)) none) ∙ sym (ap (λ x. filter (is_possible mode w) (drop 1 x ++ PowerReturns device ∷ cs)) none)

module _ (b : Beginning) (es es0 es1 es2 : List Event) (index : ScriptIndex) (n m k : LineNow) (counts counts' : CountsNow) (o o0 o1 o2 cs : List Owed) (frame : Ldata) (fresh : Bool) (octets : List ℕ) where
  abbrev torn : Event
  torn = BusTorn fresh octets

  pub after_torn : IsHeld (run b es) index n counts o → ((w : World) → IsNow n w → IsNow m (step w torn)) → ((w : World) → IsNow m w → IsNow k (step w (On frame.destination))) → Some frame ≡ next_frame (replay (start_of b) es)
      → IsRight (run b es) torn → NothingCalled (run b es) → es0 ≡ es → es1 ≡ torn ∷ es0 → es2 ≡ On frame.destination ∷ es1 → length es + 2 < 2 ^ 63
      → o0 ≡ o → ((w : World) → IsNow m w → AreCounted w → o1 ≡ filter (is_possible (mode_in b) w) (drop 1 o0 ++ cs)) → ((w : World) → IsNow k w → AreCounted w → o2 ≡ filter (is_possible (mode_in b) w) o1)
      → PowerReturns frame.destination ∷ cs ≡ caused (said b) (start_of b) es torn → AreCounts counts' (start_of b) (torn ∷ es) → counts'.line ≡ counts.line → IsHeld (run b es2) index k counts' o2
  after_torn h goes returns due right free same grown back few same_owed meets leaves causes counts_too line =
      let some : length es + 1 < 2 ^ 63 = omega (arith, few) in
      let more : length (torn ∷ es) + 1 < 2 ^ 63 = omega (arith, few) in
      let none : o0 ≡ [] = same_owed ∙ h.called ∙ none_called (owed_in (run b es)) free in
      let mid : IsHeld (run b (torn ∷ es)) index m counts' (PowerReturns frame.destination ∷ o1)
      = after_own b es es (torn ∷ es) index n m counts counts' o o0 (PowerReturns frame.destination ∷ o1) (PowerReturns frame.destination ∷ cs) torn refl h goes right refl refl some same_owed
      (λ w is exact. power_before (mode_in b) w frame.destination o0 o1 cs none (meets w is exact)) causes counts_too line in
      let power : IsRight (run b (torn ∷ es)) (On frame.destination) = record {
        may = may_return (mode_in b) (replay (start_of b) es) frame fresh octets due right.may;
        next = subst (λ l. IsNext (said b) (mode_in b) (start_of b) (torn ∷ es) l (On frame.destination)) mid.called (inr refl);
      } in
      after_own b (torn ∷ es) es1 es2 index m k counts' counts' (PowerReturns frame.destination ∷ o1) (PowerReturns frame.destination ∷ o1) o2 [] (On frame.destination) refl mid returns power (grown ∙ ap (λ l. torn ∷ l) same) back more refl
      (λ w is exact. leaves w is exact ∙ ap (filter (is_possible (mode_in b) w)) (sym (and_nothing o1))) refl
      (uncounted counts' (start_of b) (torn ∷ es) (On frame.destination) (record { to = λ a. refl; from = λ a. refl; taken = λ a. takes_nothing _; wrote = λ a. writes_nothing _; connect = refl }) counts_too) refl
