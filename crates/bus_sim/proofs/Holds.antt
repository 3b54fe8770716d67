-- What is held of a run after one event more.
use Rattle.std.proofs.Common.{◌≡◌, ◌+◌, ◌^◌, ◌<◌, true, false, List, [], ◌∷◌, ◌++◌, length, drop, ap, sym, subst, ◌∙◌, arith, if◌then◌else◌}
use Rattle.std.specs.List.{filter}
use Rattle.line_model.specs.Owed.{Owed, owed, caused, is_clients, is_possible, left_after}
use Rattle.line_model.specs.World.{World, Event, replay, step}
use Rattle.line_sim.specs.Line.{LineNow, IsNow, AreCounted}
use Rattle.script_index.specs.declared.index.ScriptIndex.{ScriptIndex}
use Rattle.bus_sim.specs.declared.beginning.Beginning.{Beginning}
use Rattle.bus_sim.specs.Begun.{mode_in, said, start_of}
use Rattle.bus_sim.specs.Counted.{CountsNow, AreCounts}
use Rattle.bus_sim.specs.Held.{IsHeld}
use Rattle.bus_sim.specs.RunNow.{RunNow, IsRight}
use Rattle.bus_sim.proofs.Numbered.{IsFromClient, own_event, stay_numbered}
use Rattle.bus_sim.proofs.Laws.{counted}
use Rattle.bus_sim.proofs.Owings.{and_nothing}
use Rattle.bus_sim.proofs.Presence.{none_stays}

abbrev pub run : Beginning → List Event → RunNow
run b es = record { begun = b; events = es }

-- ---- one event more

module _ (b : Beginning) (es es' : List Event) (index : ScriptIndex) (n m : LineNow) (counts counts' : CountsNow) (o o' left cs : List Owed) (e : Event) where
  after : IsHeld (run b es) index n counts o → ((w : World) → IsNow n w → IsNow m (step w e)) → IsRight (run b es) e → es' ≡ e ∷ es → length es + 1 < 2 ^ 63
      → ((w : World) → IsNow m w → AreCounted w → o' ≡ filter (is_possible (mode_in b) w) (left ++ cs)) → left ≡ left_after e o → cs ≡ caused (said b) (start_of b) es e → AreCounts counts' (start_of b) (e ∷ es) → counts'.line ≡ counts.line
      → IsFromClient e → IsHeld (run b es') index m counts' o'
  after h goes right grown few meets leaves causes counts_too line client =
      let w : World = replay (start_of b) es in
      let pictured : IsNow m (step w e) = goes w h.pictured in
      let small : length (e ∷ es) < 2 ^ 63 = omega (arith, few) in
      let exact : AreCounted (step w e) = counted (start_of b) (e ∷ es) h.keeps.fresh small in
      let new : IsHeld (run b (e ∷ es)) index m counts' o' = record {
        loaded = h.loaded;
        pictured = pictured;
        indexed = h.indexed;
        counted = counts_too;
        on_line = line ∙ h.on_line;
        called = meets (step w e) pictured exact ∙ ap (λ l. filter (is_possible (mode_in b) (step w e)) (l ++ cs)) (leaves ∙ ap (left_after e) h.called)
            ∙ ap (λ l. filter (is_possible (mode_in b) (step w e)) (left_after e (owed (said b) (mode_in b) (start_of b) es) ++ l)) causes;
        placed = λ a off. none_stays w e a (h.placed a (λ on. off (on ∙ sym line)));
        few = small;
        keeps = record { fresh = h.keeps.fresh; legal = (right.may, h.keeps.legal); follows = (right.next, h.keeps.follows) };
        numbered = stay_numbered b.clients w e right.may client h.numbered;
      } in
      subst (λ l. IsHeld (run b l) index m counts' o') (sym grown) new

-- of the line's own
pub after_own : (b : Beginning) (es es0 es' : List Event) (index : ScriptIndex) (n m : LineNow) (counts counts' : CountsNow) (o o0 o' cs : List Owed) (e : Event) → is_clients e ≡ false
    → IsHeld (run b es) index n counts o → ((w : World) → IsNow n w → IsNow m (step w e)) → IsRight (run b es) e → es0 ≡ es → es' ≡ e ∷ es0 → length es + 1 < 2 ^ 63
    → o0 ≡ o → ((w : World) → IsNow m w → AreCounted w → o' ≡ filter (is_possible (mode_in b) w) (drop 1 o0 ++ cs)) → cs ≡ caused (said b) (start_of b) es e → AreCounts counts' (start_of b) (e ∷ es) → counts'.line ≡ counts.line
    → IsHeld (run b es') index m counts' o'
after_own b es es0 es' index n m counts counts' o o0 o' cs e own h goes right same grown few same_owed meets causes counts_too line =
    after b es es' index n m counts counts' o o' (drop 1 o0) cs e h goes right (grown ∙ ap (λ l. e ∷ l) same) few meets (ap (drop 1) same_owed ∙ sym (ap (λ t. if t then o else drop 1 o) own)) causes counts_too line (own_event e own)

-- of the client's
pub after_client : (b : Beginning) (es es0 es' : List Event) (index : ScriptIndex) (n m : LineNow) (counts counts' : CountsNow) (o o0 o' : List Owed) (e : Event) → is_clients e ≡ true → IsFromClient e
    → IsHeld (run b es) index n counts o → ((w : World) → IsNow n w → IsNow m (step w e)) → IsRight (run b es) e → es0 ≡ es → es' ≡ e ∷ es0 → length es + 1 < 2 ^ 63
    → o0 ≡ o → ((w : World) → IsNow m w → AreCounted w → o' ≡ filter (is_possible (mode_in b) w) o0) → [] ≡ caused (said b) (start_of b) es e → AreCounts counts' (start_of b) (e ∷ es) → counts'.line ≡ counts.line
    → IsHeld (run b es') index m counts' o'
after_client b es es0 es' index n m counts counts' o o0 o' e theirs client h goes right same grown few same_owed meets causes counts_too line =
    after b es es' index n m counts counts' o o' o0 [] e h goes right (grown ∙ ap (λ l. e ∷ l) same) few
    (λ w is exact. meets w is exact ∙ ap (filter (is_possible (mode_in b) w)) (sym (and_nothing o0))) (same_owed ∙ sym (ap (λ t. if t then o else drop 1 o) theirs)) causes counts_too line client
