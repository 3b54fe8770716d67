-- The numbers by which the script is asked.
use Rattle.std.proofs.Common.{◌≡◌, ◌≢◌, ℕ, suc, ◌+◌, ◌^◌, ◌<◌, ◌==◌, Bool, true, false, List, length, refl, ap, sym, ◌∙◌, arith}
use Rattle.std.specs.Prelude.{min, ◌-◌}
use Rattle.line_model.specs.Counts.{goes_to, comes_from, takes_one, writes_one, connect_reaches, frames_to, frames_from, frames_taken, writes, connects_reached}
use Rattle.line_model.specs.Lines.{loses_from, loses_to}
use Rattle.line_model.specs.Owed.{Owed}
use Rattle.line_model.specs.StartOf.{line_of}
use Rattle.line_model.specs.World.{Event}
use Rattle.line_sim.specs.Line.{LineNow}
use Rattle.script_index.specs.declared.index.ScriptIndex.{ScriptIndex}
use Rattle.bus_sim.specs.declared.beginning.Beginning.{Beginning}
use Rattle.bus_sim.specs.declared.counts.DeviceCounts.{DeviceCounts}
use Rattle.bus_sim.specs.Begun.{said, start_of}
use Rattle.bus_sim.specs.Counted.{CountsNow, counts_at}
use Rattle.line_model.specs.Follows.{at_gateway}
use Rattle.bus_sim.specs.Choices.{heard_so}
use Rattle.bus_sim.specs.Held.{IsHeld}
use Rattle.bus_sim.specs.RunNow.{RunState}
use Rattle.bus_sim.proofs.Counting.{count_few}
use Rattle.bus_sim.proofs.Holds.{run}
use Rattle.bus_sim.proofs.Strangers.{nothing_from, nothing_to}

decide : (P : Type 0) (t : Bool) → (t ≡ true → P) → (t ≡ false → P) → P
decide P true this that = this refl
decide P false this that = that refl

same_number : (a b : ℕ) → (a == b) ≡ true → a ≡ b
same_number a b e = grind arith

other_number : (a b : ℕ) → (a == b) ≡ false → a ≢ b
other_number a b e = grind arith

-- one more than a count
pub one_more : (held known : ℕ) → held ≡ known → known < 2 ^ 63 → min (held + 1) (2 ^ 64 - 1) ≡ suc known
one_more held known e few = omega arith

module _ (b : Beginning) (es : List Event) (index : ScriptIndex) (n : LineNow) (counts : CountsNow) (o : List Owed) (h : IsHeld (run b es) index n counts o) where
  small : length es < 2 ^ 63
  small = h.few

  -- the counts of a device of the line
  pub to_known : (a : ℕ) → line_of a ≡ counts.line → min ((counts_at counts a).to + 1) (2 ^ 64 - 1) ≡ suc (frames_to a (start_of b) es)
  to_known a on = one_more _ _ (ap (λ (c : DeviceCounts). c.to) (h.counted.devices a on)) (let x = count_few (goes_to a) (start_of b) es in let y = small in omega arith)

  pub from_known : (a : ℕ) → line_of a ≡ counts.line → min ((counts_at counts a).from + 1) (2 ^ 64 - 1) ≡ suc (frames_from a (start_of b) es)
  from_known a on = one_more _ _ (ap (λ (c : DeviceCounts). c.from) (h.counted.devices a on)) (let x = count_few (comes_from a) (start_of b) es in let y = small in omega arith)

  pub taken_known : (a : ℕ) → line_of a ≡ counts.line → min ((counts_at counts a).taken + 1) (2 ^ 64 - 1) ≡ suc (frames_taken a (start_of b) es)
  taken_known a on = one_more _ _ (ap (λ (c : DeviceCounts). c.taken) (h.counted.devices a on)) (let x = count_few (takes_one a) (start_of b) es in let y = small in omega arith)

  pub writes_known : (a : ℕ) → line_of a ≡ counts.line → min ((counts_at counts a).writes + 1) (2 ^ 64 - 1) ≡ suc (writes a (start_of b) es)
  writes_known a on = one_more _ _ (ap (λ (c : DeviceCounts). c.writes) (h.counted.devices a on)) (let x = count_few (writes_one a) (start_of b) es in let y = small in omega arith)

  pub connects_known : min (counts.connects + 1) (2 ^ 64 - 1) ≡ suc (connects_reached (start_of b) es)
  connects_known = one_more _ _ h.counted.connects (let x = count_few connect_reaches (start_of b) es in let y = small in omega arith)

  -- whether a frame is lost, asked of any address
  pub lost_to : (a : ℕ) → loses_to (said b) a (min ((counts_at counts a).to + 1) (2 ^ 64 - 1)) ≡ loses_to (said b) a (suc (frames_to a (start_of b) es))
  lost_to a = decide _ (line_of a == counts.line)
      (λ y. ap (loses_to (said b) a) (to_known a (same_number _ _ y)))
      (λ x. nothing_to b a _ h.loaded (off a x) ∙ sym (nothing_to b a _ h.loaded (off a x)))
    where
      off : (a : ℕ) → (line_of a == counts.line) ≡ false → line_of a ≢ line_of b.tunnel.raw
      off a x same = other_number (line_of a) counts.line x (same ∙ sym h.on_line)

  pub lost_from : (a : ℕ) → loses_from (said b) a (min ((counts_at counts a).from + 1) (2 ^ 64 - 1)) ≡ loses_from (said b) a (suc (frames_from a (start_of b) es))
  lost_from a = decide _ (line_of a == counts.line)
      (λ y. ap (loses_from (said b) a) (from_known a (same_number _ _ y)))
      (λ x. nothing_from b a _ h.loaded (off a x) ∙ sym (nothing_from b a _ h.loaded (off a x)))
    where
      off : (a : ℕ) → (line_of a == counts.line) ≡ false → line_of a ≢ line_of b.tunnel.raw
      off a x same = other_number (line_of a) counts.line x (same ∙ sym h.on_line)

-- whether the gateway hears the device's next frame
pub heard_is : (b : Beginning) (es : List Event) (index : ScriptIndex) (n : LineNow) (counts : CountsNow) (o : List Owed) → IsHeld (run b es) index n counts o
    → (device : ℕ) (lost : Bool) (k : ℕ) (c : DeviceCounts) (v : RunState) → lost ≡ loses_from (said b) device k → k ≡ min (c.from + 1) (2 ^ 64 - 1) → c ≡ counts_at counts device → record { begun = b; events = es; line = n } ≡ v
    → at_gateway lost ≡ heard_so v device
heard_is b es index n counts o h device lost k c v says number of_it view =
    ap at_gateway (says ∙ ap (loses_from (said b) device) (number ∙ ap (λ (x : DeviceCounts). min (x.from + 1) (2 ^ 64 - 1)) of_it) ∙ lost_from b es index n counts o h device) ∙ ap (λ (r : RunState). heard_so r device) view
