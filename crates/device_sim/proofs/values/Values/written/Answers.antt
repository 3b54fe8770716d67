use Rattle.std.proofs.Common.{rules, ◌≡◌, ℕ, ◌+◌, List, [], ◌∷◌, ◌++◌, length, Option, Some, map, if◌then◌else◌, sym, ◌∙◌, ap, subst, zero-add, arith}
use Rattle.std.specs.List.{range_with_len}
use Rattle.std.proofs.lemmas.List.FromFn.{map-range_with_len_more, length-map-range_with_len}
use Rattle.knx_model.specs.declared.frames.value.Value.{Value}
use Rattle.knx_model.specs.DeviceState.{slot, written_values}
use Rattle.device_tables.specs.Objects.{holds}
use Rattle.device_sim.proofs.Slots.{AreInRange, one_more, padded_whole}
use Rattle.device_sim.proofs.values.Values.written.Goals as goal

more : (f : ℕ → Option Value) (n : ℕ) (slots : List (Option Value)) (next : Option Value) → slots ≡ map f (range_with_len 0 n) → next ≡ f n → slots ++ next ∷ [] ≡ map f (range_with_len 0 (n + 1))
more f n slots next s e = rw s (rw e (sym (map-range_with_len_more f 0 n n (zero-add n))))

pub loop-object-preserved : goal.loop-object-preserved
loop-object-preserved c =
    let pushed : c.push.new.self.items ≡ c.loop-object.slots.items ++ c.slot_after.result ∷ [] = search rules in
    record {
      slots = pushed ∙ more (λ (o : ℕ). if holds c.args.objects.now o then Some c.args.value.now else slot c.args.self.now o) c.loop-object.object c.loop-object.slots.items c.slot_after.result c.loop-object.invariant.slots c.slot_after.ensures.slot;
      range = subst AreInRange (sym pushed) (one_more c.loop-object.slots.items c.slot_after.result c.loop-object.invariant.range c.slot_after.ensures.range);
    }

pub returns : goal.returns
unfolding written_values
returns c =
    let f : ℕ → Option Value = λ o. if holds c.args.objects.now o then Some c.args.value.now else slot c.args.self.now o in
    let end : c.loop-object.object ≡ 256 = omega (arith, c.loop-object-test.false, c.loop-object.auto.object-end) in
    let all : c.loop-object.slots.items ≡ map f (range_with_len 0 256) = c.loop-object.invariant.slots ∙ ap (λ (n : ℕ). map f (range_with_len 0 n)) end in
    padded_whole c.loop-object.slots.items (ap length all ∙ length-map-range_with_len f 0 256) ∙ all
