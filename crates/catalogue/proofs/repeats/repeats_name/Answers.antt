use Rattle.std.proofs.Common.{◌≡◌, ℕ, List, true, false, refl, sym, ap, ◌∙◌, bytes_eq, nat_cmp, get_or, map, take, arith}
use Rattle.std.specs.List.{list_any}
use Rattle.std.specs.BTreeSet.{contains_by}
use Rattle.std.specs.Cmp.Lexicographic.{slice_cmp}
use Rattle.std.specs.Ordering.{is_eq}
use Rattle.std.proofs.lemmas.Grind.{common_steps}
use Rattle.std.proofs.lemmas.Cmp.{nat_list_eq_equiv}
use Rattle.std.proofs.lemmas.Map.Text.{is_eq-slice_cmp}
use Rattle.std.proofs.lemmas.Bool.{not-true, not-false}
use Rattle.catalogue.specs.Shapes.{repeats, stated_name}
use Rattle.catalogue.proofs.Twice.{repeats_at, repeats_on, any_on, added_or}
use Rattle.catalogue.proofs.repeats.repeats_name.Goals as goal

same_name : (x y : List ℕ) → is_eq (slice_cmp nat_cmp x y) ≡ bytes_eq y x
same_name x y = is_eq-slice_cmp x y ∙ nat_list_eq_equiv.symm x y

pub loop-parameter-init : goal.loop-parameter-init
unfolding repeats
loop-parameter-init c = record { seen = λ n. grind (arith, common_steps); once = refl }

pub returns-then-not-branch : goal.returns-then-not-branch
returns-then-not-branch c =
    let i = c.loop-parameter.parameter-index in
    let d = c.parameter-item.result in
    let n : List ℕ = c.as_slice.result.now in
    let named : n ≡ stated_name (get_or c.args.parameters.now i d) = c.as_slice.ensures ∙ ap stated_name c.parameter-item.is in
    let found : contains_by (λ k. slice_cmp nat_cmp n k.now) c.loop-parameter.seen ≡ true = not-false _ (sym c.in_ok-insert.ensures.added ∙ c.if-not-branch.true) in
    let there : list_any (bytes_eq (stated_name (get_or c.args.parameters.now i d))) (map stated_name (take i c.args.parameters.now)) ≡ true = rw (← named) (sym (c.loop-parameter.invariant.seen n) ∙ found) in
    sym (repeats_at bytes_eq nat_list_eq_equiv.symm stated_name c.args.parameters.now i d c.loop-parameter-test.true there)

pub loop-parameter-preserved : goal.loop-parameter-preserved
loop-parameter-preserved c =
    let i = c.loop-parameter.parameter-index in
    let d = c.parameter-item.result in
    let n : List ℕ = c.as_slice.result.now in
    let named : n ≡ stated_name (get_or c.args.parameters.now i d) = c.as_slice.ensures ∙ ap stated_name c.parameter-item.is in
    let new : contains_by (λ k. slice_cmp nat_cmp n k.now) c.loop-parameter.seen ≡ false = not-true _ (sym c.in_ok-insert.ensures.added ∙ c.if-not-branch.false) in
    let apart : list_any (bytes_eq (stated_name (get_or c.args.parameters.now i d))) (map stated_name (take i c.args.parameters.now)) ≡ false = rw (← named) (sym (c.loop-parameter.invariant.seen n) ∙ new) in
    record {
      seen = λ q. c.in_ok-insert.ensures.updates.0 (record { ref_ptr = (0, 0); now = q }) ∙ added_or _ _ _ _ (same_name n q) (c.loop-parameter.invariant.seen q) ∙ sym (rw named (any_on bytes_eq stated_name c.args.parameters.now i d q c.loop-parameter-test.true));
      once = repeats_on bytes_eq nat_list_eq_equiv.symm stated_name c.args.parameters.now i d c.loop-parameter-test.true c.loop-parameter.invariant.once apart;
    }
