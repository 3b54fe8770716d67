use Rattle.std.proofs.Common.{◌≡◌, ℕ, true, false, refl, sym, ◌∙◌, nat_eq, nat_cmp, get_or, arith}
use Rattle.std.specs.BTreeSet.{contains}
use Rattle.std.specs.Ordering.{is_eq}
use Rattle.std.proofs.lemmas.Bool.Decides.{nat_tests}
use Rattle.std.proofs.lemmas.Grind.{common_steps}
use Rattle.std.proofs.lemmas.Cmp.{nat_eq_equiv}
use Rattle.std.proofs.lemmas.Bool.{not-true, not-false}
use Rattle.knx_model.specs.declared.catalogue.model.ModelObject.{ModelObject}
use Rattle.knx_model.specs.Models.{number_of}
use Rattle.catalogue.specs.Shapes.{repeats}
use Rattle.catalogue.proofs.Twice.{repeats_at, repeats_on, any_on, added_or}
use Rattle.catalogue.proofs.repeats.repeats_number.Goals as goal

no_object : ModelObject
no_object = record { n = 0; size = 0; flags = 0 }

same_number : (x y : ℕ) → is_eq (nat_cmp x y) ≡ nat_eq y x
same_number x y = grind (arith, nat_tests)

pub loop-object-init : goal.loop-object-init
unfolding repeats
loop-object-init c = record { seen = λ n. grind (arith, common_steps); once = refl }

pub returns-then-not-branch : goal.returns-then-not-branch
unfolding no_object
returns-then-not-branch c =
    let i = c.loop-object.object-index in
    let n : ℕ = number_of (get_or c.args.objects.now i no_object) in
    let found : contains nat_cmp c.loop-object.seen n ≡ true = not-false _ (sym c.in_ok-insert.ensures.added ∙ c.if-not-branch.true) in
    sym (repeats_at nat_eq nat_eq_equiv.symm number_of c.args.objects.now i no_object c.loop-object-test.true (sym (c.loop-object.invariant.seen n) ∙ found))

pub loop-object-preserved : goal.loop-object-preserved
unfolding no_object
loop-object-preserved c =
    let i = c.loop-object.object-index in
    let n : ℕ = number_of (get_or c.args.objects.now i no_object) in
    let new : contains nat_cmp c.loop-object.seen n ≡ false = not-true _ (sym c.in_ok-insert.ensures.added ∙ c.if-not-branch.false) in
    record {
      seen = λ q. c.in_ok-insert.ensures.updates.0 q ∙ added_or _ _ _ _ (same_number n q) (c.loop-object.invariant.seen q) ∙ sym (any_on nat_eq number_of c.args.objects.now i no_object q c.loop-object-test.true);
      once = repeats_on nat_eq nat_eq_equiv.symm number_of c.args.objects.now i no_object c.loop-object-test.true c.loop-object.invariant.once (sym (c.loop-object.invariant.seen n) ∙ new);
    }
