use Rattle.std.proofs.Common.{◌≡◌, true, false, sym, refl, ap, ◌∙◌}
use Rattle.std.specs.Prelude.{is_some}
use Rattle.std.proofs.lemmas.Bool.{or_left}
use Rattle.knx_model.specs.Models.{has_object}
use Rattle.knx_model.specs.Rules.{some_line, declares_object}
use Rattle.project_check.specs.declared.earlier.Repeated.{Repeated}
use Rattle.project_check.proofs.Asked.{has_sized}
use Rattle.project_check.proofs.rules.Whole.has_twice.Goals as goal

pub returns-then-is_some : goal.returns-then-is_some
returns-then-is_some c = λ size flags catalogue before all h k.
    let n = c.args.n in
    let is = c.in-Some.ensures.some catalogue all h.declared in
    let has : has_object is.0 n ≡ true = sym (has_sized is.0 n) ∙ ap is_some (sym (c.size_of.ensures is.0 is.2)) ∙ sym c.if-is_some.ensures in
    rw is.1 (c.if-is_some.true ∙ sym (or_left (has_object is.0 n) (some_line (declares_object c.args.device.raw n) before) has))

pub returns-else-is_some : goal.returns-else-is_some
returns-else-is_some c = λ size flags catalogue before all h k.
    let n = c.args.n in
    let is = c.in-Some.ensures.some catalogue all h.declared in
    let none : has_object is.0 n ≡ false = sym (has_sized is.0 n) ∙ ap is_some (sym (c.size_of.ensures is.0 is.2)) ∙ sym c.if-is_some.ensures in
    rw (is.1, none) (ap (λ (r : Repeated). r.object) k)

pub returns-in-None : goal.returns-in-None
returns-in-None c = λ size flags catalogue before all h k. let is = c.in-None.ensures.none catalogue all h.declared in rw is refl
