use Rattle.std.proofs.Common.{true, Option, ap, refl}
use Rattle.project_check.specs.declared.models.Range.{Range}
use Rattle.project_check.specs.declared.known.KnownParameter.{KnownParameter}
use Rattle.project_check.proofs.declared.Declared.known_parameter.Goals as goal

pub returns-in-Some : goal.returns-in-Some
returns-in-Some c = λ catalogue ss h.
    let is = c.in-Some.ensures.some catalogue ss h in
    rw is.1 (ap (λ (z : Option Range). let s : KnownParameter = record { modelled = true; range = z } in s) (c.range_of.ensures is.0 is.2))

pub returns-in-None : goal.returns-in-None
returns-in-None c = λ catalogue ss h. let is = c.in-None.ensures.none catalogue ss h in rw is refl
