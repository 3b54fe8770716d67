use Rattle.std.proofs.Common.{◌≡◌, ℕ, true, false, Option, Some, ap, ◌∙◌}
use Rattle.knx_model.specs.Rules.{first_some, size_in, size_in_model, or_else}
use Rattle.project_check.specs.declared.known.KnownObject.{KnownObject}
use Rattle.project_check.proofs.declared.Declared.known_object.Goals as goal

pub returns-in-Some : goal.returns-in-Some
returns-in-Some c = λ catalogue ss h.
    let o = c.args.object in
    let is = c.in-Some.ensures.some catalogue ss h in
    let size : c.size_or_line.result ≡ or_else (size_in_model (Some is.0) o.number) (first_some (size_in o.device o.number) ss) =
    c.size_or_line.ensures catalogue ss h ∙ ap (λ (r : Option ℕ). or_else r (first_some (size_in o.device o.number) ss)) (c.size_of.ensures is.0 is.2) in
    rw is.1 (ap (λ (z : Option ℕ). let l : KnownObject = record { modelled = true; size = z } in l) size)

pub returns-in-None : goal.returns-in-None
returns-in-None c = λ catalogue ss h.
    let is = c.in-None.ensures.none catalogue ss h in
    rw is (ap (λ (z : Option ℕ). let l : KnownObject = record { modelled = false; size = z } in l) (c.line_size.ensures catalogue ss h))
