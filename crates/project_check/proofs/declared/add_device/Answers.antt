use Rattle.std.proofs.Common.{◌≡◌, eqb, Some, None, refl, sym, ap, ◌∙◌}
use Rattle.std.specs.Prelude.{is_some, slice_get}
use Rattle.std.specs.Option.{option_map}
use Rattle.std.proofs.lemmas.Bool.{eqb-true}
use Rattle.std.proofs.lemmas.Option.{IfSome_then, same_Some}
use Rattle.std.proofs.lemmas.Slice.Eq.{bytes_eq-Decides}
use Rattle.knx_model.specs.Models.{model_named}
use Rattle.project_check.specs.Keys.{index_of}
use Rattle.project_check.specs.Knowing.{IndexesNamed}
use Rattle.project_check.proofs.Named.{none_of, none_then, kept_known, found_named, put_kept, at_put, same_at, still_kept, nothing_more, no_model}
use Rattle.project_check.proofs.declared.add_device.Goals as goal

pub returns-then-is_none : goal.returns-then-is_none
returns-then-is_none c = λ catalogue all names named is_named keeps a kept is.
    let mine = c.in-Device.device.raw in
    let b = eqb mine a in
    let model = c.in-Device.model in
    let empty : names mine ≡ None = none_of (names mine) (sym (kept_known catalogue c.get.result (names mine) (keeps mine c.get.result c.get.ensures)) ∙ c.if-is_none.ensures) in
    let stands = rw c.in-Device.is at (is_named c.as_slice.result.now) in
    let declared = stands ((bytes_eq-Decides model c.as_slice.result.now).1 (sym c.as_slice.ensures)) in
    let indexed : IndexesNamed (option_map index_of c.named.result) (model_named catalogue c.as_slice.result.now) =
    found_named c.named.result (model_named catalogue c.as_slice.result.now) (IfSome_then c.named.result c.named.ensures.some (λ index found. found catalogue all named)) (none_then c.named.result c.named.ensures.none (λ found. found catalogue all named declared)) in
    let at = at_put b (Some c.named.result) kept (slice_get c.args.devices.now a) (sym (c.set.ensures a) ∙ is) in
    rw (c.in-Device.is, ← c.as_slice.ensures) (put_kept catalogue (Some c.named.result) kept c.named.result b c.as_slice.result.now (names a) refl indexed (λ same. same_at names mine a same empty) (λ other. keeps a kept (at.1 other)) at.0)

pub returns-else-is_none : goal.returns-else-is_none
returns-else-is_none c = λ catalogue all names named is_named keeps a kept is.
    let mine = c.in-Device.device.raw in
    rw c.in-Device.is (still_kept catalogue kept (eqb mine a) c.in-Device.model (names a) (λ same.
    let at : mine ≡ a = eqb-true mine a same in
    let here : c.get.result ≡ kept = same_Some c.get.result kept (sym c.get.ensures ∙ ap (slice_get c.args.devices.now) at ∙ is) in
    ap is_some (sym here) ∙ c.if-is_none.ensures) (keeps a kept is))

pub returns-in_default : goal.returns-in_default
returns-in_default c = λ catalogue all names named is_named keeps a kept is. nothing_more catalogue kept (names a) _ (no_model a c.args.what.now c.in_default.not-Device) (keeps a kept is)
