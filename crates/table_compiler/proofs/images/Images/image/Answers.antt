use Rattle.std.proofs.Common.{◌≡◌, ◌∙◌, ap, sym, subst, List, Some, get_or, length, ◌<◌, arith}
use Rattle.std.specs.Prelude.{slice_get}
use Rattle.knx_model.specs.declared.address.IndAddr.{IndAddr}
use Rattle.table_compiler.specs.Images.{AreImagesOf}
use Rattle.table_compiler.proofs.Searched.{among_at, image_at, if_none}
use Rattle.table_compiler.proofs.images.Images.image.Goals as goal

pub returns-in_err-place-clause-none : goal.returns-in_err-place-clause-none
returns-in_err-place-clause-none c = if_none c.from_residual.result (rw (← c.self.view_is, ← c.as_slice.ensures.value) c.in_err-place.ensures.none)

within : (c : goal.After-index-as_slice-place) → c.in_ok-place.place < length c.self.inside.devices.items
within c = omega (arith, c.in_ok-place.ensures.some.0, ap length c.as_slice.ensures.value)

here : (c : goal.After-index-as_slice-place) → slice_get c.self.inside.devices.items c.in_ok-place.place ≡ Some c.args.device
here c = subst (λ (ds : List IndAddr). slice_get ds c.in_ok-place.place ≡ Some c.args.device) c.as_slice.ensures.value c.in_ok-place.ensures.some.1

pub returns-clause-there : goal.returns-clause-there
returns-clause-there c = rw (← c.self.view_is) (among_at c.self.inside.devices.items c.in_ok-place.place c.args.device (within c) (here c))

pub returns-clause-some : goal.returns-clause-some
returns-clause-some c = λ project are.
    image_at project c.self.inside.devices.items c.self.inside.images c.in_ok-place.place c.args.device c.index-as_slice-place.result (subst (λ images. AreImagesOf project images) (sym c.self.view_is) are)
    (within c) (here c) (ap (λ images. get_or images c.in_ok-place.place c.index-as_slice-place.result) (sym c.as_slice-2.ensures) ∙ sym c.index-as_slice-place.is)
