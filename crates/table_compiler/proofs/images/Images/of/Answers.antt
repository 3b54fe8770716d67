use Rattle.std.proofs.Common.{◌≡◌, ◌∙◌, ap, length, subst, List}
use Rattle.std.specs.List.{AllZip}
use Rattle.std.proofs.lemmas.Slice.Zip.{AllZip-long}
use Rattle.knx_model.specs.declared.address.IndAddr.{IndAddr}
use Rattle.knx_model.specs.Meaning.{Installation}
use Rattle.table_compiler.specs.Images.{IsImage, is_among}
use Rattle.table_compiler.proofs.Searched.{kept_ascend, just_wanted}
use Rattle.table_compiler.proofs.images.Images.of.Goals as goal

pub compile_devices-requires-clause-ascending : goal.compile_devices-requires-clause-ascending
compile_devices-requires-clause-ascending g c κs within =
    rw (c.as_slice.ensures.value, c.in_ok-devices.ensures) (kept_ascend (is_among c.args.wanted.now) c.devices.result.now c.devices.ensures.ascending)

pub invariant_of-result : goal.invariant_of-result
invariant_of-result g c = record {
  ascending = rw c.in_ok-devices.ensures (kept_ascend (is_among c.args.wanted.now) c.devices.result.now c.devices.ensures.ascending);
  long = AllZip-long _ _ _ c.in_ok-images.ensures ∙ ap length c.as_slice.ensures.value;
}

pub returns-clause-images : goal.returns-clause-images
returns-clause-images g c =
    let same : record { statements = c.statements.result.now; catalogue = c.catalogue.result.now } ≡ c.args.checked.now = λ i. record { statements = c.statements.ensures.value i; catalogue = c.catalogue.ensures.value i } in
    subst (λ (ds : List IndAddr). AllZip (IsImage c.args.checked.now) ds c.in_ok-images.images) c.as_slice.ensures.value (subst (λ (i : Installation). AllZip (IsImage i) c.as_slice.result.now c.in_ok-images.images) same c.in_ok-images.ensures)

pub returns-clause-wanted : goal.returns-clause-wanted
returns-clause-wanted g c = λ device.
    rw c.in_ok-devices.ensures (just_wanted c.args.checked.now.statements c.devices.result.now c.args.wanted.now device c.devices.ensures.all)
