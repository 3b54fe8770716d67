use Rattle.std.proofs.Common.{◌≡◌, IfOk, subst, List}
use Rattle.std.specs.List.{AllZip}
use Rattle.std.proofs.lemmas.List.Elements.{All-from_recursion}
use Rattle.std.proofs.lemmas.List.Sorted.{All-permutation, IsPermutation-sym}
use Rattle.knx_model.specs.declared.address.IndAddr.{IndAddr}
use Rattle.knx_model.specs.Acts.{IsInRange}
use Rattle.knx_model.specs.Device.{Fits}
use Rattle.knx_model.specs.Meaning.{Installation, meaning}
use Rattle.knx_model.specs.Tables.{StandsFor}
use Rattle.table_compiler.specs.Images.{IsImage}
use Rattle.table_compiler.proofs.Compiled.{if_ok}
use Rattle.table_compiler.proofs.Searched.{all_stand, all_fit, all_in_range}
use Rattle.table_compiler.proofs.Unique.{one_order}
use Rattle.table_compiler.proofs.compiler.compile_all.Given as given
use Rattle.table_compiler.proofs.compiler.compile_all.Goals as goal

are : (g : given.Over) (c : goal.After-compile_devices g) → IfOk c.compile_devices.result (λ images. AllZip (IsImage c.args.checked.now) c.devices.result.now images)
are g c =
    let same : record { statements = c.statements.result.now; catalogue = c.catalogue.result.now } ≡ c.args.checked.now = λ i. record { statements = c.statements.ensures.value i; catalogue = c.catalogue.ensures.value i } in
    subst (λ (i : Installation). IfOk c.compile_devices.result (λ images. AllZip (IsImage i) c.devices.result.now images)) same c.compile_devices.ensures

pub returns-clause-stands : goal.returns-clause-stands
returns-clause-stands g c =
    let found = c.devices.result.now in
    if_ok {P = λ images. AllZip (IsImage c.args.checked.now) found images} c.compile_devices.result
    (λ images all devices moved up. subst (λ (ds : List IndAddr). AllZip (λ image device. StandsFor image (meaning c.args.checked.now device)) images ds) (one_order _ found devices c.devices.ensures.all moved c.devices.ensures.ascending up) (all_stand c.args.checked.now found images all))
    (are g c)

pub returns-clause-fits : goal.returns-clause-fits
returns-clause-fits g c =
    let found = c.devices.result.now in
    if_ok {P = λ images. AllZip (IsImage c.args.checked.now) found images} c.compile_devices.result (λ images all. All-from_recursion Fits images (all_fit c.args.checked.now found images all)) (are g c)

pub returns-clause-in_range : goal.returns-clause-in_range
returns-clause-in_range g c =
    let found = c.devices.result.now in
    let P : IndAddr → Type 0 = λ device. IsInRange (meaning c.args.checked.now device) in
    if_ok {P = λ images. AllZip (IsImage c.args.checked.now) found images} c.compile_devices.result
    (λ images all. All-permutation P found _ (IsPermutation-sym _ found c.devices.ensures.all) (All-from_recursion P found (all_in_range c.args.checked.now found images all)))
    (are g c)
