use Rattle.std.proofs.Common.{List}
use Rattle.std.proofs.lemmas.Result.{IfOk-at_ok}
use Rattle.knx_model.specs.declared.catalogue.model.NamedModel.{NamedModel}
use Rattle.project_check.specs.Devices.{AreDevices}
use Rattle.project_check.specs.Knowing.{AreNamed, Gathers}
use Rattle.project_check.specs.Links.{AreSorted}
use Rattle.project_check.proofs.Judged.{found_of_all}
use Rattle.project_check.proofs.checked.judged_in_threads.Goals as goal

pub returns-clause-found : goal.returns-clause-found
returns-clause-found g c =
    let catalogue = c.args.catalogue.now in
    let ss = c.args.statements.now in
    let models = c.in_ok-models.models in
    let gathered = IfOk-at_ok (λ gathered. (catalogue : List NamedModel) → AreNamed catalogue models ss → Gathers catalogue gathered ss) c.in_ok-gathered.was c.gathered_in_threads-gathered.ensures.gathered in
    let links = IfOk-at_ok (λ links. AreSorted links ss) c.in_ok-links.was c.gathered_in_threads-gathered.ensures.links in
    let declares = c.of-whole.ensures catalogue ss (gathered catalogue c.in_ok-models.ensures) links in
    found_of_all c.of-whole.result catalogue ss declares _ c.in_ok-found.ensures

pub returns-clause-devices : goal.returns-clause-devices
returns-clause-devices g c = IfOk-at_ok (λ devices. AreDevices devices.items c.args.statements.now) c.in_ok-devices.was c.gathered_in_threads-gathered.ensures.devices
