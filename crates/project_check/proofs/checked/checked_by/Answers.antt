use Rattle.std.proofs.Common.{◌≡◌, None, sym, ◌∙◌}
use Rattle.std.proofs.lemmas.Result.{IfOk-at_ok}
use Rattle.knx_model.specs.Rules.{first_broken}
use Rattle.project_check.specs.Devices.{AreDevices}
use Rattle.project_check.proofs.Ascending.{sorted_ascend}
use Rattle.project_check.proofs.Judged.{never_told}
use Rattle.project_check.proofs.checked.checked_by.Goals as goal

pub returns-in-Some-clause-memory : goal.returns-in-Some-clause-memory
returns-in-Some-clause-memory c same =
    let catalogue = c.args.catalogue.now in
    let ss = c.args.project.now.statements in
    let found = IfOk-at_ok (λ judged. judged.0 ≡ first_broken catalogue ss) c.in-Ok.is c.requires.found in
    absurd (never_told catalogue ss 0 ss c.in-Some.refused (sym found ∙ c.in-Some.is) same)

pub invariant_of-result : goal.invariant_of-result
invariant_of-result c =
    let catalogue = c.args.catalogue.now in
    let ss = c.args.project.now.statements in
    let found = IfOk-at_ok (λ judged. judged.0 ≡ first_broken catalogue ss) c.in-Ok.is c.requires.found in
    let devices = IfOk-at_ok (λ judged. AreDevices judged.1.items ss) c.in-Ok.is c.requires.devices in
    let sound : first_broken catalogue ss ≡ None = sym found ∙ c.in-None.is in
    record {
      sound = sound;
      all = devices.all;
      ascending = sorted_ascend catalogue ss c.in-Ok.devices.items sound devices.all devices.sorted;
    }
