use Rattle.std.proofs.Common.{eqb, sym, ◌∙◌}
use Rattle.std.proofs.lemmas.List.Sorted.{list_any-IsPermutation}
use Rattle.knx_model.specs.declared.address.IndAddr.{IndAddr}
use Rattle.knx_model.specs.Rules.{devices_of}
use Rattle.project_check.proofs.Ascending.{any_device}
use Rattle.project_check.proofs.checked.Checked.has.Goals as goal

pub returns : goal.returns
returns c =
    let ss = c.self.inside.project.now.statements in
    let d = c.args.device.raw in
    let ds = c.self.inside.devices.items in
    record { value = rw (← c.self.view_is) (c.is_among.ensures ∙ rw c.as_slice.ensures.value (sym (list_any-IsPermutation (λ (a : IndAddr). eqb a.raw d) (devices_of ss) ds c.self.invariant.all)) ∙ any_device d ss) }
