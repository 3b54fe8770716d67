use Rattle.std.proofs.Common.{ap, refl, ◌∙◌}
use Rattle.std.specs.Option.{option_or}
use Rattle.knx_model.specs.Rules.{has_group}
use Rattle.project_check.proofs.Sized.{linked_known}
use Rattle.project_check.proofs.declared.add_first_object.Goals as goal

pub returns-in-Link : goal.returns-in-Link
returns-in-Link c = λ catalogue ss h f held a value is.
    let device = c.in-Link.device in
    let object = c.in-Link.object in
    let groups = c.in-Link.groups in
    rw c.in-Link.is (
    c.add_to_groups.ensures catalogue ss h f held a value is
    ∙ rw c.as_slice.ensures (ap (option_or (f a)) (linked_known catalogue ss a device object groups (has_group a groups) refl)))
