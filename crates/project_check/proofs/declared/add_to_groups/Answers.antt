use Rattle.std.proofs.Common.{◌<◌, ◌≤◌, cond, List, length, take, Option, Some, None, ap, ◌∙◌}
use Rattle.std.specs.Option.{option_or}
use Rattle.std.proofs.lemmas.List.{take_all, get_or_default}
use Rattle.knx_model.specs.declared.address.GroupAddr.{GroupAddr}
use Rattle.knx_model.specs.Rules.{has_group}
use Rattle.project_check.specs.Knowing.{known_object}
use Rattle.project_check.specs.declared.known.KnownObject.{KnownObject}
use Rattle.project_check.proofs.Sized.{group_more}
use Rattle.project_check.proofs.declared.add_to_groups.Goals as goal

pub loop-group-preserved : goal.loop-group-preserved
loop-group-preserved c = λ catalogue ss h f held g value is.
    let groups = c.args.groups.now in
    let i = c.loop-group.group-index in
    let object = c.args.object in
    let known : KnownObject = known_object catalogue ss object.device object.number in
    let lt : i < length groups = c.loop-group-test.true in
    c.add_to_group.ensures catalogue ss h (λ a. option_or (f a) (cond (has_group a (take i groups)) (Some known) None)) (c.loop-group.invariant catalogue ss h f held) g value is
    ∙ group_more g groups i _ (f g) known lt (get_or_default groups i _ _ lt)

pub returns : goal.returns
returns c = λ catalogue ss h f held g value is.
    let groups = c.args.groups.now in
    let i = c.loop-group.group-index in
    let object = c.args.object in
    let known : KnownObject = known_object catalogue ss object.device object.number in
    let le : length groups ≤ i = c.loop-group-test.false in
    c.loop-group.invariant catalogue ss h f held g value is ∙ ap (λ (xs : List GroupAddr). option_or (f g) (cond {A = Option KnownObject} (has_group g xs) (Some known) None)) (take_all i groups le)
