use Rattle.std.proofs.Common.{List, ◌∷◌, [], ap, ◌∙◌}
use Rattle.knx_model.specs.declared.address.GroupAddr.{GroupAddr}
use Rattle.knx_model.specs.declared.project.What.TheVariants.{Link}
use Rattle.project_text.specs.Migrated.{link_to_one, numbered_after}
use Rattle.project_text.proofs.Appending.{map_step}
use Rattle.project_text.proofs.migration.put_links.Goals as goal

pub loop-group-preserved : goal.loop-group-preserved
loop-group-preserved c =
    map_step (link_to_one c.args.device c.args.object) c.args.groups.now c.loop-group.group-index (record { raw = 0 }) c.args.out.now c.loop-group.out c.put.new.out c.loop-group-test.true c.loop-group.invariant
    (c.in_ok-put.ensures ∙ ap (λ (groups : List GroupAddr). numbered_after c.loop-group.out (Link c.args.device c.args.object groups ∷ [])) c.one.ensures)
