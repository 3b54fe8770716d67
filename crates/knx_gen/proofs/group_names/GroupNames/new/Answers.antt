use Rattle.std.proofs.Common.{◌∙◌}
use Rattle.knx_gen.specs.Generated.{group_names}
use Rattle.knx_gen.proofs.Rounds.{names_more}
use Rattle.knx_gen.proofs.group_names.GroupNames.new.Goals as goal

pub loop-place-init : goal.loop-place-init
unfolding group_names
loop-place-init c = c.new-names.ensures

pub loop-place-preserved : goal.loop-place-preserved
loop-place-preserved c = rw c.in_ok-name.ensures at c.in_ok-push.ensures.ok ∙ names_more _ c.loop-place.place c.loop-place.invariant
