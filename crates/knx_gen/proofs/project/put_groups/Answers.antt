use Rattle.std.proofs.Common.{sym}
use Rattle.std.proofs.lemmas.List.{append-nil}
use Rattle.knx_gen.specs.Generated.{group_lines}
use Rattle.knx_gen.proofs.Rounds.{groups_more}
use Rattle.knx_gen.proofs.project.put_groups.Goals as goal

pub loop-place-init : goal.loop-place-init
unfolding group_lines
loop-place-init c = sym (append-nil c.args.lines.now)

pub loop-place-preserved : goal.loop-place-preserved
loop-place-preserved c = groups_more c.args.lines.now _ _ c.loop-place.place c.loop-place.invariant (rw c.name_of-name.ensures at c.in_ok-push.ensures.ok)
