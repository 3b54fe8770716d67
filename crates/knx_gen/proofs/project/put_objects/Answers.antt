use Rattle.std.proofs.Common.{sym}
use Rattle.std.proofs.lemmas.List.{append-nil}
use Rattle.knx_gen.specs.Generated.{object_lines}
use Rattle.knx_gen.proofs.Rounds.{objects_more}
use Rattle.knx_gen.proofs.project.put_objects.Goals as goal

pub loop-place-init : goal.loop-place-init
unfolding object_lines
loop-place-init c = sym (append-nil c.args.lines.now)

pub loop-place-preserved : goal.loop-place-preserved
loop-place-preserved c = objects_more c.args.lines.now _ _ c.args.device c.loop-place.place c.loop-place.invariant c.in_ok-push.ensures.ok
