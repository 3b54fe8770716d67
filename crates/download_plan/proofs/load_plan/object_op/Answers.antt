use Rattle.std.proofs.Common.{arith}
use Rattle.download_plan.proofs.Places.{load_length}
use Rattle.download_plan.proofs.load_plan.object_op.Goals as goal

pub place_at-place-requires : goal.place_at-place-requires
place_at-place-requires c = omega (arith, load_length c.args.image.now c.args.size)
