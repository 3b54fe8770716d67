use Rattle.std.proofs.Common.{◌+◌, ◌-◌, ◌<◌, length, sym, subst, arith}
use Rattle.knx_model.specs.LoadPlan.{load_operations}
use Rattle.download_plan.specs.Left.{Listening}
use Rattle.download_plan.proofs.Places.{load_inside}
use Rattle.download_plan.proofs.load_plan.LoadPlanPlanSource.op.Goals as goal

pub object_op-requires-clause-within : goal.object_op-requires-clause-within
object_op-requires-clause-within c =
    subst (λ (p : Listening). c.args.k - 3 + 1 < length (load_operations p.image p.size)) (sym c.self.view_is) (load_inside c.args.self.now c.args.k c.requires (omega arith))
