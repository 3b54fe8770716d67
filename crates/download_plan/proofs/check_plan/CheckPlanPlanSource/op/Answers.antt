use Rattle.std.proofs.Common.{◌-◌, ◌<◌, length, sym, subst, arith}
use Rattle.knx_model.specs.LoadPlan.{check_operations}
use Rattle.download_plan.specs.Left.{Listening}
use Rattle.download_plan.proofs.Places.{check_inside}
use Rattle.download_plan.proofs.check_plan.CheckPlanPlanSource.op.Goals as goal

pub object_op-requires-clause-within : goal.object_op-requires-clause-within
object_op-requires-clause-within c =
    subst (λ (p : Listening). c.args.k - 2 < length (check_operations p.image p.size)) (sym c.self.view_is) (check_inside c.args.self.now c.args.k c.requires (omega arith))
