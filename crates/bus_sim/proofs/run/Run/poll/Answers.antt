use Rattle.std.proofs.Common.{◌+◌, ◌≤◌, ℕ, refl, arith}
use Rattle.line_model.specs.World.{now}
use Rattle.bus_sim.specs.Polls.{StopsWithin}
use Rattle.bus_sim.specs.Went.{world}
use Rattle.bus_sim.proofs.Polling.{OnErrAny}
use Rattle.bus_sim.proofs.Turning.{goes_same}
use Rattle.bus_sim.proofs.run.Run.poll.Goals as goal

later : (now wait : ℕ) → now ≤ now + wait
later now wait = omega arith

pub returns-in_err-drives-clause-err : goal.returns-in_err-drives-clause-err
returns-in_err-drives-clause-err c = OnErrAny c.from_residual.result (StopsWithin c.args.wait_ms c.args.self.now c.args.self.now) (record { goes = goes_same c.args.self.now c.args.self.now refl; in_time = later (now (world c.args.self.now)) c.args.wait_ms })
