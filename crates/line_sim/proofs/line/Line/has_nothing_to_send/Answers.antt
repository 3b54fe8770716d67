use Rattle.std.proofs.Common.{◌≡◌, ℕ, None, Some, rules}
use Rattle.line_model.specs.World.{now}
use Rattle.line_sim.specs.Line.{IsNow}
use Rattle.line_sim.specs.Places.{sending_at}
use Rattle.line_sim.proofs.Settling.{for_world, none_for_world, nothing_exactly}
use Rattle.line_sim.proofs.line.Line.has_nothing_to_send.Goals as goal

pub returns : goal.returns
returns c w is =
    nothing_exactly w c.next_sender.result c.gateway_due.result c.is_none.result c.eq.result
    (for_world (λ v s. sending_at (v.devices s.0) (now v) ≡ Some s.1) (IsNow c.args.self.now) c.next_sender.result w c.next_sender.ensures.found is)
    (none_for_world (λ v. (a : ℕ) → sending_at (v.devices a) (now v) ≡ None) (IsNow c.args.self.now) c.next_sender.result w c.next_sender.ensures.none is) (c.gateway_due.ensures w is) (search rules) (search rules)
