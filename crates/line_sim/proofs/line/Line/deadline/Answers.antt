use Rattle.std.proofs.Common.{◌≡◌, refl, ap, subst, ◌∙◌}
use Rattle.knx_model.specs.Connection.{nearer}
use Rattle.line_sim.specs.Line.{LineNow}
use Rattle.tunnel_sim.specs.Tunnels.{tunnel_now}
use Rattle.line_sim.proofs.Deadlines.{IsDeadline, always_settled, later_than_now, never, not_from_then, settled_until, until}
use Rattle.line_sim.proofs.line.Line.deadline.Goals as goal

exact : (c : goal.After-nearer) → IsDeadline c.args.self.now c.deadline.result c.nearer.result
exact c =
    let old : LineNow = record { tunnel = tunnel_now c.self.inside.tunnel; devices = c.self.inside.devices; echo = c.self.inside.echo } in
    let seen : old ≡ c.args.self.now = let h = c.self.view_is in cc in
    let is : IsDeadline old c.deadline.result c.nearer.result = record { of_devices = c.deadline.ensures; is = c.nearer.ensures ∙ ap (nearer c.deadline.result) c.deadline-2.ensures } in
    subst (λ (n : LineNow). IsDeadline n c.deadline.result c.nearer.result) seen is

pub returns-clause-never : goal.returns-clause-never
returns-clause-never c = never c.deadline_is_nearest.ensures c.args.self.now c.deadline.result c.nearer.result (exact c) c.nearer.result refl

pub returns-clause-until : goal.returns-clause-until
returns-clause-until c = until c.deadline_is_nearest.ensures c.args.self.now c.deadline.result c.nearer.result (exact c) c.nearer.result refl

pub returns-clause-from_then : goal.returns-clause-from_then
returns-clause-from_then c = not_from_then c.deadline_is_nearest.ensures c.args.self.now c.deadline.result c.nearer.result (exact c) c.nearer.result refl

pub returns-clause-later : goal.returns-clause-later
returns-clause-later c = later_than_now c.deadline_is_nearest.ensures c.args.self.now c.deadline.result c.nearer.result (exact c) c.nearer.result refl

pub returns-clause-always_settled : goal.returns-clause-always_settled
returns-clause-always_settled c = always_settled c.deadline_is_nearest.ensures c.args.self.now c.deadline.result c.nearer.result (exact c) c.nearer.result refl

pub returns-clause-settled : goal.returns-clause-settled
returns-clause-settled c = settled_until c.deadline_is_nearest.ensures c.args.self.now c.deadline.result c.nearer.result (exact c) c.nearer.result refl
