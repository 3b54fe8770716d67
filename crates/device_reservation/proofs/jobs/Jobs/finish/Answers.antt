use Rattle.std.proofs.Common.{◌≡◌, Some, None, ap, subst, sym, ◌∙◌}
use Rattle.line_model.specs.Log.{numbered_from_one}
use Rattle.device_reservation.specs.Reservation.{Reservation, IsHeld}
use Rattle.device_reservation.proofs.Finishing.{kept_after_next, kept_after_last, next_at, next_within}
use Rattle.device_reservation.proofs.jobs.Jobs.finish.Goals as goal

pub insert-requires : goal.insert-requires
insert-requires c =
    let held : IsHeld (record { devices = c.self.inside.devices.items; stages = c.self.inside.stages.items }) c.args.job = subst (λ (r : Reservation). IsHeld r c.args.job) (sym c.self.view_is) c.requires in
    let at : numbered_from_one c.self.inside.next.items c.args.job ≡ Some (Some c.in-Some.next)
    = next_at _ c.self.inside.next.items c.self.inside.free _ c.args.job held.0 c.index.result.now c.self.invariant held.1 c.index.ensures ∙ ap Some c.in-Some.is in
    next_within _ _ c.self.inside.free _ c.args.job c.in-Some.next c.self.invariant at

pub invariant_of-self : goal.invariant_of-self
invariant_of-self c =
    let held : IsHeld (record { devices = c.self.inside.devices.items; stages = c.self.inside.stages.items }) c.args.job = subst (λ (r : Reservation). IsHeld r c.args.job) (sym c.self.view_is) c.requires in
    let at : numbered_from_one c.self.inside.next.items c.args.job ≡ Some (Some c.in-Some.next)
    = next_at _ c.self.inside.next.items c.self.inside.free _ c.args.job held.0 c.index.result.now c.self.invariant held.1 c.index.ensures ∙ ap Some c.in-Some.is in
    kept_after_next _ _ c.self.inside.free _ _ c.args.job held.0 c.in-Some.next c.self.invariant held.1 at c.insert.ensures.limit c.insert.ensures.itself c.insert.ensures.others

pub invariant_of-self-in_default : goal.invariant_of-self-in_default
invariant_of-self-in_default c =
    let held : IsHeld (record { devices = c.self.inside.devices.items; stages = c.self.inside.stages.items }) c.args.job = subst (λ (r : Reservation). IsHeld r c.args.job) (sym c.self.view_is) c.requires in
    let at : numbered_from_one c.self.inside.next.items c.args.job ≡ Some None
    = next_at _ c.self.inside.next.items c.self.inside.free _ c.args.job held.0 c.index.result.now c.self.invariant held.1 c.index.ensures ∙ ap Some c.in_default.is in
    kept_after_last _ _ c.self.inside.free _ c.args.job held.0 c.self.invariant held.1 at
