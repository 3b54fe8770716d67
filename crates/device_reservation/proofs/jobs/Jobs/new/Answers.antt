use Rattle.std.proofs.Common.{◌≡◌, ℕ, length, replicate, subst, rules, arith}
use Rattle.device_reservation.specs.declared.stage.Stage.TheVariants.{Untaken}
use Rattle.device_reservation.specs.Kept.{IsKept}
use Rattle.device_reservation.specs.Reservation.{Reservation, none_taken}
use Rattle.device_reservation.proofs.Beginning.{kept_at_first}
use Rattle.device_reservation.proofs.jobs.Jobs.new.Goals as goal

pub invariant_of-result : goal.invariant_of-result
invariant_of-result c =
    let stages : c.in_ok-stages.stages.items ≡ replicate (length c.args.devices.now) Untaken = c.in_ok-stages.ensures.items_if_clones_equal (λ y. search rules) in
    let devices : c.in_ok-devices.devices.items ≡ c.args.devices.now = c.in_ok-devices.ensures.items in
    let count : length c.args.devices.now ≡ c.len-untaken.result = omega (arith, c.in_ok-devices.ensures.len) in
    let P : Reservation → ℕ → Type 0 = λ r untaken. IsKept r c.in_ok-next.field-0.next.items c.in_ok-next.field-0.first untaken in
    let kept : P (none_taken c.args.devices.now) (length c.args.devices.now)
    = kept_at_first c.args.devices.now _ _ c.requires c.in_ok-next.ensures.next c.in_ok-next.ensures.room c.in_ok-next.ensures.first_are c.in_ok-next.ensures.are_first in
    subst (P (record { devices = c.in_ok-devices.devices.items; stages = c.in_ok-stages.stages.items })) count (rw (devices, stages) kept)

pub returns : goal.returns
returns c =
    let stages : c.in_ok-stages.stages.items ≡ replicate (length c.args.devices.now) Untaken = c.in_ok-stages.ensures.items_if_clones_equal (λ y. search rules) in
    let devices : c.in_ok-devices.devices.items ≡ c.args.devices.now = c.in_ok-devices.ensures.items in
    rw (devices, stages) (λ i. none_taken c.args.devices.now)
