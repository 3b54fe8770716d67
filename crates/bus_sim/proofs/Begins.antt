-- The devices of a run as they begin, and the world that they are of.
use Rattle.std.proofs.Common.{◌≡◌, ℕ, zero, suc, ◌<◌, ◌==◌, List, [], ◌∷◌, length, drop, get_or, Option, Some, None, refl, ap, sym, subst, ◌∙◌, arith, drop-cons, if◌then◌else◌}
use Rattle.knx_model.specs.declared.address.IndAddr.{IndAddr}
use Rattle.knx_model.specs.declared.config.Image.{Image}
use Rattle.knx_model.specs.DeviceState.{DeviceState}
use Rattle.line_model.specs.Lines.{Script}
use Rattle.line_sim.specs.Places.{DevicesNow, AreDevices, with_device}
use Rattle.bus_sim.specs.Begun.{CanBegin, CanLoad, begins, device_begun}

-- each listed device can begin
pub can_at : (tunnel : IndAddr) (devices : List (IndAddr × Option Image)) (k : ℕ) (d : IndAddr × Option Image) → k < length devices → d ≡ get_or devices k d → CanLoad tunnel devices → CanBegin tunnel d
can_at tunnel [] k d lt e all = absurd (omega arith)
can_at tunnel (x ∷ devices) zero d lt e all = subst (CanBegin tunnel) (sym e) all.0
can_at tunnel (x ∷ devices) (suc k) d lt e all = can_at tunnel devices k d (omega arith) e all.1

begins_there : (script : Script) (address : IndAddr) (image : Option Image) → (begins script address image).address ≡ address
begins_there script address None = refl
begins_there script address (Some image) = refl

-- a device that is put before the others of the list goes before them
pub one_put : (script : Script) (devices : List (IndAddr × Option Image)) (k : ℕ) (d : IndAddr × Option Image) (made : DeviceState) (n : DevicesNow) → k < length devices → d ≡ get_or devices k d → made ≡ begins script d.0 d.1
    → AreDevices n (with_device made (device_begun script (drop (suc k) devices))) → AreDevices n (device_begun script (drop k devices))
one_put script devices k d made n lt e is after address =
    let front : drop k devices ≡ get_or devices k d ∷ drop (suc k) devices = drop-cons devices k d lt in
    let here : drop k devices ≡ d ∷ drop (suc k) devices = front ∙ ap (λ x. x ∷ drop (suc k) devices) (sym e) in
    ap (λ l. device_begun script l address) here
    ∙ sym (ap (λ (a : IndAddr). if address == a.raw then Some (begins script d.0 d.1) else device_begun script (drop (suc k) devices) address) (begins_there script d.0 d.1))
    ∙ sym (ap (λ (m : DeviceState). if address == m.address.raw then Some m else device_begun script (drop (suc k) devices) address) is)
    ∙ after address
