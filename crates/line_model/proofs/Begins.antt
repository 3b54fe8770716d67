-- The start of the runs is a fresh one, and settled.
use Rattle.std.proofs.Common.{◌≡◌, ℕ, Bool, true, false, Some, None, refl, sym, subst, ◌==◌, if◌then◌else◌}
use Rattle.std.proofs.lemmas.Bool.{eqb-true}
use Rattle.knx_model.specs.Device.{NonVolatile, HasCapacities}
use Rattle.knx_model.specs.DeviceConnection.{device_expired}
use Rattle.knx_model.specs.DeviceSending.{next_sending}
use Rattle.knx_model.specs.DeviceState.{DeviceState, device_with}
use Rattle.line_model.specs.Fresh.{IsFresh, IsAtRest, Settled}
use Rattle.line_model.specs.Gateway.{gateway_expired}
use Rattle.line_model.specs.Legal.{OfDevice}
use Rattle.line_model.specs.Runs.{device, begin}
use Rattle.line_model.specs.Tunnel.{Commissions}

-- what holds of the one device holds of each
pub of_each : (P : DeviceState → Type 0) (x d : DeviceState) (b : Bool) → (b ≡ true → P x) → (if b then Some x else None) ≡ Some d → P d
of_each P x d true h e = subst (OfDevice P) e (h refl)
of_each P x d false h e = cc

rests : (kept : NonVolatile) (a : ℕ) → HasCapacities kept → (a == 0x1105) ≡ true → IsAtRest a (device_with device kept)
rests kept a capacities e = record { capacities = capacities; named = sym (eqb-true a 0x1105 e); unconnected = refl; nothing_unsent = refl; nothing_got = refl }

pub is_fresh : (kept : NonVolatile) → HasCapacities kept → IsFresh (begin kept)
is_fresh kept capacities = record { tunnel = refl; echo = refl; devices = λ a d e. of_each (IsAtRest a) (device_with device kept) d (a == 0x1105) (rests kept a capacities) e }

pub is_settled : (kept : NonVolatile) → Settled Commissions (begin kept)
unfolding device_expired gateway_expired
is_settled kept = record {
  tunnel = record { up = λ age s e. cc; down = λ age s e. cc; bus = refl };
  nothing_to_send = record { devices = λ a d e. of_each (λ x. next_sending x 0 ≡ None) (device_with device kept) d (a == 0x1105) (λ h. refl) e; gateway = refl };
}
