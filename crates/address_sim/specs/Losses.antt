-- What is lost on the simulated bus, by the lines of its text (this project's own): the N-th broadcast for a unit, or a unit's N-th response for the
-- gateway. The lines count units from 1; events name them by their places, from 0.
use Rattle.std.specs.Prelude.{ℕ, suc, ◌-◌, Bool, true, false, not, ◌&&◌, ◌==◌, nat_lt, List, if◌then◌else◌, Option, Some, None}
use Rattle.std.specs.List.{list_any, filter_map}
use Rattle.address_world.specs.declared.unit.UnitLoss.{UnitLoss}

-- both are true, or both are false
abbrev pub alike : Bool → Bool → Bool
alike true b = b
alike false b = not b

abbrev pub is_loss : Bool → ℕ → ℕ → UnitLoss → Bool
is_loss answer place n loss = alike loss.answer answer && (loss.unit == suc place) && (loss.n == n)

-- the N-th broadcast is lost for the unit at this place
abbrev pub loses_read : List UnitLoss → ℕ → ℕ → Bool
loses_read losses place n = list_any (is_loss false place n) losses

-- its N-th response is lost for the gateway
abbrev pub loses_answer : List UnitLoss → ℕ → ℕ → Bool
loses_answer losses place n = list_any (is_loss true place n) losses

-- the place for which a line says that the N-th broadcast is lost
abbrev pub place_without : ℕ → UnitLoss → Option ℕ
place_without n loss = if not loss.answer && nat_lt 0 loss.unit && (loss.n == n) then Some (loss.unit - 1) else None

-- all places for which it is lost
abbrev pub without : List UnitLoss → ℕ → List ℕ
without losses n = filter_map (place_without n) losses
