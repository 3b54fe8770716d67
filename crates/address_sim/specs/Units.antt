-- Of which units of the world the held ones are a picture, place by place; and how many responses each has sent.
use Rattle.std.specs.Prelude.{◌≡◌, ℕ, true, false, List, [], ◌∷◌, Option, Some, None, slice_get, if◌then◌else◌}
use Rattle.address_world.specs.declared.unit.Unit.{Unit as BusUnit}
use Rattle.address_world.specs.AddressWorld.{AddressEvent, UnitState}
use Rattle.address_sim.specs.declared.units.Answers.{Answers}
use Rattle.address_sim.specs.declared.units.Units.{Units as HeldUnits}
use Rattle.address_sim.specs.Follows.{responses}

abbrev pub state_of : BusUnit → Answers → UnitState
state_of u a = record { address = u.address; programming = u.prog; unsent = if a.due then u.address ∷ [] else [] }

abbrev pub both_of : Option BusUnit → Option Answers → Option UnitState
both_of (Some u) (Some a) = Some (state_of u a)
both_of _ _ = None

abbrev pub state_at : HeldUnits → ℕ → Option UnitState
state_at held place = both_of (slice_get held.units.items place) (slice_get held.answers.items place)

abbrev pub AreUnits : HeldUnits → List UnitState → Type 0
AreUnits held states = (place : ℕ) → slice_get states place ≡ state_at held place

abbrev pub SentSo : Option Answers → ℕ → Type 0
SentSo None n = Unit {0}
SentSo (Some a) n = a.sent ≡ n

-- each unit has sent as many responses as there are in the events
abbrev pub AreCounted : HeldUnits → List AddressEvent → Type 0
AreCounted held events = (place : ℕ) → SentSo (slice_get held.answers.items place) (responses place events)

-- whether a response is still to be sent there
abbrev pub IsDueAt : Option Answers → Type 0
IsDueAt None = ⊥
IsDueAt (Some a) = a.due ≡ true

abbrev pub IsNotDueAt : Option Answers → Type 0
IsNotDueAt None = Unit {0}
IsNotDueAt (Some a) = a.due ≡ false
