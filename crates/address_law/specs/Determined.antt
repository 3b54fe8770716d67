-- What comes of giving an address where nothing is lost, by the units at the start alone: nobody is in programming mode, several are, or just one, which
-- has the wanted address already or gets it, unless another unit has it. So it is told done exactly where just one unit is in programming mode, and
-- either has the wanted address or no unit has it; and where it is, that unit has it then. In every other case all units keep their addresses.
use Rattle.std.specs.Prelude.{◌≡◌, ◌≢◌, ◌≤◌, Bool, true, false, ◌==◌, List, [], ◌∷◌, map, length, Contains, if◌then◌else◌, Result, Ok, Err}
use Rattle.std.specs.List.{list_any}
use Rattle.knx_model.specs.declared.address.IndAddr.{IndAddr}
use Rattle.address_world.specs.declared.unit.Unit.{Unit as BusUnit}
use Rattle.address_talk.specs.declared.assigned.Assigned.{Assigned}
use Rattle.address_talk.specs.declared.assigned.Assigned.TheVariants.{Done, NoUnit, Several, Taken}
use Rattle.address_talk.specs.declared.assigned.AssignFault.{AssignFault}
use Rattle.address_talk.specs.declared.assigned.AssignFault.TheVariants.{TunnelLost, LinkFailed, GatewayRefused, Flooded, NoMemory}

-- ---- the units

-- the addresses of the units in programming mode
abbrev pub programmed : List BusUnit → List IndAddr
programmed [] = []
programmed (u ∷ units) = if u.prog then u.address ∷ programmed units else programmed units

-- a unit has this address
abbrev pub is_there : IndAddr → List BusUnit → Bool
is_there wanted units = list_any (λ (u : BusUnit). u.address.raw == wanted.raw) units

-- a unit with the wanted address, if it is in programming mode
abbrev pub given : IndAddr → BusUnit → BusUnit
given wanted u = if u.prog then record u { address = wanted } else u

-- ---- what is told

pub data Determines (wanted : IndAddr) (units : List BusUnit) : Assigned → Type 0 where
  NobodyIs : programmed units ≡ [] → Determines wanted units NoUnit
  SeveralAre : {first second : IndAddr} → 2 ≤ length (programmed units) → Contains (programmed units) first → Contains (programmed units) second → Determines wanted units (Several first second)
  HasIt : programmed units ≡ wanted ∷ [] → Determines wanted units Done
  GetsIt : {source : IndAddr} → programmed units ≡ source ∷ [] → is_there wanted units ≡ false → Determines wanted units Done
  AnotherHasIt : {source : IndAddr} → programmed units ≡ source ∷ [] → source ≢ wanted → is_there wanted units ≡ true → Determines wanted units Taken

-- the units behind what was told
abbrev pub left_by : IndAddr → Assigned → List BusUnit → List BusUnit
left_by wanted Done units = map (given wanted) units
left_by wanted _ units = units

-- ---- how it ends: the units at the start, and those at the end

pub record EndsWith (wanted : IndAddr) (start now : List BusUnit) (assigned : Assigned) : Type 0 where
  pub determined : Determines wanted start assigned
  pub left : now ≡ left_by wanted assigned start

-- it fails only for want of memory, for the link, or where too many datagrams came
abbrev pub FailsOutside : AssignFault → Type 0
FailsOutside TunnelLost = ⊥
FailsOutside LinkFailed = Unit {0}
FailsOutside (GatewayRefused three) = ⊥
FailsOutside Flooded = Unit {0}
FailsOutside (NoMemory want) = Unit {0}

abbrev pub IsDetermined : IndAddr → List BusUnit → List BusUnit → Result Assigned AssignFault → Type 0
IsDetermined wanted start now (Ok assigned) = EndsWith wanted start now assigned
IsDetermined wanted start now (Err fault) = FailsOutside fault
