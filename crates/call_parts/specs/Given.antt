-- How giving an address ends, its text and its status: a line of what came of it, then the units of a simulated bus; or that there was no memory to tell it.
use Rattle.std.specs.Prelude.{ℕ, ◌≡◌, codes, List, [], ◌∷◌, ◌++◌, Some, Result, Ok, Err}
use Rattle.std.specs.Fmt.{decimal}
use Rattle.std.specs.List.{flat_map, enumerate_from}
use Rattle.address_talk.specs.declared.assigned.Assigned.{Assigned}
use Rattle.address_talk.specs.declared.assigned.Assigned.TheVariants as came
use Rattle.address_talk.specs.declared.assigned.AssignFault.{AssignFault}
use Rattle.address_talk.specs.declared.assigned.AssignFault.TheVariants as fails
use Rattle.address_world.specs.declared.unit.Unit.{Unit as BusUnit}
use Rattle.call_words.specs.declared.status.Status.{Status}
use Rattle.call_words.specs.declared.status.Status.TheVariants as status
use Rattle.call_words.specs.declared.stop.Stop.TheVariants as stop
use Rattle.call_words.specs.Printed.{fault_line}
use Rattle.call_words.specs.ReportText.{stop_text}
use Rattle.knx_model.specs.Addresses.{device_text}
use Rattle.knx_model.specs.declared.address.IndAddr.{IndAddr}
use Rattle.knx_model.specs.TextLines.{line}
use Rattle.line_model.specs.declared.fault.HubFault.TheVariants.{NoMemory, LinkFailed, GatewayRefused, Flooded}
use Rattle.call_parts.specs.declared.given.AssignEnd.{AssignEnd}
use Rattle.call_parts.specs.declared.given.AssignEnd.TheVariants as ending

-- ---- the line of what came of it

abbrev pub assigned_line : IndAddr → Assigned → List ℕ
assigned_line wanted came.Done = line (codes "assigned" ∷ device_text wanted ∷ [])
assigned_line wanted came.NoUnit = line (codes "no" ∷ codes "unit" ∷ [])
assigned_line wanted (came.Several first second) = line (codes "several" ∷ device_text first ∷ device_text second ∷ [])
assigned_line wanted came.Taken = line (codes "taken" ∷ device_text wanted ∷ [])
assigned_line wanted came.Unconfirmed = line (codes "unconfirmed" ∷ [])

-- a fault but the loss of the channel as at the end of a run
abbrev pub failed_line : AssignFault → List ℕ
failed_line fails.TunnelLost = line (codes "tunnel" ∷ codes "lost" ∷ [])
failed_line fails.LinkFailed = fault_line (Some LinkFailed)
failed_line (fails.GatewayRefused three) = fault_line (Some (GatewayRefused three))
failed_line fails.Flooded = fault_line (Some Flooded)
failed_line (fails.NoMemory want) = fault_line (Some (NoMemory want))

abbrev pub came_line : IndAddr → Result Assigned AssignFault → List ℕ
came_line wanted (Ok assigned) = assigned_line wanted assigned
came_line wanted (Err fault) = failed_line fault

abbrev pub assigned_status : Assigned → Status
assigned_status came.Done = status.Done
assigned_status came.NoUnit = status.NoUnit
assigned_status (came.Several first second) = status.Several
assigned_status came.Taken = status.Taken
assigned_status came.Unconfirmed = status.Unconfirmed

abbrev pub failed_status : AssignFault → Status
failed_status fails.TunnelLost = status.TunnelLost
failed_status fails.LinkFailed = status.Link
failed_status (fails.GatewayRefused three) = status.GatewayRefused
failed_status fails.Flooded = status.Flooded
failed_status (fails.NoMemory want) = status.NoMemory want

abbrev pub came_status : Result Assigned AssignFault → Status
came_status (Ok assigned) = assigned_status assigned
came_status (Err fault) = failed_status fault

-- ---- the units, one line each, counted from 1

-- unit K A.L.D
abbrev pub unit_line : ℕ → BusUnit → List ℕ
unit_line number unit = line (codes "unit" ∷ decimal number ∷ device_text unit.address ∷ [])

abbrev pub unit_lines : List BusUnit → List ℕ
unit_lines units = flat_map (λ p. unit_line p.0 p.1) (enumerate_from 1 units)

-- ---- all of it

abbrev pub assign_text : AssignEnd → List ℕ
assign_text (ending.Over given) = came_line given.wanted given.came ++ unit_lines given.units
assign_text (ending.Untold want) = stop_text (stop.NoMemory tt)

abbrev pub assign_status : AssignEnd → Status
assign_status (ending.Over given) = came_status given.came
assign_status (ending.Untold want) = status.NoMemory tt

-- ---- the end in the code

-- what came of it, for this address and with these units; or that memory was wanting
abbrev pub EndsAs : IndAddr → List BusUnit → Result Assigned AssignFault → AssignEnd → Type 0
EndsAs wanted units came (ending.Over given) = (given.wanted ≡ wanted) × (given.units ≡ units) × (given.came ≡ came)
EndsAs wanted units came (ending.Untold want) = Unit {0}
