use Rattle.std.proofs.Common.{◌≡◌, true, false, refl}
use Rattle.knx_top.specs.commands.check.{IsCountsText}
use Rattle.knx_top.specs.commands.migrate.{IsMigratedText}
use Rattle.knx_top.specs.commands.tables.{IsTablesText}
use Rattle.knx_top.proofs.Calls.Assigns.{assign_no_run, assign_sim_no_run}
use Rattle.knx_top.proofs.Calls.Decodes.{frame_no_run}
use Rattle.knx_top.proofs.Calls.Finds.{find_no_run}
use Rattle.call_parts.proofs.Projects.{project_no_run}
use Rattle.knx_top.proofs.commands.run.Goals as goal

pub returns-in-Check-clause-does : goal.returns-in-Check-clause-does
returns-in-Check-clause-does g c = rw c.in-Check.is (c.call.ensures.told, record { line = refl; report = project_no_run IsCountsText _ _ _ c.call.result c.call.ensures.told })

pub returns-in-Tables-clause-does : goal.returns-in-Tables-clause-does
returns-in-Tables-clause-does g c = rw c.in-Tables.is (c.call-in-Tables.ensures.told, record { line = refl; report = project_no_run IsTablesText _ _ _ c.call-in-Tables.result c.call-in-Tables.ensures.told })

pub returns-in-Migrate-clause-does : goal.returns-in-Migrate-clause-does
returns-in-Migrate-clause-does g c = rw c.in-Migrate.is (c.call-in-Migrate.ensures.told, record { line = refl; report = project_no_run IsMigratedText _ _ _ c.call-in-Migrate.result c.call-in-Migrate.ensures.told })

pub returns-in-Sim-clause-does : goal.returns-in-Sim-clause-does
returns-in-Sim-clause-does g c = rw c.in-Sim.is (c.call-in-Sim.ensures.told, c.call-in-Sim.ensures.link)

pub returns-in-Big-clause-does : goal.returns-in-Big-clause-does
returns-in-Big-clause-does g c = rw c.in-Big.is (c.call-in-Big.ensures.told, (λ _. refl), c.call-in-Big.ensures.link)

pub returns-in-Decode-clause-does : goal.returns-in-Decode-clause-does
returns-in-Decode-clause-does g c = rw c.in-Decode.is (c.call-in-Decode.ensures, (λ _. refl), record { line = refl; report = frame_no_run _ c.call-in-Decode.result c.call-in-Decode.ensures })

pub returns-in-Download-clause-does : goal.returns-in-Download-clause-does
returns-in-Download-clause-does g c = rw c.in-Download.is (c.call-in-Download.ensures.told, refl)

pub returns-in-Download-clause-undialled : goal.returns-in-Download-clause-undialled
returns-in-Download-clause-undialled g c = rw c.in-Download.is (λ untouched. absurd (let e : true ≡ false = untouched in cc))

pub returns-in-Gateway-clause-does : goal.returns-in-Gateway-clause-does
returns-in-Gateway-clause-does g c = rw c.in-Gateway.is (c.call-in-Gateway.ensures.told, c.call-in-Gateway.ensures.no_run)

pub returns-in-Gateway-clause-undialled : goal.returns-in-Gateway-clause-undialled
returns-in-Gateway-clause-undialled g c = rw c.in-Gateway.is (λ untouched. absurd (let e : true ≡ false = untouched in cc))

pub returns-in-Find-clause-does : goal.returns-in-Find-clause-does
returns-in-Find-clause-does g c = rw c.in-Find.is (c.call-in-Find.ensures, (λ _. refl), record { line = refl; report = find_no_run _ _ _ c.call-in-Find.result c.call-in-Find.ensures })

pub returns-in-Find-clause-undialled : goal.returns-in-Find-clause-undialled
returns-in-Find-clause-undialled g c = rw c.in-Find.is (λ untouched. absurd (let e : true ≡ false = untouched in cc))

pub returns-in-Check-clause-watched : goal.returns-in-Check-clause-watched
returns-in-Check-clause-watched g c = rw c.in-Check.is (λ run. absurd (let e : false ≡ true = run in cc))

pub returns-in-Tables-clause-watched : goal.returns-in-Tables-clause-watched
returns-in-Tables-clause-watched g c = rw c.in-Tables.is (λ run. absurd (let e : false ≡ true = run in cc))

pub returns-in-Migrate-clause-watched : goal.returns-in-Migrate-clause-watched
returns-in-Migrate-clause-watched g c = rw c.in-Migrate.is (λ run. absurd (let e : false ≡ true = run in cc))

pub returns-in-Decode-clause-watched : goal.returns-in-Decode-clause-watched
returns-in-Decode-clause-watched g c = rw c.in-Decode.is (λ run. absurd (let e : false ≡ true = run in cc))

pub returns-in-Gateway-clause-watched : goal.returns-in-Gateway-clause-watched
returns-in-Gateway-clause-watched g c = rw c.in-Gateway.is (λ run. absurd (let e : false ≡ true = run in cc))

pub returns-in-Find-clause-watched : goal.returns-in-Find-clause-watched
returns-in-Find-clause-watched g c = rw c.in-Find.is (λ run. absurd (let e : false ≡ true = run in cc))

pub returns-in-Sim-clause-watched : goal.returns-in-Sim-clause-watched
returns-in-Sim-clause-watched g c = rw c.in-Sim.is (λ run. c.call-in-Sim.ensures.watched)

pub returns-in-Sim-clause-unwatched : goal.returns-in-Sim-clause-unwatched
returns-in-Sim-clause-unwatched g c = rw c.in-Sim.is (λ none. absurd (let e : true ≡ false = none in cc))

pub returns-in-Download-clause-watched : goal.returns-in-Download-clause-watched
returns-in-Download-clause-watched g c = rw c.in-Download.is (λ run. c.call-in-Download.ensures.watched)

pub returns-in-Download-clause-unwatched : goal.returns-in-Download-clause-unwatched
returns-in-Download-clause-unwatched g c = rw c.in-Download.is (λ none. absurd (let e : true ≡ false = none in cc))

pub returns-in-Big-clause-watched : goal.returns-in-Big-clause-watched
returns-in-Big-clause-watched g c = rw c.in-Big.is (λ run. c.call-in-Big.ensures.watched)

pub returns-in-Big-clause-unwatched : goal.returns-in-Big-clause-unwatched
returns-in-Big-clause-unwatched g c = rw c.in-Big.is (λ none. absurd (let e : true ≡ false = none in cc))

pub returns-in-Assign-clause-does : goal.returns-in-Assign-clause-does
returns-in-Assign-clause-does g c = rw c.in-Assign.is (c.call-in-Assign.ensures, (λ _. refl), record { line = refl; report = assign_no_run _ _ _ c.call-in-Assign.result c.call-in-Assign.ensures })

pub returns-in-Assign-clause-undialled : goal.returns-in-Assign-clause-undialled
returns-in-Assign-clause-undialled g c = rw c.in-Assign.is (λ untouched. absurd (let e : true ≡ false = untouched in cc))

pub returns-in-AssignSim-clause-does : goal.returns-in-AssignSim-clause-does
returns-in-AssignSim-clause-does g c = rw c.in-AssignSim.is (c.call_sim.ensures.told, record { line = refl; report = assign_sim_no_run _ _ _ _ _ c.call_sim.result c.call_sim.ensures.told })

pub returns-in-AssignSim-clause-units : goal.returns-in-AssignSim-clause-units
returns-in-AssignSim-clause-units g c = rw c.in-AssignSim.is (λ untouched. absurd (let e : true ≡ false = untouched in cc))

pub returns-in-Assign-clause-watched : goal.returns-in-Assign-clause-watched
returns-in-Assign-clause-watched g c = rw c.in-Assign.is (λ run. absurd (let e : false ≡ true = run in cc))

pub returns-in-AssignSim-clause-watched : goal.returns-in-AssignSim-clause-watched
returns-in-AssignSim-clause-watched g c = rw c.in-AssignSim.is (λ run. absurd (let e : false ≡ true = run in cc))
