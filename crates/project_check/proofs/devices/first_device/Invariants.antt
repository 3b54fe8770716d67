use Rattle.std.proofs.Common.{◌≡◌, drop}
use Rattle.knx_model.specs.Rules.{devices_of}
use Rattle.project_check.proofs.devices.first_device.Given as goal

abbrev pub invariant-loop-statement : goal.invariant-loop-statement
invariant-loop-statement l = devices_of (drop l.statement-index l.statements) ≡ devices_of l.statements
