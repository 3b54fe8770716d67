use Rattle.std.proofs.lemmas.Bool.{ltb-true}
use Rattle.table_compiler.proofs.Searched.{below_all, above_all}
use Rattle.table_compiler.proofs.devices.is_outside.Goals as goal

pub returns-then-device-devices : goal.returns-then-device-devices
returns-then-device-devices c = λ _. below_all c.args.devices.now c.args.device _ c.requires c.if-device-devices.true

pub returns : goal.returns
returns c = λ above. above_all c.args.devices.now c.args.device _ c.requires (ltb-true _ _ above)
