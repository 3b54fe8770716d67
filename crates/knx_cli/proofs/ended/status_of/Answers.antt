use Rattle.knx_cli.proofs.Exit.{told, numbered}
use Rattle.knx_cli.proofs.ended.status_of.Goals as goal

pub returns-in-Ok-clause-does : goal.returns-in-Ok-clause-does
returns-in-Ok-clause-does g c = rw (c.in-Ok.is, ← c.as_slice.ensures.value, told c.knx.result c.number.result c.number.ensures) c.knx.ensures.does

pub returns-in-Ok-clause-undialled : goal.returns-in-Ok-clause-undialled
returns-in-Ok-clause-undialled g c = rw (c.in-Ok.is, ← c.as_slice.ensures.value) c.knx.ensures.undialled

pub returns-in-Ok-clause-units : goal.returns-in-Ok-clause-units
returns-in-Ok-clause-units g c = rw (c.in-Ok.is, ← c.as_slice.ensures.value) c.knx.ensures.units

pub returns-in-Ok-clause-numbered : goal.returns-in-Ok-clause-numbered
returns-in-Ok-clause-numbered g c = numbered c.knx.result c.number.result c.number.ensures

pub returns-in-Ok-clause-watched : goal.returns-in-Ok-clause-watched
returns-in-Ok-clause-watched g c = rw (c.in-Ok.is, ← c.as_slice.ensures.value) c.knx.ensures.watched
