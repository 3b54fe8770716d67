use Rattle.std.proofs.Common.{refl}
use Rattle.knx_top.proofs.commands.decode.call.Goals as goal

pub returns : goal.returns
returns c = rw c.told-2.ensures (record { end = _; tells = c.told.ensures; replied = refl })
