-- A device to which a frame to a group has brought something.
use Rattle.std.specs.Prelude.{Some}
use Rattle.knx_model.specs.declared.frames.cemi.Ldata.{Ldata}
use Rattle.knx_model.specs.DeviceState.{DeviceState}
use Rattle.device_sim.specs.declared.brought.Brought.{Brought}
use Rattle.device_sim.specs.declared.brought.Brought.TheVariants.{NotTaken, Nothing, NewValues, Unsent}

abbrev pub brought_to : DeviceState → Ldata → Brought → DeviceState
brought_to d frame NotTaken = d
brought_to d frame Nothing = record d { last = Some frame }
brought_to d frame (NewValues values) = record d { values = values; last = Some frame }
brought_to d frame (Unsent frames) = record d { unsent = frames.items; last = Some frame }
