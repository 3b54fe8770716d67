-- Each frame that a device of a calm line sends fits into a request of the tunnel.
use Rattle.std.specs.Prelude.{◌≤◌, List, [], ◌∷◌, length, Option, Some, None}
use Rattle.knx_model.specs.declared.frames.cemi.Ldata.{Ldata}
use Rattle.knx_model.specs.Apdu.{most_octets}
use Rattle.line_model.specs.World.{World, Event, DevSend, DevRepeat, waiting_at, repeat_at, replay}

-- its TPDU is one that is sent
abbrev pub IsShort : Option Ldata → Type 0
IsShort None = Unit {0}
IsShort (Some frame) = (1 ≤ length frame.tpdu) × (length frame.tpdu ≤ most_octets)

abbrev pub SendsShort : World → Event → Type 0
SendsShort w (DevSend device gateway left_out) = IsShort (waiting_at w device)
SendsShort w (DevRepeat device gateway) = IsShort (repeat_at w device)
SendsShort w _ = Unit {0}

abbrev pub AreShort : World → List Event → Type 0
AreShort start [] = Unit {0}
AreShort start (e ∷ past) = SendsShort (replay start past) e × AreShort start past
