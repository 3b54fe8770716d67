-- The tunnel of a calm line: each value that a device holds at the beginning fits into a response, and time passes only where the channel awaits nothing.
use Rattle.std.specs.Prelude.{◌≡◌, ℕ, suc, ◌≤◌, List, [], ◌∷◌, length, Option, Some, None}
use Rattle.std.specs.List.{AllByRecursion}
use Rattle.knx_model.specs.declared.frames.value.Value.{Value}
use Rattle.knx_model.specs.Apdu.{most_octets}
use Rattle.knx_model.specs.DeviceFrames.{response_octets}
use Rattle.knx_model.specs.DeviceState.{DeviceState}
use Rattle.line_model.specs.World.{World, Event, Pass}
use Rattle.line_model.specs.Record.{record_of}
use Rattle.line_model.specs.ClientView.{ClientChannel, channel}
use Rattle.line_model.specs.Undisturbed.{AwaitsNothing}

-- ---- the values that the devices hold

-- a value fits into a response
abbrev pub FitsResponse : Option Value → Type 0
FitsResponse None = Unit {0}
FitsResponse (Some value) = length (response_octets value) ≤ most_octets

abbrev pub HaveShortValues : World → Type 0
HaveShortValues start = (a : ℕ) (d : DeviceState) → start.devices a ≡ Some d → AllByRecursion FitsResponse d.values

-- ---- where time passes

abbrev pub ChannelIdles : ClientChannel → Event → Type 0
ChannelIdles ch (Pass (suc ms)) = AwaitsNothing ch
ChannelIdles ch _ = Unit {0}

abbrev pub PassesIdlyOnLine : World → List Event → Type 0
PassesIdlyOnLine start [] = Unit {0}
PassesIdlyOnLine start (e ∷ past) = ChannelIdles (channel (record_of start past)) e × PassesIdlyOnLine start past
