-- Which plans a device serves, whatever its answers are: each service fits into a frame that the device takes (the greatest length of an APDU, ISO/IEC
-- 14543-3-3), and is answered exactly where its service has an answer. So a client that goes through such a plan never waits in vain.
use Rattle.std.specs.Prelude.{ℕ, ◌≡◌, ◌≤◌, is_some, List, length, Option, Some, None}
use Rattle.knx_model.specs.declared.device.FrameSupport.{FrameSupport}
use Rattle.knx_model.specs.declared.device.FrameSupport.TheVariants.{Standard, Extended}
use Rattle.knx_model.specs.Apdu.{most_standard_octets}
use Rattle.knx_model.specs.ClientConnection.{has_answer}
use Rattle.knx_model.specs.Device.{NonVolatile, whole, effect_in, answer_in}
use Rattle.knx_model.specs.Plans.{Plan, Over, Asks, Suits}

-- a service fits into a frame that the device takes
abbrev pub FitsInto : FrameSupport → List ℕ → Type 0
FitsInto Standard apdu = length apdu ≤ most_standard_octets
FitsInto Extended apdu = Unit {0}

-- from this content on, as long as each answer is the wanted one
abbrev pub IsServed : FrameSupport → Plan → NonVolatile → Type 0
IsServed frames Over nv = Unit {0}
IsServed frames (Asks place apdu expect next) nv =
    FitsInto frames apdu × (is_some (answer_in frames nv apdu) ≡ has_answer apdu) × (Suits apdu expect (answer_in frames nv apdu) → IsServed frames (next (answer_in frames nv apdu)) (whole nv (effect_in apdu)))
