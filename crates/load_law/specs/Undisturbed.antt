-- A download that nothing disturbs: each frame goes over the bus once and is taken whole, and each end answers at once.
use Rattle.std.specs.Prelude.{ℕ, List, [], ◌∷◌, ◌++◌, Option, Some, None}
use Rattle.std.specs.List.{AllByRecursion}
use Rattle.knx_model.specs.declared.device.FrameSupport.{FrameSupport}
use Rattle.knx_model.specs.Device.{NonVolatile, whole, effect_in}
use Rattle.knx_model.specs.DeviceFrames.{Whole}
use Rattle.knx_model.specs.GoodPlan.{Answering, services_given}
use Rattle.knx_model.specs.Plans.{Plan, Over, Asks as Operation}
use Rattle.knx_model.specs.Served.{FitsInto}
use Rattle.session_law.specs.Device.{Comes}
use Rattle.session_law.specs.Events.{Event, Connects, Asks, Takes, Replies, Joins, Bus, DevSend}

-- the channel, the T_Connect and its confirmation; the newest event first
abbrev pub opening : List Event
opening = Takes ∷ Bus Whole ∷ Connects ∷ Joins 0 ∷ []

-- a service and its confirmation, and the device's T_ACK
abbrev pub acknowledged : List ℕ → List Event
acknowledged apdu = Takes ∷ DevSend Comes ∷ Takes ∷ Bus Whole ∷ Asks apdu ∷ []

-- where it has an answer that comes too, and the client's T_ACK and its confirmation
abbrev pub operation : List ℕ → Option (List ℕ) → List Event
operation apdu None = acknowledged apdu
operation apdu (Some got) = Takes ∷ Bus Whole ∷ Replies ∷ Takes ∷ DevSend Comes ∷ acknowledged apdu

-- of a device with these answers, which keeps this
abbrev pub operations : Answering → Plan → NonVolatile → List Event
operations answers Over nv = []
operations answers (Operation place apdu expect next) nv = operations answers (next (answers nv apdu)) (whole nv (effect_in apdu)) ++ operation apdu (answers nv apdu)

abbrev pub undisturbed : Answering → Plan → NonVolatile → List Event
undisturbed answers plan nv = operations answers plan nv ++ opening

-- each service that is given fits into a frame that the device takes
abbrev pub AllFit : FrameSupport → Answering → Plan → NonVolatile → Type 0
AllFit frames answers plan nv = AllByRecursion (λ apdu. FitsInto frames apdu) (services_given answers plan nv)
