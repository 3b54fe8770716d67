-- How this crate's code takes a service: whole, over sound memory or over worn memory.
use Rattle.std.specs.Prelude.{ℕ, List}
use Rattle.device_sim.specs.declared.wear.Memory.{Memory}
use Rattle.device_sim.specs.declared.wear.Memory.TheVariants.{Sound, Worn}
use Rattle.knx_model.specs.Device.{NonVolatile, Effect, effect_in}
use Rattle.knx_model.specs.DeviceFrames.{Outcome, Whole, Worn as WornBy, kept_after, worn_octets}

abbrev pub outcome : Memory → Effect → Outcome
outcome Sound effect = Whole
outcome Worn effect = WornBy (worn_octets effect)

abbrev pub served_kept : NonVolatile → List ℕ → Memory → NonVolatile
served_kept kept octets memory = kept_after kept (effect_in octets) (outcome memory (effect_in octets))
