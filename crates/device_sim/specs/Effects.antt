-- The effects of this crate's code are those of the definitions.
use Rattle.device_sim.specs.declared.effect.Effect.{Effect as CodeEffect}
use Rattle.device_sim.specs.declared.effect.Effect.TheVariants as code
use Rattle.knx_model.specs.Device.{Effect, Loads, Stores, Nothing}

abbrev pub meant : CodeEffect → Effect
meant (code.Loads o event) = Loads o event
meant (code.Stores address octets) = Stores address octets
meant code.Nothing = Nothing
