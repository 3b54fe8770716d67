-- With what a device begins, and when it runs exactly what a project says.
use Rattle.std.specs.Prelude.{◌≡◌, true, false, Some}
use Rattle.knx_model.specs.declared.address.IndAddr.{IndAddr}
use Rattle.knx_model.specs.declared.config.Image.{Image}
use Rattle.knx_model.specs.Meaning.{Installation, meaning}
use Rattle.knx_model.specs.Tables.{StandsFor}
use Rattle.knx_model.specs.Device.{NonVolatile, runs}
use Rattle.knx_model.specs.DeviceState.{DeviceState, blank, loaded_with}
use Rattle.knx_model.specs.Rules.{has_device}

-- a device that keeps nv runs exactly what the project says of it
pub record RunsProject (project : Installation) (device : IndAddr) (nv : NonVolatile) : Type 0 where
  pub image : Image
  pub runs_it : runs nv ≡ Some image
  pub stands : StandsFor image (meaning project device)

-- the device begins loaded with the compiled image of the project before, where that has it, and else blank
pub data StartOf (before : Installation) (device : IndAddr) (start : DeviceState) : Type 0 where
  BeginsLoaded : has_device before.statements device.raw ≡ true → (image : Image) → StandsFor image (meaning before device) → start ≡ loaded_with device image → StartOf before device start
  BeginsBlank : has_device before.statements device.raw ≡ false → start ≡ blank device → StartOf before device start
