-- What is shown of a device of the simulated line when a run has ended: new where what it keeps stands for what the new project says of it, else old
-- where its four objects are Loaded, else stopped; a device that the new project hasn't is never new. And its objects' values, where it has power.
use Rattle.std.specs.Prelude.{◌≡◌, true, false, List, Option, Some}
use Rattle.std.specs.List.{AllZip}
use Rattle.knx_model.specs.declared.address.IndAddr.{IndAddr}
use Rattle.knx_model.specs.declared.config.Image.{Image}
use Rattle.call_words.specs.declared.case.Case.{Case}
use Rattle.call_words.specs.declared.case.Case.TheVariants.{New, Old, Stopped}
use Rattle.knx_model.specs.Device.{NonVolatile, all_loaded}
use Rattle.knx_model.specs.DeviceState.{DeviceState}
use Rattle.knx_model.specs.Meaning.{Installation}
use Rattle.knx_model.specs.Promises.{RunsProject}
use Rattle.knx_model.specs.Rules.{has_device}
use Rattle.call_words.specs.Printed.{DeviceShown, values_shown}
use Rattle.line_model.specs.World.{World}
use Rattle.call_parts.specs.OnLine.{IsImageWhere}

-- it is one of the project's devices and runs what the project says of it
pub record RunsNew (project : Installation) (device : IndAddr) (nv : NonVolatile) : Type 0 where
  pub there : has_device project.statements device.raw ≡ true
  pub runs_it : RunsProject project device nv

pub data IsCase (project : Installation) (device : IndAddr) (nv : NonVolatile) : Case → Type 0 where
  IsNew : RunsNew project device nv → IsCase project device nv New
  IsOld : ¬ RunsNew project device nv → all_loaded nv ≡ true → IsCase project device nv Old
  IsStopped : all_loaded nv ≡ false → IsCase project device nv Stopped

pub record IsShown (project : Installation) (w : World) (shown : DeviceShown) (address : IndAddr) : Type 0 where
  pub device : shown.device ≡ address
  pub state : DeviceState
  pub there : w.devices address.raw ≡ Some state
  pub case : IsCase project address state.kept shown.case
  pub values : shown.values ≡ values_shown state

-- the devices of the line as they are shown
abbrev pub AreShown : Installation → World → List DeviceShown → List IndAddr → Type 0
AreShown project w shown devices = AllZip (IsShown project w) shown devices

-- ---- the same of what the code shows, by the image that is meant for a device

-- whatever project has this image of it, or hasn't the device
pub record IsShownOf (state : DeviceState) (d : IndAddr × Option Image) (shown : DeviceShown) : Type 0 where
  pub device : shown.device ≡ d.0
  pub case : (project : Installation) → IsImageWhere project d.0 d.1 → IsCase project d.0 state.kept shown.case
  pub values : shown.values ≡ values_shown state

-- of the device of the line that has this address
pub record IsShownIn (w : World) (shown : DeviceShown) (d : IndAddr × Option Image) : Type 0 where
  pub state : DeviceState
  pub there : w.devices d.0.raw ≡ Some state
  pub shows : IsShownOf state d shown

abbrev pub AreShownOf : World → List DeviceShown → List (IndAddr × Option Image) → Type 0
AreShownOf w shown devices = AllZip (IsShownIn w) shown devices
