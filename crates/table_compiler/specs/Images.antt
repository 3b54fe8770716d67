-- The images of a project's devices.
use Rattle.std.specs.Prelude.{◌≡◌, ◌≤◌, Bool, ◌==◌, List, None, length, map}
use Rattle.std.specs.List.{AllZip, list_any}
use Rattle.std.specs.List.Sorted.{IsStrictlyIncreasing}
use Rattle.knx_model.specs.declared.address.IndAddr.{IndAddr}
use Rattle.knx_model.specs.declared.catalogue.model.NamedModel.{NamedModel}
use Rattle.knx_model.specs.declared.config.Image.{Image}
use Rattle.knx_model.specs.declared.project.Statement.{Statement}
use Rattle.knx_model.specs.Acts.{IsInRange}
use Rattle.knx_model.specs.Device.{Fits}
use Rattle.knx_model.specs.Meaning.{Installation, meaning}
use Rattle.knx_model.specs.Rules.{first_broken}
use Rattle.knx_model.specs.Tables.{StandsFor}
use Rattle.project_check.specs.Devices.{raw_of}
use Rattle.table_compiler.specs.Drafts.{IsDraft}
use Rattle.table_compiler.specs.declared.drafts.Draft.{Draft}

-- the compiled image of what a project says of a device: it fits, its tables' numbers have two octets, and its objects are numbered up to 255 at most
pub record IsImage (project : Installation) (device : IndAddr) (image : Image) : Type 0 where
  pub stands : StandsFor image (meaning project device)
  pub fits : Fits image
  pub in_range : IsInRange (meaning project device)
  pub few_objects : length (meaning project device).objects ≤ 255

-- the compiled image of whichever device these are the lines of, in a text that breaks no rule
pub record IsImageOfDraft (catalogue : List NamedModel) (draft : Draft) (image : Image) : Type 0 where
  pub is_image : (device : IndAddr) (ss : List Statement) → IsDraft device draft ss → first_broken catalogue ss ≡ None → IsImage (record { statements = ss; catalogue = catalogue }) device image

-- the device is one of these
abbrev pub is_among : List IndAddr → IndAddr → Bool
is_among devices device = list_any (λ d. d.raw == device.raw) devices

-- ascending devices, and as many images
pub record ArePaired (devices : List IndAddr) (images : List Image) : Type 0 where
  pub ascending : IsStrictlyIncreasing (map raw_of devices)
  pub long : length images ≡ length devices

-- devices, and the image of each by what the project says of it
abbrev pub AreImagesOf : Installation → List IndAddr × List Image → Type 0
AreImagesOf project images = AllZip (IsImage project) images.0 images.1
