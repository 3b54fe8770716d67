-- The plan that loads an image, and the plan that checks whether a device runs it. Each begins with two reads: the descriptor, which is
-- expected, and the greatest length of an APDU, which is noted, since it settles how long the pieces are. These are the operations 0 and 1;
-- what follows is numbered from 2 on.
use Rattle.std.specs.Prelude.{ℕ, ◌+◌, ◌*◌, ◌&&◌, ◌==◌, nat_le, List, [], ◌∷◌, ◌++◌, Option, Some, None, if◌then◌else◌}
use Rattle.knx_model.specs.declared.config.Image.{Image}
use Rattle.knx_model.specs.declared.loading.LoadState.TheVariants.{Unloaded}
use Rattle.knx_model.specs.declared.loading.LoadEvent.TheVariants.{Unload}
use Rattle.knx_model.specs.declared.loading.LoadableObject.{LoadableObject}
use Rattle.knx_model.specs.declared.loading.LoadableObject.TheVariants.{AddressTable, AssociationTable, GroupObjects, Application}
use Rattle.knx_model.specs.declared.frames.tpdu.Apdu.{Apdu}
use Rattle.knx_model.specs.declared.frames.tpdu.Apdu.TheVariants.{DescriptorRead, DescriptorResponse, PropertyRead, PropertyResponse}
use Rattle.knx_model.specs.declared.plan.Expect.TheVariants.{Is, Note}
use Rattle.knx_model.specs.declared.plan.PieceSize.{PieceSize}
use Rattle.knx_model.specs.declared.plan.PieceSize.TheVariants.{Twelve, Sixty}
use Rattle.knx_model.specs.ApduReading.{service_in, apdu_octets}
use Rattle.knx_model.specs.Plans.{Plan, Asks}
use Rattle.knx_model.specs.Operations.{Operation, event_then, loading, checking, listed}

-- ---- the size of the pieces

-- the least length of an APDU, as property 56 gives it, with which a device takes pieces of 60 octets
abbrev pub long_enough : ℕ
long_enough = 63

abbrev pub size_told : ℕ → List ℕ → PieceSize
size_told count (high ∷ low ∷ []) = if (count == 1) && nat_le long_enough (256 * high + low) then Sixty else Twelve
size_told count _ = Twelve

abbrev pub size_in : Option Apdu → PieceSize
size_in (Some (PropertyResponse index property count start octets)) = size_told count octets
size_in _ = Twelve

-- pieces have 60 octets where the answer is a property response with one value of two octets, which is at least 63, and else 12
abbrev pub size_by : Option (List ℕ) → PieceSize
size_by None = Twelve
size_by (Some got) = size_in (service_in got)

-- ---- the plans

-- the list of an object
abbrev pub list_of : Image → LoadableObject → List ℕ
list_of image AddressTable = image.addr
list_of image AssociationTable = image.assoc
list_of image GroupObjects = image.objs
list_of image Application = image.params

-- the objects 1 to 4 in turn
abbrev pub each_object : (LoadableObject → List Operation) → List Operation
each_object operations = operations AddressTable ++ (operations AssociationTable ++ (operations GroupObjects ++ operations Application))

-- property 56 of the device object is read, and what follows is settled by its answer
abbrev pub noting : (PieceSize → List Operation) → Plan
noting operations = Asks 1 (apdu_octets (PropertyRead 0 56 1 1)) Note (λ answer. listed 2 (operations (size_by answer)))

-- the descriptor is read, of a System B device, and then property 56
abbrev pub opened : (PieceSize → List Operation) → Plan
opened operations = Asks 0 (apdu_octets (DescriptorRead 0)) (Is (apdu_octets (DescriptorResponse 0 (Some 0x07B0)))) (λ _. noting operations)

-- the application is unloaded first and loaded last
unfoldable pub load_operations : Image → PieceSize → List Operation
load_operations image size = event_then Application Unload Unloaded ∷ each_object (λ o. loading size o (list_of image o))

unfoldable pub check_operations : Image → PieceSize → List Operation
check_operations image size = each_object (λ o. checking size o (list_of image o))

unfoldable pub load_plan : Image → Plan
load_plan image = opened (load_operations image)

unfoldable pub check_plan : Image → Plan
check_plan image = opened (check_operations image)
