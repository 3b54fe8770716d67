-- The services of a load plan fit into the frames that the device takes.
use Rattle.std.proofs.Common.{◌≡◌, ℕ, zero, suc, ◌+◌, ◌≤◌, List, [], ◌∷◌, ◌++◌, length, map, refl, sym, subst, arith}
use Rattle.std.specs.List.{AllByRecursion, range_with_len}
use Rattle.knx_model.specs.declared.config.Image.{Image}
use Rattle.knx_model.specs.declared.device.FrameSupport.{FrameSupport}
use Rattle.knx_model.specs.declared.device.FrameSupport.TheVariants.{Standard, Extended}
use Rattle.knx_model.specs.declared.frames.tpdu.Apdu.TheVariants.{PropertyRead}
use Rattle.knx_model.specs.declared.loading.LoadState.{LoadState}
use Rattle.knx_model.specs.declared.loading.LoadState.TheVariants.{Unloaded, Loaded, Loading}
use Rattle.knx_model.specs.declared.loading.LoadEvent.{LoadEvent}
use Rattle.knx_model.specs.declared.loading.LoadEvent.TheVariants.{StartLoading, LoadCompleted, Allocate, Unload}
use Rattle.knx_model.specs.declared.loading.LoadableObject.{LoadableObject}
use Rattle.knx_model.specs.declared.loading.LoadableObject.TheVariants.{AddressTable, AssociationTable, GroupObjects, Application}
use Rattle.knx_model.specs.declared.plan.PieceSize.{PieceSize}
use Rattle.knx_model.specs.declared.plan.PieceSize.TheVariants.{Twelve}
use Rattle.knx_model.specs.ApduReading.{apdu_in, tpdu_in, service_in, apdu_octets}
use Rattle.knx_model.specs.Device.{NonVolatile, answer_in, whole, effect_in}
use Rattle.knx_model.specs.GoodPlan.{Answering, services_given}
use Rattle.knx_model.specs.LoadPlan.{list_of, each_object, size_by, noting, load_operations, load_plan}
use Rattle.knx_model.specs.Operations.{Operation, listed, event_then, piece_count, piece, writes_piece, reads_piece, each_piece, filling, loading}
use Rattle.download_plan.proofs.Short.{AllShort, operations_short}
use Rattle.knx_model.specs.Served.{FitsInto}
use Rattle.load_law.specs.Undisturbed.{AllFit}

-- ---- a device that takes extended frames takes each

all_in : (l : List (List ℕ)) → AllByRecursion (λ apdu. FitsInto Extended apdu) l
all_in [] = tt
all_in (x ∷ l) = (tt, all_in l)

-- ---- the whole plan

listed_short : (place : ℕ) (answers : Answering) (operations : List Operation) (nv : NonVolatile) → AllShort operations → AllByRecursion (λ apdu. FitsInto Standard apdu) (services_given answers (listed place operations) nv)
listed_short place answers [] nv h = tt
listed_short place answers (x ∷ xs) nv h = (h.0, listed_short (suc place) answers xs _ h.1)

-- a device of standard frames is given pieces of twelve octets
size_is : (nv : NonVolatile) → size_by (answer_in Standard nv (apdu_octets (PropertyRead 0 56 1 1))) ≡ Twelve
unfolding service_in tpdu_in apdu_in
size_is nv = refl

noted_short : (image : Image) (nv : NonVolatile) → AllByRecursion (λ apdu. FitsInto Standard apdu) (services_given (answer_in Standard) (noting (load_operations image)) nv)
noted_short image nv = (
  omega arith,
  subst (λ (size : PieceSize). AllByRecursion (λ apdu. FitsInto Standard apdu) (services_given (answer_in Standard) (listed 2 (load_operations image size)) (whole nv (effect_in (apdu_octets (PropertyRead 0 56 1 1)))))) (sym (size_is nv))
      (listed_short 2 (answer_in Standard) (load_operations image Twelve) _ (operations_short image)),
)

pub load_fits : (frames : FrameSupport) (image : Image) (nv : NonVolatile) → AllFit frames (answer_in frames) (load_plan image) nv
unfolding load_plan
load_fits Standard image nv = (omega arith, noted_short image _)
load_fits Extended image nv = all_in (services_given (answer_in Extended) (load_plan image) nv)
