-- What a confirmation says, and what a cut of the power takes.
use Rattle.std.proofs.Common.{◌≡◌, ℕ, List, [], Bool, true, false, not, ◌&&◌, ◌||◌, ◌==◌, refl, sym, ap, ◌∙◌, arith, Option, Some, None, if◌then◌else◌}
use Rattle.std.proofs.lemmas.Bool.{or_left}
use Rattle.knx_model.specs.declared.frames.cemi.Ldata.{Ldata}
use Rattle.knx_model.specs.ApduReading.{option_map}
use Rattle.knx_model.specs.DeviceConnection.{Closed}
use Rattle.knx_model.specs.DeviceState.{DeviceState, cut, zero_values}
use Rattle.line_model.specs.World.{World, Cut, takes_it, is_among, confirmation, step}

-- ---- confirmations

error_of : (group among taken : Bool) → not (group || (not among && taken)) ≡ (not group && (among || not taken))
error_of true among taken = refl
error_of false true taken = refl
error_of false false taken = refl

error_is : (w : World) (left_out : List ℕ) (frame : Ldata)
    → (confirmation w left_out frame).error ≡ (not frame.group && (is_among left_out frame.destination || not (takes_it frame (w.devices frame.destination))))
error_is w left_out frame = error_of frame.group (is_among left_out frame.destination) (takes_it frame (w.devices frame.destination))

pub to_group : (w : World) (left_out : List ℕ) (frame : Ldata) → frame.group ≡ true → (confirmation w left_out frame).error ≡ false
to_group w left_out frame g = error_is w left_out frame ∙ ap (λ (b : Bool). not b && (is_among left_out frame.destination || not (takes_it frame (w.devices frame.destination)))) g

pub lost : (w : World) (left_out : List ℕ) (frame : Ldata) → frame.group ≡ false → is_among left_out frame.destination ≡ true → (confirmation w left_out frame).error ≡ true
lost w left_out frame g a =
    error_is w left_out frame ∙ ap (λ (b : Bool). not b && (is_among left_out frame.destination || not (takes_it frame (w.devices frame.destination)))) g
    ∙ or_left (is_among left_out frame.destination) (not (takes_it frame (w.devices frame.destination))) a

not_lost : (a b : Bool) → a ≡ false → (a || b) ≡ b
not_lost true b e = cc
not_lost false b e = refl

pub by_taking : (w : World) (left_out : List ℕ) (frame : Ldata) → frame.group ≡ false → is_among left_out frame.destination ≡ false
    → (confirmation w left_out frame).error ≡ not (takes_it frame (w.devices frame.destination))
by_taking w left_out frame g a =
    error_is w left_out frame ∙ ap (λ (b : Bool). not b && (is_among left_out frame.destination || not (takes_it frame (w.devices frame.destination)))) g
    ∙ not_lost (is_among left_out frame.destination) (not (takes_it frame (w.devices frame.destination))) a

-- ---- a cut

itself : (a : ℕ) → (a == a) ≡ true
itself a = grind arith

cut_at : (b : Bool) (x : Option DeviceState) (d : DeviceState) → b ≡ true → (if b then option_map cut x else x) ≡ Some d → (old : DeviceState) × ((x ≡ Some old) × (cut old ≡ d))
cut_at true None d e h = cc
cut_at true (Some old) d e h = (old, (refl, cc))
cut_at false x d e h = cc

pub cut_is : (w : World) (device : ℕ) (d : DeviceState) → (step w (Cut device)).devices device ≡ Some d → (old : DeviceState) × ((w.devices device ≡ Some old) × (cut old ≡ d))
cut_is w device d h = cut_at (device == device) (w.devices device) d (itself device) h

pub cut_closes : (w : World) (device : ℕ) (d : DeviceState) → (step w (Cut device)).devices device ≡ Some d → d.connection ≡ Closed
cut_closes w device d h = let c = cut_is w device d h in ap (λ (x : DeviceState). x.connection) (sym c.1.1)

pub cut_stops : (w : World) (device : ℕ) (d : DeviceState) → (step w (Cut device)).devices device ≡ Some d → d.power ≡ false
cut_stops w device d h = let c = cut_is w device d h in ap (λ (x : DeviceState). x.power) (sym c.1.1)

pub cut_empties : (w : World) (device : ℕ) (d : DeviceState) → (step w (Cut device)).devices device ≡ Some d → (d.values ≡ zero_values) × (d.unsent ≡ [])
cut_empties w device d h = let c = cut_is w device d h in (ap (λ (x : DeviceState). x.values) (sym c.1.1), ap (λ (x : DeviceState). x.unsent) (sym c.1.1))

same_kept : (x : Option DeviceState) (old one : DeviceState) → x ≡ Some old → x ≡ Some one → one.kept ≡ old.kept
same_kept x old one p q = let e : one ≡ old = cc in ap (λ (y : DeviceState). y.kept) e

pub cut_keeps : (w : World) (device : ℕ) (old d : DeviceState) → w.devices device ≡ Some old → (step w (Cut device)).devices device ≡ Some d → d.kept ≡ old.kept
cut_keeps w device old d o h =
    let c = cut_is w device d h in
    ap (λ (x : DeviceState). x.kept) (sym c.1.1) ∙ same_kept (w.devices device) old c.0 o c.1.0
