-- The confirmation of a frame that was read is read as one.
use Rattle.std.proofs.Common.{◌≡◌, ℕ, ◌≤◌, List, length, Bool, true, Some, refl, ◌∙◌, ap, arith}
use Rattle.knx_model.specs.declared.address.IndAddr.{IndAddr}
use Rattle.knx_model.specs.declared.frames.cemi.Ldata.{Ldata}
use Rattle.knx_model.specs.declared.frames.cemi.LdataCode.TheVariants.{Con}
use Rattle.line_model.specs.Reading.{ldata_in}
use Rattle.line_model.specs.World.{on_bus}
use Rattle.line_model.specs.ChannelLost.{is_confirmation, is_confirmation_of}
use Rattle.knx_model.specs.Cemi.{Written as cemi_octets}
use Rattle.line_law.proofs.Alike.{its_own}
use Rattle.line_law.proofs.ReadBack.{read_range, written_in}
use Rattle.calm_law.proofs.State.{is_con_frame, Fits}

pub con_reads : (me : IndAddr) (cemi : List ℕ) (f : Ldata) (error : Bool) → ldata_in cemi ≡ Some f → (is_con_frame (record (on_bus me f) { code = Con; error = error }) ≡ true) × (is_confirmation_of (Some f) (ldata_in (cemi_octets (record (on_bus me f) { code = Con; error = error }))) ≡ true) × Fits (record (on_bus me f) { code = Con; error = error })
con_reads me cemi f error reads =
    let range = read_range cemi f reads in
    let some : 1 ≤ length f.tpdu = range.0 in
    let short : length f.tpdu ≤ 64 = range.1 in (
      ap is_confirmation (written_in Con error f.group me.raw f.destination f.tpdu range.0 range.1 tt),
      ap (is_confirmation_of (Some f)) (written_in Con error f.group me.raw f.destination f.tpdu range.0 range.1 tt) ∙ its_own (Some f) f (record (on_bus me f) { code = Con; error = error }) refl refl refl refl refl,
      record { some = omega (arith, some); short = omega (arith, short) },
    )
