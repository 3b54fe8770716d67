-- What is written is read as the frame that was written.
use Rattle.std.proofs.Common.{◌≡◌, ℕ, ◌/◌, ◌%◌, ◌≤◌, Bool, true, false, refl, arith, length, IsTrue}
use Rattle.std.specs.Prelude.{◌&&◌, ◌==◌, nat_lt}
use Rattle.std.proofs.lemmas.Grind.{common_steps}
use Rattle.knx_model.specs.declared.frames.cemi.Ldata.{Ldata}
use Rattle.knx_model.specs.declared.frames.cemi.LdataCode.{LdataCode}
use Rattle.knx_model.specs.declared.frames.cemi.LdataCode.TheVariants.{Req, Con, Ind}
use Rattle.knx_model.specs.Cemi.{Reads, Written, IsInRange, IsStandard, HasNoFormat, code_octet, is_extended, first_written, second_written}
use Rattle.knx_model.specs.Apdu.{most_standard_octets}

error_again : (code : LdataCode) (extended error : Bool) → (IsTrue error → code ≡ Con) → error ≡ ((code_octet code == 0x2E) && (first_written extended error % 2 == 1))
error_again Req extended true h = absurd (grind (arith, common_steps))
error_again Ind extended true h = absurd (grind (arith, common_steps))
error_again Con true true h = refl
error_again Con false true h = refl
error_again Req extended false h = refl
error_again Ind extended false h = refl
error_again Con true false h = refl
error_again Con false false h = refl

group_again : (group : Bool) → group ≡ (second_written group / 128 == 1)
group_again true = refl
group_again false = refl

format_again : (group : Bool) → HasNoFormat (second_written group)
format_again true = refl
format_again false = refl

-- a first control octet that is standard is that of a short TPDU
short_again : (n : ℕ) (error : Bool) → IsStandard (first_written (nat_lt most_standard_octets n) error) → n ≤ most_standard_octets
short_again n true h = grind (arith, common_steps)
short_again n false h = grind (arith, common_steps)

priority_again : (extended error : Bool) → 3 ≡ first_written extended error / 4 % 4
priority_again true true = refl
priority_again true false = refl
priority_again false true = refl
priority_again false false = refl

hops_again : (group : Bool) → 6 ≡ second_written group / 16 % 8
hops_again true = refl
hops_again false = refl

pub written_reads : (frame : Ldata) → IsInRange frame → Reads (Written frame) frame
written_reads frame h = record {
  long = grind (arith, common_steps, h.some);
  body = record {
    long = grind (arith, common_steps, h.some);
    code = refl;
    format = λ _. format_again frame.group;
    error = error_again frame.code (is_extended frame) frame.error h.error;
    priority = rw h.priority (priority_again (is_extended frame) frame.error);
    group = group_again frame.group;
    hops = rw h.hops (hops_again frame.group);
    source = omega arith;
    destination = omega arith;
    length_octet = omega (arith, h.some);
    short = short_again (length frame.tpdu) frame.error;
    fits = h.fits;
    tpdu = refl;
  };
}
