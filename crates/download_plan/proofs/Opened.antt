-- The two reads that a plan begins with: they change nothing, and the second tells the size of the pieces.
use Rattle.std.proofs.Common.{◌≡◌, true, not, List, Option, Some, refl, sym, ◌∙◌, ap, subst, arith}
use Rattle.knx_model.specs.declared.device.FrameSupport.{FrameSupport}
use Rattle.knx_model.specs.declared.device.FrameSupport.TheVariants.{Standard, Extended}
use Rattle.knx_model.specs.declared.frames.tpdu.Apdu.{Apdu}
use Rattle.knx_model.specs.declared.frames.tpdu.Apdu.TheVariants.{DescriptorRead, DescriptorResponse, PropertyRead, PropertyResponse}
use Rattle.knx_model.specs.declared.plan.Expect.TheVariants.{Note}
use Rattle.knx_model.specs.declared.plan.PieceSize.{PieceSize}
use Rattle.knx_model.specs.declared.plan.PieceSize.TheVariants.{Twelve, Sixty}
use Rattle.knx_model.specs.Apdu.{IsApduInRange, word}
use Rattle.knx_model.specs.ApduReading.{service_in, apdu_octets}
use Rattle.knx_model.specs.ClientConnection.{is_memory_write}
use Rattle.knx_model.specs.Device.{NonVolatile, Effect, Nothing, greatest_length, effect_of, effect_in, answer_in, reads_at_once, whole}
use Rattle.knx_model.specs.DeviceFrames.{Outcome, kept_after}
use Rattle.knx_model.specs.Plans.{Suits, fits_both, is_fitting}
use Rattle.knx_model.specs.Operations.{Operation, expecting, listed, piece_octets}
use Rattle.knx_model.specs.LoadPlan.{size_in, size_by, size_told, opened, noting}
use Rattle.knx_model.specs.GoodPlan.{AnswersAll, kept_by_all, kept_by, IsSendable}
use Rattle.knx_model.proofs.Leads.{Leads}
use Rattle.apdu_frames.proofs.Function.{service_again}
use Rattle.apdu_frames.proofs.Apdus.{written_apdu}
use Rattle.download_plan.proofs.Octets.{IsWritable, AllWritable, effect_again, answer_again, answer_suits, kept_nothing, octets_sendable}

abbrev descriptor : Operation
descriptor = expecting (DescriptorRead 0) (DescriptorResponse 0 (Some 0x07B0))

pub descriptor_writable : IsWritable descriptor
descriptor_writable = record { service = omega arith; expected = omega arith; awaits = refl }

abbrev reads_length : Apdu
reads_length = PropertyRead 0 56 1 1

pub length_in_range : IsApduInRange reads_length
length_in_range = (omega arith, omega arith)

abbrev tells_length : FrameSupport → Apdu
tells_length frames = PropertyResponse 0 56 1 1 (word (greatest_length frames))

told_in_range : (frames : FrameSupport) → IsApduInRange (tells_length frames)
told_in_range frames = (omega arith, omega arith, omega arith)

-- a service without effect leaves all as it is
kept_read : (s : Apdu) → IsApduInRange s → effect_of s ≡ Nothing → (nv : NonVolatile) (outcome : Outcome) → kept_by nv (apdu_octets s) outcome ≡ nv
kept_read s r e nv outcome = ap (λ (e : Effect). kept_after nv e outcome) (effect_again s r ∙ e) ∙ kept_nothing nv outcome

-- where the rest leads with pieces of either size, the plan leads, whatever is noted
noting_leads : (frames : FrameSupport) (P R : NonVolatile → Type 0) (operations : PieceSize → List Operation) (start : NonVolatile) → P start → ((size : PieceSize) → Leads (answer_in frames) P R (listed 2 (operations size)) start) → Leads (answer_in frames) P R (noting operations) start
noting_leads frames P R operations start h k = (
  h,
  λ outcome. subst P (sym (kept_read reads_length length_in_range refl start outcome)) h,
  λ outcome t s. subst (Leads (answer_in frames) P R (listed 2 (operations (size_by (answer_in frames start (apdu_octets reads_length)))))) (sym (kept_read reads_length length_in_range refl start outcome))
      (k (size_by (answer_in frames start (apdu_octets reads_length)))),
)

pub opened_leads : (frames : FrameSupport) (P R : NonVolatile → Type 0) (operations : PieceSize → List Operation) (start : NonVolatile) → P start → ((size : PieceSize) → Leads (answer_in frames) P R (listed 2 (operations size)) start) → Leads (answer_in frames) P R (opened operations) start
opened_leads frames P R operations start h k = (
  h,
  λ outcome. subst P (sym (kept_read (DescriptorRead 0) descriptor_writable.service refl start outcome)) h,
  λ outcome t s. subst (Leads (answer_in frames) P R (noting operations)) (sym (kept_read (DescriptorRead 0) descriptor_writable.service refl start outcome)) (noting_leads frames P R operations start h k),
)

-- ---- the size

abbrev pub size_of : FrameSupport → PieceSize
size_of Standard = Twelve
size_of Extended = Sixty

pub size_read : (frames : FrameSupport) → reads_at_once frames (piece_octets (size_of frames)) ≡ true
size_read Standard = refl
size_read Extended = refl

told_size : (frames : FrameSupport) → size_told 1 (word (greatest_length frames)) ≡ size_of frames
told_size Standard = refl
told_size Extended = refl

length_answer : (frames : FrameSupport) (nv : NonVolatile) → answer_in frames nv (apdu_octets reads_length) ≡ Some (apdu_octets (tells_length frames))
length_answer frames nv = answer_again frames nv reads_length length_in_range

pub size_is : (frames : FrameSupport) (nv : NonVolatile) → size_by (answer_in frames nv (apdu_octets reads_length)) ≡ size_of frames
size_is frames nv = ap size_by (length_answer frames nv) ∙ (ap size_in (service_again (tells_length frames) (told_in_range frames)) ∙ told_size frames)

length_fits : (frames : FrameSupport) → is_fitting (apdu_octets reads_length) (apdu_octets (tells_length frames)) ≡ true
length_fits frames =
    ap (λ (s : Option Apdu). fits_both s (service_in (apdu_octets (tells_length frames)))) (service_again reads_length length_in_range)
    ∙ ap (λ (s : Option Apdu). fits_both (Some reads_length) s) (service_again (tells_length frames) (told_in_range frames))

length_suits : (frames : FrameSupport) (nv : NonVolatile) → Suits (apdu_octets reads_length) Note (answer_in frames nv (apdu_octets reads_length))
length_suits frames nv = subst (Suits (apdu_octets reads_length) Note) (sym (length_answer frames nv)) (length_fits frames)

-- ---- given whole

after_descriptor : (nv : NonVolatile) → whole nv (effect_in (apdu_octets (DescriptorRead 0))) ≡ nv
after_descriptor nv = ap (whole nv) (effect_again (DescriptorRead 0) descriptor_writable.service)

after_length : (nv : NonVolatile) → whole nv (effect_in (apdu_octets reads_length)) ≡ nv
after_length nv = ap (whole nv) (effect_again reads_length length_in_range)

noting_kept : (frames : FrameSupport) (operations : PieceSize → List Operation) (nv : NonVolatile) → kept_by_all (answer_in frames) (noting operations) nv ≡ kept_by_all (answer_in frames) (listed 2 (operations (size_of frames))) nv
noting_kept frames operations nv =
    ap (kept_by_all (answer_in frames) (listed 2 (operations (size_by (answer_in frames nv (apdu_octets reads_length)))))) (after_length nv)
    ∙ ap (λ (size : PieceSize). kept_by_all (answer_in frames) (listed 2 (operations size)) nv) (size_is frames nv)

pub opened_kept : (frames : FrameSupport) (operations : PieceSize → List Operation) (nv : NonVolatile) → kept_by_all (answer_in frames) (opened operations) nv ≡ kept_by_all (answer_in frames) (listed 2 (operations (size_of frames))) nv
opened_kept frames operations nv = ap (kept_by_all (answer_in frames) (noting operations)) (after_descriptor nv) ∙ noting_kept frames operations nv

pub opened_answers : (frames : FrameSupport) (operations : PieceSize → List Operation) (nv : NonVolatile) → AnswersAll (answer_in frames) (listed 2 (operations (size_of frames))) nv → AnswersAll (answer_in frames) (opened operations) nv
opened_answers frames operations nv h =
    let rest : AnswersAll (answer_in frames) (listed 2 (operations (size_by (answer_in frames nv (apdu_octets reads_length))))) nv
    = subst (λ (size : PieceSize). AnswersAll (answer_in frames) (listed 2 (operations size)) nv) (sym (size_is frames nv)) h in
    let noted : AnswersAll (answer_in frames) (noting operations) nv
    = (length_suits frames nv, subst (AnswersAll (answer_in frames) (listed 2 (operations (size_by (answer_in frames nv (apdu_octets reads_length)))))) (sym (after_length nv)) rest) in
    (answer_suits frames nv descriptor descriptor_writable refl, subst (AnswersAll (answer_in frames) (noting operations)) (sym (after_descriptor nv)) noted)

pub opened_answered : (frames : FrameSupport) (operations : PieceSize → List Operation) (nv : NonVolatile) → AnswersAll (answer_in frames) (opened operations) nv → AnswersAll (answer_in frames) (listed 2 (operations (size_of frames))) nv
opened_answered frames operations nv h =
    let noted : AnswersAll (answer_in frames) (noting operations) nv = subst (AnswersAll (answer_in frames) (noting operations)) (after_descriptor nv) h.1 in
    subst (λ (size : PieceSize). AnswersAll (answer_in frames) (listed 2 (operations size)) nv) (size_is frames nv)
    (subst (AnswersAll (answer_in frames) (listed 2 (operations (size_by (answer_in frames nv (apdu_octets reads_length)))))) (after_length nv) noted.1)

pub opened_sendable : (operations : PieceSize → List Operation) → ((size : PieceSize) → AllWritable (operations size)) → IsSendable (opened operations)
opened_sendable operations w = (
  written_apdu (DescriptorRead 0) descriptor_writable.service,
  sym (ap (λ (s : Option Apdu). not (is_memory_write s)) (service_again (DescriptorRead 0) descriptor_writable.service)),
  λ _. (
    written_apdu reads_length length_in_range,
    sym (ap (λ (s : Option Apdu). not (is_memory_write s)) (service_again reads_length length_in_range)),
    λ answer. octets_sendable 2 (operations (size_by answer)) (w (size_by answer)),
  ),
)
