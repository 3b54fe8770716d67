-- How many answers services have.
use Rattle.std.proofs.Common.{◌≡◌, ℕ, suc, ◌+◌, ◌≤◌, List, [], ◌∷◌, Bool, true, false, not, Option, Some, None, refl, sym, ◌∙◌, arith}
use Rattle.std.proofs.lemmas.Bool.{false≢true}
use Rattle.knx_model.specs.declared.device.FrameSupport.{FrameSupport}
use Rattle.knx_model.specs.declared.frames.tpdu.Apdu.{Apdu}
use Rattle.knx_model.specs.declared.frames.tpdu.Apdu.TheVariants.{GroupRead, GroupResponse, GroupWrite, AddressWrite, AddressRead, AddressResponse, MemoryRead, MemoryResponse, MemoryWrite, DescriptorRead, DescriptorResponse, PropertyRead, PropertyResponse, PropertyWrite}
use Rattle.knx_model.specs.ApduReading.{service_in}
use Rattle.knx_model.specs.ClientConnection.{has_answer, is_memory_write}
use Rattle.knx_model.specs.Device.{NonVolatile, answer_at, answer_in}

abbrev pub Texts : Type 0
Texts = List (List ℕ)

-- ---- a memory write has no answer

unanswered : (frames : FrameSupport) (kept : NonVolatile) (o : Option Apdu) → not (is_memory_write o) ≡ false → answer_at frames kept o ≡ None
unanswered frames kept None h = refl
unanswered frames kept (Some (MemoryWrite address octets)) h = refl
unanswered frames kept (Some GroupRead) h = refl
unanswered frames kept (Some (GroupResponse value)) h = refl
unanswered frames kept (Some (GroupWrite value)) h = refl
unanswered frames kept (Some (AddressWrite address)) h = refl
unanswered frames kept (Some AddressRead) h = refl
unanswered frames kept (Some AddressResponse) h = refl
unanswered frames kept (Some (MemoryRead count address)) h = absurd (false≢true (sym h))
unanswered frames kept (Some (MemoryResponse address octets)) h = refl
unanswered frames kept (Some (DescriptorRead kind)) h = absurd (false≢true (sym h))
unanswered frames kept (Some (DescriptorResponse kind value)) h = refl
unanswered frames kept (Some (PropertyRead index property count start)) h = absurd (false≢true (sym h))
unanswered frames kept (Some (PropertyResponse index property count start octets)) h = refl
unanswered frames kept (Some (PropertyWrite index property count start octets)) h = absurd (false≢true (sym h))

pub no_answer : (frames : FrameSupport) (kept : NonVolatile) (apdu : List ℕ) → has_answer apdu ≡ false → answer_in frames kept apdu ≡ None
no_answer frames kept apdu h = unanswered frames kept (service_in apdu) h

-- ---- how many of these services have an answer

abbrev pub one_if : Bool → ℕ
one_if true = 1
one_if false = 0

abbrev pub want : Texts → ℕ
want [] = 0
want (apdu ∷ l) = want l + one_if (has_answer apdu)

-- a service with an answer has one more
pub want_more : (frames : FrameSupport) (kept : NonVolatile) (apdu v : List ℕ) (l : Texts) (n : ℕ) → answer_in frames kept apdu ≡ Some v → n ≤ want l → suc n ≤ want (apdu ∷ l)
want_more frames kept apdu v l n is h = by_bool (has_answer apdu) refl where
  by_bool : (b : Bool) → has_answer apdu ≡ b → suc n ≤ want l + one_if b
  by_bool true e = omega arith
  by_bool false e = absurd (let g : None ≡ Some v = sym (no_answer frames kept apdu e) ∙ is in cc)
