-- What a memory write is answered.
use Rattle.std.proofs.Common.{ℕ, ◌≡◌, List, Bool, true, false, Option, Some, None, refl, sym, ap, ◌∙◌, if◌then◌else◌}
use Rattle.std.proofs.lemmas.Bool.{false≢true}
use Rattle.knx_model.specs.declared.device.FrameSupport.{FrameSupport}
use Rattle.knx_model.specs.declared.frames.tpdu.Apdu.{Apdu}
use Rattle.knx_model.specs.declared.frames.tpdu.Apdu.TheVariants.{GroupRead, GroupResponse, GroupWrite, AddressWrite, AddressRead, AddressResponse, MemoryRead, MemoryResponse, MemoryWrite, DescriptorRead, DescriptorResponse, PropertyRead, PropertyResponse, PropertyWrite}
use Rattle.knx_model.specs.ApduReading.{service_in, apdu_octets}
use Rattle.knx_model.specs.Device.{NonVolatile, Effect, Loads, Stores, Nothing, effect_at, effect_in, answer, answer_at, answer_in, is_load_control, load_asked, object_of_index}
use Rattle.knx_model.specs.declared.loading.LoadableObject.{LoadableObject}

abbrev stores : Effect → Bool
stores (Loads o event) = false
stores (Stores address octets) = true
stores Nothing = false

loads_stores_not : (o : Option LoadableObject) (octets : List ℕ) → stores (load_asked o octets) ≡ false
loads_stores_not None octets = refl
loads_stores_not (Some o) octets = refl

property_stores_not : (b : Bool) (o : Option LoadableObject) (octets : List ℕ) → stores (if b then load_asked o octets else Nothing) ≡ false
property_stores_not true o octets = loads_stores_not o octets
property_stores_not false o octets = refl

no_answer : (frames : FrameSupport) (nv : NonVolatile) (service : Option Apdu) → stores (effect_at service) ≡ true → answer_at frames nv service ≡ None
no_answer frames nv None h = refl
no_answer frames nv (Some (MemoryWrite address octets)) h = refl
no_answer frames nv (Some (PropertyWrite index property count start octets)) h = absurd (false≢true (sym (property_stores_not (is_load_control property count start octets) (object_of_index index) octets) ∙ h))
no_answer frames nv (Some GroupRead) h = refl
no_answer frames nv (Some (GroupResponse value)) h = refl
no_answer frames nv (Some (GroupWrite value)) h = refl
no_answer frames nv (Some (AddressWrite address)) h = refl
no_answer frames nv (Some AddressRead) h = refl
no_answer frames nv (Some AddressResponse) h = refl
no_answer frames nv (Some (MemoryRead count address)) h = absurd (false≢true h)
no_answer frames nv (Some (MemoryResponse address octets)) h = refl
no_answer frames nv (Some (DescriptorRead kind)) h = absurd (false≢true h)
no_answer frames nv (Some (DescriptorResponse kind value)) h = refl
no_answer frames nv (Some (PropertyRead index property count start)) h = absurd (false≢true h)
no_answer frames nv (Some (PropertyResponse index property count start octets)) h = refl

-- a memory write has no answer
pub stores_unanswered : (frames : FrameSupport) (nv : NonVolatile) (octets : List ℕ) (address : ℕ) (asked : List ℕ) → effect_in octets ≡ Stores address asked → answer_in frames nv octets ≡ None
stores_unanswered frames nv octets address asked h = no_answer frames nv (service_in octets) (ap stores h)

-- what a device is asked and answers
pub answer_at_is : (frames : FrameSupport) (nv : NonVolatile) (octets : List ℕ) (service response : Apdu) (written : List ℕ) → Some service ≡ service_in octets → Some response ≡ answer frames nv service → written ≡ apdu_octets response → Some written ≡ answer_in frames nv octets
answer_at_is frames nv octets service response written s a e = rw (sym s) (rw (sym a) (ap Some e))
