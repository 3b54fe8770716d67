-- What a plan is: operations that a client gives to a device one after another, each once the one before it was answered as wanted. What
-- follows an operation may depend on the answer to it. So a plan is a tree: it is over, or it is an operation and, for each answer to
-- it, the plan that follows. A list of operations is the plan that looks at no answer.
use Rattle.std.specs.Prelude.{ℕ, ◌≡◌, Bool, true, false, IsTrue, List, Option, Some, None}
use Rattle.knx_model.specs.declared.frames.tpdu.Apdu.{Apdu}
use Rattle.knx_model.specs.declared.frames.tpdu.Apdu.TheVariants.{MemoryRead, MemoryResponse, DescriptorRead, DescriptorResponse, PropertyRead, PropertyResponse, PropertyWrite}
use Rattle.knx_model.specs.declared.plan.Expect.{Expect}
use Rattle.knx_model.specs.declared.plan.Expect.TheVariants.{AckOnly, Is, Note}
use Rattle.knx_model.specs.ApduReading.{service_in}

-- An operation asks for a service, by its octets with transport bits 0. The answer is none where the acknowledgement is all. Each has its number among
-- all of the plan, its place, from 0 on; one that is passed over isn't in the tree, and its number isn't either.
pub data Plan : Type 0 where
  Over : Plan
  Asks : ℕ → List ℕ → Expect → (Option (List ℕ) → Plan) → Plan

-- ---- which answer is wanted

-- the second service is the response service that fits the first
abbrev pub is_response : Apdu → Apdu → Bool
is_response (DescriptorRead kind) (DescriptorResponse _ _) = true
is_response (MemoryRead count address) (MemoryResponse _ _) = true
is_response (PropertyRead index property count start) (PropertyResponse _ _ _ _ _) = true
is_response (PropertyWrite index property count start octets) (PropertyResponse _ _ _ _ _) = true
is_response _ _ = false

abbrev pub fits_both : Option Apdu → Option Apdu → Bool
fits_both (Some asked) (Some got) = is_response asked got
fits_both _ _ = false

-- these octets are a response of the service that fits the service that was asked for
abbrev pub is_fitting : List ℕ → List ℕ → Bool
is_fitting asked got = fits_both (service_in asked) (service_in got)

-- An answer to a service is the wanted one: none but the acknowledgement, just these octets, or any of the fitting service, which is noted.
abbrev pub Suits : List ℕ → Expect → Option (List ℕ) → Type 0
Suits apdu AckOnly None = Unit {0}
Suits apdu (Is wanted) (Some got) = got ≡ wanted
Suits apdu Note (Some got) = IsTrue (is_fitting apdu got)
Suits apdu _ _ = ⊥

-- ---- a position in a plan

-- The operation with this number stands at the head of the plan, and `rest` follows it. What follows one whose answer is noted is settled by
-- its answer alone.
abbrev pub IsHead : ℕ → List ℕ → Expect → Plan → Plan → Type 0
IsHead place apdu AckOnly plan rest = plan ≡ Asks place apdu AckOnly (λ _. rest)
IsHead place apdu (Is wanted) plan rest = plan ≡ Asks place apdu (Is wanted) (λ _. rest)
IsHead place apdu Note plan rest = (next : Option (List ℕ) → Plan) × (plan ≡ Asks place apdu Note next)

-- the answer to the plan's first operation is noted
abbrev pub IsNoted : Plan → Type 0
IsNoted (Asks place apdu Note next) = Unit {0}
IsNoted _ = ⊥

-- what follows the plan's first operation where this is its answer
abbrev pub followed : Plan → List ℕ → Plan
followed Over got = Over
followed (Asks place apdu expect next) got = next (Some got)
