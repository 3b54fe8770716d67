-- Operations in octets: what their services do, and that what is answered in octets is what is answered.
use Rattle.std.proofs.Common.{ℕ, suc, ◌≡◌, ◌-◌, ◌<◌, ◌≤◌, Bool, true, false, not, ◌==◌, ◌&&◌, List, [], ◌∷◌, ◌++◌, length, length-take, take, drop, Option, Some, None, refl, sym, ◌∙◌, ap, subst, arith, if◌then◌else◌}
use Rattle.knx_model.specs.declared.device.FrameSupport.{FrameSupport}
use Rattle.knx_model.specs.declared.frames.tpdu.Apdu.{Apdu}
use Rattle.knx_model.specs.declared.frames.tpdu.Apdu.TheVariants.{MemoryRead, DescriptorRead, DescriptorResponse, PropertyRead, PropertyWrite}
use Rattle.knx_model.specs.Apdu.{IsApduInRange, word}
use Rattle.knx_model.specs.ApduReading.{service_in, apdu_octets, option_map}
use Rattle.knx_model.specs.ClientConnection.{is_memory_write}
use Rattle.knx_model.specs.Loading.{octets_of, has_range}
use Rattle.knx_model.specs.Device.{NonVolatile, Effect, Loads, Stores, Nothing, loadable, segment_base, object_at, object_of_index, object_type, load_state, table_reference, greatest_length, is_load_control, effect_of, effect_in, effect_at, answer, answer_in, answer_at, reads_at_once, read_octets, whole, torn, taken_over, range_octets, property_value, property_response, where_one}
use Rattle.knx_model.specs.DeviceFrames.{Outcome, Whole, Torn, Worn, kept_after}
use Rattle.knx_model.specs.Plans.{Suits}
use Rattle.knx_model.specs.Operations.{Operation, expect_of, listed}
use Rattle.knx_model.specs.GoodPlan.{AnswersAll, kept_by_all, IsNotTorn, IsSendable, awaits_answer}
use Rattle.knx_model.proofs.Leads.{Leads}
use Rattle.apdu_frames.proofs.Function.{service_again}
use Rattle.apdu_frames.proofs.Apdus.{written_apdu}
use Rattle.download_plan.proofs.Steps.{OperationsLead, OperationsServe}

octets_apart : (s t : Apdu) → IsApduInRange s → IsApduInRange t → apdu_octets s ≡ apdu_octets t → Some s ≡ Some t
octets_apart s t h k e = sym (service_again s h) ∙ (ap service_in e ∙ service_again t k)

abbrev pub IsOptionInRange : Option Apdu → Type 0
IsOptionInRange None = Unit {0}
IsOptionInRange (Some s) = IsApduInRange s

-- what a device answers to a service in range is in range
range_short : (nv : NonVolatile) (a n : ℕ) → length (range_octets nv a n) ≤ n
range_short nv a n =
    elim (object_at a) as (λ found. length (elim found as (λ _. List ℕ) [ None ↦ [] | Some o ↦ if has_range (loadable nv o) (a - segment_base o) n then take n (drop (a - segment_base o) (octets_of (loadable nv o))) else [] ]) ≤ n) [
      | None ↦ omega arith
      | Some o ↦ elim (has_range (loadable nv o) (a - segment_base o) n) as (λ v. length (if v then take n (drop (a - segment_base o) (octets_of (loadable nv o))) else []) ≤ n)
          [ true ↦ omega (arith, length-take n (drop (a - segment_base o) (octets_of (loadable nv o)))) | false ↦ omega arith ]
    ]

-- a value of a property that has room in an answer
abbrev IsShortValue : Option (List ℕ) → Type 0
IsShortValue None = Unit {0}
IsShortValue (Some octets) = length octets ≤ 10

short_either : (v : Bool) (a b : Option (List ℕ)) → IsShortValue a → IsShortValue b → IsShortValue (if v then a else b)
short_either true a b h k = h
short_either false a b h k = k

short_map : {X : Type 0} (f : X → List ℕ) (found : Option X) → ((x : X) → length (f x) ≤ 10) → IsShortValue (option_map f found)
short_map f None h = tt
short_map f (Some x) h = h x

property_short : (frames : FrameSupport) (nv : NonVolatile) (index property : ℕ) → IsShortValue (property_value frames nv index property)
property_short frames nv index property =
    short_either (property == 1) _ _ (short_map word (object_type index) (λ x. omega arith))
    (short_either (property == 5) _ _ (short_map (load_state nv) (object_of_index index) (λ o. omega arith))
    (short_either (property == 7) _ _ (short_map table_reference (object_of_index index) (λ o. omega arith))
    (short_either ((property == 56) && (index == 0)) (Some (word (greatest_length frames))) None (omega arith) tt)))

response_in_range : (index property start : ℕ) (value : Option (List ℕ)) → start < 4096 → IsShortValue value → IsApduInRange (property_response index property start value)
response_in_range index property start None h k = (omega arith, h, omega arith)
response_in_range index property start (Some octets) h k = (omega arith, h, k)

descriptor_in_range : (v : Bool) → IsApduInRange (if v then DescriptorResponse 0 (Some 0x07B0) else DescriptorResponse 0x3F None)
descriptor_in_range true = omega arith
descriptor_in_range false = refl

read_short : (frames : FrameSupport) (nv : NonVolatile) (a n : ℕ) → length (read_octets frames nv a n) ≤ n
read_short frames nv a n = elim (reads_at_once frames n) as (λ v. length (if v then range_octets nv a n else []) ≤ n) [ true ↦ range_short nv a n | false ↦ omega arith ]

answer_in_range : (frames : FrameSupport) (nv : NonVolatile) (s : Apdu) → IsApduInRange s → IsOptionInRange (answer frames nv s)
answer_in_range frames nv (DescriptorRead kind) h = descriptor_in_range (kind == 0)
answer_in_range frames nv (MemoryRead count address) h = omega (arith, read_short frames nv address count, h.1)
answer_in_range frames nv (PropertyRead index property count start) h =
    response_in_range index property start (where_one count start (property_value frames nv index property)) h.1 (short_either ((count == 1) && (start == 1)) (property_value frames nv index property) None (property_short frames nv index property) tt)
answer_in_range frames nv (PropertyWrite index property count start octets) h =
    response_in_range index property start _ h.1
    (short_either (is_load_control property count start octets) _ None
    (short_map (load_state (whole nv (effect_of (PropertyWrite index property count start octets)))) (object_of_index index) (λ o. omega arith)) tt)
answer_in_range frames nv s h = tt

-- an operation whose service and answer have octets, and which expects an answer exactly where its service has one
pub record IsWritable (x : Operation) : Type 0 where
  pub service : IsApduInRange x.service
  pub expected : IsOptionInRange x.expected
  pub awaits : awaits_answer (expect_of x.expected) ≡ not (is_memory_write (Some x.service))

abbrev pub AllWritable : List Operation → Type 0
AllWritable [] = Unit {0}
AllWritable (x ∷ xs) = IsWritable x × AllWritable xs

pub AllWritable-append : (xs ys : List Operation) → AllWritable xs → AllWritable ys → AllWritable (xs ++ ys)
AllWritable-append [] ys h k = k
AllWritable-append (x ∷ xs) ys h k = (h.0, AllWritable-append xs ys h.1 k)

pub effect_again : (s : Apdu) → IsApduInRange s → effect_in (apdu_octets s) ≡ effect_of s
effect_again s h = ap effect_at (service_again s h)

pub answer_again : (frames : FrameSupport) (nv : NonVolatile) (s : Apdu) → IsApduInRange s → answer_in frames nv (apdu_octets s) ≡ option_map apdu_octets (answer frames nv s)
answer_again frames nv s h = ap (answer_at frames nv) (service_again s h)

-- the wanted answer in octets is the expected one
suits_only : (apdu : List ℕ) (expected got : Option Apdu) → IsOptionInRange expected → IsOptionInRange got → Suits apdu (expect_of expected) (option_map apdu_octets got) → got ≡ expected
suits_only apdu None None h k s = refl
suits_only apdu None (Some t) h k s = absurd s
suits_only apdu (Some e) None h k s = absurd s
suits_only apdu (Some e) (Some t) h k s = octets_apart t e k h s

pub suits_expected : (apdu : List ℕ) (expected : Option Apdu) → Suits apdu (expect_of expected) (option_map apdu_octets expected)
suits_expected apdu None = tt
suits_expected apdu (Some e) = refl

pub suits_answer : (frames : FrameSupport) (nv : NonVolatile) (x : Operation) → IsWritable x → Suits (apdu_octets x.service) (expect_of x.expected) (answer_in frames nv (apdu_octets x.service)) → answer frames nv x.service ≡ x.expected
suits_answer frames nv x w s =
    suits_only (apdu_octets x.service) x.expected (answer frames nv x.service) w.expected (answer_in_range frames nv x.service w.service)
    (subst (Suits (apdu_octets x.service) (expect_of x.expected)) (answer_again frames nv x.service w.service) s)

pub answer_suits : (frames : FrameSupport) (nv : NonVolatile) (x : Operation) → IsWritable x → answer frames nv x.service ≡ x.expected → Suits (apdu_octets x.service) (expect_of x.expected) (answer_in frames nv (apdu_octets x.service))
answer_suits frames nv x w e =
    subst (Suits (apdu_octets x.service) (expect_of x.expected)) (sym (answer_again frames nv x.service w.service ∙ ap (option_map apdu_octets) e)) (suits_expected (apdu_octets x.service) x.expected)

-- ---- outcomes

pub taken_none : (nv : NonVolatile) (e : Effect) → taken_over nv e None ≡ whole nv e
taken_none nv (Loads o event) = refl
taken_none nv (Stores a octets) = refl
taken_none nv Nothing = refl

pub kept_nothing : (nv : NonVolatile) (outcome : Outcome) → kept_after nv Nothing outcome ≡ nv
kept_nothing nv Whole = refl
kept_nothing nv (Torn fresh octets) = refl
kept_nothing nv (Worn octets) = refl

any_moment : (P : NonVolatile → Type 0) (nv : NonVolatile) (e : Effect) → ((fresh : Bool) (octets : List ℕ) → P (torn nv e fresh octets)) → ((wear : Option (List ℕ)) → P (taken_over nv e wear)) → (outcome : Outcome) → P (kept_after nv e outcome)
any_moment P nv e f g Whole = subst P (taken_none nv e) (g None)
any_moment P nv e f g (Torn fresh octets) = f fresh octets
any_moment P nv e f g (Worn octets) = g (Some octets)

any_whole : (Q : NonVolatile → Type 0) (nv : NonVolatile) (e : Effect) → ((wear : Option (List ℕ)) → Q (taken_over nv e wear)) → (outcome : Outcome) → IsNotTorn outcome → Q (kept_after nv e outcome)
any_whole Q nv e g Whole t = subst Q (taken_none nv e) (g None)
any_whole Q nv e g (Torn fresh octets) t = absurd t
any_whole Q nv e g (Worn octets) t = g (Some octets)

-- ---- lists of operations as plans

-- a list in octets leads where the operations lead
pub octets_lead : (place : ℕ) (frames : FrameSupport) (P R : NonVolatile → Type 0) (ops : List Operation) (nv : NonVolatile) → AllWritable ops → OperationsLead frames P R ops nv → Leads (answer_in frames) P R (listed place ops) nv
octets_lead place frames P R [] nv w h = h
octets_lead place frames P R (x ∷ xs) nv w h =
    let e : effect_of x.service ≡ effect_in (apdu_octets x.service) = sym (effect_again x.service w.0.service) in (
      h.0,
      λ outcome. subst (λ (e : Effect). P (kept_after nv e outcome)) e (any_moment P nv (effect_of x.service) h.1 h.2 outcome),
      λ outcome t s. subst (λ (e : Effect). Leads (answer_in frames) P R (listed (suc place) xs) (kept_after nv e outcome)) e
          (any_whole (Leads (answer_in frames) P R (listed (suc place) xs)) nv (effect_of x.service)
          (λ wear. octets_lead (suc place) frames P R xs (taken_over nv (effect_of x.service) wear) w.1 (h.3 wear (suits_answer frames nv x w.0 s))) outcome t),
    )

pub octets_serve : (place : ℕ) (frames : FrameSupport) (R : NonVolatile → Type 0) (ops : List Operation) (nv : NonVolatile) → AllWritable ops → OperationsServe frames R ops nv → AnswersAll (answer_in frames) (listed place ops) nv × R (kept_by_all (answer_in frames) (listed place ops) nv)
octets_serve place frames R [] nv w h = (tt, h)
octets_serve place frames R (x ∷ xs) nv w h =
    let e : effect_of x.service ≡ effect_in (apdu_octets x.service) = sym (effect_again x.service w.0.service) in
    let rest : AnswersAll (answer_in frames) (listed (suc place) xs) (whole nv (effect_of x.service)) × R (kept_by_all (answer_in frames) (listed (suc place) xs) (whole nv (effect_of x.service))) = octets_serve (suc place) frames R xs (whole nv (effect_of x.service)) w.1 h.1 in (
      (
        answer_suits frames nv x w.0 h.0,
        subst (λ (e : Effect). AnswersAll (answer_in frames) (listed (suc place) xs) (whole nv e)) e rest.0,
      ),
      subst (λ (e : Effect). R (kept_by_all (answer_in frames) (listed (suc place) xs) (whole nv e))) e rest.1,
    )

pub octets_served : (place : ℕ) (frames : FrameSupport) (ops : List Operation) (nv : NonVolatile) → AllWritable ops → AnswersAll (answer_in frames) (listed place ops) nv → OperationsServe frames (λ _. Unit {0}) ops nv
octets_served place frames [] nv w h = tt
octets_served place frames (x ∷ xs) nv w h = (
  suits_answer frames nv x w.0 h.0,
  octets_served (suc place) frames xs (whole nv (effect_of x.service)) w.1 (subst (λ (e : Effect). AnswersAll (answer_in frames) (listed (suc place) xs) (whole nv e)) (effect_again x.service w.0.service) h.1),
)

pub octets_sendable : (place : ℕ) (ops : List Operation) → AllWritable ops → IsSendable (listed place ops)
octets_sendable place [] w = tt
octets_sendable place (x ∷ xs) w = (
  written_apdu x.service w.0.service,
  w.0.awaits ∙ sym (ap (λ (s : Option Apdu). not (is_memory_write s)) (service_again x.service w.0.service)),
  λ answer. octets_sendable (suc place) xs w.1,
)
