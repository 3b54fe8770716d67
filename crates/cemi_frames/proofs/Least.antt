-- A frame whose part behind the additional information is refused has this as its least refusal.
use Rattle.std.proofs.Common.{◌≡◌, ℕ, ◌+◌, ◌<◌, ◌≤◌, List, length, drop, arith, inl, inr, subst}
use Rattle.std.proofs.lemmas.List.{length-drop}
use Rattle.std.specs.Prelude.{slice_index, Result, Ok, Err, IfErr}
use Rattle.knx_model.specs.declared.frames.cemi.Ldata.{Ldata}
use Rattle.std.proofs.lemmas.Grind.{common_steps}
use Rattle.knx_model.specs.declared.frames.cemi.CemiRefused.{CemiRefused}
use Rattle.knx_model.specs.declared.frames.cemi.CemiRefused.TheVariants.{Short, Code, Extended, Length, Long}
use Rattle.knx_model.specs.Cemi.{Breaks, IsLeastBroken, refusal_number, IsCode, IsStandard, HasNoFormat, first_control, second_control, length_octet}
use Rattle.cemi_frames.specs.Refusing.{RefusesBody}

before_code : (octets : List ℕ) → 10 + slice_index octets 1 ≤ length octets → (other : CemiRefused) → refusal_number other < 2 → Breaks other octets → ⊥
before_code octets long Short lt b = omega (arith, long, b)
before_code octets long Code lt b = omega (arith, lt)
before_code octets long Extended lt b = omega (arith, lt)
before_code octets long Length lt b = omega (arith, lt)
before_code octets long Long lt b = omega (arith, lt)

before_extended : (octets : List ℕ) → 10 + slice_index octets 1 ≤ length octets → IsCode (slice_index octets 0) → (other : CemiRefused) → refusal_number other < 3 → Breaks other octets → ⊥
before_extended octets long code Short lt b = omega (arith, long, b)
before_extended octets long code Code lt b = b code
before_extended octets long code Extended lt b = omega (arith, lt)
before_extended octets long code Length lt b = omega (arith, lt)
before_extended octets long code Long lt b = omega (arith, lt)

-- what a place behind the additional information has
behind : (octets : List ℕ) (k n : ℕ) → n ≡ k + (2 + slice_index octets 1) → slice_index (drop (2 + slice_index octets 1) octets) k ≡ slice_index octets n
behind octets k n e = grind (arith, common_steps)

behind_length : (octets : List ℕ) → 10 + slice_index octets 1 ≤ length octets → length (drop 7 (drop (2 + slice_index octets 1) octets)) + (9 + slice_index octets 1) ≡ length octets
behind_length octets long = omega (arith, long, length-drop 7 (drop (2 + slice_index octets 1) octets), length-drop (2 + slice_index octets 1) octets)

before_length : (octets : List ℕ) → 10 + slice_index octets 1 ≤ length octets → IsCode (slice_index octets 0) → (¬ IsStandard (first_control octets) → HasNoFormat (second_control octets)) → (other : CemiRefused) → refusal_number other < 4 → Breaks other octets → ⊥
before_length octets long code format Short lt b = omega (arith, long, b)
before_length octets long code format Code lt b = b code
before_length octets long code format Extended lt b = b.1 (format b.0)
before_length octets long code format Length lt b = omega (arith, lt)
before_length octets long code format Long lt b = omega (arith, lt)

before_long : (octets : List ℕ) → 10 + slice_index octets 1 ≤ length octets → IsCode (slice_index octets 0) → ¬ IsStandard (first_control octets) → HasNoFormat (second_control octets) → length octets ≡ 10 + slice_index octets 1 + length_octet octets → (other : CemiRefused) → refusal_number other < 5 → Breaks other octets → ⊥
before_long octets long code extended format same Short lt b = omega (arith, long, b)
before_long octets long code extended format same Code lt b = b code
before_long octets long code extended format same Extended lt b = b.1 format
before_long octets long code extended format same Length lt (inl other) = other same
before_long octets long code extended format same Length lt (inr short) = extended short.0
before_long octets long code extended format same Long lt b = omega (arith, lt)

pub least : (octets : List ℕ) (why : CemiRefused) → 10 + slice_index octets 1 ≤ length octets → RefusesBody why (slice_index octets 0) (drop (2 + slice_index octets 1) octets) → IsLeastBroken why octets
least octets Short long h = absurd h
least octets Code long h = record { broken = h; least = before_code octets long }
least octets Extended long h = record { broken = grind (arith, behind); least = before_extended octets long h.0 }
least octets Length long h =
    let first = behind octets 0 (2 + slice_index octets 1) (omega arith) in
    let second = behind octets 1 (3 + slice_index octets 1) (omega arith) in
    let last = behind octets 6 (8 + slice_index octets 1) (omega arith) in
    let all = behind_length octets long in
    let format : ¬ IsStandard (first_control octets) → HasNoFormat (second_control octets) = rw (← first) (rw (← second) h.1) in
    let broken : Breaks Length octets = grind (arith, first, last, all, h.2) in
    record { broken = broken; least = before_length octets long h.0 format }
least octets Long long h =
    let first = behind octets 0 (2 + slice_index octets 1) (omega arith) in
    let second = behind octets 1 (3 + slice_index octets 1) (omega arith) in
    let last = behind octets 6 (8 + slice_index octets 1) (omega arith) in
    let all = behind_length octets long in
    let extended : ¬ IsStandard (first_control octets) = rw (← first) h.1 in
    let format : HasNoFormat (second_control octets) = rw (← second) h.2 in
    let same : length octets ≡ 10 + slice_index octets 1 + length_octet octets = omega (arith, all, last, h.3) in
    record { broken = (extended, omega (arith, last, h.4)); least = before_long octets long h.0 extended format same }

pub least_refused : (octets body : List ℕ) (r : Result Ldata CemiRefused) → 10 + slice_index octets 1 ≤ length octets → body ≡ drop (2 + slice_index octets 1) octets → IfErr r (λ why. RefusesBody why (slice_index octets 0) body) → IfErr r (λ why. IsLeastBroken why octets)
least_refused octets body (Ok frame) long e h = tt
least_refused octets body (Err why) long e h = least octets why long (subst (λ (b : List ℕ). RefusesBody why (slice_index octets 0) b) e h)
