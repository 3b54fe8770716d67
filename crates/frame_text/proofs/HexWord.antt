-- A word of 1 to 512 octets has 1 to 1,024 digits.
use Rattle.std.proofs.Common.{◌≡◌, ℕ, ◌<◌, ◌≤◌, ◌≢◌, Bool, true, false, cond, ◌&&◌, leb, List, [], ◌∷◌, length, Option, Some, None, refl, arith}
use Rattle.std.proofs.lemmas.Bool.{lt-leb, le-leb}
use Rattle.knx_model.specs.Values.{hex_octets}
use Rattle.knx_model.proofs.Values.{hex_length}
use Rattle.frame_text.specs.FrameText.{one_to_512}

pub no_digits : (word : List ℕ) → length word ≡ 0 → one_to_512 (hex_octets word) ≡ None
no_digits [] none = refl
no_digits (d ∷ ds) none = absurd (omega (arith, none))

cond_false : (b : Bool) (v : Option (List ℕ)) → cond (b && false) v None ≡ None
cond_false true v = refl
cond_false false v = refl

more_octets : (o : Option (List ℕ)) → ((os : List ℕ) → o ≡ Some os → 512 < length os) → one_to_512 o ≡ None
more_octets None more = refl
more_octets (Some os) more = rw (lt-leb (length os) 512 (more os refl)) (cond_false (leb 1 (length os)) (Some os))

pub too_many : (word : List ℕ) → 1024 < length word → one_to_512 (hex_octets word) ≡ None
too_many word more = more_octets (hex_octets word) (λ os e. omega (arith, hex_length word os e))

few_octets : (o : Option (List ℕ)) → ((os : List ℕ) → o ≡ Some os → (1 ≤ length os) × (length os ≤ 512)) → one_to_512 o ≡ o
few_octets None few = refl
few_octets (Some os) few = grind (arith, le-leb, few os refl)

pub within : (word : List ℕ) → length word ≢ 0 → length word ≤ 1024 → one_to_512 (hex_octets word) ≡ hex_octets word
within word some few = few_octets (hex_octets word) (λ os e. (omega (arith, hex_length word os e), omega (arith, hex_length word os e)))
