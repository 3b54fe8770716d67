-- The numbers of two octets of a list, and the entries of the tables, by index.
use Rattle.std.proofs.Common.{◌≡◌, ℕ, zero, suc, ◌+◌, ◌*◌, ◌<◌, ◌≤◌, List, [], ◌∷◌, length, take, get_or, Some, None, refl, ◌∙◌, add-one, arith}
use Rattle.std.specs.Prelude.{slice_get}
use Rattle.knx_model.specs.Acts.{numbers, in_pairs, first_pairs, in_specs}

pub twice : (i : ℕ) → 2 * suc i ≡ suc (suc (2 * i))
twice i = omega arith

pub twice_one : (i : ℕ) → 2 * suc i + 1 ≡ suc (suc (2 * i + 1))
twice_one i = omega arith

-- a number is of the two octets at twice its index
pub number_is : (xs : List ℕ) (i : ℕ) → 2 * i + 1 < length xs → slice_get (numbers xs) i ≡ Some (256 * get_or xs (2 * i) 0 + get_or xs (2 * i + 1) 0)
number_is [] i lt = absurd (omega arith)
number_is (a ∷ []) i lt = absurd (omega arith)
number_is (a ∷ b ∷ rest) zero lt = refl
number_is (a ∷ b ∷ rest) (suc i) lt = rw (twice_one, twice) (number_is rest i (omega arith))

pub no_number : (xs : List ℕ) (i : ℕ) → length xs ≤ 2 * i + 1 → slice_get (numbers xs) i ≡ None
no_number [] i le = refl
no_number (a ∷ []) i le = refl
no_number (a ∷ b ∷ rest) zero le = absurd (omega arith)
no_number (a ∷ b ∷ rest) (suc i) le = no_number rest i (omega arith)

-- a pair is of the two numbers at twice its index
pair_is : (ns : List ℕ) (i place object : ℕ) → slice_get ns (2 * i) ≡ Some place → slice_get ns (2 * i + 1) ≡ Some object → slice_get (in_pairs ns) i ≡ Some (place, object)
pair_is [] i place object p o = absurd (cc)
pair_is (a ∷ []) zero place object p o = absurd (cc)
pair_is (a ∷ []) (suc i) place object p o = absurd (cc (rw twice at p))
pair_is (a ∷ b ∷ rest) zero place object p o = cc
pair_is (a ∷ b ∷ rest) (suc i) place object p o = pair_is rest i place object (rw twice at p) (rw twice_one at o)

no_pair : (ns : List ℕ) (i : ℕ) → slice_get ns (2 * i + 1) ≡ None → slice_get (in_pairs ns) i ≡ None
no_pair [] i o = refl
no_pair (a ∷ []) i o = refl
no_pair (a ∷ b ∷ rest) zero o = absurd (cc)
no_pair (a ∷ b ∷ rest) (suc i) o = no_pair rest i (rw twice_one at o)

-- where a list has ended, it has ended after that too
no_later : {X : Type 0} (xs : List X) (i : ℕ) → slice_get xs i ≡ None → slice_get xs (suc i) ≡ None
no_later [] i e = refl
no_later (x ∷ xs) zero e = absurd (cc)
no_later (x ∷ xs) (suc i) e = no_later xs i e

-- an object is of the two octets at twice its index
pub spec_is : (xs : List ℕ) (i : ℕ) → 2 * i + 1 < length xs → slice_get (in_specs xs) i ≡ Some (record { flags = get_or xs (2 * i) 0; size = get_or xs (2 * i + 1) 0 })
spec_is [] i lt = absurd (omega arith)
spec_is (a ∷ []) i lt = absurd (omega arith)
spec_is (a ∷ b ∷ rest) zero lt = refl
spec_is (a ∷ b ∷ rest) (suc i) lt = rw (twice_one, twice) (spec_is rest i (omega arith))

pub no_spec : (xs : List ℕ) (i : ℕ) → length xs ≤ 2 * i + 1 → slice_get (in_specs xs) i ≡ None
no_spec [] i le = refl
no_spec (a ∷ []) i le = refl
no_spec (a ∷ b ∷ rest) zero le = absurd (omega arith)
no_spec (a ∷ b ∷ rest) (suc i) le = no_spec rest i (omega arith)

-- the first entries
pub within : {X : Type 0} (n : ℕ) (xs : List X) (i : ℕ) → i < n → slice_get (take n xs) i ≡ slice_get xs i
within zero xs i lt = absurd (omega arith)
within (suc n) [] i lt = refl
within (suc n) (x ∷ xs) zero lt = refl
within (suc n) (x ∷ xs) (suc i) lt = within n xs i (omega arith)

pub beyond : {X : Type 0} (n : ℕ) (xs : List X) (i : ℕ) → n ≤ i → slice_get (take n xs) i ≡ None
beyond zero xs i le = refl
beyond (suc n) [] i le = refl
beyond (suc n) (x ∷ xs) zero le = absurd (omega arith)
beyond (suc n) (x ∷ xs) (suc i) le = beyond n xs i (omega arith)

pub cut : {X : Type 0} (n : ℕ) (xs : List X) (i : ℕ) → slice_get xs i ≡ None → slice_get (take n xs) i ≡ None
cut zero xs i e = refl
cut (suc n) [] i e = refl
cut (suc n) (x ∷ xs) zero e = absurd (cc)
cut (suc n) (x ∷ xs) (suc i) e = cut n xs i e

two_more : (i : ℕ) → 2 * i + 2 ≡ suc (2 * i + 1)
two_more i = omega arith

-- the pairs of a list of numbers that begins with the count
pub first_pair_is : (ns : List ℕ) (count i place object : ℕ) → slice_get ns 0 ≡ Some count → i < count → slice_get ns (2 * i + 1) ≡ Some place → slice_get ns (2 * i + 2) ≡ Some object → slice_get (first_pairs ns) i ≡ Some (place, object)
first_pair_is [] count i place object c lt p o = absurd (cc)
first_pair_is (n ∷ ns) count i place object c lt p o =
    let same : n ≡ count = cc in
    within n (in_pairs ns) i (omega arith) ∙ pair_is ns i place object (rw add-one at p) (rw two_more at o)

pub no_count : (ns : List ℕ) (i : ℕ) → slice_get ns 0 ≡ None → slice_get (first_pairs ns) i ≡ None
no_count [] i c = refl
no_count (n ∷ ns) i c = absurd (cc)

pub not_counted : (ns : List ℕ) (count i : ℕ) → slice_get ns 0 ≡ Some count → count ≤ i → slice_get (first_pairs ns) i ≡ None
not_counted [] count i c le = refl
not_counted (n ∷ ns) count i c le = let same : n ≡ count = cc in beyond n (in_pairs ns) i (omega arith)

pub no_object : (ns : List ℕ) (i : ℕ) → slice_get ns (2 * i + 2) ≡ None → slice_get (first_pairs ns) i ≡ None
no_object [] i o = refl
no_object (n ∷ ns) i o = cut n (in_pairs ns) i (no_pair ns i (rw two_more at o))

pub no_place : (ns : List ℕ) (i : ℕ) → slice_get ns (2 * i + 1) ≡ None → slice_get (first_pairs ns) i ≡ None
no_place ns i p = no_object ns i (rw two_more (no_later ns (2 * i + 1) p))
