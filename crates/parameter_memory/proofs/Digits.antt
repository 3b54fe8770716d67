-- Octets, their bits, and the numbers that bits write.
use Rattle.std.proofs.Common.{◌≡◌, ◌≢◌, ◌⊎◌, inl, inr, nat_eq, ℕ, zero, suc, ◌+◌, ◌-◌, ◌*◌, ◌/◌, ◌%◌, ◌^◌, ◌<◌, ◌≤◌, List, [], ◌∷◌, ◌++◌, length, get_or, set, replicate, take, drop, fold, refl, sym, ap, ◌∙◌, subst, add-one, arith}
use Rattle.std.specs.Int.{bit_at, bit_not, w8}
use Rattle.std.specs.Int.Bits.{bit_and, bit_or}
use Rattle.std.proofs.lemmas.List.{take_more, get_or_append_left, get_or-append-add, get_or-replicate, length-replicate, get_or-set_same, get_or-set_other, length-set, set-append_left, set-append_right, ext_get_or}
use Rattle.std.proofs.lemmas.Nat.{mod-pow-add}
use Rattle.std.proofs.lemmas.Nat.Bits.{shr_and_one, bit_at-zero, bit_at_set_same, bit_at_set_other, bit_at_clear_same, bit_at_clear_other}
use Rattle.std.proofs.Math.Nat.{pow-suc, pow-le-pow_right, mod-eq_of_lt}
use Rattle.knx_model.specs.Parameters.{octet_bits, bits_of, bits_value}
use Rattle.std.proofs.lemmas.List.Elements.{All-head, All-tail, All-nil, All-append, All-from_recursion}
use Rattle.parameter_memory.specs.Bits.{digit, value_bits, AreBits, AreOctets}

pub at_octet : (memory : List ℕ) (i j : ℕ) → i < length memory → j < 8 → get_or (bits_of memory) (i * 8 + j) 0 ≡ get_or (octet_bits (get_or memory i 0)) j 0
unfolding bits_of
at_octet [] i j lt few = absurd (omega arith)
at_octet (o ∷ ms) zero j lt few =
    let place : j ≡ 0 * 8 + j = omega arith in
    subst (λ (n : ℕ). get_or (bits_of (o ∷ ms)) n 0 ≡ get_or (octet_bits o) j 0) place (get_or_append_left (octet_bits o) (bits_of ms) 0 j few)
at_octet (o ∷ ms) (suc i) j lt few =
    let place : suc i * 8 + j ≡ 8 + (i * 8 + j) = omega arith in
    rw (place) (get_or-append-add (octet_bits o) (bits_of ms) (i * 8 + j) 0 ∙ at_octet ms i j (omega arith) few)

pub bit_of_octet : (memory : List ℕ) (bit : ℕ) → bit < 8 * length memory → get_or (bits_of memory) bit 0 ≡ get_or (octet_bits (get_or memory (bit / 8) 0)) (bit % 8) 0
bit_of_octet memory bit lt =
    let place : bit / 8 * 8 + bit % 8 ≡ bit = omega arith in
    subst (λ (n : ℕ). get_or (bits_of memory) n 0 ≡ get_or (octet_bits (get_or memory (bit / 8) 0)) (bit % 8) 0) place (at_octet memory (bit / 8) (bit % 8) (omega arith) (omega arith))

-- ---- one bit is read and written

-- the bit at a place of an octet, the highest first
octet_place : (o j : ℕ) → j < 8 → get_or (octet_bits o) j 0 ≡ bit_at o (7 - j)
octet_place o zero lt = refl
octet_place o (suc zero) lt = refl
octet_place o (suc (suc zero)) lt = refl
octet_place o (suc (suc (suc zero))) lt = refl
octet_place o (suc (suc (suc (suc zero)))) lt = refl
octet_place o (suc (suc (suc (suc (suc zero))))) lt = refl
octet_place o (suc (suc (suc (suc (suc (suc zero)))))) lt = refl
octet_place o (suc (suc (suc (suc (suc (suc (suc zero))))))) lt = omega arith
octet_place o (suc (suc (suc (suc (suc (suc (suc (suc j)))))))) lt = absurd (omega arith)

pub bit_read : (memory : List ℕ) (bit : ℕ) → bit < 8 * length memory → bit_and (get_or memory (bit / 8) 0 / 2 ^ (7 - bit % 8)) 1 ≡ get_or (bits_of memory) bit 0
bit_read memory bit lt =
    let o : ℕ = get_or memory (bit / 8) 0 in
    shr_and_one o (7 - bit % 8) ∙ sym (octet_place o (bit % 8) (omega arith)) ∙ sym (bit_of_octet memory bit lt)

-- the bits of octets that are 0
pub blank_bit : (n bit : ℕ) → bit < 8 * n → get_or (bits_of (replicate n 0)) bit 0 ≡ 0
blank_bit n bit lt =
    let len : length (replicate {A = ℕ} n 0) ≡ n = length-replicate {A = ℕ} n 0 in
    let octet : get_or (replicate {A = ℕ} n 0) (bit / 8) 0 ≡ 0 = get_or-replicate {A = ℕ} n (bit / 8) 0 0 (omega arith) in
    let within : bit < 8 * length (replicate {A = ℕ} n 0) = omega (arith, len, lt) in
    bit_of_octet (replicate n 0) bit within ∙ ap (λ (o : ℕ). get_or (octet_bits o) (bit % 8) 0) octet ∙ octet_place 0 (bit % 8) (omega arith) ∙ bit_at-zero (7 - bit % 8)

same_or_not : (i j : ℕ) → (i ≡ j) ⊎ (i ≢ j)
same_or_not i j = grind arith

place_changed : (o n j b i : ℕ) → j < 8 → i < 8 → bit_at n (7 - j) ≡ b → ((k : ℕ) → k < 8 → k ≢ 7 - j → bit_at n k ≡ bit_at o k) → get_or (octet_bits n) i 0 ≡ get_or (set (octet_bits o) j b) i 0
place_changed o n j b i lt less here others = elim (same_or_not i j) [
  | inl e ↦ octet_place n i less ∙ ap (λ (k : ℕ). bit_at n (7 - k)) e ∙ here ∙ sym (get_or-set_same (octet_bits o) j b 0 lt) ∙ ap (λ (k : ℕ). get_or (set (octet_bits o) j b) k 0) (sym e)
  | inr ne ↦ octet_place n i less ∙ others (7 - i) (omega arith) (omega arith) ∙ sym (octet_place o i less) ∙ sym (get_or-set_other (octet_bits o) j i b 0 ne)
]

-- an octet that differs in one bit
octet_changed : (o n j b : ℕ) → j < 8 → bit_at n (7 - j) ≡ b → ((k : ℕ) → k < 8 → k ≢ 7 - j → bit_at n k ≡ bit_at o k) → octet_bits n ≡ set (octet_bits o) j b
octet_changed o n j b lt here others = ext_get_or 0 (octet_bits n) (set (octet_bits o) j b) (sym (length-set (octet_bits o) j b)) (λ i less. place_changed o n j b i lt less here others)

pub bit_is_set : (o j : ℕ) → j < 8 → octet_bits (bit_or o (1 * 2 ^ (7 - j) % 256)) ≡ set (octet_bits o) j 1
bit_is_set o j lt =
    let within : 7 - j < 8 = omega arith in
    octet_changed o (bit_or o (1 * 2 ^ (7 - j) % 256)) j 1 lt (bit_at_set_same w8 o (7 - j) within) (λ k less ne. bit_at_set_other w8 o (7 - j) within k ne)

pub bit_is_cleared : (o j : ℕ) → j < 8 → octet_bits (bit_and o (bit_not w8 (1 * 2 ^ (7 - j) % 256))) ≡ set (octet_bits o) j 0
bit_is_cleared o j lt =
    let within : 7 - j < 8 = omega arith in
    octet_changed o (bit_and o (bit_not w8 (1 * 2 ^ (7 - j) % 256))) j 0 lt (bit_at_clear_same w8 o (7 - j) within) (λ k less ne. bit_at_clear_other w8 o (7 - j) within k less ne)

octet_set : (memory : List ℕ) (i j o b : ℕ) → i < length memory → j < 8 → octet_bits o ≡ set (octet_bits (get_or memory i 0)) j b → bits_of (set memory i o) ≡ set (bits_of memory) (i * 8 + j) b
unfolding bits_of
octet_set [] i j o b lt few e = absurd (omega arith)
octet_set (m ∷ ms) zero j o b lt few e =
    let place : 0 * 8 + j ≡ j = omega arith in
    ap (λ bits. bits ++ bits_of ms) e ∙ sym (set-append_left (octet_bits m) (bits_of ms) j b few) ∙ ap (λ (n : ℕ). set (bits_of (m ∷ ms)) n b) (sym place)
octet_set (m ∷ ms) (suc i) j o b lt few e =
    let place : suc i * 8 + j - 8 ≡ i * 8 + j = omega arith in
    ap (λ bits. octet_bits m ++ bits) (octet_set ms i j o b (omega arith) few e ∙ ap (λ (n : ℕ). set (bits_of ms) n b) (sym place)) ∙ sym (set-append_right (octet_bits m) (bits_of ms) 8 (suc i * 8 + j) b refl (omega arith))

-- a memory of which one octet differs in one bit
pub bit_written : (memory : List ℕ) (bit o b : ℕ) → bit < 8 * length memory → octet_bits o ≡ set (octet_bits (get_or memory (bit / 8) 0)) (bit % 8) b → bits_of (set memory (bit / 8) o) ≡ set (bits_of memory) bit b
bit_written memory bit o b lt e =
    let place : bit / 8 * 8 + bit % 8 ≡ bit = omega arith in
    subst (λ (n : ℕ). bits_of (set memory (bit / 8) o) ≡ set (bits_of memory) n b) place (octet_set memory (bit / 8) (bit % 8) o b (omega arith) (omega arith) e)

small_digit : (n : ℕ) → n < 2 → digit (nat_eq n 1) ≡ n
small_digit zero lt = refl
small_digit (suc zero) lt = refl
small_digit (suc (suc n)) lt = absurd (omega arith)

pub digit_of : (value k : ℕ) → digit (nat_eq (bit_and (value / 2 ^ k) 1) 1) ≡ value / 2 ^ k % 2
digit_of value k =
    let bit : bit_and (value / 2 ^ k) 1 ≡ value / 2 ^ k % 2 = shr_and_one value k in
    ap (λ (n : ℕ). digit (nat_eq n 1)) bit ∙ small_digit (value / 2 ^ k % 2) (omega arith)

-- one more bit
fold_push : (n b : ℕ) (bits : List ℕ) → fold (λ n bit. n * 2 + bit) n (bits ++ b ∷ []) ≡ fold (λ n bit. n * 2 + bit) n bits * 2 + b
fold_push n b [] = refl
fold_push n b (x ∷ bits) = fold_push (n * 2 + x) b bits

pub value_more : (bits : List ℕ) (k : ℕ) → k < length bits → bits_value (take (k + 1) bits) ≡ bits_value (take k bits) * 2 + get_or bits k 0
value_more bits k lt = rw (take_more bits k 0 lt) (fold_push 0 (get_or bits k 0) (take k bits))

refl_pow : (k : ℕ) → 2 ^ suc k ≡ 2 ^ k * 2
refl_pow k = pow-suc 2 k

spread : (n q x r : ℕ) → (n * 2 + q) * x + r ≡ n * (x * 2) + (q * x + r)
spread n q x r = grind arith

-- the bits of a value write it
pub value_fold : (width value n : ℕ) → fold (λ n bit. n * 2 + bit) n (value_bits width value) ≡ n * 2 ^ width + value % 2 ^ width
value_fold zero value n = omega arith
value_fold (suc width) value n =
    let power : 2 ^ suc width ≡ 2 ^ width * 2 = refl_pow width in
    let one : 1 + width ≡ suc width = omega arith in
    let low : value % 2 ^ suc width ≡ (value / 2 ^ width % 2) * 2 ^ width + value % 2 ^ width = subst (λ (k : ℕ). value % 2 ^ k ≡ (value / 2 ^ width % 2) * 2 ^ width + value % 2 ^ width) one (mod-pow-add value 1 width) in
    value_fold width value (n * 2 + value / 2 ^ width % 2) ∙ rw (low, power) (spread n (value / 2 ^ width % 2) (2 ^ width) (value % 2 ^ width))

pub length-bits_of : (octets : List ℕ) → length (bits_of octets) ≡ 8 * length octets
unfolding bits_of
length-bits_of [] = omega arith
length-bits_of (o ∷ os) = let more : length (bits_of os) ≡ 8 * length os = length-bits_of os in omega (arith, more)

-- a value with one more bit
pub doubled : (value bit k : ℕ) → value < 2 ^ k → bit < 2 → value * 2 + bit < 2 ^ (k + 1)
doubled value bit k small digit =
    let power : 2 ^ (k + 1) ≡ 2 ^ k * 2 = rw add-one (refl_pow k) in
    omega (arith, power, small, digit)

-- bits of one number of digits that write one number are the same
pub same_digits : (n m : ℕ) (xs ys : List ℕ) → length xs ≡ length ys → AreBits xs → AreBits ys → fold (λ n bit. n * 2 + bit) n xs ≡ fold (λ n bit. n * 2 + bit) m ys → (n ≡ m) × (xs ≡ ys)
same_digits n m [] [] len h g e = (e, refl)
same_digits n m [] (y ∷ ys) len h g e = absurd (omega (arith, len))
same_digits n m (x ∷ xs) [] len h g e = absurd (omega (arith, len))
same_digits n m (x ∷ xs) (y ∷ ys) len h g e =
    let (front, rest) = same_digits (n * 2 + x) (m * 2 + y) xs ys (omega (arith, len)) (All-tail (λ b. b < 2) x xs h) (All-tail (λ b. b < 2) y ys g) e in
    let low : x < 2 = All-head (λ b. b < 2) x xs h in
    let high : y < 2 = All-head (λ b. b < 2) y ys g in
    let same : n ≡ m = omega (arith, front, low, high) in
    let digit : x ≡ y = omega (arith, front, low, high) in
    (same, rw (digit, rest) refl)

-- an octet is what its bits write
octet_value : (o : ℕ) → o < 256 → o ≡ o / 128 % 2 * 128 + o / 64 % 2 * 64 + o / 32 % 2 * 32 + o / 16 % 2 * 16 + o / 8 % 2 * 8 + o / 4 % 2 * 4 + o / 2 % 2 * 2 + o % 2
octet_value o small = omega arith

weigh : List ℕ → ℕ
weigh bits = get_or bits 0 0 * 128 + get_or bits 1 0 * 64 + get_or bits 2 0 * 32 + get_or bits 3 0 * 16 + get_or bits 4 0 * 8 + get_or bits 5 0 * 4 + get_or bits 6 0 * 2 + get_or bits 7 0

same_octet : (a b : ℕ) → a < 256 → b < 256 → octet_bits a ≡ octet_bits b → a ≡ b
unfolding weigh
same_octet a b la lb e = octet_value a la ∙ ap weigh e ∙ sym (octet_value b lb)

-- octets with the same bits are the same
pub same_octets : (xs ys : List ℕ) → AreOctets xs → AreOctets ys → bits_of xs ≡ bits_of ys → xs ≡ ys
unfolding bits_of
same_octets [] [] h g e = refl
same_octets [] (y ∷ ys) h g e = cc
same_octets (x ∷ xs) [] h g e = cc
same_octets (x ∷ xs) (y ∷ ys) h g e =
    let here : x ≡ y = same_octet x y (All-head (λ o. o < 256) x xs h) (All-head (λ o. o < 256) y ys g) (ap (take 8) e) in
    let rest : xs ≡ ys = same_octets xs ys (All-tail (λ o. o < 256) x xs h) (All-tail (λ o. o < 256) y ys g) (ap (drop 8) e) in
    rw (here, rest) refl

pub holds_in_32 : (width n : ℕ) → n < 2 ^ width → width ≤ 32 → n < 2 ^ 32
holds_in_32 width n small short =
    let two : 0 < 2 = omega arith in
    let most : 2 ^ width ≤ 2 ^ 32 = pow-le-pow_right two short in
    omega (arith, small, most)

pub small_rest : (value most : ℕ) → value < most → 0 * most + value % most ≡ value
small_rest value most lt = let rest : value % most ≡ value = mod-eq_of_lt lt in omega (arith, rest)

below_2 : (o d : ℕ) → o / d % 2 < 2
below_2 o d = omega arith

bit_small : (o : ℕ) → AreBits (octet_bits o)
bit_small o = All-from_recursion (λ b. b < 2) (octet_bits o) (below_2 o 128, (below_2 o 64, (below_2 o 32, (below_2 o 16, (below_2 o 8, (below_2 o 4, (below_2 o 2, (omega arith, tt))))))))

pub bits_are : (octets : List ℕ) → AreBits (bits_of octets)
unfolding bits_of
bits_are [] = All-nil (λ b. b < 2)
bits_are (o ∷ os) = All-append (λ b. b < 2) (octet_bits o) (bits_of os) (bit_small o) (bits_are os)
