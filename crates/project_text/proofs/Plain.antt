-- What printed words are made of.
use Rattle.std.proofs.Common.{inl, inr, ◌≡◌, ℕ, ◌+◌, ◌*◌, ◌/◌, ◌%◌, ◌^◌, ◌<◌, ◌≤◌, Bool, true, ◌&&◌, ◌||◌, not, eqb, ltb, leb, List, [], ◌∷◌, ◌++◌, length, refl, ◌∙◌, arith, length-append}
use Rattle.std.specs.List.{list_all, join_with_byte}
use Rattle.std.specs.Fmt.{decimal}
use Rattle.std.specs.Str.Parse.{AllDigits}
use Rattle.std.proofs.lemmas.Bool.{and_from, and_parts, or_cases, le-leb, leb-true, ltb-true, ne_eqb, not-true, not_from_false}
use Rattle.std.proofs.lemmas.Fmt.{decimal_is_IsNumeral, length-decimal-le, decimal_nonempty}
use Rattle.std.proofs.lemmas.List.Folds.{list_all-append}
use Rattle.std.proofs.lemmas.Str.Parse.{digit_from_value}
use Rattle.knx_model.specs.declared.address.GroupAddr.{GroupAddr}
use Rattle.knx_model.specs.declared.address.IndAddr.{IndAddr}
use Rattle.knx_model.specs.Addresses.{device_text, group_text}
use Rattle.knx_model.specs.Flags.{flags_text}
use Rattle.knx_model.specs.Numbers.{is_name, is_name_octet}
use Rattle.knx_model.proofs.Finite.{all_below, below}
use Rattle.knx_model.proofs.SpelledNames.{is_ascii}

-- an octet of a printed word: no blank, no `#`, and ASCII
abbrev pub is_plain : ℕ → Bool
is_plain b = leb 33 b && leb b 126 && not (eqb b 35)

abbrev pub is_printed : ℕ → Bool
is_printed b = leb 32 b && leb b 126 && not (eqb b 35)

pub list_all_weaker : (p q : ℕ → Bool) → ((b : ℕ) → p b ≡ true → q b ≡ true) → (xs : List ℕ) → list_all p xs ≡ true → list_all q xs ≡ true
list_all_weaker p q h [] e = refl
list_all_weaker p q h (x ∷ xs) e = let parts = and_parts (p x) (list_all p xs) e in and_from (q x) (list_all q xs) (h x parts.0) (list_all_weaker p q h xs parts.1)

plain_from : (b : ℕ) → 35 < b → b ≤ 126 → is_plain b ≡ true
plain_from b low high = and_from _ _ (and_from _ _ (le-leb 33 b (omega arith)) (le-leb b 126 high)) (not_from_false _ (ne_eqb b 35 (λ e. omega arith)))

pub printed_from_plain : (b : ℕ) → is_plain b ≡ true → is_printed b ≡ true
printed_from_plain b e =
    let h = and_parts _ _ e in
    let k = and_parts _ _ h.0 in
    let low : 33 ≤ b = leb-true 33 b k.0 in
    and_from _ _ (and_from _ _ (le-leb 32 b (omega arith)) k.1) h.1

plain_digits : (ds : List ℕ) → AllDigits 10 ds → list_all is_plain ds ≡ true
plain_digits [] h = refl
plain_digits (d ∷ ds) h = let r = digit_from_value d h.0 in and_from _ _ (plain_from d (omega arith) (omega arith)) (plain_digits ds h.1)

pub plain_decimal : (n : ℕ) → n < 2 ^ 64 → list_all is_plain (decimal n) ≡ true
plain_decimal n lt = plain_digits (decimal n) ((decimal_is_IsNumeral n lt).0).1

-- three numbers joined
plain_three : (c : ℕ) → is_plain c ≡ true → (a b d : ℕ) → a < 2 ^ 16 → b < 2 ^ 16 → d < 2 ^ 16 → list_all is_plain (join_with_byte c (decimal a ∷ decimal b ∷ decimal d ∷ [])) ≡ true
plain_three c pc a b d la lb ld =
    list_all-append is_plain (decimal a) (c ∷ (decimal b ++ (c ∷ decimal d)))
    ∙ and_from _ _ (plain_decimal a (omega arith)) (and_from _ _ pc (list_all-append is_plain (decimal b) (c ∷ decimal d) ∙ and_from _ _ (plain_decimal b (omega arith)) (and_from _ _ pc (plain_decimal d (omega arith)))))

short_three : (c a b d : ℕ) → a < 2 ^ 16 → b < 2 ^ 16 → d < 2 ^ 16 → (0 < length (join_with_byte c (decimal a ∷ decimal b ∷ decimal d ∷ []))) × (length (join_with_byte c (decimal a ∷ decimal b ∷ decimal d ∷ [])) ≤ 17)
short_three c a b d la lb ld =
    let l1 = length-append (decimal a) (c ∷ (decimal b ++ (c ∷ decimal d))) in
    let l2 = length-append (decimal b) (c ∷ decimal d) in
    let d1 : length (decimal a) ≤ 5 = length-decimal-le 5 a (omega arith) (omega arith) (omega arith) in
    let d2 : length (decimal b) ≤ 5 = length-decimal-le 5 b (omega arith) (omega arith) (omega arith) in
    let d3 : length (decimal d) ≤ 5 = length-decimal-le 5 d (omega arith) (omega arith) (omega arith) in
    (omega arith, omega arith)

-- a word that can be printed, of at most `most` octets
pub record IsShortWord (most : ℕ) (w : List ℕ) : Type 0 where
  pub plain : list_all is_plain w ≡ true
  pub some : 0 < length w
  pub short : length w ≤ most

pub group_word : (g : GroupAddr) → g.raw < 65536 → IsShortWord 32 (group_text g)
group_word g lt =
    let s = short_three 47 (g.raw / 2048) (g.raw / 256 % 8) (g.raw % 256) (omega arith) (omega arith) (omega arith) in
    record { plain = plain_three 47 refl (g.raw / 2048) (g.raw / 256 % 8) (g.raw % 256) (omega arith) (omega arith) (omega arith); some = s.0; short = omega (arith, s.1) }

-- each of the three numbers of a group has at most 3 digits
pub short_group_text : (g : GroupAddr) → g.raw < 65536 → length (group_text g) ≤ 11
short_group_text g lt =
    let a = g.raw / 2048 in
    let b = g.raw / 256 % 8 in
    let d = g.raw % 256 in
    let d1 : length (decimal a) ≤ 3 = length-decimal-le 3 a (omega arith) (omega arith) (omega arith) in
    let d2 : length (decimal b) ≤ 3 = length-decimal-le 3 b (omega arith) (omega arith) (omega arith) in
    let d3 : length (decimal d) ≤ 3 = length-decimal-le 3 d (omega arith) (omega arith) (omega arith) in
    omega (arith, length-append (decimal a) (47 ∷ (decimal b ++ (47 ∷ decimal d))), length-append (decimal b) (47 ∷ decimal d), d1, d2, d3)

pub device_word : (d : IndAddr) → d.raw < 65536 → IsShortWord 32 (device_text d)
device_word d lt =
    let s = short_three 46 (d.raw / 4096) (d.raw / 256 % 16) (d.raw % 256) (omega arith) (omega arith) (omega arith) in
    record { plain = plain_three 46 refl (d.raw / 4096) (d.raw / 256 % 16) (d.raw % 256) (omega arith) (omega arith) (omega arith); some = s.0; short = omega (arith, s.1) }

pub number_word : (n : ℕ) → n < 2 ^ 32 → IsShortWord 32 (decimal n)
number_word n lt = record { plain = plain_decimal n (omega arith); some = decimal_nonempty n (omega arith); short = omega (arith, length-decimal-le 10 n (omega arith) (omega arith) (omega arith)) }

plain_if_named : ℕ → Bool
plain_if_named b = not (is_name_octet b) || is_plain b

all_named : all_below plain_if_named 128 ≡ true
unfolding all_below plain_if_named
all_named = refl

name_octet : (b : ℕ) → is_name_octet b ≡ true → is_plain b ≡ true
unfolding plain_if_named
name_octet b e = elim (or_cases (not (is_name_octet b)) (is_plain b) (below plain_if_named 128 b all_named (is_ascii b e))) [ inl other ↦ absurd cc (not-true _ other, e) | inr plain ↦ plain ]

pub name_word : (w : List ℕ) → is_name w ≡ true → IsShortWord 32 w
name_word w e =
    let h = and_parts _ _ e in
    let k = and_parts _ _ h.0 in
    record { plain = list_all_weaker is_name_octet is_plain name_octet w h.1; some = ltb-true _ _ k.0; short = leb-true _ _ k.1 }

is_short : List ℕ → Bool
is_short w = list_all is_plain w && ltb 0 (length w) && leb (length w) 32

all_flags : all_below (λ n. is_short (flags_text (n * 4 + 3))) 64 ≡ true
unfolding all_below is_short flags_text
all_flags = refl

pub flags_word : (f : ℕ) → f < 256 → f % 4 ≡ 3 → IsShortWord 32 (flags_text f)
unfolding is_short
flags_word f lt e =
    let is : f / 4 * 4 + 3 ≡ f = omega arith in
    let short = rw is at (below (λ n. is_short (flags_text (n * 4 + 3))) 64 (f / 4) all_flags (omega arith)) in
    let h = and_parts (list_all is_plain (flags_text f) && ltb 0 (length (flags_text f))) (leb (length (flags_text f)) 32) short in
    let k = and_parts (list_all is_plain (flags_text f)) (ltb 0 (length (flags_text f))) h.0 in
    record { plain = k.0; some = ltb-true _ _ k.1; short = leb-true _ _ h.1 }
