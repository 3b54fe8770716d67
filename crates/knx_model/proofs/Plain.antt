-- A text of plain octets has lines of text.
use Rattle.std.proofs.Common.{◌≡◌, ℕ, zero, suc, ◌-◌, ◌<◌, Bool, true, false, cond, ◌&&◌, ◌||◌, List, [], ◌∷◌, length, take, get_or, refl, arith, inl, inr, sym, ◌∙◌}
use Rattle.std.specs.Prelude.{◌==◌, nat_le, nat_lt, fold}
use Rattle.std.specs.List.{list_all, slice_split, onto_first}
use Rattle.std.specs.Str.{IsAscii}
use Rattle.std.specs.Str.Lines.{lines, lines_of_parts, strip_carriage_return}
use Rattle.std.proofs.lemmas.Bool.{cases_Bool, and_parts}
use Rattle.std.proofs.lemmas.Str.{is_utf8-from_IsUtf8, IsUtf8-from_ascii}
use Rattle.knx_model.specs.Words.{is_feed, is_text, is_text_octet, is_plain_octet}

-- printable ASCII or a tab
abbrev in_line : ℕ → Bool
in_line b = (nat_le 32 b && nat_lt b 127) || (b == 9)

never : {X : Type 0} (p : X → Bool) (xs : List X) → fold (λ all x. all && p x) false xs ≡ false
never p [] = refl
never p (x ∷ xs) = never p xs

pub fold_is_all : {X : Type 0} (p : X → Bool) (xs : List X) → fold (λ all x. all && p x) true xs ≡ list_all p xs
fold_is_all p [] = refl
fold_is_all p (x ∷ xs) = elim (cases_Bool (p x)) [
  | inl q ↦ rw q (fold_is_all p xs)
  | inr q ↦ rw q (never p xs)
]

pub first_passes : {X : Type 0} (p : X → Bool) (x : X) (xs : List X) → list_all p (x ∷ xs) ≡ true → p x ≡ true
first_passes p x xs h = (and_parts (p x) (list_all p xs) h).0

pub rest_pass : {X : Type 0} (p : X → Bool) (x : X) (xs : List X) → list_all p (x ∷ xs) ≡ true → list_all p xs ≡ true
rest_pass p x xs h = (and_parts (p x) (list_all p xs) h).1

all_pass : {X : Type 0} (p : X → Bool) (x : X) (xs : List X) → p x ≡ true → list_all p xs ≡ true → list_all p (x ∷ xs) ≡ true
all_pass p x xs first rest = rw first rest

all_take : {X : Type 0} (p : X → Bool) (n : ℕ) (xs : List X) → list_all p xs ≡ true → list_all p (take n xs) ≡ true
all_take p zero xs h = refl
all_take p (suc n) [] h = refl
all_take p (suc n) (x ∷ xs) h = all_pass p x (take n xs) (first_passes p x xs h) (all_take p n xs (rest_pass p x xs h))

-- every octet of a part between line feeds is one of a line
abbrev is_line_part : List ℕ → Bool
is_line_part part = list_all in_line part

in_line_step : (x : ℕ) → is_feed x ≡ false → is_plain_octet x ≡ true → in_line x ≡ true
in_line_step x e plain = grind (arith, plain, e)

part_step : (x : ℕ) (b : Bool) → is_feed x ≡ b → is_plain_octet x ≡ true → (parts : List (List ℕ)) → list_all is_line_part parts ≡ true → list_all is_line_part (cond b ([] ∷ parts) (onto_first x parts)) ≡ true
part_step x true e plain parts h = h
part_step x false e plain [] h = all_pass is_line_part (x ∷ []) [] (all_pass in_line x [] (in_line_step x e plain) refl) refl
part_step x false e plain (part ∷ parts) h =
    all_pass is_line_part (x ∷ part) parts (all_pass in_line x part (in_line_step x e plain) (first_passes is_line_part part parts h)) (rest_pass is_line_part part parts h)

parts_in_line : (xs : List ℕ) → list_all is_plain_octet xs ≡ true → list_all is_line_part (slice_split is_feed xs) ≡ true
parts_in_line [] h = refl
parts_in_line (x ∷ xs) h = part_step x (is_feed x) refl (first_passes is_plain_octet x xs h) (slice_split is_feed xs) (parts_in_line xs (rest_pass is_plain_octet x xs h))

strip_in_line : (x : List ℕ) → is_line_part x ≡ true → is_line_part (strip_carriage_return x) ≡ true
strip_in_line x h = elim (cases_Bool (get_or x (length x - 1) 0 == 13)) [
  | inl q ↦ rw q (all_take in_line (length x - 1) x h)
  | inr q ↦ rw q h
]

lines_in_line : (parts : List (List ℕ)) → list_all is_line_part parts ≡ true → list_all is_line_part (lines_of_parts parts) ≡ true
lines_in_line [] h = refl
lines_in_line (x ∷ []) h = elim (cases_Bool (length x == 0)) [
  | inl q ↦ rw q refl
  | inr q ↦ rw q h
]
lines_in_line (x ∷ y ∷ more) h =
    all_pass is_line_part (strip_carriage_return x) (lines_of_parts (y ∷ more)) (strip_in_line x (first_passes is_line_part x (y ∷ more) h)) (lines_in_line (y ∷ more) (rest_pass is_line_part x (y ∷ more) h))

octet_is_ascii : (b : ℕ) → in_line b ≡ true → b < 128
octet_is_ascii b h = grind (arith, h)

octet_is_text : (b : ℕ) → in_line b ≡ true → is_text_octet b ≡ true
octet_is_text b h = grind (arith, h)

ascii : (x : List ℕ) → is_line_part x ≡ true → IsAscii x
ascii [] h i = omega arith
ascii (b ∷ x) h zero = octet_is_ascii b (first_passes in_line b x h)
ascii (b ∷ x) h (suc i) = ascii x (rest_pass in_line b x h) i

text_octets : (x : List ℕ) → is_line_part x ≡ true → list_all is_text_octet x ≡ true
text_octets [] h = refl
text_octets (b ∷ x) h = all_pass is_text_octet b x (octet_is_text b (first_passes in_line b x h)) (text_octets x (rest_pass in_line b x h))

part_is_text : (x : List ℕ) → is_line_part x ≡ true → is_text x ≡ true
part_is_text x h = rw (is_utf8-from_IsUtf8 x (IsUtf8-from_ascii x (ascii x h))) (text_octets x h)

texts : (ls : List (List ℕ)) → list_all is_line_part ls ≡ true → list_all is_text ls ≡ true
texts [] h = refl
texts (l ∷ ls) h = all_pass is_text l ls (part_is_text l (first_passes is_line_part l ls h)) (texts ls (rest_pass is_line_part l ls h))

pub plain_lines : (octets : List ℕ) → fold (λ plain b. plain && is_plain_octet b) true octets ≡ true → list_all is_text (lines octets) ≡ true
plain_lines octets e = texts (lines octets) (lines_in_line (slice_split is_feed octets) (parts_in_line octets (sym (fold_is_all is_plain_octet octets) ∙ e)))
