-- The first line of a text, and the first word of a line.
use Rattle.std.proofs.Common.{◌≡◌, ℕ, suc, ◌+◌, ◌-◌, ◌<◌, ◌≤◌, Bool, true, false, cond, ltb, not, List, [], ◌∷◌, length, get_or, take, drop, Option, Some, None, refl, sym, ap, ◌∙◌, arith, add-one, drop-cons, drop-drop, length-drop, take-take, inl, inr}
use Rattle.std.specs.List.{slice_split, onto_first, position_or_len, position, filter, slice_range}
use Rattle.std.specs.Str.Lines.{lines, lines_of_parts, strip_carriage_return}
use Rattle.std.proofs.Math.Seq.{take-length, drop-length}
use Rattle.std.specs.Prelude.{◌==◌}
use Rattle.memchr.specs.Find.{IsFirstByte, is_byte}
use Rattle.std.proofs.lemmas.Bool.{false_from_ne_true, cases_lt, cases_Bool, not-false, le-ltb, lt-ltb}
use Rattle.std.proofs.lemmas.List.Sums.{prefix_len-le-length, prefix_len_stops, position_or_len_is}
use Rattle.std.proofs.lemmas.List.Folds.{length-prefix_len}
use Rattle.std.proofs.lemmas.List.Splits.{slice_split_first}
use Rattle.knx_model.specs.Words.{words, is_feed, is_blank, is_not_blank}

-- what `position` answers, as a length
pub len_from_position : {X : Type 0} (p : X → Bool) (xs : List X) (i : ℕ) → position p xs ≡ Some i → i ≡ position_or_len p xs
len_from_position p xs i e = elim (cases_lt (position_or_len p xs) (length xs)) [
  | inl lt ↦ grind (arith, lt-ltb)
  | inr le ↦ grind (arith, le-ltb)
]

place_within : (p : ℕ → Bool) (xs : List ℕ) (i : ℕ) → position p xs ≡ Some i → i < length xs
place_within p xs i e = elim (cases_lt (position_or_len p xs) (length xs)) [
  | inl lt ↦ omega (arith, len_from_position p xs i e)
  | inr le ↦ grind (arith, le-ltb)
]

pub all_from_position : {X : Type 0} (p : X → Bool) (xs : List X) → position p xs ≡ None → length xs ≡ position_or_len p xs
all_from_position p xs e = elim (cases_lt (position_or_len p xs) (length xs)) [
  | inl lt ↦ grind (arith, lt-ltb)
  | inr le ↦ omega (arith, prefix_len-le-length (λ x. not (p x)) xs)
]

split_step : {X : Type 0} (b : Bool) (n m : ℕ) (x : X) (xs : List X) (parts : List (List X)) → cond (not b) (1 + n) 0 ≡ suc m → (n ≡ m → parts ≡ xs ∷ []) → cond b ([] ∷ parts) (onto_first x parts) ≡ (x ∷ xs) ∷ []
split_step true n m x xs parts e h = absurd (omega arith)
split_step false n m x xs parts e h = ap (onto_first x) (h (omega arith))

-- a text in which no element passes is one part
split_all : {X : Type 0} (p : X → Bool) (xs : List X) → position_or_len p xs ≡ length xs → slice_split p xs ≡ xs ∷ []
split_all p [] e = refl
split_all p (x ∷ xs) e = split_step (p x) (position_or_len p xs) (length xs) x xs (slice_split p xs) e (split_all p xs)

-- what a search for an octet tells
pub place_of_octet : (a : ℕ) (xs : List ℕ) (r : Option ℕ) → IsFirstByte (is_byte a) xs r → r ≡ position (λ b. b == a) xs
place_of_octet a xs None none =
    let fails : (k : ℕ) → k < length xs → (get_or xs k 0 == a) ≡ false = λ k lt. false_from_ne_true _ (none k (omega arith) lt) in
    let all : position_or_len (λ b. b == a) xs ≡ length xs = position_or_len_is (λ b. b == a) xs (length xs) 0 (omega arith) fails (λ lt. absurd (omega arith)) in
    rw all (sym (ap (λ (t : Bool). cond t (Some (length xs)) None) (le-ltb (length xs) (length xs) (omega arith))))
place_of_octet a xs (Some i) (first, here) =
    let fails : (k : ℕ) → k < i → (get_or xs k 0 == a) ≡ false = λ k lt. false_from_ne_true _ (first.before k (omega arith) lt) in
    let at : position_or_len (λ b. b == a) xs ≡ i = position_or_len_is (λ b. b == a) xs i 0 (omega (arith, first.high)) fails (λ lt. here) in
    rw at (sym (ap (λ (t : Bool). cond t (Some i) None) (lt-ltb i (length xs) first.high)))

-- there is always a part
pub has_part : {X : Type 0} (p : X → Bool) (xs : List X) → (part : List X) × (parts : List (List X)) × (slice_split p xs ≡ part ∷ parts)
has_part {X = X} p [] = ([], [], refl)
has_part {X = X} p (x ∷ xs) = part_step (p x) (slice_split p xs) (has_part p xs)
  where
    part_step : (b : Bool) (parts : List (List X)) → (part : List X) × (more : List (List X)) × (parts ≡ part ∷ more) → (part : List X) × (more : List (List X)) × (cond b ([] ∷ parts) (onto_first x parts) ≡ part ∷ more)
    part_step true parts h = ([], parts, refl)
    part_step false parts h = (x ∷ h.0, h.1, ap (onto_first x) h.2)

-- before the parts of what follows, a part loses its carriage return
lines_then : (x : List ℕ) (p : ℕ → Bool) (ys : List ℕ) → lines_of_parts (x ∷ slice_split p ys) ≡ strip_carriage_return x ∷ lines_of_parts (slice_split p ys)
lines_then x p ys = let h = has_part p ys in rw h.2 refl

last_part : (xs : List ℕ) → 0 < length xs → lines_of_parts (xs ∷ []) ≡ xs ∷ []
last_part [] pos = absurd (omega arith)
last_part (x ∷ xs) pos = grind arith

lines_first : (xs : List ℕ) → position_or_len is_feed xs < length xs → lines xs ≡ strip_carriage_return (take (position_or_len is_feed xs) xs) ∷ lines (drop (position_or_len is_feed xs + 1) xs)
lines_first xs lt = ap lines_of_parts (slice_split_first is_feed xs 0 lt) ∙ lines_then (take (position_or_len is_feed xs) xs) is_feed (drop (position_or_len is_feed xs + 1) xs)

lines_last : (xs : List ℕ) → position_or_len is_feed xs ≡ length xs → 0 < length xs → lines xs ≡ xs ∷ []
lines_last xs e pos = ap lines_of_parts (split_all is_feed xs e) ∙ last_part xs pos

one_more : (n : ℕ) → 1 + n ≡ suc n
one_more n = omega arith

-- blanks at the front are in no word
pub words_skip : (xs : List ℕ) → words xs ≡ words (drop (position_or_len is_not_blank xs) xs)
unfolding words
words_skip [] = refl
words_skip (x ∷ xs) = elim (cases_Bool (is_blank x)) [
  | inl q ↦ simp (q, add-one, one_more) (words_skip xs)
  | inr q ↦ simp q refl
]

filter_one : (xs : List ℕ) → 0 < length xs → filter (λ w. ltb 0 (length w)) (xs ∷ []) ≡ xs ∷ []
filter_one xs pos = grind (arith, lt-ltb)

filter_first : (xs : List ℕ) (parts : List (List ℕ)) → 0 < length xs → filter (λ w. ltb 0 (length w)) (xs ∷ parts) ≡ xs ∷ filter (λ w. ltb 0 (length w)) parts
filter_first xs parts pos = grind (arith, lt-ltb)

words-nil : words [] ≡ []
unfolding words
words-nil = refl

-- what follows a word begins with a blank
words_blank : (xs : List ℕ) (i : ℕ) → i < length xs → is_blank (get_or xs i 0) ≡ true → words (drop i xs) ≡ words (drop (i + 1) xs)
unfolding words
words_blank xs i lt q = rw (add-one, drop-cons xs i 0) (simp q refl)

-- a word goes up to the next blank
words_first : (xs : List ℕ) → 0 < position_or_len is_blank xs → words xs ≡ take (position_or_len is_blank xs) xs ∷ words (drop (position_or_len is_blank xs) xs)
unfolding words
words_first xs pos = elim (cases_lt (position_or_len is_blank xs) (length xs)) [
  | inl lt ↦
      let n : ℕ = position_or_len is_blank xs in
      let stops : is_blank (get_or xs n 0) ≡ true = not-false _ (prefix_len_stops (λ x. not (is_blank x)) xs 0 lt) in
      let len : length (take n xs) ≡ n = length-prefix_len (λ x. not (is_blank x)) xs in
      ap (filter (λ w. ltb 0 (length w))) (slice_split_first is_blank xs 0 lt)
      ∙ filter_first (take n xs) (slice_split is_blank (drop (n + 1) xs)) (omega arith)
      ∙ ap (λ (ws : List (List ℕ)). take n xs ∷ ws) (sym (words_blank xs n lt stops))
  | inr le ↦
      let n : ℕ = position_or_len is_blank xs in
      let all : n ≡ length xs = omega (arith, prefix_len-le-length (λ x. not (is_blank x)) xs) in
      ap (filter (λ w. ltb 0 (length w))) (split_all is_blank xs all) ∙ filter_one xs (omega arith)
      ∙ rw (all, take-length xs, drop-length xs, words-nil) refl
]

pub words_none : (line : List ℕ) (at k : ℕ) → k ≡ position_or_len is_not_blank (drop at line) → k ≡ length (drop at line) → words (drop at line) ≡ []
words_none line at k e all = words_skip (drop at line) ∙ rw (← e, all, drop-length (drop at line)) words-nil

-- a letter that is first isn't a blank
word_is_some : (xs : List ℕ) (k : ℕ) → k ≡ position_or_len is_not_blank xs → k < length xs → 0 < position_or_len is_blank (drop k xs)
word_is_some [] k e lt = absurd (omega arith)
word_is_some (x ∷ xs) k e lt = elim (cases_Bool (is_blank x)) [
  | inl q ↦
      let n : ℕ = position_or_len is_not_blank xs in
      let k-is : k ≡ suc n = e ∙ simp q (one_more n) in
      rw k-is (word_is_some xs n refl (omega arith))
  | inr q ↦ let k-is : k ≡ 0 = e ∙ simp q refl in rw (k-is, q) (omega arith)
]

pub record IsWord (line : List ℕ) (at start end : ℕ) : Type 0 where
  pub found : words (drop at line) ≡ slice_range line start end ∷ words (drop end line)
  pub some : start < end
  pub within : end ≤ length line

pub word_found : (line : List ℕ) (at k n : ℕ) → at ≤ length line → k ≡ position_or_len is_not_blank (drop at line) → k < length (drop at line) → n ≡ position_or_len is_blank (drop k (drop at line)) → IsWord line at (at + k) (at + k + n)
word_found line at k n within ek lt en =
    let some : 0 < n = omega (arith, word_is_some (drop at line) k ek lt) in
    let rest : drop k (drop at line) ≡ drop (at + k) line = drop-drop k at line in
    let le : n ≤ length (drop k (drop at line)) = omega (arith, prefix_len-le-length (λ x. not (is_blank x)) (drop k (drop at line))) in
    let sub : at + k + n - (at + k) ≡ n = omega arith in
    let whole : words (drop k (drop at line)) ≡ take n (drop k (drop at line)) ∷ words (drop n (drop k (drop at line))) = rw en (words_first (drop k (drop at line)) (omega arith)) in
    record {
      found = rw (sub, ← drop-drop n (at + k) line, ← rest) (words_skip (drop at line) ∙ rw (← ek) whole);
      some = omega arith;
      within = omega (arith, length-drop k (drop at line), length-drop at line);
    }

-- the line before a line feed, with the one carriage return before it left out
pub line_found : (octets rest : List ℕ) (at n kept : ℕ) → rest ≡ drop at octets → n ≡ position_or_len is_feed rest → n < length rest
    → kept ≤ n → take kept (take n rest) ≡ strip_carriage_return (take n rest) → lines (drop at octets) ≡ slice_range octets at (at + kept) ∷ lines (drop (at + n + 1) octets)
line_found octets rest at n kept re en lt le ek =
    let sub : at + kept - at ≡ kept = omega arith in
    let first : lines rest ≡ strip_carriage_return (take n rest) ∷ lines (drop (n + 1) rest) = rw en (lines_first rest (omega arith)) in
    let next : drop (n + 1) rest ≡ drop (at + n + 1) octets = rw re (drop-drop (n + 1) at octets ∙ ap (λ (i : ℕ). drop i octets) (omega arith)) in
    let strip : strip_carriage_return (take n rest) ≡ take kept rest = sym ek ∙ take-take kept n rest le in
    rw (← re, sub, ← next, ← strip) first

pub line_last : (octets : List ℕ) (at n : ℕ) → at ≤ length octets → n ≡ position_or_len is_feed (drop at octets) → length (drop at octets) ≤ n → 0 < n → lines (drop at octets) ≡ slice_range octets at (length octets) ∷ lines (drop (length octets) octets)
line_last octets at n within en le pos =
    let le' : n ≤ length (drop at octets) = rw en (prefix_len-le-length (λ x. not (is_feed x)) (drop at octets)) in
    let all : position_or_len is_feed (drop at octets) ≡ length (drop at octets) = omega arith in
    let len : length octets - at ≡ length (drop at octets) = sym (length-drop at octets) in
    rw (len, take-length (drop at octets), drop-length octets) (lines_last (drop at octets) all (omega arith))

pub cut_found : (p : ℕ → Bool) (xs : List ℕ) (i : ℕ) → position p xs ≡ Some i → (i < length xs) × (slice_split p xs ≡ take i xs ∷ slice_split p (drop 1 (drop i xs)))
cut_found p xs i e =
    let is = len_from_position p xs i e in
    let lt : i < length xs = place_within p xs i e in
    (lt, slice_split_first p xs 0 (omega arith) ∙ rw (← is, drop-drop 1 i xs) refl)

pub cut_none : {X : Type 0} (p : X → Bool) (xs : List X) → position p xs ≡ None → slice_split p xs ≡ xs ∷ []
cut_none p xs e = split_all p xs (sym (all_from_position p xs e))
