-- Words joined by spaces are cut into the same words, and lines into the same lines.
use Rattle.std.proofs.Common.{◌≡◌, ◌≢◌, ℕ, ◌-◌, ◌<◌, false, ltb, List, [], ◌∷◌, ◌++◌, length, get_or, All, refl, ap, ◌∙◌, arith}
use Rattle.std.specs.List.{slice_split, filter, join_with_byte}
use Rattle.std.specs.Str.Lines.{lines, lines_of_parts, strip_carriage_return}
use Rattle.std.proofs.lemmas.Bool.{lt-ltb, ne_eqb}
use Rattle.std.proofs.lemmas.List.Splits.{slice_split_at, slice_split_none}
use Rattle.knx_model.specs.Words.{words, is_feed, is_blank}
use Rattle.knx_model.proofs.Cutting.{has_part}

-- what words are made of, in which no blank and no end of a line is
pub record IsWordText (w : List ℕ) : Type 0 where
  pub some : 0 < length w
  pub letters : All (λ b. is_blank b ≡ false) w

filter_first : (xs : List ℕ) (parts : List (List ℕ)) → 0 < length xs → filter (λ w. ltb 0 (length w)) (xs ∷ parts) ≡ xs ∷ filter (λ w. ltb 0 (length w)) parts
filter_first xs parts pos = grind (arith, lt-ltb)

words_one : (w : List ℕ) → IsWordText w → words w ≡ w ∷ []
unfolding words
words_one w is = ap (filter (λ x. ltb 0 (length x))) (slice_split_none is_blank w is.letters) ∙ filter_first w [] is.some

words_then : (w rest : List ℕ) → IsWordText w → words (w ++ 32 ∷ rest) ≡ w ∷ words rest
unfolding words
words_then w rest is = ap (filter (λ x. ltb 0 (length x))) (slice_split_at is_blank w 32 rest is.letters refl) ∙ filter_first w (slice_split is_blank rest) is.some

words-nil : words [] ≡ []
unfolding words
words-nil = refl

-- each is a word
abbrev pub AreWords : List (List ℕ) → Type 0
AreWords [] = Unit {0}
AreWords (w ∷ ws) = IsWordText w × AreWords ws

pub words-join : (ws : List (List ℕ)) → AreWords ws → words (join_with_byte 32 ws) ≡ ws
words-join [] are = words-nil
words-join (w ∷ []) are = words_one w are.0
words-join (w ∷ v ∷ ws) are = words_then w (join_with_byte 32 (v ∷ ws)) are.0 ∙ ap (λ (xs : List (List ℕ)). w ∷ xs) (words-join (v ∷ ws) are.1)

-- a line that has no line feed in it and no carriage return at its end is cut off as it is
pub lines_then : (l rest : List ℕ) → All (λ b. is_feed b ≡ false) l → get_or l (length l - 1) 0 ≢ 13 → lines (l ++ 10 ∷ rest) ≡ l ∷ lines rest
lines_then l rest none end =
    let h = has_part is_feed rest in
    let kept : strip_carriage_return l ≡ l = rw (ne_eqb (get_or l (length l - 1) 0) 13 end) refl in
    ap lines_of_parts (slice_split_at is_feed l 10 rest none refl) ∙ rw (h.2) (ap (λ (x : List ℕ). x ∷ lines_of_parts (h.0 ∷ h.1)) kept)
