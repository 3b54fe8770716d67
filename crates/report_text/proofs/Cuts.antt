-- Lines of words that have no space and no line feed in them are cut into the same words.
use Rattle.std.proofs.Common.{◌≡◌, ℕ, ◌<◌, ◌≤◌, Bool, true, false, ◌&&◌, eqb, ltb, List, [], ◌∷◌, ◌++◌, map, All, refl, sym, ap, ◌∙◌, arith, append_assoc, ltb-true, lt-ltb, ne_eqb}
use Rattle.std.specs.List.{AllByRecursion, list_all, flat_map, slice_split, join_with_byte}
use Rattle.std.proofs.lemmas.Bool.{and_parts, and_from}
use Rattle.std.proofs.lemmas.List.{append_cancel_right}
use Rattle.std.proofs.lemmas.List.Elements.{All-from_recursion}
use Rattle.std.proofs.lemmas.List.Folds.{list_all-append}
use Rattle.std.proofs.lemmas.List.Splits.{slice_split_at, slice_split_none}
use Rattle.knx_model.specs.TextLines.{line}

abbrev pub Words : Type 0
Words = List (List ℕ)

-- nothing in it is below a space, nor a space
abbrev pub is_word : List ℕ → Bool
is_word w = list_all (ltb 32) w

-- a line has a word
abbrev pub is_line : Words → Bool
is_line [] = false
is_line (w ∷ ws) = is_word w && list_all is_word ws

without : (b c : ℕ) → c ≤ b → (w : List ℕ) → list_all (ltb b) w ≡ true → AllByRecursion (λ x. eqb x c ≡ false) w
without b c le [] e = tt
without b c le (x ∷ xs) e =
    let h = and_parts (ltb b x) (list_all (ltb b) xs) e in
    let above : b < x = ltb-true b x h.0 in
    (ne_eqb x c (λ q. omega arith), without b c le xs h.1)

none_of : (b c : ℕ) → c ≤ b → (w : List ℕ) → list_all (ltb b) w ≡ true → All (λ x. eqb x c ≡ false) w
none_of b c le w e = All-from_recursion (λ x. eqb x c ≡ false) w (without b c le w e)

abbrev cut : List ℕ → Words
cut text = slice_split (λ x. eqb x 32) text

cut_words : (w : List ℕ) (ws : Words) → is_word w ≡ true → list_all is_word ws ≡ true → cut (join_with_byte 32 (w ∷ ws)) ≡ w ∷ ws
cut_words w [] e f = slice_split_none (λ x. eqb x 32) w (none_of 32 32 (omega arith) w e)
cut_words w (v ∷ ws) e f =
    let h = and_parts (is_word v) (list_all is_word ws) f in
    slice_split_at (λ x. eqb x 32) w 32 (join_with_byte 32 (v ∷ ws)) (none_of 32 32 (omega arith) w e) refl ∙ ap (λ (vs : Words). w ∷ vs) (cut_words v ws h.0 h.1)

weaker : (w : List ℕ) → is_word w ≡ true → list_all (ltb 31) w ≡ true
weaker [] e = refl
weaker (x ∷ xs) e =
    let h = and_parts (ltb 32 x) (is_word xs) e in
    let above : 32 < x = ltb-true 32 x h.0 in
    and_from (ltb 31 x) (list_all (ltb 31) xs) (lt-ltb 31 x (omega arith)) (weaker xs h.1)

joined : (w : List ℕ) (ws : Words) → is_word w ≡ true → list_all is_word ws ≡ true → list_all (ltb 31) (join_with_byte 32 (w ∷ ws)) ≡ true
joined w [] e f = weaker w e
joined w (v ∷ ws) e f =
    let h = and_parts (is_word v) (list_all is_word ws) f in
    list_all-append (ltb 31) w (32 ∷ join_with_byte 32 (v ∷ ws)) ∙ and_from (list_all (ltb 31) w) (list_all (ltb 31) (join_with_byte 32 (v ∷ ws))) (weaker w e) (joined v ws h.0 h.1)

cut_lines : (lines : List Words) → list_all is_line lines ≡ true → map cut (slice_split (λ x. eqb x 10) (flat_map line lines)) ≡ lines ++ ([] ∷ []) ∷ []
cut_lines [] e = refl
cut_lines ([] ∷ lines) e = absurd (let z : false ≡ true = e in cc)
cut_lines ((w ∷ ws) ∷ lines) e =
    let h = and_parts (is_word w && list_all is_word ws) (list_all is_line lines) e in
    let k = and_parts (is_word w) (list_all is_word ws) h.0 in
    let text : List ℕ = join_with_byte 32 (w ∷ ws) in
    let rest : List ℕ = flat_map line lines in
    ap (λ (t : List ℕ). map cut (slice_split (λ x. eqb x 10) t)) (append_assoc text (10 ∷ []) rest)
    ∙ (ap (map cut) (slice_split_at (λ x. eqb x 10) text 10 rest (none_of 31 10 (omega arith) text (joined w ws k.0 k.1)) refl)
    ∙ (ap (λ (x : Words). x ∷ map cut (slice_split (λ y. eqb y 10) rest)) (cut_words w ws k.0 k.1)
    ∙ ap (λ (xs : List Words). (w ∷ ws) ∷ xs) (cut_lines lines h.1)))

-- lines with one text are the same
pub same_lines : (one other : List Words) → list_all is_line one ≡ true → list_all is_line other ≡ true → flat_map line one ≡ flat_map line other → one ≡ other
same_lines one other e f same =
    append_cancel_right one other (([] ∷ []) ∷ []) (sym (cut_lines one e) ∙ (ap (λ (t : List ℕ). map cut (slice_split (λ x. eqb x 10) t)) same ∙ cut_lines other f))
