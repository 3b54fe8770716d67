-- A line as its first word, and the others each behind a space.
use Rattle.std.proofs.Common.{◌≡◌, ℕ, List, [], ◌∷◌, ◌++◌, sym, ap, ◌∙◌, append_assoc, arith, Result, Ok, Err, OnOk}
use Rattle.std.specs.List.{join_with_byte}
use Rattle.std.proofs.lemmas.List.{append-nil}
use Rattle.knx_model.specs.TextLines.{line}
use Rattle.frame_text.specs.Spaced.{spaced}

joined : (first : List ℕ) (words : List (List ℕ)) → join_with_byte 32 (first ∷ words) ≡ first ++ spaced words
joined first [] = sym (append-nil first)
joined first (word ∷ words) = ap (λ (l : List ℕ). first ++ (32 ∷ l)) (joined word words)

pub line_spaced : (first : List ℕ) (words : List (List ℕ)) → line (first ∷ words) ≡ (first ++ spaced words) ++ 10 ∷ []
line_spaced first words = ap (λ (l : List ℕ). l ++ 10 ∷ []) (joined first words)

-- a first word, then the others, then a line feed
pub line_put : {T E : Type 0} (r : Result T E) (first : List ℕ) (words : List (List ℕ)) (old begun all new : List ℕ) → begun ≡ old ++ first → all ≡ begun ++ spaced words → OnOk r (new ≡ all ++ 10 ∷ []) → OnOk r (new ≡ old ++ line (first ∷ words))
line_put (Ok x) first words old begun all new first_put words_put feed_put =
    let e : new ≡ old ++ ((first ++ spaced words) ++ 10 ∷ []) = grind (arith, append_assoc, first_put, words_put, feed_put) in
    e ∙ ap (λ (l : List ℕ). old ++ l) (sym (line_spaced first words))
line_put (Err why) first words old begun all new first_put words_put feed_put = feed_put
