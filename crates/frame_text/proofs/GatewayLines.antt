-- Words, one list behind another.
use Rattle.std.proofs.Common.{◌≡◌, ℕ, List, [], ◌∷◌, ◌++◌, refl, ap, sym, ◌∙◌, append_assoc, Result, Ok, Err, OnOk}
use Rattle.frame_text.specs.Spaced.{spaced}

pub spaced_both : (one other : List (List ℕ)) → spaced (one ++ other) ≡ spaced one ++ spaced other
spaced_both [] other = refl
spaced_both (word ∷ one) other = ap (λ (l : List ℕ). (32 ∷ word) ++ l) (spaced_both one other) ∙ sym (append_assoc (32 ∷ word) (spaced one) (spaced other))

-- words are put behind others
pub both_put : {T E : Type 0} (r : Result T E) (one other : List (List ℕ)) (old begun new : List ℕ) → begun ≡ old ++ spaced one → OnOk r (new ≡ begun ++ spaced other) → OnOk r (new ≡ old ++ spaced (one ++ other))
both_put (Ok x) one other old begun new first second =
    second ∙ ap (λ (l : List ℕ). l ++ spaced other) first ∙ append_assoc old (spaced one) (spaced other) ∙ ap (λ (l : List ℕ). old ++ l) (sym (spaced_both one other))
both_put (Err why) one other old begun new first second = second
