-- Words behind the first ones of a line.
use Rattle.std.proofs.Common.{◌≡◌, ℕ, List, [], ◌∷◌, ◌++◌, sym, ap, append_assoc, ◌∙◌}
use Rattle.std.specs.List.{join_with_byte}
use Rattle.std.proofs.lemmas.List.{append-nil}
use Rattle.report_text.specs.Behind.{behind}

pub one_and_more : (a : List ℕ) (words : List (List ℕ)) → join_with_byte 32 (a ∷ words) ≡ a ++ behind words
one_and_more a [] = sym (append-nil a)
one_and_more a (word ∷ words) = ap (λ (text : List ℕ). a ++ (32 ∷ text)) (one_and_more word words)

-- behind some words
pub more : (a : List ℕ) (some words : List (List ℕ)) → join_with_byte 32 (a ∷ (some ++ words)) ≡ join_with_byte 32 (a ∷ some) ++ behind words
more a [] words = one_and_more a words
more a (word ∷ some) words =
    ap (λ (text : List ℕ). a ++ (32 ∷ text)) (more word some words) ∙ sym (append_assoc a (32 ∷ join_with_byte 32 (word ∷ some)) (behind words))
