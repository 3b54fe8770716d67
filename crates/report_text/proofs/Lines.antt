-- Lines of some words and of those behind them, and the lines of one telegram after another.
use Rattle.std.proofs.Common.{◌≡◌, ℕ, suc, zero, ◌+◌, ◌-◌, ◌<◌, List, [], ◌∷◌, ◌++◌, Result, Ok, Err, sym, ap, arith, append_assoc, ◌∙◌}
use Rattle.std.specs.Prelude.{OnOk}
use Rattle.std.specs.List.{flat_map, range_with_len, join_with_byte}
use Rattle.knx_model.specs.TextLines.{line}
use Rattle.report_text.specs.Behind.{behind}
use Rattle.report_text.proofs.Behind.{more}

-- some words, those behind them, and the line's end, one after another
pub line_more : {A E : Type 0} (result : Result A E) (first : List ℕ) (some words : List (List ℕ)) (out one two three : List ℕ) → one ≡ out ++ join_with_byte 32 (first ∷ some) → two ≡ one ++ behind words → OnOk result (three ≡ two ++ 10 ∷ [])
    → OnOk result (three ≡ out ++ line (first ∷ (some ++ words)))
line_more (Ok x) first some words out one two three e f g =
    g ∙ (ap (λ (t : List ℕ). t ++ 10 ∷ []) (f ∙ (ap (λ (t : List ℕ). t ++ behind words) e ∙ append_assoc out (join_with_byte 32 (first ∷ some)) (behind words)))
    ∙ (append_assoc out (join_with_byte 32 (first ∷ some) ++ behind words) (10 ∷ [])
    ∙ ap (λ (t : List ℕ). out ++ (t ++ 10 ∷ [])) (sym (more first some words))))
line_more (Err x) first some words out one two three e f g = tt

-- the next of so many
next_of : (from left : ℕ) → 0 < left → range_with_len from left ≡ from ∷ range_with_len (from + 1) (left - 1)
next_of from zero some = absurd (omega arith)
next_of from (suc left) some = ap (λ (n : ℕ). from ∷ range_with_len (from + 1) n) (let e : left ≡ suc left - 1 = omega arith in e)

pub one_line_more : (f : ℕ → List ℕ) (place number turns : ℕ) (out new all : List ℕ) → place < turns → number ≡ place → new ≡ out ++ f (number + 1) → out ++ flat_map f (range_with_len (place + 1) (turns - place)) ≡ all
    → new ++ flat_map f (range_with_len (place + 1 + 1) (turns - (place + 1))) ≡ all
one_line_more f place number turns out new all some is e on =
    let left : turns - place - 1 ≡ turns - (place + 1) = omega arith in
    let split : range_with_len (place + 1) (turns - place) ≡ (place + 1) ∷ range_with_len (place + 1 + 1) (turns - (place + 1)) =
    next_of (place + 1) (turns - place) (omega arith) ∙ ap (λ (n : ℕ). (place + 1) ∷ range_with_len (place + 1 + 1) n) left in
    ap (λ (t : List ℕ). t ++ flat_map f (range_with_len (place + 1 + 1) (turns - (place + 1)))) (e ∙ ap (λ (n : ℕ). out ++ f (n + 1)) is)
    ∙ (append_assoc out (f (place + 1)) (flat_map f (range_with_len (place + 1 + 1) (turns - (place + 1))))
    ∙ (ap (λ (ns : List ℕ). out ++ flat_map f ns) (sym split) ∙ on))
