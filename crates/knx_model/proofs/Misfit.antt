-- A word that doesn't fit its place, behind words that fit theirs.
use Rattle.std.proofs.Common.{◌≡◌, ◌⊎◌, inl, inr, ℕ, Bool, true, false, List, [], ◌∷◌, Option, Some, None, Result, Ok, Err, refl, sym, ap}
use Rattle.std.specs.Prelude.{is_some}
use Rattle.knx_model.specs.declared.refusal.Why.{Why}
use Rattle.knx_model.specs.Answers.{◌>>=◌}
use Rattle.knx_model.specs.Places.{Place, wants, FirstMisfit}
use Rattle.knx_model.specs.Statements.{placed, field}

-- the word of a place doesn't fit, or it is read and a later one doesn't
step : {A B : Type 0} (bad why : Why) (next : A × List (List ℕ) → Result B Why) (places : List Place) (words : List (List ℕ)) (read : Option A)
    → ((is_some read ≡ false) × (why ≡ bad)) ⊎ ((is_some read ≡ true) × FirstMisfit places words why)
    → ((x : A) (rest : List (List ℕ)) → FirstMisfit places rest why → next (x, rest) ≡ Err why) → (placed read bad words >>= next) ≡ Err why
step bad why next places words None (inl (none, same)) later = ap (λ (w : Why). Err w) (sym same)
step bad why next places words None (inr (some, more)) later = absurd (cc)
step bad why next places words (Some x) (inl (none, same)) later = absurd (cc)
step bad why next places words (Some x) (inr (some, more)) later = later x words more

pub misfit : {A B : Type 0} (read : List ℕ → Option A) (bad why : Why) (next : A × List (List ℕ) → Result B Why) (places : List Place) (words : List (List ℕ)) → FirstMisfit (wants read bad ∷ places) words why
    → ((x : A) (rest : List (List ℕ)) → FirstMisfit places rest why → next (x, rest) ≡ Err why) → (field read bad words >>= next) ≡ Err why
misfit read bad why next places [] first later = absurd first
misfit read bad why next places (word ∷ words) first later = step bad why next places words (read word) first later
