-- A value that joins a set is there, or goes last; and its place is that of the first equal one, or the length.
use Rattle.std.proofs.Common.{subst, arith, ◌+◌, cond, ◌≡◌, ◌⊎◌, ◌++◌, ◌||◌, ◌∷◌, [], ℕ, not, List, Bool, true, false, length, ap, sym, ◌∙◌, refl, true≢false, inl, inr}
use Rattle.std.specs.Prelude.{if◌then◌else◌}
use Rattle.std.specs.List.{list_any, position_or_len}
use Rattle.indexmap.specs.IndexSet.{insert_key}

module _ {K : Type 0} (eq : K → K → Bool) where
  last : (ks : List K) (k : K) → list_any (eq k) ks ≡ false → position_or_len (eq k) ks ≡ length ks
  last [] k none = refl
  last (x ∷ ks) k none = by (eq k x) refl (λ e. last ks k (sym (ap (λ c. c || list_any (eq k) ks) e) ∙ none))
    where
      by : (b : Bool) → eq k x ≡ b → (eq k x ≡ false → position_or_len (eq k) ks ≡ length ks) → position_or_len (eq k) (x ∷ ks) ≡ length (x ∷ ks)
      by true e rest = absurd (true≢false (sym (ap (λ c. c || list_any (eq k) ks) e) ∙ none))
      by false e rest = let front : position_or_len (eq k) (x ∷ ks) ≡ 1 + position_or_len (eq k) ks = ap (λ c. cond (not c) (1 + position_or_len (eq k) ks) 0) e in omega (arith, front, rest e)

  pub there_or_last : (ks : List K) (k : K) → (insert_key eq ks k ≡ ks) ⊎ ((position_or_len (eq k) ks ≡ length ks) × (insert_key eq ks k ≡ ks ++ k ∷ []))
  there_or_last ks k = by (list_any (eq k) ks) refl
    where
      by : (b : Bool) → list_any (eq k) ks ≡ b → (insert_key eq ks k ≡ ks) ⊎ ((position_or_len (eq k) ks ≡ length ks) × (insert_key eq ks k ≡ ks ++ k ∷ []))
      by true e = inl (ap (λ c. if c then ks else ks ++ k ∷ []) e)
      by false e = inr (last ks k e, ap (λ c. if c then ks else ks ++ k ∷ []) e)

-- the place of a value and the values after it joined
abbrev pub NextOf : {K : Type 0} → List K → K → ℕ → List K → Type 0
NextOf old k at new = (new ≡ old) ⊎ ((at ≡ length old) × (new ≡ old ++ k ∷ []))

pub next_of : {K : Type 0} (eq : K → K → Bool) (ks old : List K) (k : K) (at : ℕ) (new : List K) → ks ≡ old → at ≡ position_or_len (eq k) ks → new ≡ insert_key eq ks k → NextOf old k at new
next_of eq ks old k at new is place joined = subst (λ l. NextOf l k at new) is (by (there_or_last eq ks k))
  where
    by : ((insert_key eq ks k ≡ ks) ⊎ ((position_or_len (eq k) ks ≡ length ks) × (insert_key eq ks k ≡ ks ++ k ∷ []))) → NextOf ks k at new
    by (inl there) = inl (joined ∙ there)
    by (inr last) = inr (place ∙ last.0, joined ∙ last.1)
