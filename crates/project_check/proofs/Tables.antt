-- Tables with a value for each address, of which one is replaced.
use Rattle.std.proofs.Common.{◌≡◌, ℕ, Bool, true, false, cond, eqb, List, Option, Some, refl, sym, ap, ◌∙◌}
use Rattle.std.specs.Prelude.{slice_get}
use Rattle.std.proofs.lemmas.Bool.{eqb-true}
use Rattle.std.proofs.lemmas.Option.{same_Some}
use Rattle.project_check.specs.Knowing.{Holds}

put_at : {T : Type 0} (b : Bool) (new value x : T) (old : Option T) → (old ≡ Some value → value ≡ x) → cond b (Some new) old ≡ Some value → value ≡ cond b new x
put_at true new value x old held is = sym (same_Some new value is)
put_at false new value x old held is = held is

-- a table of which one value is replaced
pub holds_put : {T : Type 0} (old new : List T) (f : ℕ → T) (address : ℕ) (value : T) → ((a : ℕ) → slice_get new a ≡ cond (eqb address a) (Some value) (slice_get old a)) → Holds old f → Holds new (λ a. cond (eqb address a) value (f a))
holds_put old new f address value put held a found is = put_at (eqb address a) value found (f a) (slice_get old a) (held a found) (sym (put a) ∙ is)

-- where the new value is what its address asks for
pub holds_new : {T : Type 0} (old new : List T) (f : ℕ → T) (more : T → T) (address : ℕ) (value : T) → ((a : ℕ) → slice_get new a ≡ cond (eqb address a) (Some value) (slice_get old a)) → value ≡ more (f address) → Holds old f → Holds new (λ a. cond (eqb address a) (more (f a)) (f a))
holds_new {T = T} old new f more address value put new_is held a found is = holds_put old new f address value put held a found is ∙ at (eqb address a) refl
  where
    at : (b : Bool) → eqb address a ≡ b → cond b value (f a) ≡ cond b (more (f a)) (f a)
    at true same = new_is ∙ ap (λ (n : ℕ). more (f n)) (eqb-true address a same)
    at false other = refl
