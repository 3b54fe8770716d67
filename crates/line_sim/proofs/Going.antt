-- The datagram that goes once more may come.
use Rattle.std.proofs.Common.{◌≡◌, ℕ, zero, suc, ◌-◌, Bool, true, false, ◌==◌, List, [], ◌∷◌, length, Option, Some, None, refl, ap, sym, ◌∙◌, arith, if◌then◌else◌}
use Rattle.std.specs.Prelude.{nat_lt, slice_get}
use Rattle.std.proofs.lemmas.Bool.{and_parts}
use Rattle.line_model.specs.Network.{Sent, OfSent}
use Rattle.line_model.specs.Owed.{goes_again, passes_again}
use Rattle.network_sim.specs.declared.place.Reach.{Reach}
use Rattle.network_sim.specs.Arriving.{MayCome, passes}
use Rattle.network_sim.specs.Window.{CanTell, Window, kept_age, window_of}
use Rattle.network_sim.proofs.Ages.{goes_again_kept}
use Rattle.tunnel_sim.proofs.Going.{may_come}

-- one that goes again may come
pub again_comes : (reach : Reach) (m age : ℕ) (kept : List Sent) → goes_again (passes reach m) age (slice_get kept age) ≡ true → MayCome reach m kept age
again_comes reach m age kept h = may_come reach m age kept (by_sent (slice_get kept age) h)
  where
    by_sent : (o : Option Sent) → goes_again (passes reach m) age o ≡ true → OfSent (λ s. passes reach m age s ≡ true) o
    by_sent None h = cc
    by_sent (Some s) h = (and_parts (passes reach m age s) (s.delivered == 1) h).0

not_there : (xs : List Sent) (k : ℕ) → (if nat_lt k (length xs) then Some k else None) ≡ None → slice_get xs k ≡ None
not_there xs k h = by_order (nat_lt k (length xs)) refl h
  where
    past : (ys : List Sent) (i : ℕ) → nat_lt i (length ys) ≡ false → slice_get ys i ≡ None
    past [] i e = refl
    past (y ∷ ys) zero e = absurd (none e)
      where
        none : nat_lt 0 (length (y ∷ ys)) ≡ false → ⊥
        none e = grind arith
    past (y ∷ ys) (suc i) e = past ys i (less e)
      where
        less : nat_lt (suc i) (length (y ∷ ys)) ≡ false → nat_lt i (length ys) ≡ false
        less e = grind arith

    by_order : (t : Bool) → nat_lt k (length xs) ≡ t → (if t then Some k else None) ≡ None → slice_get xs k ≡ None
    by_order true e h = cc
    by_order false e h = past xs k e

-- one that isn't kept goes no more
pub not_kept : (reach : Reach) (m : ℕ) (w : Window) (number : ℕ) → None ≡ kept_age w number → (sent : List Sent) → window_of sent ≡ w → CanTell number sent → false ≡ passes_again (passes reach m) sent number
not_kept reach m w number none sent same tells =
    sym (ap (goes_again (passes reach m) (w.count - number)) (not_there w.kept (w.count - number) (sym none))) ∙ goes_again_kept reach m sent w number same tells

pub is_age : (w : Window) (number age : ℕ) → Some age ≡ kept_age w number → age ≡ w.count - number
is_age w number age h = by_order (nat_lt (w.count - number) (length w.kept)) h
  where
    by_order : (t : Bool) → Some age ≡ (if t then Some (w.count - number) else None) → age ≡ w.count - number
    by_order true e = cc
    by_order false e = cc
