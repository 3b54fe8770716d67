-- Numbers and ages of datagrams, whole and where their count stands still.
use Rattle.std.proofs.Common.{◌≡◌, ℕ, ◌-◌, ◌^◌, ◌<◌, ◌≤◌, ◌⊎◌, min, false, List, take, length, refl, sym, ap, subst, ◌∙◌, inl, inr, arith, Option, Some, None, if◌then◌else◌}
use Rattle.std.specs.Prelude.{nat_lt, slice_get, option_map}
use Rattle.std.proofs.lemmas.Bool.{cases_lt}
use Rattle.std.proofs.lemmas.List.{length-take, length-map}
use Rattle.line_model.specs.Counts.{age_of}
use Rattle.line_model.specs.Owed.{goes_again, passes_again}
use Rattle.line_model.specs.Network.{Sent}
use Rattle.network_sim.specs.declared.place.Reach.{Reach}
use Rattle.network_sim.specs.declared.place.Reach.TheVariants.{Every, To}
use Rattle.network_sim.specs.Arriving.{passes}
use Rattle.network_sim.specs.Window.{capped, Window, CanTell, window_of, kept_of, kept_age, age_while_kept}
use Rattle.network_sim.proofs.Windows.{got_kept}

-- two ages that are one, or of which neither is kept
abbrev pub AreAlike : ℕ → ℕ → Type 0
AreAlike a b = (a ≡ b) ⊎ ((128 ≤ a) × (128 ≤ b))

alike : (total number : ℕ) → (number < 2 ^ 32) ⊎ (total < 2 ^ 64) → AreAlike (capped total - number) (total - number)
alike total number (inr few) = inl (omega (arith, few))
alike total number (inl small) = elim (cases_lt total (2 ^ 64)) [ inl some ↦ inl (omega arith) | inr many ↦ inr (omega arith, omega arith) ]

pub ages_alike : (sent : List Sent) (w : Window) (number : ℕ) → window_of sent ≡ w → CanTell number sent → AreAlike (w.count - number) (age_of sent number)
ages_alike sent w number same small =
    let P : ℕ → Type 0 = λ n. AreAlike (n - number) (age_of sent number) in
    subst P (ap (λ (x : Window). x.count) same) (alike (length sent) number small)

-- ---- where it is kept

below : (a n : ℕ) → n ≤ a → (if nat_lt a n then Some a else None) ≡ None
below a n h = let past : nat_lt a n ≡ false = grind arith in rw past refl

one_age : (a b n : ℕ) → AreAlike a b → n ≤ 128 → (if nat_lt a n then Some a else None) ≡ (if nat_lt b n then Some b else None)
one_age a b n (inl e) few = ap (λ (x : ℕ). if nat_lt x n then Some x else None) e
one_age a b n (inr old) few = below a n (omega (arith, old.0)) ∙ sym (below b n (omega (arith, old.1)))

pub as_many_kept : (sent : List Sent) (w : Window) → window_of sent ≡ w → length w.kept ≡ min 128 (length sent)
as_many_kept sent w same = ap (λ (x : Window). length x.kept) (sym same) ∙ length-map (take 128 sent) kept_of ∙ length-take 128 sent

pub age_kept : (sent : List Sent) (w : Window) (number : ℕ) → window_of sent ≡ w → CanTell number sent → kept_age w number ≡ age_while_kept sent number
age_kept sent w number same small =
    ap (λ (n : ℕ). if nat_lt (w.count - number) n then Some (w.count - number) else None) (as_many_kept sent w same)
    ∙ one_age (w.count - number) (age_of sent number) (min 128 (length sent)) (ages_alike sent w number same small) (omega arith)

-- ---- once more

again_kept : (reach : Reach) (made age : ℕ) (o : Option Sent) → goes_again (passes reach made) age (option_map kept_of o) ≡ goes_again (passes reach made) age o
again_kept reach made age None = refl
again_kept Every made age (Some s) = refl
again_kept (To endpoint) made age (Some s) = refl

never_old : (reach : Reach) (made age : ℕ) (o : Option Sent) → 128 ≤ age → goes_again (passes reach made) age o ≡ false
never_old reach made age None old = refl
never_old Every made age (Some s) old = grind arith
never_old (To endpoint) made age (Some s) old = grind arith

again_young : (reach : Reach) (made : ℕ) (sent : List Sent) (w : Window) (age : ℕ) → window_of sent ≡ w
    → goes_again (passes reach made) age (slice_get w.kept age) ≡ goes_again (passes reach made) age (slice_get sent age)
again_young reach made sent w age same = elim (cases_lt age 128) [
  | inl young ↦ ap (goes_again (passes reach made) age) (got_kept sent age w same young) ∙ again_kept reach made age (slice_get sent age)
  | inr old ↦ never_old reach made age (slice_get w.kept age) old ∙ sym (never_old reach made age (slice_get sent age) old)
]

one_again : (reach : Reach) (made : ℕ) (sent : List Sent) (w : Window) (a b : ℕ) → window_of sent ≡ w → AreAlike a b
    → goes_again (passes reach made) a (slice_get w.kept a) ≡ goes_again (passes reach made) b (slice_get sent b)
one_again reach made sent w a b same (inl e) = again_young reach made sent w a same ∙ ap (λ (n : ℕ). goes_again (passes reach made) n (slice_get sent n)) e
one_again reach made sent w a b same (inr old) = never_old reach made a (slice_get w.kept a) old.0 ∙ sym (never_old reach made b (slice_get sent b) old.1)

pub goes_again_kept : (reach : Reach) (made : ℕ) (sent : List Sent) (w : Window) (number : ℕ) → window_of sent ≡ w → CanTell number sent
    → goes_again (passes reach made) (w.count - number) (slice_get w.kept (w.count - number)) ≡ passes_again (passes reach made) sent number
goes_again_kept reach made sent w number same small = one_again reach made sent w (w.count - number) (age_of sent number) same (ages_alike sent w number same small)
