-- Whether something is left for a hub, by what its work tells of its jobs, and by its next group telegram.
use Rattle.std.proofs.Common.{◌≡◌, ◌≢◌, ℕ, Bool, true, false, List, Option, Some, None, refl, sym, ◌∙◌}
use Rattle.std.specs.Prelude.{IfSome, is_some}
use Rattle.line_model.specs.Log.{Job, JobState, Untaken, Held, Over, AllOver, IsNextTurn, JobUnfinished, state_of}
use Rattle.hub_work.specs.declared.work.Work.{Work}
use Rattle.hub_work.specs.Books.{AreJobsOf}
use Rattle.hub_work.specs.Works.{KeepsBooks, HasUnfinished}
use Rattle.hub_core.specs.Left.{IsLeft}
use Rattle.hub_core.specs.Seen.{Seen}

is_over : (s : JobState) → (s ≢ Over → ⊥) → s ≡ Over
is_over Untaken h = absurd (h (λ e. cc))
is_over (Held worker since) h = absurd (h (λ e. cc))
is_over Over h = refl

module _ (w : Work) (at : ℕ) (books : KeepsBooks at w) (jobs : List Job) (are : AreJobsOf w.reservation.devices jobs) (b : Bool) (has : HasUnfinished w b) where
  pub all_over : b ≡ false → AllOver jobs w.journal.entries
  all_over e k there = is_over (state_of k w.journal.entries) (λ isnt. let z : false ≡ true = sym e ∙ (has jobs at books are).1 (k, there, isnt) in cc)

  pub not_over : b ≡ true → AllOver jobs w.journal.entries → ⊥
  not_over e over = let u : JobUnfinished jobs w.journal.entries = (has jobs at books are).0 e in u.2 (over u.0 u.1)

-- a group telegram is left
pub next_left : {L : Type 0} (hub : Seen L) (k : ℕ) → IsNextTurn hub.turns hub.log k → IsLeft hub
next_left hub k next all are f = f.turns_told (k, next.there, next.untold)

pub left_by_next : {L : Type 0} (hub : Seen L) (k : Option ℕ) → IfSome k (λ (n : ℕ). IsNextTurn hub.turns hub.log n) → is_some k ≡ true → IsLeft hub
left_by_next hub None next some = absurd (cc)
left_by_next hub (Some k) next some = next_left hub k next

pub no_next : (k : Option ℕ) → is_some k ≡ false → k ≡ None
no_next None e = refl
no_next (Some k) e = absurd (let z : true ≡ false = e in cc)
