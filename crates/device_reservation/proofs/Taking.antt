-- A reservation after its free job was taken.
use Rattle.std.proofs.Common.{◌≡◌, ◌≢◌, ℕ, ◌+◌, ◌-◌, ◌≤◌, inl, inr, true, false, List, length, get_or, Option, Some, cond, sym, ap, subst, ◌∙◌, arith}
use Rattle.std.specs.List.{count_by}
use Rattle.std.proofs.lemmas.Bool.{cases_eq, cases_order}
use Rattle.std.proofs.lemmas.List.{length-set}
use Rattle.std.proofs.lemmas.List.Sums.{sum_by-set}
use Rattle.std.proofs.lemmas.Option.{get_or_from_slice_get}
use Rattle.device_reservation.specs.declared.stage.Stage.{Stage}
use Rattle.device_reservation.specs.declared.stage.Stage.TheVariants.{Untaken, Held, Over}
use Rattle.device_reservation.specs.Bits.{holds}
use Rattle.device_reservation.specs.Kept.{IsKept, is_untaken}
use Rattle.device_reservation.specs.Reservation.{Reservation, stage_of, SameDevice, IsFree, with_stage, job_taken, EarlierAreOver}
use Rattle.device_reservation.proofs.Numbered.{by_place, from_1, within}
use Rattle.device_reservation.proofs.Stages.{back, HasStage, has_stage, else_over, stage_there, stage_elsewhere}

-- ---- how many are untaken

pub counted : (r : Reservation) (job : ℕ) (old new : Stage) → stage_of r job ≡ Some old
    → count_by is_untaken (with_stage r job new).stages + cond (is_untaken old) 1 0 ≡ count_by is_untaken r.stages + cond (is_untaken new) 1 0
counted r job old new e =
    let from : 1 ≤ job = from_1 r.stages job old e in
    let to : job ≤ length r.stages = within r.stages job old e in
    let read : get_or r.stages (job - 1) Over ≡ old = get_or_from_slice_get r.stages (job - 1) old Over (sym (by_place r.stages job from) ∙ e) in
    ap (λ s. count_by is_untaken (with_stage r job new).stages + cond (is_untaken s) 1 0) (sym read) ∙ sum_by-set (λ s. cond (is_untaken s) 1 0) r.stages (job - 1) new Over (omega arith)

-- ---- the earlier jobs of a device are over

pub still_in_order : (r : Reservation) (job worker : ℕ) → length r.stages ≡ length r.devices → EarlierAreOver r → IsFree r job → EarlierAreOver (job_taken worker job r)
still_in_order r job worker alike in_order free j other lt same begun =
    let elsewhere : (k : ℕ) → k ≢ job → stage_of (job_taken worker job r) k ≡ stage_of r k = stage_elsewhere r job Untaken (Held worker) free.untaken in
    elim (cases_eq j job) [
      | inl is ↦
          let mine : SameDevice r job other = subst (λ k. SameDevice r k other) is (back r other j same) in
          let s : HasStage r other = has_stage r other j alike same in
          elsewhere other (λ e. omega arith) ∙ else_over (stage_of r other) s.stage s.is (free.in_order other (omega arith) mine) (λ w. free.alone other w mine)
      | inr apart ↦
          let over : stage_of r other ≡ Some Over = in_order j other lt same (λ e. begun (elsewhere j apart ∙ e)) in
          elim (cases_eq other job) [
            | inl is ↦ let here : stage_of r other ≡ Some Untaken = ap (λ k. stage_of r k) is ∙ free.untaken in absurd (cc)
            | inr apart' ↦ elsewhere other apart' ∙ over
          ]
    ]

-- ---- which jobs are free

-- two jobs of a device aren't both free
one_free : (r : Reservation) (job k : ℕ) → IsFree r job → IsFree r k → k ≢ job → ¬ SameDevice r k job
one_free r job k free other apart same = elim (cases_order k job) [
  | inl is ↦ apart is
  | inr (inl before) ↦ free.in_order k before (back r k job same) other.untaken
  | inr (inr after) ↦ other.in_order job after same free.untaken
]

pub stays_free : (r : Reservation) (job worker k : ℕ) → IsFree r job → k ≢ job → IsFree r k → IsFree (job_taken worker job r) k
stays_free r job worker k free apart other =
    let elsewhere : (k : ℕ) → k ≢ job → stage_of (job_taken worker job r) k ≡ stage_of r k = stage_elsewhere r job Untaken (Held worker) free.untaken in
    let there : stage_of (job_taken worker job r) job ≡ Some (Held worker) = stage_there r job Untaken (Held worker) free.untaken in
    record {
      untaken = elsewhere k apart ∙ other.untaken;
      alone = λ o w same held. elim (cases_eq o job) [
        | inl is ↦ one_free r job k free other apart (subst (λ o. SameDevice r k o) is same)
        | inr apart' ↦ other.alone o w same (sym (elsewhere o apart') ∙ held)
      ];
      in_order = λ o lt same untaken. elim (cases_eq o job) [
        | inl is ↦ let here : stage_of (job_taken worker job r) o ≡ Some (Held worker) = ap (λ o. stage_of (job_taken worker job r) o) is ∙ there in absurd (cc)
        | inr apart' ↦ other.in_order o lt same (sym (elsewhere o apart') ∙ untaken)
      ];
    }

pub not_itself : (r : Reservation) (job worker k : ℕ) → IsFree r job → IsFree (job_taken worker job r) k → k ≢ job
not_itself r job worker k free other is =
    let there : stage_of (job_taken worker job r) k ≡ Some (Held worker) = ap (λ k. stage_of (job_taken worker job r) k) is ∙ stage_there r job Untaken (Held worker) free.untaken in
    let untaken : stage_of (job_taken worker job r) k ≡ Some Untaken = other.untaken in
    absurd (cc)

pub was_free : (r : Reservation) (job worker k : ℕ) → IsFree r job → IsFree (job_taken worker job r) k → IsFree r k
was_free r job worker k free other =
    let elsewhere : (k : ℕ) → k ≢ job → stage_of (job_taken worker job r) k ≡ stage_of r k = stage_elsewhere r job Untaken (Held worker) free.untaken in
    let there : stage_of (job_taken worker job r) job ≡ Some (Held worker) = stage_there r job Untaken (Held worker) free.untaken in
    record {
      untaken = sym (elsewhere k (not_itself r job worker k free other)) ∙ other.untaken;
      alone = λ o w same held. elim (cases_eq o job) [
        | inl is ↦ let here : stage_of r o ≡ Some Untaken = ap (λ o. stage_of r o) is ∙ free.untaken in absurd (cc)
        | inr apart ↦ other.alone o w same (elsewhere o apart ∙ held)
      ];
      in_order = λ o lt same untaken. elim (cases_eq o job) [
        | inl is ↦ other.alone job worker (subst (λ o. SameDevice r k o) is same) there
        | inr apart ↦ other.in_order o lt same (elsewhere o apart ∙ untaken)
      ];
    }

-- ---- the whole

pub kept_after_take : (r : Reservation) (next : List (Option ℕ)) (free free' : List ℕ) (untaken job worker : ℕ) → IsKept r next free untaken → holds free job ≡ true
    → length free' ≡ length free → holds free' job ≡ false → ((n : ℕ) → n ≢ job → holds free' n ≡ holds free n) → IsKept (job_taken worker job r) next free' (untaken - 1)
kept_after_take r next free free' untaken job worker kept first same out others =
    let f : IsFree r job = kept.free_are job first in
    let count : count_by is_untaken (job_taken worker job r).stages + 1 ≡ count_by is_untaken r.stages + 0 = counted r job Untaken (Held worker) f.untaken in
    record {
      alike = length-set r.stages (job - 1) (Held worker) ∙ kept.alike;
      few = kept.few;
      in_order = still_in_order r job worker kept.alike kept.in_order f;
      next_is = kept.next_is;
      room = omega (arith, kept.room);
      free_are = λ k held. elim (cases_eq k job) [
        | inl is ↦ let none : holds free' k ≡ false = ap (λ k. holds free' k) is ∙ out in absurd (cc)
        | inr apart ↦ stays_free r job worker k f apart (kept.free_are k (sym (others k apart) ∙ held))
      ];
      are_free = λ k g. others k (not_itself r job worker k f g) ∙ kept.are_free k (was_free r job worker k f g);
      count = omega (arith, kept.count);
    }
