-- A reservation after a held job ended: the next job of its device is free.
use Rattle.std.proofs.Common.{◌≡◌, ◌≢◌, ℕ, ◌+◌, ◌-◌, ◌*◌, ◌<◌, ◌≤◌, inl, inr, true, List, length, get_or, Option, Some, None, refl, sym, ap, subst, ◌∙◌, arith}
use Rattle.std.specs.List.{count_by}
use Rattle.std.proofs.lemmas.Bool.{cases_eq, cases_order}
use Rattle.std.proofs.lemmas.List.{length-set}
use Rattle.line_model.specs.Log.{numbered_from_one}
use Rattle.device_reservation.specs.declared.stage.Stage.TheVariants.{Untaken, Held, Over}
use Rattle.device_reservation.specs.Bits.{holds}
use Rattle.device_reservation.specs.Chains.{IsNext, IsLast}
use Rattle.device_reservation.specs.Kept.{IsKept, is_untaken}
use Rattle.device_reservation.specs.Reservation.{Reservation, stage_of, SameDevice, IsFree, job_ended, EarlierAreOver}
use Rattle.device_reservation.proofs.Stages.{back, on, HasStage, has_stage, else_untaken, stage_there, stage_elsewhere}
use Rattle.std.proofs.lemmas.Option.{slice_get_read}
use Rattle.device_reservation.proofs.Numbered.{by_place, from_1, within}
use Rattle.device_reservation.proofs.Taking.{counted}

-- a job that is held, and what is known of the others of its device
pub record Ending (r : Reservation) (job worker : ℕ) : Type 0 where
  pub alike : length r.stages ≡ length r.devices
  pub in_order : EarlierAreOver r
  pub held : stage_of r job ≡ Some (Held worker)

pub elsewhere : (r : Reservation) (job worker : ℕ) → Ending r job worker → (k : ℕ) → k ≢ job → stage_of (job_ended job r) k ≡ stage_of r k
elsewhere r job worker e k apart = stage_elsewhere r job (Held worker) Over e.held k apart

pub ended : (r : Reservation) (job worker : ℕ) → Ending r job worker → (k : ℕ) → k ≡ job → stage_of (job_ended job r) k ≡ Some Over
ended r job worker e k is = ap (λ k. stage_of (job_ended job r) k) is ∙ stage_there r job (Held worker) Over e.held

held_there : (r : Reservation) (job worker : ℕ) → Ending r job worker → (k : ℕ) → k ≡ job → stage_of r k ≡ Some (Held worker)
held_there r job worker e k is = ap (λ k. stage_of r k) is ∙ e.held

-- the earlier ones are over, and the later ones are untaken
earlier_over : (r : Reservation) (job worker : ℕ) → Ending r job worker → (k : ℕ) → k < job → SameDevice r k job → stage_of r k ≡ Some Over
earlier_over r job worker e k lt same = e.in_order job k lt same (λ untaken. let held : stage_of r job ≡ Some (Held worker) = e.held in absurd (cc))

later_untaken : (r : Reservation) (job worker : ℕ) → Ending r job worker → (k : ℕ) → job < k → SameDevice r job k → stage_of r k ≡ Some Untaken
later_untaken r job worker e k lt same =
    let s : HasStage r k = has_stage r k job e.alike (back r job k same) in
    else_untaken (stage_of r k) s.stage s.is (λ begun.
    let over : stage_of r job ≡ Some Over = e.in_order k job lt same begun in
    let held : stage_of r job ≡ Some (Held worker) = e.held in
    absurd (cc))

pub in_order_after : (r : Reservation) (job worker : ℕ) → Ending r job worker → EarlierAreOver (job_ended job r)
in_order_after r job worker e j other lt same begun = elim (cases_eq other job) [
  | inl is ↦ ended r job worker e other is
  | inr apart ↦ elsewhere r job worker e other apart ∙ elim (cases_eq j job) [
    | inl is ↦ earlier_over r job worker e other (omega arith) (subst (λ k. SameDevice r other k) is same)
    | inr apart' ↦ e.in_order j other lt same (λ untaken. begun (elsewhere r job worker e j apart' ∙ untaken))
  ]
]

-- ---- the job that becomes free

pub next_is_free : (r : Reservation) (job worker next : ℕ) → Ending r job worker → IsNext r.devices job next → IsFree (job_ended job r) next
next_is_free r job worker next e n = record {
  untaken = elsewhere r job worker e next (λ is. let later : job < next = n.later in absurd (omega arith)) ∙ later_untaken r job worker e next n.later n.same;
  alone = λ o w same held. elim (cases_order o job) [
    | inl is ↦ let over : stage_of (job_ended job r) o ≡ Some Over = ended r job worker e o is in absurd (cc)
    | inr (inl before) ↦
        let there : stage_of r o ≡ Some (Held w) = sym (elsewhere r job worker e o (λ is. omega arith)) ∙ held in
        let over : stage_of r o ≡ Some Over = earlier_over r job worker e o before (back r job o (on r job next o n.same same)) in
        absurd (cc)
    | inr (inr after) ↦
        let there : stage_of r o ≡ Some (Held w) = sym (elsewhere r job worker e o (λ is. omega arith)) ∙ held in
        let untaken : stage_of r o ≡ Some Untaken = later_untaken r job worker e o after (on r job next o n.same same) in
        absurd (cc)
  ];
  in_order = λ o lt same untaken. elim (cases_order o job) [
    | inl is ↦ let over : stage_of (job_ended job r) o ≡ Some Over = ended r job worker e o is in absurd (cc)
    | inr (inl before) ↦
        let there : stage_of r o ≡ Some Untaken = sym (elsewhere r job worker e o (λ is. omega arith)) ∙ untaken in
        let over : stage_of r o ≡ Some Over = earlier_over r job worker e o before (back r job o (on r job next o n.same same)) in
        absurd (cc)
    | inr (inr after) ↦ n.none_between o after lt (on r job next o n.same same)
  ];
}

-- ---- those that were free

pub still_free : (r : Reservation) (job worker k : ℕ) → Ending r job worker → IsFree r k → IsFree (job_ended job r) k
still_free r job worker k e free = record {
  untaken = elsewhere r job worker e k (λ is. let held : stage_of r k ≡ Some (Held worker) = held_there r job worker e k is in let untaken : stage_of r k ≡ Some Untaken = free.untaken in absurd (cc)) ∙ free.untaken;
  alone = λ o w same held. elim (cases_eq o job) [
    | inl is ↦ let over : stage_of (job_ended job r) o ≡ Some Over = ended r job worker e o is in absurd (cc)
    | inr apart ↦ free.alone o w same (sym (elsewhere r job worker e o apart) ∙ held)
  ];
  in_order = λ o lt same untaken. elim (cases_eq o job) [
    | inl is ↦ let over : stage_of (job_ended job r) o ≡ Some Over = ended r job worker e o is in absurd (cc)
    | inr apart ↦ free.in_order o lt same (sym (elsewhere r job worker e o apart) ∙ untaken)
  ];
}

not_ended : (r : Reservation) (job worker k : ℕ) → Ending r job worker → IsFree (job_ended job r) k → k ≢ job
not_ended r job worker k e free is =
    let over : stage_of (job_ended job r) k ≡ Some Over = ended r job worker e k is in
    let untaken : stage_of (job_ended job r) k ≡ Some Untaken = free.untaken in
    absurd (cc)

-- a job is free that was free before, or is of the device
pub was_free : (r : Reservation) (job worker k : ℕ) → Ending r job worker → (job < k → ¬ SameDevice r job k) → IsFree (job_ended job r) k → IsFree r k
was_free r job worker k e other free =
    let untaken : stage_of r k ≡ Some Untaken = sym (elsewhere r job worker e k (not_ended r job worker k e free)) ∙ free.untaken in
    record {
      untaken = untaken;
      alone = λ o w same held. elim (cases_eq o job) [
        | inl is ↦
            let mine : SameDevice r k job = subst (λ o. SameDevice r k o) is same in
            elim (cases_order k job) [
              | inl itself ↦ not_ended r job worker k e free itself
              | inr (inl before) ↦ let over : stage_of r k ≡ Some Over = earlier_over r job worker e k before mine in absurd (cc)
              | inr (inr after) ↦ other after (back r k job mine)
            ]
        | inr apart ↦ free.alone o w same (elsewhere r job worker e o apart ∙ held)
      ];
      in_order = λ o lt same waits. elim (cases_eq o job) [
        | inl is ↦ let held : stage_of r o ≡ Some (Held worker) = held_there r job worker e o is in absurd (cc)
        | inr apart ↦ free.in_order o lt same (elsewhere r job worker e o apart ∙ waits)
      ];
    }

-- of the later jobs of the device only the next one is free
only_next : (r : Reservation) (job worker next k : ℕ) → Ending r job worker → IsNext r.devices job next → IsFree (job_ended job r) k → k ≢ next → job < k → ¬ SameDevice r job k
only_next r job worker next k e n free apart lt same = elim (cases_order k next) [
  | inl is ↦ apart is
  | inr (inl before) ↦ n.none_between k lt before same
  | inr (inr after) ↦ free.in_order next after (back r next k (on r next job k (back r job next n.same) same)) (next_is_free r job worker next e n).untaken
]

-- ---- the whole

pub ending : (r : Reservation) (next : List (Option ℕ)) (free : List ℕ) (untaken job worker : ℕ) → IsKept r next free untaken → stage_of r job ≡ Some (Held worker) → Ending r job worker
ending r next free untaken job worker kept held = record { alike = kept.alike; in_order = kept.in_order; held = held }

same_count : (r : Reservation) (job worker untaken : ℕ) → Ending r job worker → untaken ≡ count_by is_untaken r.stages → untaken ≡ count_by is_untaken (job_ended job r).stages
same_count r job worker untaken e count = let c : count_by is_untaken (job_ended job r).stages + 0 ≡ count_by is_untaken r.stages + 0 = counted r job (Held worker) Over e.held in omega arith

pub kept_after_next : (r : Reservation) (next : List (Option ℕ)) (free free' : List ℕ) (untaken job worker k : ℕ) → IsKept r next free untaken → stage_of r job ≡ Some (Held worker)
    → numbered_from_one next job ≡ Some (Some k) → length free' ≡ length free → holds free' k ≡ true → ((n : ℕ) → n ≢ k → holds free' n ≡ holds free n) → IsKept (job_ended job r) next free' untaken
kept_after_next r next free free' untaken job worker k kept held at same there others =
    let e : Ending r job worker = ending r next free untaken job worker kept held in
    let n : IsNext r.devices job k = kept.next_is.next_is job k at in
    record {
      alike = length-set r.stages (job - 1) Over ∙ kept.alike;
      few = kept.few;
      in_order = in_order_after r job worker e;
      next_is = kept.next_is;
      room = omega (arith, kept.room);
      free_are = λ m in_free. elim (cases_eq m k) [
        | inl is ↦ subst (λ m. IsFree (job_ended job r) m) (sym is) (next_is_free r job worker k e n)
        | inr apart ↦ still_free r job worker m e (kept.free_are m (sym (others m apart) ∙ in_free))
      ];
      are_free = λ m f. elim (cases_eq m k) [
        | inl is ↦ ap (λ m. holds free' m) is ∙ there
        | inr apart ↦ others m apart ∙ kept.are_free m (was_free r job worker m e (only_next r job worker k m e n f apart) f)
      ];
      count = same_count r job worker untaken e kept.count;
    }

pub kept_after_last : (r : Reservation) (next : List (Option ℕ)) (free : List ℕ) (untaken job worker : ℕ) → IsKept r next free untaken → stage_of r job ≡ Some (Held worker)
    → numbered_from_one next job ≡ Some None → IsKept (job_ended job r) next free untaken
kept_after_last r next free untaken job worker kept held at =
    let e : Ending r job worker = ending r next free untaken job worker kept held in
    let last : IsLast r.devices job = kept.next_is.last_is job at in
    record {
      alike = length-set r.stages (job - 1) Over ∙ kept.alike;
      few = kept.few;
      in_order = in_order_after r job worker e;
      next_is = kept.next_is;
      room = kept.room;
      free_are = λ m in_free. still_free r job worker m e (kept.free_are m in_free);
      are_free = λ m f. kept.are_free m (was_free r job worker m e (last m) f);
      count = same_count r job worker untaken e kept.count;
    }

-- ---- what is read of the chains

pub next_at : (r : Reservation) (next : List (Option ℕ)) (free : List ℕ) (untaken job worker : ℕ) (o : Option ℕ) → IsKept r next free untaken → stage_of r job ≡ Some (Held worker)
    → o ≡ get_or next (job - 1) o → numbered_from_one next job ≡ Some o
next_at r next free untaken job worker o kept held read =
    let from : 1 ≤ job = from_1 r.stages job (Held worker) held in
    let to : job ≤ length r.stages = within r.stages job (Held worker) held in
    by_place next job from ∙ slice_get_read next (length next) (job - 1) o refl (omega (arith, kept.next_is.alike, kept.alike)) read

pub next_within : (r : Reservation) (next : List (Option ℕ)) (free : List ℕ) (untaken job k : ℕ) → IsKept r next free untaken → numbered_from_one next job ≡ Some (Some k) → k < 64 * length free
next_within r next free untaken job k kept at =
    let n : IsNext r.devices job k = kept.next_is.next_is job k at in
    let s : HasStage r k = has_stage r k job kept.alike (back r job k n.same) in
    let to : k ≤ length r.stages = within r.stages k s.stage s.is in
    omega (arith, kept.room, kept.alike)
