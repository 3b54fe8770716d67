-- How long a poll may last, worker by worker.
use Rattle.std.proofs.Common.{◌≡◌, ◌⊎◌, inl, inr, ℕ, zero, suc, ◌+◌, ◌<◌, ◌≤◌, Bool, true, false, List, [], ◌∷◌, length, min, Option, Some, None, refl, sym, subst, ap, ◌∙◌, arith}
use Rattle.std.specs.Prelude.{nat_le, ◌&&◌}
use Rattle.std.proofs.lemmas.Bool.{cases_eq, cases_lt}
use Rattle.std.proofs.lemmas.Bool.Decides.{nat_tests}
use Rattle.line_model.specs.Waiting.{longest_poll, PollEnds, AsLongAsItMay, AtDeadline, AtLastTime, LastsUntil}
use Rattle.hub_work.specs.declared.crew.Held.{Held}
use Rattle.hub_work.specs.declared.work.Work.{Work}
use Rattle.hub_work.specs.Books.{held_at}
use Rattle.hub_work.specs.Downloaders.{states}
use Rattle.hub_work.specs.Polls.{does_something, next_of_job, is_busy, is_busy_at, deadline_of, deadline_at, end_of_closing, IsDue, OfClosing, OfWorker, LooksOrLasts}

-- ---- the shorter of two waits

ends_as : (longest now wait : ℕ) (A C : ℕ → Type 0) → ((t : ℕ) → A t → C t) → PollEnds longest A now wait → PollEnds longest C now wait
ends_as longest now wait A C into (AsLongAsItMay is) = AsLongAsItMay is
ends_as longest now wait A C into (AtDeadline t due lt is) = AtDeadline t (into t due) lt is
ends_as longest now wait A C into (AtLastTime is) = AtLastTime is

pub lasts_as : (longest now wait : ℕ) (A C : ℕ → Type 0) → ((t : ℕ) → A t → C t) → ((t : ℕ) → C t → A t) → LastsUntil longest A now wait → LastsUntil longest C now wait
lasts_as longest now wait A C into back a = record { at_most = a.at_most; in_range = a.in_range; no_longer = λ t due lt. a.no_longer t (back t due) lt; as_long = ends_as longest now wait A C into a.as_long }

lasts_both : (longest now a b : ℕ) (A B C : ℕ → Type 0) → ((t : ℕ) → A t → C t) → ((t : ℕ) → B t → C t) → ((t : ℕ) → C t → A t ⊎ B t) → LastsUntil longest A now a → LastsUntil longest B now b → LastsUntil longest C now (min a b)
lasts_both longest now a b A B C from_a from_b of x y = record {
  at_most = (let le = x.at_most in omega (arith, le));
  in_range = (let le = x.in_range in omega (arith, le));
  no_longer = λ t due lt. not_past t (of t due) lt;
  as_long = by_less (nat_le a b) refl;
}
  where
    not_past : (t : ℕ) → A t ⊎ B t → now < t → now + min a b ≤ t
    not_past t (inl due) lt = let le : now + a ≤ t = x.no_longer t due lt in omega (arith, le)
    not_past t (inr due) lt = let le : now + b ≤ t = y.no_longer t due lt in omega (arith, le)

    by_less : (s : Bool) → nat_le a b ≡ s → PollEnds longest C now (min a b)
    by_less true q =
        let le : a ≤ b = grind (arith, nat_tests) in
        let is : a ≡ min a b = omega (arith, le) in
        subst (PollEnds longest C now) is (ends_as longest now a A C from_a x.as_long)
    by_less false q =
        let le : b ≤ a = grind (arith, nat_tests) in
        let is : b ≡ min a b = omega (arith, le) in
        subst (PollEnds longest C now) is (ends_as longest now b B C from_b y.as_long)

-- ---- one worker, that has something to do or not

pub busy_part : (busy : Bool) (deadline : Option ℕ) (now : ℕ) → busy ≡ true → LooksOrLasts busy deadline now 0
busy_part busy deadline now e = rw e refl

pub idle_part : (busy : Bool) (due deadline : Option ℕ) (now wait : ℕ) → busy ≡ false → deadline ≡ due → LastsUntil longest_poll (λ t. deadline ≡ Some t) now wait → LooksOrLasts busy due now wait
idle_part busy due deadline now wait e same lasts = rw e (subst (λ (d : Option ℕ). LastsUntil longest_poll (λ t. d ≡ Some t) now wait) same lasts)

-- ---- of the workers at the places before this one

pub data DueBefore (w : Work) (n deadline : ℕ) : Type 0 where
  ClosingDue : end_of_closing w.closing ≡ Some deadline → DueBefore w n deadline
  WorkerDue : (place : ℕ) → place < n → deadline_at w place ≡ Some deadline → DueBefore w n deadline

pub record LooksSoFar (w : Work) (now : ℕ) (has_place : Bool) (n wait : ℕ) : Type 0 where
  pub looks : (place : ℕ) → place < n → is_busy_at w now has_place place ≡ true → wait ≡ 0
  pub waits : ((place : ℕ) → place < n → is_busy_at w now has_place place ≡ false) → LastsUntil longest_poll (DueBefore w n) now wait

pub none_so_far : (w : Work) (now : ℕ) (has_place : Bool) (wait : ℕ) → LastsUntil longest_poll (λ t. end_of_closing w.closing ≡ Some t) now wait → LooksSoFar w now has_place 0 wait
none_so_far w now has_place wait lasts = record {
  looks = λ place lt. absurd (omega (arith, lt));
  waits = λ none. lasts_as longest_poll now wait _ (DueBefore w 0) (λ t due. ClosingDue due) closing lasts;
}
  where
    closing : (t : ℕ) → DueBefore w 0 t → end_of_closing w.closing ≡ Some t
    closing t (ClosingDue due) = due
    closing t (WorkerDue place lt due) = absurd (omega (arith, lt))

module _ (w : Work) (now : ℕ) (has_place : Bool) (n wait x : ℕ) (so_far : LooksSoFar w now has_place n wait) where
  module _ (none : is_busy_at w now has_place n ≡ false) (lasts : LastsUntil longest_poll (λ t. deadline_at w n ≡ Some t) now x) where
    idle_looks : (place : ℕ) → place < n + 1 → is_busy_at w now has_place place ≡ true → min wait x ≡ 0
    idle_looks place lt busy = elim (cases_eq place n) [
      | inl same ↦ absurd (let isnt : true ≡ false = sym busy ∙ (ap (is_busy_at w now has_place) same ∙ none) in cc)
      | inr apart ↦ let zero_is : wait ≡ 0 = so_far.looks place (omega (arith, lt, apart)) busy in omega (arith, zero_is)
    ]

    into : (t : ℕ) → DueBefore w n t → DueBefore w (n + 1) t
    into t (ClosingDue due) = ClosingDue due
    into t (WorkerDue place lt due) = WorkerDue place (omega (arith, lt)) due

    out : (t : ℕ) → DueBefore w (n + 1) t → DueBefore w n t ⊎ (deadline_at w n ≡ Some t)
    out t (ClosingDue due) = inl (ClosingDue due)
    out t (WorkerDue place lt due) = elim (cases_eq place n) [
      | inl same ↦ inr (sym (ap (deadline_at w) same) ∙ due)
      | inr apart ↦ inl (WorkerDue place (omega (arith, lt, apart)) due)
    ]

    idle : LooksSoFar w now has_place (n + 1) (min wait x)
    idle = record {
      looks = idle_looks;
      waits = λ all. lasts_both longest_poll now wait x (DueBefore w n) (λ t. deadline_at w n ≡ Some t) (DueBefore w (n + 1)) into (λ t due. WorkerDue n (omega arith) due) out (so_far.waits (λ place lt. all place (omega (arith, lt)))) lasts;
    }

  busy : is_busy_at w now has_place n ≡ true → x ≡ 0 → LooksSoFar w now has_place (n + 1) (min wait x)
  busy some none_left = record {
    looks = λ place lt b. omega (arith, none_left);
    waits = λ all. absurd (let isnt : true ≡ false = sym some ∙ all n (omega arith) in cc);
  }

  by_part : (b : Bool) → is_busy_at w now has_place n ≡ b → LooksOrLasts b (deadline_at w n) now x → LooksSoFar w now has_place (n + 1) (min wait x)
  by_part true is part = busy is part
  by_part false is part = idle is part

  pub one_more : LooksOrLasts (is_busy_at w now has_place n) (deadline_at w n) now x → LooksSoFar w now has_place (n + 1) (min wait x)
  one_more part = by_part (is_busy_at w now has_place n) refl part

-- ---- of all

beyond : (crew : List (Option Held)) (place : ℕ) → length crew ≤ place → held_at crew place ≡ None
beyond [] place le = refl
beyond (x ∷ crew) zero le = absurd (omega (arith, le))
beyond (x ∷ crew) (suc place) le = beyond crew place (omega (arith, le))

module _ (w : Work) (now : ℕ) (has_place : Bool) (n wait : ℕ) (all : length w.crew ≤ n) (so_far : LooksSoFar w now has_place n wait) where
  none_there : (place : ℕ) → n ≤ place → held_at w.crew place ≡ None
  none_there place le = beyond w.crew place (omega (arith, le, all))

  pub looks_all : (place : ℕ) → is_busy_at w now has_place place ≡ true → wait ≡ 0
  looks_all place b = elim (cases_lt place n) [
    | inl lt ↦ so_far.looks place lt b
    | inr le ↦ absurd (let isnt : false ≡ true = rw (none_there place le) at b in cc)
  ]

  into_all : (t : ℕ) → DueBefore w n t → IsDue w t
  into_all t (ClosingDue due) = OfClosing due
  into_all t (WorkerDue place lt due) = OfWorker place due

  out_all : (t : ℕ) → IsDue w t → DueBefore w n t
  out_all t (OfClosing due) = ClosingDue due
  out_all t (OfWorker place due) = elim (cases_lt place n) [
    | inl lt ↦ WorkerDue place lt due
    | inr le ↦ absurd (let isnt : None ≡ Some t = rw (none_there place le) at due in cc)
  ]

  pub waits_all : ((place : ℕ) → is_busy_at w now has_place place ≡ false) → LastsUntil longest_poll (IsDue w) now wait
  waits_all none = lasts_as longest_poll now wait (DueBefore w n) (IsDue w) into_all out_all (so_far.waits (λ place lt. none place))

-- ---- none of the workers at the places before this one has something to do

abbrev pub NoneBusyBefore : Work → ℕ → Bool → ℕ → Type 0
NoneBusyBefore w now has_place n = (place : ℕ) → place < n → is_busy_at w now has_place place ≡ false

pub none_busy_yet : (w : Work) (now : ℕ) (has_place : Bool) → NoneBusyBefore w now has_place 0
none_busy_yet w now has_place place lt = absurd (omega (arith, lt))

pub none_busy_more : (w : Work) (now : ℕ) (has_place : Bool) (n : ℕ) → NoneBusyBefore w now has_place n → is_busy_at w now has_place n ≡ false → NoneBusyBefore w now has_place (n + 1)
none_busy_more w now has_place n none idle place lt = elim (cases_eq place n) [
  | inl same ↦ ap (is_busy_at w now has_place) same ∙ idle
  | inr apart ↦ none place (omega (arith, lt, apart))
]

pub none_busy_at_all : (w : Work) (now : ℕ) (has_place : Bool) (n : ℕ) → length w.crew ≤ n → NoneBusyBefore w now has_place n → (place : ℕ) → is_busy_at w now has_place place ≡ false
none_busy_at_all w now has_place n all none place = elim (cases_lt place n) [
  | inl lt ↦ none place lt
  | inr le ↦ rw (beyond w.crew place (omega (arith, all, le))) refl
]
