-- Where no job is free, each that is untaken waits; and where none waits, all are taken.
use Rattle.std.proofs.Common.{◌≡◌, ◌⊎◌, inl, inr, ℕ, zero, suc, ◌+◌, ◌-◌, ◌<◌, ◌≤◌, Bool, true, false, ◌&&◌, ◌||◌, eqb, ltb, List, [], ◌∷◌, length, Option, Some, None, cond, refl, sym, ap, ◌∙◌, arith}
use Rattle.std.specs.Prelude.{slice_get}
use Rattle.std.specs.List.{count_by}
use Rattle.std.proofs.lemmas.List.Recursion.{is_count_by}
use Rattle.std.proofs.lemmas.Bool.{cases_Bool, cases_eq, cases_order, and_parts, and_from, or_cases, or_left, or_right, eqb-true, eq-eqb, ltb-true, lt-ltb}
use Rattle.knx_model.specs.declared.address.IndAddr.{IndAddr}
use Rattle.device_reservation.specs.declared.stage.Stage.{Stage}
use Rattle.device_reservation.specs.declared.stage.Stage.TheVariants.{Untaken, Held, Over}
use Rattle.device_reservation.specs.Bits.{holds, IsLeast}
use Rattle.device_reservation.specs.Kept.{IsKept, is_untaken}
use Rattle.device_reservation.specs.Reservation.{Reservation, device_of, stage_of, AreOneDevice, SameDevice, IsFree, IsFirstFree, WaitsForDevice, WaitsForJob, AllWait, AllTaken}
use Rattle.device_reservation.proofs.Numbered.{by_place, from_1, within}

-- ---- a search among the numbers below a bound

search_below : (test : ℕ → Bool) (n : ℕ) → ((k : ℕ) × (test k ≡ true)) ⊎ ((k : ℕ) → k < n → test k ≡ false)
search_below test zero = inr (λ k lt. absurd (omega arith))
search_below test (suc n) = elim (search_below test n) [
  | inl found ↦ inl found
  | inr none ↦ elim (cases_Bool (test n)) [
    | inl here ↦ inl (n, here)
    | inr not ↦ inr (λ k lt. elim (cases_eq k n) [ inl is ↦ ap test is ∙ not | inr apart ↦ none k (omega arith) ])
  ]
]

-- ---- whether a job keeps another waiting

abbrev pub one_device : Option IndAddr → Option IndAddr → Bool
one_device None other = false
one_device (Some one) None = false
one_device (Some one) (Some other) = eqb one.raw other.raw

abbrev pub is_held_stage : Option Stage → Bool
is_held_stage None = false
is_held_stage (Some Untaken) = false
is_held_stage (Some (Held worker)) = true
is_held_stage (Some Over) = false

abbrev pub is_untaken_stage : Option Stage → Bool
is_untaken_stage None = false
is_untaken_stage (Some Untaken) = true
is_untaken_stage (Some (Held worker)) = false
is_untaken_stage (Some Over) = false

abbrev pub blocks : Reservation → ℕ → ℕ → Bool
blocks r job other = one_device (device_of r job) (device_of r other) && (is_held_stage (stage_of r other) || (ltb other job && is_untaken_stage (stage_of r other)))

are_one : (a b : Option IndAddr) → one_device a b ≡ true → AreOneDevice a b
are_one None b e = absurd (cc)
are_one (Some a) None e = absurd (cc)
are_one (Some a) (Some b) e = eqb-true a.raw b.raw e

one_is : (a b : Option IndAddr) → AreOneDevice a b → one_device a b ≡ true
one_is None b e = absurd e
one_is (Some a) None e = absurd e
one_is (Some a) (Some b) e = eq-eqb a.raw b.raw e

held_by : (o : Option Stage) → is_held_stage o ≡ true → (worker : ℕ) × (o ≡ Some (Held worker))
held_by None e = absurd (cc)
held_by (Some Untaken) e = absurd (cc)
held_by (Some (Held worker)) e = (worker, refl)
held_by (Some Over) e = absurd (cc)

untaken_is : (o : Option Stage) → is_untaken_stage o ≡ true → o ≡ Some Untaken
untaken_is None e = absurd (cc)
untaken_is (Some Untaken) e = refl
untaken_is (Some (Held worker)) e = absurd (cc)
untaken_is (Some Over) e = absurd (cc)

waits : (r : Reservation) (job other : ℕ) → blocks r job other ≡ true → WaitsForDevice r job ⊎ WaitsForJob r job
waits r job other e =
    let parts : (one_device (device_of r job) (device_of r other) ≡ true) × ((is_held_stage (stage_of r other) || (ltb other job && is_untaken_stage (stage_of r other))) ≡ true)
    = and_parts (one_device (device_of r job) (device_of r other)) (is_held_stage (stage_of r other) || (ltb other job && is_untaken_stage (stage_of r other))) e in
    let same : SameDevice r job other = are_one (device_of r job) (device_of r other) parts.0 in
    elim (or_cases (is_held_stage (stage_of r other)) (ltb other job && is_untaken_stage (stage_of r other)) parts.1) [
      | inl held ↦ inl (other, same, held_by (stage_of r other) held)
      | inr earlier ↦
          let both : (ltb other job ≡ true) × (is_untaken_stage (stage_of r other) ≡ true) = and_parts (ltb other job) (is_untaken_stage (stage_of r other)) earlier in
          inr (other, ltb-true other job both.0, same, untaken_is (stage_of r other) both.1)
    ]

unblocked_free : (r : Reservation) (job : ℕ) → stage_of r job ≡ Some Untaken → ((other : ℕ) → other < length r.stages + 1 → blocks r job other ≡ false) → IsFree r job
unblocked_free r job untaken none = record {
  untaken = untaken;
  alone = λ other worker same held.
      let to : other ≤ length r.stages = within r.stages other (Held worker) held in
      let blocked : blocks r job other ≡ true = and_from (one_device (device_of r job) (device_of r other)) (is_held_stage (stage_of r other) || (ltb other job && is_untaken_stage (stage_of r other))) (one_is (device_of r job) (device_of r other) same) (or_left (is_held_stage (stage_of r other)) (ltb other job && is_untaken_stage (stage_of r other)) (ap is_held_stage held)) in
      let not : blocks r job other ≡ false = none other (omega arith) in
      absurd (cc);
  in_order = λ other lt same waits.
      let to : other ≤ length r.stages = within r.stages other Untaken waits in
      let blocked : blocks r job other ≡ true = and_from (one_device (device_of r job) (device_of r other)) (is_held_stage (stage_of r other) || (ltb other job && is_untaken_stage (stage_of r other))) (one_is (device_of r job) (device_of r other) same) (or_right (is_held_stage (stage_of r other)) (ltb other job && is_untaken_stage (stage_of r other)) (and_from (ltb other job) (is_untaken_stage (stage_of r other)) (lt-ltb other job lt) (ap is_untaken_stage waits))) in
      let not : blocks r job other ≡ false = none other (omega arith) in
      absurd (cc);
}

-- ---- how many are untaken

abbrev untaken_in : List Stage → ℕ
untaken_in [] = 0
untaken_in (s ∷ ss) = cond (is_untaken s) (1 + untaken_in ss) (untaken_in ss)

counts : (ss : List Stage) → untaken_in ss ≡ count_by is_untaken ss
counts ss = is_count_by untaken_in is_untaken refl (λ _ _. refl) ss

some_counted : (ss : List Stage) (i : ℕ) → slice_get ss i ≡ Some Untaken → 0 < untaken_in ss
some_counted [] i e = absurd (cc)
some_counted (Untaken ∷ ss) i e = omega arith
some_counted (Held worker ∷ ss) zero e = absurd (cc)
some_counted (Held worker ∷ ss) (suc i) e = some_counted ss i e
some_counted (Over ∷ ss) zero e = absurd (cc)
some_counted (Over ∷ ss) (suc i) e = some_counted ss i e

record AnUntaken (ss : List Stage) : Type 0 where
  place : ℕ
  is : slice_get ss place ≡ Some Untaken

further : (s : Stage) (ss : List Stage) → AnUntaken ss → AnUntaken (s ∷ ss)
further s ss u = record { place = suc u.place; is = u.is }

one_of_them : (ss : List Stage) → 0 < untaken_in ss → AnUntaken ss
one_of_them [] some = absurd (omega arith)
one_of_them (Untaken ∷ ss) some = record { place = 0; is = refl }
one_of_them (Held worker ∷ ss) some = further (Held worker) ss (one_of_them ss some)
one_of_them (Over ∷ ss) some = further Over ss (one_of_them ss some)

remains : (r : Reservation) → 0 < count_by is_untaken r.stages → (job : ℕ) × (stage_of r job ≡ Some Untaken)
remains r some =
    let e : untaken_in r.stages ≡ count_by is_untaken r.stages = counts r.stages in
    let u : AnUntaken r.stages = one_of_them r.stages (omega arith) in
    let same : u.place + 1 - 1 ≡ u.place = omega arith in
    (u.place + 1, by_place r.stages (u.place + 1) (omega arith) ∙ ap (λ k. slice_get r.stages k) same ∙ u.is)

-- ---- what is answered where no job is free

pub all_wait : (r : Reservation) (next : List (Option ℕ)) (free : List ℕ) (untaken : ℕ) → IsKept r next free untaken → ((n : ℕ) → holds free n ≡ false) → 0 < untaken → AllWait r
all_wait r next free untaken kept none some = record {
  remains = remains r (omega (arith, kept.count));
  wait = λ job is. elim (search_below (blocks r job) (length r.stages + 1)) [
    | inl found ↦ waits r job found.0 found.1
    | inr not ↦
        let held : holds free job ≡ true = kept.are_free job (unblocked_free r job is not) in
        let empty : holds free job ≡ false = none job in
        absurd (cc)
  ];
}

pub all_taken : (r : Reservation) (next : List (Option ℕ)) (free : List ℕ) (untaken : ℕ) → IsKept r next free untaken → untaken ≤ 0 → AllTaken r
all_taken r next free untaken kept none job is =
    let e : untaken_in r.stages ≡ count_by is_untaken r.stages = counts r.stages in
    let from : 1 ≤ job = from_1 r.stages job Untaken is in
    let some : 0 < untaken_in r.stages = some_counted r.stages (job - 1) (sym (by_place r.stages job from) ∙ is) in
    omega (arith, kept.count)

-- ---- the answers exclude one another

pub first_free : (r : Reservation) (next : List (Option ℕ)) (free : List ℕ) (untaken job : ℕ) → IsKept r next free untaken → IsLeast free job → IsFirstFree r job
first_free r next free untaken job kept least = record {
  free = kept.free_are job least.itself;
  first = λ other lt f.
      let held : holds free other ≡ true = kept.are_free other f in
      let not : holds free other ≡ false = least.none_below other lt in
      absurd (cc);
}

pub one_first : (r : Reservation) (job other : ℕ) → IsFirstFree r job → IsFirstFree r other → job ≡ other
one_first r job other f g = elim (cases_order job other) [
  | inl is ↦ is
  | inr (inl before) ↦ absurd (g.first job before f.free)
  | inr (inr after) ↦ absurd (f.first other after g.free)
]

pub free_waits_not : (r : Reservation) (job : ℕ) → IsFree r job → ¬ AllWait r
free_waits_not r job free all = elim (all.wait job free.untaken) [
  | inl held ↦ free.alone held.0 held.2.0 held.1 held.2.1
  | inr earlier ↦ free.in_order earlier.0 earlier.1 earlier.2 earlier.3
]

pub waits_taken_not : (r : Reservation) → AllWait r → ¬ AllTaken r
waits_taken_not r all taken = taken all.remains.0 all.remains.1

-- ---- the numbers of a job that is free

pub some_untaken : (r : Reservation) (next : List (Option ℕ)) (free : List ℕ) (untaken job : ℕ) → IsKept r next free untaken → holds free job ≡ true → 1 ≤ untaken
some_untaken r next free untaken job kept held = elim (cases_order untaken 0) [
  | inl none ↦ absurd (all_taken r next free untaken kept (omega arith) job (kept.free_are job held).untaken)
  | inr (inl below) ↦ absurd (omega arith)
  | inr (inr some) ↦ some
]

pub job_fits : (r : Reservation) (next : List (Option ℕ)) (free : List ℕ) (untaken job : ℕ) → IsKept r next free untaken → holds free job ≡ true → job < 4294967296
job_fits r next free untaken job kept held =
    let to : job ≤ length r.stages = within r.stages job Untaken (kept.free_are job held).untaken in
    omega (arith, kept.alike, kept.few)
