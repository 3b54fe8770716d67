-- The chains of the jobs of each device, one job further.
use Rattle.std.proofs.Common.{◌≡◌, ◌≢◌, ℕ, ◌+◌, ◌-◌, ◌*◌, ◌<◌, ◌≤◌, inl, inr, Bool, true, false, ◌||◌, ◌&&◌, eqb, List, length, get_or, set, replicate, Option, Some, None, refl, sym, ap, subst, ◌∙◌, arith}
use Rattle.std.specs.Prelude.{is_none, IfSome, slice_get}
use Rattle.std.specs.Ordering.{nat_cmp}
use Rattle.std.specs.BTreeMap.{is_at}
use Rattle.std.proofs.lemmas.Option.{slice_get-get_or}
use Rattle.std.proofs.lemmas.Bool.{cases_eq, cases_lt, cases_order, or_cases, or_left, or_right, eqb-true, eq-eqb, lt-ltb, le-ltb, ne_eqb}
use Rattle.std.proofs.lemmas.List.{length-set, length-replicate}
use Rattle.knx_model.specs.declared.address.IndAddr.{IndAddr}
use Rattle.line_model.specs.Log.{numbered_from_one}
use Rattle.device_reservation.specs.Bits.{holds}
use Rattle.device_reservation.specs.Chains.{OneDevice, IsFirst, IsNext, AreNext, linked}
use Rattle.device_reservation.proofs.Raws.{raw_in, raw_of, OfOne, of_one, as_one, job_from_1, job_within, one_to, one_from}
use Rattle.device_reservation.proofs.Numbered.{by_place, written, unwritten, of_all}

-- ---- the chains of the first n jobs

pub record IsLastOf (devices : List IndAddr) (n q job : ℕ) : Type 0 where
  pub itself : raw_of devices job ≡ Some q
  pub seen : job ≤ n
  pub none_after : (k : ℕ) → job < k → k ≤ n → raw_of devices k ≢ Some q

pub record Chained (devices : List IndAddr) (n : ℕ) (next : List (Option ℕ)) (first : List ℕ) (last : ℕ → Option ℕ) : Type 0 where
  pub alike : length next ≡ length devices
  pub room : length devices < 64 * length first
  pub last_is : (q job : ℕ) → last q ≡ Some job → IsLastOf devices n q job
  pub none_is : (q : ℕ) → last q ≡ None → (k : ℕ) → k ≤ n → raw_of devices k ≢ Some q
  pub next_is : (job other : ℕ) → numbered_from_one next job ≡ Some (Some other) → IsNext devices job other × (other ≤ n)
  pub end_is : (job : ℕ) → numbered_from_one next job ≡ Some None → (k : ℕ) → job < k → k ≤ n → ¬ OneDevice devices job k
  pub first_is : (job : ℕ) → holds first job ≡ true → IsFirst devices job × (job ≤ n)
  pub is_first : (job : ℕ) → IsFirst devices job → job ≤ n → holds first job ≡ true

abbrev pub no_next : Option ℕ
no_next = None

pub none_chained : (devices : List IndAddr) (next : List (Option ℕ)) (first : List ℕ) (last : ℕ → Option ℕ) → next ≡ replicate (length devices) no_next → length devices < 64 * length first → ((n : ℕ) → holds first n ≡ false) → ((q : ℕ) → last q ≡ None) → Chained devices 0 next first last
none_chained devices next first last all room empty unseen = record {
  alike = ap length all ∙ length-replicate (length devices) no_next;
  room = room;
  last_is = λ q job e. let none : last q ≡ None = unseen q in absurd (cc);
  none_is = λ q e k le some. let from : 1 ≤ k = job_from_1 devices k q some in absurd (omega arith);
  next_is = λ job other e. let none : no_next ≡ Some other = of_all (length devices) job no_next (Some other) (ap (λ next. numbered_from_one next job) (sym all) ∙ e) in absurd (cc);
  end_is = λ job e k lt le. absurd (omega arith);
  first_is = λ job e. let none : holds first job ≡ false = empty job in absurd (cc);
  is_first = λ job f le. let from : 1 ≤ job = f.from_1 in absurd (omega arith);
}

-- ---- one job further

-- another device's last job is the one it was
not_new : (devices : List IndAddr) (n q r k : ℕ) → raw_of devices (n + 1) ≡ Some q → r ≢ q → k ≡ n + 1 → raw_of devices k ≢ Some r
not_new devices n q r k new apart is some = let new' : raw_of devices k ≡ Some q = ap (λ k. raw_of devices k) is ∙ new in apart (cc)

last_of : (devices : List IndAddr) (n q : ℕ) (last last' : ℕ → Option ℕ) → ((r job : ℕ) → last r ≡ Some job → IsLastOf devices n r job) → raw_of devices (n + 1) ≡ Some q
    → last' q ≡ Some (n + 1) → ((r : ℕ) → r ≢ q → last' r ≡ last r) → (r job : ℕ) → last' r ≡ Some job → IsLastOf devices (n + 1) r job
last_of devices n q last last' old new now others r job e = elim (cases_eq r q) [
  | inl same ↦
      let at : last' r ≡ Some (n + 1) = ap last' same ∙ now in
      let is : job ≡ n + 1 = cc in
      record { itself = ap (λ k. raw_of devices k) is ∙ new ∙ ap Some (sym same); seen = omega arith; none_after = λ k lt le. absurd (omega arith) }
  | inr apart ↦
      let l : IsLastOf devices n r job = old r job (sym (others r apart) ∙ e) in
      record {
        itself = l.itself;
        seen = omega (arith, l.seen);
        none_after = λ k lt le. elim (cases_eq k (n + 1)) [
          | inl is ↦ not_new devices n q r k new apart is
          | inr before ↦ l.none_after k lt (omega arith)
        ];
      }
]

none_of : (devices : List IndAddr) (n q : ℕ) (last last' : ℕ → Option ℕ) → ((r : ℕ) → last r ≡ None → (k : ℕ) → k ≤ n → raw_of devices k ≢ Some r) → raw_of devices (n + 1) ≡ Some q
    → last' q ≡ Some (n + 1) → ((r : ℕ) → r ≢ q → last' r ≡ last r) → (r : ℕ) → last' r ≡ None → (k : ℕ) → k ≤ n + 1 → raw_of devices k ≢ Some r
none_of devices n q last last' old new now others r e k le = elim (cases_eq r q) [
  | inl same ↦ let at : last' r ≡ Some (n + 1) = ap last' same ∙ now in absurd (cc)
  | inr apart ↦ elim (cases_eq k (n + 1)) [
    | inl is ↦ not_new devices n q r k new apart is
    | inr before ↦ old r (sym (others r apart) ∙ e) k (omega arith)
  ]
]

-- ---- behind the last job of its device

next_of : (devices : List IndAddr) (n q b : ℕ) → raw_of devices (n + 1) ≡ Some q → IsLastOf devices n q b → IsNext devices b (n + 1)
next_of devices n q b new l = record {
  later = omega (arith, l.seen);
  same = as_one (numbered_from_one devices b) (numbered_from_one devices (n + 1)) q l.itself new;
  none_between = λ other lt below one. l.none_after other lt (omega arith) (one_to devices b other q one l.itself);
}

ends_before : (devices : List IndAddr) (n q b job k : ℕ) → raw_of devices (n + 1) ≡ Some q → IsLastOf devices n q b → ((k : ℕ) → job < k → k ≤ n → ¬ OneDevice devices job k)
    → job ≢ b → job < k → k ≤ n + 1 → ¬ OneDevice devices job k
ends_before devices n q b job k new l ends apart lt le one = elim (cases_eq k (n + 1)) [
  | inl is ↦
      let here : raw_of devices job ≡ Some q = one_from devices job k q one (ap (λ k. raw_of devices k) is ∙ new) in
      elim (cases_lt job b) [
        | inl below ↦ ends b below l.seen (as_one (numbered_from_one devices job) (numbered_from_one devices b) q here l.itself)
        | inr from ↦ l.none_after job (omega arith) (omega arith) here
      ]
  | inr before ↦ ends k lt (omega arith) one
]

pub behind : (devices : List IndAddr) (n q b : ℕ) (next next' : List (Option ℕ)) (first first' : List ℕ) (last last' : ℕ → Option ℕ) → Chained devices n next first last
    → raw_of devices (n + 1) ≡ Some q → last q ≡ Some b → next' ≡ set next (b - 1) (Some (n + 1)) → length first' ≡ length first
    → ((m : ℕ) → holds first' m ≡ holds first m) → last' q ≡ Some (n + 1) → ((r : ℕ) → r ≢ q → last' r ≡ last r) → Chained devices (n + 1) next' first' last'
behind devices n q b next next' first first' last last' c new before e same kept now others =
    let l : IsLastOf devices n q b = c.last_is q b before in
    let from : 1 ≤ b = job_from_1 devices b q l.itself in
    let to : b ≤ length next = omega (arith, job_within devices b q l.itself, c.alike) in
    let value : (job : ℕ) → job ≡ b → numbered_from_one next' job ≡ Some (Some (n + 1))
    = λ job here. ap (λ next. numbered_from_one next job) e ∙ ap (λ k. numbered_from_one (set next (b - 1) (Some (n + 1))) k) here ∙ written next b (Some (n + 1)) from to in
    let rest : (job : ℕ) → job ≢ b → numbered_from_one next' job ≡ numbered_from_one next job
    = λ job apart. ap (λ next. numbered_from_one next job) e ∙ unwritten next b job (Some (n + 1)) from apart in
    record {
      alike = ap length e ∙ length-set next (b - 1) (Some (n + 1)) ∙ c.alike;
      room = omega (arith, c.room);
      last_is = last_of devices n q last last' c.last_is new now others;
      none_is = none_of devices n q last last' c.none_is new now others;
      next_is = λ job other at. elim (cases_eq job b) [
        | inl here ↦
            let found : numbered_from_one next' job ≡ Some (Some (n + 1)) = value job here in
            let is : other ≡ n + 1 = cc in
            let P : ℕ → Type 0 = λ j. IsNext devices j other × (other ≤ n + 1) in
            let Q : ℕ → Type 0 = λ k. IsNext devices b k × (k ≤ n + 1) in
            subst P (sym here) (subst Q (sym is) (next_of devices n q b new l, omega arith))
        | inr apart ↦
            let old : IsNext devices job other × (other ≤ n) = c.next_is job other (sym (rest job apart) ∙ at) in
            (old.0, omega (arith, old.1))
      ];
      end_is = λ job at k lt le one. elim (cases_eq job b) [
        | inl here ↦ let found : numbered_from_one next' job ≡ Some (Some (n + 1)) = value job here in absurd (cc)
        | inr apart ↦ ends_before devices n q b job k new l (c.end_is job (sym (rest job apart) ∙ at)) apart lt le one
      ];
      first_is = λ job h. let old : IsFirst devices job × (job ≤ n) = c.first_is job (sym (kept job) ∙ h) in (old.0, omega (arith, old.1));
      is_first = λ job f le. elim (cases_eq job (n + 1)) [
        | inl is ↦
            let here : raw_of devices job ≡ Some q = ap (λ k. raw_of devices k) is ∙ new in
            absurd (f.none_before b (omega (arith, l.seen)) (as_one (numbered_from_one devices job) (numbered_from_one devices b) q here l.itself))
        | inr before ↦ kept job ∙ c.is_first job f (omega arith)
      ];
    }

-- ---- the first job of its device

pub first_one : (devices : List IndAddr) (n q : ℕ) (next : List (Option ℕ)) (first first' : List ℕ) (last last' : ℕ → Option ℕ) → Chained devices n next first last
    → raw_of devices (n + 1) ≡ Some q → last q ≡ None → length first' ≡ length first
    → ((m : ℕ) → holds first' m ≡ (holds first m || eqb m (n + 1))) → last' q ≡ Some (n + 1) → ((r : ℕ) → r ≢ q → last' r ≡ last r) → Chained devices (n + 1) next first' last'
first_one devices n q next first first' last last' c new before same kept now others = record {
  alike = c.alike;
  room = omega (arith, c.room);
  last_is = last_of devices n q last last' c.last_is new now others;
  none_is = none_of devices n q last last' c.none_is new now others;
  next_is = λ job other at. let old : IsNext devices job other × (other ≤ n) = c.next_is job other at in (old.0, omega (arith, old.1));
  end_is = λ job at k lt le one. elim (cases_eq k (n + 1)) [
    | inl is ↦ c.none_is q before job (omega arith) (one_from devices job k q one (ap (λ k. raw_of devices k) is ∙ new))
    | inr old ↦ c.end_is job at k lt (omega arith) one
  ];
  first_is = λ job h. elim (or_cases (holds first job) (eqb job (n + 1)) (sym (kept job) ∙ h)) [
    | inl held ↦ let old : IsFirst devices job × (job ≤ n) = c.first_is job held in (old.0, omega (arith, old.1))
    | inr is ↦
        let this : job ≡ n + 1 = eqb-true job (n + 1) is in
        let here : raw_of devices job ≡ Some q = ap (λ k. raw_of devices k) this ∙ new in (
          record {
            from_1 = omega arith;
            within = job_within devices job q here;
            none_before = λ other lt one. c.none_is q before other (omega arith) (one_to devices job other q one here);
          },
          omega arith,
        )
  ];
  is_first = λ job f le. elim (cases_eq job (n + 1)) [
    | inl is ↦ kept job ∙ or_right (holds first job) (eqb job (n + 1)) (eq-eqb job (n + 1) is)
    | inr old ↦ kept job ∙ or_left (holds first job) (eqb job (n + 1)) (c.is_first job f (omega arith))
  ];
}

-- ---- both, and the end

or_not : (b : Bool) → (b || false) ≡ b
or_not true = refl
or_not false = refl

pub one_more : (devices : List IndAddr) (n q : ℕ) (before : Option ℕ) (next next' : List (Option ℕ)) (first first' : List ℕ) (last last' : ℕ → Option ℕ) → Chained devices n next first last
    → raw_of devices (n + 1) ≡ Some q → before ≡ last q → next' ≡ linked next before (n + 1) → length first' ≡ length first
    → ((m : ℕ) → holds first' m ≡ (holds first m || (is_none before && eqb m (n + 1)))) → last' q ≡ Some (n + 1) → ((r : ℕ) → r ≢ q → last' r ≡ last r) → Chained devices (n + 1) next' first' last'
one_more devices n q None next next' first first' last last' c new before e same kept now others =
    let P : List (Option ℕ) → Type 0 = λ next. Chained devices (n + 1) next first' last' in
    subst P (sym e) (first_one devices n q next first first' last last' c new (sym before) same kept now others)
one_more devices n q (Some b) next next' first first' last last' c new before e same kept now others =
    behind devices n q b next next' first first' last last' c new (sym before) e same (λ m. kept m ∙ or_not (holds first m)) now others

pub all_chained : (devices : List IndAddr) (next : List (Option ℕ)) (first : List ℕ) (last : ℕ → Option ℕ) → Chained devices (length devices) next first last → AreNext devices next
all_chained devices next first last c = record {
  alike = c.alike;
  next_is = λ job other at. (c.next_is job other at).0;
  last_is = λ job at other lt one.
      let o : OfOne (numbered_from_one devices job) (numbered_from_one devices other) = of_one (numbered_from_one devices job) (numbered_from_one devices other) one in
      c.end_is job at other lt (job_within devices other o.raw o.other) one;
}

-- ---- the device that the loop is at, and where its last job is kept

pub raw_at : (devices : List IndAddr) (n : ℕ) → n < length devices → raw_of devices (n + 1) ≡ Some (get_or devices n (record { raw = 0 })).raw
raw_at devices n lt =
    let same : n + 1 - 1 ≡ n = omega arith in
    ap raw_in (by_place devices (n + 1) (omega arith) ∙ ap (λ k. slice_get devices k) same ∙ slice_get-get_or devices n (record { raw = 0 }) lt)

pub may_link : (devices : List IndAddr) (n q : ℕ) (next : List (Option ℕ)) (first : List ℕ) (last : ℕ → Option ℕ) (before : Option ℕ) → Chained devices n next first last → before ≡ last q → IfSome before (λ b. (1 ≤ b) × (b ≤ length next))
may_link devices n q next first last None c e = tt
may_link devices n q next first last (Some b) c e =
    let l : IsLastOf devices n q b = c.last_is q b (sym e) in
    (job_from_1 devices b q l.itself, omega (arith, job_within devices b q l.itself, c.alike))

pub another_key : (q r : ℕ) → r ≢ q → is_at (nat_cmp q) r ≡ false
another_key q r apart = elim (cases_order q r) [
  | inl same ↦ absurd (apart (sym same))
  | inr (inl below) ↦ rw (lt-ltb q r below) refl
  | inr (inr above) ↦ rw (le-ltb q r (omega arith), ne_eqb q r (λ e. apart (sym e))) refl
]
