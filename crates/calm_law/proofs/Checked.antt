-- On a calm line a check that is over was told done where its device was loaded by a job before it, or began with the image, and else refused.
use Rattle.std.proofs.Common.{◌≡◌, ◌≢◌, ◌⊎◌, ℕ, zero, suc, ◌-◌, ◌<◌, ◌≤◌, Bool, true, false, cond, List, [], ◌∷◌, ◌++◌, length, drop, Option, Some, None, refl, sym, ap, subst, ◌∙◌, append_assoc, inl, inr, arith}
use Rattle.std.specs.Prelude.{◌==◌, nat_le}
use Rattle.std.specs.List.{AllByRecursion, list_any}
use Rattle.std.proofs.lemmas.Bool.{and_parts, and_from, cases_order, eqb-true, eq-eqb}
use Rattle.std.proofs.lemmas.Bool.Decides.{nat_tests}
use Rattle.knx_model.specs.Device.{HasCapacities, runs}
use Rattle.knx_model.specs.DeviceState.{DeviceState}
use Rattle.line_model.specs.declared.group.GroupTurn.{GroupTurn}
use Rattle.line_model.specs.declared.log.LogEntry.{LogEntry}
use Rattle.line_model.specs.declared.log.LogWhat.{LogWhat}
use Rattle.line_model.specs.declared.log.LogWhat.TheVariants.{Took, Done, Failed, Refused, Sent, Lost}
use Rattle.line_model.specs.Calm.{AreCalm}
use Rattle.line_model.specs.Fresh.{IsFresh}
use Rattle.line_model.specs.Legal.{OfDevice}
use Rattle.line_model.specs.Log.{Job, JobState, Untaken, Held, Over, SameDevice, EndsHeld, IsFree, IsLog, MayFollow, OneDownloaderPerDevice, TakesFree, job_of, state_of}
use Rattle.line_model.specs.OldStoppedOrNew.{Both, DoneSo, EachDoneSo, IsDoneOf, IsUntouched, RunsWhereDone, StaysDone, first_events, load_taken, loads_device, takes_load}
use Rattle.line_model.specs.OldStoppedOrNew as moment
use Rattle.line_model.specs.Undisturbed.{NothingFailed, RefusesSo, RefusesRightly, world_at}
use Rattle.line_model.specs.World.{World, Event, replay}
use Rattle.calm_law.specs.CalmChecks.{IsAnsweredRightly, HaveOneImage, BeganSo, RunsByThen, ChecksExactly}
use Rattle.calm_law.specs.CalmEnds.{EndWell, IsToldDone, IsToldRefused}
use Rattle.calm_law.proofs.Ended.{calm_drop, capable_at, end_well}
use Rattle.calm_law.proofs.LogParts.{Split, told_split, untaken_before, untaken_where_taken, over_above, form_below, alone_below, later_places, taken_split, free_over, earlier_taken, none_at}

-- ---- the world at a place

first_is_drop : (k : ℕ) (events : List Event) → first_events k events ≡ drop (length events - k) events
first_is_drop k [] = let none : 0 - k ≡ 0 = omega arith in rw none refl
first_is_drop k (e ∷ events) = by_length (nat_le (suc (length events)) k) refl (first_is_drop k events)
  where
    by_length : (b : Bool) → nat_le (suc (length events)) k ≡ b → first_events k events ≡ drop (length events - k) events → cond b (e ∷ events) (first_events k events) ≡ drop (suc (length events) - k) (e ∷ events)
    by_length true is rest = let none : suc (length events) - k ≡ 0 = grind (arith, nat_tests) in rw none refl
    by_length false is rest = let more : suc (length events) - k ≡ suc (length events - k) = grind (arith, nat_tests) in rw more rest

same_world : (start : World) (events : List Event) (k : ℕ) → moment.world_at start events k ≡ world_at start events k
same_world start events k = ap (replay start) (first_is_drop k events)

-- ---- a load of a device, by its number

pub record IsLoadOf (jobs : List Job) (device k : ℕ) : Type 0 where
  pub job : Job
  pub there : job_of jobs k ≡ Some job
  pub loads : job.loads ≡ true
  pub of_it : job.device.raw ≡ device

load_of : (jobs : List Job) (device k : ℕ) → loads_device device (job_of jobs k) ≡ true → IsLoadOf jobs device k
load_of jobs device k h = by_job (job_of jobs k) refl h
  where
    by_job : (o : Option Job) → job_of jobs k ≡ o → loads_device device o ≡ true → IsLoadOf jobs device k
    by_job None is h = absurd (cc)
    by_job (Some job) is h = let both = and_parts job.loads (job.device.raw == device) h in record { job = job; there = is; loads = both.0; of_it = eqb-true job.device.raw device both.1 }

is_load_of : (jobs : List Job) (device k : ℕ) (job : Job) → job_of jobs k ≡ Some job → job.loads ≡ true → job.device.raw ≡ device → loads_device device (job_of jobs k) ≡ true
is_load_of jobs device k job there loads of = rw there (and_from job.loads (job.device.raw == device) loads (eq-eqb job.device.raw device of))

-- what takes a load of the device
record TakesLoad (jobs : List Job) (device : ℕ) (what : LogWhat) : Type 0 where
  pub number : ℕ
  pub is : what ≡ Took number
  pub load : loads_device device (job_of jobs number) ≡ true

taking : (jobs : List Job) (device : ℕ) (what : LogWhat) → takes_load jobs device what ≡ true → TakesLoad jobs device what
taking jobs device (Took m) h = record { number = m; is = refl; load = h }
taking jobs device (Done m) h = absurd (cc)
taking jobs device (Failed m signs) h = absurd (cc)
taking jobs device (Refused m op got expected) h = absurd (cc)
taking jobs device (Sent m) h = absurd (cc)
taking jobs device (Lost m) h = absurd (cc)

-- the last one before a number, or none
record IsLast (jobs : List Job) (device k : ℕ) : Type 0 where
  pub number : ℕ
  pub before : number < k
  pub load : loads_device device (job_of jobs number) ≡ true
  pub between : (m : ℕ) → number < m → m < k → loads_device device (job_of jobs m) ≡ false

abbrev NoneBefore : List Job → ℕ → ℕ → Type 0
NoneBefore jobs device k = (m : ℕ) → m < k → loads_device device (job_of jobs m) ≡ false

last_load : (jobs : List Job) (device k : ℕ) → IsLast jobs device k ⊎ NoneBefore jobs device k
last_load jobs device zero = inr (λ m lt. absurd (let z : m < 0 = lt in omega (arith, z)))
last_load jobs device (suc k) = by_test (loads_device device (job_of jobs k)) refl (last_load jobs device k)
  where
    by_test : (b : Bool) → loads_device device (job_of jobs k) ≡ b → IsLast jobs device k ⊎ NoneBefore jobs device k → IsLast jobs device (suc k) ⊎ NoneBefore jobs device (suc k)
    by_test true is before = inl (record { number = k; before = omega arith; load = is; between = λ m above below. absurd (let y : k < m = above in let z : m < suc k = below in omega (arith, y, z)) })
    by_test false is (inl l) = inl (record {
      number = l.number;
      before = (let lt = l.before in omega (arith, lt));
      load = l.load;
      between = λ m above below. elim (cases_order m k) [
        | inl same ↦ subst (λ n. loads_device device (job_of jobs n) ≡ false) (sym same) is
        | inr (inl less) ↦ l.between m above less
        | inr (inr more) ↦ absurd (let y : k < m = more in let z : m < suc k = below in omega (arith, y, z))
      ];
    })
    by_test false is (inr none) = inr (λ m below. elim (cases_order m k) [
      | inl same ↦ subst (λ n. loads_device device (job_of jobs n) ≡ false) (sym same) is
      | inr (inl less) ↦ none m less
      | inr (inr more) ↦ absurd (let y : k < m = more in let z : m < suc k = below in omega (arith, y, z))
    ])

false_true : {X : Type 0} (b : Bool) → b ≡ false → b ≡ true → X
false_true b isnt is = absurd (let z : false ≡ true = sym isnt ∙ is in cc)

-- ---- a check, job k

module _ (jobs : List Job) (turns : List GroupTurn) (count : ℕ) (k : ℕ) (job : Job) (there : job_of jobs k ≡ Some job) (checks : job.loads ≡ false) where
  abbrev Takes : LogWhat → Bool
  Takes what = takes_load jobs job.device.raw what

  abbrev TakesNone : List LogEntry → Type 0
  TakesNone log = list_any (λ (e : LogEntry). Takes e.what) log ≡ false

  itself_not : loads_device job.device.raw (job_of jobs k) ≡ false
  itself_not = rw (there, checks) refl

  same_device : (m n : ℕ) (one other : Job) → job_of jobs m ≡ Some one → job_of jobs n ≡ Some other → one.device.raw ≡ other.device.raw → SameDevice (job_of jobs m) (job_of jobs n)
  same_device m n one other a b same = rw (a, b) same

  with_it : (m : ℕ) → loads_device job.device.raw (job_of jobs m) ≡ true → SameDevice (job_of jobs m) (job_of jobs k)
  with_it m is = let l = load_of jobs job.device.raw m is in same_device m k l.job job l.there there l.of_it

  it_with : (m : ℕ) → loads_device job.device.raw (job_of jobs m) ≡ true → SameDevice (job_of jobs k) (job_of jobs m)
  it_with m is = let l = load_of jobs job.device.raw m is in same_device k m job l.job there l.there (sym l.of_it)

  each_with : (m n : ℕ) → loads_device job.device.raw (job_of jobs m) ≡ true → loads_device job.device.raw (job_of jobs n) ≡ true → SameDevice (job_of jobs m) (job_of jobs n)
  each_with m n is also = let l = load_of jobs job.device.raw m is in let o = load_of jobs job.device.raw n also in same_device m n l.job o.job l.there o.there (l.of_it ∙ sym o.of_it)

  takes_free : (m : ℕ) (e : LogEntry) (log : List LogEntry) → e.what ≡ Took m → TakesFree jobs log e.what → IsFree jobs log m
  takes_free m e log is free = subst (TakesFree jobs log) is free

  -- ---- where no job before it loads the device, none is taken that does while it isn't over

  module _ (none : NoneBefore jobs job.device.raw k) where
    none_taken : (log : List LogEntry) → IsLog jobs turns count log → OneDownloaderPerDevice jobs log → state_of k log ≢ Over → TakesNone log
    none_taken [] form alone unfinished = refl
    none_taken (e ∷ log) form alone unfinished = rw (not_this (Takes e.what) refl) (none_taken log form.1 alone.1 before)
      where
        before : state_of k log ≢ Over
        before over = unfinished (over_above jobs turns count k (e ∷ []) log form over)

        by_number : TakesLoad jobs job.device.raw e.what → Takes e.what ≡ false
        by_number t = elim (cases_order t.number k) [
          | inl same ↦ false_true (loads_device job.device.raw (job_of jobs k)) itself_not (subst (λ n. loads_device job.device.raw (job_of jobs n) ≡ true) same t.load)
          | inr (inl less) ↦ false_true (loads_device job.device.raw (job_of jobs t.number)) (none t.number less) t.load
          | inr (inr more) ↦
              let free : IsFree jobs log t.number = takes_free t.number e log t.is alone.0 in
              absurd (before (free_over jobs turns count t.number k log free (with_it t.number t.load) (free.in_order k more (with_it t.number t.load))))
        ]

        not_this : (b : Bool) → Takes e.what ≡ b → Takes e.what ≡ false
        not_this true is = by_number (taking jobs job.device.raw e.what is)
        not_this false is = is

  -- ---- and between the last load before it and its own taking

  module _ (last : IsLast jobs job.device.raw k) where
    none_since : (mid below : List LogEntry) → IsLog jobs turns count (mid ++ below) → OneDownloaderPerDevice jobs (mid ++ below) → state_of k (mid ++ below) ≡ Untaken → state_of last.number below ≡ Over → TakesNone mid
    none_since [] below form alone untaken over = refl
    none_since (e ∷ mid) below form alone untaken over = rw (not_this (Takes e.what) refl) (none_since mid below form.1 alone.1 before over)
      where
        log : List LogEntry
        log = mid ++ below

        before : state_of k log ≡ Untaken
        before = untaken_before k e log untaken

        last_over : state_of last.number log ≡ Over
        last_over = over_above jobs turns count last.number mid below form.1 over

        last_taken : state_of last.number log ≢ Untaken
        last_taken u = let z : Over ≡ Untaken = sym last_over ∙ u in cc

        by_number : TakesLoad jobs job.device.raw e.what → Takes e.what ≡ false
        by_number t =
            let free : IsFree jobs log t.number = takes_free t.number e log t.is alone.0 in
            let new : state_of t.number log ≡ Untaken = untaken_where_taken jobs turns count t.number e log form t.is in
            elim (cases_order t.number last.number) [
              | inl same ↦ absurd (last_taken (subst (λ n. state_of n log ≡ Untaken) same new))
              | inr (inl less) ↦ absurd (earlier_taken jobs turns count t.number last.number less (each_with last.number t.number last.load t.load) log form.1 alone.1 last_taken new)
              | inr (inr more) ↦ later t free more
            ]
          where
            later : (t : TakesLoad jobs job.device.raw e.what) → IsFree jobs log t.number → last.number < t.number → Takes e.what ≡ false
            later t free above = elim (cases_order t.number k) [
              | inl same ↦ false_true (loads_device job.device.raw (job_of jobs k)) itself_not (subst (λ n. loads_device job.device.raw (job_of jobs n) ≡ true) same t.load)
              | inr (inl less) ↦ false_true (loads_device job.device.raw (job_of jobs t.number)) (last.between t.number above less) t.load
              | inr (inr more) ↦ absurd (free.in_order k more (with_it t.number t.load) before)
            ]

        not_this : (b : Bool) → Takes e.what ≡ b → Takes e.what ≡ false
        not_this true is = by_number (taking jobs job.device.raw e.what is)
        not_this false is = is

-- ---- each entry is so where the log is

fine_below : (newer log : List LogEntry) → NothingFailed (newer ++ log) → NothingFailed log
fine_below [] log h = h
fine_below (x ∷ newer) log h = fine_below newer log h.1

refuses_below : (jobs : List Job) (start : World) (events : List Event) (newer log : List LogEntry) → RefusesRightly jobs start events (newer ++ log) → RefusesRightly jobs start events log
refuses_below jobs start events [] log h = h
refuses_below jobs start events (x ∷ newer) log h = refuses_below jobs start events newer log h.1

done_below : (jobs : List Job) (start : World) (events : List Event) (newer log : List LogEntry) → RunsWhereDone jobs start events (newer ++ log) → RunsWhereDone jobs start events log
done_below jobs start events [] log h = h
done_below jobs start events (x ∷ newer) log h = done_below jobs start events newer log h.1

-- what ended it
done_over : (j : ℕ) (e : LogEntry) (log : List LogEntry) → e.what ≡ Done j → state_of j (e ∷ log) ≡ Over
done_over j e log is = rw (is, eq-eqb j j refl) refl

ends_by : (worker : ℕ) (s : JobState) → EndsHeld worker s → (since : ℕ) × (by : ℕ) × (s ≡ Held by since)
ends_by worker Untaken h = absurd h
ends_by worker (Held by since) h = (since, by, refl)
ends_by worker Over h = absurd h

-- ---- what a device runs, by what it kept before

module _ (job : Job) where
  abbrev RunsIt : Option DeviceState → Type 0
  RunsIt o = OfDevice (λ d. runs d.kept ≡ Some job.image) o

  kept_runs : (one other : Option DeviceState) → Both (λ old new. new ≡ old) one other → RunsIt one → RunsIt other
  kept_runs (Some a) (Some b) both h = subst (λ nv. runs nv ≡ Some job.image) (sym both) h
  kept_runs (Some a) None both h = absurd both
  kept_runs None other both h = absurd h

  ran_before : (one other : Option DeviceState) → Both (λ old new. new ≡ old) one other → RunsIt other → RunsIt one
  ran_before (Some a) (Some b) both h = subst (λ nv. runs nv ≡ Some job.image) both h
  ran_before None (Some b) both h = absurd both
  ran_before one None both h = absurd h

-- ---- all of it

module _ (jobs : List Job) (turns : List GroupTurn) (start : World) (events : List Event) (log : List LogEntry) (fresh : IsFresh start) (calm : AreCalm start events) (on_line : (k : ℕ) (job : Job) → job_of jobs k ≡ Some job → start.devices job.device.raw ≢ None)
    (form : IsLog jobs turns (length events) log) (alone : OneDownloaderPerDevice jobs log) (fine : NothingFailed log) (refuses : RefusesRightly jobs start events log) (untouched : IsUntouched jobs start events log) (stays : StaysDone jobs start events log)
    (done : RunsWhereDone jobs start events log) (answered : (k : ℕ) (job : Job) → job_of jobs k ≡ Some job → IsAnsweredRightly job) (one_image : HaveOneImage jobs) where
  module _ (k : ℕ) (job : Job) (there : job_of jobs k ≡ Some job) (checks : job.loads ≡ false) where
    abbrev At : ℕ → Option DeviceState
    At n = (moment.world_at start events n).devices job.device.raw

    -- no load was taken before the place of an entry
    none_before : (newer : List LogEntry) (e : LogEntry) (older : List LogEntry) → log ≡ newer ++ e ∷ older → takes_load jobs job.device.raw e.what ≡ false → list_any (λ (x : LogEntry). takes_load jobs job.device.raw x.what) older ≡ false
        → load_taken jobs job.device.raw e.at log ≡ false
    none_before newer e older all this rest =
        let later : AllByRecursion (λ (x : LogEntry). e.at ≤ x.at) newer = later_places jobs turns (length events) newer e older (subst (IsLog jobs turns (length events)) all form) in
        subst (λ (l : List LogEntry). load_taken jobs job.device.raw e.at l ≡ false) (sym all) (none_at (takes_load jobs job.device.raw) e.at newer (e ∷ older) later (rw this rest))

    took_not : (what : LogWhat) → what ≡ Took k → takes_load jobs job.device.raw what ≡ false
    took_not what is = rw is (itself_not jobs turns (length events) k job there checks)

    -- ---- what it runs where it is taken

    module _ (newer : List LogEntry) (t : LogEntry) (older : List LogEntry) (all : log ≡ newer ++ t ∷ older) (took : t.what ≡ Took k) where
      here : IsLog jobs turns (length events) (t ∷ older)
      here = form_below jobs turns (length events) newer (t ∷ older) (subst (IsLog jobs turns (length events)) all form)

      here_alone : OneDownloaderPerDevice jobs (t ∷ older)
      here_alone = alone_below jobs turns (length events) newer (t ∷ older) (subst (OneDownloaderPerDevice jobs) all alone)

      here_fine : NothingFailed older
      here_fine = fine_below (newer ++ t ∷ []) older (subst NothingFailed (all ∙ sym (append_assoc newer (t ∷ []) older)) fine)

      here_refuses : RefusesRightly jobs start events older
      here_refuses = refuses_below jobs start events (newer ++ t ∷ []) older (subst (RefusesRightly jobs start events) (all ∙ sym (append_assoc newer (t ∷ []) older)) refuses)

      untaken : state_of k older ≡ Untaken
      untaken = untaken_where_taken jobs turns (length events) k t older here took

      began_runs : NoneBefore jobs job.device.raw k → BeganSo start job → RunsIt job (At t.at)
      began_runs none began =
          let rest = none_taken jobs turns (length events) k job there checks none older here.1 here_alone.1 (λ over. let z : Untaken ≡ Over = sym untaken ∙ over in cc) in
          kept_runs job (start.devices job.device.raw) (At t.at) (untouched job.device.raw t.at (none_before newer t older all (took_not t.what took) rest)) began

      module _ (last : IsLast jobs job.device.raw k) where
        load : IsLoadOf jobs job.device.raw last.number
        load = load_of jobs job.device.raw last.number last.load

        free : IsFree jobs older k
        free = takes_free jobs turns (length events) k job there checks k t older took here_alone.0

        pair : SameDevice (job_of jobs k) (job_of jobs last.number)
        pair = it_with jobs turns (length events) k job there checks last.number last.load

        last_over : state_of last.number older ≡ Over
        last_over = free_over jobs turns (length events) k last.number older free pair (free.in_order last.number last.before pair)

        told : Split (λ (e : LogEntry) (below : List LogEntry). e.what ≡ Done last.number) older
        told =
            let well : EndWell jobs older = end_well jobs turns start events fresh calm on_line (length events) older here.1 here_fine here_refuses in
            told_split (λ what. what ≡ Done last.number) older (well.answered last.number load.job load.there ((answered last.number load.job load.there).load load.loads) last_over)

        split_all : log ≡ (newer ++ t ∷ told.newer) ++ told.e ∷ told.older
        split_all = all ∙ (ap (λ (l : List LogEntry). newer ++ t ∷ l) told.all ∙ sym (append_assoc newer (t ∷ told.newer) (told.e ∷ told.older)))

        since_form : IsLog jobs turns (length events) ((t ∷ told.newer) ++ told.e ∷ told.older)
        since_form = subst (λ (l : List LogEntry). IsLog jobs turns (length events) (t ∷ l)) told.all here

        none_mid : list_any (λ (x : LogEntry). takes_load jobs job.device.raw x.what) told.newer ≡ false
        none_mid =
            none_since jobs turns (length events) k job there checks last told.newer (told.e ∷ told.older) since_form.1 (subst (OneDownloaderPerDevice jobs) told.all here_alone.1) (subst (λ (l : List LogEntry). state_of k l ≡ Untaken) told.all untaken)
            (done_over last.number told.e told.older told.is)

        none_after : load_taken jobs job.device.raw t.at (newer ++ t ∷ told.newer) ≡ false
        none_after =
            let later : AllByRecursion (λ (x : LogEntry). t.at ≤ x.at) newer = later_places jobs turns (length events) newer t older (subst (IsLog jobs turns (length events)) all form) in
            none_at (takes_load jobs job.device.raw) t.at newer (t ∷ told.newer) later (rw (took_not t.what took) none_mid)

        kept : Both (λ was now. now ≡ was) (At told.e.at) (At t.at)
        kept =
            stays job.device.raw t.at (newer ++ t ∷ told.newer) told.older told.e split_all (subst (IsDoneOf jobs job.device.raw) (sym told.is) (load.job, load.there, load.of_it))
            (later_places jobs turns (length events) (t ∷ told.newer) told.e told.older since_form).0 here.0.so_far none_after

        ran : RunsIt job (At told.e.at)
        ran =
            let so : RunsWhereDone jobs start events (told.e ∷ told.older) = done_below jobs start events (newer ++ t ∷ told.newer) (told.e ∷ told.older) (subst (RunsWhereDone jobs start events) split_all done) in
            let here_so : DoneSo (λ job nv. runs nv ≡ Some job.image) jobs start events told.e (Done last.number) = subst (DoneSo (λ job nv. runs nv ≡ Some job.image) jobs start events told.e) told.is so.0 in
            let runs_load : OfDevice (λ d. runs d.kept ≡ Some load.job.image) ((moment.world_at start events told.e.at).devices load.job.device.raw) = here_so load.job load.there in
            let same : load.job.image ≡ job.image = one_image last.number k load.job job load.there there load.of_it in
            subst (λ image. OfDevice (λ d. runs d.kept ≡ Some image) (At told.e.at)) same (subst (λ a. OfDevice (λ d. runs d.kept ≡ Some load.job.image) ((moment.world_at start events told.e.at).devices a)) load.of_it runs_load)

        loaded_runs : RunsIt job (At t.at)
        loaded_runs = kept_runs job (At told.e.at) (At t.at) kept ran

      runs_then : RunsByThen jobs start k job → RunsIt job (At t.at)
      runs_then by = elim (last_load jobs job.device.raw k) [
        | inl last ↦ loaded_runs last
        | inr none ↦ by_none none by
      ]
        where
          by_none : NoneBefore jobs job.device.raw k → RunsByThen jobs start k job → RunsIt job (At t.at)
          by_none none (inl l) = false_true (loads_device job.device.raw (job_of jobs l.number)) (none l.number l.before) (is_load_of jobs job.device.raw l.number l.load l.there l.loads l.device)
          by_none none (inr began) = began_runs none began

    -- ---- it was told done

    was_done : IsToldDone k log → RunsByThen jobs start k job
    was_done t = by_split (told_split (λ what. what ≡ Done k) log t)
      where
        by_split : Split (λ (e : LogEntry) (older : List LogEntry). e.what ≡ Done k) log → RunsByThen jobs start k job
        by_split s = elim (last_load jobs job.device.raw k) [
          | inl last ↦
              let load = load_of jobs job.device.raw last.number last.load in
              inl (record { number = last.number; before = last.before; load = load.job; there = load.there; loads = load.loads; device = load.of_it })
          | inr none ↦ inr (began none)
        ]
          where
            here : IsLog jobs turns (length events) (s.e ∷ s.older)
            here = form_below jobs turns (length events) s.newer (s.e ∷ s.older) (subst (IsLog jobs turns (length events)) s.all form)

            here_alone : OneDownloaderPerDevice jobs (s.e ∷ s.older)
            here_alone = alone_below jobs turns (length events) s.newer (s.e ∷ s.older) (subst (OneDownloaderPerDevice jobs) s.all alone)

            unfinished : state_of k s.older ≢ Over
            unfinished over = subst (EndsHeld s.e.worker) over (subst (MayFollow jobs turns s.e.worker s.older) s.is here.0.follows)

            began : NoneBefore jobs job.device.raw k → BeganSo start job
            began none =
                let rest = none_taken jobs turns (length events) k job there checks none s.older here.1 here_alone.1 unfinished in
                let so : RunsWhereDone jobs start events (s.e ∷ s.older) = done_below jobs start events s.newer (s.e ∷ s.older) (subst (RunsWhereDone jobs start events) s.all done) in
                let here_so : DoneSo (λ job nv. runs nv ≡ Some job.image) jobs start events s.e (Done k) = subst (DoneSo (λ job nv. runs nv ≡ Some job.image) jobs start events s.e) s.is so.0 in
                ran_before job (start.devices job.device.raw) (At s.e.at) (untouched job.device.raw s.e.at (none_before s.newer s.e s.older s.all (rw s.is refl) rest)) (here_so job there)

    -- ---- it was told refused

    was_refused : IsToldRefused k log → RunsByThen jobs start k job → ⊥
    was_refused t by = by_split (told_split (λ what. (op : ℕ) × (got : List ℕ) × (expected : List ℕ) × (what ≡ Refused k op got expected)) log t)
      where
        by_split : Split (λ (e : LogEntry) (older : List LogEntry). (op : ℕ) × (got : List ℕ) × (expected : List ℕ) × (e.what ≡ Refused k op got expected)) log → ⊥
        by_split s = taken (ends_by s.e.worker (state_of k s.older) (subst (MayFollow jobs turns s.e.worker s.older) s.is.3 here.0.follows))
          where
            here : IsLog jobs turns (length events) (s.e ∷ s.older)
            here = form_below jobs turns (length events) s.newer (s.e ∷ s.older) (subst (IsLog jobs turns (length events)) s.all form)

            so : RefusesSo jobs start events s.older (Refused k s.is.0 s.is.1 s.is.2)
            so = subst (RefusesSo jobs start events s.older) s.is.3 (refuses_below jobs start events s.newer (s.e ∷ s.older) (subst (RefusesRightly jobs start events) s.all refuses)).0

            taken : (since : ℕ) × (by : ℕ) × (state_of k s.older ≡ Held by since) → ⊥
            taken (since, worker, held) = by_taking (taken_split jobs turns (length events) k worker since s.older here.1 held)
              where
                by_taking : Split (λ (e : LogEntry) (older : List LogEntry). (e.what ≡ Took k) × (since ≡ e.at)) s.older → ⊥
                by_taking u = by_device ((world_at start events since).devices job.device.raw) refl ran
                  where
                    whole : log ≡ (s.newer ++ s.e ∷ u.newer) ++ u.e ∷ u.older
                    whole = s.all ∙ (ap (λ (l : List LogEntry). s.newer ++ s.e ∷ l) u.all ∙ sym (append_assoc s.newer (s.e ∷ u.newer) (u.e ∷ u.older)))

                    ran : RunsIt job ((world_at start events since).devices job.device.raw)
                    ran =
                        subst (λ (w : World). RunsIt job (w.devices job.device.raw)) (ap (moment.world_at start events) (sym u.is.1) ∙ same_world start events since)
                        (runs_then (s.newer ++ s.e ∷ u.newer) u.e u.older whole u.is.0 by)

                    by_device : (o : Option DeviceState) → (world_at start events since).devices job.device.raw ≡ o → RunsIt job o → ⊥
                    by_device None is h = h
                    by_device (Some d) is h =
                        let capable : HasCapacities d.kept = capable_at start (drop (length events - since) events) fresh (calm_drop start (length events - since) events calm) job.device.raw d is in
                        so job worker since d there held is ((answered k job there).check checks d.frames d.kept capable h)

  pub checks_exactly : ChecksExactly jobs start log
  checks_exactly k job there checks over =
      let well : EndWell jobs log = end_well jobs turns start events fresh calm on_line (length events) log form fine refuses in
      by_end (well.each k job there over)
    where
      by_end : IsToldDone k log ⊎ IsToldRefused k log → (IsToldDone k log × RunsByThen jobs start k job) ⊎ (IsToldRefused k log × ¬ RunsByThen jobs start k job)
      by_end (inl t) = inl (t, was_done k job there checks t)
      by_end (inr t) = inr (t, was_refused k job there checks t)
