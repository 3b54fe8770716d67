-- A run of `big` is served: each device that is made is loaded, and runs what the project says at the end; and its one line tells so.
use Rattle.std.proofs.Common.{◌≡◌, ◌<◌, ◌≤◌, ◌+◌, ℕ, zero, suc, Bool, true, false, cond, eqb, List, [], ◌∷◌, ◌++◌, length, map, slice_get, Option, Some, None, inl, inr, refl, sym, ap, subst, ◌∙◌, arith}
use Rattle.std.specs.Prelude.{reverse, ◌&&◌, ◌||◌, ◌==◌, nat_le, nat_lt, if◌then◌else◌, option_and_then, slice_index_or}
use Rattle.std.specs.List.{AllByRecursion, list_any}
use Rattle.std.specs.List.Sorted.{IsStrictlyIncreasing}
use Rattle.std.specs.Option.{option_map}
use Rattle.std.proofs.lemmas.Bool.{and_parts, cases_order, eqb-true, eq-eqb}
use Rattle.std.proofs.lemmas.Bool.Decides.{nat_tests}
use Rattle.std.proofs.lemmas.List.{append-nil, length-map, reverse-reverse}
use Rattle.std.proofs.lemmas.List.Kept.{AllPairs-from_increasing}
use Rattle.std.proofs.lemmas.List.Sorted.{IsPermutation-reverse, length_permutation, list_any-IsPermutation}
use Rattle.std.proofs.lemmas.List.Sums.{sum_by-cons}
use Rattle.std.proofs.lemmas.Slice.Zip.{AllZip-long}
use Rattle.bus_sim.specs.Ended.{IsAtEnd}
use Rattle.bus_sim.specs.RunNow.{RunNow, start, world}
use Rattle.call_words.specs.declared.case.Case.{Case}
use Rattle.call_words.specs.declared.case.Case.TheVariants.{New, Old, Stopped}
use Rattle.call_words.specs.declared.job_word.JobWord.{JobWord}
use Rattle.call_words.specs.declared.status.Status.{Status}
use Rattle.call_words.specs.declared.status.Status.TheVariants as status
use Rattle.call_words.specs.Printed.{DeviceShown, fault_line, is_told_alone}
use Rattle.call_words.specs.Sums.{sums_line, sums_text, done_in, new_among, is_new}
use Rattle.calm_law.specs.CalmEnds.{IsToldDone}
use Rattle.calm_law.proofs.LogParts.{told_split, form_below, untaken_where_taken, over_above}
use Rattle.knx_gen.proofs.Lawful.{counted}
use Rattle.knx_model.specs.declared.address.IndAddr.{IndAddr}
use Rattle.knx_model.specs.declared.config.Image.{Image}
use Rattle.knx_model.specs.declared.counts.Counts.{Counts}
use Rattle.knx_model.specs.Counts.{counts_of}
use Rattle.knx_model.specs.Device.{NonVolatile, all_loaded, runs, segments}
use Rattle.knx_model.specs.DeviceState.{DeviceState}
use Rattle.knx_model.specs.Meaning.{Installation}
use Rattle.knx_model.specs.Numbers.{number_value, up_to}
use Rattle.knx_model.specs.Outside.{SinkNow, Wrote}
use Rattle.knx_model.specs.Promises.{RunsProject}
use Rattle.knx_model.specs.Rules.{devices_of}
use Rattle.line_model.specs.declared.fault.HubFault.{HubFault}
use Rattle.line_model.specs.declared.fault.HubFault.TheVariants.{NoMemory, LinkFailed, GatewayRefused, Flooded, WrongLine}
use Rattle.line_model.specs.declared.log.LogEntry.{LogEntry}
use Rattle.line_model.specs.declared.log.LogWhat.{LogWhat}
use Rattle.line_model.specs.declared.log.LogWhat.TheVariants.{Took, Done, Failed, Refused, Sent, Lost}
use Rattle.line_model.specs.declared.log.Report.{Report}
use Rattle.line_model.specs.Legal.{OfDevice}
use Rattle.line_model.specs.Log.{Job, Untaken, Over, IsLog, job_of, state_of}
use Rattle.line_model.specs.OldStoppedOrNew.{Both, DoneSo, EachDoneSo, IsDoneOf, MeansWhereDone, first_events, load_taken, loads_device, takes_load, world_at}
use Rattle.line_model.specs.StartOf.{is_on_bus}
use Rattle.line_model.specs.World.{World, Event, replay}
use Rattle.report_text.proofs.Statuses.{done_exactly}
use Rattle.report_text.specs.LineStatus.{EachDone, is_done, status_of}
use Rattle.knx_top.specs.Complete.{IsLoadedWhole, IsReportedWhole, IsRunTold, counts_made}
use Rattle.call_parts.specs.Jobs.{ArePlanned, IsPlanned, load_of}
use Rattle.call_parts.specs.OnLine.{on_bus}
use Rattle.hub_core.specs.Commissioned.{log_of}
use Rattle.knx_top.specs.Ran.{Commission, Left, Ran}
use Rattle.knx_top.specs.Shown.{AreShown, IsCase, IsNew, IsOld, IsStopped, IsShown, RunsNew}
use Rattle.knx_top.specs.Undisturbed.{AllServed, EndsSo, IsUndisturbed}
use Rattle.call_parts.specs.Host.{unless_zero}
use Rattle.call_parts.specs.OptionValues.{from_1_to}
use Rattle.knx_top.specs.commands.big.{BigWords, big_words, commission_made, made, nothing, start_value}
use Rattle.call_parts.specs.declared.ending.End.TheVariants as ends
use Rattle.knx_top.proofs.CalmRuns.{on_line}
use Rattle.knx_top.proofs.DoneCounts.{all_done, done_either_way, job_at, numbered, told_tells}
use Rattle.knx_top.proofs.MadeDevices.{all_on, each_on, has_it, how_many, length_made, listed}

-- ---- the words

from_range : (most : ℕ) (o : Option ℕ) (n : ℕ) → option_and_then unless_zero (up_to most o) ≡ Some n → (1 ≤ n) × (n ≤ most)
from_range most None n h = absurd (cc)
from_range most (Some zero) n h = by_test (nat_le 0 most) h where
  by_test : (b : Bool) → option_and_then unless_zero (if b then Some 0 else None) ≡ Some n → (1 ≤ n) × (n ≤ most)
  by_test true h = absurd (cc)
  by_test false h = absurd (cc)
from_range most (Some (suc m)) n h = by_test (nat_le (suc m) most) refl h where
  by_test : (b : Bool) → nat_le (suc m) most ≡ b → option_and_then unless_zero (if b then Some (suc m) else None) ≡ Some n → (1 ≤ n) × (n ≤ most)
  by_test true le h = (let some : (suc m == 0) ≡ false = grind (arith, nat_tests) in
      let value : unless_zero (suc m) ≡ Some (suc m) = rw some refl in
      let both : Some (suc m) ≡ Some n = sym value ∙ h in
      let same : suc m ≡ n = cc in
      let few : suc m ≤ most = grind (arith, nat_tests) in (omega (arith, same), omega (arith, same, few)))
  by_test false le h = absurd (cc)

-- ---- of the log

last_of : (events : List Event) → first_events (length events) events ≡ events
last_of [] = refl
last_of (e ∷ events) = let all : nat_le (suc (length events)) (suc (length events)) ≡ true = grind (arith, nat_tests) in rw all refl

fits_below : (IsMeant : Job → NonVolatile → Type 0) (jobs : List Job) (s : World) (events : List Event) (newer log : List LogEntry) → EachDoneSo IsMeant jobs s events (newer ++ log) → EachDoneSo IsMeant jobs s events log
fits_below IsMeant jobs s events [] log h = h
fits_below IsMeant jobs s events (x ∷ newer) log h = fits_below IsMeant jobs s events newer log h.1

-- ---- which job is a device's

module _ (project : Installation) where
  record JobFor (jobs : List Job) (q : ℕ) : Type 0 where
    place : ℕ
    job : Job
    there : slice_get jobs place ≡ Some job
    device : job.device.raw ≡ q
    loads : job.loads ≡ true

  later_job : (j : Job) (jobs : List Job) (q : ℕ) → JobFor jobs q → JobFor (j ∷ jobs) q
  later_job j jobs q f = record { place = suc f.place; job = f.job; there = f.there; device = f.device; loads = f.loads }

  job_for : (jobs : List Job) (ds : List IndAddr) (q : ℕ) → ArePlanned project jobs (map load_of ds) → list_any (λ (d : IndAddr). eqb d.raw q) ds ≡ true → JobFor jobs q
  job_for [] [] q h any = absurd (cc)
  job_for [] (d ∷ ds) q h any = absurd h
  job_for (j ∷ js) [] q h any = absurd h
  job_for (j ∷ js) (d ∷ ds) q h any = by_head (job_for js ds q h.1) (eqb d.raw q) refl where
    by_head : (list_any (λ (x : IndAddr). eqb x.raw q) ds ≡ true → JobFor js q) → (b : Bool) → eqb d.raw q ≡ b → JobFor (j ∷ js) q
    by_head rest true here = record { place = 0; job = j; there = refl; device = ap (λ (x : IndAddr). x.raw) h.0.device ∙ eqb-true d.raw q here; loads = h.0.loads }
    by_head rest false there = later_job j js q (rest (sym (ap (λ b. b || list_any (λ (x : IndAddr). eqb x.raw q) ds) there) ∙ any))

  -- the raw address at its place
  raw_at : (jobs : List Job) (ds : List IndAddr) (i : ℕ) (job : Job) → ArePlanned project jobs (map load_of ds) → slice_get jobs i ≡ Some job → (slice_index_or (map (λ (d : IndAddr). d.raw) ds) i 0 ≡ job.device.raw) × (i < length (map (λ (d : IndAddr). d.raw) ds))
  raw_at [] [] i job h is = absurd (none_there i is) where
    none_there : (i : ℕ) → slice_get (let js : List Job = [] in js) i ≡ Some job → ⊥
    none_there zero e = cc
    none_there (suc i) e = cc
  raw_at [] (d ∷ ds) i job h is = absurd h
  raw_at (j ∷ js) [] i job h is = absurd h
  raw_at (j ∷ js) (d ∷ ds) zero job h is = (let same : j ≡ job = cc in (sym (ap (λ (x : IndAddr). x.raw) h.0.device) ∙ ap (λ (x : Job). x.device.raw) same, omega arith))
  raw_at (j ∷ js) (d ∷ ds) (suc i) job h is = let rest = raw_at js ds i job h.1 is in (rest.0, (let few = rest.1 in omega (arith, few)))

  -- no two jobs are of one device
  one_place : (jobs : List Job) (ds : List IndAddr) → ArePlanned project jobs (map load_of ds) → IsStrictlyIncreasing (map (λ (d : IndAddr). d.raw) ds) → (i j : ℕ) (one other : Job) → slice_get jobs i ≡ Some one → slice_get jobs j ≡ Some other → one.device.raw ≡ other.device.raw → i ≡ j
  one_place jobs ds h ascending i j one other a b same = elim (cases_order i j) [
    | inl e ↦ e
    | inr (inl less) ↦ absurd (apart i j one other a b same less)
    | inr (inr more) ↦ absurd (apart j i other one b a (sym same) more)
  ] where
    apart : (i j : ℕ) (one other : Job) → slice_get jobs i ≡ Some one → slice_get jobs j ≡ Some other → one.device.raw ≡ other.device.raw → i < j → ⊥
    apart i j one other a b same less =
        let x = raw_at jobs ds i one h a in
        let y = raw_at jobs ds j other h b in
        let below : slice_index_or (map (λ (d : IndAddr). d.raw) ds) i 0 < slice_index_or (map (λ (d : IndAddr). d.raw) ds) j 0 = AllPairs-from_increasing (map (λ (d : IndAddr). d.raw) ds) ascending i j 0 less y.1 in
        let p = x.0 in let q = y.0 in
        omega (arith, below, p, q, same)

-- ---- what takes a load of a device

took_of : (jobs : List Job) (device : ℕ) (what : LogWhat) → takes_load jobs device what ≡ true → (k : ℕ) × (what ≡ Took k) × (loads_device device (job_of jobs k) ≡ true)
took_of jobs device (Took m) h = (m, refl, h)
took_of jobs device (Done m) h = absurd (cc)
took_of jobs device (Failed m signs) h = absurd (cc)
took_of jobs device (Refused m op got expected) h = absurd (cc)
took_of jobs device (Sent m) h = absurd (cc)
took_of jobs device (Lost m) h = absurd (cc)

numbered_job : (jobs : List Job) (device m : ℕ) → loads_device device (job_of jobs m) ≡ true → (i : ℕ) × (job : Job) × (m ≡ suc i) × (slice_get jobs i ≡ Some job) × (job.device.raw ≡ device)
numbered_job jobs device zero h = absurd (cc)
numbered_job jobs device (suc i) h = by_job (slice_get jobs i) refl (subst (λ o. loads_device device o ≡ true) (job_at jobs i) h) where
  by_job : (o : Option Job) → slice_get jobs i ≡ o → loads_device device o ≡ true → (i' : ℕ) × (job : Job) × (suc i ≡ suc i') × (slice_get jobs i' ≡ Some job) × (job.device.raw ≡ device)
  by_job None is h = absurd (cc)
  by_job (Some job) is h = (i, job, refl, is, eqb-true job.device.raw device (and_parts job.loads (job.device.raw == device) h).1)

-- what a device keeps that runs the project is no stopped one's
runs_loaded : (nv : NonVolatile) (image : Image) → runs nv ≡ Some image → all_loaded nv ≡ false → ⊥
runs_loaded nv image is not = let z : runs nv ≡ None = ap (λ (b : Bool). if b then Some (segments nv) else None) not in let y : Some image ≡ None = sym is ∙ z in cc

kept_over : (project : Installation) (device : IndAddr) (one other : Option DeviceState) → Both (λ done now. now ≡ done) one other → OfDevice (λ d. RunsProject project device d.kept) one → OfDevice (λ d. RunsProject project device d.kept) other
kept_over project device (Some a) (Some b) both h = subst (λ nv. RunsProject project device nv) (sym both) h
kept_over project device (Some a) None both h = absurd both
kept_over project device None other both h = absurd h

-- ---- all of it

module _ (words : BigWords) (some : 1 ≤ words.devices) (few : words.devices ≤ 254) (after : Left) (out out' : SinkNow) (ending : Status) (early : ¬ IsAtEnd after.line.run) where
  abbrev c : Commission
  c = commission_made words

  abbrev p : Installation
  p = made words

  module _ (whole : IsReportedWhole (λ told. ends.Sums told (counts_of (made words))) (commission_made words) after out out' ending) where
    abbrev report : Report
    report = whole.told.report

    abbrev r : RunNow
    r = after.line.run

    ran : Ran c r report whole.told.jobs
    ran = whole.reported.ran

    abbrev devices : List IndAddr
    devices = ran.words_are.devices

    planned : ArePlanned p ran.jobs (map load_of devices)
    planned = subst (λ (ws : List JobWord). ArePlanned p ran.jobs ws) ran.words_are.jobs_are ran.planned

    undisturbed : IsUndisturbed p nothing [] ran.jobs
    undisturbed = record { says = refl; devices = on_line p nothing ran.jobs (map load_of devices) planned (all_on words some few devices ran.words_are.all) }

    abbrev log : List LogEntry
    log = log_of report

    served_by : EndsSo ran.jobs c.turns r log report.fault
    served_by = (ran.undisturbed undisturbed).ends

    -- ---- where all is served

    module _ (none : report.fault ≡ None) (served : AllServed ran.jobs c.turns (start r) log) where
      form : IsLog ran.jobs c.turns (length r.events) log
      form = ran.told.keeps.disciplined.form

      -- each job loads
      loads_at : (jobs : List Job) (ds : List IndAddr) (i : ℕ) → ArePlanned p jobs (map load_of ds) → i < length jobs → (job : Job) × (slice_get jobs i ≡ Some job) × (job.loads ≡ true)
      loads_at [] ds i h lt = absurd (omega (arith, lt))
      loads_at (j ∷ js) [] i h lt = absurd h
      loads_at (j ∷ js) (d ∷ ds) zero h lt = (j, refl, h.0.loads)
      loads_at (j ∷ js) (d ∷ ds) (suc i) h lt = loads_at js ds i h.1 (let z : suc i < suc (length js) = lt in omega (arith, z))

      each_done : (k : ℕ) → 1 ≤ k → k ≤ length ran.jobs → IsToldDone k log
      each_done zero low high = absurd (omega (arith, low))
      each_done (suc i) low high = let x = loads_at ran.jobs devices i planned (omega (arith, high)) in served.loads (suc i) x.0 (job_at ran.jobs i ∙ x.1) x.2

      -- ---- as many as are made

      jobs_are : length ran.jobs ≡ length devices
      jobs_are = sym (AllZip-long (IsPlanned p) ran.jobs (map load_of devices) planned) ∙ length-map devices load_of

      -- ---- each device is new at the end

      module _ (address : IndAddr) (on : is_on_bus p nothing address.raw ≡ true) where
        f : JobFor p ran.jobs address.raw
        f = job_for p ran.jobs devices address.raw planned (listed words some few devices ran.words_are.all address.raw ∙ has_it words some few address.raw on)

        abbrev k : ℕ
        k = suc f.place

        abbrev At : ℕ → Option DeviceState
        At n = (world_at (start r) r.events n).devices address.raw

        module _ (newer older : List LogEntry) (e : LogEntry) (all : log ≡ newer ++ e ∷ older) (is : e.what ≡ Done k) where
          here : IsLog ran.jobs c.turns (length r.events) (newer ++ e ∷ older)
          here = subst (IsLog ran.jobs c.turns (length r.events)) all form

          over : state_of k (e ∷ older) ≡ Over
          over = rw (is, eq-eqb k k refl) refl

          one_later : (x : LogEntry) (mid : List LogEntry) → IsLog ran.jobs c.turns (length r.events) (x ∷ (mid ++ e ∷ older)) → load_taken ran.jobs address.raw (length r.events) mid ≡ false → load_taken ran.jobs address.raw (length r.events) (x ∷ mid) ≡ false
          one_later x mid l rest = rw (not_it (takes_load ran.jobs address.raw x.what) refl) (and_no (nat_lt x.at (length r.events))) where
            and_no : (b : Bool) → ((b && false) || load_taken ran.jobs address.raw (length r.events) mid) ≡ false
            and_no true = rest
            and_no false = rest

            by_took : (m : ℕ) × (x.what ≡ Took m) × (loads_device address.raw (job_of ran.jobs m) ≡ true) → takes_load ran.jobs address.raw x.what ≡ false
            by_took (m, took, loads) =
                let it = numbered_job ran.jobs address.raw m loads in
                let same : it.0 ≡ f.place = one_place p ran.jobs devices planned ran.words_are.ascending it.0 f.place it.1 f.job it.3 f.there (it.4 ∙ sym f.device) in
                let number : m ≡ k = it.2 ∙ ap suc same in
                let untaken : state_of k (mid ++ e ∷ older) ≡ Untaken = subst (λ z. state_of z (mid ++ e ∷ older) ≡ Untaken) number (untaken_where_taken ran.jobs c.turns (length r.events) m x (mid ++ e ∷ older) l took) in
                let ended : state_of k (mid ++ e ∷ older) ≡ Over = over_above ran.jobs c.turns (length r.events) k mid (e ∷ older) l.1 over in
                absurd (let z : Untaken ≡ Over = sym untaken ∙ ended in cc)

            not_it : (b : Bool) → takes_load ran.jobs address.raw x.what ≡ b → takes_load ran.jobs address.raw x.what ≡ false
            not_it true t = by_took (took_of ran.jobs address.raw x.what t)
            not_it false t = t

          none_later : (mid : List LogEntry) → IsLog ran.jobs c.turns (length r.events) (mid ++ e ∷ older) → load_taken ran.jobs address.raw (length r.events) mid ≡ false
          none_later [] l = refl
          none_later (x ∷ mid) l = one_later x mid l (none_later mid l.1)

          ran_it : OfDevice (λ d. RunsProject p address d.kept) (At e.at)
          ran_it =
              let each = fits_below (λ job nv. RunsProject p job.device nv) ran.jobs (start r) r.events newer (e ∷ older) (subst (MeansWhereDone p ran.jobs (start r) r.events) all ran.promises.done) in
              let so : DoneSo (λ job nv. RunsProject p job.device nv) ran.jobs (start r) r.events e (Done k) = subst (DoneSo (λ job nv. RunsProject p job.device nv) ran.jobs (start r) r.events e) is each.0 in
              let of_job : OfDevice (λ d. RunsProject p f.job.device d.kept) ((world_at (start r) r.events e.at).devices f.job.device.raw) = so f.job (job_at ran.jobs f.place ∙ f.there) in
              subst (λ (q : ℕ). OfDevice (λ d. RunsProject p (record { raw = q }) d.kept) ((world_at (start r) r.events e.at).devices q)) f.device of_job

          at_end : OfDevice (λ d. RunsProject p address d.kept) ((world r).devices address.raw)
          at_end =
              let stays : Both (λ done now. now ≡ done) (At e.at) (At (length r.events))
              = ran.promises.devices.stays address.raw (length r.events) newer older e all (subst (IsDoneOf ran.jobs address.raw) (sym is) (f.job, job_at ran.jobs f.place ∙ f.there, f.device)) (form_below ran.jobs c.turns (length r.events) newer (e ∷ older) here).0.so_far (omega arith) (none_later newer here) in
              subst (λ (l : List Event). OfDevice (λ d. RunsProject p address d.kept) ((replay (start r) l).devices address.raw)) (last_of r.events) (kept_over p address (At e.at) (At (length r.events)) stays ran_it)

        runs_new : OfDevice (λ d. RunsProject p address d.kept) ((world r).devices address.raw)
        runs_new = let s = told_split (λ (what : LogWhat). what ≡ Done k) log (served.loads k f.job (job_at ran.jobs f.place ∙ f.there) f.loads) in at_end s.newer s.older s.e s.all s.is

        of_state : (d : DeviceState) → (world r).devices address.raw ≡ Some d → RunsNew p address d.kept
        of_state d there = record { there = has_it words some few address.raw on; runs_it = subst (OfDevice (λ (x : DeviceState). RunsProject p address x.kept)) there runs_new }

        case_new : (nv : NonVolatile) (shown : Case) → RunsNew p address nv → IsCase p address nv shown → is_new shown ≡ true
        case_new nv New now (IsNew h) = refl
        case_new nv Old now (IsOld not loaded) = absurd (not now)
        case_new nv Stopped now (IsStopped not) = absurd (runs_loaded nv now.runs_it.image now.runs_it.runs_it not)

        shown_new : (shown : DeviceShown) → IsShown p (world r) shown address → is_new shown.case ≡ true
        shown_new shown s = case_new s.state.kept shown.case (of_state s.state s.there) s.case

      count_new : (shown : List DeviceShown) (ds : List IndAddr) → AreShown p (world r) shown ds → AllByRecursion (λ (d : IndAddr). is_on_bus p nothing d.raw ≡ true) ds → new_among shown ≡ length ds
      count_new [] [] h on = refl
      count_new [] (d ∷ ds) h on = absurd h
      count_new (s ∷ ss) [] h on = absurd h
      count_new (s ∷ ss) (d ∷ ds) h on =
          let head : new_among (s ∷ ss) ≡ cond {A = ℕ} (is_new s.case) 1 0 + new_among ss = sum_by-cons (λ (x : DeviceShown). cond (is_new x.case) 1 0) s ss in
          let one : cond {A = ℕ} (is_new s.case) 1 0 ≡ 1 = ap (λ b. cond {A = ℕ} b 1 0) (shown_new d on.0 s h.0) in
          let rest = count_new ss ds h.1 on.1 in
          omega (arith, head, one, rest)

      -- ---- what is told of it

      news : new_among whole.told.devices ≡ words.devices
      news = count_new whole.told.devices (on_bus p nothing) whole.reported.shown (each_on words some few) ∙ how_many words some few

      made_all : length devices ≡ words.devices
      made_all = length_permutation (devices_of p.statements) devices ran.words_are.all ∙ length_made words some few

      dones : done_in report.log ≡ words.devices
      dones = sym (done_either_way report.log) ∙ all_done ran.jobs c.turns (length r.events) log form each_done ∙ jobs_are ∙ made_all

      same_line : (counts : Counts) (done new : ℕ) → counts ≡ counts_made words.devices → done ≡ words.devices → new ≡ words.devices → sums_line counts done new ≡ sums_line (counts_made words.devices) words.devices words.devices
      same_line counts done new a b d = rw (a, b, d) refl

      text_is : sums_text report (counts_of p) whole.told.devices ≡ sums_line (counts_made words.devices) words.devices words.devices
      unfolding sums_text
      text_is =
          ap (λ (o : Option HubFault). (if is_told_alone o then [] else sums_line (counts_of p) (done_in report.log) (new_among whole.told.devices)) ++ fault_line o) none
          ∙ append-nil (sums_line (counts_of p) (done_in report.log) (new_among whole.told.devices))
          ∙ same_line (counts_of p) (done_in report.log) (new_among whole.told.devices) (counted words.devices words.start [] few) dones news

      each_told : EachDone ran.jobs report.log
      each_told k there =
          let within = numbered ran.jobs k there in
          list_any-IsPermutation (λ (e : LogEntry). is_done k e.what) report.log (reverse report.log) (IsPermutation-reverse report.log) ∙ told_tells k log (each_done k within.0 within.1)

      is_done_now : ending ≡ status.Done
      is_done_now = whole.status_is ∙ (done_exactly ran.jobs c.turns (length r.events) log report (sym (reverse-reverse report.log)) form ran.told.ended).1 (none, each_told)

      loaded : IsLoadedWhole words out out' ending
      loaded = inr (is_done_now, subst (λ text. Wrote text out.taken out'.taken) text_is whole.written)

    by_fault : (o : Option HubFault) → report.fault ≡ o → EndsSo ran.jobs c.turns r log o → IsLoadedWhole words out out' ending
    by_fault None none served = loaded none served
    by_fault (Some (NoMemory want)) is served = inl (whole.status_is ∙ ap (λ (o : Option HubFault). status_of o report.log) is)
    by_fault (Some Flooded) is flooded = absurd (let z : true ≡ false = sym flooded.0 in cc)
    by_fault (Some LinkFailed) is last = absurd (early last)
    by_fault (Some (GatewayRefused tries)) is never = absurd never
    by_fault (Some (WrongLine device tunnel)) is never = absurd never

    whole_loaded : IsLoadedWhole words out out' ending
    whole_loaded = by_fault report.fault refl served_by

  run_loaded : IsRunTold (λ told. ends.Sums told (counts_of (made words))) (commission_made words) after out out' ending → IsLoadedWhole words out out' ending
  run_loaded (inl want) = inl want
  run_loaded (inr whole) = whole_loaded whole

-- by the words
pub made_loaded : (number from : List ℕ) (words : BigWords) (after : Left) (out out' : SinkNow) (ending : Status) → big_words (number ∷ from ∷ []) ≡ Some words → ¬ IsAtEnd after.line.run
    → IsRunTold (λ told. ends.Sums told (counts_of (made words))) (commission_made words) after out out' ending → IsLoadedWhole words out out' ending
made_loaded number from words after out out' ending read early told = by_number (from_1_to 254 number) refl read where
  by_start : (n : ℕ) (o : Option ℕ) → option_map (λ (x : ℕ). let w : BigWords = record { devices = n; start = x } in w) o ≡ Some words → n ≡ words.devices
  by_start n None h = absurd (cc)
  by_start n (Some x) h = let same : Some (let w : BigWords = record { devices = n; start = x } in w) ≡ Some words = h in ap (λ (o : Option BigWords). devices_in o) same where
    devices_in : Option BigWords → ℕ
    devices_in None = 0
    devices_in (Some w) = w.devices

  by_number : (o : Option ℕ) → from_1_to 254 number ≡ o → option_and_then (λ (n : ℕ). option_map (λ (x : ℕ). let w : BigWords = record { devices = n; start = x } in w) (start_value from)) o ≡ Some words → IsLoadedWhole words out out' ending
  by_number None is h = absurd (cc)
  by_number (Some n) is h =
      let range = from_range 254 (number_value number) n is in
      let same : n ≡ words.devices = by_start n (start_value from) h in
      run_loaded words (subst (λ m. 1 ≤ m) same range.0) (subst (λ m. m ≤ 254) same range.1) after out out' ending early told
