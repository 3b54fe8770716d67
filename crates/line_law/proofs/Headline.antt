-- The headline: every interleaving is right.
use Rattle.std.proofs.Common.{◌≡◌, ℕ, List, [], ◌∷◌, ◌++◌, length, Option, Some, None, refl, sym, ◌∙◌, ap, subst, append_assoc}
use Rattle.std.specs.List.{AllByRecursion}
use Rattle.knx_model.specs.Device.{runs}
use Rattle.knx_model.specs.DeviceState.{DeviceState}
use Rattle.line_model.specs.declared.group.GroupTurn.{GroupTurn}
use Rattle.line_model.specs.declared.log.LogEntry.{LogEntry}
use Rattle.line_model.specs.declared.log.LogWhat.{LogWhat}
use Rattle.line_model.specs.declared.log.LogWhat.TheVariants.{Took, Done, Failed, Refused, Sent, Lost}
use Rattle.line_model.specs.Asks.{EachRight}
use Rattle.line_law.specs.Safe.{EachAsked, IsSafe, KeepsSafe, EverySafeInterleaving}
use Rattle.line_model.specs.Headline.{IsGoodJob, IsDisciplined, KeepsFull, EveryInterleaving}
use Rattle.line_model.specs.Legal.{OfDevice}
use Rattle.line_model.specs.Log.{Job, job_of, IsLog, OneDownloaderPerDevice}
use Rattle.line_model.specs.OldStoppedOrNew.{first_events, world_at, DoneSo, EachDoneSo, RunsWhereDone}
use Rattle.line_model.specs.Record.{Placed, placed, record_of}
use Rattle.line_model.specs.Renews.{RenewsRightly}
use Rattle.line_model.specs.Sendings.{SendsRightly}
use Rattle.line_model.specs.Told.{ToldTruly}
use Rattle.line_model.specs.World.{World, Event, Devices}
use Rattle.telegram_law.proofs.Telegrams.{telegrams_act_right}
use Rattle.tunnel_law.proofs.Line.{line_once}
use Rattle.line_law.proofs.Kept.{run_first, case_always, untouched_always}
use Rattle.line_law.proofs.Silent.{joined, joined_beside, joined_fresh, Same, same_run}
use Rattle.line_law.proofs.Unpowered.{silent, with_devices, Beside}
use Rattle.line_law.proofs.Stays.{runs_there, stays_always}
use Rattle.line_law.proofs.Told.{unloaded}
use Rattle.line_law.proofs.RunsBefore.{IsRun}
use Rattle.line_law.proofs.Whole.{is_run}

module _ (jobs : List Job) (turns : List GroupTurn) (log : List LogEntry) (good : AllByRecursion IsGoodJob jobs) (start : World) (events : List Event) (form : IsLog jobs turns (length events) log) (alone : OneDownloaderPerDevice jobs log) (truly : ToldTruly jobs turns (placed start events) log) (run : IsRun jobs turns log start events) where
  -- the run with a silent device is one too
  silent_run : (a : ℕ) → Same a start (with_devices start (joined a start.devices)) events → IsRun jobs turns log (with_devices start (joined a start.devices)) events
  silent_run a s =
      let v : World = with_devices start (joined a start.devices) in
      let renews : RenewsRightly (record_of v events) = subst RenewsRightly (sym s.recorded) run.renews in
      let sends : SendsRightly (record_of v events) = subst SendsRightly (sym s.recorded) run.sends in
      record { begins = joined_fresh a start run.begins; legal = s.legal; renews = renews; sends = sends; asks = subst (EachAsked jobs turns log) (sym s.placed_so) run.asks; once = line_once v events (joined_fresh a start run.begins) s.legal renews sends }

  module _ (number : ℕ) (job : Job) (there : job_of jobs number ≡ Some job) (newer older : List LogEntry) (e : LogEntry) (whole : log ≡ newer ++ e ∷ older) (what : e.what ≡ Done number) where
    nowhere : start.devices job.device.raw ≡ None → ⊥
    nowhere none =
        let a : ℕ = job.device.raw in
        let g : Devices = joined a start.devices in
        let v : World = with_devices start g in
        let beside : Beside a g start.devices = joined_beside a start.devices none in
        let s : Same a start v events = same_run a start g beside events run.legal in
        let first : Same a start v (first_events e.at events) = same_run a start g beside (first_events e.at events) (run_first jobs turns log start e.at events run).legal in
        let runs_it : OfDevice (λ (x : DeviceState). runs x.kept ≡ Some job.image) ((world_at v events e.at).devices job.device.raw)
        = runs_there jobs turns log good v events form alone (subst (λ p. ToldTruly jobs turns p log) (sym s.placed_so) truly) (silent_run a s) number job there newer older e whole what (silent a) beside.there in
        let here : (world_at v events e.at).devices job.device.raw ≡ Some (silent job.device.raw) = ap (λ (z : World). z.devices job.device.raw) first.world ∙ first.beside.there in
        let it : runs (silent job.device.raw).kept ≡ Some job.image = subst (OfDevice (λ (x : DeviceState). runs x.kept ≡ Some job.image)) here runs_it in
        let q : None ≡ Some job.image = sym unloaded ∙ it in
        cc

    there_or_nowhere : (o : Option DeviceState) → start.devices job.device.raw ≡ o → OfDevice (λ (x : DeviceState). runs x.kept ≡ Some job.image) ((world_at start events e.at).devices job.device.raw)
    there_or_nowhere None is = absurd (nowhere is)
    there_or_nowhere (Some d) is = runs_there jobs turns log good start events form alone truly run number job there newer older e whole what d is

  done_entry : (newer older : List LogEntry) (e : LogEntry) (what : LogWhat) → log ≡ newer ++ e ∷ older → e.what ≡ what → DoneSo (λ job nv. runs nv ≡ Some job.image) jobs start events e what
  done_entry newer older e (Done number) whole what = λ job there. there_or_nowhere number job there newer older e whole what (start.devices job.device.raw) refl
  done_entry newer older e (Took j) whole what = tt
  done_entry newer older e (Failed j signs) whole what = tt
  done_entry newer older e (Refused j op got expected) whole what = tt
  done_entry newer older e (Sent j) whole what = tt
  done_entry newer older e (Lost j) whole what = tt

  each_done : (newer rest : List LogEntry) → log ≡ newer ++ rest → EachDoneSo (λ job nv. runs nv ≡ Some job.image) jobs start events rest
  each_done newer [] whole = tt
  each_done newer (e ∷ rest) whole = (done_entry newer rest e e.what whole refl, each_done (newer ++ e ∷ []) rest (whole ∙ sym (append_assoc newer (e ∷ []) rest)))

  pub done_always : RunsWhereDone jobs start events log
  done_always = each_done [] log refl

pub safe_run : EverySafeInterleaving
safe_run = λ jobs turns start events log good k.
    (let run : IsRun jobs turns log start events = is_run jobs turns start events log k in
    let d : IsSafe jobs turns (length events) (placed start events) log = k.safe in
    record {
      devices = record {
        case = case_always jobs turns (length events) log good d.form d.alone start events run;
        untouched = untouched_always jobs turns (length events) log good d.form d.alone start events run;
        stays = stays_always jobs turns log good start events d.form d.alone d.truly run;
      };
      telegrams = telegrams_act_right start events;
      done = done_always jobs turns log good start events d.form d.alone d.truly run;
      once = run.once;
    })

each_asked : (jobs : List Job) (turns : List GroupTurn) (log : List LogEntry) (places : List Placed) → EachRight jobs turns log places → EachAsked jobs turns log places
each_asked jobs turns log [] h = tt
each_asked jobs turns log (p ∷ older) h = (h.0.asks, each_asked jobs turns log older h.1)

keeps_safe : (jobs : List Job) (turns : List GroupTurn) (start : World) (events : List Event) (log : List LogEntry) → KeepsFull jobs turns start events log → KeepsSafe jobs turns start events log
keeps_safe jobs turns start events log k =
    let d : IsDisciplined jobs turns (length events) (placed start events) log = k.disciplined in
    record {
      fresh = k.fresh;
      legal = k.legal;
      safe = record { form = d.form; alone = d.alone; truly = d.truly; renews = d.renews; sends = d.sends; asks = each_asked jobs turns log (placed start events) d.asks.each };
    }

pub every_run : EveryInterleaving
every_run = λ jobs turns start events log good k. safe_run jobs turns start events log good (keeps_safe jobs turns start events log k)
