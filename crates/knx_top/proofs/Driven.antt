-- A run that the workers of its words drive over the simulated line: what is promised of it, in the words of its commission.
use Rattle.std.proofs.Common.{◌≡◌, ◌⊎◌, ◌≤◌, ℕ, inl, inr, List, [], ◌∷◌, ◌++◌, length, map, Option, Some, refl, sym, ap, ◌∙◌, subst, arith}
use Rattle.std.specs.List.{AllByRecursion}
use Rattle.std.proofs.lemmas.List.{length-map}
use Rattle.bus_sim.specs.Loaded.{BusNow}
use Rattle.bus_sim.specs.declared.clients.Clients.{Clients}
use Rattle.bus_sim.specs.declared.clients.Clients.TheVariants.{One, Any}
use Rattle.bus_sim.specs.Begun.{mode_of}
use Rattle.bus_sim.specs.Ended.{FailsForCause, IsAtEnd}
use Rattle.bus_sim.specs.RunNow.{RunNow, mode, script, start, story, story_of}
use Rattle.hub_core.specs.Commissioned.{TellsRun, WantsAtFirst, log_of}
use Rattle.hub_core.specs.Seen.{AreJobs, tasks_seen}
use Rattle.hub_work.specs.declared.job.HubJob.{HubJob}
use Rattle.hub_work.specs.Books.{AreJobsOf}
use Rattle.hub_work.specs.Downloaders.{Task, task_of_hub_job}
use Rattle.knx_model.specs.declared.address.IndAddr.{IndAddr}
use Rattle.line_model.specs.declared.fault.HubFault.{HubFault}
use Rattle.line_model.specs.declared.fault.HubFault.TheVariants.{NoMemory, LinkFailed}
use Rattle.line_model.specs.declared.log.LogEntry.{LogEntry}
use Rattle.line_model.specs.declared.log.Report.{Report}
use Rattle.line_model.specs.declared.outside.fault_counts.FaultCounts.{FaultCounts}
use Rattle.line_model.specs.Follows.{Follows}
use Rattle.line_model.specs.Fresh.{IsFresh}
use Rattle.line_model.specs.Headline.{IsGoodJob, IsRight}
use Rattle.line_model.specs.Legal.{IsLegal}
use Rattle.line_model.specs.declared.group.GroupTurn.{GroupTurn}
use Rattle.line_model.specs.Lines.{Script, script_of}
use Rattle.line_model.specs.LinkStory.{Full, Story}
use Rattle.line_model.specs.Log.{Job}
use Rattle.line_model.specs.Polled.{after_fault, none_failed, one_failed}
use Rattle.line_model.specs.StartOf.{BusOf, nothing_kept}
use Rattle.line_model.specs.Tunnel.{Commissions}
use Rattle.line_model.specs.World.{World, Event}
use Rattle.tunnel_link.specs.Goes.{GoesOn}
use Rattle.knx_top.specs.Begun.{IsOrder}
use Rattle.call_parts.specs.Jobs.{seen_job}
use Rattle.call_parts.specs.OptionValues.{most_jobs}
use Rattle.call_parts.specs.Turns.{most_turns}
use Rattle.knx_top.specs.Ran.{CountsOnLine, HasThreeTries, IsRunOf, IsToldOver, KeepsPromises, Ran, Commission}
use Rattle.knx_top.specs.declared.commands.sim.judge.Order.{Order}
use Rattle.knx_top.proofs.Meanings.{devices_mean, done_means}
use Rattle.knx_top.proofs.Telegrams.{telegrams_by_project}
use Rattle.knx_top.proofs.Undisturbed.{Laws, nothing_fails}

-- ---- the jobs of the hub are those that the definitions see

pub jobs_seen : (plans : List HubJob) → AreJobs plans (map seen_job plans)
jobs_seen [] = refl
jobs_seen (job ∷ plans) = ap (λ (tasks : List Task). task_of_hub_job job ∷ tasks) (jobs_seen plans)

pub devices_seen : (plans : List HubJob) → AreJobsOf (map (λ (job : HubJob). job.device) plans) (map seen_job plans)
devices_seen [] = refl
devices_seen (job ∷ plans) = ap (λ (devices : List IndAddr). job.device ∷ devices) (devices_seen plans)

-- ---- the start of the line stays

-- the run of one client tells its events, and goes on as that
one_story : (r : RunNow) → r.begun.clients ≡ One → story r ≡ Full (start r) r.events
one_story r one = ap (λ c. story_of c (start r) r.events) one

is_one : (clients : Clients) (one other : World) (events more : List Event) → story_of clients one events ≡ Full other more → clients ≡ One
is_one One one other events more e = refl
is_one Any one other events more e = cc

goes_full : (before after : RunNow) → before.begun.clients ≡ One → GoesOn (story before) (story after) → GoesOn (Full (start before) before.events) (story after)
goes_full before after one goes = subst (λ s. GoesOn s (story after)) (one_story before one) goes

pub still_one : (before after : RunNow) → before.begun.clients ≡ One → GoesOn (story before) (story after) → after.begun.clients ≡ One
still_one before after one goes =
    let h : GoesOn (Full (start before) before.events) (story after) = goes_full before after one goes in
    is_one after.begun.clients (start after) (start before) after.events (h.0 ++ before.events) h.1

pub told_whole : (before after : RunNow) → before.begun.clients ≡ One → GoesOn (story before) (story after) → story after ≡ Full (start after) after.events
told_whole before after one goes = one_story after (still_one before after one goes)

pub same_start : (before after : RunNow) → before.begun.clients ≡ One → GoesOn (story before) (story after) → start after ≡ start before
same_start before after one goes =
    let h : GoesOn (Full (start before) before.events) (story after) = goes_full before after one goes in
    one_start (start after) (start before) after.events (h.0 ++ before.events) (sym (told_whole before after one goes) ∙ h.1)
  where
    one_start : (one other : World) (events more : List Event) → Full one events ≡ Full other more → one ≡ other
    one_start one other events more e = cc

-- ---- a call of the line failed, or found no memory, exactly where that is told; and it failed only at the end of the run

-- of a run that began with no count, on a line where nothing had happened
module _ (report : Report) (begun line : BusNow) (none : begun.faults ≡ none_failed) (new : begun.run.events ≡ []) (one : line.run.begun.clients ≡ One) (ends : FailsForCause line.faults line.run) where
  abbrev Told : Type 0
  Told = (line.faults ≡ after_fault report.fault none_failed) ⊎ (WantsAtFirst report × (line.run.events ≡ []) × (line.faults ≡ none_failed))

  told_by : (line.faults ≡ after_fault report.fault begun.faults) ⊎ (WantsAtFirst report × (line ≡ begun)) → Told
  told_by (inl so) = inl (so ∙ ap (after_fault report.fault) none)
  told_by (inr first) = inr (first.0, ap (λ (b : BusNow). b.run.events) first.1 ∙ new, ap (λ (b : BusNow). b.faults) first.1 ∙ none)

  not_both : One ≡ Any → ⊥
  not_both e = cc

  fails_last : FailsForCause line.faults line.run → line.faults ≡ one_failed none_failed → IsAtEnd line.run
  fails_last (inl want) failed = absurd (let none_wanted : line.faults.wanting ≡ 0 = ap (λ (n : FaultCounts). n.wanting) failed in omega (arith, want, none_wanted))
  fails_last (inr (inl never)) failed = absurd (let once : line.faults.failed ≡ 1 = ap (λ (n : FaultCounts). n.failed) failed in omega (arith, never, once))
  fails_last (inr (inr (inl end))) failed = end
  fails_last (inr (inr (inr serves))) failed = absurd (not_both (sym one ∙ serves))

  last_of : Told → report.fault ≡ Some LinkFailed → IsAtEnd line.run
  last_of (inl so) failed = fails_last ends (so ∙ ap (λ (o : Option HubFault). after_fault o none_failed) failed)
  last_of (inr first) failed = absurd (let e : Some (NoMemory tt) ≡ Some LinkFailed = sym first.0.wants ∙ failed in cc)

  pub counts_on_line : (line.faults ≡ after_fault report.fault begun.faults) ⊎ (WantsAtFirst report × (line ≡ begun)) → CountsOnLine report line
  counts_on_line counts = record { counts = told_by counts; last = last_of (told_by counts) }

-- ---- the premises, and what is promised

is_run : (c : Commission) (order : Order) (r : RunNow) → IsOrder c order → start r ≡ start order.line.run → script r ≡ script order.line.run
    → IsFresh (start r) → IsLegal Commissions (start r) r.events → Follows (script r) Commissions (start r) r.events → IsRunOf c r
is_run c order r is begun says fresh legal follows = record {
  begins = subst (λ (w : World). BusOf c.project c.before (script_of c.script) nothing_kept w) (sym begun) is.line.begins;
  fresh = fresh;
  legal = legal;
  follows = subst (λ (s : Script). Follows s Commissions (start r) r.events) (says ∙ is.line.says) follows;
}

keeps_promises : (c : Commission) (order : Order) (r : RunNow) (log : List LogEntry) → IsOrder c order → IsRunOf c r → IsRight (map seen_job order.plans) (start r) r.events log → KeepsPromises c (map seen_job order.plans) r log
keeps_promises c order r log is run right =
    let jobs : List Job = map seen_job order.plans in
    record {
      devices = devices_mean c.project jobs order.jobs (start r) r.events log is.prepared.plans right.devices;
      telegrams = telegrams_by_project c.project c.before (script_of c.script) nothing_kept jobs order.jobs (start r) r.events log run.begins is.line.in_range is.prepared.plans right.devices right.telegrams;
      done = done_means c.project jobs order.jobs (start r) r.events log is.prepared.plans right.done;
      once = right.once;
    }

-- ---- all of it

-- what is told of a run, over any link
pub told_of : (workers : ℕ) (plans : List HubJob) (turns : List GroupTurn) (after : Story) (place : ℕ) (report : Report) → AllByRecursion IsGoodJob (map seen_job plans)
    → TellsRun workers (tasks_seen plans) (map (λ (job : HubJob). job.device) plans) turns after place report → HasThreeTries report.fault → IsToldOver workers turns (map seen_job plans) after report
told_of workers plans turns after place report good tells tries =
    let jobs : List Job = map seen_job plans in
    let are : AreJobs plans jobs = jobs_seen plans in
    let of : AreJobsOf (map (λ (job : HubJob). job.device) plans) jobs = devices_seen plans in
    record {
      keeps = tells.headline jobs are;
      right = tells.right jobs are good;
      hastens = tells.hastens jobs are;
      thorough = tells.thorough jobs are;
      leaves = tells.leaves jobs of;
      fault = tells.fault jobs are;
      tries = tries;
      ended = λ none. tells.over none jobs of;
      sent = tells.told;
      closed = tells.closed;
      place = place;
      form = tells.form jobs of;
      alone = tells.alone jobs of;
      in_order = tells.in_order jobs of;
      seats = tells.seats;
      heard = tells.heard;
      dropped = tells.dropped;
    }

pub driven : (laws : Laws) (c : Commission) (order : Order) (workers : ℕ) (turns : List GroupTurn) (line : BusNow) (place : ℕ) (report : Report) → IsOrder c order → workers ≡ c.workers → turns ≡ c.turns → order.line.run.begun.clients ≡ One → GoesOn (story order.line.run) (story line.run) → script line.run ≡ script order.line.run
    → IsFresh (start line.run) → IsLegal (mode line.run) (start line.run) line.run.events → Follows (script line.run) (mode line.run) (start line.run) line.run.events
    → AllByRecursion IsGoodJob (map seen_job order.plans) → TellsRun workers (tasks_seen order.plans) (map (λ (job : HubJob). job.device) order.plans) turns (story line.run) place report
    → HasThreeTries report.fault → CountsOnLine report line → Ran c line.run report order.jobs
driven laws c order workers turns line place report is by sends one goes says fresh legal follows good tells tries counts =
    let jobs : List Job = map seen_job order.plans in
    let whole : story line.run ≡ Full (start line.run) line.run.events = told_whole order.line.run line.run one goes in
    let in_run : mode line.run ≡ Commissions = ap mode_of (still_one order.line.run line.run one goes) in
    let run : IsRunOf c line.run = is_run c order line.run is (same_start order.line.run line.run one goes) says fresh
    (subst (λ m. IsLegal m (start line.run) line.run.events) in_run legal) (subst (λ m. Follows (script line.run) m (start line.run) line.run.events) in_run follows) in
    let over : IsToldOver workers turns jobs (Full (start line.run) line.run.events) report = subst (λ s. IsToldOver workers turns jobs s report) whole (told_of workers order.plans turns (story line.run) place report good tells tries) in
    let told : IsToldOver c.workers c.turns jobs (Full (start line.run) line.run.events) report =
    subst (λ (ts : List GroupTurn). IsToldOver c.workers ts jobs (Full (start line.run) line.run.events) report) sends (subst (λ (n : ℕ). IsToldOver n turns jobs (Full (start line.run) line.run.events) report) by over) in
    let promises : KeepsPromises c jobs line.run (log_of report) = keeps_promises c order line.run (log_of report) is run told.right in
    let few_jobs : length jobs ≤ most_jobs = omega (arith, length-map order.plans seen_job, is.prepared.few) in
    let few_turns : length c.turns ≤ most_turns = omega (arith, ap length is.turns, ap length is.prepared.turns, is.prepared.few_turns) in
    record {
      run = run;
      words_are = is.prepared.jobs;
      jobs = jobs;
      planned = is.prepared.plans;
      few_jobs = few_jobs;
      few_turns = few_turns;
      promises = promises;
      told = told;
      undisturbed = λ u. nothing_fails laws c line.run report order.jobs jobs is.prepared.plans few_jobs few_turns run promises told counts.last u;
    }
