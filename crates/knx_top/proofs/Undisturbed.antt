-- In a run that nothing disturbs nothing fails: it begins as the law of calm lines wants, its jobs have plans that each device serves, and its client loses no
-- time.
use Rattle.std.proofs.Common.{◌≡◌, ◌≢◌, inl, inr, ℕ, zero, suc, ◌-◌, ◌≤◌, Bool, true, false, List, [], ◌∷◌, slice_get, Option, Some, None, refl, sym, ap, subst, ◌∙◌, arith}
use Rattle.std.specs.Prelude.{IfSome, length, not, reverse, ◌||◌, ◌==◌, if◌then◌else◌}
use Rattle.std.specs.List.{AllByRecursion}
use Rattle.std.proofs.lemmas.Bool.Decides.{nat_tests}
use Rattle.bus_sim.specs.Ended.{IsAtEnd}
use Rattle.bus_sim.specs.RunNow.{RunNow, start}
use Rattle.call_words.specs.declared.job_word.JobKind.{JobKind}
use Rattle.call_words.specs.declared.job_word.JobKind.TheVariants.{Load, Check}
use Rattle.call_words.specs.declared.job_word.JobWord.{JobWord}
use Rattle.calm_law.specs.CalmChecks.{ChecksExactly, HaveOneImage, IsAnsweredRightly}
use Rattle.calm_law.specs.CalmCounts.{ComeForWrites, some_reads}
use Rattle.calm_law.specs.CalmEnds.{Told, IsAnsweredJob, EndWell}
use Rattle.calm_law.specs.CalmJobs.{HavePower, IsPromptClient}
use Rattle.calm_law.specs.CalmLine.{FitsResponse, HaveShortValues}
use Rattle.calm_law.proofs.Scripts.{said_not}
use Rattle.calm_law.proofs.ShortValues.{zeros_fit}
use Rattle.download_plan.proofs.Plans.{plan_answers, check_answers, load_sendable, check_sendable}
use Rattle.download_plan.proofs.Serving.{load_served, check_served}
use Rattle.knx_model.specs.declared.address.IndAddr.{IndAddr}
use Rattle.knx_model.specs.declared.script.ScriptWhat.TheVariants.{Off}
use Rattle.knx_model.specs.declared.device.FrameSupport.{FrameSupport}
use Rattle.knx_model.specs.Device.{HasCapacities, NonVolatile, answer_in, runs}
use Rattle.knx_model.specs.DeviceState.{DeviceState}
use Rattle.knx_model.specs.GoodPlan.{AnswersAll, IsSendable}
use Rattle.knx_model.specs.Meaning.{Installation, meaning}
use Rattle.knx_model.specs.Plans.{Plan}
use Rattle.knx_model.specs.Promises.{StartOf, BeginsLoaded, BeginsBlank, RunsProject}
use Rattle.knx_model.specs.Served.{IsServed}
use Rattle.knx_model.specs.Tables.{StandsFor}
use Rattle.line_law.specs.Safe.{EachAsked}
use Rattle.line_model.specs.declared.fault.HubFault.{HubFault}
use Rattle.line_model.specs.declared.fault.HubFault.TheVariants.{NoMemory, LinkFailed, GatewayRefused, Flooded, WrongLine}
use Rattle.line_model.specs.declared.fault.Try.{Try}
use Rattle.line_model.specs.declared.group.GroupTurn.{GroupTurn}
use Rattle.line_model.specs.declared.log.LogEntry.{LogEntry}
use Rattle.line_model.specs.declared.log.LogWhat.{LogWhat}
use Rattle.line_model.specs.declared.log.LogWhat.TheVariants.{Took, Done, Failed, Refused, Sent, Lost}
use Rattle.line_model.specs.declared.log.Report.{Report}
use Rattle.line_model.specs.Asks.{EachRight}
use Rattle.line_model.specs.Calm.{AreCalm}
use Rattle.line_model.specs.Faults.{FaultRight, first_elsewhere, first_tunnel, tries}
use Rattle.line_model.specs.Follows.{Follows}
use Rattle.line_model.specs.Fresh.{IsFresh}
use Rattle.line_model.specs.Legal.{IsLegal, OfDevice}
use Rattle.line_model.specs.Lines.{Script, script_of}
use Rattle.line_model.specs.LinkStory.{Full}
use Rattle.line_model.specs.Log.{Job, Over, TurnUnfinished, has_entry, is_turn, job_of, state_of, turn_of}
use Rattle.line_model.specs.OldStoppedOrNew.{DoneSo, IsUntouched, MeansWhereDone, RunsWhereDone, StaysDone, world_at}
use Rattle.line_model.specs.Record.{Entry, Placed, placed, record_of}
use Rattle.line_model.specs.StartOf.{BeginsAs, BusOf, DeviceBegins, is_on_bus, nothing_kept}
use Rattle.line_model.specs.Tunnel.{Commissions, Tunnel}
use Rattle.line_model.specs.Undisturbed as line
use Rattle.line_model.specs.Undisturbed.{FailsNot, HasDevices, IsPrompt, IsServedJob, NothingFailed, RefusesRightly}
use Rattle.line_model.specs.World.{World, Event, me}
use Rattle.call_parts.specs.Jobs.{ArePlanned, IsPlanned, is_load, plan_of}
use Rattle.table_compiler.proofs.Unique.{one_image}
use Rattle.knx_top.proofs.Meanings.{planned_of}
use Rattle.call_parts.specs.OptionValues.{most_jobs}
use Rattle.call_parts.specs.Turns.{most_turns}
use Rattle.hub_core.specs.Commissioned.{log_of}
use Rattle.knx_top.specs.Ran.{Commission, IsRunOf, IsToldOver, KeepsPromises}
use Rattle.knx_top.specs.Undisturbed.{IsUndisturbed, AllServed, EndsSo, FloodsSo, NothingFails}
use Rattle.knx_top.proofs.Unflooded.{ChecksCost, LoadsCost, unflooded}
use Rattle.knx_top.proofs.Unbroken.{no_three, none_elsewhere, none_wrong}

-- ---- the devices at the start

short_start : (old : Installation) (device : IndAddr) (d : DeviceState) → StartOf old device d → AllByRecursion FitsResponse d.values
short_start old device d (BeginsLoaded has image stands is) = subst (λ (x : DeviceState). AllByRecursion FitsResponse x.values) (sym is) zeros_fit
short_start old device d (BeginsBlank has is) = subst (λ (x : DeviceState). AllByRecursion FitsResponse x.values) (sym is) zeros_fit

some_none : (d : DeviceState) → Some d ≡ None → ⊥
some_none d e = cc

module _ (new old : Installation) (script : Script) (w : World) (begins : BusOf new old script nothing_kept w) (says : line.IsUndisturbed script) where
  begun : (a : ℕ) (d : DeviceState) → w.devices a ≡ Some d → BeginsAs old script a None d
  begun a d is = by_bus (is_on_bus new old a) (subst (DeviceBegins old script a None (is_on_bus new old a)) is (begins.devices a))
    where
      by_bus : (on : Bool) → DeviceBegins old script a None on (Some d) → BeginsAs old script a None d
      by_bus true b = b
      by_bus false b = absurd (some_none d b)

  has_power : (a : ℕ) (d : DeviceState) → BeginsAs old script a None d → d.power ≡ true
  has_power a d b = ap (λ (x : DeviceState). x.power) b.is ∙ ap not (said_not (Off (record { raw = a })) refl script says)

  have_power : HavePower w
  have_power a d is = has_power a d (begun a d is)

  there : (a : ℕ) → is_on_bus new old a ≡ true → OfDevice (λ d. d.power ≡ true) (w.devices a)
  there a on = by_device (w.devices a) (subst (λ (b : Bool). DeviceBegins old script a None b (w.devices a)) on (begins.devices a))
    where
      by_device : (o : Option DeviceState) → DeviceBegins old script a None true o → OfDevice (λ d. d.power ≡ true) o
      by_device (Some d) b = has_power a d b
      by_device None b = absurd b

  has_devices : (jobs : List Job) → AllByRecursion (λ (job : Job). is_on_bus new old job.device.raw ≡ true) jobs → HasDevices jobs w
  has_devices [] h = tt
  has_devices (job ∷ jobs) h = (there job.device.raw h.0, has_devices jobs h.1)

  have_short_values : HaveShortValues w
  have_short_values a d is = let b = begun a d is in subst (λ (x : DeviceState). AllByRecursion FitsResponse x.values) (sym b.is) (short_start old (record { raw = a }) b.loaded b.start)

-- ---- the jobs

served_by : (kind : JobKind) (job : Job) → job.plan ≡ plan_of kind job.image → IsServedJob job
served_by Load job plan = record { sendable = subst IsSendable (sym plan) (load_sendable job.image); served = λ frames nv has. subst (λ (p : Plan). IsServed frames p nv) (sym plan) (load_served job.image frames nv) }
served_by Check job plan = record { sendable = subst IsSendable (sym plan) (check_sendable job.image); served = λ frames nv has. subst (λ (p : Plan). IsServed frames p nv) (sym plan) (check_served job.image frames nv) }

all_served : (project : Installation) (jobs : List Job) (words : List JobWord) → ArePlanned project jobs words → AllByRecursion IsServedJob jobs
all_served project [] [] h = tt
all_served project [] (w ∷ ws) h = absurd h
all_served project (j ∷ js) [] h = absurd h
all_served project (j ∷ js) (w ∷ ws) h = (served_by w.kind j h.0.plan, all_served project js ws h.1)

-- a device answers a load wholly, whatever it keeps
answered_by : (project : Installation) (job : Job) (word : JobWord) (kind : JobKind) → word.kind ≡ kind → IsPlanned project job word → job.loads ≡ true → IsAnsweredJob job
answered_by project job word Load is p loads = λ frames nv has.
    subst (λ (plan : Plan). AnswersAll (answer_in frames) plan nv) (sym (p.plan ∙ ap (λ (k : JobKind). plan_of k job.image) is)) (plan_answers job.image p.image.fits frames nv has)
answered_by project job word Check is p loads = absurd (let z : true ≡ false = sym loads ∙ (p.loads ∙ ap is_load is) in cc)

-- and a check where it runs its image
checked_by : (project : Installation) (job : Job) (word : JobWord) (kind : JobKind) → word.kind ≡ kind → IsPlanned project job word → job.loads ≡ false → (frames : FrameSupport) (nv : NonVolatile) → HasCapacities nv → runs nv ≡ Some job.image
    → AnswersAll (answer_in frames) job.plan nv
checked_by project job word Load is p checks = absurd (let z : false ≡ true = sym checks ∙ (p.loads ∙ ap is_load is) in cc)
checked_by project job word Check is p checks = λ frames nv has it.
    subst (λ (plan : Plan). AnswersAll (answer_in frames) plan nv) (sym (p.plan ∙ ap (λ (k : JobKind). plan_of k job.image) is)) (check_answers job.image p.image.fits frames nv has it)

all_answered : (project : Installation) (jobs : List Job) (words : List JobWord) → ArePlanned project jobs words → AllByRecursion IsAnsweredRightly jobs
all_answered project [] [] h = tt
all_answered project [] (w ∷ ws) h = absurd h
all_answered project (j ∷ js) [] h = absurd h
all_answered project (j ∷ js) (w ∷ ws) h = (record { load = answered_by project j w w.kind refl h.0; check = checked_by project j w w.kind refl h.0 }, all_answered project js ws h.1)

-- ---- what the project says has one image

module _ (project : Installation) (jobs : List Job) (words : List JobWord) (planned : ArePlanned project jobs words) where
  have_one_image : HaveOneImage jobs
  have_one_image j k one other there also same =
      let a = planned_of project jobs words j one planned there in
      let b = planned_of project jobs words k other planned also in
      one_image (meaning project other.device) one.image other.image (subst (λ (raw : ℕ). StandsFor one.image (meaning project (record { raw = raw }))) same a.stands) b.stands

  of_device : (job : Job) (k : ℕ) → job_of jobs k ≡ Some job → (o : Option DeviceState) → OfDevice (λ d. RunsProject project job.device d.kept) o → OfDevice (λ d. runs d.kept ≡ Some job.image) o
  of_device job k there None h = h
  of_device job k there (Some d) h = h.runs_it ∙ ap Some (one_image (meaning project job.device) h.image job.image h.stands (planned_of project jobs words k job planned there).stands)

  done_so : (start : World) (events : List Event) (e : LogEntry) (what : LogWhat) → DoneSo (λ job nv. RunsProject project job.device nv) jobs start events e what → DoneSo (λ job nv. runs nv ≡ Some job.image) jobs start events e what
  done_so start events e (Took k) h = tt
  done_so start events e (Done k) h = λ job there. of_device job k there ((world_at start events e.at).devices job.device.raw) (h job there)
  done_so start events e (Failed k signs) h = tt
  done_so start events e (Refused k op got expected) h = tt
  done_so start events e (Sent k) h = tt
  done_so start events e (Lost k) h = tt

  runs_where_done : (start : World) (events : List Event) (log : List LogEntry) → MeansWhereDone project jobs start events log → RunsWhereDone jobs start events log
  runs_where_done start events [] h = tt
  runs_where_done start events (e ∷ log) h = (done_so start events e e.what h.0, runs_where_done start events log h.1)

-- of the job of a number
at_place : (P : Job → Type 0) (jobs : List Job) (k : ℕ) (job : Job) → AllByRecursion P jobs → slice_get jobs k ≡ Some job → P job
at_place P [] k job all e = absurd (none_there k e)
  where
    none_there : (k : ℕ) → slice_get (let js : List Job = [] in js) k ≡ Some job → ⊥
    none_there zero e = cc
    none_there (suc k) e = cc
at_place P (j ∷ jobs) zero job all e = subst P (some_job j job e) all.0
  where
    some_job : (one other : Job) → Some one ≡ Some other → one ≡ other
    some_job one other e = cc
at_place P (j ∷ jobs) (suc k) job all e = at_place P jobs k job all.1 e

of_job : (P : Job → Type 0) (jobs : List Job) (k : ℕ) (job : Job) → AllByRecursion P jobs → job_of jobs k ≡ Some job → P job
of_job P jobs k job all e = at_place P jobs (k - 1) job all (place_of (k == 0) e)
  where
    place_of : (b : Bool) → (if b then None else slice_get jobs (k - 1)) ≡ Some job → slice_get jobs (k - 1) ≡ Some job
    place_of true e = absurd (cc)
    place_of false e = e

-- ---- the client

each_asked : (jobs : List Job) (turns : List GroupTurn) (log : List LogEntry) (places : List Placed) → EachRight jobs turns log places → EachAsked jobs turns log places
each_asked jobs turns log [] h = tt
each_asked jobs turns log (p ∷ older) h = (h.0.asks, each_asked jobs turns log older h.1)

client : (c : Commission) (jobs : List Job) (r : RunNow) (report : Report) → IsRunOf c r → IsToldOver c.workers c.turns jobs (Full (start r) r.events) report → IsPromptClient jobs c.turns (start r) r.events (log_of report)
client c jobs r report run told = record {
  safe = record {
    fresh = run.fresh;
    legal = run.legal;
    safe = record {
      form = told.keeps.disciplined.form;
      alone = told.keeps.disciplined.alone;
      truly = told.keeps.disciplined.truly;
      renews = told.keeps.disciplined.renews;
      sends = told.keeps.disciplined.sends;
      asks = each_asked jobs c.turns (log_of report) (placed (start r) r.events) told.keeps.disciplined.asks.each;
    };
  };
  ends = told.thorough.ends;
  begins = told.thorough.begins;
  acknowledges = told.keeps.disciplined.asks.acknowledges;
  hastens = (told.hastens (placed (start r) r.events) refl).0;
}

-- ---- the group telegrams: each that is told was sent, where none was lost

is_same : (x y : ℕ) → (x == y) ≡ true → x ≡ y
is_same x y h = grind (arith, nat_tests)

sent_is : (k : ℕ) (what : LogWhat) → FailsNot what → is_turn k what ≡ true → what ≡ Sent k
sent_is k (Took j) fine is = absurd (cc)
sent_is k (Done j) fine is = absurd (cc)
sent_is k (Failed j signs) fine is = absurd fine
sent_is k (Refused j op got expected) fine is = absurd (cc)
sent_is k (Sent j) fine is = ap Sent (is_same j k is)
sent_is k (Lost j) fine is = absurd fine

told_sent : (k : ℕ) (log : List LogEntry) → NothingFailed log → has_entry k log ≡ true → Told (λ what. what ≡ Sent k) log
told_sent k [] fine has = absurd (cc)
told_sent k (e ∷ log) fine has = by_test (is_turn k e.what) refl has (λ rest. told_sent k log fine.1 rest)
  where
    by_test : (b : Bool) → is_turn k e.what ≡ b → (b || has_entry k log) ≡ true → (has_entry k log ≡ true → Told (λ what. what ≡ Sent k) log) → Told (λ what. what ≡ Sent k) (e ∷ log)
    by_test true is has further = inl (sent_is k e.what fine.0 is)
    by_test false is has further = inr (further has)

each_sent : (turns : List GroupTurn) (log : List LogEntry) → NothingFailed log → ¬ TurnUnfinished turns log → (k : ℕ) → turn_of turns k ≢ None → Told (λ what. what ≡ Sent k) log
each_sent turns log fine none k there = by_entry (has_entry k log) refl
  where
    by_entry : (b : Bool) → has_entry k log ≡ b → Told (λ what. what ≡ Sent k) log
    by_entry true is = told_sent k log fine is
    by_entry false is = absurd (none (k, there, is))

-- ---- all of it, by the law

some_is_there : (jobs : List Job) (k : ℕ) (job : Job) → job_of jobs k ≡ Some job → job_of jobs k ≢ None
some_is_there jobs k job is none = let z : Some job ≡ None = sym is ∙ none in cc

-- the laws, as the calls of them say it
pub record Laws : Type 0 where
  pub calm : (script : Script) (start : World) (events : List Event) → line.IsUndisturbed script → IsLegal Commissions start events → Follows script Commissions start events → AreCalm start events
  pub prompt : (jobs : List Job) (turns : List GroupTurn) (start : World) (events : List Event) (log : List LogEntry) → AllByRecursion IsServedJob jobs → HasDevices jobs start → HavePower start → IsPromptClient jobs turns start events log → AreCalm start events → HaveShortValues start
      → IsPrompt jobs start log events
  pub refuses : (jobs : List Job) (turns : List GroupTurn) (start : World) (events : List Event) (log : List LogEntry) → AllByRecursion IsServedJob jobs → HasDevices jobs start → HavePower start → IsPromptClient jobs turns start events log → AreCalm start events → HaveShortValues start
      → RefusesRightly jobs start events log
  pub ended : (jobs : List Job) (turns : List GroupTurn) (start : World) (events : List Event) (log : List LogEntry) → AllByRecursion IsServedJob jobs → HasDevices jobs start → HavePower start → IsPromptClient jobs turns start events log → AreCalm start events → HaveShortValues start
      → EndWell jobs log
  pub reached : (jobs : List Job) (turns : List GroupTurn) (start : World) (events : List Event) (log : List LogEntry) → AllByRecursion IsServedJob jobs → HasDevices jobs start → HavePower start → IsPromptClient jobs turns start events log → AreCalm start events → HaveShortValues start
      → tries (record_of start events) ≡ []
  pub told : (start : World) (events : List Event) → IsFresh start → IsLegal Commissions start events → IfSome (first_tunnel (record_of start events)) (λ tunnel. tunnel ≡ me start)
  pub checks : (jobs : List Job) (turns : List GroupTurn) (start : World) (events : List Event) (log : List LogEntry) → AllByRecursion IsServedJob jobs → HasDevices jobs start → HavePower start → IsPromptClient jobs turns start events log → AreCalm start events → HaveShortValues start
      → IsUntouched jobs start events log → StaysDone jobs start events log → RunsWhereDone jobs start events log → AllByRecursion IsAnsweredRightly jobs → HaveOneImage jobs → ChecksExactly jobs start log
  pub unread : (jobs : List Job) (turns : List GroupTurn) (start : World) (events : List Event) (log : List LogEntry) → AllByRecursion IsServedJob jobs → HasDevices jobs start → HavePower start → IsPromptClient jobs turns start events log → AreCalm start events → HaveShortValues start
      → some_reads turns ≡ false → ComeForWrites jobs turns (record_of start events)
  pub load_costs : LoadsCost
  pub check_costs : ChecksCost

module _ (laws : Laws) (c : Commission) (r : RunNow) (report : Report) (words : List JobWord) (jobs : List Job) (planned : ArePlanned c.project jobs words) (few_jobs : length jobs ≤ most_jobs) (few_turns : length c.turns ≤ most_turns) (run : IsRunOf c r) (promises : KeepsPromises c jobs r (log_of report)) (told : IsToldOver c.workers c.turns jobs (Full (start r) r.events) report) (last : report.fault ≡ Some LinkFailed → IsAtEnd r) where
  answered : AllByRecursion IsAnsweredRightly jobs
  answered = all_answered c.project jobs words planned

  module _ (u : IsUndisturbed c.project c.before c.script jobs) where
    power : HavePower (start r)
    power = have_power c.project c.before (script_of c.script) (start r) run.begins u.says

    short : HaveShortValues (start r)
    short = have_short_values c.project c.before (script_of c.script) (start r) run.begins u.says

    devices : HasDevices jobs (start r)
    devices = has_devices c.project c.before (script_of c.script) (start r) run.begins u.says jobs u.devices

    by : IsPromptClient jobs c.turns (start r) r.events (log_of report)
    by = client c jobs r report run told

    calm : AreCalm (start r) r.events
    calm = laws.calm (script_of c.script) (start r) r.events u.says run.legal run.follows

    each_served : AllByRecursion IsServedJob jobs
    each_served = all_served c.project jobs words planned

    idle : IsPrompt jobs (start r) (log_of report) r.events
    idle = laws.prompt jobs c.turns (start r) r.events (log_of report) each_served devices power by calm short

    well : EndWell jobs (log_of report)
    well = laws.ended jobs c.turns (start r) r.events (log_of report) each_served devices power by calm short

    exactly : ChecksExactly jobs (start r) (log_of report)
    exactly =
        laws.checks jobs c.turns (start r) r.events (log_of report) each_served devices power by calm short promises.devices.untouched promises.devices.stays
        (runs_where_done c.project jobs words planned (start r) r.events (log_of report) promises.done) answered (have_one_image c.project jobs words planned)

    over : report.fault ≡ None → (k : ℕ) (job : Job) → job_of jobs k ≡ Some job → state_of k (log_of report) ≡ Over
    over none k job is = told.ended none k (some_is_there jobs k job is)

    served : report.fault ≡ None → AllServed jobs c.turns (start r) (log_of report)
    served none = record {
      loads = λ k job is loads. well.answered k job is ((of_job IsAnsweredRightly jobs k job answered is).load loads) (over none k job is);
      checks = λ k job is checks. exactly k job is checks (over none k job is);
      telegrams = each_sent c.turns (log_of report) idle.nothing_failed (told.sent none);
    }

    abbrev record_now : List Entry
    record_now = record_of (start r) r.events

    never_refused : (three : List Try) → length three ≡ 3 → tries record_now ≡ reverse three → ⊥
    never_refused three are = no_three three (tries record_now) are (laws.reached jobs c.turns (start r) r.events (log_of report) each_served devices power by calm short)

    on_its_line : first_elsewhere jobs (first_tunnel record_now) ≡ None
    on_its_line =
        none_elsewhere c.project c.before jobs u.devices (first_tunnel record_now)
        (subst (λ (a : IndAddr). IfSome (first_tunnel record_now) (λ tunnel. tunnel ≡ a)) (ap (λ (t : Tunnel). t.gateway.tunnel) run.begins.tunnel) (laws.told (start r) r.events run.fresh run.legal))

    ends : (o : Option HubFault) → report.fault ≡ o → FaultRight jobs (log_of report) record_now o → EndsSo jobs c.turns r (log_of report) o
    ends None e right = served e
    ends (Some (NoMemory want)) e right = tt
    ends (Some Flooded) e right = by_reads (some_reads c.turns) refl
      where
        by_reads : (b : Bool) → some_reads c.turns ≡ b → FloodsSo jobs c.turns r (log_of report)
        by_reads true some = (some, right)
        by_reads false none = absurd (unflooded c.project jobs words c.turns r (log_of report) planned few_jobs few_turns told.leaves laws.load_costs laws.check_costs (laws.unread jobs c.turns (start r) r.events (log_of report) each_served devices power by calm short none) right)
    ends (Some LinkFailed) e right = last e
    ends (Some (GatewayRefused three)) e right = never_refused three (told.tries three e) right
    ends (Some (WrongLine device tunnel)) e right = none_wrong jobs record_now device tunnel on_its_line right

    pub nothing_fails : NothingFails jobs c.turns r (log_of report) report.fault
    nothing_fails = record {
      prompt = idle;
      refuses = laws.refuses jobs c.turns (start r) r.events (log_of report) each_served devices power by calm short;
      ends = ends report.fault refl told.fault;
    }
