-- A run without disturbance: the script has none of its lines but those of group telegrams and of standard devices, each job's device is on the bus,
-- with power, and serves the job's plan whatever it keeps. Then time passes only where nothing is under way: no job is between its first T_Connect and its end, no group telegram
-- between its request and its confirmation, and no connect request, tunnelling request or heartbeat of the client lacks its answer. So no wait
-- is ever reached, no job fails and no group telegram is lost.
use Rattle.std.specs.Prelude.{◌≡◌, ℕ, suc, ◌-◌, Bool, true, false, List, [], ◌∷◌, length, drop, Some}
use Rattle.std.specs.List.{list_all, AllByRecursion}
use Rattle.knx_model.specs.declared.script.ScriptWhat.{ScriptWhat}
use Rattle.knx_model.specs.declared.script.ScriptWhat.TheVariants.{Standard, Group}
use Rattle.knx_model.specs.declared.device.FrameSupport.{FrameSupport}
use Rattle.knx_model.specs.Device.{NonVolatile, HasCapacities, answer_in}
use Rattle.knx_model.specs.DeviceState.{DeviceState}
use Rattle.knx_model.specs.GoodPlan.{IsSendable, AnswersAll}
use Rattle.knx_model.specs.Served.{IsServed}
use Rattle.line_model.specs.declared.log.LogEntry.{LogEntry}
use Rattle.line_model.specs.declared.log.LogWhat.{LogWhat}
use Rattle.line_model.specs.declared.log.LogWhat.TheVariants.{Failed, Refused, Lost as LostTurn}
use Rattle.line_model.specs.Follows.{Follows}
use Rattle.line_model.specs.Fresh.{IsFresh}
use Rattle.line_model.specs.Lines.{Script}
use Rattle.line_model.specs.Tunnel.{Commissions}
use Rattle.line_model.specs.World.{World, Event, Pass, replay}
use Rattle.line_model.specs.Legal.{OfDevice}
use Rattle.line_model.specs.Record.{Entry, Placed, entries, placed}
use Rattle.line_model.specs.ChannelLost.{own, confirmed, beats}
use Rattle.line_model.specs.ClientView.{ClientChannel, Fresh, Sought, RefusedBy, Unanswered, Open, Lost, channel}
use Rattle.line_model.specs.Moments.{moments, between, stretches}
use Rattle.line_model.specs.Log.{Job, Held, job_of, state_of, log_before}

-- ---- the script and the devices

abbrev pub is_undisturbing : ScriptWhat → Bool
is_undisturbing (Standard device) = true
is_undisturbing (Group after group service) = true
is_undisturbing _ = false

abbrev pub IsUndisturbed : Script → Type 0
IsUndisturbed script = list_all is_undisturbing script ≡ true

-- each job's device is on the bus, with power
abbrev pub HasDevices : List Job → World → Type 0
HasDevices jobs start = AllByRecursion (λ (job : Job). OfDevice (λ d. d.power ≡ true) (start.devices job.device.raw)) jobs

-- a device serves the job's plan, whatever it keeps and whichever frames it takes
pub record IsServedJob (job : Job) : Type 0 where
  pub sendable : IsSendable job.plan
  pub served : (frames : FrameSupport) (nv : NonVolatile) → HasCapacities nv → IsServed frames job.plan nv

-- ---- nothing is under way, and no wait has ended a channel or the search for one

-- every request is acknowledged and confirmed, one of a group telegram too, and every heartbeat is answered
pub record LacksNoAnswer (c : ℕ) (l : List Entry) : Type 0 where
  pub acknowledged : (own c l).sent ≡ []
  pub has_confirmation : confirmed c l ≡ true
  pub alive : beats c l ≡ []

abbrev pub AwaitsNothing : ClientChannel → Type 0
AwaitsNothing Fresh = Unit {0}
AwaitsNothing (Sought since) = ⊥
AwaitsNothing (RefusedBy status) = Unit {0}
AwaitsNothing Unanswered = ⊥
AwaitsNothing (Open c l) = LacksNoAnswer c l
AwaitsNothing (Lost c) = Unit {0}

-- a job that is held hasn't put its first T_Connect
abbrev pub HasntBegun : List Job → List LogEntry → List Placed → Type 0
HasntBegun jobs log places =
    (k worker since upto : ℕ) (job : Job) → job_of jobs k ≡ Some job → state_of k log ≡ Held worker since → stretches job.device.raw (between since upto (moments places)) ≡ []

pub record IsIdle (jobs : List Job) (log : List LogEntry) (places : List Placed) : Type 0 where
  pub channel_is : AwaitsNothing (channel (entries places))
  pub jobs_are : HasntBegun jobs log places

-- ---- time passes only then

abbrev pub IsIdleAt : List Job → List LogEntry → List Placed → Event → Type 0
IsIdleAt jobs log places (Pass (suc ms)) = IsIdle jobs log places
IsIdleAt jobs log places _ = Unit {0}

abbrev pub PassesIdly : List Job → World → List LogEntry → List Event → Type 0
PassesIdly jobs start log [] = Unit {0}
PassesIdly jobs start log (e ∷ past) = IsIdleAt jobs (log_before (length (e ∷ past)) log) (placed start past) e × PassesIdly jobs start log past

-- no job failed, and no group telegram was lost
abbrev pub FailsNot : LogWhat → Type 0
FailsNot (Failed job signs) = ⊥
FailsNot (LostTurn k) = ⊥
FailsNot _ = Unit {0}

abbrev pub NothingFailed : List LogEntry → Type 0
NothingFailed log = AllByRecursion (λ (e : LogEntry). FailsNot e.what) log

-- ---- the promise of a run that nothing disturbs

-- it began on a fresh line with its devices, and what happened follows a script that disturbs nothing
pub record IsUndisturbedRun (script : Script) (jobs : List Job) (start : World) (events : List Event) : Type 0 where
  pub says : IsUndisturbed script
  pub fresh : IsFresh start
  pub devices : HasDevices jobs start
  pub served : AllByRecursion IsServedJob jobs
  pub follows : Follows script Commissions start events

pub record IsPrompt (jobs : List Job) (start : World) (log : List LogEntry) (events : List Event) : Type 0 where
  pub idle : PassesIdly jobs start log events
  pub nothing_failed : NothingFailed log

-- whichever script of this kind it follows
abbrev pub PromptWhereUndisturbed : List Job → World → List LogEntry → List Event → Type 0
PromptWhereUndisturbed jobs start log events = (script : Script) → IsUndisturbedRun script jobs start events → IsPrompt jobs start log events

-- ---- a job whose device gives every wanted answer isn't refused

-- the world after so many of the events
abbrev pub world_at : World → List Event → ℕ → World
world_at start events n = replay start (drop (length events - n) events)

-- refused is told only where the device, with what it kept when the job was taken, doesn't answer the whole plan as wanted
abbrev pub RefusesSo : List Job → World → List Event → List LogEntry → LogWhat → Type 0
RefusesSo jobs start events log (Refused k op got expected) =
    (job : Job) (worker since : ℕ) (d : DeviceState) → job_of jobs k ≡ Some job → state_of k log ≡ Held worker since → (world_at start events since).devices job.device.raw ≡ Some d → ¬ AnswersAll (answer_in d.frames) job.plan d.kept
RefusesSo jobs start events log _ = Unit {0}

abbrev pub RefusesRightly : List Job → World → List Event → List LogEntry → Type 0
RefusesRightly jobs start events [] = Unit {0}
RefusesRightly jobs start events (e ∷ log) = RefusesSo jobs start events log e.what × RefusesRightly jobs start events log
