-- What the type of a hub keeps. Its books are right when its link tells of so many events. Where its link tells something, what the log tells is true,
-- each request was asked rightly, and each entry came promptly and without a loss of time, and each poll while there was no cause to end, always; and until it
-- has ended its work fits the record, and there is no cause to end. Until it asks to end the channel the open one wasn't asked to.
use Rattle.std.specs.Prelude.{◌≡◌, ◌≢◌, ℕ, ◌<◌, Bool, false, is_some, List, Option, Some, None}
use Rattle.knx_model.specs.declared.address.IndAddr.{IndAddr}
use Rattle.line_model.specs.declared.fault.HubFault.{HubFault}
use Rattle.line_model.specs.declared.fault.HubFault.TheVariants.{NoMemory, LinkFailed, GatewayRefused, Flooded, WrongLine}
use Rattle.line_model.specs.declared.group.GroupTurn.{GroupTurn}
use Rattle.line_model.specs.declared.log.LogEntry.{LogEntry}
use Rattle.line_model.specs.Record.{Entry, Placed, entries}
use Rattle.line_model.specs.LinkStory.{Story, clock_of}
use Rattle.line_model.specs.Moments.{moments, time}
use Rattle.line_model.specs.Log.{Job, JobUnfinished, TurnUnfinished}
use Rattle.line_model.specs.Leaves.{StaysOpen}
use Rattle.line_model.specs.Faults.{datagrams_taken, flood, first_tunnel, first_elsewhere, IsFlooded, IsWrongLine}
use Rattle.tunnel_link.specs.Adds.{place_of}
use Rattle.tunnel_link.specs.Rights.{WhereTold}
use Rattle.hub_work.specs.declared.work.Work.{Work}
use Rattle.hub_work.specs.Books.{AreJobsOf}
use Rattle.hub_work.specs.Downloaders.{AreJobsWith}
use Rattle.hub_work.specs.Fits.{Fits}
use Rattle.hub_work.specs.Works.{KeepsBooks, tasks}
use Rattle.hub_core.specs.Closes.{has_asked}
use Rattle.hub_core.specs.Discipline.{EachSo, Hastens, TellsAndAsks}

-- ---- all jobs and group telegrams are over

pub record IsAllOver (jobs : List Job) (turns : List GroupTurn) (log : List LogEntry) : Type 0 where
  pub jobs_over : ¬ JobUnfinished jobs log
  pub turns_told : ¬ TurnUnfinished turns log

-- for any jobs of these devices
abbrev pub IsAllDone : List IndAddr → List GroupTurn → List LogEntry → Type 0
IsAllDone devices turns log = (jobs : List Job) → AreJobsOf devices jobs → IsAllOver jobs turns log

-- ---- where something is told

-- until it has ended
pub record Runs (jobs : List Job) (w : Work) (met : Bool) (count : ℕ) (places : List Placed) : Type 0 where
  pub fits : Fits jobs w (time (moments places)) count (moments places)
  pub met_one : met ≡ is_some (first_tunnel (entries places))
  pub no_flood : JobUnfinished jobs w.journal.entries → datagrams_taken (entries places) < flood
  pub right_line : first_elsewhere jobs (first_tunnel (entries places)) ≡ None

-- the cause of an end that isn't the tunnel's
abbrev pub HasOwnCause : List Job → List LogEntry → List Entry → HubFault → Type 0
HasOwnCause jobs log r (NoMemory want) = Unit {0}
HasOwnCause jobs log r LinkFailed = Unit {0}
HasOwnCause jobs log r (GatewayRefused three) = Unit {0}
HasOwnCause jobs log r Flooded = IsFlooded jobs log r
HasOwnCause jobs log r (WrongLine device tunnel) = IsWrongLine jobs r device tunnel

pub record KeepsTold (jobs : List Job) (w : Work) (met : Bool) (fault : Option HubFault) (count : ℕ) (places : List Placed) : Type 0 where
  pub books : KeepsBooks count w
  pub tells : TellsAndAsks jobs w.telegrams.turns w.journal.entries count places
  pub runs : fault ≡ None → Runs jobs w met count places
  pub cause : (why : HubFault) → fault ≡ Some why → HasOwnCause jobs w.journal.entries (entries places) why

-- ---- all of it

pub record Keeps (place : ℕ) (story : Story) (w : Work) (met : Bool) (fault : Option HubFault) : Type 0 where
  pub books : KeepsBooks place w
  pub jobs_are : (jobs : List Job) → AreJobsWith (tasks w) jobs → AreJobsOf w.reservation.devices jobs
  pub closes : w.closing ≢ None → IsAllDone w.reservation.devices w.telegrams.turns w.journal.entries
  pub told : (jobs : List Job) → AreJobsWith (tasks w) jobs → WhereTold (KeepsTold jobs w met fault (place_of story)) story
  pub hastens : (jobs : List Job) → AreJobsWith (tasks w) jobs → WhereTold (EachSo (Hastens (clock_of story) jobs w.telegrams.turns) w.journal.entries) story
  pub stays : fault ≡ None → has_asked w.closing ≡ false → WhereTold (λ places. StaysOpen (entries places)) story
