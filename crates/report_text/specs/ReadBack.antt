-- What the text of a run tells (this project's own): two runs whose text is the same ended for the same reason; where the whole report is printed, they
-- have the same jobs and group telegrams with the same ends, and the same devices; and where the log is asked for, their logs are the same but for how
-- long a silence was.
use Rattle.std.specs.Prelude.{◌≡◌, ℕ, ◌^◌, ◌<◌, ◌≤◌, Bool, true, false, List, map, reverse, length, Option, Some, option_map, find}
use Rattle.std.specs.List.{AllByRecursion}
use Rattle.call_words.specs.declared.job_word.JobWord.{JobWord}
use Rattle.knx_model.specs.declared.log.Sign.{Sign}
use Rattle.knx_model.specs.declared.log.Sign.TheVariants.{Silent}
use Rattle.line_model.specs.declared.fault.HubFault.{HubFault}
use Rattle.line_model.specs.declared.fault.HubFault.TheVariants.{WrongLine}
use Rattle.line_model.specs.declared.group.GroupTurn.{GroupTurn}
use Rattle.line_model.specs.declared.group.Indication.{Indication}
use Rattle.line_model.specs.declared.log.LogEntry.{LogEntry}
use Rattle.line_model.specs.declared.log.LogWhat.{LogWhat}
use Rattle.line_model.specs.declared.log.LogWhat.TheVariants.{Took, Done, Failed, Refused, Sent, Lost}
use Rattle.line_model.specs.declared.log.Report.{Report}
use Rattle.line_model.specs.Log.{Job, IsLog, ends_it, is_turn}
use Rattle.call_words.specs.Printed.{DeviceShown, is_told_alone, line_report_text}

-- ---- logs that are the same but for how long a silence was

abbrev pub untimed : Sign → Sign
untimed (Silent ms) = Silent 0
untimed sign = sign

abbrev pub untimed_what : LogWhat → LogWhat
untimed_what (Failed job signs) = Failed job (map untimed signs)
untimed_what what = what

abbrev pub untimed_entry : LogEntry → LogEntry
untimed_entry e = record { at = e.at; worker = e.worker; what = untimed_what e.what }

abbrev pub AreAlike : List LogEntry → List LogEntry → Type 0
AreAlike one other = map untimed_entry one ≡ map untimed_entry other

-- how a log tells that a job ended, and that a telegram was sent or lost, by the first entry that does
abbrev pub end_in : ℕ → List LogEntry → Option LogWhat
end_in job log = option_map (λ (e : LogEntry). untimed_what e.what) (find (λ (e : LogEntry). ends_it job e.what) log)

abbrev pub turn_in : ℕ → List LogEntry → Option LogWhat
turn_in turn log = option_map (λ (e : LogEntry). e.what) (find (λ (e : LogEntry). is_turn turn e.what) log)

-- ---- what is printed

-- a report, its jobs, how many group telegrams there are, and the devices that are shown
pub record Told : Type 0 where
  pub report : Report
  pub jobs : List JobWord
  pub turns : ℕ
  pub devices : List DeviceShown

abbrev pub text_of : Told → Bool → List ℕ
text_of told with_log = line_report_text told.report told.jobs told.turns told.devices with_log

-- a number of at most eight octets, as all that are printed
abbrev pub Fits : ℕ → Type 0
Fits n = n < 2 ^ 64

abbrev pub FitsWhat : LogWhat → Type 0
FitsWhat (Took job) = Fits job
FitsWhat (Done job) = Fits job
FitsWhat (Failed job signs) = Fits job
FitsWhat (Refused job op got expected) = Fits job × Fits op
FitsWhat (Sent turn) = Fits turn
FitsWhat (Lost turn) = Fits turn

pub record FitsEntry (e : LogEntry) : Type 0 where
  pub at : Fits e.at
  pub worker : Fits e.worker
  pub what : FitsWhat e.what

abbrev pub FitsHeard : Indication → Type 0
FitsHeard heard = Fits heard.group.raw × Fits heard.from.raw

pub record FitsDevice (d : DeviceShown) : Type 0 where
  pub device : Fits d.device.raw
  pub objects : AllByRecursion (λ value. Fits value.0) d.values

abbrev pub FitsFault : Option HubFault → Type 0
FitsFault (Some (WrongLine device tunnel)) = Fits device.raw × Fits tunnel.raw
FitsFault _ = Unit {0}

pub record NumbersFit (told : Told) : Type 0 where
  pub log : AllByRecursion FitsEntry told.report.log
  pub heard : AllByRecursion FitsHeard told.report.heard
  pub jobs : AllByRecursion (λ (job : JobWord). Fits job.device.raw) told.jobs
  pub devices : AllByRecursion FitsDevice told.devices
  pub missed : Fits told.report.missed
  pub dropped : Fits told.report.dropped
  pub fault : FitsFault told.report.fault

-- the log is one of jobs that have a line each, the oldest entry first
pub record IsOfItsJobs (told : Told) : Type 0 where
  pub jobs : List Job
  pub telegrams : List GroupTurn
  pub count : ℕ
  pub log : List LogEntry
  pub is : told.report.log ≡ reverse log
  pub form : IsLog jobs telegrams count log
  pub lines : length jobs ≤ length told.jobs

-- ---- the laws

-- the reason for which a run ended without its end is read from its text, whether the rest is there or not
abbrev pub FaultIsTold : Type 0
FaultIsTold = (one other : Told) (with_log with_its_log : Bool) → NumbersFit one → NumbersFit other → text_of one with_log ≡ text_of other with_its_log → one.report.fault ≡ other.report.fault

-- what the text tells without the log, and whether the log was asked for
pub record TellAlike (one other : Told) (with_log with_its_log : Bool) : Type 0 where
  pub jobs : one.jobs ≡ other.jobs
  pub ends : (job : ℕ) → 1 ≤ job → job ≤ length one.jobs → end_in job one.report.log ≡ end_in job other.report.log
  pub turns : one.turns ≡ other.turns
  pub sent : (turn : ℕ) → 1 ≤ turn → turn ≤ one.turns → turn_in turn one.report.log ≡ turn_in turn other.report.log
  pub heard : one.report.heard ≡ other.report.heard
  pub missed : one.report.missed ≡ other.report.missed
  pub devices : one.devices ≡ other.devices
  pub log : with_log ≡ with_its_log

abbrev pub WholeIsTold : Type 0
WholeIsTold =
    (one other : Told) (with_log with_its_log : Bool) → NumbersFit one → NumbersFit other → is_told_alone one.report.fault ≡ false
    → text_of one with_log ≡ text_of other with_its_log → TellAlike one other with_log with_its_log

abbrev pub LogIsTold : Type 0
LogIsTold =
    (one other : Told) → NumbersFit one → NumbersFit other → IsOfItsJobs one → IsOfItsJobs other → is_told_alone one.report.fault ≡ false
    → text_of one true ≡ text_of other true → AreAlike one.report.log other.report.log × (one.report.dropped ≡ other.report.dropped)
