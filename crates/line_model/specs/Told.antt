-- What is told truly, of record and log alone: a job is told done only after the whole of its plan was acknowledged and answered as expected
-- in one session; refused only where an answer differs from the expected one; failed only by three signs; and a group telegram sent only
-- after its confirmation. An answer or a T_ACK counts only after the confirmation without error of its T_Connect, an answer only with the
-- number that is expected.
use Rattle.std.specs.Prelude.{◌≡◌, ◌≢◌, ℕ, suc, ◌-◌, ◌⊎◌, Bool, true, false, List, [], ◌∷◌, ◌++◌, length, reverse, Option, Some, None}
use Rattle.knx_model.specs.declared.frames.cemi.Ldata.{Ldata}
use Rattle.knx_model.specs.declared.frames.tpdu.Apdu.{Apdu}
use Rattle.knx_model.specs.declared.frames.tpdu.Apdu.TheVariants.{GroupRead, GroupResponse, GroupWrite}
use Rattle.knx_model.specs.declared.script.GroupService.{GroupService}
use Rattle.knx_model.specs.declared.script.GroupService.TheVariants.{Read, Write, Response}
use Rattle.knx_model.specs.ApduReading.{apdu_octets}
use Rattle.knx_model.specs.Plans.{Plan, Over}
use Rattle.line_model.specs.declared.group.GroupTurn.{GroupTurn}
use Rattle.line_model.specs.declared.log.LogEntry.{LogEntry}
use Rattle.line_model.specs.declared.log.LogWhat.{LogWhat}
use Rattle.line_model.specs.declared.log.LogWhat.TheVariants.{Took, Done, Failed, Refused, Sent, Lost}
use Rattle.line_model.specs.Record.{Placed}
use Rattle.line_model.specs.ClientView.{Loses}
use Rattle.line_model.specs.Moments.{Moment, moments, between, put_frame, confirmation_in, stretches, course, session, Next, number, acknowledged, answers, services}
use Rattle.line_model.specs.Log.{Job, JobState, Untaken, Held, Over as Ended, job_of, turn_of, state_of, turn_place}
use Rattle.line_model.specs.Progress.{Reaches, last_of, Differs}
use Rattle.line_model.specs.Signs.{Every, IsntConfirmation, SignsHold}

-- ---- a session of a job: the last T_Connect to its device that was put since the job was taken, and what came after it

abbrev pub last_stretch : List (List Moment) → List Moment
last_stretch [] = []
last_stretch (s ∷ older) = s

-- the moments of the session, the newest first
abbrev pub session_since : ℕ → ℕ → ℕ → List Placed → List Moment
session_since device since upto places = session (course device (last_stretch (stretches device (between since upto (moments places)))))

-- ---- done

-- every operation was acknowledged, and the answers are just those that the plan expects
abbrev pub WentThrough : ℕ → Plan → List Moment → Type 0
WentThrough device plan s = Reaches plan (acknowledged device s) (reverse (answers device s)) Over

-- ---- refused

-- so many operations were sent before the one sent last; their answers were those that the plan expects, and the one sent last is operation `op`, which
-- expects another answer, and this one isn't it
pub record AnsweredWrong (device : ℕ) (plan : Plan) (op : ℕ) (got expected : List ℕ) (before : List (List ℕ)) (s : List Moment) : Type 0 where
  pub earlier : ℕ
  pub last : length (services device s) ≡ suc earlier
  pub left : Plan
  pub so_far : Reaches plan earlier (reverse before) left
  pub differs : Differs left op got expected

-- no answer was awaited: those before are all that the operations sent so far expect; the operation is the one sent last, 0 where none was
pub record Unawaited (device : ℕ) (plan : Plan) (op : ℕ) (expected : List ℕ) (before : List (List ℕ)) (s : List Moment) : Type 0 where
  pub empty : expected ≡ []
  pub left : Plan
  pub so_far : Reaches plan (length (services device s)) (reverse before) left
  pub last : op ≡ last_of 0 plan (length (services device s)) (reverse before)

-- an answer is judged once the operation sent last is acknowledged
pub record IsRefused (device : ℕ) (plan : Plan) (op : ℕ) (got expected : List ℕ) (s : List Moment) : Type 0 where
  pub n : ℕ
  pub judged : number device s ≡ Next n
  pub later : List (List ℕ)
  pub before : List (List ℕ)
  pub taken : answers device s ≡ later ++ got ∷ before
  pub why : AnsweredWrong device plan op got expected before s ⊎ Unawaited device plan op expected before s

-- ---- group telegrams

abbrev pub service_of : GroupService → Apdu
service_of Read = GroupRead
service_of (Write value) = GroupWrite value
service_of (Response value) = GroupResponse value

-- a request of this group telegram was put
pub record PutsTurn (turn : GroupTurn) (m : Moment) : Type 0 where
  pub frame : Ldata
  pub put : put_frame m.what ≡ Some frame
  pub group : frame.group ≡ true
  pub to : frame.destination ≡ turn.group.raw
  pub service : frame.tpdu ≡ apdu_octets (service_of turn.service)

-- no group telegram was put
abbrev pub is_group : Option Ldata → Bool
is_group None = false
is_group (Some frame) = frame.group

abbrev pub PutsNoGroup : Moment → Type 0
PutsNoGroup m = is_group (put_frame m.what) ≡ false

-- it was put once, nothing of it was confirmed and no channel lost in `flown`, and then `end` ended the wait
pub record PutOnce (turn : GroupTurn) (End : Moment → Type 0) (l : List Moment) : Type 0 where
  pub later : List Moment
  pub end : Moment
  pub flown : List Moment
  pub put : Moment
  pub before : List Moment
  pub split : l ≡ later ++ end ∷ (flown ++ put ∷ before)
  pub put_is : PutsTurn turn put
  pub once : Every PutsNoGroup (later ++ end ∷ flown)
  pub first : Every PutsNoGroup before
  pub unlost : Every (λ m. m.what ≢ Loses) flown
  pub unconfirmed : Every IsntConfirmation flown
  pub ends : End end

abbrev pub IsConfirmed : Moment → Type 0
IsConfirmed m = (error : Bool) × (confirmation_in m.what ≡ Some error)

abbrev pub IsLoss : Moment → Type 0
IsLoss m = m.what ≡ Loses

-- ---- each entry is true where it stands, of the entries before it

abbrev pub OfHeld : (ℕ → Type 0) → JobState → Type 0
OfHeld P Untaken = ⊥
OfHeld P (Held worker since) = P since
OfHeld P Ended = ⊥

abbrev pub OfJob : (Job → ℕ → Type 0) → Option Job → JobState → Type 0
OfJob P None s = ⊥
OfJob P (Some job) s = OfHeld (P job) s

abbrev pub OfTurn : (GroupTurn → Type 0) → Option GroupTurn → Type 0
OfTurn P None = ⊥
OfTurn P (Some turn) = P turn

abbrev pub IsTrue : List Job → List GroupTurn → List Placed → List LogEntry → ℕ → LogWhat → Type 0
IsTrue jobs turns places log at (Took job) = Unit {0}
IsTrue jobs turns places log at (Done job) =
    OfJob (λ j since. WentThrough j.device.raw j.plan (session_since j.device.raw since at places)) (job_of jobs job) (state_of job log)
IsTrue jobs turns places log at (Failed job signs) =
    OfJob (λ j since. SignsHold j.device.raw signs (between since at (moments places))) (job_of jobs job) (state_of job log)
IsTrue jobs turns places log at (Refused job op got expected) =
    OfJob (λ j since. IsRefused j.device.raw j.plan op got expected (session_since j.device.raw since at places)) (job_of jobs job) (state_of job log)
IsTrue jobs turns places log at (Sent k) = OfTurn (λ turn. PutOnce turn IsConfirmed (between (turn_place (k - 1) log) at (moments places))) (turn_of turns k)
IsTrue jobs turns places log at (Lost k) = OfTurn (λ turn. PutOnce turn IsLoss (between (turn_place (k - 1) log) at (moments places))) (turn_of turns k)

abbrev pub ToldTruly : List Job → List GroupTurn → List Placed → List LogEntry → Type 0
ToldTruly jobs turns places [] = Unit {0}
ToldTruly jobs turns places (e ∷ log) = IsTrue jobs turns places log e.at e.what × ToldTruly jobs turns places log
