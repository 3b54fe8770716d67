-- The group telegrams of a run, told one after another: how many are told, and how far the next one is.
use Rattle.std.specs.Prelude.{◌≡◌, ℕ, Bool, true, false, List, length, ◌+◌, nat_lt, Option, Some, None, if◌then◌else◌}
use Rattle.knx_model.specs.ApduReading.{apdu_octets}
use Rattle.knx_model.specs.declared.frames.cemi.Ldata.{Ldata}
use Rattle.line_model.specs.declared.group.GroupTurn.{GroupTurn}
use Rattle.line_model.specs.Reading.{ldata_in, is_req}
use Rattle.line_model.specs.Log.{turn_of}
use Rattle.line_model.specs.Told.{service_of}
use Rattle.hub_work.specs.declared.telegrams.Stage.{Stage}
use Rattle.hub_work.specs.declared.telegrams.Stage.TheVariants.{Unput, UnderWay, Confirmed, Lost}

pub record Telling : Type 0 where
  pub turns : List GroupTurn
  pub told : ℕ
  pub stage : Stage

-- the confirmation came of what the group thread had put
abbrev pub after_confirmation : Stage → Stage
after_confirmation Unput = Unput
after_confirmation UnderWay = Confirmed
after_confirmation Confirmed = Confirmed
after_confirmation Lost = Lost

-- the channel was lost
abbrev pub after_loss : Stage → Stage
after_loss Unput = Unput
after_loss UnderWay = Lost
after_loss Confirmed = Confirmed
after_loss Lost = Lost

-- the next one, from 1
abbrev pub next_of : Telling → Option ℕ
next_of t = if nat_lt t.told (length t.turns) then Some (t.told + 1) else None

-- ---- its request

-- the octets of the request of a group telegram
pub record IsRequestOf (turn : GroupTurn) (cemi : List ℕ) : Type 0 where
  pub frame : Ldata
  pub reads : ldata_in cemi ≡ Some frame
  pub request : is_req frame.code ≡ true
  pub group : frame.group ≡ true
  pub to : frame.destination ≡ turn.group.raw
  pub service : frame.tpdu ≡ apdu_octets (service_of turn.service)

pub record IsNextRequest (t : Telling) (cemi : List ℕ) : Type 0 where
  pub turn : GroupTurn
  pub there : turn_of t.turns (t.told + 1) ≡ Some turn
  pub its : IsRequestOf turn cemi

-- one for after the jobs stands after them
abbrev pub IsInTime : Bool → Telling → Type 0
IsInTime jobs_unfinished t = (turn : GroupTurn) → turn_of t.turns (t.told + 1) ≡ Some turn → turn.after ≡ true → jobs_unfinished ≡ false

-- there is none, or it stands after the jobs, and one is unfinished
abbrev pub IsHeldForJobs : Bool → Telling → Type 0
IsHeldForJobs jobs_unfinished t = (turn : GroupTurn) → turn_of t.turns (t.told + 1) ≡ Some turn → (turn.after ≡ true) × (jobs_unfinished ≡ true)
