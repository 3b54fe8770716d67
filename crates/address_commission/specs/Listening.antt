-- What a client keeps of the talk while it gives an address: who answered the last read, whether its newest request is confirmed, and when a
-- datagram came last. And what holds of the record as long as no answer is given: the channel wasn't lost, and few datagrams came.
use Rattle.std.specs.Prelude.{◌≡◌, ◌≢◌, ◌⊎◌, ℕ, ◌+◌, ◌-◌, ◌<◌, ◌≤◌, Bool, true, false, List, [], ◌∷◌, length, Option, Some, None}
use Rattle.knx_model.specs.declared.address.IndAddr.{IndAddr}
use Rattle.knx_model.specs.declared.frames.cemi.Ldata.{Ldata}
use Rattle.line_model.specs.Asks.{HasPlace}
use Rattle.line_model.specs.ClientView.{channel}
use Rattle.line_model.specs.LinkStory.{Clock, newest_time}
use Rattle.tunnel_link.specs.declared.came.What.{What}
use Rattle.tunnel_link.specs.declared.came.What.TheVariants as came
use Rattle.address_world.specs.declared.asked.Asked.{Asked}
use Rattle.address_world.specs.declared.asked.Asked.TheVariants as asked
use Rattle.line_model.specs.Record.{Placed, entries}
use Rattle.line_model.specs.Moments.{moments}
use Rattle.address_talk.specs.Rounds.{Round, rounds, answers, and_answer, answer_in, confirmed_by, quiet_since}
use Rattle.address_talk.specs.Ends.{Stands}
use Rattle.address_talk.specs.Talk.{AllSilent, Searches, SeveralAnswer, AsksFor, MayAsk, HeardOut, HeardOutBy, listening_wait}
use Rattle.address_talk.specs.declared.assigned.Assigned.{Assigned}
use Rattle.address_talk.specs.declared.assigned.Assigned.TheVariants.{Done, NoUnit, Several, Taken, Unconfirmed}
use Rattle.address_commission.specs.declared.ear.Ear.{Ear}
use Rattle.address_commission.specs.declared.ear.Heard.{Heard}
use Rattle.address_commission.specs.declared.ear.Heard.TheVariants as ear

abbrev pub HeardSo : Heard → List IndAddr → Type 0
HeardSo ear.Nobody heard = heard ≡ []
HeardSo (ear.One source) heard = heard ≡ source ∷ []
HeardSo (ear.Several first second) heard = SeveralAnswer first second heard

-- before the first request nothing that is heard counts
abbrev pub HearsRounds : Ear → List Round → Type 0
HearsRounds e [] = Unit {0}
HearsRounds e (r ∷ rs) = HeardSo e.heard (answers (r ∷ rs)) × (e.confirmed ≡ r.confirmed)

pub record Hears (e : Ear) (places : List Placed) : Type 0 where
  pub rounds_so : HearsRounds e (rounds (moments places))
  pub since : e.since ≡ quiet_since (entries places)

pub record Listens (wanted : IndAddr) (e : Ear) (clock : Clock) (places : List Placed) : Type 0 where
  pub stands : Stands wanted clock places
  pub hears : Hears e places

-- ---- what a poll brought

-- a frame was taken at this time
pub record TakesFrame (frame : Ldata) (now : ℕ) (old new : Ear) : Type 0 where
  pub heard : (answers : List IndAddr) → HeardSo old.heard answers → HeardSo new.heard (and_answer answers (answer_in frame))
  pub confirmed : new.confirmed ≡ confirmed_by old.confirmed frame
  pub since : new.since ≡ now

abbrev pub HearsWhat : What → ℕ → Ear → Ear → Type 0
HearsWhat came.Quiet now old new = new ≡ old
HearsWhat came.Dropped now old new = new ≡ record old { since = now }
HearsWhat came.Tunnel now old new = new ≡ record old { since = now }
HearsWhat (came.Up tunnel) now old new = new ≡ record old { since = now }
HearsWhat (came.Frame frame) now old new = TakesFrame frame now old new

-- ---- the newest request is confirmed, and so much quiet passed

abbrev pub quiet_after : Asked → ℕ
quiet_after asked.Read = listening_wait
quiet_after asked.Connect = 0
quiet_after asked.Disconnect = 0
quiet_after asked.Write = 0

pub record HasWaited (quiet : ℕ) (e : Ear) (places : List Placed) : Type 0 where
  pub place : HasPlace (channel (entries places))
  pub confirmed : e.confirmed ≢ None
  pub enough : quiet ≤ newest_time (entries places) - e.since

-- ---- a wait: for so much quiet, which isn't none only where the newest request is a read

abbrev pub ListensFor : ℕ → List Round → Type 0
ListensFor quiet [] = ⊥
ListensFor quiet (r ∷ rs) = (quiet ≡ 0) ⊎ ((quiet ≡ listening_wait) × ((wanted : IndAddr) → AsksFor wanted asked.Read r))

-- for so many milliseconds something is still awaited
abbrev pub AwaitsFor : IndAddr → ℕ → List Placed → Type 0
AwaitsFor wanted longest places =
    (now : ℕ) → now < newest_time (entries places) + longest → HasPlace (channel (entries places)) → ¬ HeardOutBy wanted (rounds (moments places)) (quiet_since (entries places)) now

-- ---- a request's turn has come

pub record IsTurnTo (wanted : IndAddr) (asked : Asked) (places : List Placed) : Type 0 where
  pub may : MayAsk wanted (rounds (moments places)) asked
  pub heard_out : HeardOut wanted (rounds (moments places)) (entries places)
  pub place : HasPlace (channel (entries places))

-- the newest round is heard out, and the next request can be put
pub record IsOut (wanted : IndAddr) (e : Ear) (clock : Clock) (places : List Placed) : Type 0 where
  pub heard_out : HeardOut wanted (rounds (moments places)) (entries places)
  pub place : HasPlace (channel (entries places))
  pub confirmed : e.confirmed ≢ None
  pub listens : Listens wanted e clock places

-- nothing was put yet, and a request can be put
pub record Begins (places : List Placed) : Type 0 where
  pub nothing : rounds (moments places) ≡ []
  pub place : HasPlace (channel (entries places))

-- ---- the search

abbrev pub SearchedSo : IndAddr → Heard → List Round → Type 0
SearchedSo wanted ear.Nobody rs = AllSilent wanted rs × (length rs ≡ 3)
SearchedSo wanted heard [] = ⊥
SearchedSo wanted heard (r ∷ before) = Searches wanted r before

-- ---- what comes of it, by who was heard

abbrev pub FoundSo : IndAddr → Heard → Option Assigned → Type 0
FoundSo wanted ear.Nobody found = found ≡ Some NoUnit
FoundSo wanted (ear.One source) None = source ≢ wanted
FoundSo wanted (ear.One source) (Some assigned) = (source ≡ wanted) × (assigned ≡ Done)
FoundSo wanted (ear.Several first second) found = found ≡ Some (Several first second)

abbrev pub TriedBy : Heard → Option Bool → Option Assigned → Type 0
TriedBy (ear.Several first second) confirmed tried = tried ≡ Some (Several first second)
TriedBy heard (Some false) tried = tried ≡ Some Taken
TriedBy heard (Some true) tried = tried ≡ None
TriedBy heard None tried = tried ≡ None

abbrev pub SureSo : IndAddr → Heard → Assigned → Type 0
SureSo wanted (ear.One source) Done = source ≡ wanted
SureSo wanted (ear.One source) Unconfirmed = source ≢ wanted
SureSo wanted ear.Nobody Unconfirmed = Unit {0}
SureSo wanted (ear.Several first second) Unconfirmed = Unit {0}
SureSo wanted heard assigned = ⊥
