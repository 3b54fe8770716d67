-- How an address is given (this project's own, over the services of ISO/IEC 14543-3-1): addresses are read, until somebody answers, three times at
-- most. Where one unit alone answered and hasn't the wanted address, a T_Connect to that tells whether another has it, and a T_Disconnect follows, so that
-- no connection is left open. Where none has it, it is written, confirmed or not, and addresses are read once more. A listening ends once the read is
-- confirmed and 3,000 ms in turn were quiet.
use Rattle.std.specs.Prelude.{◌≡◌, ◌≢◌, ℕ, ◌+◌, ◌<◌, ◌≤◌, true, false, List, [], ◌∷◌, length, Some, None}
use Rattle.std.specs.List.{AllByRecursion}
use Rattle.knx_model.specs.declared.address.IndAddr.{IndAddr}
use Rattle.line_model.specs.Asks.{HasPlace}
use Rattle.line_model.specs.Reading.{ldata_in}
use Rattle.line_model.specs.Record.{Entry, Placed, entries}
use Rattle.line_model.specs.LinkStory.{newest_time}
use Rattle.line_model.specs.ClientView.{Deed, Puts, channel, deed}
use Rattle.line_model.specs.Moments.{moments}
use Rattle.address_world.specs.declared.asked.Asked.{Asked}
use Rattle.address_world.specs.declared.asked.Asked.TheVariants.{Read, Connect, Disconnect, Write}
use Rattle.address_world.specs.Keeps.{frame_of}
use Rattle.address_talk.specs.Rounds.{Round, rounds, answers, quiet_since, has_lost}
use Rattle.address_talk.specs.declared.assigned.Assigned.{Assigned}
use Rattle.address_talk.specs.declared.assigned.Assigned.TheVariants.{Done, NoUnit, Several, Taken, Unconfirmed}

-- ---- the parts

-- in this round this was asked for
abbrev pub AsksFor : IndAddr → Asked → Round → Type 0
AsksFor wanted asked r = r.frame ≡ Some (frame_of wanted asked)

-- a read that nobody answered
pub record IsSilent (wanted : IndAddr) (r : Round) : Type 0 where
  pub reads : AsksFor wanted Read r
  pub silent : r.answers ≡ []

abbrev pub AllSilent : IndAddr → List Round → Type 0
AllSilent wanted rs = AllByRecursion (IsSilent wanted) rs

-- a read, before which at most two weren't answered
pub record Searches (wanted : IndAddr) (r : Round) (before : List Round) : Type 0 where
  pub reads : AsksFor wanted Read r
  pub silent : AllSilent wanted before
  pub few : length before < 3

-- only one unit answered, and not from the wanted address
pub record OneOther (wanted : IndAddr) (heard : List IndAddr) : Type 0 where
  pub source : IndAddr
  pub one : heard ≡ source ∷ []
  pub other : source ≢ wanted

pub record SeveralAnswer (first second : IndAddr) (heard : List IndAddr) : Type 0 where
  pub more : List IndAddr
  pub several : heard ≡ first ∷ second ∷ more

-- ---- what may be asked for next, by the rounds so far

pub data MayAsk (wanted : IndAddr) : List Round → Asked → Type 0 where
  ReadsFirst : {rs : List Round} → AllSilent wanted rs → length rs < 3 → MayAsk wanted rs Read
  Connects : {r : Round} {before : List Round} → Searches wanted r before → OneOther wanted (answers (r ∷ before)) → MayAsk wanted (r ∷ before) Connect
  Disconnects : {c : Round} {rs : List Round} → AsksFor wanted Connect c → MayAsk wanted (c ∷ rs) Disconnect
  Writes : {d c r : Round} {before : List Round} → Searches wanted r before → AsksFor wanted Connect c → AsksFor wanted Disconnect d → c.confirmed ≡ Some true → OneOther wanted (answers (d ∷ c ∷ r ∷ before)) → MayAsk wanted (d ∷ c ∷ r ∷ before) Write
  ReadsLast : {w : Round} {rs : List Round} → AsksFor wanted Write w → MayAsk wanted (w ∷ rs) Read

abbrev pub listening_wait : ℕ
listening_wait = 3000

-- the newest request is confirmed and, where it is a read, 3,000 ms were quiet since the last datagram
pub record IsHeardOut (wanted : IndAddr) (r : Round) (since now : ℕ) : Type 0 where
  pub confirmed : r.confirmed ≢ None
  pub quiet : AsksFor wanted Read r → since + listening_wait ≤ now

abbrev pub HeardOutBy : IndAddr → List Round → ℕ → ℕ → Type 0
HeardOutBy wanted [] since now = Unit {0}
HeardOutBy wanted (r ∷ rs) since now = IsHeardOut wanted r since now

-- by the newest time
abbrev pub HeardOut : IndAddr → List Round → List Entry → Type 0
HeardOut wanted rs record_so_far = HeardOutBy wanted rs (quiet_since record_so_far) (newest_time record_so_far)

-- it is put while the channel wasn't lost, and where the place in flight is free
pub record AsksRightly (wanted : IndAddr) (older : List Placed) (cemi : List ℕ) : Type 0 where
  pub asked : Asked
  pub reads : ldata_in cemi ≡ Some (frame_of wanted asked)
  pub may : MayAsk wanted (rounds (moments older)) asked
  pub heard_out : HeardOut wanted (rounds (moments older)) (entries older)
  pub place : HasPlace (channel (entries older))
  pub kept : has_lost (moments older) ≡ false

abbrev pub DoesRightly : IndAddr → List Placed → Deed → Type 0
DoesRightly wanted older (Puts cemi) = AsksRightly wanted older cemi
DoesRightly wanted older _ = Unit {0}

-- each request that is put is what may be asked for next
abbrev pub TalksRightly : IndAddr → List Placed → Type 0
TalksRightly wanted [] = Unit {0}
TalksRightly wanted (p ∷ older) = DoesRightly wanted older (deed (channel (entries older)) p.what) × TalksRightly wanted older

-- ---- what comes of it

pub data Gives (wanted : IndAddr) : List Round → Assigned → Type 0 where
  NobodyAnswers : {rs : List Round} → AllSilent wanted rs → length rs ≡ 3 → Gives wanted rs NoUnit
  HasItAlready : {r : Round} {before : List Round} → Searches wanted r before → answers (r ∷ before) ≡ wanted ∷ [] → Gives wanted (r ∷ before) Done
  ManyAnswer : {r : Round} {before : List Round} (first second : IndAddr) → Searches wanted r before → SeveralAnswer first second (answers (r ∷ before)) → Gives wanted (r ∷ before) (Several first second)
  ManyAnswerLate : {d c r : Round} {before : List Round} (first second : IndAddr) → Searches wanted r before → AsksFor wanted Connect c → AsksFor wanted Disconnect d → SeveralAnswer first second (answers (d ∷ c ∷ r ∷ before)) → Gives wanted (d ∷ c ∷ r ∷ before) (Several first second)
  AnotherHasIt : {d c r : Round} {before : List Round} → Searches wanted r before → AsksFor wanted Connect c → AsksFor wanted Disconnect d → c.confirmed ≡ Some false → OneOther wanted (answers (d ∷ c ∷ r ∷ before)) → Gives wanted (d ∷ c ∷ r ∷ before) Taken
  HasItNow : {v w : Round} {rs : List Round} → AsksFor wanted Read v → AsksFor wanted Write w → answers (v ∷ w ∷ rs) ≡ wanted ∷ [] → Gives wanted (v ∷ w ∷ rs) Done
  IsntSure : {v w : Round} {rs : List Round} → AsksFor wanted Read v → AsksFor wanted Write w → answers (v ∷ w ∷ rs) ≢ wanted ∷ [] → Gives wanted (v ∷ w ∷ rs) Unconfirmed
