-- How a link's story goes on, and what a client's end of a tunnel keeps of it: the start stays, the entries or the events that there were are a
-- tail, what is added is legal, and time moves in polls alone.
use Rattle.std.specs.Prelude.{◌≡◌, ℕ, ◌≤◌, Bool, true, false, List, [], ◌∷◌, ◌++◌, Some, None, Result, Err}
use Rattle.line_model.specs.Tunnel.{Commissions}
use Rattle.line_model.specs.World.{World, Event}
use Rattle.line_model.specs.Legal.{IsLegal}
use Rattle.line_model.specs.Fresh.{IsFresh}
use Rattle.line_model.specs.Record.{Entry, is_poll}
use Rattle.line_model.specs.LinkStory.{Story, Untold, Recorded, Full, newest_time}
use Rattle.line_model.specs.ClientEnd.{Idle}
use Rattle.line_model.specs.declared.fault.HubFault.{HubFault}
use Rattle.tunnel_link.specs.declared.known.Known.{Known}
use Rattle.tunnel_link.specs.declared.tries.Tries.TheVariants.{Zero}
use Rattle.tunnel_link.specs.Kept.{none_in_flight}
use Rattle.tunnel_link.specs.Rights.{KeepsRecord}

-- ---- a story goes on from the one before

abbrev pub GoesOn : Story → Story → Type 0
GoesOn Untold after = after ≡ Untold
GoesOn (Recorded clock r) after = (more : List Entry) × (after ≡ Recorded clock (more ++ r))
GoesOn (Full start events) after = (more : List Event) × (after ≡ Full start (more ++ events))

-- ---- what is kept of it

-- the events are legal, from a fresh start
pub record IsLegalRun (start : World) (events : List Event) : Type 0 where
  pub fresh : IsFresh start
  pub legal : IsLegal Commissions start events

-- time moves in polls alone, and never back
abbrev pub MovesSo : Bool → ℕ → ℕ → Type 0
MovesSo true before after = before ≤ after
MovesSo false before after = after ≡ before

abbrev pub TimesMove : List Entry → Type 0
TimesMove [] = Unit {0}
TimesMove (x ∷ r) = MovesSo (is_poll x.what) (newest_time r) x.now × TimesMove r

abbrev pub Keeps : Story → Type 0
Keeps Untold = Unit {0}
Keeps (Recorded clock r) = TimesMove r
Keeps (Full start events) = IsLegalRun start events

-- it goes on so, and legally
pub record Goes (before after : Story) : Type 0 where
  pub on : GoesOn before after
  pub keeps : Keeps before → Keeps after

-- ---- what the client knows at first

abbrev pub new_known : Known
new_known = record { channel = Idle; flight = none_in_flight; tunnel = None; put = None; tries = Zero; dropped = 0; taken = 0; fault = None }

-- ---- all that is kept

pub record KeepsAll (k : Known) (story : Story) : Type 0 where
  pub legal : Keeps story
  pub kept : KeepsRecord k story

-- ---- what contracts see of a client's end of a tunnel over a link

pub record Seen (L : Type 0) : Type 0 where
  pub link : L
  pub known : Known

-- ---- a call of a client's end that had ended before: it answers why, and nothing is done

pub record StaysEnded {L X : Type 0} (old : Seen L) (result : Result X HubFault) (new : Seen L) (fault : HubFault) : Type 0 where
  pub answer : result ≡ Err fault
  pub same : new ≡ old

abbrev pub AfterFault : {L X : Type 0} → Seen L → Result X HubFault → Seen L → Type 0
AfterFault old result new = (fault : HubFault) → old.known.fault ≡ Some fault → StaysEnded old result new fault
