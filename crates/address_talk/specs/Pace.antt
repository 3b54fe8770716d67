-- At which pace an address is given over a link whose clock is exact (this project's own), by its record. The channel is kept as it should be. Time
-- passes only where something is awaited: a channel, an acknowledgement, a confirmation, or the end of a listening.
use Rattle.std.specs.Prelude.{◌≡◌, ◌+◌, ◌<◌, ◌≤◌, true, false, List, [], ◌∷◌, ◌++◌}
use Rattle.knx_model.specs.declared.address.IndAddr.{IndAddr}
use Rattle.line_model.specs.Asks.{HasPlace}
use Rattle.line_model.specs.ClientView.{channel}
use Rattle.line_model.specs.Haste.{KeepsPaces}
use Rattle.line_model.specs.LinkStory.{newest_time}
use Rattle.line_model.specs.Moments.{moments}
use Rattle.line_model.specs.Record.{Placed, entries, is_poll}
use Rattle.line_model.specs.Waiting.{longest_poll}
use Rattle.address_talk.specs.Rounds.{rounds, has_lost}
use Rattle.address_talk.specs.Talk.{HeardOut}

-- the channel wasn't lost, and nothing can be put in it yet, or the newest request isn't heard out
pub record Awaits (wanted : IndAddr) (places : List Placed) : Type 0 where
  pub kept : has_lost (moments places) ≡ false
  pub unheard : HasPlace (channel (entries places)) → ¬ HeardOut wanted (rounds (moments places)) (entries places)

-- a poll in which time passes
abbrev pub WaitsSo : IndAddr → List Placed → Placed → Type 0
WaitsSo wanted older p = is_poll p.what.what ≡ true → newest_time (entries older) < p.what.now → Awaits wanted older

abbrev pub WaitsRightly : IndAddr → List Placed → Type 0
WaitsRightly wanted [] = Unit {0}
WaitsRightly wanted (p ∷ older) = WaitsSo wanted older p × WaitsRightly wanted older

pub record Paced (wanted : IndAddr) (places : List Placed) : Type 0 where
  pub keeps : KeepsPaces (entries places)
  pub waits : WaitsRightly wanted places

-- the same of a talk that fails, but for its last poll
pub record WaitsUntil (wanted : IndAddr) (places : List Placed) : Type 0 where
  pub older : List Placed
  pub last : List Placed
  pub parts : places ≡ last ++ older
  pub waits : WaitsRightly wanted older
  pub short : newest_time (entries places) ≤ newest_time (entries older) + longest_poll

pub record PacedUntil (wanted : IndAddr) (places : List Placed) : Type 0 where
  pub keeps : KeepsPaces (entries places)
  pub waits : WaitsUntil wanted places
