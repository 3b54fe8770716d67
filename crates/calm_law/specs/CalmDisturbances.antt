-- The lines of a script that can end an attempt of a job of a device, and how many of their places a run has reached (this project's own). Such a line says that a
-- frame to the device or one of its own is lost, that a write of it is cut, that its connection closes, that the channel is dropped, or that a datagram is lost: that
-- is repeated if it is alone, and with others it ends the channel. A line speaks of one place, so no line ends two attempts. `off` and `worn` aren't among
-- them: without power no attempt comes through, and at worn memory the load is refused.
use Rattle.std.specs.Prelude.{ℕ, zero, suc, ◌+◌, Bool, true, false, ◌&&◌, ◌==◌, List, [], ◌∷◌, length, Option, Some, None, is_some, if◌then◌else◌}
use Rattle.std.specs.List.{filter, list_any}
use Rattle.knx_model.specs.declared.script.ScriptWhat.{ScriptWhat}
use Rattle.knx_model.specs.declared.script.ScriptWhat.TheVariants.{LoseUp, LoseDown, LoseTo, LoseFrom, Cut, CloseAfter, DropChannel}
use Rattle.line_model.specs.Counts.{frames_from, frames_taken, frames_to, requests_acted, writes}
use Rattle.line_model.specs.Lines.{Script}
use Rattle.line_model.specs.World.{World, Event, replay}
use Rattle.calm_law.specs.CalmCounts.{one_for}

-- ---- which lines

-- what a line counts
pub data Counted : Type 0 where
  DatagramsUp : Counted
  DatagramsDown : Counted
  RequestsActed : Counted
  FramesTo : Counted
  FramesFrom : Counted
  Writes : Counted
  FramesTaken : Counted

pub record Place : Type 0 where
  pub of : Counted
  pub number : ℕ

abbrev pub place_if : Bool → Counted → ℕ → Option Place
place_if test of number = if test then Some (record { of = of; number = number }) else None

-- the place at which a line can end an attempt of the device
abbrev pub place_in : ℕ → ScriptWhat → Option Place
place_in device (LoseUp n) = place_if true DatagramsUp n
place_in device (LoseDown n) = place_if true DatagramsDown n
place_in device (DropChannel n) = place_if true RequestsActed n
place_in device (LoseTo d n) = place_if (d.raw == device) FramesTo n
place_in device (LoseFrom d n) = place_if (d.raw == device) FramesFrom n
place_in device (Cut d n octets) = place_if (d.raw == device) Writes n
place_in device (CloseAfter d n) = place_if (d.raw == device) FramesTaken n
place_in device _ = None

abbrev pub lines_that_end : ℕ → Script → ℕ
lines_that_end device script = length (filter (λ what. is_some (place_in device what)) script)

-- ---- what a run has reached

abbrev pub reached : ℕ → World → List Event → Counted → ℕ
reached device start events DatagramsUp = length (replay start events).tunnel.network.up
reached device start events DatagramsDown = length (replay start events).tunnel.network.down
reached device start events RequestsActed = requests_acted start events
reached device start events FramesTo = frames_to device start events
reached device start events FramesFrom = frames_from device start events
reached device start events Writes = writes device start events
reached device start events FramesTaken = frames_taken device start events

abbrev pub is_same : Counted → Counted → Bool
is_same DatagramsUp DatagramsUp = true
is_same DatagramsDown DatagramsDown = true
is_same RequestsActed RequestsActed = true
is_same FramesTo FramesTo = true
is_same FramesFrom FramesFrom = true
is_same Writes Writes = true
is_same FramesTaken FramesTaken = true
is_same of other = false

abbrev pub is_place : Counted → ℕ → Option Place → Bool
is_place of n None = false
is_place of n (Some place) = is_same of place.of && (place.number == n)

-- how many of the first n places of a count a line speaks of
abbrev pub said : ℕ → Script → Counted → ℕ → ℕ
said device script of zero = 0
said device script of (suc n) = one_for (list_any (λ what. is_place of (suc n) (place_in device what)) script) + said device script of n

abbrev pub all_counted : List Counted
all_counted = DatagramsUp ∷ DatagramsDown ∷ RequestsActed ∷ FramesTo ∷ FramesFrom ∷ Writes ∷ FramesTaken ∷ []

abbrev pub sum_over : List Counted → (Counted → ℕ) → ℕ
sum_over [] f = 0
sum_over (of ∷ rest) f = f of + sum_over rest f

-- the places reached at which a line can have ended an attempt of the device
abbrev pub ends_met : ℕ → Script → World → List Event → ℕ
ends_met device script start events = sum_over all_counted (λ of. said device script of (reached device start events of))
