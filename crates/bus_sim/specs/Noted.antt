-- The events of a run as its type shows them.
use Rattle.std.specs.Prelude.{ℕ, List, map}
use Rattle.line_model.specs.World.{Event}
use Rattle.bus_sim.specs.declared.noted.Noted.{Noted}

-- which events were noted, the oldest first
abbrev pub noted : List Noted → List Event
noted items = map (λ (n : Noted). n.event) items

pub record EventsNow : Type 0 where
  pub list : List Event  -- the newest first
  pub room : ℕ  -- so many more can be noted
