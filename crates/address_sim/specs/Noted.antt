-- The events of a run as its type shows them.
use Rattle.std.specs.Prelude.{ℕ, List, map}
use Rattle.address_world.specs.AddressWorld.{AddressEvent}
use Rattle.address_sim.specs.declared.noted.Noted.{Noted}

-- which events were noted, the oldest first
abbrev pub noted : List Noted → List AddressEvent
noted items = map (λ (n : Noted). n.event) items

pub record EventsNow : Type 0 where
  pub list : List AddressEvent  -- the newest first
  pub room : ℕ  -- so many more can be noted
