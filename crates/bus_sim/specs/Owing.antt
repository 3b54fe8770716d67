-- What a run is held to owe, as the script's definitions say it: anything but that power returns, which comes at once.
use Rattle.std.specs.Prelude.{◌≡◌, ℕ, true, List, [], ◌∷◌, ◌++◌, map, option_to_list, Option, Some, None}
use Rattle.line_model.specs.Owed as model
use Rattle.line_model.specs.Owed.{Owed, waits}
use Rattle.bus_sim.specs.declared.owed.Owed.{Owed as Held}
use Rattle.bus_sim.specs.declared.owed.Owed.TheVariants as held
use Rattle.bus_sim.specs.declared.owed.Caused.{Caused}

abbrev pub meant : Held → Owed
meant (held.DeliverAgain number) = model.DeliverAgain number
meant (held.ReachAgain number) = model.ReachAgain number
meant (held.BringAgain device) = model.BringAgain device
meant (held.ConnectionCloses device) = model.ConnectionCloses device
meant held.ChannelCloses = model.ChannelCloses

abbrev pub meant_if : Option Held → List Owed
meant_if owed = map meant (option_to_list owed)

abbrev pub all_caused : Caused → List Owed
all_caused c = meant_if c.first ++ meant_if c.second

abbrev pub first_of : List Owed → Option Owed
first_of [] = None
first_of (owed ∷ rest) = Some owed

-- the client may do something before the first of them
abbrev pub LetsClient : List Owed → Type 0
LetsClient [] = Unit {0}
LetsClient (owed ∷ rest) = waits owed ≡ true

pub record OwingNow : Type 0 where
  pub list : List Owed
  pub room : ℕ  -- so many more can join without more memory
