-- When a gateway that serves clients at a port has come to its end (this project's own): a channel was made, none is open, and the last ten
-- turns were quiet. A turn is one datagram that was taken, or one quiet wait; what was given is no turn.
use Rattle.std.specs.Prelude.{◌≡◌, ◌≢◌, ℕ, zero, suc, List, [], ◌∷◌, None}
use Rattle.line_model.specs.Gateway.{Gateway}
use Rattle.line_model.specs.PortStory.{PortItem, Took, Quiet, Gave}

-- in so many of the last turns nothing was taken, the newest first
abbrev pub WereQuiet : ℕ → List PortItem → Type 0
WereQuiet zero items = Unit {0}
WereQuiet (suc n) [] = ⊥
WereQuiet (suc n) (Took from octets ∷ items) = ⊥
WereQuiet (suc n) (Quiet ms ∷ items) = WereQuiet n items
WereQuiet (suc n) (Gave to octets ∷ items) = WereQuiet (suc n) items

abbrev pub turns : List PortItem → ℕ
turns [] = 0
turns (Took from octets ∷ items) = suc (turns items)
turns (Quiet ms ∷ items) = suc (turns items)
turns (Gave to octets ∷ items) = turns items

abbrev pub quiet_turns : ℕ
quiet_turns = 10

pub record HasEnded (g : Gateway) (items : List PortItem) : Type 0 where
  pub made : g.makers ≢ []
  pub closed : g.channel ≡ None
  pub quiet : WereQuiet quiet_turns items
