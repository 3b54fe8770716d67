-- No tunnelling request acts twice: in each channel that the gateway made, the requests that it acted on are the first of those that the client
-- put there, in order, each once; and those that the client took are the first of those that the gateway put.
use Rattle.std.specs.Prelude.{◌≡◌, ℕ, ◌⊎◌, ◌++◌, ◌==◌, List, [], ◌∷◌, length, if◌then◌else◌, Some}
use Rattle.line_model.specs.Gateway.{Gateway, number_of}
use Rattle.line_model.specs.Record.{Entry, record_of}
use Rattle.line_model.specs.ClientView.{View, views}
use Rattle.line_model.specs.World.{World, Event, replay}
use Rattle.line_model.specs.Legal.{AtEveryMoment}

-- x has place a in the list, whose newest element has the greatest place
abbrev pub Has : {A : Type 0} → List A → ℕ → A → Type 0
Has [] a x = ⊥
Has (y ∷ l) a x = ((a ≡ length l) × (y ≡ x)) ⊎ Has l a x

-- what was acted on, or put, in the channel of a place
abbrev pub in_channel : ℕ → List (ℕ × List ℕ) → List (List ℕ)
in_channel k [] = []
in_channel k (x ∷ l) = if x.0 == k then x.1 ∷ in_channel k l else in_channel k l

-- the first of those that another list has; both have the newest first
abbrev pub IsPrefix : List (List ℕ) → List (List ℕ) → Type 0
IsPrefix xs ys = (newer : List (List ℕ)) × (ys ≡ newer ++ xs)

-- the channel of a place is the one that the client got at the endpoint that made it
pub record IsChannelOf (g : Gateway) (r : List Entry) (k : ℕ) (v : View) : Type 0 where
  pub endpoint : ℕ
  pub made_by : Has g.makers k endpoint
  pub view : Has (views r) endpoint v
  pub number : v.number ≡ Some (number_of k)

-- in a channel that the client never got nothing is acted on
pub record IsActedOnce (g : Gateway) (r : List Entry) : Type 0 where
  pub up : (k : ℕ) (v : View) → IsChannelOf g r k v → IsPrefix (in_channel k g.acted) v.puts
  pub down : (k : ℕ) (v : View) → IsChannelOf g r k v → IsPrefix v.takes (in_channel k g.puts)
  pub alone : (k : ℕ) → ((v : View) → ¬ IsChannelOf g r k v) → in_channel k g.acted ≡ []

abbrev pub ActedOnce : World → List Event → Type 0
ActedOnce start events = AtEveryMoment (λ past. IsActedOnce (replay start past).tunnel.gateway (record_of start past)) events
