-- What the places of a line's words want, behind the words that tell which line it is.
use Rattle.std.specs.Prelude.{ℕ, codes, List, [], ◌∷◌}
use Rattle.knx_model.specs.Places.{Place, a_group, a_device, a_number, a_count, a_status, a_service}

pub data Wants : List (List ℕ) → List Place → Type 0 where
  OfLoseUp : Wants (codes "lose" ∷ codes "up" ∷ []) (a_count ∷ [])
  OfLoseDown : Wants (codes "lose" ∷ codes "down" ∷ []) (a_count ∷ [])
  OfLoseTo : Wants (codes "lose" ∷ codes "to" ∷ []) (a_device ∷ a_count ∷ [])
  OfLoseFrom : Wants (codes "lose" ∷ codes "from" ∷ []) (a_device ∷ a_count ∷ [])
  OfRepeatUp : Wants (codes "repeat" ∷ codes "up" ∷ []) (a_count ∷ [])
  OfRepeatDown : Wants (codes "repeat" ∷ codes "down" ∷ []) (a_count ∷ [])
  OfRepeatTo : Wants (codes "repeat" ∷ codes "to" ∷ []) (a_device ∷ a_count ∷ [])
  OfCut : Wants (codes "cut" ∷ []) (a_device ∷ a_count ∷ a_number ∷ [])
  OfWorn : Wants (codes "worn" ∷ []) (a_device ∷ a_count ∷ [])
  OfClose : Wants (codes "close" ∷ []) (a_device ∷ a_count ∷ [])
  OfRefuse : Wants (codes "refuse" ∷ []) (a_count ∷ a_status ∷ [])
  OfDrop : Wants (codes "drop" ∷ codes "channel" ∷ []) (a_count ∷ [])
  OfOff : Wants (codes "off" ∷ []) (a_device ∷ [])
  OfStandard : Wants (codes "standard" ∷ []) (a_device ∷ [])
  OfGroup : Wants (codes "group" ∷ []) (a_group ∷ a_service ∷ [])
  OfThenGroup : Wants (codes "then" ∷ codes "group" ∷ []) (a_group ∷ a_service ∷ [])
