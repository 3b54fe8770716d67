-- A gateway's port at which it names where it is bound (ISO 22510, Core, HPAI). Who serves there writes the address and port 0.0.0.0:0 as its endpoint, and by
-- the record that stands there; what clients are given names the address and port that are bound. So that each datagram has one that it stands for, who
-- writes the bound ones would give 0.0.0.0:0.
use Rattle.std.specs.Prelude.{ℕ, ◌+◌, Bool, ◌&&◌, nat_le, List, [], ◌∷◌, ◌++◌, length, take, drop, map, Option, Some, None, if◌then◌else◌}
use Rattle.std.specs.Str.{bytes_eq}
use Rattle.line_model.specs.PortStory.{PortItem, Took, Quiet, Gave, PortStory, Untold, Recorded}

-- ---- address and port, as six octets

abbrev pub nowhere : List ℕ
nowhere = 0 ∷ 0 ∷ 0 ∷ 0 ∷ 0 ∷ 0 ∷ []

-- 0.0.0.0:0 and the port's own change places, all others stay
abbrev pub exchanged : List ℕ → List ℕ → List ℕ
exchanged own there = if bytes_eq there nowhere then own else (if bytes_eq there own then nowhere else there)

-- ---- where they stand in a datagram

abbrev pub exchanged_at : ℕ → List ℕ → List ℕ → List ℕ
exchanged_at place own octets = take place octets ++ (exchanged own (take 6 (drop place octets)) ++ drop 6 (drop place octets))

-- a datagram of at most 300 octets that begins so, and has six from a place on
abbrev pub has_place : List ℕ → ℕ → List ℕ → Bool
has_place front place octets = nat_le (place + 6) (length octets) && nat_le (length octets) 300 && bytes_eq (take 4 octets) front

-- header and service
abbrev pub connect_response : List ℕ
connect_response = 0x06 ∷ 0x10 ∷ 0x02 ∷ 0x06 ∷ []

abbrev pub search_response : List ℕ
search_response = 0x06 ∷ 0x10 ∷ 0x02 ∷ 0x02 ∷ []

-- in a connect response behind total length, channel, status and `08 01`; in a search response behind total length and `08 01`
abbrev pub place_in : List ℕ → Option ℕ
place_in octets =
    if has_place connect_response 10 octets then Some 10
    else (if has_place search_response 8 octets then Some 8
    else None)

abbrev pub named_where : Option ℕ → List ℕ → List ℕ → List ℕ
named_where None own octets = octets
named_where (Some place) own octets = exchanged_at place own octets

abbrev pub named : List ℕ → List ℕ → List ℕ
named own octets = named_where (place_in octets) own octets

-- ---- the record of the port below, as it is shown

abbrev pub named_item : List ℕ → PortItem → PortItem
named_item own (Took from octets) = Took from octets
named_item own (Quiet ms) = Quiet ms
named_item own (Gave to octets) = Gave to (named own octets)

abbrev pub named_story : List ℕ → PortStory → PortStory
named_story own Untold = Untold
named_story own (Recorded items) = Recorded (map (named_item own) items)

-- ---- what contracts see

pub record Naming (P : Type 0) : Type 0 where
  pub port : P
  pub own : List ℕ
