-- A cell and its seats, as their callers see them (this project's own). A cell holds a state with a list, and who has the turn has the state out. The list is
-- numbered from 0, where its origin stands.
use Rattle.std.specs.Prelude.{◌≡◌, ℕ, ◌+◌, ◌-◌, ◌<◌, ◌≤◌, ◌==◌, Bool, true, false, List, [], ◌∷◌, ◌++◌, length, count_by}
use Rattle.std.specs.List.{concat, range_with_len}
use Rattle.atomic_table.specs.Seated.{TableId}

-- which cell it is, and the list of the state that it was made with
pub record Cell (E : Type 0) : Type 0 where
  pub id : TableId
  pub opening : List E

-- which cell's seat it is, whether it has the turn, and how many of the cell's 16 parts it has; what it has seen of the state's list; the places of the entries that it gave
-- back; and of each seat that joined it the places of those that that one gave back
pub record Seated (E : Type 0) : Type 0 where
  pub cell : TableId
  pub turn : Bool
  pub parts : ℕ
  pub seen : List E
  pub mine : List ℕ
  pub olds : List (List ℕ)

-- the places at which a longer list has entries that a shorter one hasn't
abbrev pub new_places : {E : Type 0} → List E → List E → List ℕ
new_places shorter longer = range_with_len (length shorter) (length longer - length shorter)

module _ {E : Type 0} where
  abbrev pub first_seat : Cell E → Seated E
  first_seat cell = record { cell = cell.id; turn = false; parts = 16; seen = cell.opening; mine = []; olds = [] }

  -- it has the turn, and the state, whose list this is
  abbrev pub with_turn : List E → Seated E → Seated E
  with_turn list seat = record seat { turn = true; seen = list }

  -- it gave a state with this list back
  abbrev pub given_back : List E → Seated E → Seated E
  given_back list seat = record seat { turn = false; seen = list; mine = seat.mine ++ new_places seat.seen list }

  abbrev pub with_seen : List E → Seated E → Seated E
  with_seen list seat = record seat { seen = list }

  abbrev pub without_part : Seated E → Seated E
  without_part seat = record seat { parts = seat.parts - 1 }

  -- the seat of that part
  abbrev pub new_seat : Seated E → Seated E
  new_seat seat = record { cell = seat.cell; turn = false; parts = 1; seen = seat.seen; mine = []; olds = [] }

  -- the other seat joined this one
  abbrev pub joined_by : Seated E → Seated E → Seated E
  joined_by other seat = record seat { parts = seat.parts + other.parts; olds = seat.olds ++ other.mine ∷ other.olds }

-- each place from the first on and before the end stands once in one of the lists, and no other place does
pub record StandOnce (first end : ℕ) (lists : List (List ℕ)) : Type 0 where
  pub within : (place : ℕ) → first ≤ place → place < end → count_by (λ x. x == place) (concat lists) ≡ 1
  pub before : (place : ℕ) → place < first → count_by (λ x. x == place) (concat lists) ≡ 0
  pub behind : (place : ℕ) → end ≤ place → count_by (λ x. x == place) (concat lists) ≡ 0
