-- An index of the objects that two tables link: pairs of a group and an object, each once, ascending by group and then by object.
use Rattle.std.specs.Prelude.{ℕ, ◌≡◌, ◌+◌, ◌*◌, ◌^◌, ◌<◌, ◌≤◌, ◌⊎◌, Bool, ◌&&◌, ◌==◌, List}
use Rattle.std.specs.List.{AllPairs, list_any, count_by, range_with_len}
use Rattle.knx_model.specs.Acts.{is_linked_in}
use Rattle.device_tables.specs.Objects.{holds}

-- a pair stands before another: by its group, and in a group by its object
abbrev pub StandsBefore : ℕ × ℕ → ℕ × ℕ → Type 0
StandsBefore one other = (one.0 < other.0) ⊎ ((one.0 ≡ other.0) × (one.1 < other.1))

-- the pair is of the group and the object
abbrev pub is_of : ℕ → ℕ → ℕ × ℕ → Bool
is_of group object pair = (pair.0 == group) && (pair.1 == object)

-- some pair is of the group and the object
abbrev pub is_paired : List (ℕ × ℕ) → ℕ → ℕ → Bool
is_paired pairs group object = list_any (is_of group object) pairs

-- the pairs stand in their order, none twice, and are exactly the groups and objects that the tables link
pub record IsIndexOf (addr assoc : List ℕ) (pairs : List (ℕ × ℕ)) : Type 0 where
  pub ascending : AllPairs StandsBefore pairs
  pub exactly : (group object : ℕ) → is_paired pairs group object ≡ is_linked_in addr assoc group object

-- how many object numbers a set holds
unfoldable pub how_many : List Bool → ℕ
how_many set = count_by (holds set) (range_with_len 0 256)

-- a search by halves over so many pairs, and one step for each object found and one for the end
pub record IsSearch (pairs found steps : ℕ) : Type 0 where
  pub halves : ℕ
  pub by_halves : 2 ^ halves ≤ 2 * pairs + 1
  pub few : steps ≤ halves + found + 1
