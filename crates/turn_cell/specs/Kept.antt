-- The rule of a cell's table, and what each step tells. Word 0 counts the published entries, word 1 is 1 while a seat has the turn, word 2 counts the seats that sleep,
-- of which nothing is said, and slot 0 holds the state while it is at home. The view of a seat that joined another is spent: it has no part.
use Rattle.std.specs.Prelude.{◌≡◌, ◌≢◌, ℕ, zero, suc, ◌+◌, ◌-◌, ◌<◌, ◌≤◌, ltb, ◌==◌, Bool, true, false, cond, All, List, [], ◌∷◌, ◌++◌, length, slice_index, sum_by, count_by, Option, Some, None}
use Rattle.std.specs.List.{concat}
use Rattle.std.specs.List.Sorted.{IsStrictlyIncreasing}
use mathlib.Core.Option as maybe
use mathlib.Core.List.{IsPrefix}
use lib.ListN.{get_elem?}
use Rattle.atomic_table.specs.Seated.{TableId}
use Rattle.atomic_table.specs.Table.{State, Me, Step, rest}
use Rattle.turn_cell.specs.declared.view.View.{View}
use Rattle.turn_cell.specs.Seats.{Seated, new_places}

-- 1 where first ≤ place < end, else 0
abbrev pub once : ℕ → ℕ → ℕ → ℕ
once first end place = cond (ltb place first) 0 (cond (ltb place end) 1 0)

module _ {E : Type 0} where
  abbrev pub view : Bool → ℕ → List E → List (List E) → List ℕ → List (List ℕ) → View E
  view turn parts seen told mine olds = record { turn = turn; parts = parts; seen = seen; told = told; mine = mine; olds = olds }

  abbrev pub seated : TableId → View E → Seated E
  seated cell v = record { cell = cell; turn = v.turn; parts = v.parts; seen = v.seen; mine = v.mine; olds = v.olds }

  abbrev pub first_view : List E → View E
  first_view opening = view false 16 opening [] [] []

  abbrev pub spent : View E
  spent = view false 0 [] [] [] []

  abbrev pub left : View E → View E
  left v = record v { parts = v.parts - 1 }

  abbrev pub right : View E → View E
  right v = view false 1 v.seen [] [] []

  abbrev pub both : View E → View E → View E
  both v w = view v.turn (v.parts + w.parts) v.seen (w.seen ∷ w.told ++ v.told) v.mine (v.olds ++ w.mine ∷ w.olds)

  -- a state with this list was published
  abbrev pub with_list : List E → View E → View E
  with_list list v = record v { seen = list; mine = v.mine ++ new_places v.seen list }

  abbrev pub places : View E → List ℕ
  places v = concat (v.mine ∷ v.olds)

  abbrev pub turn_of : View E → ℕ
  turn_of v = cond v.turn 1 0

  abbrev pub parts_of : View E → ℕ
  parts_of v = v.parts

  abbrev pub times_at : ℕ → View E → ℕ
  times_at place v = count_by (λ x. x == place) (places v)

  abbrev pub AllBegin : List E → List (List E) → Type 0
  AllBegin log [] = Unit {0}
  AllBegin log (xs ∷ others) = IsPrefix xs log × AllBegin log others

  abbrev pub IsSpent : View E → Type 0
  IsSpent v = (v.turn ≡ false) × (places v ≡ [])

  pub record Fits (log : List E) (v : View E) : Type 0 where
    pub seen : IsPrefix v.seen log
    pub told : AllBegin log v.told
    pub held : v.turn ≡ true → v.seen ≡ log
    pub spent : v.parts ≡ 0 → IsSpent v

-- what a seat has, with states of the type T and entries of the type E
abbrev pub Mine : Type 0 → Type 0 → Type 0
Mine T E = Me (Option T) (View E)

module _ {T E : Type 0} where
  abbrev pub released : Step (Option T) → Mine T E → ℕ → Mine T E → Type 0
  released st m r m' = m' ≡ (record m.0 { turn = false }, rest m.1)

  -- nothing is told
  abbrev pub untold : Step (Option T) → Mine T E → ℕ → Mine T E → Type 0
  untold st m r m' = m' ≡ m

  -- all that is published is seen, which is no news to a seat that has the turn
  pub record Looked (m : Mine T E) (r : ℕ) (m' : Mine T E) : Type 0 where
    pub log : List E
    pub after : m' ≡ (record m.0 { seen = log; told = [] }, m.1)
    pub counted : r + 1 ≡ length log
    pub begins : IsPrefix m.0.seen log
    pub told : AllBegin log m.0.told
    pub held : m.0.turn ≡ true → log ≡ m.0.seen

  abbrev pub looked : Step (Option T) → Mine T E → ℕ → Mine T E → Type 0
  looked st m r m' = Looked m r m'

  -- a seat between two calls: it has a part, nothing was told to it that it hasn't seen, and the slot is out with it exactly where it has the turn. Its places are in order
  pub record IsAtRest (m : Mine T E) : Type 0 where
    pub some_part : 0 < m.0.parts
    pub nothing_told : m.0.told ≡ []
    pub slot : m.1 ≡ cond m.0.turn ((0, None) ∷ []) []
    pub mine_rise : IsStrictlyIncreasing m.0.mine
    pub mine_seen : (k : ℕ) → k < length m.0.mine → slice_index m.0.mine k < length m.0.seen
    pub olds_rise : All IsStrictlyIncreasing m.0.olds

module _ {T E : Type 0} (list : T → List E) where
  -- while the turn is free, the state at home has the list; else the slot is out
  abbrev pub Home : List E → ℕ → List (maybe.Option (Option T)) → Type 0
  Home log zero homes = (state : T) × (homes ≡ maybe.some (Some state) ∷ []) × (list state ≡ log)
  Home log (suc n) homes = homes ≡ maybe.none ∷ []

  -- The log is the list that is published. One seat at most has the turn, all parts together are 16, and each place behind the opening is of one seat
  pub record Kept (opening : List E) (s : State (Option T) (View E)) : Type 0 where
    pub log : List E
    pub count : ℕ
    pub held : ℕ
    pub sleepers : ℕ
    pub words : s.words ≡ count ∷ held ∷ sleepers ∷ []
    pub counted : count + 1 ≡ length log
    pub home : Home log held s.homes
    pub turns : sum_by turn_of s.views ≡ held
    pub one : held ≤ 1
    pub parts : sum_by parts_of s.views ≡ 16
    pub each : (k : ℕ) (v : View E) → get_elem? s.views k ≡ maybe.some v → Fits log v
    pub once_each : (place : ℕ) → sum_by (times_at place) s.views ≡ once (length opening) (length log) place
    pub began : IsPrefix opening log

  -- where the word was 0, the seat has the turn and the state, whose list begins with what it has seen
  abbrev pub taken : Step (Option T) → Mine T E → ℕ → Mine T E → Type 0
  taken st m r m' =
      (r ≡ 0 → (state : T) × (m' ≡ (record m.0 { turn = true; seen = list state }, (0, Some state) ∷ m.1)) × IsPrefix m.0.seen (list state))
      × (r ≢ 0 → m' ≡ m)

  -- the list of the state in the slot is published
  abbrev pub published : Step (Option T) → Mine T E → ℕ → Mine T E → Type 0
  published st m r m' = (state : T) → m.1 ≡ (0, Some state) ∷ [] → m' ≡ (with_list (list state) m.0, m.1)
