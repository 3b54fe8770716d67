-- Words whose front says how the rest of them is read, as `catalogue=F` or `load:D`: a table with a row for each front.
use Rattle.std.specs.Prelude.{ℕ, ◌≡◌, ◌⊎◌, nat_eq, List, [], ◌∷◌, ◌++◌, drop, length, Option, Some, None, if◌then◌else◌}
use Rattle.std.specs.List.{starts_with}
use Rattle.knx_model.specs.Addresses.{◌>>=◌}

-- how a word begins, and what is read of the value behind that; none for a value that doesn't read
pub record Row (A : Type 0) : Type 0 where
  pub front : List ℕ
  pub reads : List ℕ → Option A

-- a word of this row: its front, and behind it a value that the row reads so
pub record SpellsRow {A : Type 0} (row : Row A) (word : List ℕ) (says : A) : Type 0 where
  pub value : List ℕ
  pub whole : word ≡ row.front ++ value
  pub reads : row.reads value ≡ Some says

-- a word of one of the rows
abbrev pub Spells : {A : Type 0} → List (Row A) → List ℕ → A → Type 0
Spells [] word says = ⊥
Spells (row ∷ rows) word says = SpellsRow row word says ⊎ Spells rows word says

-- what a word says, by the row whose front it begins with; another word says nothing
abbrev pub read_by : {A : Type 0} → List (Row A) → List ℕ → Option A
read_by [] word = None
read_by (row ∷ rows) word = if starts_with nat_eq word row.front then row.reads (drop (length row.front) word) else read_by rows word

-- ---- words one after another, each read by the table that what is said so far gives

abbrev pub SpellsAll : {A : Type 0} → (A → List (Row A)) → List (List ℕ) → A → A → Type 0
SpellsAll rows [] so_far says = so_far ≡ says
SpellsAll rows (word ∷ words) so_far says = (next : _) × Spells (rows so_far) word next × SpellsAll rows words next says

abbrev pub read_all : {A : Type 0} → (A → List (Row A)) → List (List ℕ) → A → Option A
read_all rows [] so_far = Some so_far
read_all rows (word ∷ words) so_far = read_by (rows so_far) word >>= read_all rows words
