-- A table of fronts reads a word just as it spells it.
use Rattle.std.proofs.Common.{ℕ, ◌≡◌, ◌⊎◌, inl, inr, Bool, true, false, List, [], ◌∷◌, ◌++◌, length, map, take, drop, Option, Some, None, refl, sym, ap, ◌∙◌, subst}
use Rattle.std.specs.Prelude.{not, ◌&&◌, nat_eq, if◌then◌else◌}
use Rattle.std.specs.List.{list_all, starts_with}
use Rattle.std.proofs.lemmas.Bool.{and_parts}
use Rattle.std.proofs.lemmas.List.{take-append-drop}
use Rattle.std.proofs.lemmas.Option.{same_Some}
use Rattle.std.proofs.lemmas.Slice.Eq.{bytes_eq-Decides}
use Rattle.knx_model.specs.Addresses.{◌>>=◌}
use Rattle.call_parts.specs.Fronts.{Row, Spells, SpellsAll, read_all, read_by}

-- ---- a table in which no front begins another, so that a word is of one row at most

abbrev pub are_apart : List ℕ → List ℕ → Bool
are_apart one other = not (starts_with nat_eq one other) && not (starts_with nat_eq other one)

abbrev pub none_begins_another : List (List ℕ) → Bool
none_begins_another [] = true
none_begins_another (front ∷ others) = list_all (are_apart front) others && none_begins_another others

abbrev pub fronts : {A : Type 0} → List (Row A) → List (List ℕ)
fronts rows = map (λ row. row.front) rows

-- ---- a word with a front

taken : (front value : List ℕ) → take (length front) (front ++ value) ≡ front
taken [] value = refl
taken (x ∷ front) value = ap (λ (l : List ℕ). x ∷ l) (taken front value)

dropped : (front value : List ℕ) → drop (length front) (front ++ value) ≡ value
dropped [] value = refl
dropped (x ∷ front) value = dropped front value

begins : (front value : List ℕ) → starts_with nat_eq (front ++ value) front ≡ true
begins front value = (bytes_eq-Decides front (take (length front) (front ++ value))).1 (sym (taken front value))

begun : (front word : List ℕ) → starts_with nat_eq word front ≡ true → word ≡ front ++ drop (length front) word
begun front word is = sym (ap (λ (l : List ℕ). l ++ drop (length front) word) ((bytes_eq-Decides front (take (length front) word)).0 is) ∙ take-append-drop (length front) word)

-- ---- of two fronts of a word one begins the other

abbrev OneBegins : List ℕ → List ℕ → Type 0
OneBegins one other = ((rest : List ℕ) × (one ++ rest ≡ other)) ⊎ ((rest : List ℕ) × (other ++ rest ≡ one))

heads : (x y : ℕ) (xs ys : List ℕ) → x ∷ xs ≡ y ∷ ys → (x ≡ y) × (xs ≡ ys)
heads x y xs ys e = (cc, cc)

both_begin : (x y : ℕ) (one other : List ℕ) → x ≡ y → OneBegins one other → OneBegins (x ∷ one) (y ∷ other)
both_begin x y one other same (inl h) = inl (h.0, rw (same, h.1) refl)
both_begin x y one other same (inr h) = inr (h.0, rw (same, h.1) refl)

one_begins : (one other left right : List ℕ) → one ++ left ≡ other ++ right → OneBegins one other
one_begins [] other left right same = inl (other, refl)
one_begins (x ∷ one) [] left right same = inr (x ∷ one, refl)
one_begins (x ∷ one) (y ∷ other) left right same =
    let h = heads x y (one ++ left) (other ++ right) same in
    both_begin x y one other h.0 (one_begins one other left right h.1)

not_apart : (one other : List ℕ) → OneBegins one other → are_apart one other ≡ true → ⊥
not_apart one other begun apart =
    let parts = and_parts (not (starts_with nat_eq one other)) (not (starts_with nat_eq other one)) apart in
    elim begun [
      | inl h ↦ let is : starts_with nat_eq other one ≡ true = subst (λ (l : List ℕ). starts_with nat_eq l one ≡ true) h.1 (begins one h.0) in
          let no : false ≡ true = rw is at parts.1 in cc
      | inr h ↦ let is : starts_with nat_eq one other ≡ true = subst (λ (l : List ℕ). starts_with nat_eq l other ≡ true) h.1 (begins other h.0) in
          let no : false ≡ true = rw is at parts.0 in cc
    ]

-- a word of one front doesn't begin with another that is apart from it
passes : (b : Bool) (one other value : List ℕ) → are_apart one other ≡ true → starts_with nat_eq (other ++ value) one ≡ b → b ≡ false
passes false one other value apart is = refl
passes true one other value apart is = absurd (not_apart one other (one_begins one other (drop (length one) (other ++ value)) value (sym (begun one (other ++ value) is))) apart)

-- ---- a word is read just as it is spelled

-- a word of these rows doesn't begin with a front that is apart from each of theirs
passed : {A : Type 0} (front : List ℕ) (rows : List (Row A)) (word : List ℕ) (says : A) → list_all (are_apart front) (fronts rows) ≡ true → Spells rows word says → starts_with nat_eq word front ≡ false
passed front [] word says apart spelled = absurd spelled
passed front (row ∷ rows) word says apart (inl s) =
    let apart_of_it = (and_parts (are_apart front row.front) (list_all (are_apart front) (fronts rows)) apart).0 in
    rw s.whole (passes (starts_with nat_eq (row.front ++ s.value) front) front row.front s.value apart_of_it refl)
passed front (row ∷ rows) word says apart (inr s) = passed front rows word says (and_parts (are_apart front row.front) (list_all (are_apart front) (fronts rows)) apart).1 s

pub reads_spelled : {A : Type 0} (rows : List (Row A)) (word : List ℕ) (says : A) → none_begins_another (fronts rows) ≡ true → Spells rows word says → read_by rows word ≡ Some says
reads_spelled [] word says apart spelled = absurd spelled
reads_spelled (row ∷ rows) word says apart (inl s) = rw (s.whole, begins row.front s.value, dropped row.front s.value) s.reads
reads_spelled (row ∷ rows) word says apart (inr s) =
    let parts = and_parts (list_all (are_apart row.front) (fronts rows)) (none_begins_another (fronts rows)) apart in
    rw (passed row.front rows word says parts.0 s) (reads_spelled rows word says parts.1 s)

first_read : {A : Type 0} (b : Bool) (row : Row A) (rows : List (Row A)) (word : List ℕ) (says : A) → starts_with nat_eq word row.front ≡ b → (read_by rows word ≡ Some says → Spells rows word says)
    → (if b then row.reads (drop (length row.front) word) else read_by rows word) ≡ Some says → Spells (row ∷ rows) word says
first_read true row rows word says is others e = inl (record { value = drop (length row.front) word; whole = begun row.front word is; reads = e })
first_read false row rows word says is others e = inr (others e)

pub spells_read : {A : Type 0} (rows : List (Row A)) (word : List ℕ) (says : A) → read_by rows word ≡ Some says → Spells rows word says
spells_read [] word says e = absurd cc
spells_read (row ∷ rows) word says e = first_read (starts_with nat_eq word row.front) row rows word says refl (spells_read rows word says) e

-- ---- and so are words, one after another

-- in each table that what is said gives
abbrev pub AreApart : {A : Type 0} → (A → List (Row A)) → Type 0
AreApart {A} rows = (so_far : A) → none_begins_another (fronts (rows so_far)) ≡ true

pub all_from : {A : Type 0} (rows : A → List (Row A)) (words : List (List ℕ)) (so_far says : A) → AreApart rows → SpellsAll rows words so_far says → read_all rows words so_far ≡ Some says
all_from {A} rows [] so_far says apart s = ap (λ (o : A). Some o) s
all_from rows (word ∷ words) so_far says apart s = rw (reads_spelled (rows so_far) word s.0 (apart so_far) s.1) (all_from rows words s.0 says apart s.2)

word_to : {A : Type 0} (rows : A → List (Row A)) (word : List ℕ) (words : List (List ℕ)) (so_far says : A) (o : Option A) → ((next : A) → read_all rows words next ≡ Some says → SpellsAll rows words next says)
    → read_by (rows so_far) word ≡ o → (o >>= read_all rows words) ≡ Some says → SpellsAll rows (word ∷ words) so_far says
word_to rows word words so_far says None others is e = absurd cc
word_to rows word words so_far says (Some next) others is e = (next, spells_read (rows so_far) word next is, others next e)

pub all_to : {A : Type 0} (rows : A → List (Row A)) (words : List (List ℕ)) (so_far says : A) → read_all rows words so_far ≡ Some says → SpellsAll rows words so_far says
all_to rows [] so_far says e = same_Some so_far says e
all_to rows (word ∷ words) so_far says e = word_to rows word words so_far says (read_by (rows so_far) word) (λ next. all_to rows words next says) refl e
