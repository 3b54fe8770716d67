-- A loop that appends lines, one round more.
use Rattle.std.proofs.Common.{◌≡◌, ℕ, ◌+◌, ◌*◌, ◌-◌, ◌/◌, ◌%◌, ◌^◌, codes, List, [], ◌∷◌, ◌++◌, refl, sym, ap, ◌∙◌, add-one, append_assoc, arith}
use Rattle.std.proofs.lemmas.List.FromFn.{map-range_with_len_more}
use Rattle.knx_model.specs.declared.address.IndAddr.{IndAddr}
use Rattle.knx_model.specs.declared.project.Statement.{Statement}
use Rattle.knx_model.specs.declared.project.What.{What}
use Rattle.knx_model.specs.declared.project.What.TheVariants.{Device}
use Rattle.knx_gen.specs.Draws.{next_state, state_at}
use Rattle.knx_gen.specs.Generated.{group_name, group_names, group_line, group_lines, device_at, object_line, object_lines, link_line, link_lines, first_group, chosen_links, object_links, device_lines, nth_device_lines, all_device_lines, project_lines, numbered_from, generated}
use Rattle.knx_gen.proofs.Each.{each_more}
use Rattle.knx_gen.proofs.States.{state_at-add}

-- a list that began with `start`, and to which pieces were appended
appended : {X : Type 0} (start done now piece next all : List X) → now ≡ start ++ done → next ≡ now ++ piece → all ≡ done ++ piece → next ≡ start ++ all
appended start done now piece next all is put whole = put ∙ (ap (λ xs. xs ++ piece) is ∙ (append_assoc start done piece ∙ ap (λ xs. start ++ xs) (sym whole)))

pub names_more : (names : List (List ℕ)) (place : ℕ) → names ≡ group_names place → names ++ group_name (place + 1) ∷ [] ≡ group_names (place + 1)
unfolding group_names
names_more names place is = ap (λ xs. xs ++ group_name (place + 1) ∷ []) is ∙ sym (map-range_with_len_more group_name 1 place (place + 1) (omega arith))

pub groups_more : (start now next : List What) (place : ℕ) → now ≡ start ++ group_lines place → next ≡ now ++ group_line (place + 1) ∷ [] → next ≡ start ++ group_lines (place + 1)
unfolding group_lines
groups_more start now next place is put = appended start (group_lines place) now (group_line (place + 1) ∷ []) next (group_lines (place + 1)) is put (map-range_with_len_more group_line 1 place (place + 1) (omega arith))

pub objects_more : (start now next : List What) (device : IndAddr) (place : ℕ) → now ≡ start ++ object_lines device place → next ≡ now ++ object_line device (place + 1) ∷ [] → next ≡ start ++ object_lines device (place + 1)
unfolding object_lines
objects_more start now next device place is put =
    appended start (object_lines device place) now (object_line device (place + 1) ∷ []) next (object_lines device (place + 1)) is put (map-range_with_len_more (object_line device) 1 place (place + 1) (omega arith))

pub links_more : (start now next : List What) (device : IndAddr) (n first more : ℕ) → now ≡ start ++ link_lines device n first more → next ≡ now ++ link_line device n (first + more) ∷ [] → next ≡ start ++ link_lines device n first (more + 1)
unfolding link_lines
links_more start now next device n first more is put =
    appended start (link_lines device n first more) now (link_line device n (first + more) ∷ []) next (link_lines device n first (more + 1)) is put (map-range_with_len_more (link_line device n) first more (first + more) refl)

-- ---- with numbers that are drawn

pub one_drawn : (start before after k : ℕ) → before ≡ state_at start k → after ≡ next_state before → after ≡ state_at start (k + 1)
unfolding state_at
one_drawn start before after k is drawn = rw add-one (drawn ∙ ap next_state is)

pub eight_drawn : (start before after d : ℕ) → before ≡ state_at start (8 * d) → after ≡ state_at before 8 → after ≡ state_at start (8 * (d + 1))
eight_drawn start before after d is drawn = drawn ∙ (ap (λ (s : ℕ). state_at s 8) is ∙ (state_at-add start (8 * d) 8 ∙ ap (state_at start) (let e : 8 * d + 8 ≡ 8 * (d + 1) = omega arith in e)))

pub object_links_more : (start now next : List What) (state after number : ℕ) (device : IndAddr) (place : ℕ) → now ≡ start ++ object_links state device place → after ≡ state_at state (place + 1) → number ≡ after / 2 ^ 33
    → next ≡ now ++ link_lines device (place + 1) (1 + number % 2000) 4 → next ≡ start ++ object_links state device (place + 1)
unfolding object_links
object_links_more start now next state after number device place is drawn told put =
    let chosen : number ≡ state_at state (place + 1) / 2 ^ 33 = told ∙ ap (λ (s : ℕ). s / 2 ^ 33) drawn in
    appended start (object_links state device place) now (chosen_links state device (place + 1)) next (object_links state device (place + 1)) is
    (put ∙ ap (λ (r : ℕ). now ++ link_lines device (place + 1) (first_group r) 4) chosen) (each_more (chosen_links state device) 1 place (place + 1) (omega arith))

pub device_whole : (start own objects all : List What) (state : ℕ) (device : IndAddr) → own ≡ start ++ Device device (codes "inline") ∷ [] → objects ≡ own ++ object_lines device 8 → all ≡ objects ++ object_links state device 8
    → all ≡ start ++ device_lines state device
device_whole start own objects all state device a b c =
    appended start (Device device (codes "inline") ∷ object_lines device 8) objects (object_links state device 8) all (device_lines state device)
    (appended start (Device device (codes "inline") ∷ []) own (object_lines device 8) objects (Device device (codes "inline") ∷ object_lines device 8) a b refl) c refl

pub devices_more : (start now next : List What) (seed state d : ℕ) → now ≡ start ++ all_device_lines seed d → state ≡ state_at seed (8 * d) → next ≡ now ++ device_lines state (device_at (d + 1)) → next ≡ start ++ all_device_lines seed (d + 1)
unfolding all_device_lines
devices_more start now next seed state d is drawn put =
    let same : state ≡ state_at seed (8 * (d + 1 - 1)) = drawn ∙ ap (state_at seed) (let e : 8 * d ≡ 8 * (d + 1 - 1) = omega arith in e) in
    appended start (all_device_lines seed d) now (nth_device_lines seed (d + 1)) next (all_device_lines seed (d + 1)) is
    (put ∙ ap (λ (s : ℕ). now ++ device_lines s (device_at (d + 1))) same) (each_more (nth_device_lines seed) 1 d (d + 1) (omega arith))

-- ---- the whole

pub project_whole : (start groups all : List What) (n seed : ℕ) → start ≡ [] → groups ≡ start ++ group_lines 2003 → all ≡ groups ++ all_device_lines seed n → all ≡ project_lines n seed
unfolding project_lines
project_whole start groups all n seed none a b = b ∙ ap (λ xs. xs ++ all_device_lines seed n) (a ∙ ap (λ xs. xs ++ group_lines 2003) none)

pub statements_whole : (all : List What) (statements : List Statement) (n seed : ℕ) → all ≡ project_lines n seed → statements ≡ numbered_from 1 all → statements ≡ generated n seed
unfolding generated
statements_whole all statements n seed whole is = is ∙ ap (numbered_from 1) whole
