-- Tests of the lines of a migrated project, and counts of them: what they say of the project's own.
use Rattle.std.proofs.Common.{◌≡◌, ℕ, ◌+◌, Bool, true, false, cond, ◌&&◌, ◌||◌, eqb, List, [], ◌∷◌, ◌++◌, length, map, Option, Some, None, refl, sym, ap, ◌∙◌, arith}
use Rattle.std.specs.Prelude.{sum_by}
use Rattle.std.specs.List.{cons_option, filter_map, flat_map, list_any, range_with_len}
use Rattle.std.proofs.lemmas.List.{append-nil}
use Rattle.std.proofs.lemmas.List.Elements.{filter_map-append}
use Rattle.std.proofs.lemmas.List.Folds.{list_any-append}
use Rattle.std.proofs.lemmas.List.Sums.{sum_by-append, sum_by-cons}
use Rattle.knx_model.specs.declared.address.GroupAddr.{GroupAddr}
use Rattle.knx_model.specs.declared.address.IndAddr.{IndAddr}
use Rattle.knx_model.specs.declared.project.Statement.{Statement}
use Rattle.knx_model.specs.declared.project.What.{What}
use Rattle.knx_model.specs.declared.project.What.TheVariants.{Version, Title, Group, Device, Object, Link, Send, Flags, Param}
use Rattle.knx_model.specs.Meaning.{link_lines, last_send, first_group, sending_group}
use Rattle.knx_model.specs.Rules.{some_line, count_lines, count_links, has_group, links_to, links_of_device, is_device_line, linked_in, first_linked}
use Rattle.project_text.specs.Migrated.{link_to_one, one_by_one, kept, send_of, device_at, object_at, sends_below, sends, numbered_from, migrated}
use Rattle.project_text.proofs.KeptLines.{filter_numbered, first_of, first_some-filter, is_send, all_silent}

-- ---- some line passes

pub any_numbered : (t : What → Bool) (n : ℕ) (ws : List What) → some_line t (numbered_from n ws) ≡ list_any t ws
any_numbered t n [] = refl
any_numbered t n (w ∷ ws) = ap (λ (b : Bool). t w || b) (any_numbered t (n + 1) ws)

-- the test says of what a line becomes what it says of the line
abbrev pub IsFair : (What → Bool) → Type 0
IsFair t = (w : What) → list_any t (one_by_one w) ≡ t w

-- no `send` line passes
abbrev pub PassesNoSend : (What → Bool) → Type 0
PassesNoSend t = (device : IndAddr) (n : ℕ) (group : GroupAddr) → t (Send device n group) ≡ false

any_kept : (t : What → Bool) → IsFair t → (ss : List Statement) → list_any t (kept ss) ≡ some_line t ss
unfolding kept
any_kept t fair [] = refl
any_kept t fair (s ∷ ss) =
    list_any-append t (one_by_one s.what) (flat_map (λ s. one_by_one s.what) ss)
    ∙ ap (λ (b : Bool). b || list_any t (flat_map (λ s. one_by_one s.what) ss)) (fair s.what)
    ∙ ap (λ (b : Bool). t s.what || b) (any_kept t fair ss)

any_found : (t : What → Bool) (o : Option What) (ws : List What) → ((w : What) → o ≡ Some w → t w ≡ false) → list_any t ws ≡ false → list_any t (cons_option o ws) ≡ false
any_found t None ws none rest = rest
any_found t (Some w) ws none rest = rw (none w refl) rest

any_none : (t : What → Bool) (h : ℕ → Option What) (ks : List ℕ) → ((k : ℕ) (w : What) → h k ≡ Some w → t w ≡ false) → list_any t (filter_map h ks) ≡ false
any_none t h [] none = refl
any_none t h (k ∷ ks) none = any_found t (h k) (filter_map h ks) (none k) (any_none t h ks none)

any_sends_below : (t : What → Bool) → PassesNoSend t → (n : ℕ) (ss : List Statement) → list_any t (sends_below n ss) ≡ false
unfolding sends_below
any_sends_below t none n ss = any_none t (λ k. send_of ss (device_at k) (object_at k)) (range_with_len 0 n) (λ k w e.
    let d = device_at k in
    let is = is_send d (object_at k) (first_group (link_lines d ss) (object_at k)) (sending_group (last_send d ss) (link_lines d ss) (object_at k)) w e in
    ap t is.1 ∙ none d (object_at k) is.0)

any_sends : (t : What → Bool) → PassesNoSend t → (ss : List Statement) → list_any t (sends ss) ≡ false
unfolding sends
any_sends t none ss = any_sends_below t none 16777216 ss

or_false : (b : Bool) → (b || false) ≡ b
or_false true = refl
or_false false = refl

-- the lines that stay, behind the line `version 2`
pub any_before : (t : What → Bool) → IsFair t → (ss : List Statement) → some_line t (numbered_from 1 (Version ∷ kept ss)) ≡ some_line t ss
any_before t fair ss = any_numbered t 1 (Version ∷ kept ss) ∙ ap (λ (b : Bool). b || list_any t (kept ss)) (sym (fair Version)) ∙ any_kept t fair ss

pub any_migrated : (t : What → Bool) → IsFair t → PassesNoSend t → (ss : List Statement) → some_line t (migrated ss) ≡ some_line t ss
unfolding migrated
any_migrated t fair none ss =
    any_numbered t 1 ((Version ∷ kept ss) ++ sends ss)
    ∙ ap (λ (b : Bool). b || list_any t (kept ss ++ sends ss)) (sym (fair Version))
    ∙ list_any-append t (kept ss) (sends ss)
    ∙ ap (λ (b : Bool). list_any t (kept ss) || b) (any_sends t none ss)
    ∙ or_false (list_any t (kept ss))
    ∙ any_kept t fair ss

any_links_none : (t : What → Bool) → ((device : IndAddr) (n : ℕ) (groups : List GroupAddr) → t (Link device n groups) ≡ false) → (device : IndAddr) (n : ℕ) (groups : List GroupAddr) → list_any t (map (link_to_one device n) groups) ≡ false
any_links_none t none device n [] = refl
any_links_none t none device n (g ∷ groups) = rw (none device n (g ∷ [])) (any_links_none t none device n groups)

-- a test that no `version`, `link` or `send` line passes
pub fair : (t : What → Bool) → t Version ≡ false → ((device : IndAddr) (n : ℕ) (groups : List GroupAddr) → t (Link device n groups) ≡ false) → PassesNoSend t → IsFair t
fair t version link send Version = sym version
fair t version link send (Title name) = or_false (t (Title name))
fair t version link send (Group group name) = or_false (t (Group group name))
fair t version link send (Device device model) = or_false (t (Device device model))
fair t version link send (Object device n size flags) = or_false (t (Object device n size flags))
fair t version link send (Link device n groups) = any_links_none t link device n groups ∙ sym (link device n groups)
fair t version link send (Send device n group) = sym (send device n group)
fair t version link send (Flags device n flags) = or_false (t (Flags device n flags))
fair t version link send (Param device name value) = or_false (t (Param device name value))

and_false : (b : Bool) → false ≡ (b && false)
and_false true = refl
and_false false = refl

distributes : (p q r : Bool) → ((p && (q || false)) || (p && r)) ≡ (p && (q || r))
distributes true true r = refl
distributes true false r = refl
distributes false q r = refl

any_linked : (d n g : ℕ) (of : IndAddr) (o : ℕ) (groups : List GroupAddr) → list_any (links_to d n g) (map (link_to_one of o) groups) ≡ links_to d n g (Link of o groups)
any_linked d n g of o [] = and_false (eqb of.raw d && eqb o n)
any_linked d n g of o (x ∷ groups) =
    ap (λ (b : Bool). links_to d n g (link_to_one of o x) || b) (any_linked d n g of o groups) ∙ distributes (eqb of.raw d && eqb o n) (eqb x.raw g) (has_group g groups)

pub fair_links : (d n g : ℕ) → IsFair (links_to d n g)
fair_links d n g Version = refl
fair_links d n g (Title name) = refl
fair_links d n g (Group group name) = refl
fair_links d n g (Device device model) = refl
fair_links d n g (Object device number size flags) = refl
fair_links d n g (Link device object groups) = any_linked d n g device object groups
fair_links d n g (Send device object group) = refl
fair_links d n g (Flags device object flags) = refl
fair_links d n g (Param device name value) = refl

-- ---- how many

sum_numbered : (f : What → ℕ) (n : ℕ) (ws : List What) → sum_by (λ s. f s.what) (numbered_from n ws) ≡ sum_by f ws
sum_numbered f n [] = refl
sum_numbered f n (w ∷ ws) =
    let rest = numbered_from (n + 1) ws in
    omega (arith, sum_by-cons (λ (s : Statement). f s.what) (record { line = n; what = w }) rest, sum_by-cons f w ws, sum_numbered f (n + 1) ws)

pub sum_more : (f : What → ℕ) (n : ℕ) (ws : List What) (w : What) → sum_by (λ s. f s.what) (numbered_from n (ws ++ w ∷ [])) ≡ sum_by (λ s. f s.what) (numbered_from n ws) + f w
sum_more f n ws w = omega (arith, sum_numbered f n (ws ++ w ∷ []), sum_numbered f n ws, sum_by-append f ws (w ∷ []), sum_by-cons f w [])

sum_kept : (f : What → ℕ) → ((w : What) → sum_by f (one_by_one w) ≡ f w) → (ss : List Statement) → sum_by f (kept ss) ≡ sum_by (λ s. f s.what) ss
unfolding kept
sum_kept f one [] = refl
sum_kept f one (s ∷ ss) =
    omega (arith, sum_by-append f (one_by_one s.what) (flat_map (λ s. one_by_one s.what) ss), one s.what, sum_kept f one ss, sum_by-cons (λ (s : Statement). f s.what) s ss)

sum_before : (f : What → ℕ) → ((w : What) → sum_by f (one_by_one w) ≡ f w) → f Version ≡ 0 → (ss : List Statement) → sum_by (λ s. f s.what) (numbered_from 1 (Version ∷ kept ss)) ≡ sum_by (λ s. f s.what) ss
sum_before f one version ss = omega (arith, sum_numbered f 1 (Version ∷ kept ss), sum_by-cons f Version (kept ss), version, sum_kept f one ss)

sum_one : (f : What → ℕ) (w : What) → sum_by f (w ∷ []) ≡ f w
sum_one f w = omega (arith, sum_by-cons f w [])

abbrev device_line : What → ℕ
device_line w = cond (is_device_line w) 1 0

no_device_lines : (device : IndAddr) (n : ℕ) (groups : List GroupAddr) → sum_by device_line (map (link_to_one device n) groups) ≡ 0
no_device_lines device n [] = refl
no_device_lines device n (g ∷ groups) = omega (arith, sum_by-cons device_line (link_to_one device n g) (map (link_to_one device n) groups), no_device_lines device n groups)

one_device_line : (w : What) → sum_by device_line (one_by_one w) ≡ device_line w
one_device_line Version = refl
one_device_line (Title name) = sum_one device_line (Title name)
one_device_line (Group group name) = sum_one device_line (Group group name)
one_device_line (Device device model) = sum_one device_line (Device device model)
one_device_line (Object device n size flags) = sum_one device_line (Object device n size flags)
one_device_line (Link device n groups) = no_device_lines device n groups
one_device_line (Send device n group) = refl
one_device_line (Flags device n flags) = sum_one device_line (Flags device n flags)
one_device_line (Param device name value) = sum_one device_line (Param device name value)

pub devices_before : (ss : List Statement) → count_lines is_device_line (numbered_from 1 (Version ∷ kept ss)) ≡ count_lines is_device_line ss
devices_before ss = sum_before device_line one_device_line refl ss

single_links : (d : ℕ) (of : IndAddr) (n : ℕ) (b : Bool) (groups : List GroupAddr) → eqb of.raw d ≡ b → sum_by (links_of_device d) (map (link_to_one of n) groups) ≡ cond b (length groups) 0
single_links d of n true [] e = refl
single_links d of n false [] e = refl
single_links d of n true (g ∷ groups) e =
    let here : links_of_device d (link_to_one of n g) ≡ 1 = rw e refl in
    omega (arith, here, sum_by-cons (links_of_device d) (link_to_one of n g) (map (link_to_one of n) groups), single_links d of n true groups e)
single_links d of n false (g ∷ groups) e =
    let here : links_of_device d (link_to_one of n g) ≡ 0 = rw e refl in
    omega (arith, here, sum_by-cons (links_of_device d) (link_to_one of n g) (map (link_to_one of n) groups), single_links d of n false groups e)

line_links : (d : ℕ) (w : What) → sum_by (links_of_device d) (one_by_one w) ≡ links_of_device d w
line_links d Version = refl
line_links d (Title name) = sum_one (links_of_device d) (Title name)
line_links d (Group group name) = sum_one (links_of_device d) (Group group name)
line_links d (Device device model) = sum_one (links_of_device d) (Device device model)
line_links d (Object device n size flags) = sum_one (links_of_device d) (Object device n size flags)
line_links d (Link device n groups) = single_links d device n (eqb device.raw d) groups refl
line_links d (Send device n group) = refl
line_links d (Flags device n flags) = sum_one (links_of_device d) (Flags device n flags)
line_links d (Param device name value) = sum_one (links_of_device d) (Param device name value)

pub links_before : (d : ℕ) (ss : List Statement) → count_links d (numbered_from 1 (Version ∷ kept ss)) ≡ count_links d ss
links_before d ss = sum_before (links_of_device d) (line_links d) refl ss

-- ---- the first line that links a group

first_behind : {X : Type 0} (o : Option X) (rest rest' : List X) → first_of rest ≡ first_of rest' → first_of (cons_option o rest) ≡ first_of (cons_option o rest')
first_behind None rest rest' e = e
first_behind (Some x) rest rest' e = refl

first_alone : {X : Type 0} (o : Option X) (rest rest' : List X) → first_of rest ≡ first_of rest' → first_of (cons_option o [] ++ rest) ≡ first_of (cons_option o rest')
first_alone None rest rest' e = e
first_alone (Some x) rest rest' e = refl

abbrev Place : Type 0
Place = ℕ × ℕ

groups_first : (g : ℕ) (of : IndAddr) (n : ℕ) (groups : List GroupAddr) (rest rest' : List Place) → first_of rest ≡ first_of rest'
    → first_of (filter_map (linked_in g) (map (link_to_one of n) groups) ++ rest) ≡ first_of (cons_option (linked_in g (Link of n groups)) rest')
groups_first g of n [] rest rest' e = e
groups_first g of n (x ∷ groups) rest rest' e = by (eqb x.raw g) (groups_first g of n groups rest rest' e)
  where
    by : (b : Bool) → first_of (filter_map (linked_in g) (map (link_to_one of n) groups) ++ rest) ≡ first_of (cons_option (cond (has_group g groups) (Some (of.raw, n)) None) rest')
        → first_of (cons_option (cond (b || false) (Some (of.raw, n)) None) (filter_map (linked_in g) (map (link_to_one of n) groups)) ++ rest) ≡ first_of (cons_option (cond (b || has_group g groups) (Some (of.raw, n)) None) rest')
    by true later = refl
    by false later = later

line_first : (g : ℕ) (w : What) (rest rest' : List Place) → first_of rest ≡ first_of rest' → first_of (filter_map (linked_in g) (one_by_one w) ++ rest) ≡ first_of (cons_option (linked_in g w) rest')
line_first g Version rest rest' e = e
line_first g (Title name) rest rest' e = e
line_first g (Group group name) rest rest' e = e
line_first g (Device device model) rest rest' e = e
line_first g (Object device n size flags) rest rest' e = e
line_first g (Link device n groups) rest rest' e = groups_first g device n groups rest rest' e
line_first g (Send device n group) rest rest' e = e
line_first g (Flags device n flags) rest rest' e = e
line_first g (Param device name value) rest rest' e = e

kept_first : (g : ℕ) (ss : List Statement) → first_of (filter_map (linked_in g) (kept ss)) ≡ first_of (filter_map (λ s. linked_in g s.what) ss)
unfolding kept
kept_first g [] = refl
kept_first g (s ∷ ss) =
    ap first_of (filter_map-append (linked_in g) (one_by_one s.what) (flat_map (λ s. one_by_one s.what) ss))
    ∙ line_first g s.what (filter_map (linked_in g) (flat_map (λ s. one_by_one s.what) ss)) (filter_map (λ s. linked_in g s.what) ss) (kept_first g ss)

pub migrated_linked : (ss : List Statement) (g : ℕ) → first_linked (migrated ss) g ≡ first_linked ss g
unfolding migrated
migrated_linked ss g =
    first_some-filter (linked_in g) (numbered_from 1 ((Version ∷ kept ss) ++ sends ss))
    ∙ ap first_of (filter_numbered (linked_in g) 1 ((Version ∷ kept ss) ++ sends ss) ∙ filter_map-append (linked_in g) (kept ss) (sends ss)
    ∙ ap (λ (t : List Place). filter_map (linked_in g) (kept ss) ++ t) (all_silent (linked_in g) (λ d n x. refl) ss) ∙ append-nil (filter_map (linked_in g) (kept ss)))
    ∙ kept_first g ss
    ∙ sym (first_some-filter (linked_in g) ss)
