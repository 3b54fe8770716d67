-- The last `send` line of an object in a migrated project: that of its sending address, where it has links.
use Rattle.std.proofs.Common.{◌≡◌, ◌≢◌, ℕ, zero, suc, ◌+◌, ◌*◌, ◌/◌, ◌%◌, ◌<◌, ◌≤◌, Bool, true, false, cond, ◌&&◌, eqb, List, [], ◌∷◌, ◌++◌, map, Option, Some, None, refl, ap, ◌∙◌, arith, inl, inr}
use Rattle.std.specs.List.{cons_option, filter_map, flat_map, range_with_len, last_or}
use Rattle.std.specs.Option.{option_and_then, option_or}
use Rattle.std.proofs.lemmas.Bool.{cases_eq, and_parts, eqb-true, eq-eqb}
use Rattle.std.proofs.lemmas.List.Elements.{filter_map-append}
use Rattle.knx_model.specs.declared.address.GroupAddr.{GroupAddr}
use Rattle.knx_model.specs.declared.address.IndAddr.{IndAddr}
use Rattle.knx_model.specs.declared.project.Statement.{Statement}
use Rattle.knx_model.specs.declared.project.What.{What}
use Rattle.knx_model.specs.declared.project.What.TheVariants.{Version, Title, Group, Device, Object, Link, Send, Flags, Param}
use Rattle.knx_model.specs.Meaning.{link_lines, send_line, last_send, first_group, sending_group}
use Rattle.project_text.specs.Migrated.{link_to_one, one_by_one, kept, send_of, device_at, object_at, sends_below, sends, migrated}
use Rattle.project_text.proofs.KeptLines.{filter_numbered, filter_filter, send_by}

-- ---- a list of numbers in which f finds something at one alone

none_above : {A : Type 0} (f : ℕ → Option A) (a n k : ℕ) → k < a → ((j : ℕ) → j ≢ k → f j ≡ None) → filter_map f (range_with_len a n) ≡ []
none_above f a zero k lt none = refl
none_above f a (suc n) k lt none = rw (none a (λ e. omega (arith, lt, e))) (none_above f (a + 1) n k (omega (arith, lt)) none)

found_alone : {A : Type 0} (f : ℕ → Option A) (a n k : ℕ) → a ≤ k → k < a + n → ((j : ℕ) → j ≢ k → f j ≡ None) → filter_map f (range_with_len a n) ≡ cons_option (f k) []
found_alone f a zero k from below none = absurd (omega (arith, from, below))
found_alone {A = A} f a (suc n) k from below none = elim (cases_eq a k) [
  | inl same ↦ ap (λ (t : List A). cons_option (f a) t) (none_above f (a + 1) n k (omega (arith, same)) none) ∙ ap (λ (j : ℕ). cons_option (f j) []) same
  | inr apart ↦ rw (none a apart) (found_alone f (a + 1) n k (omega (arith, from, apart)) (omega (arith, below)) none)
]

pub same_range : {A : Type 0} (f g : ℕ → Option A) (a n : ℕ) → ((j : ℕ) → j < a + n → f j ≡ g j) → filter_map f (range_with_len a n) ≡ filter_map g (range_with_len a n)
same_range f g a zero same = refl
same_range {A = A} f g a (suc n) same =
    ap (λ (o : Option A). cons_option o (filter_map f (range_with_len (a + 1) n))) (same a (omega arith))
    ∙ ap (cons_option (g a)) (same_range f g (a + 1) n (λ j lt. same j (omega (arith, lt))))

-- ---- the `send` line of an object stands at its place alone

-- the sending address of an object that has links
abbrev pub linked_sending : Option GroupAddr → Option GroupAddr → Option GroupAddr
linked_sending first sending = option_and_then (λ x. sending) first

sent : (device of : IndAddr) (n o : ℕ) (b : Bool) (first sending : Option GroupAddr) → (eqb of.raw device.raw && eqb o n) ≡ b → option_and_then (send_line device n) (send_by of o first sending) ≡ cond b (linked_sending first sending) None
sent device of n o true None sending e = refl
sent device of n o false None sending e = refl
sent device of n o true (Some x) None e = refl
sent device of n o false (Some x) None e = refl
sent device of n o true (Some x) (Some g) e = rw e refl
sent device of n o false (Some x) (Some g) e = rw e refl

abbrev sent_at : List Statement → IndAddr → ℕ → ℕ → Option GroupAddr
sent_at ss device n k = option_and_then (send_line device n) (send_of ss (device_at k) (object_at k))

abbrev sending_in : List Statement → IndAddr → ℕ → Option GroupAddr
sending_in ss device n = sending_group (last_send device ss) (link_lines device ss) n

-- at another place it isn't
sent_elsewhere : (ss : List Statement) (device : IndAddr) (n j : ℕ) → n < 256 → j ≢ device.raw * 256 + n → sent_at ss device n j ≡ None
sent_elsewhere ss device n j small apart = by (eqb (j / 256) device.raw && eqb (j % 256) n) refl
  where
    by : (b : Bool) → (eqb (j / 256) device.raw && eqb (j % 256) n) ≡ b → sent_at ss device n j ≡ None
    by true e = absurd (let h = and_parts (eqb (j / 256) device.raw) (eqb (j % 256) n) e in
        let a : j / 256 ≡ device.raw = eqb-true (j / 256) device.raw h.0 in
        let b : j % 256 ≡ n = eqb-true (j % 256) n h.1 in
        apart (omega (arith, a, b)))
    by false e = sent device (device_at j) n (object_at j) false (first_group (link_lines (device_at j) ss) (object_at j)) (sending_in ss (device_at j) (object_at j)) e

sent_there : (ss : List Statement) (device : IndAddr) (n : ℕ) → n < 256 → sent_at ss device n (device.raw * 256 + n) ≡ linked_sending (first_group (link_lines device ss) n) (sending_in ss device n)
sent_there ss device n small =
    let k : ℕ = device.raw * 256 + n in
    let d : k / 256 ≡ device.raw = omega (arith, small) in
    let o : k % 256 ≡ n = omega (arith, small) in
    let there : device_at k ≡ device = ap (λ (r : ℕ). let i : IndAddr = record { raw = r } in i) d in
    ap (λ (i : IndAddr). option_and_then (send_line device n) (send_of ss i (object_at k))) there
    ∙ ap (λ (m : ℕ). option_and_then (send_line device n) (send_of ss device m)) o
    ∙ sent device device n n true (first_group (link_lines device ss) n) (sending_in ss device n) (rw (eq-eqb device.raw device.raw refl, eq-eqb n n refl) refl)

sent_below : (ss : List Statement) (device : IndAddr) (n most : ℕ) → n < 256 → device.raw * 256 + n < most
    → filter_map (send_line device n) (sends_below most ss) ≡ cons_option (linked_sending (first_group (link_lines device ss) n) (sending_in ss device n)) []
unfolding sends_below
sent_below ss device n most small within =
    filter_filter (send_line device n) (λ k. send_of ss (device_at k) (object_at k)) (range_with_len 0 most)
    ∙ found_alone (sent_at ss device n) 0 most (device.raw * 256 + n) (omega arith) (omega (arith, within)) (λ j apart. sent_elsewhere ss device n j small apart)
    ∙ ap (λ (o : Option GroupAddr). cons_option o []) (sent_there ss device n small)

sent_in_all : (ss : List Statement) (device : IndAddr) (n : ℕ) → n < 256 → device.raw * 256 + n < 16777216
    → filter_map (send_line device n) (sends ss) ≡ cons_option (linked_sending (first_group (link_lines device ss) n) (sending_in ss device n)) []
unfolding sends
sent_in_all ss device n small within = sent_below ss device n 16777216 small within

-- ---- the lines that stay are no `send` lines

no_sends : (device : IndAddr) (n : ℕ) (of : IndAddr) (o : ℕ) (groups : List GroupAddr) → filter_map (send_line device n) (map (link_to_one of o) groups) ≡ []
no_sends device n of o [] = refl
no_sends device n of o (g ∷ groups) = no_sends device n of o groups

stays_no_send : (device : IndAddr) (n : ℕ) (w : What) → filter_map (send_line device n) (one_by_one w) ≡ []
stays_no_send device n Version = refl
stays_no_send device n (Title name) = refl
stays_no_send device n (Group group name) = refl
stays_no_send device n (Device of model) = refl
stays_no_send device n (Object of o size flags) = refl
stays_no_send device n (Link of o groups) = no_sends device n of o groups
stays_no_send device n (Send of o group) = refl
stays_no_send device n (Flags of o flags) = refl
stays_no_send device n (Param of name value) = refl

kept_no_sends : (device : IndAddr) (n : ℕ) (ss : List Statement) → filter_map (send_line device n) (kept ss) ≡ []
unfolding kept
kept_no_sends device n [] = refl
kept_no_sends device n (s ∷ ss) =
    filter_map-append (send_line device n) (one_by_one s.what) (flat_map (λ s. one_by_one s.what) ss)
    ∙ ap (λ (t : List GroupAddr). t ++ filter_map (send_line device n) (flat_map (λ s. one_by_one s.what) ss)) (stays_no_send device n s.what)
    ∙ kept_no_sends device n ss

-- ---- the whole

last_alone : {A : Type 0} (o : Option A) → last_or None (cons_option o []) ≡ o
last_alone None = refl
last_alone (Some x) = refl

pub migrated_send : (device : IndAddr) (n : ℕ) (ss : List Statement) → n < 256 → device.raw * 256 + n < 16777216
    → last_send device (migrated ss) n ≡ linked_sending (first_group (link_lines device ss) n) (sending_in ss device n)
unfolding migrated
migrated_send device n ss small within =
    ap (last_or None) (
    filter_numbered (send_line device n) 1 ((Version ∷ kept ss) ++ sends ss)
    ∙ filter_map-append (send_line device n) (kept ss) (sends ss)
    ∙ ap (λ (t : List GroupAddr). t ++ filter_map (send_line device n) (sends ss)) (kept_no_sends device n ss)
    ∙ sent_in_all ss device n small within)
    ∙ last_alone (linked_sending (first_group (link_lines device ss) n) (sending_in ss device n))

-- the sending address of an object that has links stays
pub sending_stays : (device : IndAddr) (n : ℕ) (ss : List Statement) (first : GroupAddr) → n < 256 → device.raw * 256 + n < 16777216 → first_group (link_lines device ss) n ≡ Some first
    → sending_group (last_send device (migrated ss)) (link_lines device ss) n ≡ sending_group (last_send device ss) (link_lines device ss) n
sending_stays device n ss first small within has =
    ap (λ (o : Option GroupAddr). option_or o (first_group (link_lines device ss) n)) (migrated_send device n ss small within)
    ∙ rw has (twice (last_send device ss n))
  where
    twice : (o : Option GroupAddr) → option_or (option_or o (Some first)) (Some first) ≡ option_or o (Some first)
    twice None = refl
    twice (Some g) = refl
