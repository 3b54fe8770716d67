-- What the lines of a migrated project say, beside its `send` lines: what those of the project say.
use Rattle.std.proofs.Common.{◌≡◌, ℕ, ◌+◌, Bool, true, false, cond, eqb, List, [], ◌∷◌, ◌++◌, map, Option, Some, None, refl, sym, ap, ◌∙◌}
use Rattle.std.specs.List.{cons_option, filter_map, flat_map, range_with_len}
use Rattle.std.specs.Option.{option_and_then, option_map}
use Rattle.std.proofs.lemmas.List.{append-nil}
use Rattle.std.proofs.lemmas.List.Concat.{flat_map-append}
use Rattle.std.proofs.lemmas.List.Elements.{filter_map-append}
use Rattle.knx_model.specs.declared.address.GroupAddr.{GroupAddr}
use Rattle.knx_model.specs.declared.address.IndAddr.{IndAddr}
use Rattle.knx_model.specs.declared.project.Statement.{Statement}
use Rattle.knx_model.specs.declared.project.What.{What}
use Rattle.knx_model.specs.declared.project.What.TheVariants.{Version, Title, Group, Device, Object, Link, Send, Flags, Param}
use Rattle.knx_model.specs.Meaning.{link_to, links_said, link_lines, last_send, first_group, sending_group}
use Rattle.knx_model.specs.Rules.{first_some}
use Rattle.project_text.specs.Migrated.{link_to_one, one_by_one, kept, send_of, device_at, object_at, sends_below, sends, numbered_from, migrated}

-- ---- lines that are numbered say the same

pub filter_numbered : {A : Type 0} (f : What → Option A) (n : ℕ) (ws : List What) → filter_map (λ s. f s.what) (numbered_from n ws) ≡ filter_map f ws
filter_numbered f n [] = refl
filter_numbered f n (w ∷ ws) = ap (cons_option (f w)) (filter_numbered f (n + 1) ws)

pub flat_numbered : {A : Type 0} (f : What → List A) (n : ℕ) (ws : List What) → flat_map (λ s. f s.what) (numbered_from n ws) ≡ flat_map f ws
flat_numbered f n [] = refl
flat_numbered {A = A} f n (w ∷ ws) = ap (λ (t : List A). f w ++ t) (flat_numbered f (n + 1) ws)

-- the first that f finds, as the first of all that it finds
abbrev pub first_of : {X : Type 0} → List X → Option X
first_of [] = None
first_of (x ∷ xs) = Some x

first_of_cons : {X : Type 0} (o : Option X) (rest : Option X) (xs : List X) → rest ≡ first_of xs → (elim o as (λ _. Option X) [ None ↦ rest | Some x ↦ Some x ]) ≡ first_of (cons_option o xs)
first_of_cons None rest xs e = e
first_of_cons (Some x) rest xs e = refl

pub first_some-filter : {X : Type 0} (f : What → Option X) (ss : List Statement) → first_some f ss ≡ first_of (filter_map (λ s. f s.what) ss)
first_some-filter f [] = refl
first_some-filter f (s ∷ ss) = first_of_cons (f s.what) (first_some f ss) (filter_map (λ s. f s.what) ss) (first_some-filter f ss)

-- ---- lists that are filtered

filter_found : {A : Type 0} (f : What → Option A) (o : Option What) (ws : List What) → filter_map f (cons_option o ws) ≡ cons_option (option_and_then f o) (filter_map f ws)
filter_found f None ws = refl
filter_found f (Some w) ws = refl

pub filter_filter : {A : Type 0} (f : What → Option A) (h : ℕ → Option What) (ks : List ℕ) → filter_map f (filter_map h ks) ≡ filter_map (λ k. option_and_then f (h k)) ks
filter_filter f h [] = refl
filter_filter f h (k ∷ ks) = filter_found f (h k) (filter_map h ks) ∙ ap (cons_option (option_and_then f (h k))) (filter_filter f h ks)

pub filter_none : {A : Type 0} (f : ℕ → Option A) (ks : List ℕ) → ((k : ℕ) → f k ≡ None) → filter_map f ks ≡ []
filter_none f [] none = refl
filter_none f (k ∷ ks) none = rw (none k) (filter_none f ks none)

flat_found : {A : Type 0} (f : What → List A) (o : Option What) (ws : List What) → ((w : What) → o ≡ Some w → f w ≡ []) → flat_map f ws ≡ [] → flat_map f (cons_option o ws) ≡ []
flat_found f None ws none rest = rest
flat_found f (Some w) ws none rest = rw (none w refl) rest

pub flat_none : {A : Type 0} (f : What → List A) (h : ℕ → Option What) (ks : List ℕ) → ((k : ℕ) (w : What) → h k ≡ Some w → f w ≡ []) → flat_map f (filter_map h ks) ≡ []
flat_none f h [] none = refl
flat_none f h (k ∷ ks) none = flat_found f (h k) (filter_map h ks) (none k) (flat_none f h ks none)

-- ---- the `send` lines are `send` lines

abbrev pub send_by : IndAddr → ℕ → Option GroupAddr → Option GroupAddr → Option What
send_by device n first sending = option_and_then (λ x. option_map (λ group. Send device n group) sending) first

pub is_send : (device : IndAddr) (n : ℕ) (first sending : Option GroupAddr) (w : What) → send_by device n first sending ≡ Some w → (g : GroupAddr) × (w ≡ Send device n g)
is_send device n None sending w e = absurd cc
is_send device n (Some x) None w e = absurd cc
is_send device n (Some x) (Some g) w e = (g, cc)

pub sends_none : {A : Type 0} (f : What → List A) (n : ℕ) (ss : List Statement) → ((d : IndAddr) (o : ℕ) (g : GroupAddr) → f (Send d o g) ≡ []) → flat_map f (sends_below n ss) ≡ []
unfolding sends_below
sends_none f n ss none = flat_none f (λ k. send_of ss (device_at k) (object_at k)) (range_with_len 0 n) (λ k w e.
    let d = device_at k in
    let is = is_send d (object_at k) (first_group (link_lines d ss) (object_at k)) (sending_group (last_send d ss) (link_lines d ss) (object_at k)) w e in
    ap f is.1 ∙ none d (object_at k) is.0)

pub all_sends_none : {A : Type 0} (f : What → List A) (ss : List Statement) → ((d : IndAddr) (o : ℕ) (g : GroupAddr) → f (Send d o g) ≡ []) → flat_map f (sends ss) ≡ []
unfolding sends
all_sends_none f ss none = sends_none f 16777216 ss none

-- ---- what no `version`, `link` or `send` line says

pub record IsSilent {A : Type 0} (f : What → Option A) : Type 0 where
  pub version : f Version ≡ None
  pub link : (device : IndAddr) (n : ℕ) (groups : List GroupAddr) → f (Link device n groups) ≡ None
  pub send : (device : IndAddr) (n : ℕ) (group : GroupAddr) → f (Send device n group) ≡ None

one_found : {A : Type 0} (o : Option A) (rest : List A) → cons_option o [] ++ rest ≡ cons_option o rest
one_found None rest = refl
one_found (Some x) rest = refl

no_links : {A : Type 0} (f : What → Option A) → IsSilent f → (device : IndAddr) (n : ℕ) (groups : List GroupAddr) → filter_map f (map (link_to_one device n) groups) ≡ []
no_links f silent device n [] = refl
no_links f silent device n (g ∷ groups) = rw (silent.link device n (g ∷ [])) (no_links f silent device n groups)

one_line : {A : Type 0} (f : What → Option A) → IsSilent f → (w : What) (rest : List A) → filter_map f (one_by_one w) ++ rest ≡ cons_option (f w) rest
one_line f silent Version rest = rw silent.version refl
one_line f silent (Title name) rest = one_found (f (Title name)) rest
one_line f silent (Group group name) rest = one_found (f (Group group name)) rest
one_line f silent (Device device model) rest = one_found (f (Device device model)) rest
one_line f silent (Object device n size flags) rest = one_found (f (Object device n size flags)) rest
one_line f silent (Link device n groups) rest = rw (no_links f silent device n groups, silent.link device n groups) refl
one_line f silent (Send device n group) rest = rw (silent.send device n group) refl
one_line f silent (Flags device n flags) rest = one_found (f (Flags device n flags)) rest
one_line f silent (Param device name value) rest = one_found (f (Param device name value)) rest

kept_say : {A : Type 0} (f : What → Option A) → IsSilent f → (ss : List Statement) → filter_map f (kept ss) ≡ filter_map (λ s. f s.what) ss
unfolding kept
kept_say f silent [] = refl
kept_say f silent (s ∷ ss) =
    filter_map-append f (one_by_one s.what) (flat_map (λ s. one_by_one s.what) ss)
    ∙ one_line f silent s.what (filter_map f (flat_map (λ s. one_by_one s.what) ss))
    ∙ ap (cons_option (f s.what)) (kept_say f silent ss)

quiet_send : {A : Type 0} (f : What → Option A) → ((device : IndAddr) (n : ℕ) (group : GroupAddr) → f (Send device n group) ≡ None) → (device : IndAddr) (n : ℕ) (first sending : Option GroupAddr) → option_and_then f (send_by device n first sending) ≡ None
quiet_send f none device n None sending = refl
quiet_send f none device n (Some x) None = refl
quiet_send f none device n (Some x) (Some g) = none device n g

sends_silent : {A : Type 0} (f : What → Option A) → ((device : IndAddr) (n : ℕ) (group : GroupAddr) → f (Send device n group) ≡ None) → (n : ℕ) (ss : List Statement) → filter_map f (sends_below n ss) ≡ []
unfolding sends_below
sends_silent f none n ss =
    filter_filter f (λ k. send_of ss (device_at k) (object_at k)) (range_with_len 0 n)
    ∙ filter_none (λ k. option_and_then f (send_of ss (device_at k) (object_at k))) (range_with_len 0 n) (λ k.
    let d = device_at k in quiet_send f none d (object_at k) (first_group (link_lines d ss) (object_at k)) (sending_group (last_send d ss) (link_lines d ss) (object_at k)))

-- what no `send` line says, none of the migrated project's says
pub all_silent : {A : Type 0} (f : What → Option A) → ((device : IndAddr) (n : ℕ) (group : GroupAddr) → f (Send device n group) ≡ None) → (ss : List Statement) → filter_map f (sends ss) ≡ []
unfolding sends
all_silent f none ss = sends_silent f none 16777216 ss

-- the migrated project says it as the project does
pub migrated_say : {A : Type 0} (f : What → Option A) → IsSilent f → (ss : List Statement) → filter_map (λ s. f s.what) (migrated ss) ≡ filter_map (λ s. f s.what) ss
unfolding migrated
migrated_say {A = A} f silent ss =
    filter_numbered f 1 ((Version ∷ kept ss) ++ sends ss)
    ∙ rw silent.version (filter_map-append f (kept ss) (sends ss) ∙ ap (λ (t : List A). filter_map f (kept ss) ++ t) (all_silent f silent.send ss) ∙ append-nil (filter_map f (kept ss)) ∙ kept_say f silent ss)

pub migrated_first : {A : Type 0} (f : What → Option A) → IsSilent f → (ss : List Statement) → first_some f (migrated ss) ≡ first_some f ss
migrated_first f silent ss = first_some-filter f (migrated ss) ∙ ap first_of (migrated_say f silent ss) ∙ sym (first_some-filter f ss)

-- ---- the links

one_by_one_links : (device of : IndAddr) (b : Bool) (n : ℕ) (groups : List GroupAddr) → eqb of.raw device.raw ≡ b → flat_map (links_said device) (map (link_to_one of n) groups) ≡ cond b (map (link_to n) groups) []
one_by_one_links device of true n [] e = refl
one_by_one_links device of false n [] e = refl
one_by_one_links device of true n (g ∷ groups) e = rw e (ap (λ (t : List (ℕ × GroupAddr)). link_to n g ∷ t) (one_by_one_links device of true n groups e))
one_by_one_links device of false n (g ∷ groups) e = rw e (one_by_one_links device of false n groups e)

line_links : (device : IndAddr) (w : What) → flat_map (links_said device) (one_by_one w) ≡ links_said device w
line_links device Version = refl
line_links device (Title name) = refl
line_links device (Group group name) = refl
line_links device (Device of model) = refl
line_links device (Object of n size flags) = refl
line_links device (Link of n groups) = one_by_one_links device of (eqb of.raw device.raw) n groups refl
line_links device (Send of n group) = refl
line_links device (Flags of n flags) = refl
line_links device (Param of name value) = refl

kept_links : (device : IndAddr) (ss : List Statement) → flat_map (links_said device) (kept ss) ≡ link_lines device ss
unfolding kept
kept_links device [] = refl
kept_links device (s ∷ ss) =
    flat_map-append (links_said device) (one_by_one s.what) (flat_map (λ s. one_by_one s.what) ss)
    ∙ ap (λ (t : List (ℕ × GroupAddr)). t ++ flat_map (links_said device) (flat_map (λ s. one_by_one s.what) ss)) (line_links device s.what)
    ∙ ap (λ (t : List (ℕ × GroupAddr)). links_said device s.what ++ t) (kept_links device ss)

pub migrated_links : (device : IndAddr) (ss : List Statement) → link_lines device (migrated ss) ≡ link_lines device ss
unfolding migrated
migrated_links device ss =
    flat_numbered (links_said device) 1 ((Version ∷ kept ss) ++ sends ss)
    ∙ flat_map-append (links_said device) (kept ss) (sends ss)
    ∙ ap (λ (t : List (ℕ × GroupAddr)). flat_map (links_said device) (kept ss) ++ t) (all_sends_none (links_said device) ss (λ d o g. refl))
    ∙ append-nil (flat_map (links_said device) (kept ss))
    ∙ kept_links device ss
