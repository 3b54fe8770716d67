-- A migrated project can be spelled, in lines that ascend from 1, so it is read again from its text; and migrated once more it stays.
use Rattle.std.proofs.Common.{◌≡◌, ℕ, ◌+◌, ◌*◌, ◌%◌, ◌<◌, ◌≤◌, Bool, true, false, cond, not, ◌&&◌, eqb, ltb, List, [], ◌∷◌, ◌++◌, length, map, All, Option, Some, None, Ok, refl, sym, ap, ◌∙◌, subst, arith}
use Rattle.std.specs.Prelude.{IsSome}
use Rattle.std.proofs.Common.{get_or}
use Rattle.std.proofs.lemmas.List.Sums.{AllPass-from_list_all}
use Rattle.std.specs.List.{cons_option, filter_map, flat_map, last_or, list_all, range_with_len}
use Rattle.std.specs.Option.{option_or}
use Rattle.std.proofs.lemmas.Option.{same_Some}
use Rattle.std.proofs.lemmas.Bool.{and_parts, and_from, eqb-true, ltb-true, lt-ltb}
use Rattle.std.proofs.lemmas.List.{append-nil}
use Rattle.std.proofs.lemmas.List.Concat.{flat_map-append}
use Rattle.std.proofs.lemmas.List.Elements.{All-head, All-tail}
use Rattle.std.proofs.lemmas.List.Folds.{list_all-append}
use Rattle.knx_model.specs.declared.address.GroupAddr.{GroupAddr}
use Rattle.knx_model.specs.declared.address.IndAddr.{IndAddr}
use Rattle.knx_model.specs.declared.project.Statement.{Statement}
use Rattle.knx_model.specs.declared.project.TextVersion.{TextVersion}
use Rattle.knx_model.specs.declared.project.TextVersion.TheVariants.{One, Two}
use Rattle.knx_model.specs.declared.project.What.{What}
use Rattle.knx_model.specs.declared.project.What.TheVariants.{Version, Title, Group, Device, Object, Link, Send, Flags, Param}
use Rattle.knx_model.specs.LeastLine.{lines_ascend}
use Rattle.knx_model.specs.Meaning.{link_lines, send_line, last_send, first_group, sending_group}
use Rattle.knx_model.specs.Statements.{statement, is_version, is_spellable, are_spelled, are_spellable, are_numbered, version_of, is_device, is_object, is_group, are_groups, reading}
use Rattle.project_text.specs.Migrated.{link_to_one, one_by_one, kept, send_of, device_at, object_at, sends_below, sends, numbered_from, numbered_after, migrated}
use Rattle.project_text.specs.Printing.{printed, renumbered_from}
use Rattle.project_text.proofs.Again.{reading_again}
use Rattle.project_text.proofs.Appending.{after_both}
use Rattle.project_text.proofs.KeptLines.{flat_numbered, all_sends_none, send_by, migrated_links}
use Rattle.project_text.proofs.SendLines.{same_range, sending_stays}
use Rattle.project_text.proofs.SameMeaning.{IsLinked, lines_linked, same_meaning}
use Rattle.knx_model.specs.declared.catalogue.model.NamedModel.{NamedModel}
use Rattle.knx_model.specs.Meaning.{meaning}

-- ---- migrated twice

again_single : (device : IndAddr) (n : ℕ) (groups : List GroupAddr) → flat_map one_by_one (map (link_to_one device n) groups) ≡ map (link_to_one device n) groups
again_single device n [] = refl
again_single device n (g ∷ groups) = ap (λ (t : List What). link_to_one device n g ∷ t) (again_single device n groups)

again_one : (w : What) → flat_map one_by_one (one_by_one w) ≡ one_by_one w
again_one Version = refl
again_one (Title name) = refl
again_one (Group group name) = refl
again_one (Device of model) = refl
again_one (Object of n size flags) = refl
again_one (Link of n groups) = again_single of n groups
again_one (Send of n group) = refl
again_one (Flags of n flags) = refl
again_one (Param of name value) = refl

again_kept : (ss : List Statement) → flat_map one_by_one (kept ss) ≡ kept ss
unfolding kept
again_kept [] = refl
again_kept (s ∷ ss) =
    flat_map-append one_by_one (one_by_one s.what) (flat_map (λ s. one_by_one s.what) ss)
    ∙ ap (λ (t : List What). t ++ flat_map one_by_one (flat_map (λ s. one_by_one s.what) ss)) (again_one s.what)
    ∙ ap (λ (t : List What). one_by_one s.what ++ t) (again_kept ss)

kept_stay : (ss : List Statement) → kept (migrated ss) ≡ kept ss
unfolding kept migrated
kept_stay ss =
    flat_numbered one_by_one 1 ((Version ∷ kept ss) ++ sends ss)
    ∙ flat_map-append one_by_one (kept ss) (sends ss)
    ∙ ap (λ (t : List What). flat_map one_by_one (kept ss) ++ t) (all_sends_none one_by_one ss (λ d o g. refl))
    ∙ append-nil (flat_map one_by_one (kept ss))
    ∙ again_kept ss

send_stays : (ss : List Statement) (k : ℕ) → k < 16777216 → send_of (migrated ss) (device_at k) (object_at k) ≡ send_of ss (device_at k) (object_at k)
send_stays ss k below =
    let d : IndAddr = device_at k in
    let n : ℕ = object_at k in
    ap (λ (lines : List (ℕ × GroupAddr)). send_by d n (first_group lines n) (sending_group (last_send d (migrated ss)) lines n)) (migrated_links d ss)
    ∙ by d n (first_group (link_lines d ss) n) refl (omega arith) (omega (arith, below))
  where
    by : (d : IndAddr) (n : ℕ) (first : Option GroupAddr) → first_group (link_lines d ss) n ≡ first → n < 256 → d.raw * 256 + n < 16777216
        → send_by d n (first_group (link_lines d ss) n) (sending_group (last_send d (migrated ss)) (link_lines d ss) n) ≡ send_by d n (first_group (link_lines d ss) n) (sending_group (last_send d ss) (link_lines d ss) n)
    by d n None e small within = rw e refl
    by d n (Some g) e small within = ap (λ (o : Option GroupAddr). send_by d n (first_group (link_lines d ss) n) o) (sending_stays d n ss g small within e)

sends_stay_below : (ss : List Statement) (most : ℕ) → most ≤ 16777216 → sends_below most (migrated ss) ≡ sends_below most ss
unfolding sends_below
sends_stay_below ss most le = same_range (λ k. send_of (migrated ss) (device_at k) (object_at k)) (λ k. send_of ss (device_at k) (object_at k)) 0 most (λ k lt. send_stays ss k (omega (arith, lt, le)))

sends_stay : (ss : List Statement) → sends (migrated ss) ≡ sends ss
unfolding sends
sends_stay ss = sends_stay_below ss 16777216 (omega arith)

whole : List What → List What → List Statement
whole kept sends = numbered_from 1 ((Version ∷ kept) ++ sends)

migrated_whole : (ss : List Statement) → migrated ss ≡ whole (kept ss) (sends ss)
unfolding migrated whole
migrated_whole ss = refl

-- migrated twice is migrated once
pub twice : (ss : List Statement) → migrated (migrated ss) ≡ migrated ss
twice ss =
    migrated_whole (migrated ss)
    ∙ ap (λ (t : List What). whole t (sends (migrated ss))) (kept_stay ss)
    ∙ ap (λ (t : List What). whole (kept ss) t) (sends_stay ss)
    ∙ sym (migrated_whole ss)

-- ---- its lines ascend from 1

ascend : (n : ℕ) (ws : List What) → lines_ascend (λ s. s.line) n (numbered_from (n + 1) ws) ≡ true
ascend n [] = refl
ascend n (w ∷ ws) = and_from _ _ (lt-ltb n (n + 1) (omega arith)) (ascend (n + 1) ws)

pub numbered_ascend : (ws : List What) → are_numbered 0 (numbered_from 1 ws) ≡ true
numbered_ascend ws = ascend 0 ws

pub migrated_numbered : (ss : List Statement) → are_numbered 0 (migrated ss) ≡ true
unfolding migrated
migrated_numbered ss = numbered_ascend ((Version ∷ kept ss) ++ sends ss)

renumbered : (n : ℕ) (ws : List What) → renumbered_from n (numbered_from n ws) ≡ numbered_from n ws
renumbered n [] = refl
renumbered n (w ∷ ws) = ap (λ (t : List Statement). statement n w ∷ t) (renumbered (n + 1) ws)

migrated_renumbered : (ss : List Statement) → renumbered_from 1 (migrated ss) ≡ migrated ss
unfolding migrated
migrated_renumbered ss = renumbered 1 ((Version ∷ kept ss) ++ sends ss)

-- ---- it can be spelled

all_numbered : (p : What → Bool) (n : ℕ) (ws : List What) → list_all (λ s. p s.what) (numbered_from n ws) ≡ list_all p ws
all_numbered p n [] = refl
all_numbered p n (w ∷ ws) = ap (λ (b : Bool). p w && b) (all_numbered p (n + 1) ws)

-- in version 2, and it tells no version
abbrev is_later : What → Bool
is_later w = is_spellable Two w && not (is_version w)

single_later : (device : IndAddr) (n : ℕ) (groups : List GroupAddr) → is_device device ≡ true → is_object n ≡ true → list_all is_group groups ≡ true → list_all is_later (map (link_to_one device n) groups) ≡ true
single_later device n [] d o g = refl
single_later device n (x ∷ groups) d o g = let h = and_parts (is_group x) (list_all is_group groups) g in rw (d, o, h.0) (single_later device n groups d o h.1)

one_later : (version : TextVersion) (w : What) → is_spellable version w ≡ true → list_all is_later (one_by_one w) ≡ true
one_later version Version e = refl
one_later version (Title name) e = rw e refl
one_later version (Group group name) e = rw e refl
one_later version (Device of model) e = rw e refl
one_later version (Object of n size flags) e = rw e refl
one_later version (Link of n groups) e =
    let h = and_parts (is_device of && is_object n) (are_groups version groups) e in
    let k = and_parts (is_device of) (is_object n) h.0 in
    let g = and_parts _ (list_all is_group groups) h.1 in
    single_later of n groups k.0 k.1 g.1
one_later version (Send of n group) e = refl
one_later version (Flags of n flags) e = rw e refl
one_later version (Param of name value) e = rw e refl

kept_later : (version : TextVersion) (ss : List Statement) → are_spelled version ss ≡ true → list_all is_later (kept ss) ≡ true
unfolding kept
kept_later version [] e = refl
kept_later version (s ∷ ss) e =
    let h = and_parts (is_spellable version s.what) (are_spelled version ss) e in
    list_all-append is_later (one_by_one s.what) (flat_map (λ s. one_by_one s.what) ss) ∙ and_from _ _ (one_later version s.what h.0) (kept_later version ss h.1)

-- a group that a line has can be spelled
abbrev Fits : Option GroupAddr → Type 0
Fits None = Unit {0}
Fits (Some group) = is_group group ≡ true

if_sent : (version : TextVersion) (of : IndAddr) (m : ℕ) (group : GroupAddr) (b : Bool) → is_spellable version (Send of m group) ≡ true → Fits (cond b (Some group) None)
if_sent One of m group b e = absurd cc
if_sent Two of m group false e = tt
if_sent Two of m group true e = (and_parts (is_device of && is_object m) (is_group group) e).1

line_fits : (version : TextVersion) (device : IndAddr) (n : ℕ) (w : What) → is_spellable version w ≡ true → Fits (send_line device n w)
line_fits version device n Version e = tt
line_fits version device n (Title name) e = tt
line_fits version device n (Group group name) e = tt
line_fits version device n (Device of model) e = tt
line_fits version device n (Object of m size flags) e = tt
line_fits version device n (Link of m groups) e = tt
line_fits version device n (Send of m group) e = if_sent version of m group (eqb of.raw device.raw && eqb m n) e
line_fits version device n (Flags of m flags) e = tt
line_fits version device n (Param of name value) e = tt

cons_fits : (o : Option GroupAddr) (rest : List GroupAddr) → Fits o → list_all is_group rest ≡ true → list_all is_group (cons_option o rest) ≡ true
cons_fits None rest fits all = all
cons_fits (Some g) rest fits all = and_from (is_group g) (list_all is_group rest) fits all

sent_fit : (version : TextVersion) (device : IndAddr) (n : ℕ) (ss : List Statement) → are_spelled version ss ≡ true → list_all is_group (filter_map (λ s. send_line device n s.what) ss) ≡ true
sent_fit version device n [] e = refl
sent_fit version device n (s ∷ ss) e =
    let h = and_parts (is_spellable version s.what) (are_spelled version ss) e in
    cons_fits (send_line device n s.what) (filter_map (λ s. send_line device n s.what) ss) (line_fits version device n s.what h.0) (sent_fit version device n ss h.1)

last_fits : (o : Option GroupAddr) (groups : List GroupAddr) → Fits o → list_all is_group groups ≡ true → Fits (last_or o groups)
last_fits o [] fits all = fits
last_fits o (g ∷ groups) fits all = let h = and_parts (is_group g) (list_all is_group groups) all in last_fits (Some g) groups h.0 h.1

-- an object that has links, and the group of the first one, can be spelled
record FirstFits (device : IndAddr) (n : ℕ) (group : GroupAddr) : Type 0 where
  device_is : is_device device ≡ true
  object_is : is_object n ≡ true
  group_is : is_group group ≡ true

first_fits : (device : IndAddr) (n : ℕ) (group : GroupAddr) (lines : List (ℕ × GroupAddr)) → All (IsLinked device) lines → first_group lines n ≡ Some group → FirstFits device n group
first_fits device n group [] linked e = absurd cc
first_fits device n group (line ∷ lines) linked e = by (eqb line.0 n) refl e (first_fits device n group lines (All-tail (IsLinked device) line lines linked))
  where
    by : (b : Bool) → eqb line.0 n ≡ b → cond b (Some line.1) (first_group lines n) ≡ Some group → (first_group lines n ≡ Some group → FirstFits device n group) → FirstFits device n group
    by true same e later =
        let is = All-head (IsLinked device) line lines linked in
        record {
          device_is = is.device_is;
          object_is = subst (λ (o : ℕ). is_object o ≡ true) (eqb-true line.0 n same) is.object_is;
          group_is = subst (λ (g : GroupAddr). is_group g ≡ true) (same_Some line.1 group e) is.group_is;
        }
    by false same e later = later e

sent_later : (device : IndAddr) (n : ℕ) (first sending : Option GroupAddr) (w : What) → ((g : GroupAddr) → first ≡ Some g → FirstFits device n g) → Fits sending → send_by device n first sending ≡ Some w → is_later w ≡ true
sent_later device n None sending w has fits e = absurd cc
sent_later device n (Some x) None w has fits e = absurd cc
sent_later device n (Some x) (Some g) w has fits e =
    let is = has x refl in
    let there : is_later (Send device n g) ≡ true = and_from _ _ (and_from _ _ (and_from _ _ is.device_is is.object_is) fits) refl in
    subst (λ (w : What). is_later w ≡ true) (same_Some (Send device n g) w e) there

or_fits : (o p : Option GroupAddr) → Fits o → Fits p → Fits (option_or o p)
or_fits None p a b = b
or_fits (Some g) p a b = a

some_fits : (o : Option GroupAddr) (device : IndAddr) (n : ℕ) → ((g : GroupAddr) → o ≡ Some g → FirstFits device n g) → Fits o
some_fits None device n has = tt
some_fits (Some g) device n has = (has g refl).group_is

send_later : (version : TextVersion) (ss : List Statement) (device : IndAddr) (n : ℕ) (w : What) → are_spelled version ss ≡ true → send_of ss device n ≡ Some w → is_later w ≡ true
send_later version ss device n w spelled e =
    let lines = link_lines device ss in
    let has : (g : GroupAddr) → first_group lines n ≡ Some g → FirstFits device n g = λ g is. first_fits device n g lines (lines_linked version device ss spelled) is in
    sent_later device n (first_group lines n) (sending_group (last_send device ss) lines n) w has
    (or_fits (last_send device ss n) (first_group lines n) (last_fits None (filter_map (λ s. send_line device n s.what) ss) tt (sent_fit version device n ss spelled)) (some_fits (first_group lines n) device n has))
    e

found_later : (o : Option What) (rest : List What) → ((w : What) → o ≡ Some w → is_later w ≡ true) → list_all is_later rest ≡ true → list_all is_later (cons_option o rest) ≡ true
found_later None rest is all = all
found_later (Some w) rest is all = and_from (is_later w) (list_all is_later rest) (is w refl) all

all_later : (h : ℕ → Option What) (ks : List ℕ) → ((k : ℕ) (w : What) → h k ≡ Some w → is_later w ≡ true) → list_all is_later (filter_map h ks) ≡ true
all_later h [] is = refl
all_later h (k ∷ ks) is = found_later (h k) (filter_map h ks) (is k) (all_later h ks is)

sends_later_below : (version : TextVersion) (most : ℕ) (ss : List Statement) → are_spelled version ss ≡ true → list_all is_later (sends_below most ss) ≡ true
unfolding sends_below
sends_later_below version most ss spelled = all_later (λ k. send_of ss (device_at k) (object_at k)) (range_with_len 0 most) (λ k w e. send_later version ss (device_at k) (object_at k) w spelled e)

sends_later : (version : TextVersion) (ss : List Statement) → are_spelled version ss ≡ true → list_all is_later (sends ss) ≡ true
unfolding sends
sends_later version ss spelled = sends_later_below version 16777216 ss spelled

both_all : (p q : What → Bool) (ws : List What) → list_all (λ w. p w && q w) ws ≡ true → (list_all p ws ≡ true) × (list_all q ws ≡ true)
both_all p q [] e = (refl, refl)
both_all p q (w ∷ ws) e =
    let h = and_parts (p w && q w) (list_all (λ w. p w && q w) ws) e in
    let k = and_parts (p w) (q w) h.0 in
    let rest = both_all p q ws h.1 in
    (and_from (p w) (list_all p ws) k.0 rest.0, and_from (q w) (list_all q ws) k.1 rest.1)

-- of version 2, behind the line that tells it
pub migrated_spellable : (version : TextVersion) (ss : List Statement) → are_spelled version ss ≡ true → are_spellable (migrated ss) ≡ true
unfolding migrated
migrated_spellable version ss spelled =
    let later : list_all is_later (kept ss ++ sends ss) ≡ true = list_all-append is_later (kept ss) (sends ss) ∙ and_from _ _ (kept_later version ss spelled) (sends_later version ss spelled) in
    let h = both_all (is_spellable Two) (λ w. not (is_version w)) (kept ss ++ sends ss) later in
    and_from _ _ (all_numbered (is_spellable Two) 2 (kept ss ++ sends ss) ∙ h.0) (all_numbered (λ w. not (is_version w)) 2 (kept ss ++ sends ss) ∙ h.1)

pub migrated_read : (version : TextVersion) (ss : List Statement) → are_spelled version ss ≡ true → length (printed (migrated ss)) ≤ 4194304 → reading (printed (migrated ss)) ≡ Ok (migrated ss)
migrated_read version ss spelled short = reading_again (migrated ss) (migrated_spellable version ss spelled) short ∙ ap (λ (t : List Statement). Ok t) (migrated_renumbered ss)

-- the device of an object that has links
pub device_of_first : (version : TextVersion) (device : IndAddr) (n : ℕ) (ss : List Statement) (first : Option GroupAddr) → are_spelled version ss ≡ true → first_group (link_lines device ss) n ≡ first → IsSome first → device.raw < 65536
device_of_first version device n ss None spelled is some = absurd cc
device_of_first version device n ss (Some g) spelled is some =
    let has = first_fits device n g (link_lines device ss) (lines_linked version device ss spelled) is in
    let h = and_parts (ltb device.raw 65536 && ltb 0 (device.raw % 256)) (ltb (device.raw % 256) 255) has.device_is in
    ltb-true device.raw 65536 (and_parts (ltb device.raw 65536) (ltb 0 (device.raw % 256)) h.0).0

spelled_all : (version : TextVersion) (ss : List Statement) → are_spelled version ss ≡ true → All (λ s. is_spellable version s.what ≡ true) ss
spelled_all version ss spelled = AllPass-from_list_all (λ s. is_spellable version s.what) ss spelled

pub spelled_at : (version : TextVersion) (ss : List Statement) (i : ℕ) (s : Statement) → i < length ss → s ≡ get_or ss i s → are_spelled version ss ≡ true → is_spellable version s.what ≡ true
spelled_at version ss i s lt is spelled = subst (λ (t : Statement). is_spellable version t.what ≡ true) (sym is) (spelled_all version ss spelled i s lt)

-- what is appended is the migrated project
pub whole_made : (ss : List Statement) (puts : List What) (told kept_so made : List Statement) → told ≡ numbered_after [] (Version ∷ []) → kept_so ≡ numbered_after told (kept ss) → made ≡ numbered_after kept_so puts → sends ss ≡ puts → made ≡ migrated ss
unfolding migrated
whole_made ss puts told kept_so made a b c d =
    c ∙ ap (λ (t : List Statement). numbered_after t puts) (b ∙ ap (λ (t : List Statement). numbered_after t (kept ss)) a)
    ∙ ap (λ (t : List Statement). numbered_after t puts) (after_both [] (Version ∷ []) (kept ss))
    ∙ after_both [] (Version ∷ kept ss) puts
    ∙ ap (λ (t : List What). numbered_from 1 ((Version ∷ kept ss) ++ t)) (sym d)

-- ---- statements that are the migrated project

pub spelled_in : (ss : List Statement) → are_spellable ss ≡ true → are_spelled (version_of ss) ss ≡ true
spelled_in ss e = (and_parts (are_spelled (version_of ss) ss) _ e).0

pub made_spellable : (ss made : List Statement) → made ≡ migrated ss → are_spellable ss ≡ true → are_spellable made ≡ true
made_spellable ss made is e = ap are_spellable is ∙ migrated_spellable (version_of ss) ss (spelled_in ss e)

pub made_numbered : (ss made : List Statement) → made ≡ migrated ss → are_numbered 0 made ≡ true
made_numbered ss made is = ap (are_numbered 0) is ∙ migrated_numbered ss

pub made_twice : (ss made : List Statement) → made ≡ migrated ss → migrated made ≡ made
made_twice ss made is = ap migrated is ∙ twice ss ∙ sym is

pub made_read : (ss made : List Statement) → made ≡ migrated ss → are_spellable ss ≡ true → length (printed made) ≤ 4194304 → reading (printed made) ≡ Ok made
made_read ss made is e short =
    let same : length (printed made) ≡ length (printed (migrated ss)) = ap (λ (t : List Statement). length (printed t)) is in
    ap (λ (t : List Statement). reading (printed t)) is ∙ migrated_read (version_of ss) ss (spelled_in ss e) (omega (arith, short, same)) ∙ ap (λ (t : List Statement). Ok t) (sym is)

pub made_means : (ss made : List Statement) → made ≡ migrated ss → are_spellable ss ≡ true → (catalogue : List NamedModel) (device : IndAddr) → meaning (record { statements = made; catalogue = catalogue }) device ≡ meaning (record { statements = ss; catalogue = catalogue }) device
made_means ss made is e catalogue device =
    ap (λ (t : List Statement). meaning (record { statements = t; catalogue = catalogue }) device) is ∙ same_meaning (version_of ss) catalogue device ss (spelled_in ss e)
