-- The lines of a project that a number makes ascend by a key, so no line says again what an earlier one says.
use Rattle.std.proofs.Common.{◌≡◌, ℕ, zero, suc, ◌+◌, ◌*◌, ◌<◌, ◌≤◌, Bool, true, false, ◌&&◌, ◌||◌, eqb, List, [], ◌∷◌, ◌++◌, map, refl, sym, ap, ◌∙◌, subst, arith}
use Rattle.std.specs.List.{range_with_len, flat_map, list_any, AllByRecursion}
use Rattle.std.proofs.Math.Bool.{or-false}
use Rattle.std.proofs.lemmas.Bool.{and_parts, eqb-true, or_from, false_from_ne_true}
use Rattle.std.proofs.lemmas.List.Concat.{flat_map_single}
use Rattle.knx_model.specs.declared.address.IndAddr.{IndAddr}
use Rattle.knx_model.specs.declared.project.What.{What}
use Rattle.knx_model.specs.declared.project.What.TheVariants.{Version, Title, Group, Device, Object, Link, Send, Flags, Param}
use Rattle.knx_model.specs.Rules.{declares_device, declares_group, declares_object, links_to}
use Rattle.knx_gen.specs.Draws.{number_at}
use Rattle.knx_gen.specs.Generated.{group_line, group_lines, device_at, object_line, object_lines, link_line, link_lines, first_group, chosen_links, object_links, device_lines, nth_device_lines, all_device_lines, project_lines}

-- groups come first, and then each device, its objects, and their links
abbrev pub key : What → ℕ
key (Group group name) = group.raw
key (Device device model) = device.raw * 32768
key (Object device n size flags) = device.raw * 32768 + n
key (Link device object (group ∷ groups)) = device.raw * 32768 + object * 2048 + group.raw
key _ = 0

-- each key is above the one before; the first is at least `low`, and the last below `high`
abbrev pub Ascends : ℕ → List What → ℕ → Type 0
Ascends low [] high = low ≤ high
Ascends low (what ∷ whats) high = (low ≤ key what) × Ascends (key what + 1) whats high

from_lower : (below low high : ℕ) (whats : List What) → below ≤ low → Ascends low whats high → Ascends below whats high
from_lower below low high [] le up = omega (arith, le, up)
from_lower below low high (what ∷ whats) le up = (omega (arith, le, up.0), up.1)

to_higher : (low high above : ℕ) (whats : List What) → high ≤ above → Ascends low whats high → Ascends low whats above
to_higher low high above [] le up = omega (arith, le, up)
to_higher low high above (what ∷ whats) le up = (up.0, to_higher (key what + 1) high above whats le up.1)

Ascends-append : (low middle high : ℕ) (xs ys : List What) → Ascends low xs middle → Ascends middle ys high → Ascends low (xs ++ ys) high
Ascends-append low middle high [] ys up then = from_lower low middle high ys up then
Ascends-append low middle high (x ∷ xs) ys up then = (up.0, Ascends-append (key x + 1) middle high xs ys up.1 then)

-- ---- lines that are made for each number of a range

ascends_each : (bound : ℕ → ℕ) (f : ℕ → List What) (a n : ℕ) → ((k : ℕ) → Ascends (bound k) (f k) (bound (k + 1))) → Ascends (bound a) (flat_map f (range_with_len a n)) (bound (a + n))
ascends_each bound f a zero each = let same : a ≡ a + 0 = omega arith in omega (arith, ap bound same)
ascends_each bound f a (suc n) each =
    let same : a + 1 + n ≡ a + suc n = omega arith in
    Ascends-append (bound a) (bound (a + 1)) (bound (a + suc n)) (f a) (flat_map f (range_with_len (a + 1) n)) (each a)
    (subst (λ (end : ℕ). Ascends (bound (a + 1)) (flat_map f (range_with_len (a + 1) n)) (bound end)) same (ascends_each bound f (a + 1) n each))

ascends_map : (bound : ℕ → ℕ) (line : ℕ → What) (a n : ℕ) → ((k : ℕ) → (bound k ≤ key (line k)) × (key (line k) + 1 ≤ bound (k + 1))) → Ascends (bound a) (map line (range_with_len a n)) (bound (a + n))
ascends_map bound line a n each =
    subst (λ (whats : List What). Ascends (bound a) whats (bound (a + n))) (flat_map_single line (range_with_len a n)) (ascends_each bound (λ k. line k ∷ []) a n each)

-- ---- the lines of a project

groups_ascend : (count : ℕ) → Ascends 1 (group_lines count) (1 + count)
unfolding group_lines
groups_ascend count = ascends_map (λ k. k) group_line 1 count (λ k. (omega arith, omega arith))

objects_ascend : (device : IndAddr) (count : ℕ) → Ascends (device.raw * 32768 + 1) (object_lines device count) (device.raw * 32768 + (1 + count))
unfolding object_lines
objects_ascend device count = ascends_map (λ k. device.raw * 32768 + k) (object_line device) 1 count (λ k. (omega arith, omega arith))

links_ascend : (device : IndAddr) (n first count : ℕ) → Ascends (device.raw * 32768 + n * 2048 + first) (link_lines device n first count) (device.raw * 32768 + n * 2048 + (first + count))
unfolding link_lines
links_ascend device n first count = ascends_map (λ g. device.raw * 32768 + n * 2048 + g) (link_line device n) first count (λ g. (omega arith, omega arith))

chosen_ascend : (state : ℕ) (device : IndAddr) (n : ℕ) → Ascends (device.raw * 32768 + n * 2048) (chosen_links state device n) (device.raw * 32768 + (n + 1) * 2048)
chosen_ascend state device n =
    let first : ℕ = first_group (number_at state n) in
    let few : first ≤ 2000 = omega arith in
    let base : ℕ = device.raw * 32768 + n * 2048 in
    from_lower base (base + first) (device.raw * 32768 + (n + 1) * 2048) (link_lines device n first 4) (omega arith)
    (to_higher (base + first) (base + (first + 4)) (device.raw * 32768 + (n + 1) * 2048) (link_lines device n first 4) (omega (arith, few)) (links_ascend device n first 4))

object_links_ascend : (state : ℕ) (device : IndAddr) (count : ℕ) → Ascends (device.raw * 32768 + 1 * 2048) (object_links state device count) (device.raw * 32768 + (1 + count) * 2048)
unfolding object_links
object_links_ascend state device count = ascends_each (λ k. device.raw * 32768 + k * 2048) (chosen_links state device) 1 count (chosen_ascend state device)

device_ascends : (state : ℕ) (device : IndAddr) → Ascends (device.raw * 32768) (device_lines state device) ((device.raw + 1) * 32768)
device_ascends state device =
    let base : ℕ = device.raw * 32768 in (
      omega arith,
      Ascends-append (base + 1) (base + 1 * 2048) ((device.raw + 1) * 32768) (object_lines device 8) (object_links state device 8)
          (to_higher (base + 1) (base + (1 + 8)) (base + 1 * 2048) (object_lines device 8) (omega arith) (objects_ascend device 8))
          (to_higher (base + 1 * 2048) (base + (1 + 8) * 2048) ((device.raw + 1) * 32768) (object_links state device 8) (omega arith) (object_links_ascend state device 8)),
    )

devices_ascend : (start count : ℕ) → Ascends ((0x1100 + 1) * 32768) (all_device_lines start count) ((0x1100 + (1 + count)) * 32768)
unfolding all_device_lines
devices_ascend start count =
    ascends_each (λ d. (0x1100 + d) * 32768) (nth_device_lines start) 1 count
    (λ d. to_higher ((0x1100 + d) * 32768) ((0x1100 + d + 1) * 32768) ((0x1100 + (d + 1)) * 32768) (nth_device_lines start d) (omega arith) (device_ascends _ (device_at d)))

pub lines_ascend : (n start : ℕ) → Ascends 1 (project_lines n start) ((0x1100 + (1 + n)) * 32768)
unfolding project_lines
lines_ascend n start =
    Ascends-append 1 ((0x1100 + 1) * 32768) ((0x1100 + (1 + n)) * 32768) (group_lines 2003) (all_device_lines start n)
    (to_higher 1 (1 + 2003) ((0x1100 + 1) * 32768) (group_lines 2003) (omega arith) (groups_ascend 2003)) (devices_ascend start n)

-- ---- the lines before a line

abbrev pub KeysBelow : ℕ → List What → Type 0
KeysBelow k [] = Unit {0}
KeysBelow k (what ∷ whats) = (key what < k) × KeysBelow k whats

from_first : (low high : ℕ) (before : List What) (what : What) (after : List What) → Ascends low (before ++ what ∷ after) high → low ≤ key what
from_first low high [] what after up = up.0
from_first low high (x ∷ xs) what after up = omega (arith, up.0, from_first (key x + 1) high xs what after up.1)

pub before_below : (low high : ℕ) (before : List What) (what : What) (after : List What) → Ascends low (before ++ what ∷ after) high → KeysBelow (key what) before
before_below low high [] what after up = tt
before_below low high (x ∷ xs) what after up = (omega (arith, from_first (key x + 1) high xs what after up.1), before_below (key x + 1) high xs what after up.1)

-- a test that, of lines of a kind, just one of this key may pass is passed by no line of the kind below it
pub none_below : (kind : What → Type 0) (test : What → Bool) (k : ℕ) → ((what : What) → kind what → test what ≡ true → key what ≡ k) → (whats : List What) → AllByRecursion kind whats → KeysBelow k whats → list_any test whats ≡ false
none_below kind test k tells [] all below = refl
none_below kind test k tells (what ∷ whats) all below =
    or_from (test what) (list_any test whats) (false_from_ne_true (test what) (λ e. omega (arith, tells what all.0 e, below.0))) (none_below kind test k tells whats all.1 below.1)

-- ---- tests that tell the key

pub group_key : (g : ℕ) (what : What) → declares_group g what ≡ true → key what ≡ g
group_key g (Group group name) e = eqb-true group.raw g e
group_key g (Title name) e = absurd (cc)
group_key g (Device device model) e = absurd (cc)
group_key g (Object device n size flags) e = absurd (cc)
group_key g (Link device object groups) e = absurd (cc)
group_key g Version e = absurd (cc)
group_key g (Send device object group) e = absurd (cc)
group_key g (Flags device object flags) e = absurd (cc)
group_key g (Param device name value) e = absurd (cc)

pub device_key : (d : ℕ) (what : What) → declares_device d what ≡ true → key what ≡ d * 32768
device_key d (Device device model) e = omega (arith, eqb-true device.raw d e)
device_key d (Title name) e = absurd (cc)
device_key d (Group group name) e = absurd (cc)
device_key d (Object device n size flags) e = absurd (cc)
device_key d (Link device object groups) e = absurd (cc)
device_key d Version e = absurd (cc)
device_key d (Send device object group) e = absurd (cc)
device_key d (Flags device object flags) e = absurd (cc)
device_key d (Param device name value) e = absurd (cc)

pub object_key : (d n : ℕ) (what : What) → declares_object d n what ≡ true → key what ≡ d * 32768 + n
object_key d n (Object device number size flags) e = let h = and_parts (eqb device.raw d) (eqb number n) e in omega (arith, eqb-true device.raw d h.0, eqb-true number n h.1)
object_key d n (Title name) e = absurd (cc)
object_key d n (Group group name) e = absurd (cc)
object_key d n (Device device model) e = absurd (cc)
object_key d n (Link device object groups) e = absurd (cc)
object_key d n Version e = absurd (cc)
object_key d n (Send device object group) e = absurd (cc)
object_key d n (Flags device object flags) e = absurd (cc)
object_key d n (Param device name value) e = absurd (cc)

-- a line that links to one group at most
abbrev pub IsSingle : What → Type 0
IsSingle (Link device object (group ∷ [])) = Unit {0}
IsSingle (Link device object groups) = ⊥
IsSingle _ = Unit {0}

pub link_key : (d n g : ℕ) (what : What) → IsSingle what → links_to d n g what ≡ true → key what ≡ d * 32768 + n * 2048 + g
link_key d n g (Link device object []) is e = absurd is
link_key d n g (Link device object (group ∷ [])) is e =
    let h = and_parts (eqb device.raw d && eqb object n) (eqb group.raw g || false) e in
    let k = and_parts (eqb device.raw d) (eqb object n) h.0 in
    omega (arith, eqb-true device.raw d k.0, eqb-true object n k.1, eqb-true group.raw g (sym (or-false (eqb group.raw g)) ∙ h.1))
link_key d n g (Link device object (group ∷ other ∷ groups)) is e = absurd is
link_key d n g (Title name) is e = absurd (cc)
link_key d n g (Group group name) is e = absurd (cc)
link_key d n g (Device device model) is e = absurd (cc)
link_key d n g (Object device number size flags) is e = absurd (cc)
link_key d n g Version is e = absurd (cc)
link_key d n g (Send device object group) is e = absurd (cc)
link_key d n g (Flags device object flags) is e = absurd (cc)
link_key d n g (Param device name value) is e = absurd (cc)
