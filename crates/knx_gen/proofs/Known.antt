-- What a line of a project that a number makes speaks of is declared in the project.
use Rattle.std.proofs.Common.{◌≡◌, ℕ, ◌+◌, ◌*◌, ◌-◌, ◌<◌, ◌≤◌, Bool, true, codes, eqb, List, [], ◌∷◌, ◌++◌, All, refl, ◌∙◌, arith}
use Rattle.std.specs.List.{list_any}
use Rattle.std.proofs.lemmas.Bool.{and_from, eq-eqb, or_left, or_right}
use Rattle.std.proofs.lemmas.List.Elements.{All-cons, All-append}
use Rattle.std.proofs.lemmas.List.Folds.{list_any-append}
use Rattle.knx_model.specs.declared.address.IndAddr.{IndAddr}
use Rattle.knx_model.specs.declared.project.What.{What}
use Rattle.knx_model.specs.declared.project.What.TheVariants.{Group, Device, Object, Link}
use Rattle.knx_model.specs.Rules.{declares_device, declares_group, declares_object}
use Rattle.knx_gen.specs.Draws.{state_at, number_at}
use Rattle.knx_gen.specs.Generated.{group_line, group_lines, device_at, object_line, object_lines, link_line, link_lines, first_group, chosen_links, object_links, device_lines, nth_device_lines, all_device_lines, project_lines}
use Rattle.knx_gen.proofs.Each.{all_each, any_each, all_map, any_map}

-- what a link speaks of
pub record IsLinkKnown (whole : List What) (device object group : ℕ) : Type 0 where
  pub device_is : list_any (declares_device device) whole ≡ true
  pub object_is : list_any (declares_object device object) whole ≡ true
  pub group_is : list_any (declares_group group) whole ≡ true

-- what a line speaks of is declared; devices have no model, objects one bit, and lines one link
abbrev pub IsKnown : List What → What → Type 0
IsKnown whole (Group group name) = Unit {0}
IsKnown whole (Device device model) = model ≡ codes "inline"
IsKnown whole (Object device n size flags) = (size ≡ 0) × (list_any (declares_device device.raw) whole ≡ true)
IsKnown whole (Link device object (group ∷ [])) = IsLinkKnown whole device.raw object group.raw
IsKnown whole _ = ⊥

-- ---- what is declared

group_among : (g count : ℕ) → 1 ≤ g → g < 1 + count → list_any (declares_group g) (group_lines count) ≡ true
unfolding group_lines
group_among g count low high = any_map (declares_group g) group_line 1 count g low high (eq-eqb g g refl)

group_known : (n start g : ℕ) → 1 ≤ g → g < 1 + 2003 → list_any (declares_group g) (project_lines n start) ≡ true
unfolding project_lines
group_known n start g low high = list_any-append (declares_group g) (group_lines 2003) (all_device_lines start n) ∙ or_left _ _ (group_among g 2003 low high)

-- a test that a line of device 1.1.d passes
known_of : (test : What → Bool) (n start d : ℕ) → 1 ≤ d → d < 1 + n → list_any test (nth_device_lines start d) ≡ true → list_any test (project_lines n start) ≡ true
unfolding project_lines all_device_lines
known_of test n start d low high here = list_any-append test (group_lines 2003) (all_device_lines start n) ∙ or_right _ _ (any_each test (nth_device_lines start) 1 n d low high here)

device_known : (n start d : ℕ) → 1 ≤ d → d < 1 + n → list_any (declares_device (0x1100 + d)) (project_lines n start) ≡ true
device_known n start d low high = known_of (declares_device (0x1100 + d)) n start d low high (or_left _ _ (eq-eqb (0x1100 + d) (0x1100 + d) refl))

object_among : (device : IndAddr) (k count : ℕ) → 1 ≤ k → k < 1 + count → list_any (declares_object device.raw k) (object_lines device count) ≡ true
unfolding object_lines
object_among device k count low high =
    any_map (declares_object device.raw k) (object_line device) 1 count k low high (and_from (eqb device.raw device.raw) (eqb k k) (eq-eqb device.raw device.raw refl) (eq-eqb k k refl))

object_of_device : (state : ℕ) (device : IndAddr) (k : ℕ) → 1 ≤ k → k < 1 + 8 → list_any (declares_object device.raw k) (device_lines state device) ≡ true
object_of_device state device k low high =
    list_any-append (declares_object device.raw k) (object_lines device 8) (object_links state device 8) ∙ or_left _ _ (object_among device k 8 low high)

object_known : (n start d k : ℕ) → 1 ≤ d → d < 1 + n → 1 ≤ k → k < 1 + 8 → list_any (declares_object (0x1100 + d) k) (project_lines n start) ≡ true
object_known n start d k low high from to = known_of (declares_object (0x1100 + d) k) n start d low high (object_of_device (state_at start (8 * (d - 1))) (device_at d) k from to)

-- ---- each line

-- the objects and the groups of a project, and a device of it
record Declared (whole : List What) (device : IndAddr) : Type 0 where
  device_is : list_any (declares_device device.raw) whole ≡ true
  object_is : (k : ℕ) → 1 ≤ k → k < 1 + 8 → list_any (declares_object device.raw k) whole ≡ true
  group_is : (g : ℕ) → 1 ≤ g → g < 1 + 2003 → list_any (declares_group g) whole ≡ true

objects_known : (whole : List What) (device : IndAddr) (count : ℕ) → Declared whole device → All (IsKnown whole) (object_lines device count)
unfolding object_lines
objects_known whole device count is = all_map (IsKnown whole) (object_line device) 1 count (λ k low high. (refl, is.device_is))

chosen_known : (whole : List What) (state : ℕ) (device : IndAddr) (k : ℕ) → Declared whole device → 1 ≤ k → k < 1 + 8 → All (IsKnown whole) (chosen_links state device k)
unfolding link_lines
chosen_known whole state device k is low high =
    let first : ℕ = first_group (number_at state k) in
    let some : 1 ≤ first = omega arith in
    let few : first ≤ 2000 = omega arith in
    all_map (IsKnown whole) (link_line device k) first 4 (λ g from to. record { device_is = is.device_is; object_is = is.object_is k low high; group_is = is.group_is g (omega (arith, some, from)) (omega (arith, few, to)) })

links_known : (whole : List What) (state : ℕ) (device : IndAddr) (count : ℕ) → count ≤ 8 → Declared whole device → All (IsKnown whole) (object_links state device count)
unfolding object_links
links_known whole state device count few is = all_each (IsKnown whole) (chosen_links state device) 1 count (λ k low high. chosen_known whole state device k is low (omega arith))

device_lines_known : (whole : List What) (state : ℕ) (device : IndAddr) → Declared whole device → All (IsKnown whole) (device_lines state device)
device_lines_known whole state device is =
    All-cons (IsKnown whole) (Device device (codes "inline")) (object_lines device 8 ++ object_links state device 8) refl
    (All-append (IsKnown whole) (object_lines device 8) (object_links state device 8) (objects_known whole device 8 is) (links_known whole state device 8 (omega arith) is))

groups_known : (whole : List What) (count : ℕ) → All (IsKnown whole) (group_lines count)
unfolding group_lines
groups_known whole count = all_map (IsKnown whole) group_line 1 count (λ k low high. tt)

devices_known : (n start : ℕ) → All (IsKnown (project_lines n start)) (all_device_lines start n)
unfolding all_device_lines
devices_known n start =
    all_each (IsKnown (project_lines n start)) (nth_device_lines start) 1 n (λ d low high.
    device_lines_known (project_lines n start) (state_at start (8 * (d - 1))) (device_at d)
    (record { device_is = device_known n start d low high; object_is = λ k from to. object_known n start d k low high from to; group_is = group_known n start }))

pub lines_known : (n start : ℕ) → All (IsKnown (project_lines n start)) (project_lines n start)
unfolding project_lines
lines_known n start = All-append (IsKnown (project_lines n start)) (group_lines 2003) (all_device_lines start n) (groups_known (project_lines n start) 2003) (devices_known n start)
