-- The lines of a project that a number makes can be spelled.
use Rattle.std.proofs.Common.{◌≡◌, ℕ, ◌+◌, ◌*◌, ◌%◌, ◌-◌, ◌<◌, ◌≤◌, true, not, codes, ltb, leb, List, [], ◌∷◌, ◌++◌, length, All, refl, ◌∙◌, arith}
use Rattle.std.specs.List.{list_all}
use Rattle.std.specs.Fmt.{decimal}
use Rattle.std.specs.Str.Parse.{AllDigits}
use Rattle.std.proofs.lemmas.Bool.{and_from, or_left, lt-ltb, le-leb}
use Rattle.std.proofs.lemmas.Fmt.{decimal_is_IsNumeral, length-decimal-le}
use Rattle.std.proofs.lemmas.List.Elements.{All-cons, All-append, All-weaker}
use Rattle.std.proofs.lemmas.List.Sums.{list_all-from_AllPass}
use Rattle.std.proofs.lemmas.Str.Parse.{digit_from_value}
use Rattle.knx_model.specs.declared.address.IndAddr.{IndAddr}
use Rattle.knx_model.specs.declared.project.What.{What}
use Rattle.knx_model.specs.declared.project.What.TheVariants.{Version, Title, Group, Device, Object, Link, Send, Flags, Param}
use Rattle.knx_model.specs.Numbers.{is_name, is_name_octet}
use Rattle.knx_model.specs.Statements.{is_group, is_device, is_object, is_spellable, are_spellable, is_version, are_numbered}
use Rattle.knx_model.specs.declared.project.TextVersion.TheVariants.{One}
use Rattle.knx_gen.proofs.Known.{IsKnown, lines_known}
use Rattle.knx_gen.specs.Draws.{state_at, number_at}
use Rattle.knx_gen.specs.Generated.{group_at, group_name, group_line, group_lines, device_at, object_line, object_lines, link_line, link_lines, first_group, chosen_links, object_links, device_lines, nth_device_lines, all_device_lines, project_lines, generated}
use Rattle.knx_gen.proofs.Each.{all_each, all_map}
use Rattle.knx_gen.proofs.Numbered.{spellable_is, numbered_so}

-- ---- names and addresses

digit_named : (c : ℕ) → 48 ≤ c → c ≤ 57 → is_name_octet c ≡ true
digit_named c low high = or_left _ _ (or_left _ _ (or_left _ _ (or_left _ _ (or_left _ _ (and_from (leb 48 c) (leb c 57) (le-leb 48 c low) (le-leb c 57 high))))))

digits_named : (ds : List ℕ) → AllDigits 10 ds → list_all is_name_octet ds ≡ true
digits_named [] h = refl
digits_named (d ∷ ds) h = let r = digit_from_value d h.0 in and_from (is_name_octet d) (list_all is_name_octet ds) (digit_named d (omega (arith, r.0)) (omega (arith, r.1))) (digits_named ds h.1)

pub name_is : (raw : ℕ) → raw < 2004 → is_name (group_name raw) ≡ true
name_is raw few =
    let short : length (decimal raw) ≤ 4 = length-decimal-le 4 raw (omega arith) (omega arith) (omega arith) in
    and_from _ _ (and_from _ _ (lt-ltb 0 (length (group_name raw)) (omega arith)) (le-leb (length (group_name raw)) 32 (omega (arith, short))))
    (digits_named (decimal raw) ((decimal_is_IsNumeral raw (omega arith)).0).1)

group_is : (raw : ℕ) → 1 ≤ raw → raw < 2004 → is_group (group_at raw) ≡ true
group_is raw low high = and_from (ltb 0 raw) (ltb raw 65536) (lt-ltb 0 raw low) (lt-ltb raw 65536 (omega arith))

device_is : (d : ℕ) → 1 ≤ d → d < 255 → is_device (device_at d) ≡ true
device_is d low high =
    let part : (0x1100 + d) % 256 ≡ d = omega arith in
    and_from _ _ (and_from _ _ (lt-ltb (0x1100 + d) 65536 (omega arith)) (lt-ltb 0 ((0x1100 + d) % 256) (omega (arith, part)))) (lt-ltb ((0x1100 + d) % 256) 255 (omega (arith, part)))

object_is : (k : ℕ) → 1 ≤ k → k < 9 → is_object k ≡ true
object_is k low high = and_from (ltb 0 k) (ltb k 256) (lt-ltb 0 k low) (lt-ltb k 256 (omega arith))

-- ---- lines

abbrev Spelled : What → Type 0
Spelled what = is_spellable One what ≡ true

objects_spelled : (device : IndAddr) (count : ℕ) → count ≤ 8 → is_device device ≡ true → All Spelled (object_lines device count)
unfolding object_lines
objects_spelled device count few is =
    all_map Spelled (object_line device) 1 count (λ k low high. and_from _ true (and_from _ true (and_from _ true (and_from (is_device device) (is_object k) is (object_is k low (omega arith))) refl) refl) refl)

chosen_spelled : (state : ℕ) (device : IndAddr) (k : ℕ) → is_device device ≡ true → 1 ≤ k → k < 9 → All Spelled (chosen_links state device k)
unfolding link_lines
chosen_spelled state device k is low high =
    let first : ℕ = first_group (number_at state k) in
    let some : 1 ≤ first = omega arith in
    let few : first ≤ 2000 = omega arith in
    all_map Spelled (link_line device k) first 4 (λ g from to.
    and_from _ _ (and_from (is_device device) (is_object k) is (object_is k low high)) (and_from _ _ refl (and_from _ _ (group_is g (omega (arith, some, from)) (omega (arith, few, to))) refl)))

links_spelled : (state : ℕ) (device : IndAddr) (count : ℕ) → count ≤ 8 → is_device device ≡ true → All Spelled (object_links state device count)
unfolding object_links
links_spelled state device count few is = all_each Spelled (chosen_links state device) 1 count (λ k low high. chosen_spelled state device k is low (omega arith))

device_spelled : (state : ℕ) (device : IndAddr) → is_device device ≡ true → All Spelled (device_lines state device)
device_spelled state device is =
    All-cons Spelled (Device device (codes "inline")) (object_lines device 8 ++ object_links state device 8) (and_from (is_device device) (is_name (codes "inline")) is refl)
    (All-append Spelled (object_lines device 8) (object_links state device 8) (objects_spelled device 8 (omega arith) is) (links_spelled state device 8 (omega arith) is))

devices_spelled : (start n : ℕ) → n ≤ 254 → All Spelled (all_device_lines start n)
unfolding all_device_lines
devices_spelled start n few = all_each Spelled (nth_device_lines start) 1 n (λ d low high. device_spelled (state_at start (8 * (d - 1))) (device_at d) (device_is d low (omega arith)))

groups_spelled : (count : ℕ) → count ≤ 2003 → All Spelled (group_lines count)
unfolding group_lines
groups_spelled count few =
    all_map Spelled group_line 1 count (λ raw low high. and_from (is_group (group_at raw)) (is_name (group_name raw)) (group_is raw low (omega arith)) (name_is raw (omega arith)))

lines_spelled : (n start : ℕ) → n ≤ 254 → All Spelled (project_lines n start)
unfolding project_lines
lines_spelled n start few = All-append Spelled (group_lines 2003) (all_device_lines start n) (groups_spelled 2003 (omega arith)) (devices_spelled start n few)

-- ---- statements

-- what is known tells no version
known_tells_none : (whole : List What) (what : What) → IsKnown whole what → not (is_version what) ≡ true
known_tells_none whole (Group group name) is = refl
known_tells_none whole (Device device model) is = refl
known_tells_none whole (Object device n size flags) is = refl
known_tells_none whole (Link device object groups) is = refl
known_tells_none whole Version is = absurd is
known_tells_none whole (Title name) is = refl
known_tells_none whole (Send device object group) is = refl
known_tells_none whole (Flags device object flags) is = refl
known_tells_none whole (Param device name value) is = refl

pub generated_spelled : (n start : ℕ) → n ≤ 254 → are_spellable (generated n start) ≡ true
unfolding generated
generated_spelled n start few =
    let whole = project_lines n start in
    spellable_is 1 whole (list_all-from_AllPass (is_spellable One) whole (lines_spelled n start few))
    (list_all-from_AllPass (λ w. not (is_version w)) whole (All-weaker (IsKnown whole) (λ w. not (is_version w) ≡ true) (known_tells_none whole) whole (lines_known n start)))

pub generated_numbered : (n start : ℕ) → are_numbered 0 (generated n start) ≡ true
unfolding generated
generated_numbered n start = numbered_so 0 (project_lines n start)
