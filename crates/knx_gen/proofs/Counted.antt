-- How many lines of a kind a project has that a number makes.
use Rattle.std.proofs.Common.{◌≡◌, ℕ, zero, suc, ◌+◌, ◌-◌, ◌*◌, ◌<◌, ◌≤◌, Bool, true, false, cond, codes, eqb, List, [], ◌∷◌, ◌++◌, length, map, refl, ap, ◌∙◌, arith, inl, inr, length-append}
use Rattle.std.specs.List.{range_with_len, flat_map, count_by, filter_map}
use Rattle.std.proofs.lemmas.Bool.{cases_eq, eq-eqb, ne_eqb}
use Rattle.std.proofs.lemmas.List.Concat.{flat_map_single}
use Rattle.std.proofs.lemmas.List.Elements.{filter_map-append}
use Rattle.std.proofs.lemmas.List.FromFn.{length-map-range_with_len}
use Rattle.std.proofs.lemmas.List.Sums.{sum_by-cons, sum_by-append}
use Rattle.knx_model.specs.declared.address.IndAddr.{IndAddr}
use Rattle.knx_model.specs.declared.project.What.{What}
use Rattle.knx_model.specs.declared.project.What.TheVariants.{Device, Link}
use Rattle.knx_model.specs.Rules.{device_in, is_device_line, is_object_line}
use Rattle.knx_gen.specs.Draws.{state_at, number_at}
use Rattle.knx_gen.specs.Generated.{group_line, group_lines, device_at, object_line, object_lines, link_line, link_lines, first_group, chosen_links, object_links, device_lines, nth_device_lines, all_device_lines, project_lines}
use Rattle.knx_gen.proofs.Each.{count_each, count_map, length_each, picked_each, picked_none}

-- ---- lines of a kind

abbrev pub is_link_line : What → Bool
is_link_line (Link device object groups) = true
is_link_line _ = false

abbrev pub links_device : ℕ → What → Bool
links_device d (Link device object groups) = eqb device.raw d
links_device d _ = false

-- ---- all lines

length_groups : (count : ℕ) → length (group_lines count) ≡ count
unfolding group_lines
length_groups count = length-map-range_with_len group_line 1 count

length_objects : (device : IndAddr) (count : ℕ) → length (object_lines device count) ≡ count
unfolding object_lines
length_objects device count = length-map-range_with_len (object_line device) 1 count

length_chosen : (state : ℕ) (device : IndAddr) (n : ℕ) → length (chosen_links state device n) ≡ 4
unfolding link_lines
length_chosen state device n = length-map-range_with_len (link_line device n) (first_group (number_at state n)) 4

length_links : (state : ℕ) (device : IndAddr) (count : ℕ) → length (object_links state device count) ≡ count * 4
unfolding object_links
length_links state device count = length_each (chosen_links state device) 4 1 count (length_chosen state device)

length_device : (state : ℕ) (device : IndAddr) → length (device_lines state device) ≡ 41
length_device state device = omega (arith, length-append (object_lines device 8) (object_links state device 8), length_objects device 8, length_links state device 8)

length_devices : (start n : ℕ) → length (all_device_lines start n) ≡ n * 41
unfolding all_device_lines
length_devices start n = length_each (nth_device_lines start) 41 1 n (λ d. length_device _ (device_at d))

pub length_lines : (n start : ℕ) → length (project_lines n start) ≡ 2003 + n * 41
unfolding project_lines
length_lines n start = omega (arith, length-append (group_lines 2003) (all_device_lines start n), length_groups 2003, length_devices start n)

-- ---- the lines that pass a test

-- how often the lines of a device pass: its own line, and each of its objects and links
record Passes (test : What → Bool) (device : IndAddr) (own object link : ℕ) : Type 0 where
  own_line : cond (test (Device device (codes "inline"))) 1 0 ≡ own
  objects : (n : ℕ) → cond (test (object_line device n)) 1 0 ≡ object
  links : (n g : ℕ) → cond (test (link_line device n g)) 1 0 ≡ link

count_groups : (test : What → Bool) (group count : ℕ) → ((g : ℕ) → cond (test (group_line g)) 1 0 ≡ group) → count_by test (group_lines count) ≡ count * group
unfolding group_lines
count_groups test group count each = count_map test group_line group 1 count each

count_objects : (test : What → Bool) (device : IndAddr) (object count : ℕ) → ((n : ℕ) → cond (test (object_line device n)) 1 0 ≡ object) → count_by test (object_lines device count) ≡ count * object
unfolding object_lines
count_objects test device object count each = count_map test (object_line device) object 1 count each

count_chosen : (test : What → Bool) (state : ℕ) (device : IndAddr) (link : ℕ) → ((n g : ℕ) → cond (test (link_line device n g)) 1 0 ≡ link) → (n : ℕ) → count_by test (chosen_links state device n) ≡ 4 * link
unfolding link_lines
count_chosen test state device link each n = count_map test (link_line device n) link (first_group (number_at state n)) 4 (each n)

count_links : (test : What → Bool) (state : ℕ) (device : IndAddr) (link count : ℕ) → ((n g : ℕ) → cond (test (link_line device n g)) 1 0 ≡ link) → count_by test (object_links state device count) ≡ count * (4 * link)
unfolding object_links
count_links test state device link count each = count_each test (chosen_links state device) (4 * link) 1 count (count_chosen test state device link each)

count_device : (test : What → Bool) (state : ℕ) (device : IndAddr) (own object link : ℕ) → Passes test device own object link → count_by test (device_lines state device) ≡ own + 8 * object + 32 * link
count_device test state device own object link passes =
    let one : What → ℕ = λ what. cond (test what) 1 0 in
    omega (
      arith,
      sum_by-cons one (Device device (codes "inline")) (object_lines device 8 ++ object_links state device 8),
      sum_by-append one (object_lines device 8) (object_links state device 8),
      passes.own_line,
      count_objects test device object 8 passes.objects,
      count_links test state device link 8 passes.links,
    )

count_lines : (test : What → Bool) (group each n start : ℕ) → ((g : ℕ) → cond (test (group_line g)) 1 0 ≡ group) → ((state : ℕ) (device : IndAddr) → count_by test (device_lines state device) ≡ each)
    → count_by test (project_lines n start) ≡ 2003 * group + n * each
unfolding project_lines all_device_lines
count_lines test group each n start groups devices =
    let one : What → ℕ = λ what. cond (test what) 1 0 in
    omega (
      arith,
      sum_by-append one (group_lines 2003) (all_device_lines start n),
      count_groups test group 2003 groups,
      count_each test (nth_device_lines start) each 1 n (λ d. devices _ (device_at d)),
    )

pub count_device_lines : (n start : ℕ) → count_by is_device_line (project_lines n start) ≡ n
count_device_lines n start =
    let each : (state : ℕ) (device : IndAddr) → count_by is_device_line (device_lines state device) ≡ 1
    = λ state device. count_device is_device_line state device 1 0 0 (record { own_line = refl; objects = λ n. refl; links = λ n g. refl }) in
    omega (arith, count_lines is_device_line 0 1 n start (λ g. refl) each)

pub count_object_lines : (n start : ℕ) → count_by is_object_line (project_lines n start) ≡ 8 * n
count_object_lines n start =
    let each : (state : ℕ) (device : IndAddr) → count_by is_object_line (device_lines state device) ≡ 8
    = λ state device. count_device is_object_line state device 0 1 0 (record { own_line = refl; objects = λ n. refl; links = λ n g. refl }) in
    omega (arith, count_lines is_object_line 0 8 n start (λ g. refl) each)

pub count_link_lines : (n start : ℕ) → count_by is_link_line (project_lines n start) ≡ 32 * n
count_link_lines n start =
    let each : (state : ℕ) (device : IndAddr) → count_by is_link_line (device_lines state device) ≡ 32
    = λ state device. count_device is_link_line state device 0 0 1 (record { own_line = refl; objects = λ n. refl; links = λ n g. refl }) in
    omega (arith, count_lines is_link_line 0 32 n start (λ g. refl) each)

-- ---- the links of one device

count_own : (r state : ℕ) (device : IndAddr) → count_by (links_device r) (device_lines state device) ≡ 32 * cond (eqb device.raw r) 1 0
count_own r state device = omega (arith, count_device (links_device r) state device 0 0 (cond (eqb device.raw r) 1 0) (record { own_line = refl; objects = λ n. refl; links = λ n g. refl }))

count_of_other : (r state : ℕ) (device : IndAddr) → (device.raw ≡ r → ⊥) → count_by (links_device r) (device_lines state device) ≡ 0
count_of_other r state device apart = count_own r state device ∙ ap (λ b. 32 * cond b 1 0) (ne_eqb device.raw r apart)

-- the devices from a number on, all behind device r
none_behind : (r start a n : ℕ) → r < 0x1100 + a → count_by (links_device r) (flat_map (nth_device_lines start) (range_with_len a n)) ≡ 0
none_behind r start a zero lt = refl
none_behind r start a (suc n) lt =
    omega (
      arith,
      sum_by-append (λ what. cond (links_device r what) 1 0) (nth_device_lines start a) (flat_map (nth_device_lines start) (range_with_len (a + 1) n)),
      count_of_other r (state_at start (8 * (a - 1))) (device_at a) (λ e. omega (arith, e, lt)),
      none_behind r start (a + 1) n (omega arith),
    )

few_from : (r start a n : ℕ) → count_by (links_device r) (flat_map (nth_device_lines start) (range_with_len a n)) ≤ 32
few_from r start a zero = omega arith
few_from r start a (suc n) =
    let all = sum_by-append (λ what. cond (links_device r what) 1 0) (nth_device_lines start a) (flat_map (nth_device_lines start) (range_with_len (a + 1) n)) in
    elim (cases_eq (0x1100 + a) r) [
      | inl same ↦ omega (arith, all, count_own r (state_at start (8 * (a - 1))) (device_at a) ∙ ap (λ b. 32 * cond b 1 0) (eq-eqb (0x1100 + a) r same), none_behind r start (a + 1) n (omega arith))
      | inr apart ↦ omega (arith, all, count_of_other r (state_at start (8 * (a - 1))) (device_at a) apart, few_from r start (a + 1) n)
    ]

pub few_links : (r n start : ℕ) → count_by (links_device r) (project_lines n start) ≤ 32
unfolding project_lines all_device_lines
few_links r n start =
    omega (
      arith,
      sum_by-append (λ what. cond (links_device r what) 1 0) (group_lines 2003) (all_device_lines start n),
      count_groups (links_device r) 0 2003 (λ g. refl),
      few_from r start 1 n,
    )

-- ---- the devices

none_of_groups : (count : ℕ) → filter_map device_in (group_lines count) ≡ []
unfolding group_lines
none_of_groups count = picked_none device_in group_line (range_with_len 1 count) (λ g. refl)

none_of_objects : (device : IndAddr) (count : ℕ) → filter_map device_in (object_lines device count) ≡ []
unfolding object_lines
none_of_objects device count = picked_none device_in (object_line device) (range_with_len 1 count) (λ n. refl)

none_of_chosen : (state : ℕ) (device : IndAddr) (n : ℕ) → filter_map device_in (chosen_links state device n) ≡ []
unfolding link_lines
none_of_chosen state device n = picked_none device_in (link_line device n) (range_with_len (first_group (number_at state n)) 4) (λ g. refl)

nothing : {X : Type 0} (xs : List ℕ) → flat_map {A = X} (λ x. []) xs ≡ []
nothing [] = refl
nothing (x ∷ xs) = nothing xs

none_of_links : (state : ℕ) (device : IndAddr) (count : ℕ) → filter_map device_in (object_links state device count) ≡ []
unfolding object_links
none_of_links state device count = picked_each device_in (chosen_links state device) (λ n. []) 1 count (none_of_chosen state device) ∙ nothing (range_with_len 1 count)

one_of_device : (state : ℕ) (device : IndAddr) → filter_map device_in (device_lines state device) ≡ device ∷ []
one_of_device state device =
    ap (λ (ds : List IndAddr). device ∷ ds) (filter_map-append device_in (object_lines device 8) (object_links state device 8) ∙ rw (none_of_objects device 8, none_of_links state device 8) refl)

pub devices_picked : (n start : ℕ) → filter_map device_in (project_lines n start) ≡ map device_at (range_with_len 1 n)
unfolding project_lines all_device_lines
devices_picked n start =
    filter_map-append device_in (group_lines 2003) (all_device_lines start n)
    ∙ (ap (λ (ds : List IndAddr). ds ++ filter_map device_in (all_device_lines start n)) (none_of_groups 2003)
    ∙ (picked_each device_in (nth_device_lines start) (λ d. device_at d ∷ []) 1 n (λ d. one_of_device _ (device_at d))
    ∙ flat_map_single device_at (range_with_len 1 n)))
