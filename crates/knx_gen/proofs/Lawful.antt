-- A project that a number makes breaks no rule, and what it has is counted.
use Rattle.std.proofs.Common.{◌≡◌, ℕ, zero, suc, ◌+◌, ◌*◌, ◌/◌, ◌%◌, ◌<◌, ◌≤◌, codes, List, [], ◌∷◌, ◌++◌, length, map, Option, Some, None, refl, sym, ap, ◌∙◌, subst, arith}
use Rattle.std.specs.Prelude.{sum_by, IsPermutation}
use Rattle.std.specs.List.{range_with_len}
use Rattle.std.specs.List.Sorted.{IsStrictlyIncreasing}
use Rattle.std.specs.Fmt.{decimal}
use Rattle.std.proofs.lemmas.Fmt.{decimal_digit}
use Rattle.std.proofs.lemmas.List.FromFn.{length-map-range_with_len, get_or-map-range_with_len}
use Rattle.std.proofs.lemmas.List.Sorted.{IsPermutation-refl}
use Rattle.std.proofs.lemmas.List.Sums.{sum_by-cons}
use Rattle.std.proofs.lemmas.List.Elements.{recursion_from_All}
use Rattle.knx_model.specs.declared.address.IndAddr.{IndAddr}
use Rattle.knx_model.specs.declared.catalogue.model.Model.{Model}
use Rattle.knx_model.specs.declared.catalogue.model.NamedModel.{NamedModel}
use Rattle.knx_model.specs.declared.counts.Counts.{Counts}
use Rattle.knx_model.specs.Addresses.{device_text}
use Rattle.knx_model.specs.Counts.{counts_of, model_objects}
use Rattle.knx_model.specs.Meaning.{or_inline}
use Rattle.knx_model.specs.Rules.{devices_of, is_object_line, model_of}
use Rattle.project_check.specs.Devices.{IsChecked, raw_of}
use Rattle.knx_gen.specs.Generated.{device_at, project_lines, generated}
use Rattle.knx_gen.proofs.Counted.{count_device_lines, count_object_lines, count_link_lines, few_links, devices_picked}
use Rattle.knx_gen.proofs.Keys.{lines_ascend}
use Rattle.knx_gen.proofs.Known.{IsKnown, lines_known}
use Rattle.knx_gen.proofs.Numbered.{count_is, devices_are}
use Rattle.knx_gen.proofs.Unbroken.{AreLawful, Empty, empty_model, none_broken, all_links}

lawful : (n start : ℕ) → n ≤ 254 → AreLawful (project_lines n start)
lawful n start few = record {
  low = 1;
  high = (0x1100 + (1 + n)) * 32768;
  known = lines_known n start;
  ascends = lines_ascend n start;
  devices = omega (arith, count_device_lines n start);
  links = λ d. omega (arith, few_links d n start);
}

-- ---- the devices

devices_are_these : (n start : ℕ) → devices_of (generated n start) ≡ map device_at (range_with_len 1 n)
unfolding generated
devices_are_these n start = devices_are 1 (project_lines n start) ∙ devices_picked n start

raws : (a n : ℕ) → map raw_of (map device_at (range_with_len a n)) ≡ map (λ d. 0x1100 + d) (range_with_len a n)
raws a zero = refl
raws a (suc n) = ap (λ (xs : List ℕ). (0x1100 + a) ∷ xs) (raws (a + 1) n)

raws_ascend : (n : ℕ) → IsStrictlyIncreasing (map (λ d. 0x1100 + d) (range_with_len 1 n))
raws_ascend n k within =
    let raw : ℕ → ℕ = λ d. 0x1100 + d in
    let few : k + 1 < n = omega (arith, length-map-range_with_len raw 1 n, within) in
    omega (arith, get_or-map-range_with_len raw 1 n k (1 + k) 0 (omega arith) refl, get_or-map-range_with_len raw 1 n (k + 1) (2 + k) 0 few (omega arith))

pub checked : (n start : ℕ) (catalogue : List NamedModel) → n ≤ 254 → IsChecked (generated n start) catalogue (map device_at (range_with_len 1 n))
unfolding generated
checked n start catalogue few = record {
  sound = none_broken catalogue (project_lines n start) (lawful n start few);
  all = subst (λ (ds : List IndAddr). IsPermutation (devices_of (generated n start)) ds) (devices_are_these n start) (IsPermutation-refl (devices_of (generated n start)));
  ascending = subst IsStrictlyIncreasing (sym (raws 1 n)) (raws_ascend n);
}

-- ---- counts

no_objects : (model : Option Model) → Empty model → length (or_inline model).objects ≡ 0
no_objects None e = refl
no_objects (Some model) e = ap (λ (m : Model). length m.objects) e

sum_of_none : {X : Type 0} (f : X → ℕ) → ((x : X) → f x ≡ 0) → (xs : List X) → sum_by f xs ≡ 0
sum_of_none f none [] = refl
sum_of_none f none (x ∷ xs) = omega (arith, sum_by-cons f x xs, none x, sum_of_none f none xs)

same_counts : (devices objects links d o l : ℕ) → devices ≡ d → objects ≡ o → links ≡ l → let counts : Counts = record { devices = devices; objects = objects; links = links } in counts ≡ record { devices = d; objects = o; links = l }
same_counts devices objects links d o l a b c = rw (a, b, c) refl

pub counted : (n start : ℕ) (catalogue : List NamedModel) → n ≤ 254 → counts_of (record { statements = generated n start; catalogue = catalogue }) ≡ record { devices = n; objects = 8 * n; links = 32 * n }
unfolding generated
counted n start catalogue few =
    let models = sum_of_none (model_objects (record { statements = generated n start; catalogue = catalogue }))
    (λ device. no_objects (model_of catalogue (generated n start) device.raw) (empty_model catalogue (project_lines n start) device.raw (lawful n start few))) (devices_of (generated n start)) in
    same_counts _ _ _ n (8 * n) (32 * n) (ap length (devices_are_these n start) ∙ length-map-range_with_len device_at 1 n)
    (omega (arith, count_is is_object_line 1 (project_lines n start), count_object_lines n start, models)) (all_links (project_lines n start) 1 (project_lines n start) (recursion_from_All (IsKnown (project_lines n start)) (project_lines n start) (lines_known n start)) ∙ count_link_lines n start)

-- ---- words

pub device_word : (d : ℕ) → d < 256 → device_text (device_at d) ≡ codes "1.1." ++ decimal d
device_word d few =
    let area : (0x1100 + d) / 4096 ≡ 1 = omega arith in
    let line : (0x1100 + d) / 256 % 16 ≡ 1 = omega arith in
    let part : (0x1100 + d) % 256 ≡ d = omega arith in
    let one : decimal 1 ≡ codes "1" = decimal_digit 1 (omega arith) in
    rw (area, line, part, one) refl
