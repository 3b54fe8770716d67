-- What the sets and counts of the lines before a line tell of it.
use Rattle.std.proofs.Common.{◌≡◌, ℕ, ◌+◌, ◌≤◌, ◌<◌, ◌&&◌, List, length, refl, inl, inr, arith}
use Rattle.std.specs.Prelude.{nat_le, nat_lt}
use Rattle.std.proofs.lemmas.Bool.{leb-true, leb-false, le-leb, lt-leb, ltb-true, ltb-false, lt-ltb, le-ltb, cases_Bool}
use Rattle.knx_model.specs.declared.project.Statement.{Statement}
use Rattle.knx_model.specs.declared.project.What.{What}
use Rattle.knx_model.specs.declared.project.What.TheVariants.{Version, Title, Group, Device, Object, Link, Send, Flags, Param}
use Rattle.knx_model.specs.Rules.{some_line, count_lines, declares_group, declares_device, is_device_line, count_links}
use Rattle.project_check.specs.Knowing.{Precedes, capped, of_group, of_device, has_its_object, exceeds_links, repeats}
use Rattle.project_check.specs.declared.earlier.Earlier.{Earlier}
use Rattle.project_check.specs.declared.earlier.Repeated.{Repeated}

-- a count that stops reaches just what the count reaches, where that lies below its stop
same_reach : (k n : ℕ) → k ≤ 65535 → nat_le k (capped n) ≡ nat_le k n
same_reach k n within = elim (cases_Bool (nat_le k n)) as (λ _. nat_le k (capped n) ≡ nat_le k n) [
  | inl e ↦ rw e (le-leb k (capped n) (let h : k ≤ n = leb-true k n e in omega arith))
  | inr e ↦ rw e (lt-leb k (capped n) (let h : n < k = leb-false k n e in omega arith))
]

-- the same of a count with more, which stops before and after
same_excess : (n k : ℕ) → nat_lt 2047 (capped (capped n + k)) ≡ nat_lt 2047 (n + k)
same_excess n k = elim (cases_Bool (nat_lt 2047 (n + k))) as (λ _. nat_lt 2047 (capped (capped n + k)) ≡ nat_lt 2047 (n + k)) [
  | inl e ↦ rw e (lt-ltb 2047 (capped (capped n + k)) (let h : 2047 < n + k = ltb-true 2047 (n + k) e in omega arith))
  | inr e ↦ rw e (le-ltb 2047 (capped (capped n + k)) (let h : n + k ≤ 2047 = ltb-false 2047 (n + k) e in omega arith))
]

-- what was found of a line, kind by kind
pub all_told : (e : Earlier) (ss : List Statement) (what : What) → Precedes e ss
    → ◌≡◌ {A = Repeated} (record { device = of_device (λ d. some_line (declares_device d) ss) what; group = of_group (λ g. some_line (declares_group g) ss) what; object = has_its_object e.objects what; devices_full = is_device_line what && nat_le 255 e.device_lines; links_full = exceeds_links (λ d. capped (count_links d ss)) what }) (repeats ss what)
all_told e ss (Title name) h = refl
all_told e ss (Group group name) h = refl
all_told e ss (Device device model) h = rw (h.device_lines, same_reach 255 (count_lines is_device_line ss) (omega arith)) refl
all_told e ss (Object device n size flags) h = rw (h.objects (record { device = device.raw; number = n })) refl
all_told e ss (Link device object groups) h = rw (same_excess (count_links device.raw ss) (length groups)) refl
all_told e ss Version h = refl
all_told e ss (Send device object group) h = refl
all_told e ss (Flags device object flags) h = refl
all_told e ss (Param device name value) h = refl
