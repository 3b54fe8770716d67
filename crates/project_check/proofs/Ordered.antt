-- `link` lines in ascending order.
use Rattle.std.proofs.Common.{◌≡◌, ℕ, ◌<◌, ◌≤◌, true, false, eqb, ltb, ◌&&◌, List, Ordering, Less, Equal, Greater, length, get_or, refl, sym, ap, ◌∙◌, inl, inr, arith}
use Rattle.std.specs.List.Sorted.{IsSorted}
use Rattle.std.specs.Ordering.{is_lt, nat_cmp, ordering_then}
use Rattle.std.proofs.lemmas.Bool.{eqb-true, ltb-false, cases_Bool, and_parts, false≢true, eq-eqb}
use Rattle.std.specs.Cmp.{IsTotalOrder}
use Rattle.std.proofs.lemmas.Cmp.{nat_cmp_total, on_total, then_total}
use Rattle.std.proofs.lemmas.List.Sorted.{ranks_by, sorted_far}
use Rattle.project_check.specs.Links.{link_eq, link_cmp, line_cmp}
use Rattle.project_check.specs.declared.links.Link.{Link}
use Rattle.project_check.specs.declared.links.LinkLine.{LinkLine}

abbrev pub link : ℕ → ℕ → ℕ → Link
link device object group = record { device = device; object = object; group = group }

pub same_link : (a b : Link) → a.device ≡ b.device → a.object ≡ b.object → a.group ≡ b.group → a ≡ b
same_link a b d o g = ap (λ n. link n a.object a.group) d ∙ ap (λ n. link b.device n a.group) o ∙ ap (link b.device b.object) g

pub link_eq_same : (a b : Link) → link_eq a b ≡ true → a ≡ b
link_eq_same a b e =
    let parts = and_parts (eqb a.device b.device) (eqb a.object b.object && eqb a.group b.group) e in
    let more = and_parts (eqb a.object b.object) (eqb a.group b.group) parts.1 in
    same_link a b (eqb-true a.device b.device parts.0) (eqb-true a.object b.object more.0) (eqb-true a.group b.group more.1)

pub link_eq_other : (a b : Link) → link_eq a b ≡ false → a ≡ b → ⊥
link_eq_other a b e same = false≢true (sym e ∙ rw (eq-eqb a.device b.device (ap (λ (l : Link). l.device) same), eq-eqb a.object b.object (ap (λ (l : Link). l.object) same), eq-eqb a.group b.group (ap (λ (l : Link). l.group) same)) refl)

-- ---- lines in ascending order

pub links_total : IsTotalOrder link_cmp
links_total = then_total (on_total (λ l. l.device) nat_cmp_total) (then_total (on_total (λ l. l.object) nat_cmp_total) (on_total (λ l. l.group) nat_cmp_total))

lines_total : IsTotalOrder line_cmp
lines_total = then_total (on_total (λ l. l.link) links_total) (on_total (λ l. l.place) nat_cmp_total)

-- a line doesn't stand after another
abbrev pub IsUpToLine : LinkLine → LinkLine → Type 0
IsUpToLine x y =
    (x.link.device ≤ y.link.device)
    × (x.link.device ≡ y.link.device → (x.link.object ≤ y.link.object) × (x.link.object ≡ y.link.object → (x.link.group ≤ y.link.group) × (x.link.group ≡ y.link.group → x.place ≤ y.place)))

abbrev pub Ascend : List LinkLine → Type 0
Ascend ys = (i j : ℕ) (d : LinkLine) → i ≤ j → j < length ys → IsUpToLine (get_or ys i d) (get_or ys j d)

then_next : (a b c : Ordering) → ordering_then (ordering_then a b) c ≡ ordering_then a (ordering_then b c)
then_next Less b c = refl
then_next Equal b c = refl
then_next Greater b c = refl

-- of two that are compared number by number: the first number isn't above, and where it is the same the rest isn't
first_part : (a b : ℕ) (rest : Ordering) → is_lt (ordering_then (nat_cmp b a) rest) ≡ false → (a ≤ b) × (a ≡ b → is_lt rest ≡ false)
first_part a b rest h = elim (cases_Bool (ltb b a)) as (λ _. (a ≤ b) × (a ≡ b → is_lt rest ≡ false)) [
  | inl lt ↦ absurd (false≢true (sym h ∙ rw lt refl))
  | inr ge ↦ (ltb-false b a ge, λ same. rw (ge, eq-eqb b a (sym same)) at h)
]

last_part : (a b : ℕ) → is_lt (nat_cmp b a) ≡ false → a ≤ b
last_part a b h = elim (cases_Bool (ltb b a)) as (λ _. a ≤ b) [
  | inl lt ↦ absurd (false≢true (sym h ∙ rw lt refl))
  | inr ge ↦ ltb-false b a ge
]

up_to_line : (x y : LinkLine) → is_lt (line_cmp y x) ≡ false → IsUpToLine x y
up_to_line x y h =
    let of_place = nat_cmp y.place x.place in
    let of_group = ordering_then (nat_cmp y.link.group x.link.group) of_place in
    let of_object = ordering_then (nat_cmp y.link.object x.link.object) of_group in
    let whole : line_cmp y x ≡ ordering_then (nat_cmp y.link.device x.link.device) of_object =
    then_next (nat_cmp y.link.device x.link.device) (ordering_then (nat_cmp y.link.object x.link.object) (nat_cmp y.link.group x.link.group)) of_place
    ∙ ap (ordering_then (nat_cmp y.link.device x.link.device)) (then_next (nat_cmp y.link.object x.link.object) (nat_cmp y.link.group x.link.group) of_place) in
    let device = first_part x.link.device y.link.device of_object (ap is_lt (sym whole) ∙ h) in (
      device.0,
      λ same_device. let object = first_part x.link.object y.link.object of_group (device.1 same_device) in (
        object.0,
        λ same_object. let group = first_part x.link.group y.link.group of_place (object.1 same_object) in (group.0, λ same_group. last_part x.place y.place (group.1 same_group)),
      ),
    )

pub ascending : (ys : List LinkLine) → IsSorted line_cmp ys → Ascend ys
ascending ys sorted i j d le lt = up_to_line (get_or ys i d) (get_or ys j d) (sorted_far (λ x y. is_lt (line_cmp x y)) (ranks_by lines_total (λ x. x)) ys sorted i j d le lt)

-- between two lines of a link is that link alone
pub between : (x y z : LinkLine) → x.link ≡ z.link → IsUpToLine x y → IsUpToLine y z → x.link ≡ y.link
between x y z same low high =
    let device : x.link.device ≡ y.link.device = omega (arith, low.0, high.0, ap (λ (l : Link). l.device) same) in
    let from = low.1 device in
    let to = high.1 (sym device ∙ ap (λ (l : Link). l.device) same) in
    let object : x.link.object ≡ y.link.object = omega (arith, from.0, to.0, ap (λ (l : Link). l.object) same) in
    let from_object = from.1 object in
    let to_object = to.1 (sym object ∙ ap (λ (l : Link). l.object) same) in
    let group : x.link.group ≡ y.link.group = omega (arith, from_object.0, to_object.0, ap (λ (l : Link). l.group) same) in
    same_link x.link y.link device object group

-- the places of two lines of a link
pub places_rise : (x y : LinkLine) → x.link ≡ y.link → IsUpToLine x y → x.place ≤ y.place
places_rise x y same up = (((up.1 (ap (λ (l : Link). l.device) same)).1 (ap (λ (l : Link). l.object) same)).1 (ap (λ (l : Link). l.group) same))
