-- The nearest of the times of the devices, part by part.
use Rattle.std.proofs.Common.{◌≡◌, ℕ, ◌+◌, ◌*◌, ◌/◌, ◌<◌, ◌≤◌, ◌⊎◌, ◌==◌, inl, inr, min, Bool, true, false, List, Option, Some, None, refl, ap, sym, ◌∙◌, arith, if◌then◌else◌}
use Rattle.std.proofs.lemmas.Bool.{cases_lt}
use Rattle.knx_model.specs.declared.frames.cemi.Ldata.{Ldata}
use Rattle.knx_model.specs.DeviceConnection.{DeviceEnd, device_deadline, device_expired}
use Rattle.knx_model.specs.DeviceSending.{due_sending, sending_of}
use Rattle.knx_model.specs.DeviceState.{DeviceState}
use Rattle.line_sim.specs.Due.{IsNearest, deadline_at}
use Rattle.knx_model.specs.Connection.{nearer}
use Rattle.line_sim.specs.Places.{DevicesNow, AreKept, IsQuietThere, device_at, device_in, device_part, line_part, sending_at}
use Rattle.line_sim.specs.Parts.{has_part}

-- ---- two times

-- the nearer of two is one of them, and neither is before it
pub least_of_both : (one other : Option ℕ) (end : ℕ) → nearer one other ≡ Some end → ((t : ℕ) → one ≡ Some t → end ≤ t) × ((t : ℕ) → other ≡ Some t → end ≤ t) × ((one ≡ Some end) ⊎ (other ≡ Some end))
least_of_both None None end e = cc
least_of_both None (Some b) end e = ((λ t f. cc), (λ t f. let same : end ≡ t = cc in omega arith), inr e)
least_of_both (Some a) None end e = ((λ t f. let same : end ≡ t = cc in omega arith), (λ t f. cc), inl e)
least_of_both (Some a) (Some b) end e =
    let is : min a b ≡ end = cc in (
      (λ t f. let same : a ≡ t = cc in omega arith),
      (λ t f. let same : b ≡ t = cc in omega arith),
      elim (cases_lt b a) [
        | inl less ↦ inr (ap (λ (x : ℕ). Some x) (omega (arith, is, less)))
        | inr more ↦ inl (ap (λ (x : ℕ). Some x) (omega (arith, is, more)))
      ],
    )

pub neither : (one other : Option ℕ) → nearer one other ≡ None → (one ≡ None) × (other ≡ None)
neither None None e = (refl, refl)
neither None (Some b) e = cc
neither (Some a) None e = cc
neither (Some a) (Some b) e = cc

-- ---- of the devices before a part

pub record IsNearestBefore (places : List (Option DeviceState)) (part : ℕ) (nearest : Option ℕ) : Type 0 where
  pub never : nearest ≡ None → (k : ℕ) → k < part → deadline_at (device_in places k) ≡ None
  pub least : (end : ℕ) → nearest ≡ Some end → (k t : ℕ) → k < part → deadline_at (device_in places k) ≡ Some t → end ≤ t
  pub named : (end : ℕ) → nearest ≡ Some end → (k : ℕ) × (k < part) × (deadline_at (device_in places k) ≡ Some end)

-- a quiet device has no time
pub quiet_has_none : (o : Option DeviceState) → IsQuietThere o → deadline_at o ≡ None
unfolding device_deadline
quiet_has_none None q = refl
quiet_has_none (Some d) q = ap device_deadline q.unconnected

-- none between a part and another
abbrev pub AllQuiet : List (Option DeviceState) → ℕ → ℕ → Type 0
AllQuiet places from end = (k : ℕ) → from ≤ k → k < end → IsQuietThere (device_in places k)

pub nearest_at_end : (places : List (Option DeviceState)) (from end : ℕ) (nearest : Option ℕ) → from ≤ end → AllQuiet places from end → IsNearestBefore places from nearest → IsNearestBefore places end nearest
nearest_at_end places from end nearest le quiet before = record {
  never = λ none k h. elim (cases_lt k from) [ inl less ↦ before.never none k less | inr more ↦ quiet_has_none (device_in places k) (quiet k more h) ];
  least = λ x is k t h at. elim (cases_lt k from) [
    | inl less ↦ before.least x is k t less at
    | inr more ↦ let none : deadline_at (device_in places k) ≡ None = quiet_has_none (device_in places k) (quiet k more h) in cc
  ];
  named = λ x is. let found = before.named x is in (found.0, omega (arith, found.1, le), found.2);
}

-- one device more
pub nearest_with : (places : List (Option DeviceState)) (part : ℕ) (nearest one new : Option ℕ) → one ≡ deadline_at (device_in places part) → new ≡ nearer nearest one → IsNearestBefore places part nearest → IsNearestBefore places (part + 1) new
nearest_with places part nearest one new here is before = record {
  never = λ none k h. elim (cases_lt k part) [
    | inl less ↦ before.never ((neither nearest one (sym is ∙ none)).0) k less
    | inr more ↦ let same : part ≡ k = omega (arith, h, more) in ap (λ (i : ℕ). deadline_at (device_in places i)) (sym same) ∙ sym here ∙ (neither nearest one (sym is ∙ none)).1
  ];
  least = λ x at k t h there. elim (cases_lt k part) [
    | inl less ↦ grows nearest x k t less (sym is ∙ at) there
    | inr more ↦ let same : k ≡ part = omega (arith, h, more) in (least_of_both nearest one x (sym is ∙ at)).1 t (here ∙ ap (λ (i : ℕ). deadline_at (device_in places i)) (sym same) ∙ there)
  ];
  named = λ x at. elim (least_of_both nearest one x (sym is ∙ at)).2 [
    | inl old ↦ let found = before.named x old in (found.0, omega (arith, found.1), found.2)
    | inr new_one ↦ (part, omega arith, sym here ∙ new_one)
  ];
}
  where
    grows : (o : Option ℕ) (x k t : ℕ) → k < part → nearer nearest one ≡ Some x → deadline_at (device_in places k) ≡ Some t → x ≤ t
    grows o x k t less at there = by_old nearest refl
      where
        by_old : (n : Option ℕ) → nearest ≡ n → x ≤ t
        by_old None e = let none : deadline_at (device_in places k) ≡ None = before.never e k less in cc
        by_old (Some y) e =
            let below : y ≤ t = before.least y e k t less there in
            let less_too : x ≤ y = (least_of_both nearest one x at).0 y e in
            omega arith

-- ---- by addresses

pub at_part : (n : DevicesNow) (k : ℕ) → k < 256 → device_at n (n.line * 256 + k) ≡ device_in n.places k
at_part n k h =
    let on : line_part (n.line * 256 + k) ≡ n.line = omega (arith, h) in
    let part : device_part (n.line * 256 + k) ≡ k = omega (arith, h) in
    by_line (line_part (n.line * 256 + k) == n.line) (grind arith) ∙ ap (device_in n.places) part
  where
    by_line : (t : Bool) → t ≡ true → (if t then device_in n.places (device_part (n.line * 256 + k)) else None) ≡ device_in n.places (device_part (n.line * 256 + k))
    by_line true e = refl
    by_line false e = cc

part_of : (n : DevicesNow) (a : ℕ) → device_at n a ≡ device_in n.places (device_part a) ⊎ (device_at n a ≡ None)
part_of n a = by_line (line_part a == n.line)
  where
    by_line : (t : Bool) → ((if t then device_in n.places (device_part a) else None) ≡ device_in n.places (device_part a)) ⊎ ((if t then device_in n.places (device_part a) else None) ≡ None)
    by_line true = inl refl
    by_line false = inr refl

pub nearest_of_all : (n : DevicesNow) (nearest : Option ℕ) → IsNearestBefore n.places 256 nearest → IsNearest (λ a. deadline_at (device_at n a)) nearest
nearest_of_all n nearest before = record {
  never = λ none a. elim (part_of n a) [
    | inl here ↦ ap deadline_at here ∙ before.never none (device_part a) (omega arith)
    | inr away ↦ ap deadline_at away
  ];
  least = λ x is a t at. elim (part_of n a) [
    | inl here ↦ before.least x is (device_part a) t (omega arith) (ap deadline_at (sym here) ∙ at)
    | inr away ↦ let none : deadline_at (device_at n a) ≡ None = ap deadline_at away in cc
  ];
  named = λ x is. let found = before.named x is in (n.line * 256 + found.0, ap deadline_at (at_part n found.0 found.1) ∙ found.2);
}

-- ---- devices that have nothing to send

abbrev pub AreSilent : List (Option DeviceState) → ℕ → ℕ → Type 0
AreSilent places now end = (k : ℕ) → k < end → sending_at (device_in places k) now ≡ None

quiet_is_silent : (o : Option DeviceState) (now : ℕ) → IsQuietThere o → sending_at o now ≡ None
unfolding device_expired
quiet_is_silent None now q = refl
quiet_is_silent (Some d) now q = ap (λ (unsent : List Ldata). sending_of unsent (device_expired d.connection now)) q.nothing_unsent ∙ ap (λ (e : DeviceEnd). due_sending (device_expired e now)) q.unconnected

pub silent_at_end : (places : List (Option DeviceState)) (now from end : ℕ) → AllQuiet places from end → AreSilent places now from → AreSilent places now end
silent_at_end places now from end quiet before k h = elim (cases_lt k from) [ inl less ↦ before k less | inr more ↦ quiet_is_silent (device_in places k) now (quiet k more h) ]

pub silent_with : (places : List (Option DeviceState)) (now part : ℕ) → sending_at (device_in places part) now ≡ None → AreSilent places now part → AreSilent places now (part + 1)
silent_with places now part none before k h = elim (cases_lt k part) [
  | inl less ↦ before k less
  | inr more ↦ let same : k ≡ part = omega (arith, h, more) in ap (λ (i : ℕ). sending_at (device_in places i) now) same ∙ none
]

pub silent_before : (n : DevicesNow) (now end : ℕ) → AreSilent n.places now end → (a : ℕ) → a < n.line * 256 + end → sending_at (device_at n a) now ≡ None
silent_before n now end silent a h = by_line (line_part a == n.line) refl
  where
    by_line : (t : Bool) → (line_part a == n.line) ≡ t → sending_at (if t then device_in n.places (device_part a) else None) now ≡ None
    by_line false e = refl
    by_line true e = let on : a / 256 ≡ n.line = grind arith in silent (device_part a) (omega (arith, on, h))

pub all_silent : (n : DevicesNow) (now : ℕ) → AreSilent n.places now 256 → (a : ℕ) → sending_at (device_at n a) now ≡ None
all_silent n now silent a = elim (part_of n a) [
  | inl here ↦ ap (λ (o : Option DeviceState). sending_at o now) here ∙ silent (device_part a) (omega arith)
  | inr away ↦ ap (λ (o : Option DeviceState). sending_at o now) away
]

-- ---- what a set of busy parts says

pub quiet_between : (line : ℕ) (places : List (Option DeviceState)) (busy : List ℕ) (from end : ℕ) → AreKept line places busy → end ≤ 256 → ((p : ℕ) → from ≤ p → p < end → has_part busy p ≡ false) → AllQuiet places from end
quiet_between line places busy from end kept le none k ge lt = kept.quiet k (omega (arith, lt, le)) (none k ge lt)
