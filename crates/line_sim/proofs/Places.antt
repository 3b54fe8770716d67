-- The places of a line: one device more, one that is changed, and what stays so of each.
use Rattle.std.proofs.Common.{◌≡◌, ◌≢◌, ℕ, ◌+◌, ◌*◌, ◌/◌, ◌%◌, ◌<◌, ◌==◌, Bool, true, false, ◌⊎◌, inl, inr, List, Option, Some, None, slice_index_or, length, refl, ap, sym, subst, ◌∙◌, arith, if◌then◌else◌}
use Rattle.std.proofs.Math.ListN.{set, length-set}
use Rattle.std.proofs.lemmas.List.{get_or-set_same, get_or-set_other, get_or_default}
use Rattle.std.proofs.lemmas.Bool.{eqb-true, eq-eqb}
use Rattle.knx_model.specs.DeviceState.{DeviceState}
use Rattle.device_sim.specs.Sending.{IsQuiet}
use Rattle.knx_model.specs.ApduReading.{option_map}
use Rattle.line_model.specs.World.{Devices, changed}
use Rattle.line_sim.specs.Parts.{has_part}
use Rattle.line_sim.specs.Places.{AreDevices, AreKept, IsNamed, IsQuietThere, with_device, device_at, device_in, line_part, device_part}

-- ---- tests

same_or_other : (a b : ℕ) → (a ≡ b) ⊎ (a ≢ b)
same_or_other a b = decide_so (a == b) refl
  where
    decide_so : (t : Bool) → (a == b) ≡ t → (a ≡ b) ⊎ (a ≢ b)
    decide_so true e = inl (grind arith)
    decide_so false e = inr (grind arith)

choose : {X : Type 0} (t : Bool) (x y z : X) → (t ≡ true → x ≡ z) → (t ≡ false → y ≡ z) → (if t then x else y) ≡ z
choose true x y z this that = this refl
choose false x y z this that = that refl

-- ---- one device more on the line

parts_name : (a b : ℕ) → a / 256 ≡ b / 256 → a % 256 ≡ b % 256 → a ≡ b
parts_name a b same part = omega arith

pub placed : (line : ℕ) (places : List (Option DeviceState)) (d : DeviceState) (devices : Devices) → length places ≡ 256 → line_part d.address.raw ≡ line → AreDevices (record { line = line; places = places }) devices
    → (a : ℕ) → with_device d devices a ≡ device_at (record { line = line; places = set places (device_part d.address.raw) (Some d) }) a
placed line places d devices long on are a = choose (a == d.address.raw) _ _ _
    (λ e.
    let at : a ≡ d.address.raw = eqb-true a d.address.raw e in
    let part : device_part d.address.raw < length places = omega (arith, long) in
    sym (choose (line_part a == line) _ _ (Some d)
    (λ h. ap (λ (k : ℕ). slice_index_or (set places (device_part d.address.raw) (Some d)) (device_part k) None) at ∙ get_or-set_same places (device_part d.address.raw) (Some d) None part)
    (λ h. absurd (no_other (ap line_part at ∙ on) h))))
    (λ e. are a ∙ choose (line_part a == line) _ _ _
    (λ h. sym (choose (line_part a == line) _ _ _ (λ g. get_or-set_other places (device_part d.address.raw) (device_part a) (Some d) None (apart e (eqb-true (line_part a) line h))) (λ g. absurd (clash h g))))
    (λ h. sym (choose (line_part a == line) _ _ _ (λ g. absurd (clash g h)) (λ g. refl))))
  where
    no_other : line_part a ≡ line → (line_part a == line) ≡ false → ⊥
    no_other h g = let t = eq-eqb (line_part a) line h in cc

    clash : (line_part a == line) ≡ true → (line_part a == line) ≡ false → ⊥
    clash h g = cc

    apart : (a == d.address.raw) ≡ false → line_part a ≡ line → device_part a ≢ device_part d.address.raw
    apart e h same = away_from (parts_name a d.address.raw (h ∙ sym on) same) e
      where
        away_from : a ≡ d.address.raw → (a == d.address.raw) ≡ false → ⊥
        away_from q g = let t = eq-eqb a d.address.raw q in cc

pub place_is : (t : Bool) (k part : ℕ) → Some k ≡ (if t then Some part else None) → k ≡ part
place_is true k part e = cc
place_is false k part e = cc

-- ---- a place is changed: its device keeps its address, and is marked busy unless it is quiet

one_place : (P : ℕ → Option DeviceState → Type 0) (places : List (Option DeviceState)) (part : ℕ) (d : DeviceState) → part < length places
    → P part (Some d) → ((k : ℕ) → k ≢ part → P k (device_in places k)) → (k : ℕ) → P k (device_in (set places part (Some d)) k)
one_place P places part d h here others k = elim (same_or_other k part) [
  | inl e ↦ subst (λ (i : ℕ). P i (device_in (set places part (Some d)) i)) (sym e) (subst (P part) (sym (get_or-set_same places part (Some d) None h)) here)
  | inr e ↦ subst (P k) (sym (get_or-set_other places part k (Some d) None e)) (others k e)
]

pub still_kept : (line : ℕ) (places : List (Option DeviceState)) (busy after : List ℕ) (part : ℕ) (d e : DeviceState) → AreKept line places busy → part < 256 → Some d ≡ device_in places part
    → e.address.raw ≡ d.address.raw → (has_part after part ≡ false → IsQuiet e) → ((p : ℕ) → p ≢ part → has_part after p ≡ has_part busy p) → AreKept line (set places part (Some e)) after
still_kept line places busy after part d e kept h there address quiet others =
    let within : part < length places = omega (arith, kept.count) in
    let named : d.address.raw ≡ line * 256 + part = subst (IsNamed (line * 256 + part)) (sym there) (kept.named part) in
    record {
      count = length-set places part (Some e) ∙ kept.count;
      named = one_place (λ k o. IsNamed (line * 256 + k) o) places part e within (address ∙ named) (λ k ne. kept.named k);
      quiet = one_place (λ k o. k < 256 → has_part after k ≡ false → IsQuietThere o) places part e within (λ lt no. quiet no) (λ k ne lt no. kept.quiet k lt (sym (others k ne) ∙ no));
    }

pub place_within : (t : Bool) (k address : ℕ) → Some k ≡ (if t then Some (device_part address) else None) → k < 256
place_within true k address e = let same : k ≡ device_part address = cc in omega arith
place_within false k address e = cc

-- the same, as a device at an address of this line is changed in place
pub changed_keeps : (line : ℕ) (places : List (Option DeviceState)) (busy after : List ℕ) (part address : ℕ) (t : Bool) (o : Option DeviceState) (d e : DeviceState) → AreKept line places busy
    → Some part ≡ (if t then Some (device_part address) else None) → o ≡ slice_index_or places part o → o ≡ Some d → e.address.raw ≡ d.address.raw
    → (has_part after part ≡ false → IsQuiet e) → ((p : ℕ) → p ≢ part → has_part after p ≡ has_part busy p) → AreKept line (set places part (Some e)) after
changed_keeps line places busy after part address t o d e kept placed read is named quiet others =
    let within : part < 256 = place_within t part address placed in
    let inside : part < length places = omega (arith, kept.count) in
    still_kept line places busy after part d e kept within (sym is ∙ read ∙ get_or_default places part o None inside) named quiet others

clash : (b : Bool) → b ≡ true → b ≡ false → ⊥
clash b p q = cc

-- what is read at the place of an address is the device there
pub stands : (line : ℕ) (places : List (Option DeviceState)) (part address : ℕ) (o : Option DeviceState) (d : DeviceState) → length places ≡ 256
    → Some part ≡ (if line_part address == line then Some (device_part address) else None) → o ≡ slice_index_or places part o → o ≡ Some d → device_at (record { line = line; places = places }) address ≡ Some d
stands line places part address o d long placed read is = by_line (line_part address == line) refl placed
  where
    inside : part < length places
    inside = let within = place_within (line_part address == line) part address placed in omega (arith, long)

    there : device_in places part ≡ Some d
    there = sym (sym is ∙ read ∙ get_or_default places part o None inside)

    by_line : (t : Bool) → (line_part address == line) ≡ t → Some part ≡ (if t then Some (device_part address) else None) → (if t then device_in places (device_part address) else None) ≡ Some d
    by_line true e at = let same : part ≡ device_part address = cc in ap (device_in places) (sym same) ∙ there
    by_line false e at = cc

-- the device at an address becomes another one
pub changes : (line : ℕ) (places : List (Option DeviceState)) (part address : ℕ) (o : Option DeviceState) (d e : DeviceState) (change : DeviceState → DeviceState) (devices : Devices) → length places ≡ 256
    → Some part ≡ (if line_part address == line then Some (device_part address) else None) → o ≡ slice_index_or places part o → o ≡ Some d → e ≡ change d → AreDevices (record { line = line; places = places }) devices
    → (a : ℕ) → changed address change devices a ≡ device_at (record { line = line; places = set places part (Some e) }) a
changes line places part address o d e change devices long placed read is becomes are a = by_address (a == address) refl
  where
    inside : part < length places
    inside = let within = place_within (line_part address == line) part address placed in omega (arith, long)

    on_line : (t : Bool) → Some part ≡ (if t then Some (device_part address) else None) → (t ≡ true) × (part ≡ device_part address)
    on_line true e = (refl, cc)
    on_line false e = cc

    line_is : (line_part address == line) ≡ true
    line_is = (on_line (line_part address == line) placed).0

    part_is : part ≡ device_part address
    part_is = (on_line (line_part address == line) placed).1

    after : device_at (record { line = line; places = set places part (Some e) }) address ≡ Some e
    after = choose (line_part address == line) _ _ (Some e) (λ yes. ap (device_in (set places part (Some e))) (sym part_is) ∙ get_or-set_same places part (Some e) None inside)
        (λ no. absurd (clash (line_part address == line) line_is no))

    elsewhere : (a == address) ≡ false → (s : Bool) → (line_part a == line) ≡ s → (if s then device_in places (device_part a) else None) ≡ (if s then device_in (set places part (Some e)) (device_part a) else None)
    elsewhere off false at = refl
    elsewhere off true at =
        let apart : device_part a ≢ part = λ same. no_other off (parts_name a address (eqb-true (line_part a) line at ∙ sym (eqb-true (line_part address) line line_is)) (same ∙ part_is)) in
        sym (get_or-set_other places part (device_part a) (Some e) None apart)
      where
        no_other : (a == address) ≡ false → a ≡ address → ⊥
        no_other off same = let t = eq-eqb a address same in cc

    by_address : (t : Bool) → (a == address) ≡ t → (if t then option_map change (devices a) else devices a) ≡ device_at (record { line = line; places = set places part (Some e) }) a
    by_address true e_is =
        let same : a ≡ address = eqb-true a address e_is in
        ap (λ (k : ℕ). option_map change (devices k)) same ∙ ap (option_map change) (are address ∙ stands line places part address o d long placed read is) ∙ ap (λ (x : DeviceState). Some x) (sym becomes) ∙ sym after
        ∙ ap (device_at (record { line = line; places = set places part (Some e) })) (sym same)
    by_address false e_is = are a ∙ elsewhere e_is (line_part a == line) refl

-- one device more
pub put_keeps : (line : ℕ) (places : List (Option DeviceState)) (busy after : List ℕ) (part : ℕ) (d : DeviceState) → AreKept line places busy → line_part d.address.raw ≡ line → part ≡ device_part d.address.raw
    → (has_part after part ≡ false → IsQuiet d) → ((p : ℕ) → p ≢ part → has_part after p ≡ has_part busy p) → AreKept line (set places part (Some d)) after
put_keeps line places busy after part d kept on at quiet others =
    let within : part < length places = omega (arith, kept.count, at) in
    let named : d.address.raw ≡ line * 256 + part = omega (arith, on, at) in
    record {
      count = length-set places part (Some d) ∙ kept.count;
      named = one_place (λ k o. IsNamed (line * 256 + k) o) places part d within named (λ k ne. kept.named k);
      quiet = one_place (λ k o. k < 256 → has_part after k ≡ false → IsQuietThere o) places part d within (λ lt no. quiet no) (λ k ne lt no. kept.quiet k lt (sym (others k ne) ∙ no));
    }
