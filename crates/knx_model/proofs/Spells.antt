-- The functions that read addresses are the grammar's relations.
use Rattle.std.proofs.Common.{◌≡◌, ℕ, ◌+◌, ◌*◌, ◌<◌, ◌≤◌, Bool, true, false, cond, ◌&&◌, eqb, ltb, leb, List, [], ◌∷◌, ◌++◌, length, All, Option, Some, None, refl, sym, ap, ◌∙◌, subst, arith, inl, inr}
use Rattle.std.specs.List.{list_all, slice_split, join_with_byte, AllByRecursion}
use Rattle.std.specs.Char.{digit_value}
use Rattle.std.specs.Str.Parse.{digits_value}
use Rattle.std.proofs.lemmas.Bool.{and_parts, lt-ltb, le-leb, leb-true, ltb-true, ne_eqb, eq-eqb, cases_eq, cases_lt}
use Rattle.std.proofs.lemmas.Option.{cond_some, same_Some, none-some}
use Rattle.std.proofs.lemmas.List.Elements.{All-from_recursion}
use Rattle.std.proofs.lemmas.List.Splits.{slice_split_at, slice_split_none, join_with_byte-slice_split}
use Rattle.knx_model.specs.declared.address.GroupAddr.{GroupAddr}
use Rattle.knx_model.specs.declared.address.IndAddr.{IndAddr}
use Rattle.knx_model.specs.Numbers.{is_digit, numeral, up_to, part_value}
use Rattle.knx_model.specs.Addresses.{three, group_value, ind_value, ◌>>=◌}
use Rattle.knx_model.specs.Spells.{SpellsPart, SpellsDigits, SpellsGroup, SpellsDevice}

pub bind_some : {A B : Type 0} (o : Option A) (f : A → Option B) (y : B) → (o >>= f) ≡ Some y → (x : A) × (o ≡ Some x) × (f x ≡ Some y)
bind_some (Some x) f y e = (x, refl, e)
bind_some None f y e = absurd cc

pub up_to_some : (most : ℕ) (o : Option ℕ) (n : ℕ) → up_to most o ≡ Some n → (o ≡ Some n) × (n ≤ most)
up_to_some most None n e = absurd cc
up_to_some most (Some m) n e = let h = cond_some (leb m most) m n e in (ap (λ (x : ℕ). Some x) h.1, subst (λ (x : ℕ). x ≤ most) h.1 (leb-true m most h.0))

pub digits_to : (base most : ℕ) (w : List ℕ) (n : ℕ) → numeral base most w ≡ Some n → SpellsDigits base most w n
unfolding numeral
digits_to base most w n e =
    let v = cond_some (ltb 0 (length w) && leb (length w) most && list_all (is_digit base) w) (digits_value base w) n e in
    let p = and_parts (ltb 0 (length w) && leb (length w) most) (list_all (is_digit base) w) v.0 in
    let q = and_parts (ltb 0 (length w)) (leb (length w) most) p.0 in
    record { are_digits = p.1; some = ltb-true _ _ q.0; short = leb-true _ _ q.1; value = v.1 }

pub digits_from : (base most : ℕ) (w : List ℕ) (n : ℕ) → SpellsDigits base most w n → numeral base most w ≡ Some n
unfolding numeral
digits_from base most w n is = rw (lt-ltb 0 (length w) is.some, le-leb (length w) most is.short, is.are_digits, is.value) refl

pub part_to : (most : ℕ) (w : List ℕ) (n : ℕ) → part_value most w ≡ Some n → SpellsPart most w n
unfolding part_value numeral
part_to most w n e =
    let u = up_to_some most (numeral 10 3 w) n e in
    let v = cond_some (ltb 0 (length w) && leb (length w) 3 && list_all (is_digit 10) w) (digits_value 10 w) n u.0 in
    let p = and_parts (ltb 0 (length w) && leb (length w) 3) (list_all (is_digit 10) w) v.0 in
    let q = and_parts (ltb 0 (length w)) (leb (length w) 3) p.0 in
    record { digits = p.1; some = ltb-true _ _ q.0; short = leb-true _ _ q.1; value = v.1; small = u.1 }

pub part_from : (most : ℕ) (w : List ℕ) (n : ℕ) → SpellsPart most w n → part_value most w ≡ Some n
unfolding part_value numeral
part_from most w n is = rw (lt-ltb 0 (length w) is.some, le-leb (length w) 3 is.short, is.digits, is.value, le-leb n most is.small) refl

three_some : (ps : List (List ℕ)) (a b c : List ℕ) → three ps ≡ Some (a, b, c) → ps ≡ a ∷ b ∷ c ∷ []
three_some [] a b c e = absurd cc
three_some (x ∷ []) a b c e = absurd cc
three_some (x ∷ y ∷ []) a b c e = absurd cc
three_some (x ∷ y ∷ z ∷ []) a b c e = ap (λ (t : List ℕ × List ℕ × List ℕ). t.0 ∷ t.1 ∷ t.2 ∷ []) (same_Some (x, y, z) (a, b, c) e)
three_some (x ∷ y ∷ z ∷ w ∷ ws) a b c e = absurd cc

pub group_last : (n : ℕ) (g : GroupAddr) → cond {A = Option GroupAddr} (eqb n 0) None (Some (record { raw = n })) ≡ Some g → (g.raw ≡ n) × (0 < g.raw)
group_last n g e = elim (cases_eq n 0) [
  | inl zero-is ↦ absurd (none-some g (sym (ap (λ (b : Bool). cond {A = Option GroupAddr} b None (Some (record { raw = n }))) (eq-eqb n 0 zero-is)) ∙ e))
  | inr other ↦
      let h : record { raw = n } ≡ g = same_Some (record { raw = n }) g (sym (ap (λ (b : Bool). cond {A = Option GroupAddr} b None (Some (record { raw = n }))) (ne_eqb n 0 other)) ∙ e) in
      let same : n ≡ g.raw = ap (λ (x : GroupAddr). x.raw) h in
      (sym same, elim (cases_lt 0 n) [ inl lt ↦ omega arith | inr le ↦ absurd (other (omega arith)) ])
]

pub group_to : (w : List ℕ) (g : GroupAddr) → group_value w ≡ Some g → SpellsGroup w g
unfolding group_value
group_to w g e =
    let raw : ℕ → ℕ → ℕ → ℕ = λ main middle sub. main * 2048 + middle * 256 + sub in
    let last : ℕ → Option GroupAddr = λ n. cond (eqb n 0) None (Some (record { raw = n })) in
    let p = bind_some (three (slice_split (λ b. eqb b 47) w)) (λ parts. part_value 31 parts.0 >>= λ main. part_value 7 parts.1 >>= λ middle. part_value 255 parts.2 >>= λ sub. last (raw main middle sub)) g e in
    let parts : List ℕ × List ℕ × List ℕ = p.0 in
    let main = bind_some (part_value 31 parts.0) (λ main. part_value 7 parts.1 >>= λ middle. part_value 255 parts.2 >>= λ sub. last (raw main middle sub)) g p.2 in
    let middle = bind_some (part_value 7 parts.1) (λ middle. part_value 255 parts.2 >>= λ sub. last (raw main.0 middle sub)) g main.2 in
    let sub = bind_some (part_value 255 parts.2) (λ sub. last (raw main.0 middle.0 sub)) g middle.2 in
    let end = group_last (raw main.0 middle.0 sub.0) g sub.2 in
    let cut : slice_split (λ b. eqb b 47) w ≡ parts.0 ∷ parts.1 ∷ parts.2 ∷ [] = three_some (slice_split (λ b. eqb b 47) w) parts.0 parts.1 parts.2 p.1 in
    record {
      main = parts.0;
      middle = parts.1;
      sub = parts.2;
      a = main.0;
      b = middle.0;
      c = sub.0;
      main_is = part_to 31 parts.0 main.0 main.1;
      middle_is = part_to 7 parts.1 middle.0 middle.1;
      sub_is = part_to 255 parts.2 sub.0 sub.1;
      joined = sym (join_with_byte-slice_split 47 w) ∙ ap (join_with_byte 47) cut;
      raw = end.0;
      some = end.1;
    }

-- digits hold no mark that is worth 36
no_mark : (mark : ℕ) (ds : List ℕ) → digit_value mark ≡ 36 → list_all (is_digit 10) ds ≡ true → AllByRecursion (λ b. eqb b mark ≡ false) ds
no_mark mark [] worth e = tt
no_mark mark (d ∷ ds) worth e =
    let h = and_parts (is_digit 10 d) (list_all (is_digit 10) ds) e in
    let small : digit_value d < 10 = ltb-true _ _ h.0 in
    (ne_eqb d mark (λ q. let same : digit_value d ≡ digit_value mark = ap digit_value q in omega arith), no_mark mark ds worth h.1)

pub none : (mark : ℕ) (ds : List ℕ) → digit_value mark ≡ 36 → list_all (is_digit 10) ds ≡ true → All (λ b. eqb b mark ≡ false) ds
none mark ds worth e = All-from_recursion (λ b. eqb b mark ≡ false) ds (no_mark mark ds worth e)

-- three parts that are joined by a mark are cut into the three
cut_again : (mark : ℕ) (word a b c : List ℕ) → digit_value mark ≡ 36 → list_all (is_digit 10) a ≡ true → list_all (is_digit 10) b ≡ true → list_all (is_digit 10) c ≡ true → word ≡ a ++ mark ∷ (b ++ mark ∷ c) → slice_split (λ d. eqb d mark) word ≡ a ∷ b ∷ c ∷ []
cut_again mark word a b c worth da db dc joined =
    let here : eqb mark mark ≡ true = eq-eqb mark mark refl in
    rw joined (slice_split_at (λ d. eqb d mark) a mark (b ++ (mark ∷ c)) (none mark a worth da) here ∙ rw (slice_split_at (λ d. eqb d mark) b mark c (none mark b worth db) here, slice_split_none (λ d. eqb d mark) c (none mark c worth dc)) refl)

pub group_from : (w : List ℕ) (g : GroupAddr) → SpellsGroup w g → group_value w ≡ Some g
unfolding group_value
group_from w g is =
    let parts : slice_split (λ b. eqb b 47) w ≡ is.main ∷ is.middle ∷ is.sub ∷ [] = cut_again 47 w is.main is.middle is.sub refl (is.main_is).digits (is.middle_is).digits (is.sub_is).digits is.joined in
    rw (parts, part_from 31 is.main is.a is.main_is, part_from 7 is.middle is.b is.middle_is, part_from 255 is.sub is.c is.sub_is, ← is.raw, ne_eqb g.raw 0 (λ q. omega (arith, is.some))) refl

device_last : (device n : ℕ) (d : IndAddr) → cond {A = Option IndAddr} (eqb device 0) None (Some (record { raw = n })) ≡ Some d → (d.raw ≡ n) × (0 < device)
device_last device n d e = elim (cases_eq device 0) [
  | inl zero-is ↦ absurd (none-some d (sym (ap (λ (b : Bool). cond {A = Option IndAddr} b None (Some (record { raw = n }))) (eq-eqb device 0 zero-is)) ∙ e))
  | inr other ↦
      let h : record { raw = n } ≡ d = same_Some (record { raw = n }) d (sym (ap (λ (b : Bool). cond {A = Option IndAddr} b None (Some (record { raw = n }))) (ne_eqb device 0 other)) ∙ e) in
      let same : n ≡ d.raw = ap (λ (x : IndAddr). x.raw) h in
      (sym same, elim (cases_lt 0 device) [ inl lt ↦ lt | inr le ↦ absurd (other (omega arith)) ])
]

pub device_to : (w : List ℕ) (d : IndAddr) → ind_value w ≡ Some d → SpellsDevice w d
unfolding ind_value
device_to w d e =
    let raw : ℕ → ℕ → ℕ → ℕ = λ area line device. area * 4096 + line * 256 + device in
    let last : ℕ → ℕ → Option IndAddr = λ device n. cond (eqb device 0) None (Some (record { raw = n })) in
    let p = bind_some (three (slice_split (λ b. eqb b 46) w)) (λ parts. part_value 15 parts.0 >>= λ area. part_value 15 parts.1 >>= λ line. part_value 254 parts.2 >>= λ device. last device (raw area line device)) d e in
    let parts : List ℕ × List ℕ × List ℕ = p.0 in
    let area = bind_some (part_value 15 parts.0) (λ area. part_value 15 parts.1 >>= λ line. part_value 254 parts.2 >>= λ device. last device (raw area line device)) d p.2 in
    let line = bind_some (part_value 15 parts.1) (λ line. part_value 254 parts.2 >>= λ device. last device (raw area.0 line device)) d area.2 in
    let device = bind_some (part_value 254 parts.2) (λ device. last device (raw area.0 line.0 device)) d line.2 in
    let end = device_last device.0 (raw area.0 line.0 device.0) d device.2 in
    let cut : slice_split (λ b. eqb b 46) w ≡ parts.0 ∷ parts.1 ∷ parts.2 ∷ [] = three_some (slice_split (λ b. eqb b 46) w) parts.0 parts.1 parts.2 p.1 in
    record {
      area = parts.0;
      line = parts.1;
      device = parts.2;
      a = area.0;
      b = line.0;
      c = device.0;
      area_is = part_to 15 parts.0 area.0 area.1;
      line_is = part_to 15 parts.1 line.0 line.1;
      device_is = part_to 254 parts.2 device.0 device.1;
      joined = sym (join_with_byte-slice_split 46 w) ∙ ap (join_with_byte 46) cut;
      raw = end.0;
      some = end.1;
    }

pub device_from : (w : List ℕ) (d : IndAddr) → SpellsDevice w d → ind_value w ≡ Some d
unfolding ind_value
device_from w d is =
    let parts : slice_split (λ b. eqb b 46) w ≡ is.area ∷ is.line ∷ is.device ∷ [] = cut_again 46 w is.area is.line is.device refl (is.area_is).digits (is.line_is).digits (is.device_is).digits is.joined in
    rw (parts, part_from 15 is.area is.a is.area_is, part_from 15 is.line is.b is.line_is, part_from 254 is.device is.c is.device_is, ← is.raw, ne_eqb is.c 0 (λ q. omega (arith, is.some))) refl
