-- The functions that read groups in two levels, and free ones, are the grammar's relations.
use Rattle.std.proofs.Common.{◌≡◌, ℕ, ◌+◌, ◌*◌, ◌<◌, ◌≤◌, true, eqb, cond, List, [], ◌∷◌, ◌++◌, Option, Some, None, refl, sym, ap, ◌∙◌, subst, arith, inl, inr}
use Rattle.std.specs.List.{slice_split, join_with_byte}
use Rattle.std.specs.Option.{option_or}
use Rattle.std.proofs.lemmas.Bool.{le-leb, ne_eqb, eq-eqb}
use Rattle.std.proofs.lemmas.Option.{same_Some}
use Rattle.std.proofs.lemmas.List.Splits.{slice_split_at, slice_split_none, join_with_byte-slice_split}
use Rattle.knx_model.specs.declared.address.GroupAddr.{GroupAddr}
use Rattle.knx_model.specs.declared.project.TextVersion.{TextVersion}
use Rattle.knx_model.specs.declared.project.TextVersion.TheVariants.{One, Two}
use Rattle.knx_model.specs.Numbers.{numeral, part_value, up_to}
use Rattle.knx_model.specs.Addresses.{two, group_value, two_levels_value, free_value, group_by, ◌>>=◌}
use Rattle.knx_model.specs.Spells.{SpellsDigits, SpellsTwoLevels, SpellsFree, SpellsGroupBy}
use Rattle.knx_model.specs.Spells.SpellsGroupBy.{ThreeLevels, TwoLevels, Free}
use Rattle.knx_model.proofs.Spells.{bind_some, up_to_some, digits_to, digits_from, part_to, part_from, group_last, group_to, group_from, none}

two_some : (ps : List (List ℕ)) (a b : List ℕ) → two ps ≡ Some (a, b) → ps ≡ a ∷ b ∷ []
two_some [] a b e = absurd cc
two_some (x ∷ []) a b e = absurd cc
two_some (x ∷ y ∷ []) a b e = ap (λ (t : List ℕ × List ℕ). t.0 ∷ t.1 ∷ []) (same_Some (x, y) (a, b) e)
two_some (x ∷ y ∷ z ∷ zs) a b e = absurd cc

-- ---- two levels

two_levels_to : (w : List ℕ) (g : GroupAddr) → two_levels_value w ≡ Some g → SpellsTwoLevels w g
unfolding two_levels_value
two_levels_to w g e =
    let last : ℕ → Option GroupAddr = λ n. cond (eqb n 0) None (Some (record { raw = n })) in
    let p = bind_some (two (slice_split (λ b. eqb b 47) w)) (λ parts. part_value 31 parts.0 >>= λ main. up_to 2047 (numeral 10 4 parts.1) >>= λ sub. last (main * 2048 + sub)) g e in
    let parts : List ℕ × List ℕ = p.0 in
    let main = bind_some (part_value 31 parts.0) (λ main. up_to 2047 (numeral 10 4 parts.1) >>= λ sub. last (main * 2048 + sub)) g p.2 in
    let sub = bind_some (up_to 2047 (numeral 10 4 parts.1)) (λ sub. last (main.0 * 2048 + sub)) g main.2 in
    let number = up_to_some 2047 (numeral 10 4 parts.1) sub.0 sub.1 in
    let end = group_last (main.0 * 2048 + sub.0) g sub.2 in
    let cut : slice_split (λ b. eqb b 47) w ≡ parts.0 ∷ parts.1 ∷ [] = two_some (slice_split (λ b. eqb b 47) w) parts.0 parts.1 p.1 in
    record {
      main = parts.0;
      sub = parts.1;
      a = main.0;
      b = sub.0;
      main_is = part_to 31 parts.0 main.0 main.1;
      sub_is = digits_to 10 4 parts.1 sub.0 number.0;
      sub_fits = number.1;
      joined = sym (join_with_byte-slice_split 47 w) ∙ ap (join_with_byte 47) cut;
      raw = end.0;
      some = end.1;
    }

-- two parts that are joined by a slash are cut into the two
cut_in_two : (w : List ℕ) (g : GroupAddr) (is : SpellsTwoLevels w g) → slice_split (λ d. eqb d 47) w ≡ is.main ∷ is.sub ∷ []
cut_in_two w g is =
    let here : eqb 47 47 ≡ true = refl in
    rw is.joined (slice_split_at (λ d. eqb d 47) is.main 47 is.sub (none 47 is.main refl (is.main_is).digits) here ∙ rw (slice_split_none (λ d. eqb d 47) is.sub (none 47 is.sub refl (is.sub_is).are_digits)) refl)

two_levels_from : (w : List ℕ) (g : GroupAddr) → SpellsTwoLevels w g → two_levels_value w ≡ Some g
unfolding two_levels_value
two_levels_from w g is = rw (cut_in_two w g is, part_from 31 is.main is.a is.main_is, digits_from 10 4 is.sub is.b is.sub_is, le-leb is.b 2047 is.sub_fits, ← is.raw, ne_eqb g.raw 0 (λ q. omega (arith, is.some))) refl

no_three_of_two : (w : List ℕ) (g : GroupAddr) → SpellsTwoLevels w g → group_value w ≡ None
unfolding group_value
no_three_of_two w g is = rw (cut_in_two w g is) refl

-- ---- one number

free_to : (w : List ℕ) (g : GroupAddr) → free_value w ≡ Some g → SpellsFree w g
unfolding free_value
free_to w g e =
    let raw = bind_some (up_to 65535 (numeral 10 5 w)) (λ n. cond {A = Option GroupAddr} (eqb n 0) None (Some (record { raw = n }))) g e in
    let number = up_to_some 65535 (numeral 10 5 w) raw.0 raw.1 in
    let end = group_last raw.0 g raw.2 in
    record { number = subst (λ (n : ℕ). SpellsDigits 10 5 w n) (sym end.0) (digits_to 10 5 w raw.0 number.0); some = end.1; fits = omega (arith, number.1, end.0) }

free_from : (w : List ℕ) (g : GroupAddr) → SpellsFree w g → free_value w ≡ Some g
unfolding free_value
free_from w g is = rw (digits_from 10 5 w g.raw is.number, le-leb g.raw 65535 is.fits, ne_eqb g.raw 0 (λ q. omega (arith, is.some))) refl

one_part : (w : List ℕ) (g : GroupAddr) → SpellsFree w g → slice_split (λ d. eqb d 47) w ≡ w ∷ []
one_part w g is = slice_split_none (λ d. eqb d 47) w (none 47 w refl (is.number).are_digits)

no_three_of_one : (w : List ℕ) (g : GroupAddr) → SpellsFree w g → group_value w ≡ None
unfolding group_value
no_three_of_one w g is = rw (one_part w g is) refl

no_two_of_one : (w : List ℕ) (g : GroupAddr) → SpellsFree w g → two_levels_value w ≡ None
unfolding two_levels_value
no_two_of_one w g is = rw (one_part w g is) refl

-- ---- each version

any_to : (three twice free : Option GroupAddr) (w : List ℕ) (g : GroupAddr) → group_value w ≡ three → two_levels_value w ≡ twice → free_value w ≡ free → option_or three (option_or twice free) ≡ Some g → SpellsGroupBy Two w g
any_to (Some h) twice free w g a b c e = ThreeLevels (group_to w g (a ∙ e))
any_to None (Some h) free w g a b c e = TwoLevels refl (two_levels_to w g (b ∙ e))
any_to None None free w g a b c e = Free refl (free_to w g (c ∙ e))

pub group_by_to : (version : TextVersion) (w : List ℕ) (g : GroupAddr) → group_by version w ≡ Some g → SpellsGroupBy version w g
group_by_to One w g e = ThreeLevels (group_to w g e)
group_by_to Two w g e = any_to (group_value w) (two_levels_value w) (free_value w) w g refl refl refl e

pub group_by_from : (version : TextVersion) (w : List ℕ) (g : GroupAddr) → SpellsGroupBy version w g → group_by version w ≡ Some g
group_by_from One w g (ThreeLevels is) = group_from w g is
group_by_from One w g (TwoLevels v is) = absurd cc
group_by_from One w g (Free v is) = absurd cc
group_by_from Two w g (ThreeLevels is) = rw (group_from w g is) refl
group_by_from Two w g (TwoLevels v is) = rw (no_three_of_two w g is, two_levels_from w g is) refl
group_by_from Two w g (Free v is) = rw (no_three_of_one w g is, no_two_of_one w g is, free_from w g is) refl
