-- The objects that lines give a device: the table of all numbers, filled from the last line to the first.
use Rattle.std.proofs.Common.{◌≡◌, ℕ, ◌+◌, ◌-◌, ◌<◌, ◌≤◌, List, ◌∷◌, length, get_or, set, take, drop, map, refl, sym, ◌∙◌, arith, inl, inr, replicate}
use Rattle.std.specs.Prelude.{slice_range}
use Rattle.std.specs.List.{range_with_len}
use Rattle.std.proofs.lemmas.Bool.Decides.{eqb_tells}
use Rattle.std.proofs.lemmas.List.{get_or-replicate, length-replicate, drop_all, drop_more, get_or-set_same, get_or-set_other, length-set, ext_get_or, length-drop, length-take-le, get_or-take}
use Rattle.std.proofs.lemmas.Grind.{get_or_after_one}
use Rattle.std.proofs.lemmas.List.FromFn.{get_or-map-range_with_len, length-map-range_with_len}
use Rattle.knx_model.specs.declared.config.ObjSpec.{ObjSpec}
use Rattle.knx_model.specs.Meaning.{object_of}

abbrev pub no_object : ObjSpec
no_object = record { flags = 0; size = 0 }

-- the table holds the object of each number in the lines from place i on
pub record Tabled (lines : List (ℕ × ObjSpec)) (table : List ObjSpec) (i : ℕ) : Type 0 where
  pub whole : length table ≡ 256
  pub each : (n : ℕ) → n < 256 → get_or table n no_object ≡ object_of (drop i lines) n

pub none_yet : (lines : List (ℕ × ObjSpec)) → Tabled lines (replicate 256 no_object) (length lines)
none_yet lines = record {
  whole = length-replicate 256 no_object;
  each = λ n lt. get_or-replicate 256 n no_object no_object lt ∙ rw (drop_all (length lines) lines (omega arith)) refl;
}

pub one_more : (lines : List (ℕ × ObjSpec)) (table : List ObjSpec) (i number : ℕ) → 0 < i → i ≤ length lines → number ≡ (get_or lines (i - 1) (0, no_object)).0 → (get_or lines (i - 1) (0, no_object)).0 < 256 → Tabled lines table i
    → Tabled lines (set table number (get_or lines (i - 1) (0, no_object)).1) (i - 1)
one_more lines table i number some within is small tabled = record {
  whole = length-set table number (get_or lines (i - 1) (0, no_object)).1 ∙ tabled.whole;
  each = λ n lt.
      let line : ℕ × ObjSpec = get_or lines (i - 1) (0, no_object) in
      let next : i - 1 + 1 ≡ i = omega arith in
      let less : i - 1 < length lines = omega arith in
      let rest : drop (i - 1) lines ≡ line ∷ drop i lines = rw next at (drop_more lines (i - 1) (0, no_object) less) in
      rw rest (elim (eqb_tells line.0 n) [
        | inl (yes', same) ↦ rw yes' (let here : number ≡ n = is ∙ same in rw here (get_or-set_same table n line.1 no_object (omega (arith, tabled.whole))))
        | inr (no', apart) ↦ rw no' (get_or-set_other table number n line.1 no_object (λ e. apart (sym is ∙ sym e)) ∙ tabled.each n lt)
      ]);
}

pub all_tabled : (lines : List (ℕ × ObjSpec)) (table : List ObjSpec) (i : ℕ) → i ≤ 0 → Tabled lines table i → (n : ℕ) → n < 256 → get_or table n no_object ≡ object_of lines n
all_tabled lines table i le tabled n lt =
    let none : i ≡ 0 = omega arith in
    (rw none at tabled.each) n lt

-- the part of the table from number 1 to the greatest
pub made : (lines : List (ℕ × ObjSpec)) (table : List ObjSpec) (most : ℕ) → length table ≡ 256 → ((n : ℕ) → n < 256 → get_or table n no_object ≡ object_of lines n) → most < 256 → slice_range table 1 (most + 1) ≡ map (object_of lines) (range_with_len 1 most)
made lines table most whole each few =
    let front : most + 1 - 1 ≡ most = omega arith in
    let rest : length (drop 1 table) ≡ 255 = omega (arith, length-drop 1 table) in
    let long : length (take most (drop 1 table)) ≡ most = length-take-le most (drop 1 table) (omega arith) in
    rw front (ext_get_or no_object (take most (drop 1 table)) (map (object_of lines) (range_with_len 1 most)) (long ∙ sym (length-map-range_with_len (object_of lines) 1 most)) (λ i lt.
    let less : i < most = omega arith in
    get_or-take most (drop 1 table) i no_object less ∙ get_or_after_one table i no_object ∙ each (1 + i) (omega arith) ∙ sym (get_or-map-range_with_len (object_of lines) 1 most i (1 + i) no_object less refl)))
