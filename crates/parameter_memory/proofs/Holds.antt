-- Fields that are written one after another.
use Rattle.std.proofs.Common.{◌≡◌, ◌≢◌, ◌⊎◌, inl, inr, ℕ, zero, suc, ◌+◌, ◌*◌, ◌^◌, ◌<◌, ◌≤◌, Bool, true, false, nat_eq, List, [], ◌∷◌, ◌++◌, length, get_or, map, replicate, take, drop, All, Contains, if◌then◌else◌, refl, sym, ap, ◌∙◌, subst, arith}
use Rattle.std.specs.List.{IsDistinct}
use Rattle.std.proofs.lemmas.Bool.Decides.{nat_tests}
use Rattle.std.proofs.lemmas.List.{length-replicate, get_or_append_left, get_or_push, length_push, get_or-take, length-take-le, get_or-map, length-map, take_more, get_or_default}
use Rattle.std.proofs.lemmas.List.Elements.{All-nil, All-push, All-map, All-replicate}
use Rattle.std.proofs.lemmas.Map.Keys.{apart_from_distinct}
use Rattle.knx_model.specs.declared.catalogue.model.Model.{Model}
use Rattle.knx_model.specs.declared.catalogue.model.ModelField.{ModelField}
use Rattle.knx_model.specs.declared.config.ParamValue.{ParamValue}
use Rattle.knx_model.specs.Models.{AreApart, AllApart, IsField, IsModel}
use Rattle.knx_model.specs.Parameters.{bits_value, bits_of, field_value, is_of_field, set_value, laid_field, laid, first_bit, IsOutside, HoldsParameters, IsSetting, AreSettings}
use Rattle.parameter_memory.specs.Bits.{AreOctets, value_bits, overwrite, IsBeside, HoldsFields}
use Rattle.parameter_memory.proofs.Digits.{value_fold, small_rest, blank_bit, length-bits_of}
use Rattle.parameter_memory.proofs.Written.{length-value_bits, length-overwrite, beside, apart, written}

-- ---- one field is written

-- what is written is there
holds_it : (bits : List ℕ) (at width value : ℕ) → at + width ≤ length bits → value < 2 ^ width → bits_value (take width (drop at (overwrite bits at (value_bits width value)))) ≡ value
holds_it bits at width value within small =
    let len : length (value_bits width value) ≡ width = length-value_bits width value in
    let there : take width (drop at (overwrite bits at (value_bits width value))) ≡ value_bits width value =
    subst (λ (n : ℕ). take n (drop at (overwrite bits at (value_bits width value))) ≡ value_bits width value) len (written bits at (value_bits width value) (omega (arith, len, within))) in
    ap bits_value there ∙ value_fold width value 0 ∙ small_rest value (2 ^ width) small

-- what lies apart stays
keeps : (bits : List ℕ) (at width value b w : ℕ) → (b + w ≤ at) ⊎ (at + width ≤ b) → bits_value (take w (drop b (overwrite bits at (value_bits width value)))) ≡ bits_value (take w (drop b bits))
keeps bits at width value b w h =
    let len : length (value_bits width value) ≡ width = length-value_bits width value in
    let far : (b + w ≤ at) ⊎ (at + length (value_bits width value) ≤ b) = rw len h in
    ap bits_value (apart bits at (value_bits width value) b w far)

keeps_bit : (bits : List ℕ) (at width value b : ℕ) → (b < at) ⊎ (at + width ≤ b) → get_or (overwrite bits at (value_bits width value)) b 0 ≡ get_or bits b 0
keeps_bit bits at width value b h =
    let len : length (value_bits width value) ≡ width = length-value_bits width value in
    let far : (b < at) ⊎ (at + length (value_bits width value) ≤ b) = rw len h in
    beside bits at (value_bits width value) b far

-- one more field, with its default
pub next_default : (bits : List ℕ) (fs : List ModelField) (f : ModelField) (value : ModelField → ℕ) → HoldsFields bits fs value → f.bit + f.width ≤ length bits → value f < 2 ^ f.width → All (λ g. AreApart g f) fs
    → HoldsFields (overwrite bits f.bit (value_bits f.width (value f))) (fs ++ f ∷ []) value
next_default bits fs f value holds within small far = record {
  fields_hold = All-push (λ g. bits_value (take g.width (drop g.bit (overwrite bits f.bit (value_bits f.width (value f))))) ≡ value g) fs f
      (λ k d lt. keeps bits f.bit f.width (value f) (get_or fs k d).bit (get_or fs k d).width (far k d lt) ∙ holds.fields_hold k d lt)
      (holds_it bits f.bit f.width (value f) within small);
  others = λ b lt out.
      let lt_old : b < length bits = omega (arith, lt, length-overwrite bits f.bit (value_bits f.width (value f))) in
      let last : IsBeside b f = subst (IsBeside b) (get_or_push fs f f (length fs) refl) (out (length fs) f (omega (arith, length_push fs f))) in
      let front : All (IsBeside b) fs = λ k d less. subst (IsBeside b) (get_or_append_left fs (f ∷ []) d k less) (out k d (omega (arith, less, length_push fs f))) in
      keeps_bit bits f.bit f.width (value f) b last ∙ holds.others b lt_old front;
}

-- how the value of a field changes with one more setting
abbrev pub Changes : ParamValue → (ModelField → ℕ) → (ModelField → ℕ) → ModelField → Type 0
Changes p before after g = ((g.bit ≡ p.bit) × (g.width ≡ p.width) × (after g ≡ p.value)) ⊎ (((g.bit + g.width ≤ p.bit) ⊎ (p.bit + p.width ≤ g.bit)) × (after g ≡ before g))

changed : (bits : List ℕ) (p : ParamValue) (before after : ModelField → ℕ) (g : ModelField) → p.bit + p.width ≤ length bits → p.value < 2 ^ p.width → Changes p before after g → bits_value (take g.width (drop g.bit bits)) ≡ before g
    → bits_value (take g.width (drop g.bit (overwrite bits p.bit (value_bits p.width p.value)))) ≡ after g
changed bits p before after g within small (inl (at, wide, is)) old =
    let here : bits_value (take g.width (drop g.bit (overwrite bits p.bit (value_bits p.width p.value)))) ≡ p.value = rw (at, wide) (holds_it bits p.bit p.width p.value within small) in
    here ∙ sym is
changed bits p before after g within small (inr (far, is)) old = keeps bits p.bit p.width p.value g.bit g.width far ∙ old ∙ sym is

pub next_setting : (bits : List ℕ) (fs : List ModelField) (p : ParamValue) (before after : ModelField → ℕ) (f : ModelField) → HoldsFields bits fs before → p.bit + p.width ≤ length bits → p.value < 2 ^ p.width
    → All (Changes p before after) fs → Contains fs f → f.bit ≡ p.bit → f.width ≡ p.width → HoldsFields (overwrite bits p.bit (value_bits p.width p.value)) fs after
next_setting bits fs p before after f holds within small each (j, less, is) at wide = record {
  fields_hold = λ k d lt. changed bits p before after (get_or fs k d) within small (each k d lt) (holds.fields_hold k d lt);
  others = λ b lt out.
      let lt_old : b < length bits = omega (arith, lt, length-overwrite bits p.bit (value_bits p.width p.value)) in
      let here : IsBeside b f = subst (IsBeside b) is (out j f less) in
      let far : (b < p.bit) ⊎ (p.bit + p.width ≤ b) = rw (← at, ← wide) here in
      keeps_bit bits p.bit p.width p.value b far ∙ holds.others b lt_old out;
}

-- ---- settings

set_other : (s : List ParamValue) (p : ParamValue) (g : ModelField) → is_of_field g p ≡ false → set_value (s ++ p ∷ []) g ≡ set_value s g
set_other [] p g h = rw h refl
set_other (q ∷ s) p g h = ap (λ (v : ℕ). if is_of_field g q then q.value else v) (set_other s p g h)

set_here : (s : List ParamValue) (p : ParamValue) (g : ModelField) → is_of_field g p ≡ true → All (λ q. q.bit ≢ p.bit) s → set_value (s ++ p ∷ []) g ≡ p.value
set_here [] p g h far = rw h refl
set_here (q ∷ s) p g h far =
    let ne : q.bit ≢ p.bit = far 0 q (omega arith) in
    let not_it : is_of_field g q ≡ false = grind (arith, nat_tests, h, ne) in
    rw not_it (set_here s p g h (λ k d lt. far (suc k) d (omega (arith, lt))))

apart_at : (fs : List ModelField) (i j : ℕ) (d : ModelField) → AllApart fs → i < j → j < length fs → AreApart (get_or fs i d) (get_or fs j d)
apart_at [] i j d all lt less = absurd (omega arith)
apart_at (f ∷ fs) i zero d all lt less = absurd (omega arith)
apart_at (f ∷ fs) zero (suc j) d all lt less = all.0 j d (omega arith)
apart_at (f ∷ fs) (suc i) (suc j) d all lt less = apart_at fs i j d all.1 (omega arith) (omega arith)

flip : (f g : ModelField) → AreApart f g → AreApart g f
flip f g (inl h) = inr h
flip f g (inr h) = inl h

-- the fields before one are apart from it
pub before_apart : (fs : List ModelField) (i : ℕ) (d : ModelField) → AllApart fs → i < length fs → All (λ g. AreApart g (get_or fs i d)) (take i fs)
before_apart fs i d all less = λ k e lt.
    let lower : k < i = omega (arith, lt, length-take-le i fs (omega arith)) in
    let same : get_or fs k d ≡ get_or (take i fs) k e = get_or_default fs k d e (omega arith) ∙ sym (get_or-take i fs k e lower) in
    subst (λ g. AreApart g (get_or fs i d)) same (apart_at fs k i d all lower less)

order : (i j : ℕ) → i ≢ j → (i < j) ⊎ (j < i)
order i j ne = grind arith

-- two places of a list are one, or their fields lie apart
places_apart : (fs : List ModelField) (i j : ℕ) (d : ModelField) → AllApart fs → i < length fs → j < length fs → i ≢ j → AreApart (get_or fs i d) (get_or fs j d)
places_apart fs i j d all less lesser ne = elim (order i j ne) [ inl lt ↦ apart_at fs i j d all lt lesser | inr gt ↦ flip (get_or fs j d) (get_or fs i d) (apart_at fs j i d all gt less) ]

other : (s : List ParamValue) (i : ℕ) (d : ParamValue) → IsDistinct nat_eq (map first_bit s) → i < length s → All (λ q. q.bit ≢ (get_or s i d).bit) (take i s)
other s i d once less = λ k e lt same.
    let lower : k < i = omega (arith, lt, length-take-le i s (omega arith)) in
    let within : k < length s = omega arith in
    let ne : nat_eq (get_or (map first_bit s) k 0) (get_or (map first_bit s) i 0) ≡ false = apart_from_distinct nat_eq (map first_bit s) k i 0 once lower (omega (arith, length-map s first_bit)) in
    let first : get_or (map first_bit s) k 0 ≡ (get_or (take i s) k e).bit = get_or-map first_bit s k e 0 within ∙ ap first_bit (sym (get_or-take i s k e lower)) in
    let second : get_or (map first_bit s) i 0 ≡ (get_or s i d).bit = get_or-map first_bit s i d 0 less in
    grind (arith, nat_tests, ne, first, second, same)

changes_at : (t : Bool) (s : List ParamValue) (p : ParamValue) (g f : ModelField) → is_of_field g p ≡ t → All (λ q. q.bit ≢ p.bit) s → (t ≡ false → AreApart g f) → f.bit ≡ p.bit → f.width ≡ p.width → Changes p (set_value s) (set_value (s ++ p ∷ [])) g
changes_at true s p g f is once far at wide = inl (grind (arith, nat_tests, is), grind (arith, nat_tests, is), set_here s p g is once)
changes_at false s p g f is once far at wide = inr (rw (← at, ← wide) (far refl), set_other s p g is)

-- what is known of one setting
pub record Known (m : Model) (p : ParamValue) : Type 0 where
  pub field : ModelField
  pub member : Contains m.parameters field
  pub bit : field.bit ≡ p.bit
  pub width : field.width ≡ p.width
  pub short : p.width ≤ 32
  pub within : p.bit + p.width ≤ 8 * m.params
  pub small : p.value < 2 ^ p.width

pub known : (m : Model) (p : ParamValue) → IsModel m → IsSetting m p → Known m p
known m p model setting =
    let f = setting.field in
    let (k, less, is) = setting.member in
    let good : IsField m.params f = subst (IsField m.params) is (model.fields k f less) in
    let bit : f.bit ≡ p.bit = grind (arith, nat_tests, setting.same) in
    let width : f.width ≡ p.width = grind (arith, nat_tests, setting.same) in
    let small : p.value < 2 ^ f.width = omega (arith, setting.greatest, good.holds) in
    record {
      field = f;
      member = setting.member;
      bit = bit;
      width = width;
      short = omega (arith, width, good.short);
      within = omega (arith, bit, width, good.within);
      small = subst (λ (w : ℕ). p.value < 2 ^ w) width small;
    }

-- a field that isn't the setting's lies apart from the setting's
beside_it : (fs : List ModelField) (n j : ℕ) (e : ModelField) (p : ParamValue) (f : ModelField) → AllApart fs → n < length fs → j < length fs → get_or fs j f ≡ f → f.bit ≡ p.bit → f.width ≡ p.width → is_of_field (get_or fs n e) p ≡ false → AreApart (get_or fs n e) f
beside_it fs n j e p f all less lesser is bit width not_it =
    let there : get_or fs j e ≡ f = get_or_default fs j e f lesser ∙ is in
    let ne : n ≢ j = λ same. let one : get_or fs n e ≡ f = ap (λ (k : ℕ). get_or fs k e) same ∙ there in grind (arith, nat_tests, not_it, ap (λ (g : ModelField). g.bit) one, ap (λ (g : ModelField). g.width) one, bit, width) in
    subst (AreApart (get_or fs n e)) there (places_apart fs n j e all less lesser ne)

-- one more setting is written
pub sets : (m : Model) (s : List ParamValue) (i : ℕ) (d : ParamValue) (bits : List ℕ) → IsModel m → AreSettings m s → i < length s → length bits ≡ 8 * m.params → HoldsFields bits m.parameters (set_value (take i s))
    → HoldsFields (overwrite bits (get_or s i d).bit (value_bits (get_or s i d).width (get_or s i d).value)) m.parameters (set_value (take (i + 1) s))
sets m s i d bits model settings less size holds =
    let p : ParamValue = get_or s i d in
    let k = known m p model (settings.each i d less) in
    let once : All (λ q. q.bit ≢ p.bit) (take i s) = other s i d settings.once less in
    let (j, lesser, is) = k.member in
    let each : All (Changes p (set_value (take i s)) (set_value (take i s ++ p ∷ []))) m.parameters = λ n e lt.
    changes_at (is_of_field (get_or m.parameters n e) p) (take i s) p (get_or m.parameters n e) k.field refl once
    (λ not_it. beside_it m.parameters n j e p k.field model.apart lt lesser is k.bit k.width not_it) k.bit k.width in
    rw (take_more s i d less) (next_setting bits m.parameters p (set_value (take i s)) (set_value (take i s ++ p ∷ [])) k.field holds (omega (arith, size, k.within)) k.small each k.member k.bit k.width)

-- ---- a memory holds what its bits hold

pub zero_octets : (n : ℕ) → AreOctets (replicate n 0)
zero_octets n = All-replicate (λ o. o < 256) n 0 (omega arith)

-- a memory of octets that are 0 holds no fields
pub blank : (n : ℕ) → HoldsFields (bits_of (replicate n 0)) [] (set_value [])
blank n = record {
  fields_hold = All-nil (λ f. bits_value (take f.width (drop f.bit (bits_of (replicate n 0)))) ≡ set_value [] f);
  others = λ b lt out. blank_bit n b (omega (arith, lt, length-bits_of (replicate n 0), length-replicate {A = ℕ} n 0));
}

unmapped : (b : ℕ) (s : List ParamValue) (fs : List ModelField) → All (IsOutside b) (map (laid_field s) fs) → All (IsBeside b) fs
unmapped b s fs out = λ k d lt. subst (IsOutside b) (get_or-map (laid_field s) fs k d (laid_field s d) lt) (out k (laid_field s d) (omega (arith, lt, length-map fs (laid_field s))))

pub holds_memory : (m : Model) (s : List ParamValue) (memory : List ℕ) → HoldsFields (bits_of memory) m.parameters (set_value s) → AreOctets memory → length memory ≡ m.params → HoldsParameters memory m.params (laid m s)
unfolding laid field_value
holds_memory m s memory holds octets len = record {
  length = len;
  octets = octets;
  fields = All-map (λ p. bits_value (take p.width (drop p.bit (bits_of memory))) ≡ p.value) (laid_field s) m.parameters holds.fields_hold;
  others = λ b lt out. holds.others b (omega (arith, len, length-bits_of memory, lt)) (unmapped b s m.parameters out);
}
