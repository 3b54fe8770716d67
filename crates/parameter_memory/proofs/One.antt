-- A memory is known by what its fields hold.
use Rattle.std.proofs.Common.{◌≡◌, ◌⊎◌, inl, inr, ℕ, suc, ◌+◌, ◌-◌, ◌*◌, ◌<◌, ◌≤◌, List, [], ◌∷◌, length, get_or, take, drop, All, Contains, sym, ap, ◌∙◌, subst, arith}
use Rattle.std.proofs.lemmas.List.{get_or-map, length-map, length-take, length-drop, get_or-take, get_or-drop, ext_get_or}
use Rattle.std.proofs.lemmas.List.Elements.{All-nil, All-cons, All-take, All-drop}
use Rattle.knx_model.specs.declared.catalogue.model.Model.{Model}
use Rattle.knx_model.specs.declared.catalogue.model.ModelField.{ModelField}
use Rattle.knx_model.specs.declared.config.ParamValue.{ParamValue}
use Rattle.knx_model.specs.Parameters.{bits_of, field_value, set_value, laid_field, laid, IsOutside, HoldsParameters}
use Rattle.parameter_memory.specs.Bits.{AreBits}
use Rattle.parameter_memory.proofs.Digits.{length-bits_of, bits_are, same_digits, same_octets}

pub one_value : (m : Model) (s : List ParamValue) (memory : List ℕ) (f : ModelField) → HoldsParameters memory m.params (laid m s) → Contains m.parameters f → field_value memory f.bit f.width ≡ set_value s f
unfolding laid
one_value m s memory f h (k, lt, is) =
    let at : field_value memory (get_or m.parameters k f).bit (get_or m.parameters k f).width ≡ set_value s (get_or m.parameters k f) =
    subst (λ p. field_value memory p.bit p.width ≡ p.value) (get_or-map (laid_field s) m.parameters k f (laid_field s f) lt) (h.fields k (laid_field s f) (omega (arith, lt, length-map m.parameters (laid_field s)))) in
    subst (λ g. field_value memory g.bit g.width ≡ set_value s g) is at

-- a bit is of a field, or of none
here_or_not : (b : ℕ) (p : ParamValue) → IsOutside b p ⊎ ((p.bit ≤ b) × (b < p.bit + p.width))
here_or_not b p = grind arith

of_some : (b : ℕ) (ps : List ParamValue) → All (IsOutside b) ps ⊎ ((k : ℕ) × (d : ParamValue) × (k < length ps) × ((get_or ps k d).bit ≤ b) × (b < (get_or ps k d).bit + (get_or ps k d).width))
of_some b [] = inl (All-nil (IsOutside b))
of_some b (p ∷ ps) = elim (here_or_not b p) [
  | inl out ↦ elim (of_some b ps) [ inl rest ↦ inl (All-cons (IsOutside b) p ps out rest) | inr (k, d, lt, low, high) ↦ inr (suc k, d, omega (arith, lt), low, high) ]
  | inr (low, high) ↦ inr (0, p, omega arith, low, high)
]

-- the bits of a field that holds one value
field_bits : (one other : List ℕ) (bit width : ℕ) → length one ≡ length other → field_value one bit width ≡ field_value other bit width → take width (drop bit (bits_of one)) ≡ take width (drop bit (bits_of other))
unfolding field_value
field_bits one other bit width len e =
    let first : List ℕ = take width (drop bit (bits_of one)) in
    let second : List ℕ = take width (drop bit (bits_of other)) in
    let lengths : length first ≡ length second = length-take width (drop bit (bits_of one)) ∙ rw (length-drop bit (bits_of one), length-bits_of one, len, ← length-bits_of other, ← length-drop bit (bits_of other)) (sym (length-take width (drop bit (bits_of other)))) in
    let digits : AreBits first = All-take (λ b. b < 2) width (drop bit (bits_of one)) (All-drop (λ b. b < 2) bit (bits_of one) (bits_are one)) in
    let others : AreBits second = All-take (λ b. b < 2) width (drop bit (bits_of other)) (All-drop (λ b. b < 2) bit (bits_of other) (bits_are other)) in
    (same_digits 0 0 first second lengths digits others e).1

in_range : (bits : List ℕ) (bit width b : ℕ) → bit ≤ b → b < bit + width → get_or (take width (drop bit bits)) (b - bit) 0 ≡ get_or bits b 0
in_range bits bit width b low high =
    let less : b - bit < width = omega arith in
    let place : bit + (b - bit) ≡ b = omega arith in
    get_or-take width (drop bit bits) (b - bit) 0 less ∙ get_or-drop bit bits (b - bit) 0 ∙ ap (λ (k : ℕ). get_or bits k 0) place

one_bit : (len : ℕ) (ps : List ParamValue) (one other : List ℕ) (b : ℕ) → HoldsParameters one len ps → HoldsParameters other len ps → b < 8 * len → get_or (bits_of one) b 0 ≡ get_or (bits_of other) b 0
one_bit len ps one other b h g lt = elim (of_some b ps) [
  | inl out ↦ h.others b lt out ∙ sym (g.others b lt out)
  | inr (k, d, less, low, high) ↦
      let bit = (get_or ps k d).bit in
      let width = (get_or ps k d).width in
      let same : field_value one bit width ≡ field_value other bit width = h.fields k d less ∙ sym (g.fields k d less) in
      let bits = field_bits one other bit width (h.length ∙ sym g.length) same in
      sym (in_range (bits_of one) bit width b low high) ∙ ap (λ xs. get_or xs (b - bit) 0) bits ∙ in_range (bits_of other) bit width b low high
]

pub one : (len : ℕ) (ps : List ParamValue) (a b : List ℕ) → HoldsParameters a len ps → HoldsParameters b len ps → a ≡ b
one len ps a b h g =
    let lengths : length (bits_of a) ≡ length (bits_of b) = length-bits_of a ∙ rw (h.length, ← g.length) (sym (length-bits_of b)) in
    let bits : bits_of a ≡ bits_of b = ext_get_or 0 (bits_of a) (bits_of b) lengths (λ i lt. one_bit len ps a b i h g (omega (arith, lt, length-bits_of a, h.length))) in
    same_octets a b h.octets g.octets bits
