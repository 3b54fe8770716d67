-- A field shares a bit with one of the fields before exactly where one of its bits is taken.
use Rattle.std.proofs.Common.{◌≡◌, ℕ, ◌+◌, ◌<◌, ◌≤◌, max, true, false, List, [], ◌∷◌, All, refl, arith}
use Rattle.std.specs.List.{list_any}
use Rattle.std.proofs.lemmas.Bool.{false_from_ne_true, or_parts}
use Rattle.std.proofs.lemmas.Bool.Decides.{nat_tests}
use Rattle.std.proofs.lemmas.List.Elements.{All-head, All-tail}
use Rattle.knx_model.specs.declared.catalogue.model.ModelField.{ModelField}
use Rattle.catalogue.specs.Catalogue.{shares_bit}
use Rattle.catalogue.specs.Taken.{has_bit, HasBits}

at_bit : (f g : ModelField) (b : ℕ) → f.bit ≤ b → b < f.bit + f.width → has_bit b g ≡ true → shares_bit f g ≡ true
at_bit f g b low high h = grind (arith, nat_tests)

pub one_shared : (f : ModelField) (gs : List ModelField) (b : ℕ) → f.bit ≤ b → b < f.bit + f.width → list_any (has_bit b) gs ≡ true → list_any (shares_bit f) gs ≡ true
one_shared f [] b low high h = h
one_shared f (g ∷ gs) b low high h = grind (arith, h, at_bit f g b low high, one_shared f gs b low high)

-- two fields that share a bit have both the greater of their first bits
pub at_greater : (f g : ModelField) → shares_bit f g ≡ true → 1 ≤ f.width → 1 ≤ g.width → (f.bit ≤ max f.bit g.bit) × (max f.bit g.bit < f.bit + f.width) × (has_bit (max f.bit g.bit) g ≡ true)
at_greater f g h wide more = (omega arith, grind (arith, nat_tests), grind (arith, nat_tests))

pub none_shared : (f : ModelField) (gs : List ModelField) → 1 ≤ f.width → All HasBits gs → ((b : ℕ) → f.bit ≤ b → b < f.bit + f.width → list_any (has_bit b) gs ≡ false) → list_any (shares_bit f) gs ≡ false
none_shared f [] wide widths h = refl
none_shared f (g ∷ gs) wide widths h =
    let here : shares_bit f g ≡ false = false_from_ne_true _ (λ e. let (low, high, both) = at_greater f g e wide (All-head HasBits g gs widths) in let (not_g, _) = or_parts (has_bit (max f.bit g.bit) g) (list_any (has_bit (max f.bit g.bit)) gs) (h (max f.bit g.bit) low high) in grind (arith, both, not_g)) in
    let rest : list_any (shares_bit f) gs ≡ false = none_shared f gs wide (All-tail HasBits g gs widths) (λ b low high. (or_parts (has_bit b g) (list_any (has_bit b) gs) (h b low high)).1) in
    rw (here, rest) refl
