-- The names of the groups.
use Rattle.std.proofs.Common.{◌≡◌, ℕ, ◌+◌, ◌<◌, ◌≤◌, Bool, cond, List, length, get_or, Option, Some, None, ap, ◌∙◌, arith}
use Rattle.std.proofs.lemmas.List.FromFn.{length-map-range_with_len, get_or-map-range_with_len}
use Rattle.knx_model.specs.Statements.{name_value}
use Rattle.knx_gen.specs.Generated.{group_name, group_names}
use Rattle.knx_gen.proofs.Spelled.{name_is}

pub length_names : (count : ℕ) → length (group_names count) ≡ count
unfolding group_names
length_names count = length-map-range_with_len group_name 1 count

pub name_at : (names : List (List ℕ)) (count k raw : ℕ) (other : List ℕ) → names ≡ group_names count → k < count → 1 + k ≡ raw → get_or names k other ≡ group_name raw
unfolding group_names
name_at names count k raw other all lt is = ap (λ xs. get_or xs k other) all ∙ get_or-map-range_with_len group_name 1 count k raw other lt is

-- each is a name
pub name_again : (raw : ℕ) → raw ≤ 2003 → name_value (group_name raw) ≡ Some (group_name raw)
name_again raw few = ap (λ (b : Bool). cond {A = Option (List ℕ)} b (Some (group_name raw)) None) (name_is raw (omega arith))

-- what is read at a place of the names
pub named : (names : List (List ℕ)) (k raw : ℕ) (name word : List ℕ) (read : Option (List ℕ)) → names ≡ group_names 2003 → 1 + k ≡ raw → raw ≤ 2003 → name ≡ get_or names k name → word ≡ name → read ≡ name_value word
    → read ≡ Some (group_name raw)
named names k raw name word read all at few there same is =
    is ∙ (ap name_value (same ∙ (there ∙ name_at names 2003 k raw name all (omega (arith, at, few)) at)) ∙ name_again raw few)
