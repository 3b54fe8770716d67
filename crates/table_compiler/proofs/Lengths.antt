-- How long the tables are.
use Rattle.std.proofs.Common.{◌≡◌, ℕ, ◌+◌, ◌*◌, List, [], ◌∷◌, ◌++◌, length, map, refl, sym, arith, length-append}
use Rattle.std.specs.List.{flat_map}
use Rattle.knx_model.specs.declared.config.LinkSpec.{LinkSpec}
use Rattle.knx_model.specs.declared.config.ObjSpec.{ObjSpec}
use Rattle.std.proofs.lemmas.List.{length-map}
use Rattle.std.proofs.lemmas.List.Folds.{flat_map-map}
use Rattle.knx_model.specs.Tables.{two, pair, address_list, association_list, object_octets, object_list}
use Rattle.table_compiler.specs.Order.{pair_of}

length-two : (n : ℕ) → length (two n) ≡ 2
length-two n = refl

length-pair : (x : ℕ × ℕ) → length (pair x) ≡ 4
length-pair x = refl

pieces : {X : Type 0} (f : X → List ℕ) (k : ℕ) → ((x : X) → length (f x) ≡ k) → (xs : List X) → length (flat_map f xs) ≡ k * length xs
pieces f k each [] = omega arith
pieces f k each (x ∷ xs) = omega (arith, length-append (f x) (flat_map f xs), each x, pieces f k each xs)

pub length-address_list : (groups : List ℕ) → length (address_list groups) ≡ 2 + 2 * length groups
length-address_list groups = omega (arith, length-append (two (length groups)) (flat_map two groups), length-two (length groups), pieces two 2 length-two groups)

length-pairs : (pairs : List (ℕ × ℕ)) → length (association_list pairs) ≡ 2 + 4 * length pairs
length-pairs pairs = omega (arith, length-append (two (length pairs)) (flat_map pair pairs), length-two (length pairs), pieces pair 4 length-pair pairs)

pub length-association_list : (groups : List ℕ) (order : List LinkSpec) → length (association_list (map (pair_of groups) order)) ≡ 2 + 4 * length order
length-association_list groups order = omega (arith, length-pairs (map (pair_of groups) order), length-map order (pair_of groups))

pub length-object_list : (objects : List ObjSpec) → length (object_list objects) ≡ 2 + 2 * length objects
length-object_list objects = omega (arith, length-append (two (length objects)) (flat_map object_octets objects), length-two (length objects), pieces object_octets 2 (λ o. refl) objects)

-- the octets of the pairs of links
pub pairs_of : (groups : List ℕ) (order : List LinkSpec) → two (length order) ++ flat_map (λ l. pair (pair_of groups l)) order ≡ association_list (map (pair_of groups) order)
pairs_of groups order = λ i. two (sym (length-map order (pair_of groups)) i) ++ sym (flat_map-map pair (pair_of groups) order) i
