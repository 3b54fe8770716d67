-- The objects of a group objects' table, by number.
use Rattle.std.proofs.Common.{◌≡◌, ℕ, zero, suc, ◌+◌, ◌*◌, ◌<◌, ◌≤◌, Bool, true, false, cond, List, [], ◌∷◌, length, get_or, Option, Some, None, refl, ◌∙◌, arith}
use Rattle.std.specs.Prelude.{slice_get}
use Rattle.std.proofs.lemmas.Bool.{le-leb, cond-true}
use Rattle.knx_model.specs.declared.config.ObjSpec.{ObjSpec}
use Rattle.knx_model.specs.Acts.{numbers, in_specs, objects, object_in_table, is_object_number}
use Rattle.knx_model.specs.Tables.{at_place}
use Rattle.device_tables.proofs.Numbers.{twice, twice_one, spec_is, no_spec, within, beyond, cut}

pub is_number : (o : ℕ) → 1 ≤ o → o ≤ 255 → is_object_number o ≡ true
is_number o from to = rw (le-leb 1 o from, le-leb o 255 to) refl

never : {X : Type 0} (test : Bool) (x : Option X) → x ≡ None → cond test x None ≡ None
never true x e = e
never false x e = refl

nothing : (o : ℕ) → at_place {X = ObjSpec} [] o ≡ None
nothing zero = refl
nothing (suc i) = refl

-- an object of the table is of the two octets at twice its number
pub object_is : (octets : List ℕ) (count o : ℕ) → slice_get (numbers octets) 0 ≡ Some count → 1 ≤ o → o ≤ 255 → o ≤ count → 2 * o + 1 < length octets → object_in_table octets o ≡ Some (record { flags = get_or octets (2 * o) 0; size = get_or octets (2 * o + 1) 0 })
object_is octets count zero c from to le lt = absurd (omega arith)
object_is [] count (suc i) c from to le lt = absurd (omega arith)
object_is (a ∷ []) count (suc i) c from to le lt = absurd (omega arith)
object_is (high ∷ low ∷ rest) count (suc i) c from to le lt =
    let same : 256 * high + low ≡ count = cc in
    cond-true (is_object_number (suc i)) (slice_get (objects (high ∷ low ∷ rest)) i) None (is_number (suc i) from to)
    ∙ within (256 * high + low) (in_specs rest) i (omega arith)
    ∙ rw (twice_one, twice) (spec_is rest i (omega arith))

-- a number that the table hasn't
pub no_count : (octets : List ℕ) (o : ℕ) → slice_get (numbers octets) 0 ≡ None → object_in_table octets o ≡ None
no_count [] o c = never (is_object_number o) (at_place [] o) (nothing o)
no_count (a ∷ []) o c = never (is_object_number o) (at_place [] o) (nothing o)
no_count (high ∷ low ∷ rest) o c = absurd (cc)

pub not_counted : (octets : List ℕ) (count o : ℕ) → slice_get (numbers octets) 0 ≡ Some count → count < o → object_in_table octets o ≡ None
not_counted [] count o c lt = absurd (cc)
not_counted (a ∷ []) count o c lt = absurd (cc)
not_counted (high ∷ low ∷ rest) count zero c lt = refl
not_counted (high ∷ low ∷ rest) count (suc i) c lt =
    let same : 256 * high + low ≡ count = cc in
    never (is_object_number (suc i)) (slice_get (objects (high ∷ low ∷ rest)) i) (beyond (256 * high + low) (in_specs rest) i (omega arith))

pub not_whole : (octets : List ℕ) (o : ℕ) → length octets ≤ 2 * o + 1 → object_in_table octets o ≡ None
not_whole octets zero le = refl
not_whole [] (suc i) le = never (is_object_number (suc i)) None refl
not_whole (a ∷ []) (suc i) le = never (is_object_number (suc i)) None refl
not_whole (high ∷ low ∷ rest) (suc i) le = never (is_object_number (suc i)) (slice_get (objects (high ∷ low ∷ rest)) i) (cut (256 * high + low) (in_specs rest) i (no_spec rest i (omega arith)))
