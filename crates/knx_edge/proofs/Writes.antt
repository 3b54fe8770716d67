-- What a writer took, write by write.
use Rattle.std.proofs.Common.{◌≡◌, ℕ, ◌+◌, ◌-◌, List, length, take, drop, Option, sym, subst, arith}
use Rattle.std.specs.Io.KnownBytes.{Appends}
use Rattle.std.proofs.KnownBytes.{Appends-trans}
use Rattle.std.proofs.Math.Seq.{take-add}
use Rattle.std.proofs.lemmas.Grind.{common_steps}

rest_whole : (octets : List ℕ) (taken : ℕ) → take (length octets - taken) (drop taken octets) ≡ drop taken octets
rest_whole octets taken = grind (arith, common_steps)

-- a further write takes a front of what is left
pub taken_more : (a b c : Option (List ℕ)) (octets : List ℕ) (taken count : ℕ) → Appends a b (take taken octets) → Appends b c (take count (take (length octets - taken) (drop taken octets)))
    → Appends a c (take (taken + count) octets)
taken_more a b c octets taken count front more =
    let P : List ℕ → Type 0 = λ bs. Appends a c bs in
    subst P (sym (take-add taken count octets)) (Appends-trans a b c _ _ front (rw (rest_whole octets taken) at more))
