-- Pairs of family and version, and their octets.
use Rattle.std.proofs.Common.{◌≡◌, ◌≢◌, ℕ, ◌+◌, ◌*◌, ◌<◌, List, [], ◌∷◌, ◌++◌, length, take, get_or, refl, sym, ap, ◌∙◌, append_assoc, arith}
use Rattle.std.proofs.lemmas.List.{length-append, take_more, flat_map_more}
use Rattle.std.proofs.lemmas.List.Concat.{flat_map-append}
use Rattle.discovery.specs.Discovery.{pair_octets}
use Rattle.discovery.proofs.Parting.{same_two}

-- two octets a pair
pub pair_octets_length : (pairs : List (ℕ × ℕ)) → length (pair_octets pairs) ≡ 2 * length pairs
pair_octets_length [] = refl
pair_octets_length (p ∷ pairs) = omega (arith, pair_octets_length pairs)

-- octets are those of one list of pairs
pub pairs_once : (a b : List (ℕ × ℕ)) → pair_octets a ≡ pair_octets b → a ≡ b
pairs_once [] [] e = refl
pairs_once [] (q ∷ b) e = absurd (cc)
pairs_once (p ∷ a) [] e = absurd (cc)
pairs_once (p ∷ a) (q ∷ b) e =
    let two = same_two p.0 p.1 q.0 q.1 (pair_octets a) (pair_octets b) e in
    let rest = pairs_once a b two.2 in
    λ i. (two.0 i, two.1 i) ∷ rest i

-- one pair more
pub pair_more : (pairs : List (ℕ × ℕ)) (family version : ℕ) (behind : List ℕ) → pair_octets (pairs ++ (family, version) ∷ []) ++ behind ≡ pair_octets pairs ++ (family ∷ version ∷ behind)
pair_more pairs family version behind =
    ap (λ (l : List ℕ). l ++ behind) (flat_map-append (λ (p : ℕ × ℕ). p.0 ∷ p.1 ∷ []) pairs ((family, version) ∷ [])) ∙ append_assoc (pair_octets pairs) (family ∷ version ∷ []) behind

-- with one octet more they are those of no pairs
pub odd_is_none : (pairs others : List (ℕ × ℕ)) (last : List ℕ) → length last ≡ 1 → pair_octets pairs ++ last ≢ pair_octets others
odd_is_none pairs others last one e =
    let lengths : length (pair_octets pairs) + length last ≡ length (pair_octets others) = sym (length-append (pair_octets pairs) last) ∙ ap length e in
    absurd (omega (arith, one, lengths, pair_octets_length pairs, pair_octets_length others))

-- one pair more is written
pub pushes : (begun out new : List ℕ) (pairs : List (ℕ × ℕ)) (i : ℕ) (pair : ℕ × ℕ) → i < length pairs → pair ≡ get_or pairs i pair → out ≡ begun ++ pair_octets (take i pairs) → new ≡ out ++ (pair.0 ∷ pair.1 ∷ []) → new ≡ begun ++ pair_octets (take (i + 1) pairs)
pushes begun out new pairs i pair within is so_far e =
    let octets_of_pair = λ (p : ℕ × ℕ). p.0 ∷ p.1 ∷ [] in
    e ∙ ap (λ (l : List ℕ). l ++ (pair.0 ∷ pair.1 ∷ [])) so_far ∙ flat_map_more octets_of_pair begun (take i pairs) pair
    ∙ ap (λ (l : List (ℕ × ℕ)). begun ++ pair_octets l) (ap (λ (p : ℕ × ℕ). take i pairs ++ p ∷ []) is ∙ sym (take_more pairs i pair within))
