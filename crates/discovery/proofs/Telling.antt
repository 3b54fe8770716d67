-- What blocks tell of a gateway.
use Rattle.std.proofs.Common.{◌≡◌, ◌≢◌, ℕ, Bool, true, false, List, [], ◌∷◌, ◌++◌, length, map, refl, sym, ap, subst, ◌∙◌, arith, cond}
use Rattle.std.proofs.lemmas.List.{append-nil, append_assoc}
use Rattle.std.specs.Prelude.{drop, filter}
use Rattle.std.proofs.lemmas.Grind.{common_steps}
use Rattle.discovery.specs.declared.about.About.{About}
use Rattle.discovery.specs.Discovery.{Block, is_information, is_families, contents, HasOnly, HasAbout, IsBody, IsInformation, block_octets, octets_of, information_of, families_of, blocks_of, pair_octets}
use Rattle.discovery.proofs.Parting.{only_once}

first_is : (a b : List ℕ) (x y : List (List ℕ)) → a ∷ x ≡ b ∷ y → a ≡ b
first_is a b x y e = cc

-- whether the first block is a device information
first_length : (b : Block) (blocks : List Block) (content : List ℕ) (others : List (List ℕ)) (is : Bool) → is_information b ≡ is → (contents is_information blocks ≡ content ∷ others → length content ≡ 52) → map (λ (b : Block). b.content) (cond is (b ∷ filter is_information blocks) (filter is_information blocks)) ≡ content ∷ others → length content ≡ 52
first_length b blocks content others true is later e =
    let same = first_is b.content content (map (λ (b : Block). b.content) (filter is_information blocks)) others e in
    let len : length b.content ≡ 52 = grind (arith, common_steps) in
    ap length (sym same) ∙ len
first_length b blocks content others false is later e = later e

contents_length : (blocks : List Block) (content : List ℕ) (others : List (List ℕ)) → contents is_information blocks ≡ content ∷ others → length content ≡ 52
contents_length [] content others e = absurd (cc)
contents_length (b ∷ blocks) content others e = first_length b blocks content others (is_information b) refl (contents_length blocks content others) e

-- a device information has 52 octets
pub information_length : (octets content : List ℕ) → HasOnly is_information octets content → length content ≡ 52
information_length octets content h = contents_length h.blocks content [] h.one

pub tells : (octets content pairs : List ℕ) (about : About) → HasOnly is_information octets content → IsInformation content about → HasOnly is_families octets pairs → pairs ≡ pair_octets about.families → HasAbout octets about
tells octets content pairs about information fields families e =
    record { content = content; information = information; fields = fields; families = subst (λ (l : List ℕ). HasOnly is_families octets l) e families }

pub no_information : (octets : List ℕ) → ¬ ((content : List ℕ) × HasOnly is_information octets content) → ¬ ((about : About) × HasAbout octets about)
no_information octets none h = none ((h.1).content, (h.1).information)

pub no_families : (octets : List ℕ) → ¬ ((content : List ℕ) × HasOnly is_families octets content) → ¬ ((about : About) × HasAbout octets about)
no_families octets none h = none (pair_octets (h.0).families, (h.1).families)

pub no_pairs : (octets content : List ℕ) → HasOnly is_families octets content → ((pairs : List (ℕ × ℕ)) → content ≢ pair_octets pairs) → ¬ ((about : About) × HasAbout octets about)
no_pairs octets content one none h = none (h.0).families (only_once is_families octets content (pair_octets (h.0).families) one (h.1).families)

-- ---- bodies that tell of none

pub no_search : (body : List ℕ) → ¬ ((about : About) × HasAbout (drop 8 body) about) → ¬ IsBody 0x0202 body
no_search body none h = none (h.search_response refl).1

pub no_description : (body : List ℕ) → ¬ ((about : About) × HasAbout body about) → ¬ IsBody 0x0204 body
no_description body none h = none (h.description_response refl)

-- ---- the two blocks that are written

pub two_pushed : (out between new : List ℕ) (about : About) → between ≡ out ++ block_octets (information_of about) → new ≡ between ++ block_octets (families_of about.families) → new ≡ out ++ octets_of (blocks_of about)
two_pushed out between new about e f =
    let first = block_octets (information_of about) in
    let second = block_octets (families_of about.families) in
    f ∙ ap (λ (l : List ℕ). l ++ second) e ∙ append_assoc out first second ∙ ap (λ (l : List ℕ). out ++ (first ++ l)) (sym (append-nil second))
