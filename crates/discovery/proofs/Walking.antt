-- The way along the blocks: what was passed, and what is left.
use Rattle.std.proofs.Common.{◌≡◌, ◌≢◌, ℕ, ◌+◌, ◌≤◌, ◌<◌, ◌⊎◌, inl, inr, map, Bool, true, false, List, [], ◌∷◌, ◌++◌, length, refl, sym, ap, subst, ◌∙◌, append_assoc, arith, cond}
use Rattle.std.specs.Prelude.{take, drop, Option, Some, None, IfNone}
use Rattle.std.proofs.lemmas.List.{append-nil, length-append, take-append-drop, length-take-le}
use Rattle.std.proofs.lemmas.List.Concat.{flat_map-append}
use Rattle.discovery.specs.declared.blocks.walk.Found.{Found}
use Rattle.discovery.specs.declared.blocks.walk.Found.TheVariants.{Nothing, Several}
use Rattle.discovery.specs.Discovery.{Block, block_octets, octets_of, contents, HasOnly}
use Rattle.discovery.specs.Walks.{IsFound}
use Rattle.discovery.proofs.Parting.{goes_on, same_blocks, same_two, contents-append}

-- ---- the first block

pub is_first : (octets rest : List ℕ) (first kind len : ℕ) → octets ≡ first ∷ (kind ∷ rest) → first ≡ 2 + len → len ≤ length rest → octets ≡ block_octets (record { kind = kind; content = take len rest }) ++ drop len rest
is_first octets rest first kind len e n fits =
    let m : length (take len rest) ≡ len = length-take-le len rest fits in
    let k : first ≡ 2 + length (take len rest) = omega (arith, m, n) in
    e ∙ ap (λ (x : ℕ). x ∷ (kind ∷ rest)) k ∙ ap (λ (l : List ℕ). (2 + length (take len rest)) ∷ (kind ∷ l)) (sym (take-append-drop len rest))

pub too_short : (octets : List ℕ) → length octets < 2 → (b : Block) (behind : List ℕ) → octets ≢ block_octets b ++ behind
too_short octets short b behind e =
    let n : length octets ≡ length (block_octets b ++ behind) = ap length e in
    absurd (omega (arith, n, short))

pub too_long : (octets rest : List ℕ) (first kind : ℕ) → octets ≡ first ∷ (kind ∷ rest) → first < 2 ⊎ (2 + length rest < first) → (b : Block) (behind : List ℕ) → octets ≢ block_octets b ++ behind
too_long octets rest first kind e why b behind f =
    let two = same_two first kind (2 + length b.content) b.kind rest (b.content ++ behind) (sym e ∙ f) in
    let first_is : first ≡ 2 + length b.content = two.0 in
    let lengths : length rest ≡ length b.content + length behind = ap length two.2 ∙ length-append b.content behind in
    elim why [ inl short ↦ absurd (omega (arith, short, first_is)) | inr long ↦ absurd (omega (arith, long, first_is, lengths)) ]

-- ---- what is found with one block more

content_if : (is_of : Block → Bool) (b : Block) (t : Bool) → is_of b ≡ t → contents is_of (b ∷ []) ≡ cond t (b.content ∷ []) []
content_if is_of b true e = ap (λ (t : Bool). map (λ (b : Block). b.content) (cond t (b ∷ []) [])) e
content_if is_of b false e = ap (λ (t : Bool). map (λ (b : Block). b.content) (cond t (b ∷ []) [])) e

pub found_other : (is_of : Block → Bool) (b : Block) (found : Found) → is_of b ≡ false → (seen : List (List ℕ)) → IsFound seen found → IsFound (seen ++ contents is_of (b ∷ [])) found
found_other is_of b found e seen h =
    subst (λ (l : List (List ℕ)). IsFound l found) (sym (ap (λ (l : List (List ℕ)). seen ++ l) (content_if is_of b false e) ∙ append-nil seen)) h

pub found_first : (is_of : Block → Bool) (b : Block) → is_of b ≡ true → (seen : List (List ℕ)) → seen ≡ [] → seen ++ contents is_of (b ∷ []) ≡ b.content ∷ []
found_first is_of b e seen h = ap (λ (l : List (List ℕ)). l ++ contents is_of (b ∷ [])) h ∙ content_if is_of b true e

pub found_more : (is_of : Block → Bool) (b : Block) → is_of b ≡ true → (seen : List (List ℕ)) → 1 ≤ length seen → 2 ≤ length (seen ++ contents is_of (b ∷ []))
found_more is_of b e seen h =
    let n : length (contents is_of (b ∷ [])) ≡ 1 = ap length (content_if is_of b true e) in
    omega (arith, h, n, length-append seen (contents is_of (b ∷ [])))

-- ---- all blocks

-- the blocks that were passed, up to the rest, and what was found of a sort among them
pub record Along (is_of : Block → Bool) (octets rest : List ℕ) (found : Found) : Type 0 where
  pub passed : List Block
  pub all : octets ≡ octets_of passed ++ rest
  pub so_far : IsFound (contents is_of passed) found

pub begins : (is_of : Block → Bool) (octets : List ℕ) → Along is_of octets octets Nothing
begins is_of octets = record { passed = []; all = refl; so_far = refl }

-- one block further
pub further : (is_of : Block → Bool) (octets rest behind : List ℕ) (found next : Found) (b : Block) → Along is_of octets rest found → rest ≡ block_octets b ++ behind → ((seen : List (List ℕ)) → IsFound seen found → IsFound (seen ++ contents is_of (b ∷ [])) next) → Along is_of octets behind next
further is_of octets rest behind found next b along e step =
    let split : octets_of (along.passed ++ b ∷ []) ≡ octets_of along.passed ++ block_octets b = flat_map-append block_octets along.passed (b ∷ []) ∙ ap (λ (l : List ℕ). octets_of along.passed ++ l) (append-nil (block_octets b)) in
    record {
      passed = along.passed ++ b ∷ [];
      all = along.all ∙ ap (λ (l : List ℕ). octets_of along.passed ++ l) e ∙ sym (append_assoc (octets_of along.passed) (block_octets b) behind) ∙ ap (λ (l : List ℕ). l ++ behind) (sym split);
      so_far = subst (λ (c : List (List ℕ)). IsFound c next) (sym (contents-append is_of along.passed (b ∷ []))) (step (contents is_of along.passed) along.so_far);
    }

-- a rest that begins with no block is none of blocks
later_none : (later : List Block) (rest : List ℕ) → rest ≢ [] → ((b : Block) (behind : List ℕ) → rest ≢ block_octets b ++ behind) → rest ≡ octets_of later → ⊥
later_none [] rest some not_one e = some e
later_none (b ∷ later) rest some not_one e = not_one b (octets_of later) e

pub breaks_off : (is_of : Block → Bool) (octets rest : List ℕ) (found : Found) → Along is_of octets rest found → rest ≢ [] → ((b : Block) (behind : List ℕ) → rest ≢ block_octets b ++ behind) → ¬ ((content : List ℕ) × HasOnly is_of octets content)
breaks_off is_of octets rest found along some not_one h =
    let on = goes_on along.passed rest (h.1).blocks (sym along.all ∙ (h.1).all) in
    later_none on.later rest some not_one on.octets

-- at the end all blocks were passed
passed_all : (is_of : Block → Bool) (octets : List ℕ) (found : Found) (along : Along is_of octets [] found) → octets ≡ octets_of along.passed
passed_all is_of octets found along = along.all ∙ append-nil (octets_of along.passed)

pub ends_one : (is_of : Block → Bool) (octets content : List ℕ) (found : Found) (along : Along is_of octets [] found) → contents is_of along.passed ≡ content ∷ [] → HasOnly is_of octets content
ends_one is_of octets content found along e = record { blocks = along.passed; all = passed_all is_of octets found along; one = e }

pub ends_otherwise : (is_of : Block → Bool) (octets : List ℕ) (found : Found) (along : Along is_of octets [] found) → length (contents is_of along.passed) ≢ 1 → ¬ ((content : List ℕ) × HasOnly is_of octets content)
ends_otherwise is_of octets found along other h =
    let same : (h.1).blocks ≡ along.passed = same_blocks (h.1).blocks along.passed (sym (h.1).all ∙ passed_all is_of octets found along) in
    other (ap length (sym (ap (contents is_of) same) ∙ (h.1).one))

pub ends_nothing : (is_of : Block → Bool) (octets rest : List ℕ) (found : Found) → rest ≡ [] → found ≡ Nothing → Along is_of octets rest found → ¬ ((content : List ℕ) × HasOnly is_of octets content)
ends_nothing is_of octets rest found e f along =
    let ended : Along is_of octets [] found = subst (λ (l : List ℕ). Along is_of octets l found) e along in
    let nothing : contents is_of ended.passed ≡ [] = subst (λ (x : Found). IsFound (contents is_of ended.passed) x) f ended.so_far in
    ends_otherwise is_of octets found ended (λ one. absurd (let m : length (contents is_of ended.passed) ≡ 0 = ap length nothing in omega (arith, m, one)))

pub if_none : {X : Type 0} (r : Option X) (P : Type 0) → P → IfNone r P
if_none None P p = p
if_none (Some x) P p = tt

-- nothing or several were found
pub ends_neither : (is_of : Block → Bool) (octets rest : List ℕ) (found : Found) → rest ≡ [] → (found ≡ Nothing) ⊎ (found ≡ Several) → Along is_of octets rest found → ¬ ((content : List ℕ) × HasOnly is_of octets content)
ends_neither is_of octets rest found e (inl nothing) along = ends_nothing is_of octets rest found e nothing along
ends_neither is_of octets rest found e (inr several) along =
    let ended : Along is_of octets [] found = subst (λ (l : List ℕ). Along is_of octets l found) e along in
    let two : 2 ≤ length (contents is_of ended.passed) = subst (λ (x : Found). IsFound (contents is_of ended.passed) x) several ended.so_far in
    ends_otherwise is_of octets found ended (λ one. absurd (omega (arith, two, one)))
