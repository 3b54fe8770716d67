-- Octets are parted into blocks in one way.
use Rattle.std.proofs.Common.{◌≡◌, ℕ, ◌+◌, Bool, List, [], ◌∷◌, ◌++◌, length, take, drop, map, refl, sym, ap, ◌∙◌, append_assoc, arith}
use Rattle.std.specs.Prelude.{filter}
use Rattle.std.proofs.lemmas.List.{append-nil, take_at, drop_at, map-append}
use Rattle.std.proofs.lemmas.List.Elements.{filter-append}
use Rattle.discovery.specs.Discovery.{Block, block_octets, octets_of, contents, HasOnly}

-- lists of equal fronts of one length have equal rests
pub same_parts : (a b r s : List ℕ) → length a ≡ length b → a ++ r ≡ b ++ s → (a ≡ b) × (r ≡ s)
same_parts a b r s n e = (
  sym (take_at a r (length a) refl) ∙ ap (take (length a)) e ∙ take_at b s (length a) (sym n),
  sym (drop_at a r (length a) refl) ∙ ap (drop (length a)) e ∙ drop_at b s (length a) (sym n),
)

pub same_two : (x y u v : ℕ) (p q : List ℕ) → x ∷ (y ∷ p) ≡ u ∷ (v ∷ q) → (x ≡ u) × (y ≡ v) × (p ≡ q)
same_two x y u v p q e = ((cc), (cc), (cc))

-- the first block is one
pub same_front : (a b : Block) (r s : List ℕ) → block_octets a ++ r ≡ block_octets b ++ s → (a ≡ b) × (r ≡ s)
same_front a b r s e =
    let two = same_two (2 + length a.content) a.kind (2 + length b.content) b.kind (a.content ++ r) (b.content ++ s) e in
    let parts = same_parts a.content b.content r s (let n = two.0 in omega arith) two.2 in
    ((λ i. record { kind = two.1 i; content = parts.0 i }), parts.1)

-- blocks that begin with those that were passed
pub record GoOn (blocks passed : List Block) (rest : List ℕ) : Type 0 where
  pub later : List Block
  pub all : blocks ≡ passed ++ later
  pub octets : rest ≡ octets_of later

pub goes_on : (passed : List Block) (rest : List ℕ) (blocks : List Block) → octets_of passed ++ rest ≡ octets_of blocks → GoOn blocks passed rest
goes_on [] rest blocks e = record { later = blocks; all = refl; octets = e }
goes_on (b ∷ passed) rest [] e = absurd (cc)
goes_on (b ∷ passed) rest (c ∷ blocks) e =
    let e' : block_octets b ++ (octets_of passed ++ rest) ≡ block_octets c ++ octets_of blocks = sym (append_assoc (block_octets b) (octets_of passed) rest) ∙ e in
    let both = same_front b c (octets_of passed ++ rest) (octets_of blocks) e' in
    let on = goes_on passed rest blocks both.1 in
    record { later = on.later; all = λ i. sym both.0 i ∷ on.all i; octets = on.octets }

-- no octets are no blocks
pub none_later : (later : List Block) → [] ≡ octets_of later → later ≡ []
none_later [] e = refl
none_later (b ∷ later) e = absurd (cc)

pub same_blocks : (a b : List Block) → octets_of a ≡ octets_of b → a ≡ b
same_blocks a b e =
    let on = goes_on a [] b (append-nil (octets_of a) ∙ e) in
    sym (on.all ∙ ap (λ (later : List Block). a ++ later) (none_later on.later on.octets) ∙ append-nil a)

pub contents-append : (is_of : Block → Bool) (xs ys : List Block) → contents is_of (xs ++ ys) ≡ contents is_of xs ++ contents is_of ys
contents-append is_of xs ys = ap (map (λ (b : Block). b.content)) (filter-append is_of xs ys) ∙ map-append (λ (b : Block). b.content) (filter is_of xs) (filter is_of ys)

same_one : (a b : List ℕ) → a ∷ [] ≡ b ∷ [] → a ≡ b
same_one a b e = cc

-- the one block of a sort is one
pub only_once : (is_of : Block → Bool) (octets a b : List ℕ) → HasOnly is_of octets a → HasOnly is_of octets b → a ≡ b
only_once is_of octets a b p q =
    let same : p.blocks ≡ q.blocks = same_blocks p.blocks q.blocks (sym p.all ∙ q.all) in
    same_one a b (sym p.one ∙ ap (contents is_of) same ∙ q.one)
