-- Octets are read as one frame.
use Rattle.std.proofs.Common.{◌≡◌, ℕ, List, [], ◌∷◌, refl, ap, sym, ◌∙◌, Option, Some, None, arith}
use Rattle.std.proofs.lemmas.Grind.{common_steps}
use Rattle.knx_model.specs.declared.address.IndAddr.{IndAddr}
use Rattle.knx_model.specs.declared.frames.value.Value.{Value}
use Rattle.knx_model.specs.declared.frames.value.Value.TheVariants.{Short, Long}
use Rattle.knx_model.specs.declared.frames.tpdu.Apdu.{Apdu}
use Rattle.knx_model.specs.declared.frames.tpdu.Tpdu.{Tpdu}
use Rattle.knx_model.specs.Apdu.{Reads, ReadsApdu, ReadsControl, ReadsData, IsWord, IsAddressed, IsOfProperty, IsValue, IsDescriptor}

pub word_once : (xs : List ℕ) (m n : ℕ) → IsWord xs m → IsWord xs n → m ≡ n
word_once [] m n p q = absurd p
word_once (a ∷ []) m n p q = absurd p
word_once (a ∷ b ∷ []) m n p q = p ∙ sym q
word_once (a ∷ b ∷ c ∷ xs) m n p q = absurd p

pub value_once : (code : ℕ) (xs : List ℕ) (v w : Value) → IsValue code xs v → IsValue code xs w → v ≡ w
value_once code xs (Short a) (Short b) p q = cc
value_once code xs (Short a) (Long b) p q = grind (arith, common_steps)
value_once code xs (Long a) (Short b) p q = grind (arith, common_steps)
value_once code xs (Long a) (Long b) p q = cc

pub address_once : (xs : List ℕ) (a b : IndAddr) → IsWord xs a.raw → IsWord xs b.raw → a ≡ b
address_once xs a b p q = ap (λ (n : ℕ). let a : IndAddr = record { raw = n } in a) (word_once xs a.raw b.raw p q)

pub addressed_once : (xs : List ℕ) (a b : ℕ) (os ps : List ℕ) → IsAddressed xs a os → IsAddressed xs b ps → (a ≡ b) × (os ≡ ps)
addressed_once [] a b os ps p q = absurd p
addressed_once (x ∷ []) a b os ps p q = absurd p
addressed_once (x ∷ y ∷ xs) a b os ps p q = (p.0 ∙ sym q.0, p.1 ∙ sym q.1)

pub property_once : (xs : List ℕ) (o p c s o' p' c' s' : ℕ) (os os' : List ℕ) → IsOfProperty xs o p c s os → IsOfProperty xs o' p' c' s' os' → (o ≡ o') × (p ≡ p') × (c ≡ c') × (s ≡ s') × (os ≡ os')
property_once [] o p c s o' p' c' s' os os' h k = absurd h
property_once (x ∷ []) o p c s o' p' c' s' os os' h k = absurd h
property_once (x ∷ y ∷ []) o p c s o' p' c' s' os os' h k = absurd h
property_once (x ∷ y ∷ z ∷ []) o p c s o' p' c' s' os os' h k = absurd h
property_once (x ∷ y ∷ z ∷ w ∷ xs) o p c s o' p' c' s' os os' h k =
    (h.0 ∙ sym k.0, h.1 ∙ sym k.1, h.2 ∙ sym k.2, h.3 ∙ sym k.3, h.4 ∙ sym k.4)

pub descriptor_once : (kind : ℕ) (xs : List ℕ) (v w : Option ℕ) → IsDescriptor kind xs v → IsDescriptor kind xs w → v ≡ w
descriptor_once kind xs None None p q = refl
descriptor_once kind xs None (Some n) p q = absurd (q.0 p.0)
descriptor_once kind xs (Some m) None p q = absurd (p.0 q.0)
descriptor_once kind xs (Some m) (Some n) p q = ap Some (word_once xs m n p.1 q.1)

pub apdu_once : (code : ℕ) (rest : List ℕ) (one other : Apdu) → ReadsApdu code rest one → ReadsApdu code rest other → one ≡ other
apdu_once code rest one other p q = grind (arith, common_steps, value_once, word_once, address_once, addressed_once, property_once, descriptor_once)

pub control_once : (first : ℕ) (one other : Tpdu) → ReadsControl first one → ReadsControl first other → one ≡ other
control_once first one other p q = grind (arith, common_steps)

pub data_once : (first second : ℕ) (rest : List ℕ) (one other : Tpdu) → ReadsData first second rest one → ReadsData first second rest other → one ≡ other
data_once first second rest one other p q = grind (arith, common_steps, apdu_once)

pub tpdu_once : (octets : List ℕ) (one other : Tpdu) → Reads octets one → Reads octets other → one ≡ other
tpdu_once [] one other p q = absurd p
tpdu_once (first ∷ []) one other p q = control_once first one other p q
tpdu_once (first ∷ second ∷ rest) one other p q = data_once first second rest one other p q
