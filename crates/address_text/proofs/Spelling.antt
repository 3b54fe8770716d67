-- The words of a line are read as a unit or a loss just where they spell it.
use Rattle.std.proofs.Common.{◌≡◌, ℕ, Bool, cond, bytes_eq, codes, List, [], ◌∷◌, true, false, Option, Some, None, Result, Ok, Err, refl, sym, ap, ◌∙◌, subst}
use Rattle.std.proofs.lemmas.Slice.Eq.{bytes_eq-Decides}
use Rattle.knx_model.specs.declared.address.IndAddr.{IndAddr}
use Rattle.knx_model.specs.declared.refusal.Why.{Why}
use Rattle.knx_model.specs.declared.refusal.Why.TheVariants.{BadAddress, BadNumber, UnknownWord}
use Rattle.knx_model.specs.Answers.{◌>>=◌}
use Rattle.knx_model.specs.ScriptText.{count_value}
use Rattle.knx_model.specs.Statements.{placed, field, ended}
use Rattle.address_text.specs.declared.line.UnitLine.{UnitLine}
use Rattle.address_text.specs.declared.line.UnitLine.TheVariants.{OfUnit, OfLoss}
use Rattle.address_text.specs.UnitAddress.{unit_address}
use Rattle.address_text.specs.UnitSpelling.{SpellsUnitLine, SpellsProg, SpellsOff, SpellsLoseRead, SpellsLoseAnswer}
use Rattle.address_text.specs.UnitText.{mode_value, unit_says, loss_says, lose_says, after_word_says, unit_words_say}

-- ---- what is spelled is read

pub spelled_is_read : (ws : List (List ℕ)) (what : UnitLine) → SpellsUnitLine ws what → unit_words_say ws ≡ Ok (Some what)
unfolding unit_words_say after_word_says lose_says loss_says unit_says
spelled_is_read _ _ (SpellsProg word address e) = rw e refl
spelled_is_read _ _ (SpellsOff word address e) = rw e refl
spelled_is_read _ _ (SpellsLoseRead of number unit n e f) = rw (e, f) refl
spelled_is_read _ _ (SpellsLoseAnswer of number unit n e f) = rw (e, f) refl

-- ---- what is read is spelled

bound : {A B G : Type 0} (r : Result A Why) (f : A → Result B Why) (v : B) → (r >>= f) ≡ Ok v → ((x : A) → r ≡ Ok x → f x ≡ Ok v → G) → G
bound (Ok x) f v e then_ = then_ x refl e
bound (Err why) f v e then_ = absurd cc

in_place : {A : Type 0} (o : Option A) (why : Why) (ws : List (List ℕ)) (x : A × List (List ℕ)) → placed o why ws ≡ Ok x → (o ≡ Some x.0) × (ws ≡ x.1)
in_place None why ws x e = absurd cc
in_place {A = A} (Some y) why ws x e = let same : (y, ws) ≡ x = cc in (ap (λ (p : A × List (List ℕ)). Some p.0) same, ap (λ (p : A × List (List ℕ)). p.1) same)

-- a word in its place, before the words that are left
record Word {A : Type 0} (read : List ℕ → Option A) (ws : List (List ℕ)) (x : A × List (List ℕ)) : Type 0 where
  word : List ℕ
  first : ws ≡ word ∷ x.1
  value : read word ≡ Some x.0

word_of : {A : Type 0} (read : List ℕ → Option A) (why : Why) (ws : List (List ℕ)) (x : A × List (List ℕ)) → field read why ws ≡ Ok x → Word read ws x
word_of read why [] x e = absurd cc
word_of read why (w ∷ ws) x e = let h = in_place (read w) why ws x e in record { word = w; first = ap (λ (l : List (List ℕ)). w ∷ l) h.1; value = h.0 }

at_end : {A : Type 0} (x : A) (ws : List (List ℕ)) (v : A) → ended x ws ≡ Ok v → (ws ≡ []) × (x ≡ v)
at_end x [] v e = (refl, cc)
at_end x (w ∷ ws) v e = absurd cc

chosen : {A G : Type 0} (b : Bool) (P : Type 0) (x y : Result A Why) (v : A) → (b ≡ true → P) → cond b x y ≡ Ok v → (P → x ≡ Ok v → G) → (y ≡ Ok v → G) → G
chosen true P x y v means e this other = this (means refl) e
chosen false P x y v means e this other = other e

-- the line whose word is k, or another one
choose : {A G : Type 0} (w k : List ℕ) (x y : Result A Why) (v : A) → cond (bytes_eq w k) x y ≡ Ok v → (w ≡ k → x ≡ Ok v → G) → (y ≡ Ok v → G) → G
choose w k x y v e this other = chosen (bytes_eq w k) (w ≡ k) x y v ((bytes_eq-Decides w k).0) e this other

spelled_as : (ws as_ : List (List ℕ)) (what same : UnitLine) → ws ≡ as_ → same ≡ what → SpellsUnitLine as_ same → SpellsUnitLine ws what
spelled_as ws as_ what same p q s = subst (λ (v : UnitLine). SpellsUnitLine ws v) q (subst (λ (l : List (List ℕ)). SpellsUnitLine l same) (sym p) s)

-- ---- a unit

mode_of_word : (p o : Bool) (word : List ℕ) (prog : Bool) → (p ≡ true → word ≡ codes "prog") → (o ≡ true → word ≡ codes "off") → cond p (Some true) (cond o (Some false) None) ≡ Some prog
    → (address : IndAddr) (of : List ℕ) → unit_address of ≡ Some address → SpellsUnitLine (codes "unit" ∷ of ∷ word ∷ []) (OfUnit (record { address = address; prog = prog }))
mode_of_word true o word prog is_prog is_off e address of value =
    let same : true ≡ prog = cc in
    subst (λ (b : Bool). SpellsUnitLine (codes "unit" ∷ of ∷ word ∷ []) (OfUnit (record { address = address; prog = b }))) same
    (subst (λ (w : List ℕ). SpellsUnitLine (codes "unit" ∷ of ∷ w ∷ []) (OfUnit (record { address = address; prog = true }))) (sym (is_prog refl)) (SpellsProg of address value))
mode_of_word false true word prog is_prog is_off e address of value =
    let same : false ≡ prog = cc in
    subst (λ (b : Bool). SpellsUnitLine (codes "unit" ∷ of ∷ word ∷ []) (OfUnit (record { address = address; prog = b }))) same
    (subst (λ (w : List ℕ). SpellsUnitLine (codes "unit" ∷ of ∷ w ∷ []) (OfUnit (record { address = address; prog = false }))) (sym (is_off refl)) (SpellsOff of address value))
mode_of_word false false word prog is_prog is_off e address of value = absurd cc

of_unit : (ws : List (List ℕ)) (v : UnitLine) → unit_says ws ≡ Ok v → SpellsUnitLine (codes "unit" ∷ ws) v
unfolding unit_says
of_unit ws v e = bound (field unit_address BadAddress ws) _ v e (λ d at rest. bound (field mode_value UnknownWord d.1) _ v rest (λ m here last.
    let a = word_of unit_address BadAddress ws d at in
    let w = word_of mode_value UnknownWord d.1 m here in
    let end = at_end (OfUnit (record { address = d.0; prog = m.0 })) m.1 v last in
    spelled_as (codes "unit" ∷ ws) (codes "unit" ∷ a.word ∷ w.word ∷ []) v (OfUnit (record { address = d.0; prog = m.0 }))
    (ap (λ (l : List (List ℕ)). codes "unit" ∷ l) (a.first ∙ ap (λ (l : List (List ℕ)). a.word ∷ l) (w.first ∙ ap (λ (l : List (List ℕ)). w.word ∷ l) end.0))) end.1
    (mode_of_word (bytes_eq w.word (codes "prog")) (bytes_eq w.word (codes "off")) w.word m.0 ((bytes_eq-Decides w.word (codes "prog")).0) ((bytes_eq-Decides w.word (codes "off")).0) w.value d.0 a.word a.value)))

-- ---- a loss

of_loss : (answer : Bool) (k : List ℕ) (ws : List (List ℕ)) (v : UnitLine) → loss_says answer ws ≡ Ok v
    → ((of number : List ℕ) (unit n : ℕ) → count_value of ≡ Some unit → count_value number ≡ Some n → SpellsUnitLine (codes "lose" ∷ k ∷ of ∷ number ∷ []) (OfLoss (record { answer = answer; unit = unit; n = n }))) → SpellsUnitLine (codes "lose" ∷ k ∷ ws) v
unfolding loss_says
of_loss answer k ws v e spells = bound (field count_value BadNumber ws) _ v e (λ u at rest. bound (field count_value BadNumber u.1) _ v rest (λ n here last.
    let a = word_of count_value BadNumber ws u at in
    let w = word_of count_value BadNumber u.1 n here in
    let end = at_end (OfLoss (record { answer = answer; unit = u.0; n = n.0 })) n.1 v last in
    spelled_as (codes "lose" ∷ k ∷ ws) (codes "lose" ∷ k ∷ a.word ∷ w.word ∷ []) v (OfLoss (record { answer = answer; unit = u.0; n = n.0 }))
    (ap (λ (l : List (List ℕ)). codes "lose" ∷ k ∷ l) (a.first ∙ ap (λ (l : List (List ℕ)). a.word ∷ l) (w.first ∙ ap (λ (l : List (List ℕ)). w.word ∷ l) end.0))) end.1
    (spells a.word w.word u.0 n.0 a.value w.value)))

-- the second word put back
seconded : (w k : List ℕ) (ws : List (List ℕ)) (v : UnitLine) → w ≡ k → SpellsUnitLine (codes "lose" ∷ k ∷ ws) v → SpellsUnitLine (codes "lose" ∷ w ∷ ws) v
seconded w k ws v e s = subst (λ (x : List ℕ). SpellsUnitLine (codes "lose" ∷ x ∷ ws) v) (sym e) s

of_lose : (ws : List (List ℕ)) (v : UnitLine) → lose_says ws ≡ Ok v → SpellsUnitLine (codes "lose" ∷ ws) v
unfolding lose_says
of_lose [] v e = absurd cc
of_lose (w ∷ ws) v e =
    choose w (codes "read") (loss_says false ws) _ v e (λ is here. seconded w (codes "read") ws v is (of_loss false (codes "read") ws v here SpellsLoseRead)) (λ e.
    choose w (codes "answer") (loss_says true ws) _ v e (λ is here. seconded w (codes "answer") ws v is (of_loss true (codes "answer") ws v here SpellsLoseAnswer)) (λ e. absurd cc))

-- ---- a line

-- the first word put back
headed : (w k : List ℕ) (ws : List (List ℕ)) (v : UnitLine) → w ≡ k → SpellsUnitLine (k ∷ ws) v → SpellsUnitLine (w ∷ ws) v
headed w k ws v e s = subst (λ (x : List ℕ). SpellsUnitLine (x ∷ ws) v) (sym e) s

of_words : (w : List ℕ) (ws : List (List ℕ)) (v : UnitLine) → after_word_says w ws ≡ Ok v → SpellsUnitLine (w ∷ ws) v
unfolding after_word_says
of_words w ws v e =
    choose w (codes "unit") (unit_says ws) _ v e (λ is here. headed w (codes "unit") ws v is (of_unit ws v here)) (λ e.
    choose w (codes "lose") (lose_says ws) _ v e (λ is here. headed w (codes "lose") ws v is (of_lose ws v here)) (λ e. absurd cc))

pub read_is_spelled : (ws : List (List ℕ)) (what : UnitLine) → unit_words_say ws ≡ Ok (Some what) → SpellsUnitLine ws what
unfolding unit_words_say
read_is_spelled [] what e = absurd cc
read_is_spelled (w ∷ ws) what e = bound (after_word_says w ws) _ (Some what) e (λ v at same.
    let is : v ≡ what = cc in
    subst (SpellsUnitLine (w ∷ ws)) is (of_words w ws v at))
