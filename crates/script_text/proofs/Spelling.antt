-- The words of a line are read as a line of the script just where they spell it.
use Rattle.std.proofs.Common.{◌≡◌, ℕ, Bool, cond, bytes_eq, codes, List, [], ◌∷◌, ◌++◌, true, false, Option, Some, None, Result, Ok, Err, refl, sym, ap, ◌∙◌, subst}
use Rattle.std.proofs.lemmas.Slice.Eq.{bytes_eq-Decides}
use Rattle.knx_model.specs.declared.address.GroupAddr.{GroupAddr}
use Rattle.knx_model.specs.declared.address.IndAddr.{IndAddr}
use Rattle.knx_model.specs.declared.refusal.Why.{Why}
use Rattle.knx_model.specs.declared.refusal.Why.TheVariants.{BadAddress, BadNumber}
use Rattle.knx_model.specs.declared.script.GroupService.{GroupService}
use Rattle.knx_model.specs.declared.script.ScriptWhat.{ScriptWhat}
use Rattle.knx_model.specs.declared.script.ScriptWhat.TheVariants.{LoseUp, LoseDown, RepeatUp, RepeatDown, LoseTo, LoseFrom, RepeatTo, Cut, Worn, CloseAfter, Refuse, DropChannel, Off, Standard, Group}
use Rattle.knx_model.specs.Numbers.{number_value}
use Rattle.knx_model.specs.Addresses.{group_value, ind_value}
use Rattle.knx_model.specs.Answers.{◌>>=◌}
use Rattle.knx_model.specs.Statements.{placed, field, ended}
use Rattle.knx_model.specs.ScriptText.{count_value, status_value, service_value, n_says, device_n_says, telegram_says, cut_says, refuse_says, off_says, standard_says, lose_says, repeat_says, drop_says, then_says, after_word_says, script_words_say, SpellsLine, SpellsLoseUp, SpellsLoseDown, SpellsLoseTo, SpellsLoseFrom, SpellsRepeatUp, SpellsRepeatDown, SpellsRepeatTo, SpellsCut, SpellsWorn, SpellsClose, SpellsRefuse, SpellsDrop, SpellsOff, SpellsStandard, SpellsGroup, SpellsThenGroup}

-- ---- what is spelled is read

pub spelled_is_read : (ws : List (List ℕ)) (what : ScriptWhat) → SpellsLine ws what → script_words_say ws ≡ Ok (Some what)
unfolding script_words_say after_word_says lose_says repeat_says drop_says then_says n_says device_n_says telegram_says cut_says refuse_says off_says standard_says
spelled_is_read _ _ (SpellsLoseUp number n e) = rw e refl
spelled_is_read _ _ (SpellsLoseDown number n e) = rw e refl
spelled_is_read _ _ (SpellsRepeatUp number n e) = rw e refl
spelled_is_read _ _ (SpellsRepeatDown number n e) = rw e refl
spelled_is_read _ _ (SpellsDrop number n e) = rw e refl
spelled_is_read _ _ (SpellsLoseTo address number d n a e) = rw (a, e) refl
spelled_is_read _ _ (SpellsLoseFrom address number d n a e) = rw (a, e) refl
spelled_is_read _ _ (SpellsRepeatTo address number d n a e) = rw (a, e) refl
spelled_is_read _ _ (SpellsWorn address number d n a e) = rw (a, e) refl
spelled_is_read _ _ (SpellsClose address number d n a e) = rw (a, e) refl
spelled_is_read _ _ (SpellsCut address number kept d n k a e f) = rw (a, e, f) refl
spelled_is_read _ _ (SpellsRefuse number digits n status e f) = rw (e, f) refl
spelled_is_read _ _ (SpellsOff address d a) = rw a refl
spelled_is_read _ _ (SpellsStandard address d a) = rw a refl
spelled_is_read _ _ (SpellsGroup address value g service a e) = rw (a, e) refl
spelled_is_read _ _ (SpellsThenGroup address value g service a e) = rw (a, e) refl

-- ---- what is read is spelled

bound : {A B G : Type 0} (r : Result A Why) (f : A → Result B Why) (v : B) → (r >>= f) ≡ Ok v → ((x : A) → r ≡ Ok x → f x ≡ Ok v → G) → G
bound (Ok x) f v e then_ = then_ x refl e
bound (Err why) f v e then_ = absurd cc

in_place : {A : Type 0} (o : Option A) (why : Why) (ws : List (List ℕ)) (x : A × List (List ℕ)) → placed o why ws ≡ Ok x → (o ≡ Some x.0) × (ws ≡ x.1)
in_place None why ws x e = absurd cc
in_place {A = A} (Some y) why ws x e = let same : (y, ws) ≡ x = cc in (ap (λ (p : A × List (List ℕ)). Some p.0) same, ap (λ (p : A × List (List ℕ)). p.1) same)

-- a word in its place, before the words that are left
record Word {A : Type 0} (read : List ℕ → Option A) (ws : List (List ℕ)) (x : A × List (List ℕ)) : Type 0 where
  word : List ℕ
  first : ws ≡ word ∷ x.1
  value : read word ≡ Some x.0

word_of : {A : Type 0} (read : List ℕ → Option A) (why : Why) (ws : List (List ℕ)) (x : A × List (List ℕ)) → field read why ws ≡ Ok x → Word read ws x
word_of read why [] x e = absurd cc
word_of read why (w ∷ ws) x e = let h = in_place (read w) why ws x e in record { word = w; first = ap (λ (l : List (List ℕ)). w ∷ l) h.1; value = h.0 }

at_end : {A : Type 0} (x : A) (ws : List (List ℕ)) (v : A) → ended x ws ≡ Ok v → (ws ≡ []) × (x ≡ v)
at_end x [] v e = (refl, cc)
at_end x (w ∷ ws) v e = absurd cc

chosen : {A G : Type 0} (b : Bool) (P : Type 0) (x y : Result A Why) (v : A) → (b ≡ true → P) → cond b x y ≡ Ok v → (P → x ≡ Ok v → G) → (y ≡ Ok v → G) → G
chosen true P x y v means e this other = this (means refl) e
chosen false P x y v means e this other = other e

-- the line whose word is k, or another one
choose : {A G : Type 0} (w k : List ℕ) (x y : Result A Why) (v : A) → cond (bytes_eq w k) x y ≡ Ok v → (w ≡ k → x ≡ Ok v → G) → (y ≡ Ok v → G) → G
choose w k x y v e this other = chosen (bytes_eq w k) (w ≡ k) x y v ((bytes_eq-Decides w k).0) e this other

spelled_as : (ws as_ : List (List ℕ)) (what same : ScriptWhat) → ws ≡ as_ → same ≡ what → SpellsLine as_ same → SpellsLine ws what
spelled_as ws as_ what same p q s = subst (λ (v : ScriptWhat). SpellsLine ws v) q (subst (λ (l : List (List ℕ)). SpellsLine l same) (sym p) s)

record N (ws : List (List ℕ)) (n : ℕ) : Type 0 where
  number : List ℕ
  whole : ws ≡ number ∷ []
  value : count_value number ≡ Some n

n_of : (ws : List (List ℕ)) (n : ℕ) → n_says ws ≡ Ok n → N ws n
unfolding n_says
n_of ws n e = bound (field count_value BadNumber ws) _ n e (λ x at last.
    let w = word_of count_value BadNumber ws x at in
    let end = at_end x.0 x.1 n last in
    record { number = w.word; whole = w.first ∙ ap (λ (l : List (List ℕ)). w.word ∷ l) end.0; value = w.value ∙ ap (λ (i : ℕ). Some i) end.1 })

record DeviceN (ws : List (List ℕ)) (x : IndAddr × ℕ) : Type 0 where
  address : List ℕ
  number : List ℕ
  whole : ws ≡ address ∷ number ∷ []
  device : ind_value address ≡ Some x.0
  value : count_value number ≡ Some x.1

device_n_of : (ws : List (List ℕ)) (x : IndAddr × ℕ) → device_n_says ws ≡ Ok x → DeviceN ws x
unfolding device_n_says
device_n_of ws x e = bound (field ind_value BadAddress ws) _ x e (λ d at rest. bound (field count_value BadNumber d.1) _ x rest (λ n here last.
    let a = word_of ind_value BadAddress ws d at in
    let w = word_of count_value BadNumber d.1 n here in
    let end = at_end (d.0, n.0) n.1 x last in
    record {
      address = a.word;
      number = w.word;
      whole = a.first ∙ ap (λ (l : List (List ℕ)). a.word ∷ l) (w.first ∙ ap (λ (l : List (List ℕ)). w.word ∷ l) end.0);
      device = a.value ∙ ap (λ (p : IndAddr × ℕ). Some p.0) end.1;
      value = w.value ∙ ap (λ (p : IndAddr × ℕ). Some p.1) end.1;
    }))

of_n : (what : ℕ → ScriptWhat) (before ws : List (List ℕ)) (v : ScriptWhat) → (n_says ws >>= λ n. Ok (what n)) ≡ Ok v
    → ((number : List ℕ) (n : ℕ) → count_value number ≡ Some n → SpellsLine (before ++ number ∷ []) (what n)) → SpellsLine (before ++ ws) v
of_n what before ws v e spells = bound (n_says ws) _ v e (λ n at last.
    let h = n_of ws n at in
    let same : what n ≡ v = cc in
    spelled_as (before ++ ws) (before ++ h.number ∷ []) v (what n) (ap (λ (l : List (List ℕ)). before ++ l) h.whole) same (spells h.number n h.value))

of_device_n : (what : IndAddr → ℕ → ScriptWhat) (before ws : List (List ℕ)) (v : ScriptWhat) → (device_n_says ws >>= λ x. Ok (what x.0 x.1)) ≡ Ok v
    → ((address number : List ℕ) (d : IndAddr) (n : ℕ) → ind_value address ≡ Some d → count_value number ≡ Some n → SpellsLine (before ++ address ∷ number ∷ []) (what d n)) → SpellsLine (before ++ ws) v
of_device_n what before ws v e spells = bound (device_n_says ws) _ v e (λ x at last.
    let h = device_n_of ws x at in
    let same : what x.0 x.1 ≡ v = cc in
    spelled_as (before ++ ws) (before ++ h.address ∷ h.number ∷ []) v (what x.0 x.1) (ap (λ (l : List (List ℕ)). before ++ l) h.whole) same (spells h.address h.number x.0 x.1 h.device h.value))

of_telegram : (after : Bool) (before ws : List (List ℕ)) (v : ScriptWhat) → telegram_says after ws ≡ Ok v
    → ((address value : List ℕ) (g : GroupAddr) (service : GroupService) → group_value address ≡ Some g → service_value value ≡ Some service → SpellsLine (before ++ address ∷ value ∷ []) (Group after g service)) → SpellsLine (before ++ ws) v
unfolding telegram_says
of_telegram after before ws v e spells = bound (field group_value BadAddress ws) _ v e (λ g at rest. bound (field service_value BadNumber g.1) _ v rest (λ s here last.
    let a = word_of group_value BadAddress ws g at in
    let w = word_of service_value BadNumber g.1 s here in
    let end = at_end (Group after g.0 s.0) s.1 v last in
    spelled_as (before ++ ws) (before ++ a.word ∷ w.word ∷ []) v (Group after g.0 s.0)
    (ap (λ (l : List (List ℕ)). before ++ l) (a.first ∙ ap (λ (l : List (List ℕ)). a.word ∷ l) (w.first ∙ ap (λ (l : List (List ℕ)). w.word ∷ l) end.0))) end.1 (spells a.word w.word g.0 s.0 a.value w.value)))

of_cut : (ws : List (List ℕ)) (v : ScriptWhat) → cut_says ws ≡ Ok v → SpellsLine (codes "cut" ∷ ws) v
unfolding cut_says
of_cut ws v e = bound (field ind_value BadAddress ws) _ v e (λ d at rest. bound (field count_value BadNumber d.1) _ v rest (λ n here more. bound (field number_value BadNumber n.1) _ v more (λ k there last.
    let a = word_of ind_value BadAddress ws d at in
    let w = word_of count_value BadNumber d.1 n here in
    let u = word_of number_value BadNumber n.1 k there in
    let end = at_end (Cut d.0 n.0 k.0) k.1 v last in
    spelled_as (codes "cut" ∷ ws) (codes "cut" ∷ a.word ∷ w.word ∷ u.word ∷ []) v (Cut d.0 n.0 k.0)
    (ap (λ (l : List (List ℕ)). codes "cut" ∷ l) (a.first ∙ ap (λ (l : List (List ℕ)). a.word ∷ l) (w.first ∙ ap (λ (l : List (List ℕ)). w.word ∷ l) (u.first ∙ ap (λ (l : List (List ℕ)). u.word ∷ l) end.0)))) end.1
    (SpellsCut a.word w.word u.word d.0 n.0 k.0 a.value w.value u.value))))

of_refuse : (ws : List (List ℕ)) (v : ScriptWhat) → refuse_says ws ≡ Ok v → SpellsLine (codes "refuse" ∷ ws) v
unfolding refuse_says
of_refuse ws v e = bound (field count_value BadNumber ws) _ v e (λ n at rest. bound (field status_value BadNumber n.1) _ v rest (λ s here last.
    let a = word_of count_value BadNumber ws n at in
    let w = word_of status_value BadNumber n.1 s here in
    let end = at_end (Refuse n.0 s.0) s.1 v last in
    spelled_as (codes "refuse" ∷ ws) (codes "refuse" ∷ a.word ∷ w.word ∷ []) v (Refuse n.0 s.0)
    (ap (λ (l : List (List ℕ)). codes "refuse" ∷ l) (a.first ∙ ap (λ (l : List (List ℕ)). a.word ∷ l) (w.first ∙ ap (λ (l : List (List ℕ)). w.word ∷ l) end.0))) end.1 (SpellsRefuse a.word w.word n.0 s.0 a.value w.value)))

of_off : (ws : List (List ℕ)) (v : ScriptWhat) → off_says ws ≡ Ok v → SpellsLine (codes "off" ∷ ws) v
unfolding off_says
of_off ws v e = bound (field ind_value BadAddress ws) _ v e (λ d at last.
    let a = word_of ind_value BadAddress ws d at in
    let end = at_end (Off d.0) d.1 v last in
    spelled_as (codes "off" ∷ ws) (codes "off" ∷ a.word ∷ []) v (Off d.0) (ap (λ (l : List (List ℕ)). codes "off" ∷ l) (a.first ∙ ap (λ (l : List (List ℕ)). a.word ∷ l) end.0)) end.1 (SpellsOff a.word d.0 a.value))

of_standard : (ws : List (List ℕ)) (v : ScriptWhat) → standard_says ws ≡ Ok v → SpellsLine (codes "standard" ∷ ws) v
unfolding standard_says
of_standard ws v e = bound (field ind_value BadAddress ws) _ v e (λ d at last.
    let a = word_of ind_value BadAddress ws d at in
    let end = at_end (Standard d.0) d.1 v last in
    spelled_as (codes "standard" ∷ ws) (codes "standard" ∷ a.word ∷ []) v (Standard d.0) (ap (λ (l : List (List ℕ)). codes "standard" ∷ l) (a.first ∙ ap (λ (l : List (List ℕ)). a.word ∷ l) end.0)) end.1 (SpellsStandard a.word d.0 a.value))

-- the first word put back
headed : (w k : List ℕ) (ws : List (List ℕ)) (v : ScriptWhat) → w ≡ k → SpellsLine (k ∷ ws) v → SpellsLine (w ∷ ws) v
headed w k ws v e s = subst (λ (x : List ℕ). SpellsLine (x ∷ ws) v) (sym e) s

-- the second word put back
seconded : (k w l : List ℕ) (ws : List (List ℕ)) (v : ScriptWhat) → w ≡ l → SpellsLine (k ∷ l ∷ ws) v → SpellsLine (k ∷ w ∷ ws) v
seconded k w l ws v e s = subst (λ (x : List ℕ). SpellsLine (k ∷ x ∷ ws) v) (sym e) s

of_lose : (ws : List (List ℕ)) (v : ScriptWhat) → lose_says ws ≡ Ok v → SpellsLine (codes "lose" ∷ ws) v
unfolding lose_says
of_lose [] v e = absurd cc
of_lose (w ∷ ws) v e =
    choose w (codes "up") _ _ v e (λ is here. seconded _ w _ ws v is (of_n LoseUp (codes "lose" ∷ codes "up" ∷ []) ws v here SpellsLoseUp)) (λ e.
    choose w (codes "down") _ _ v e (λ is here. seconded _ w _ ws v is (of_n LoseDown (codes "lose" ∷ codes "down" ∷ []) ws v here SpellsLoseDown)) (λ e.
    choose w (codes "to") _ _ v e (λ is here. seconded _ w _ ws v is (of_device_n LoseTo (codes "lose" ∷ codes "to" ∷ []) ws v here SpellsLoseTo)) (λ e.
    choose w (codes "from") _ _ v e (λ is here. seconded _ w _ ws v is (of_device_n LoseFrom (codes "lose" ∷ codes "from" ∷ []) ws v here SpellsLoseFrom)) (λ e. absurd cc))))

of_repeat : (ws : List (List ℕ)) (v : ScriptWhat) → repeat_says ws ≡ Ok v → SpellsLine (codes "repeat" ∷ ws) v
unfolding repeat_says
of_repeat [] v e = absurd cc
of_repeat (w ∷ ws) v e =
    choose w (codes "up") _ _ v e (λ is here. seconded _ w _ ws v is (of_n RepeatUp (codes "repeat" ∷ codes "up" ∷ []) ws v here SpellsRepeatUp)) (λ e.
    choose w (codes "down") _ _ v e (λ is here. seconded _ w _ ws v is (of_n RepeatDown (codes "repeat" ∷ codes "down" ∷ []) ws v here SpellsRepeatDown)) (λ e.
    choose w (codes "to") _ _ v e (λ is here. seconded _ w _ ws v is (of_device_n RepeatTo (codes "repeat" ∷ codes "to" ∷ []) ws v here SpellsRepeatTo)) (λ e. absurd cc)))

of_drop : (ws : List (List ℕ)) (v : ScriptWhat) → drop_says ws ≡ Ok v → SpellsLine (codes "drop" ∷ ws) v
unfolding drop_says
of_drop [] v e = absurd cc
of_drop (w ∷ ws) v e = choose w (codes "channel") _ _ v e (λ is here. seconded _ w _ ws v is (of_n DropChannel (codes "drop" ∷ codes "channel" ∷ []) ws v here SpellsDrop)) (λ e. absurd cc)

of_then : (ws : List (List ℕ)) (v : ScriptWhat) → then_says ws ≡ Ok v → SpellsLine (codes "then" ∷ ws) v
unfolding then_says
of_then [] v e = absurd cc
of_then (w ∷ ws) v e = choose w (codes "group") _ _ v e (λ is here. seconded _ w _ ws v is (of_telegram true (codes "then" ∷ codes "group" ∷ []) ws v here SpellsThenGroup)) (λ e. absurd cc)

of_line : (w : List ℕ) (ws : List (List ℕ)) (v : ScriptWhat) → after_word_says w ws ≡ Ok v → SpellsLine (w ∷ ws) v
unfolding after_word_says
of_line w ws v e =
    choose w (codes "lose") _ _ v e (λ is here. headed w _ ws v is (of_lose ws v here)) (λ e.
    choose w (codes "repeat") _ _ v e (λ is here. headed w _ ws v is (of_repeat ws v here)) (λ e.
    choose w (codes "cut") _ _ v e (λ is here. headed w _ ws v is (of_cut ws v here)) (λ e.
    choose w (codes "worn") _ _ v e (λ is here. headed w _ ws v is (of_device_n Worn (codes "worn" ∷ []) ws v here SpellsWorn)) (λ e.
    choose w (codes "close") _ _ v e (λ is here. headed w _ ws v is (of_device_n CloseAfter (codes "close" ∷ []) ws v here SpellsClose)) (λ e.
    choose w (codes "refuse") _ _ v e (λ is here. headed w _ ws v is (of_refuse ws v here)) (λ e.
    choose w (codes "drop") _ _ v e (λ is here. headed w _ ws v is (of_drop ws v here)) (λ e.
    choose w (codes "off") _ _ v e (λ is here. headed w _ ws v is (of_off ws v here)) (λ e.
    choose w (codes "standard") _ _ v e (λ is here. headed w _ ws v is (of_standard ws v here)) (λ e.
    choose w (codes "group") _ _ v e (λ is here. headed w _ ws v is (of_telegram false (codes "group" ∷ []) ws v here SpellsGroup)) (λ e.
    choose w (codes "then") _ _ v e (λ is here. headed w _ ws v is (of_then ws v here)) (λ e. absurd cc)))))))))))

pub read_is_spelled : (ws : List (List ℕ)) (what : ScriptWhat) → script_words_say ws ≡ Ok (Some what) → SpellsLine ws what
unfolding script_words_say
read_is_spelled [] what e = absurd cc
read_is_spelled (w ∷ ws) what e = bound (after_word_says w ws) _ (Some what) e (λ x at last. let same : x ≡ what = cc in of_line w ws what (at ∙ ap (λ (v : ScriptWhat). Ok v) same))
