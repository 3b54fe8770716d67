-- The links of a device, and the lines that say them.
use Rattle.std.proofs.Common.{◌≡◌, ℕ, zero, suc, ◌<◌, Bool, true, false, cond, eqb, List, [], ◌∷◌, length, get_or, Option, Some, None, refl, sym, ap, ◌∙◌, subst, arith}
use Rattle.std.specs.Prelude.{◌≢◌, Contains, slice_get}
use Rattle.std.specs.Option.{option_or}
use Rattle.std.proofs.lemmas.Bool.{eq-eqb, eqb-true, ne_eqb, false≢true}
use Rattle.std.proofs.lemmas.Option.{same_Some, none-some, slice_get-get_or, slice_get_within, get_or_from_slice_get}
use Rattle.knx_model.specs.declared.address.GroupAddr.{GroupAddr}
use Rattle.knx_model.specs.declared.config.LinkSpec.{LinkSpec}
use Rattle.knx_model.specs.Meaning.{first_group, sending_group, is_the_group, link_of, links_of, IsFirstGroup, IsSending, BySend, ByFirst, IsLinkOf}
use Rattle.table_compiler.proofs.LinkLists.{length-links_of, get_or-links_of, no_line}

-- ---- the group of the first line

first_later : (line : ℕ × GroupAddr) (lines : List (ℕ × GroupAddr)) (object : ℕ) (group : GroupAddr) → eqb line.0 object ≡ false → IsFirstGroup lines object group → IsFirstGroup (line ∷ lines) object group
first_later line lines object group other h = record { at = suc h.at; there = h.there; first = before }
  where
    before : (k : ℕ) (earlier : ℕ × GroupAddr) → k < suc h.at → slice_get (line ∷ lines) k ≡ Some earlier → earlier.0 ≢ object
    before zero earlier lt there same = false≢true (sym other ∙ eq-eqb line.0 object (ap (λ (l : ℕ × GroupAddr). l.0) (same_Some line earlier there) ∙ same))
    before (suc k) earlier lt there same = h.first k earlier (omega (arith, lt)) there same

pair : (a b : ℕ) (x y : GroupAddr) → a ≡ b → x ≡ y → ◌≡◌ {A = ℕ × GroupAddr} (a, x) (b, y)
pair a b x y p q = λ i. (p i, q i)

first_found : (lines : List (ℕ × GroupAddr)) (object : ℕ) (group : GroupAddr) → first_group lines object ≡ Some group → IsFirstGroup lines object group
first_found [] object group e = absurd (none-some group e)
first_found (line ∷ lines) object group e = by (first_found lines object group) (eqb line.0 object) refl e
  where
    by : (first_group lines object ≡ Some group → IsFirstGroup lines object group) → (b : Bool) → eqb line.0 object ≡ b → cond b (Some line.1) (first_group lines object) ≡ Some group → IsFirstGroup (line ∷ lines) object group
    by later true is e = record {
      at = 0;
      there = ap (λ (l : ℕ × GroupAddr). Some l) (pair line.0 object line.1 group (eqb-true line.0 object is) (same_Some line.1 group e));
      first = λ k earlier lt. absurd (omega (arith, lt));
    }
    by later false is e = first_later line lines object group is (later e)

first_is : (lines : List (ℕ × GroupAddr)) (object : ℕ) (group : GroupAddr) → IsFirstGroup lines object group → first_group lines object ≡ Some group
first_is [] object group h = absurd (none-some (object, group) h.there)
first_is (line ∷ lines) object group h = by (first_is lines object group) h.at h.there h.first
  where
    by : (IsFirstGroup lines object group → first_group lines object ≡ Some group) → (at : ℕ) → slice_get (line ∷ lines) at ≡ Some (object, group) → ((k : ℕ) (earlier : ℕ × GroupAddr) → k < at → slice_get (line ∷ lines) k ≡ Some earlier → earlier.0 ≢ object)
        → cond (eqb line.0 object) (Some line.1) (first_group lines object) ≡ Some group
    by later zero there first =
        let is : line ≡ (object, group) = same_Some line (object, group) there in
        rw (eq-eqb line.0 object (ap (λ (l : ℕ × GroupAddr). l.0) is)) (ap (λ (l : ℕ × GroupAddr). Some l.1) is)
    by later (suc at) there first =
        rw (ne_eqb line.0 object (first 0 line (omega arith) refl)) (later (record { at = at; there = there; first = λ k earlier lt is. first (suc k) earlier (omega (arith, lt)) is }))

-- ---- the sending address

same_group : (a b : GroupAddr) → a.raw ≡ b.raw → a ≡ b
same_group a b e = ap (λ (n : ℕ). let g : GroupAddr = record { raw = n } in g) e

is_group : (sending : Option GroupAddr) (group : GroupAddr) → is_the_group sending group ≡ true → sending ≡ Some group
is_group None group e = absurd (false≢true e)
is_group (Some sending) group e = ap Some (same_group sending group (eqb-true sending.raw group.raw e))

group_is : (sending : Option GroupAddr) (group : GroupAddr) → sending ≡ Some group → is_the_group sending group ≡ true
group_is sending group e = rw e (eq-eqb group.raw group.raw refl)

sends_to : (sends : ℕ → Option GroupAddr) (lines : List (ℕ × GroupAddr)) (object : ℕ) (group : GroupAddr) → is_the_group (sending_group sends lines object) group ≡ true → IsSending sends lines object group
sends_to sends lines object group e = by (sends object) refl (is_group (sending_group sends lines object) group e)
  where
    by : (o : Option GroupAddr) → sends object ≡ o → option_or o (first_group lines object) ≡ Some group → IsSending sends lines object group
    by (Some g) is e = BySend (is ∙ e)
    by None is e = ByFirst is (first_found lines object group e)

to_send : (sends : ℕ → Option GroupAddr) (lines : List (ℕ × GroupAddr)) (object : ℕ) (group : GroupAddr) → IsSending sends lines object group → is_the_group (sending_group sends lines object) group ≡ true
to_send sends lines object group (BySend e) = group_is (sending_group sends lines object) group (rw e refl)
to_send sends lines object group (ByFirst none first) = group_is (sending_group sends lines object) group (rw none (first_is lines object group first))

pub said : (sends : ℕ → Option GroupAddr) (lines : List (ℕ × GroupAddr)) (link : LinkSpec) → Contains (links_of sends lines) link → IsLinkOf sends lines link
said sends lines link h =
    let within : h.0 < length lines = omega (arith, h.1, length-links_of sends lines) in
    let line : ℕ × GroupAddr = get_or lines h.0 no_line in
    let is : link_of sends lines line ≡ link = sym (get_or-links_of sends lines h.0 no_line link within) ∙ h.2 in
    let sending : is_the_group (sending_group sends lines link.object) link.group ≡ link.sending = subst (λ (l : LinkSpec). is_the_group (sending_group sends lines l.object) l.group ≡ l.sending) is refl in
    record {
      at = h.0;
      said = slice_get-get_or lines h.0 no_line within ∙ (λ i. Some ((is i).object, (is i).group));
      sending = (λ does. sends_to sends lines link.object link.group (sending ∙ does), λ does. sym sending ∙ to_send sends lines link.object link.group does);
    }

pub is_link : (sends : ℕ → Option GroupAddr) (lines : List (ℕ × GroupAddr)) (link : LinkSpec) → IsLinkOf sends lines link → Contains (links_of sends lines) link
is_link sends lines link h =
    let within : h.at < length lines = slice_get_within lines h.at (link.object, link.group) h.said in
    let line : get_or lines h.at no_line ≡ (link.object, link.group) = get_or_from_slice_get lines h.at (link.object, link.group) no_line h.said in
    let sending : is_the_group (sending_group sends lines link.object) link.group ≡ link.sending = alike _ _ (λ does. h.sending.1 (sends_to sends lines link.object link.group does)) (λ does. to_send sends lines link.object link.group (h.sending.0 does)) in
    (h.at, omega (arith, within, length-links_of sends lines), get_or-links_of sends lines h.at no_line link within ∙ ap (link_of sends lines) line ∙ (λ i. record { object = link.object; group = link.group; sending = sending i }))
  where
    alike : (a b : Bool) → (a ≡ true → b ≡ true) → (b ≡ true → a ≡ true) → a ≡ b
    alike true true to from = refl
    alike true false to from = absurd (false≢true (to refl))
    alike false true to from = from refl
    alike false false to from = refl
