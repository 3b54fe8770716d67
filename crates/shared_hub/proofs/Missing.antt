-- What was heard and what was missed are, together and in order, what was taken.
use Rattle.std.proofs.Common.{◌≡◌, ◌⊎◌, ⊎_elim, inl, inr, ℕ, ◌+◌, ◌-◌, ◌<◌, ◌≤◌, Bool, true, false, List, [], ◌∷◌, ◌++◌, length, reverse, Option, Some, None, refl, sym, ap, subst, ◌∙◌, arith, length-append}
use Rattle.std.specs.Prelude.{min, take, nat_le, ◌^◌, IfSome}
use Rattle.std.proofs.lemmas.Bool.Decides.{nat_tests}
use Rattle.std.specs.List.{cons_option}
use Rattle.std.proofs.lemmas.List.{append-nil, append_assoc, append_cancel_left, length-take, reverse-append, take_all, take-append-le}
use Rattle.line_model.specs.declared.fault.HubFault.{HubFault}
use Rattle.line_model.specs.declared.group.Indication.{Indication}
use Rattle.hub_core.specs.Heard.{IsPartOf, LeftOut, HeardOf}
use Rattle.telegram_router.specs.Ends.{Hearing, HasHeardAll, with_popped}
use Rattle.shared_hub.specs.Relays.{CountsAll, KeepsOrMisses, KeepsFirst, MissesAll}

-- ---- a part of a list

module _ {A : Type 0} where
  pub none_of : (all : List A) → IsPartOf [] all
  none_of [] = refl
  none_of (x ∷ all) = inl (none_of all)

  part_length : (part all : List A) → IsPartOf part all → length part ≤ length all
  part_length part [] h = (let e : length part ≡ 0 = ap length h in omega (arith, e))
  part_length part (x ∷ all) (inl h) = (let le = part_length part all h in omega (arith, le))
  part_length part (x ∷ all) (inr h) = (let le = part_length h.0 all h.2 in let e = ap length h.1 in omega (arith, le, e))

  -- one more at the end of both, or of the whole alone
  part_both : (part all : List A) (one : A) → IsPartOf part all → IsPartOf (part ++ one ∷ []) (all ++ one ∷ [])
  part_both part [] one h = inr ([], ap (λ (l : List A). l ++ one ∷ []) h, refl)
  part_both part (x ∷ all) one (inl h) = inl (part_both part all one h)
  part_both part (x ∷ all) one (inr h) = inr (h.0 ++ one ∷ [], ap (λ (l : List A). l ++ one ∷ []) h.1, part_both h.0 all one h.2)

  part_whole : (part all : List A) (one : A) → IsPartOf part all → IsPartOf part (all ++ one ∷ [])
  part_whole part [] one h = inl h
  part_whole part (x ∷ all) one (inl h) = inl (part_whole part all one h)
  part_whole part (x ∷ all) one (inr h) = inr (h.0, h.1, part_whole h.0 all one h.2)

  -- the first of a part
  part_first : (first rest all : List A) → IsPartOf (first ++ rest) all → IsPartOf first all
  part_first [] rest all h = none_of all
  part_first (f ∷ first) rest [] h = absurd (let z : f ∷ (first ++ rest) ≡ [] = h in cc)
  part_first (f ∷ first) rest (x ∷ all) (inl h) = inl (part_first (f ∷ first) rest all h)
  part_first (f ∷ first) rest (x ∷ all) (inr h) =
      let z : f ∷ (first ++ rest) ≡ x ∷ h.0 = h.1 in
      let head : f ≡ x = cc in
      let tail : first ++ rest ≡ h.0 = cc in
      inr (first, ap (λ (y : A). y ∷ first) head, part_first first rest all (subst (λ (l : List A). IsPartOf l all) (sym tail) h.2))

-- ---- counts that stand still at their greatest

abbrev greatest : ℕ
greatest = 2 ^ 64 - 1

counts_more : (n more : ℕ) → min (min n greatest + more) greatest ≡ min (n + more) greatest
counts_more n more = grind (arith, nat_tests)

-- ---- what is left out

module _ (missed : ℕ) (heard taken : List Indication) (left : LeftOut missed heard taken) where
  no_more : length heard ≤ length taken
  no_more = part_length heard taken left.in_order

  -- as long as there are fewer than 4,096, nothing is left out
  all_heard : length heard < 4096 → taken ≡ heard
  all_heard few =
      let whole : take 4096 heard ≡ heard = take_all 4096 heard (omega (arith, few)) in
      let first : heard ≡ take 4096 taken = sym whole ∙ left.first in
      let same : length heard ≡ min 4096 (length taken) = ap length first ∙ length-take 4096 taken in
      let not_more : length taken ≤ 4096 = grind (arith, nat_tests, few, same) in
      sym (take_all 4096 taken not_more) ∙ sym first

  one_told : (one : Indication) → LeftOut missed (heard ++ one ∷ []) (taken ++ one ∷ [])
  one_told one = record {
    in_order = part_both heard taken one left.in_order;
    counted = left.counted ∙ ap (λ (n : ℕ). min n greatest) same;
    first = by_test (nat_le 4096 (length heard)) refl;
  } where
    same : length taken - length heard ≡ length (taken ++ one ∷ []) - length (heard ++ one ∷ [])
    same = (let a = length-append taken (one ∷ []) in let b = length-append heard (one ∷ []) in omega (arith, a, b))

    by_test : (b : Bool) → nat_le 4096 (length heard) ≡ b → take 4096 (heard ++ one ∷ []) ≡ take 4096 (taken ++ one ∷ [])
    by_test true t =
        let many : 4096 ≤ length heard = grind (arith, nat_tests, t) in
        let le = no_more in
        take-append-le 4096 heard (one ∷ []) many ∙ (left.first ∙ sym (take-append-le 4096 taken (one ∷ []) (omega (arith, many, le))))
    by_test false t =
        let few : length heard < 4096 = grind (arith, nat_tests, t) in
        ap (λ (l : List Indication). take 4096 (l ++ one ∷ [])) (sym (all_heard few))

  one_missed : (one : Indication) → 4096 ≤ length heard → LeftOut (min (missed + 1) greatest) heard (taken ++ one ∷ [])
  one_missed one many = record {
    in_order = part_whole heard taken one left.in_order;
    counted = ap (λ (n : ℕ). min (n + 1) greatest) left.counted ∙ (counts_more (length taken - length heard) 1 ∙ ap (λ (n : ℕ). min n greatest) same);
    first = left.first ∙ sym (take-append-le 4096 taken (one ∷ []) (let le = no_more in omega (arith, many, le)));
  } where
    same : (length taken - length heard) + 1 ≡ length (taken ++ one ∷ []) - length heard
    same = (let a = length-append taken (one ∷ []) in let le = no_more in omega (arith, a, le))

-- one more was taken, and told or missed
pub keeps_one : (missed after : ℕ) (old new taken : List Indication) (one : Indication) → LeftOut missed old taken → KeepsOrMisses one old new missed after → LeftOut after new (taken ++ one ∷ [])
keeps_one missed after old new taken one left (inl h) = rw (h.0, h.1) (one_told missed old taken left one)
keeps_one missed after old new taken one left (inr h) = rw (h.1, h.2) (one_missed missed old taken left one h.0)

-- of what was heard the first are kept, and the rest is missed
keeps_first_of : (missed after : ℕ) (kept heard taken : List Indication) → LeftOut missed heard taken → KeepsFirst kept heard missed after → LeftOut after kept taken
keeps_first_of missed after kept heard taken left k = record {
  in_order = part_first kept k.rest taken (subst (λ (l : List Indication). IsPartOf l taken) k.parts left.in_order);
  counted = ⊎_elim (λ none. none.1 ∙ (left.counted ∙ ap (λ (n : ℕ). min n greatest) (no_rest none.0)))
      (λ counted. counted ∙ (ap (λ (n : ℕ). min (n + length k.rest) greatest) left.counted ∙ (counts_more (length taken - length heard) (length k.rest) ∙ ap (λ (n : ℕ). min n greatest) same))) k.counted;
  first = ⊎_elim (λ none. ap (take 4096) (sym (append-nil kept) ∙ (ap (λ (l : List Indication). kept ++ l) (sym none) ∙ sym k.parts)) ∙ left.first)
      (λ many. sym (take-append-le 4096 kept k.rest many) ∙ (ap (take 4096) (sym k.parts) ∙ left.first)) k.first;
} where
  same : (length taken - length heard) + length k.rest ≡ length taken - length kept
  same = (let a : length heard ≡ length kept + length k.rest = ap length k.parts ∙ length-append kept k.rest in let le = no_more missed heard taken left in omega (arith, a, le))

  no_rest : k.rest ≡ [] → length taken - length heard ≡ length taken - length kept
  no_rest none = (let a = same in let b : length k.rest ≡ 0 = ap length none in omega (arith, a, b))

-- ---- the queue is emptied

-- some of what was left in it was taken out of it, and each is missed
pub record Missed (old new : Hearing) (before missed : ℕ) : Type 0 where
  pub rest : List Indication
  pub router : new.router ≡ old.router
  pub got : new.got ≡ old.got ++ rest
  pub pushed : new.pushed ≡ old.pushed
  pub counted : CountsAll rest before missed

pub misses_none : (ear : Hearing) (n : ℕ) → Missed ear ear n n
misses_none ear n = record { rest = []; router = refl; got = sym (append-nil ear.got); pushed = refl; counted = inl (refl, refl) }

pub misses_more : (one : Indication) (old mid new : Hearing) (before m n : ℕ) → Missed old mid before m → new ≡ with_popped one mid → n ≡ min (m + 1) greatest → Missed old new before n
misses_more one old mid new before m n s popped more = record {
  rest = s.rest ++ one ∷ [];
  router = ap (λ (h : Hearing). h.router) popped ∙ s.router;
  got = ap (λ (h : Hearing). h.got) popped ∙ (ap (λ (l : List Indication). l ++ one ∷ []) s.got ∙ append_assoc old.got s.rest (one ∷ []));
  pushed = ap (λ (h : Hearing). h.pushed) popped ∙ s.pushed;
  counted = inr (more ∙ ⊎_elim (λ none. ap (λ (k : ℕ). min (k + 1) greatest) none.1 ∙ ap (λ (k : ℕ). min k greatest) (first none.0)) (λ counted. ap (λ (k : ℕ). min (k + 1) greatest) counted ∙ (counts_more (before + length s.rest) 1 ∙ ap (λ (k : ℕ). min k greatest) next)) s.counted);
} where
  longer : length (s.rest ++ one ∷ []) ≡ length s.rest + 1
  longer = length-append s.rest (one ∷ [])

  first : s.rest ≡ [] → before + 1 ≡ before + length (s.rest ++ one ∷ [])
  first none = (let a = longer in let b : length s.rest ≡ 0 = ap length none in omega (arith, a, b))

  next : (before + length s.rest) + 1 ≡ before + length (s.rest ++ one ∷ [])
  next = (let a = longer in omega (arith, a))

pub misses_all : (old mid new : Hearing) (before m : ℕ) → Missed old mid before m → new ≡ mid → HasHeardAll mid → MissesAll old new before m
misses_all old mid new before m s same all = subst (λ (h : Hearing). MissesAll old h before m) (sym same) (record { rest = s.rest; got = s.got; pushed = s.pushed; all = all; counted = s.counted })

-- what was kept before, and what was missed then, is all that was pushed
pub keeps_all : (put kept : List Indication) (a b c : Hearing) (before m : ℕ) → a.pushed ≡ Some put → b.pushed ≡ a.pushed → kept ≡ b.got → HasHeardAll b ⊎ (4096 ≤ length kept) → MissesAll b c before m → KeepsFirst kept put before m
keeps_all put kept a b c before m pushed same is stops s = record {
  rest = s.rest;
  parts = sym all ∙ (s.got ∙ ap (λ (l : List Indication). l ++ s.rest) (sym is));
  first = ⊎_elim (λ heard. inl (none (is ∙ subst (λ (o : Option (List Indication)). IfSome o (λ put. b.got ≡ put)) (same ∙ pushed) heard))) (λ many. inr many) stops;
  counted = s.counted;
} where
  all : c.got ≡ put
  all = subst (λ (o : Option (List Indication)). IfSome o (λ put. c.got ≡ put)) (s.pushed ∙ (same ∙ pushed)) s.all

  none : kept ≡ put → s.rest ≡ []
  none whole = append_cancel_left kept s.rest [] (ap (λ (l : List Indication). l ++ s.rest) is ∙ (sym s.got ∙ (all ∙ (sym whole ∙ sym (append-nil kept)))))

-- ---- of a run that ended so

pub kept_first : (fault : Option HubFault) (missed after : ℕ) (kept heard taken : List Indication) → KeepsFirst kept heard missed after → HeardOf fault missed heard taken → HeardOf fault after kept taken
kept_first None missed after kept heard taken k h = keeps_first_of missed after kept heard taken h k
kept_first (Some why) missed after kept heard taken k (inl h) = inl (keeps_first_of missed after kept heard taken h k)
kept_first (Some why) missed after kept heard taken k (inr h) = inr (h.0, h.1, h.2, keeps_first_of missed after kept heard h.0 h.3 k)

-- of one that didn't end by a fault of its own, but was broken off
pub broken_off : (why : HubFault) (missed : ℕ) (heard taken : List Indication) → HeardOf None missed heard taken → HeardOf (Some why) missed heard taken
broken_off why missed heard taken h = inl h

-- where a call failed that took one at most
pub failed_then : (why : HubFault) (missed : ℕ) (heard is : List Indication) (last : Option Indication) → LeftOut missed heard (reverse is) → HeardOf (Some why) missed heard (reverse (cons_option last is))
failed_then why missed heard is None h = inl h
failed_then why missed heard is (Some one) h = inr (reverse is, one, reverse-append (one ∷ []) is, h)

pub none_yet : LeftOut 0 [] []
none_yet = record { in_order = refl; counted = refl; first = refl }
