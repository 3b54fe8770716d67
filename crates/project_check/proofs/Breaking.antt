-- The first refusal of a text is of the least line that breaks a rule, by the rule of the least number.
use Rattle.std.proofs.Common.{◌≡◌, ℕ, zero, suc, ◌+◌, ◌<◌, ◌≤◌, ◌⊎◌, inl, inr, Bool, true, false, cond, List, [], ◌∷◌, take, Option, Some, None, refl, sym, ap, ◌∙◌, subst, arith}
use Rattle.std.specs.Prelude.{slice_get}
use Rattle.std.specs.List.{cons_option}
use Rattle.std.proofs.lemmas.Bool.{false≢true}
use Rattle.std.proofs.lemmas.Option.{same_Some}
use Rattle.knx_model.specs.declared.catalogue.model.NamedModel.{NamedModel}
use Rattle.knx_model.specs.declared.project.Statement.{Statement}
use Rattle.knx_model.specs.declared.project.What.{What}
use Rattle.knx_model.specs.declared.refusal.Refused.{Refused}
use Rattle.knx_model.specs.declared.refusal.Why.{Why}
use Rattle.knx_model.specs.declared.refusal.Why.TheVariants.{NoMemory, NotText, LongLine, UnknownWord, BadAddress, BadNumber, BadName, MissingWord, ExtraWord, BadVersion, NotLinked, DuplicateDevice, DuplicateGroup, UnknownGroup, UnknownModel, DuplicateObject, UnknownObject, DuplicateLink, UnknownParameter, OutOfRange, SizeDiffers, TooMany, NoDevice}
use Rattle.knx_model.specs.LeastLine.{first_refused}
use Rattle.knx_model.specs.Refusal.{why_number}
use Rattle.knx_model.specs.Rules.{rule_of, broken_at, broken_from, first_broken, duplicate_device, duplicate_group, unknown_group, unknown_model, duplicate_object, unknown_object, duplicate_link, unknown_parameter, out_of_range, size_differs, too_many_devices, too_many_links, no_device, not_linked}
use Rattle.project_check.specs.Breaking.{Breaks, IsLeastBroken, NoneBreaks}

-- ---- of rules in the order of their numbers, each with whether it is broken, the first that is broken

abbrev first_of : List (Bool × Why) → Option Why
first_of [] = None
first_of (r ∷ rs) = cond r.0 (Some r.1) (first_of rs)

-- one of the rules is this, and is broken
abbrev Told : List (Bool × Why) → Why → Type 0
Told [] why = ⊥
Told (r ∷ rs) why = ((r.0 ≡ true) × (r.1 ≡ why)) ⊎ Told rs why

-- the numbers ascend from this one on
abbrev Ascend : ℕ → List (Bool × Why) → Type 0
Ascend low [] = Unit {0}
Ascend low (r ∷ rs) = (n : ℕ) × (why_number r.1 ≡ Some n) × (low ≤ n) × Ascend n rs

same_number : (a b : Why) (n m : ℕ) → a ≡ b → why_number a ≡ Some n → why_number b ≡ Some m → n ≡ m
same_number a b n m same is_n is_m = same_Some n m (sym is_n ∙ ap why_number same ∙ is_m)

above : (rs : List (Bool × Why)) (low : ℕ) (why : Why) (m : ℕ) → Ascend low rs → Told rs why → why_number why ≡ Some m → low ≤ m
above [] low why m up told is = absurd told
above (r ∷ rs) low why m up (inl here) is = let same : up.0 ≡ m = same_number r.1 why up.0 m here.1 up.1 is in omega (arith, same, up.2)
above (r ∷ rs) low why m up (inr there) is = omega (arith, up.2, above rs up.0 why m up.3 there is)

numbered : (rs : List (Bool × Why)) (low : ℕ) (why : Why) → Ascend low rs → Told rs why → (n : ℕ) × (why_number why ≡ Some n)
numbered [] low why up told = absurd told
numbered (r ∷ rs) low why up (inl here) = (up.0, ap why_number (sym here.1) ∙ up.1)
numbered (r ∷ rs) low why up (inr there) = numbered rs up.0 why up.3 there

told_first : (rs : List (Bool × Why)) (why : Why) → first_of rs ≡ Some why → Told rs why
told_first [] why e = absurd (cc)
told_first (r ∷ rs) why e = by r.0 refl e (told_first rs why)
  where
    by : (b : Bool) → r.0 ≡ b → cond b (Some r.1) (first_of rs) ≡ Some why → (first_of rs ≡ Some why → Told rs why) → Told (r ∷ rs) why
    by true is e later = inl (is, same_Some r.1 why e)
    by false is e later = inr (later e)

least_first : (rs : List (Bool × Why)) (low : ℕ) (why other : Why) (n m : ℕ) → Ascend low rs → first_of rs ≡ Some why → Told rs other → why_number why ≡ Some n → why_number other ≡ Some m → n ≤ m
least_first [] low why other n m up e told is_n is_m = absurd told
least_first (r ∷ rs) low why other n m up e told is_n is_m = by r.0 refl e told (λ e told. least_first rs up.0 why other n m up.3 e told is_n is_m)
  where
    by : (b : Bool) → r.0 ≡ b → cond b (Some r.1) (first_of rs) ≡ Some why → Told (r ∷ rs) other → (first_of rs ≡ Some why → Told rs other → n ≤ m) → n ≤ m
    by true is e (inl here) later = let same : n ≡ m = same_number why other n m (sym (same_Some r.1 why e) ∙ here.1) is_n is_m in omega (arith, same)
    by true is e (inr there) later = let same : up.0 ≡ n = same_number r.1 why up.0 n (same_Some r.1 why e) up.1 is_n in omega (arith, same, above rs up.0 other m up.3 there is_m)
    by false is e (inl here) later = absurd (false≢true (sym is ∙ here.0))
    by false is e (inr there) later = later e there

none_told : (rs : List (Bool × Why)) (why : Why) → first_of rs ≡ None → ¬ Told rs why
none_told [] why e = λ told. told
none_told (r ∷ rs) why e = by r.0 refl e (none_told rs why)
  where
    by : (b : Bool) → r.0 ≡ b → cond b (Some r.1) (first_of rs) ≡ None → (first_of rs ≡ None → ¬ Told rs why) → ¬ Told (r ∷ rs) why
    by true is e later = absurd (cc)
    by false is e later = elim [ inl here ↦ false≢true (sym is ∙ here.0) | inr there ↦ later e there ]

abbrev Each : (Why → Type 0) → List (Bool × Why) → Type 0
Each P [] = Unit {0}
Each P (r ∷ rs) = (r.0 ≡ true → P r.1) × Each P rs

each_told : (P : Why → Type 0) (rs : List (Bool × Why)) (why : Why) → Each P rs → Told rs why → P why
each_told P [] why each told = absurd told
each_told P (r ∷ rs) why each (inl here) = subst P here.1 (each.0 here.0)
each_told P (r ∷ rs) why each (inr there) = each_told P rs why each.1 there

-- ---- the rules of a line

abbrev rules : List NamedModel → List Statement → List Statement → What → List (Bool × Why)
rules catalogue before all what =
    (duplicate_device before what, DuplicateDevice)
    ∷ (duplicate_group before what, DuplicateGroup)
    ∷ (unknown_group all what, UnknownGroup)
    ∷ (unknown_model catalogue what, UnknownModel)
    ∷ (duplicate_object catalogue before all what, DuplicateObject)
    ∷ (unknown_object catalogue all what, UnknownObject)
    ∷ (duplicate_link before what, DuplicateLink)
    ∷ (unknown_parameter catalogue all what, UnknownParameter)
    ∷ (out_of_range catalogue all what, OutOfRange)
    ∷ (size_differs catalogue all what, SizeDiffers)
    ∷ (too_many_devices before what, TooMany 255)
    ∷ (too_many_links before what, TooMany 2047)
    ∷ (no_device all what, NoDevice)
    ∷ (not_linked all what, NotLinked)
    ∷ []

first_is_rule : (catalogue : List NamedModel) (before all : List Statement) (what : What) → first_of (rules catalogue before all what) ≡ rule_of catalogue before all what
unfolding rule_of
first_is_rule catalogue before all what = refl

ascending : (catalogue : List NamedModel) (before all : List Statement) (what : What) → Ascend 9 (rules catalogue before all what)
ascending catalogue before all what =
    (9, refl, omega arith, (10, refl, omega arith, (11, refl, omega arith, (12, refl, omega arith, (13, refl, omega arith, (14, refl, omega arith, (15, refl, omega arith, (16, refl, omega arith, (17, refl, omega arith, (18, refl, omega arith, (19, refl, omega arith, (19, refl, omega arith, (20, refl, omega arith, (22, refl, omega arith, tt))))))))))))))

told_breaks : (catalogue : List NamedModel) (before all : List Statement) (what : What) (why : Why) → Told (rules catalogue before all what) why → Breaks catalogue before all what why
told_breaks catalogue before all what why told =
    each_told (λ w. Breaks catalogue before all what w) (rules catalogue before all what) why (λ h. h, (λ h. h, (λ h. h, (λ h. h, (λ h. h, (λ h. h, (λ h. h, (λ h. h, (λ h. h, (λ h. h, (λ h. inl (refl, h), (λ h. inr (refl, h), (λ h. h, (λ h. h, tt)))))))))))))) told

breaks_told : (catalogue : List NamedModel) (before all : List Statement) (what : What) (why : Why) → Breaks catalogue before all what why → Told (rules catalogue before all what) why
breaks_told catalogue before all what DuplicateDevice h = inl (h, refl)
breaks_told catalogue before all what DuplicateGroup h = inr (inl (h, refl))
breaks_told catalogue before all what UnknownGroup h = inr (inr (inl (h, refl)))
breaks_told catalogue before all what UnknownModel h = inr (inr (inr (inl (h, refl))))
breaks_told catalogue before all what DuplicateObject h = inr (inr (inr (inr (inl (h, refl)))))
breaks_told catalogue before all what UnknownObject h = inr (inr (inr (inr (inr (inl (h, refl))))))
breaks_told catalogue before all what DuplicateLink h = inr (inr (inr (inr (inr (inr (inl (h, refl)))))))
breaks_told catalogue before all what UnknownParameter h = inr (inr (inr (inr (inr (inr (inr (inl (h, refl))))))))
breaks_told catalogue before all what OutOfRange h = inr (inr (inr (inr (inr (inr (inr (inr (inl (h, refl)))))))))
breaks_told catalogue before all what SizeDiffers h = inr (inr (inr (inr (inr (inr (inr (inr (inr (inl (h, refl))))))))))
breaks_told catalogue before all what (TooMany limit) (inl h) = inr (inr (inr (inr (inr (inr (inr (inr (inr (inr (inl (h.1, ap TooMany (sym h.0))))))))))))
breaks_told catalogue before all what (TooMany limit) (inr h) = inr (inr (inr (inr (inr (inr (inr (inr (inr (inr (inr (inl (h.1, ap TooMany (sym h.0)))))))))))))
breaks_told catalogue before all what NoDevice h = inr (inr (inr (inr (inr (inr (inr (inr (inr (inr (inr (inr (inl (h, refl)))))))))))))
breaks_told catalogue before all what NotLinked h = inr (inr (inr (inr (inr (inr (inr (inr (inr (inr (inr (inr (inr (inl (h, refl))))))))))))))
breaks_told catalogue before all what (NoMemory want) h = absurd h
breaks_told catalogue before all what NotText h = absurd h
breaks_told catalogue before all what LongLine h = absurd h
breaks_told catalogue before all what UnknownWord h = absurd h
breaks_told catalogue before all what BadAddress h = absurd h
breaks_told catalogue before all what BadNumber h = absurd h
breaks_told catalogue before all what BadName h = absurd h
breaks_told catalogue before all what MissingWord h = absurd h
breaks_told catalogue before all what ExtraWord h = absurd h
breaks_told catalogue before all what BadVersion h = absurd h

breaks_none : (catalogue : List NamedModel) (before all : List Statement) (what : What) (why : Why) → rule_of catalogue before all what ≡ None → ¬ Breaks catalogue before all what why
breaks_none catalogue before all what why e = λ h. none_told (rules catalogue before all what) why (first_is_rule catalogue before all what ∙ e) (breaks_told catalogue before all what why h)

-- ---- the lines from a place on

-- the first of them that breaks a rule
record Found (catalogue : List NamedModel) (ss : List Statement) (k : ℕ) (rest : List Statement) (r : Refused) : Type 0 where
  at : ℕ
  statement : Statement
  there : slice_get rest at ≡ Some statement
  line : r.line ≡ statement.line
  rule : rule_of catalogue (take (k + at) ss) ss statement.what ≡ Some r.why
  before : (j : ℕ) (t : Statement) → j < at → slice_get rest j ≡ Some t → rule_of catalogue (take (k + j) ss) ss t.what ≡ None

-- what a statement has that is found at a place, by that place and by itself
moved : (catalogue : List NamedModel) (ss : List Statement) (n m : ℕ) (s t : Statement) (o : Option Why) → n ≡ m → s ≡ t → rule_of catalogue (take n ss) ss s.what ≡ o → rule_of catalogue (take m ss) ss t.what ≡ o
moved catalogue ss n m s t o at same e = subst (λ (i : ℕ). rule_of catalogue (take i ss) ss t.what ≡ o) at (subst (λ (u : Statement). rule_of catalogue (take n ss) ss u.what ≡ o) same e)

here_or_later : (catalogue : List NamedModel) (ss : List Statement) (k : ℕ) (s : Statement) (rest : List Statement) (r : Refused) (rule : Option Why) → rule_of catalogue (take k ss) ss s.what ≡ rule
    → first_refused (cons_option (broken_at s.line rule) (broken_from catalogue ss (k + 1) rest)) ≡ Some r → (first_refused (broken_from catalogue ss (k + 1) rest) ≡ Some r → Found catalogue ss (k + 1) rest r)
    → Found catalogue ss k (s ∷ rest) r
here_or_later catalogue ss k s rest r (Some why) is e later =
    let told : record { line = s.line; why = why } ≡ r = same_Some _ r e in
    let rule = is ∙ ap (λ (x : Refused). Some x.why) told in
    record { at = 0; statement = s; there = refl; line = sym (ap (λ (x : Refused). x.line) told); rule = moved catalogue ss k (k + 0) s s (Some r.why) (omega arith) refl rule; before = λ j t lt. absurd (omega arith) }
here_or_later catalogue ss k s rest r None is e later =
    let h = later e in
    record { at = suc h.at; statement = h.statement; there = h.there; line = h.line; rule = moved catalogue ss (k + 1 + h.at) (k + suc h.at) h.statement h.statement (Some r.why) (omega arith) refl h.rule; before = before h }
  where
    before : (h : Found catalogue ss (k + 1) rest r) → (j : ℕ) (t : Statement) → j < suc h.at → slice_get (s ∷ rest) j ≡ Some t → rule_of catalogue (take (k + j) ss) ss t.what ≡ None
    before h zero t lt there = moved catalogue ss k (k + 0) s t None (omega arith) (same_Some s t there) is
    before h (suc j) t lt there = moved catalogue ss (k + 1 + j) (k + suc j) t t None (omega arith) refl (h.before j t (omega arith) there)

found_from : (catalogue : List NamedModel) (ss : List Statement) (k : ℕ) (rest : List Statement) (r : Refused) → first_refused (broken_from catalogue ss k rest) ≡ Some r → Found catalogue ss k rest r
unfolding broken_from
found_from catalogue ss k [] r e = absurd (cc)
found_from catalogue ss k (s ∷ rest) r e = here_or_later catalogue ss k s rest r (rule_of catalogue (take k ss) ss s.what) refl e (found_from catalogue ss (k + 1) rest r)

none_or_later : (catalogue : List NamedModel) (ss : List Statement) (k : ℕ) (s : Statement) (rest : List Statement) (rule : Option Why) → rule_of catalogue (take k ss) ss s.what ≡ rule
    → first_refused (cons_option (broken_at s.line rule) (broken_from catalogue ss (k + 1) rest)) ≡ None
    → (first_refused (broken_from catalogue ss (k + 1) rest) ≡ None → (j : ℕ) (t : Statement) → slice_get rest j ≡ Some t → rule_of catalogue (take (k + 1 + j) ss) ss t.what ≡ None)
    → (j : ℕ) (t : Statement) → slice_get (s ∷ rest) j ≡ Some t → rule_of catalogue (take (k + j) ss) ss t.what ≡ None
none_or_later catalogue ss k s rest (Some why) is e later j t there = absurd (cc)
none_or_later catalogue ss k s rest None is e later zero t there = moved catalogue ss k (k + 0) s t None (omega arith) (same_Some s t there) is
none_or_later catalogue ss k s rest None is e later (suc j) t there = moved catalogue ss (k + 1 + j) (k + suc j) t t None (omega arith) refl (later e j t there)

none_from : (catalogue : List NamedModel) (ss : List Statement) (k : ℕ) (rest : List Statement) → first_refused (broken_from catalogue ss k rest) ≡ None
    → (j : ℕ) (t : Statement) → slice_get rest j ≡ Some t → rule_of catalogue (take (k + j) ss) ss t.what ≡ None
unfolding broken_from
none_from catalogue ss k [] e j t there = absurd (cc)
none_from catalogue ss k (s ∷ rest) e j t there = none_or_later catalogue ss k s rest (rule_of catalogue (take k ss) ss s.what) refl e (none_from catalogue ss (k + 1) rest) j t there

-- ---- the whole text

from_0 : (catalogue : List NamedModel) (ss : List Statement) (j : ℕ) (t : Statement) (o : Option Why) → rule_of catalogue (take (0 + j) ss) ss t.what ≡ o → rule_of catalogue (take j ss) ss t.what ≡ o
from_0 catalogue ss j t o e = moved catalogue ss (0 + j) j t t o (omega arith) refl e

pub least : (catalogue : List NamedModel) (ss : List Statement) (r : Refused) → first_broken catalogue ss ≡ Some r → IsLeastBroken catalogue ss r
least catalogue ss r e =
    let h = found_from catalogue ss 0 ss r e in
    let before = take h.at ss in
    let what = h.statement.what in
    let rs = rules catalogue before ss what in
    let up = ascending catalogue before ss what in
    let first : first_of rs ≡ Some r.why = first_is_rule catalogue before ss what ∙ from_0 catalogue ss h.at h.statement (Some r.why) h.rule in
    let told : Told rs r.why = told_first rs r.why first in
    let number = numbered rs 9 r.why up told in
    record {
      place = h.at;
      statement = h.statement;
      there = h.there;
      line = h.line;
      breaks = told_breaks catalogue before ss what r.why told;
      number = number.0;
      numbered = number.1;
      least = λ why n is lt breaks. (let le : number.0 ≤ n = least_first rs 9 r.why why number.0 n up first (breaks_told catalogue before ss what why breaks) number.1 is in absurd (omega (arith, le, lt)));
      before = λ k earlier why lt there. breaks_none catalogue (take k ss) ss earlier.what why (from_0 catalogue ss k earlier None (h.before k earlier lt there));
    }

pub none : (catalogue : List NamedModel) (ss : List Statement) → first_broken catalogue ss ≡ None → NoneBreaks catalogue ss
none catalogue ss e = λ k s why there. breaks_none catalogue (take k ss) ss s.what why (from_0 catalogue ss k s None (none_from catalogue ss 0 ss e k s there))
