-- Statements are judged one after another, and in parts.
use Rattle.std.proofs.Common.{◌≡◌, ℕ, suc, ◌+◌, ◌-◌, ◌<◌, ◌≤◌, Bool, true, false, cond, Option, List, [], ◌∷◌, ◌++◌, length, get_or, take, drop, Some, None, refl, sym, ap, ◌∙◌, drop-cons, arith}
use Rattle.std.specs.List.{cons_option}
use Rattle.std.specs.Option.{option_or}
use Rattle.std.proofs.Math.Seq.{take-add, take-length}
use Rattle.std.proofs.lemmas.List.{drop-drop, get_or-take, length-drop, length-take, take_more}
use Rattle.knx_model.specs.declared.catalogue.model.NamedModel.{NamedModel}
use Rattle.knx_model.specs.declared.project.Statement.{Statement}
use Rattle.knx_model.specs.declared.project.What.{What}
use Rattle.knx_model.specs.declared.refusal.Refused.{Refused}
use Rattle.knx_model.specs.declared.refusal.Why.{Why}
use Rattle.knx_model.specs.declared.refusal.Why.TheVariants.{NoMemory, DuplicateDevice, DuplicateGroup, UnknownGroup, UnknownModel, DuplicateObject, UnknownObject, DuplicateLink, UnknownParameter, OutOfRange, SizeDiffers, TooMany, NoDevice, NotLinked}
use Rattle.std.proofs.lemmas.Option.{same_Some}
use Rattle.knx_model.specs.LeastLine.{first_refused}
use Rattle.knx_model.specs.Rules.{rule_of, broken_at, broken_from, first_broken, links_again}
use Rattle.project_check.specs.Knowing.{DeclaresAll, Precedes}
use Rattle.project_check.specs.Links.{IsUpTo, is_at}
use Rattle.project_check.specs.Parts.{first_broken_between, IsFirstBetween}
use Rattle.project_check.specs.declared.earlier.Earlier.{Earlier}
use Rattle.project_check.specs.declared.rules.Whole.{Whole}
use Rattle.project_check.proofs.Sound.{not_broken, repeats_none, up_to_next, up_to_start}

-- ---- want of memory is no rule

another : (b : Bool) (x : Why) (rest : Option Why) (why : Why) → (x ≡ NoMemory tt → ⊥) → (rest ≡ Some why → why ≡ NoMemory tt → ⊥) → cond b (Some x) rest ≡ Some why → why ≡ NoMemory tt → ⊥
another true x rest why one later e same = one (same_Some x why e ∙ same)
another false x rest why one later e same = later e same

never_memory : (catalogue : List NamedModel) (before all : List Statement) (what : What) (why : Why) → Some why ≡ rule_of catalogue before all what → why ≡ NoMemory tt → ⊥
unfolding rule_of
never_memory catalogue before all what why e =
    another _ DuplicateDevice _ why (λ h. cc) (another _ DuplicateGroup _ why (λ h. cc) (another _ UnknownGroup _ why (λ h. cc) (another _ UnknownModel _ why (λ h. cc)
    (another _ DuplicateObject _ why (λ h. cc) (another _ UnknownObject _ why (λ h. cc) (another _ DuplicateLink _ why (λ h. cc) (another _ UnknownParameter _ why (λ h. cc)
    (another _ OutOfRange _ why (λ h. cc) (another _ SizeDiffers _ why (λ h. cc) (another _ (TooMany 255) _ why (λ h. cc) (another _ (TooMany 2047) _ why (λ h. cc)
    (another _ NoDevice _ why (λ h. cc) (another _ NotLinked None why (λ h. cc) (λ h. absurd (cc))))))))))))))) (sym e)

a_rule : (line : ℕ) (o : Option Why) (rs : List Refused) (r : Refused) → ((why : Why) → Some why ≡ o → why ≡ NoMemory tt → ⊥) → (first_refused rs ≡ Some r → r.why ≡ NoMemory tt → ⊥) → first_refused (cons_option (broken_at line o) rs) ≡ Some r → r.why ≡ NoMemory tt → ⊥
a_rule line None rs r here later e same = later e same
a_rule line (Some why) rs r here later e same = here why refl (ap (λ (x : Refused). x.why) (same_Some (record { line = line; why = why }) r e) ∙ same)

-- nor is it told of a line
pub never_told : (catalogue : List NamedModel) (ss : List Statement) (k : ℕ) (rest : List Statement) (r : Refused) → first_refused (broken_from catalogue ss k rest) ≡ Some r → r.why ≡ NoMemory tt → ⊥
unfolding broken_from
never_told catalogue ss k [] r e same = absurd (cc)
never_told catalogue ss k (s ∷ rest) r e same =
    a_rule s.line (rule_of catalogue (take k ss) ss s.what) (broken_from catalogue ss (k + 1) rest) r (never_memory catalogue (take k ss) ss s.what) (never_told catalogue ss (k + 1) rest r) e same

-- ---- parts of a text

behind : (o : Option Refused) (rs more : List Refused) → cons_option o (rs ++ more) ≡ cons_option o rs ++ more
behind None rs more = refl
behind (Some r) rs more = refl

-- of two parts, one behind the other, the lines of both break rules
broken_then : (catalogue : List NamedModel) (ss : List Statement) (k : ℕ) (part more : List Statement) → broken_from catalogue ss k (part ++ more) ≡ broken_from catalogue ss k part ++ broken_from catalogue ss (k + length part) more
unfolding broken_from
broken_then catalogue ss k [] more = ap (λ (n : ℕ). broken_from catalogue ss n more) (omega arith)
broken_then catalogue ss k (s ∷ part) more =
    let o = broken_at s.line (rule_of catalogue (take k ss) ss s.what) in
    let next : k + 1 + length part ≡ k + length (s ∷ part) = omega arith in
    ap (cons_option o) (broken_then catalogue ss (k + 1) part more ∙ ap (λ (n : ℕ). broken_from catalogue ss (k + 1) part ++ broken_from catalogue ss n more) next)
    ∙ behind o (broken_from catalogue ss (k + 1) part) (broken_from catalogue ss (k + length (s ∷ part)) more)

first_then : (rs more : List Refused) → first_refused (rs ++ more) ≡ option_or (first_refused rs) (first_refused more)
first_then [] more = refl
first_then (r ∷ rs) more = refl

-- the first of two neighbouring parts is that of the first, or else that of the second
pub neighbours : (catalogue : List NamedModel) (ss : List Statement) (from middle to : ℕ) → from ≤ middle → middle ≤ to → middle ≤ length ss
    → first_broken_between catalogue ss from to ≡ option_or (first_broken_between catalogue ss from middle) (first_broken_between catalogue ss middle to)
neighbours catalogue ss from middle to up on within =
    let part = take (middle - from) (drop from ss) in
    let more = take (to - middle) (drop middle ss) in
    let both : to - from ≡ middle - from + (to - middle) = omega arith in
    let there : from + (middle - from) ≡ middle = omega arith in
    let rest : drop (middle - from) (drop from ss) ≡ drop middle ss = drop-drop (middle - from) from ss ∙ ap (λ (n : ℕ). drop n ss) there in
    let cut : take (to - from) (drop from ss) ≡ part ++ more = ap (λ (n : ℕ). take n (drop from ss)) both ∙ take-add (middle - from) (to - middle) (drop from ss) ∙ ap (λ (xs : List Statement). part ++ take (to - middle) xs) rest in
    let next : from + length part ≡ middle = omega (arith, length-take (middle - from) (drop from ss), length-drop from ss) in
    ap (λ (xs : List Statement). first_refused (broken_from catalogue ss from xs)) cut ∙ ap first_refused (broken_then catalogue ss from part more)
    ∙ first_then (broken_from catalogue ss from part) (broken_from catalogue ss (from + length part) more)
    ∙ ap (λ (n : ℕ). option_or (first_refused (broken_from catalogue ss from part)) (first_refused (broken_from catalogue ss n more))) next

neither : (a b : Option Refused) → option_or a b ≡ None → (a ≡ None) × (b ≡ None)
neither None b e = (refl, e)
neither (Some r) b e = absurd (cc)

-- where no statement before a place breaks a rule, none before an earlier place does, and none between the two
none_between : (catalogue : List NamedModel) (ss : List Statement) (from to : ℕ) → from ≤ to → from ≤ length ss → first_broken_between catalogue ss 0 to ≡ None
    → (first_broken_between catalogue ss 0 from ≡ None) × (first_broken_between catalogue ss from to ≡ None)
none_between catalogue ss from to up within none =
    neither (first_broken_between catalogue ss 0 from) (first_broken_between catalogue ss from to) (sym (neighbours catalogue ss 0 from to (omega arith) up within) ∙ none)

alone : (o : Option Refused) → first_refused (cons_option o []) ≡ o
alone None = refl
alone (Some r) = refl

-- a part of one statement
one_statement : (catalogue : List NamedModel) (ss : List Statement) (i : ℕ) (s : Statement) → i < length ss → s ≡ get_or ss i s
    → first_broken_between catalogue ss i (i + 1) ≡ broken_at s.line (rule_of catalogue (take i ss) ss s.what)
unfolding broken_from
one_statement catalogue ss i s lt is =
    let next : suc i ≡ i + 1 = omega arith in
    let split : drop i ss ≡ s ∷ drop (i + 1) ss = drop-cons ss i s lt ∙ ap (λ (t : Statement). t ∷ drop (suc i) ss) (sym is) ∙ ap (λ (n : ℕ). s ∷ drop n ss) next in
    let one : i + 1 - i ≡ 1 = omega arith in
    rw (one, split) (alone (broken_at s.line (rule_of catalogue (take i ss) ss s.what)))

-- ---- the loop that judges a part

-- the first i statements break no rule, and these are known of them and of all
pub record JudgedTo (catalogue : List NamedModel) (ss : List Statement) (earlier : Earlier) (whole : Whole) (i : ℕ) : Type 0 where
  pub earlier_is : Precedes earlier (take i ss)
  pub whole_is : DeclaresAll catalogue whole ss
  pub up_to : IsUpTo whole.first_repeat i
  pub none_is : first_broken_between catalogue ss 0 i ≡ None

pub starts : (catalogue : List NamedModel) (ss : List Statement) (earlier : Earlier) (whole : Whole) → Precedes earlier [] → DeclaresAll catalogue whole ss → JudgedTo catalogue ss earlier whole 0
unfolding broken_from
starts catalogue ss earlier whole precedes declares = record { earlier_is = precedes; whole_is = declares; up_to = up_to_start whole.first_repeat; none_is = refl }

-- a statement of a text up to a place
pub in_text : (ss : List Statement) (to i : ℕ) (s : Statement) → i < length (take to ss) → s ≡ get_or (take to ss) i s → (i < to) × (i < length ss) × (s ≡ get_or ss i s)
in_text ss to i s lt is =
    let long = length-take to ss in
    let below : i < to = grind (arith, lt, long) in
    (below, grind (arith, lt, long), is ∙ get_or-take to ss i s below)

-- up to the first repeat, it is known whether a statement repeats a link
pub repeats_there : (catalogue : List NamedModel) (ss : List Statement) (earlier : Earlier) (whole : Whole) (i : ℕ) (s : Statement) → i < length ss → s ≡ get_or ss i s → JudgedTo catalogue ss earlier whole i
    → links_again (take i ss) s.what ≡ is_at whole.first_repeat i
repeats_there catalogue ss earlier whole i s lt is to = ap (λ (t : Statement). links_again (take i ss) t.what) is ∙ to.whole_is.first_repeat i s lt to.up_to

pub is_broken : (catalogue : List NamedModel) (ss : List Statement) (from to i : ℕ) (s : Statement) (why : Why) → from ≤ i → i < to → i < length ss → s ≡ get_or ss i s
    → first_broken_between catalogue ss 0 i ≡ None → Some why ≡ rule_of catalogue (take i ss) ss s.what → Some (record { line = s.line; why = why }) ≡ first_broken_between catalogue ss from to
is_broken catalogue ss from to i s why up lt within is none e =
    rw (neighbours catalogue ss from i to up (omega arith) (omega arith), (none_between catalogue ss from i up (omega arith) none).1, neighbours catalogue ss i (i + 1) to (omega arith) (omega arith) (omega arith), one_statement catalogue ss i s within is, ← e) refl

pub none_broken : (catalogue : List NamedModel) (ss : List Statement) (from to i : ℕ) → from ≤ to → to ≤ length ss → to ≤ i → first_broken_between catalogue ss 0 i ≡ None → None ≡ first_broken_between catalogue ss from to
none_broken catalogue ss from to i up within on none = sym (none_between catalogue ss from to up (omega arith) (none_between catalogue ss to i on within none).0).1

-- a statement of those before the part
pub before_part : (catalogue : List NamedModel) (ss : List Statement) (from i : ℕ) (s : Statement) → i < from → from ≤ length ss → s ≡ get_or ss i s → first_broken_between catalogue ss 0 from ≡ None
    → None ≡ rule_of catalogue (take i ss) ss s.what
before_part catalogue ss from i s lt within is none =
    let to_next = (none_between catalogue ss (i + 1) from (omega arith) (omega arith) none).0 in
    let here = (none_between catalogue ss i (i + 1) (omega arith) (omega arith) to_next).1 in
    sym (not_broken s.line (rule_of catalogue (take i ss) ss s.what) (sym (one_statement catalogue ss i s (omega arith) is) ∙ here))

pub goes_on : (catalogue : List NamedModel) (ss : List Statement) (earlier next : Earlier) (whole : Whole) (i : ℕ) (s : Statement) → i < length ss → s ≡ get_or ss i s
    → JudgedTo catalogue ss earlier whole i → None ≡ rule_of catalogue (take i ss) ss s.what → ((before : List Statement) → Precedes earlier before → Precedes next (before ++ s ∷ []))
    → JudgedTo catalogue ss next whole (i + 1)
goes_on catalogue ss earlier next whole i s lt is to e added =
    let away : is_at whole.first_repeat i ≡ false = sym (repeats_there catalogue ss earlier whole i s lt is to) ∙ repeats_none catalogue (take i ss) ss s (sym e) in record {
      earlier_is = rw (take_more ss i s lt, ← is) (added (take i ss) to.earlier_is);
      whole_is = to.whole_is;
      up_to = up_to_next whole.first_repeat i to.up_to away;
      none_is = rw (neighbours catalogue ss 0 i (i + 1) (omega arith) (omega arith) (omega arith), to.none_is, one_statement catalogue ss i s lt is, ← e) refl;
    }

-- ---- two halves, and the whole text

-- what is found in the first half is the first of both
pub found_first : (whole : Whole) (ss : List Statement) (from middle to : ℕ) (r : Refused) → from ≤ middle → middle ≤ to → to ≤ length ss → IsFirstBetween whole ss from middle (Some r) → IsFirstBetween whole ss from to (Some r)
found_first whole ss from middle to r up on within first catalogue declares none = rw (neighbours catalogue ss from middle to up on (omega arith), ← first catalogue declares none) refl

-- and where nothing is found there, what is found in the second half
pub found_later : (whole : Whole) (ss : List Statement) (from middle to : ℕ) → from ≤ middle → middle ≤ to → to ≤ length ss → IsFirstBetween whole ss from middle None → (found : Option Refused) → IsFirstBetween whole ss middle to found → IsFirstBetween whole ss from to found
found_later whole ss from middle to up on within first found later catalogue declares none =
    let none_there : first_broken_between catalogue ss from middle ≡ None = sym (first catalogue declares none) in
    let none_before : first_broken_between catalogue ss 0 middle ≡ None = rw (neighbours catalogue ss 0 from middle (omega arith) up (omega arith), none) none_there in
    rw (neighbours catalogue ss from middle to up on (omega arith), none_there) (later catalogue declares none_before)

-- what is found in the whole text is the first of all
pub found_of_all : (whole : Whole) (catalogue : List NamedModel) (ss : List Statement) → DeclaresAll catalogue whole ss → (found : Option Refused) → IsFirstBetween whole ss 0 (length ss) found → found ≡ first_broken catalogue ss
unfolding broken_from
found_of_all whole catalogue ss declares found first =
    let all : length ss - 0 ≡ length ss = omega arith in
    first catalogue declares refl ∙ ap (λ (xs : List Statement). first_refused (broken_from catalogue ss 0 xs)) (rw all (take-length ss))
