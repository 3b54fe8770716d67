-- What a text that breaks no rule keeps.
use Rattle.std.proofs.Common.{◌≡◌, ℕ, zero, suc, ◌+◌, ◌<◌, ◌≤◌, Bool, true, false, cond, List, [], ◌∷◌, length, get_or, take, Option, Some, None, refl, sym, ◌∙◌, subst, inl, inr, arith}
use Rattle.std.specs.List.{cons_option}
use Rattle.std.proofs.lemmas.Bool.{cases_eq, false≢true, or_parts}
use Rattle.std.proofs.lemmas.Bool.Decides.{nat_tests}
use Rattle.knx_model.specs.declared.catalogue.model.NamedModel.{NamedModel}
use Rattle.knx_model.specs.declared.project.Statement.{Statement}
use Rattle.knx_model.specs.declared.project.What.{What}
use Rattle.knx_model.specs.declared.refusal.Refused.{Refused}
use Rattle.knx_model.specs.declared.refusal.Why.{Why}
use Rattle.knx_model.specs.declared.refusal.Why.TheVariants.{DuplicateDevice, DuplicateGroup, UnknownGroup, UnknownModel, DuplicateObject, UnknownObject, DuplicateLink, UnknownParameter, OutOfRange, SizeDiffers, TooMany, NoDevice}
use Rattle.knx_model.specs.LeastLine.{first_refused}
use Rattle.knx_model.specs.Rules.{rule_of, broken_at, broken_from, first_broken, links_again, repeats_group, groups_of}
use Rattle.knx_model.specs.Rules as rules
use Rattle.project_check.specs.Links.{IsUpTo, is_at}

-- ---- no rule is broken at any place

first_none : (o : Option Refused) (rs : List Refused) → first_refused (cons_option o rs) ≡ None → (o ≡ None) × (first_refused rs ≡ None)
first_none None rs e = (refl, e)
first_none (Some r) rs e = absurd (cc)

pub not_broken : (line : ℕ) (o : Option Why) → broken_at line o ≡ None → o ≡ None
not_broken line None e = refl
not_broken line (Some why) e = absurd (cc)

sound_from : (catalogue : List NamedModel) (ss : List Statement) (k : ℕ) (rest : List Statement) (i : ℕ) (d : Statement) → first_refused (broken_from catalogue ss k rest) ≡ None → i < length rest
    → rule_of catalogue (take (k + i) ss) ss (get_or rest i d).what ≡ None
unfolding broken_from
sound_from catalogue ss k [] i d e lt = absurd (omega arith)
sound_from catalogue ss k (s ∷ rest) zero d e lt =
    let there : k ≡ k + 0 = omega arith in
    subst (λ (n : ℕ). rule_of catalogue (take n ss) ss s.what ≡ None) there (not_broken s.line (rule_of catalogue (take k ss) ss s.what) (first_none (broken_at s.line (rule_of catalogue (take k ss) ss s.what)) (broken_from catalogue ss (k + 1) rest) e).0)
sound_from catalogue ss k (s ∷ rest) (suc i) d e lt =
    let there : k + suc i ≡ k + 1 + i = omega arith in
    rw there (sound_from catalogue ss (k + 1) rest i d (first_none (broken_at s.line (rule_of catalogue (take k ss) ss s.what)) (broken_from catalogue ss (k + 1) rest) e).1 (omega arith))

pub sound_at : (catalogue : List NamedModel) (ss : List Statement) (i : ℕ) (d : Statement) → first_broken catalogue ss ≡ None → i < length ss → rule_of catalogue (take i ss) ss (get_or ss i d).what ≡ None
sound_at catalogue ss i d e lt =
    let there : i ≡ 0 + i = omega arith in
    subst (λ (n : ℕ). rule_of catalogue (take n ss) ss (get_or ss i d).what ≡ None) (sym there) (sound_from catalogue ss 0 ss i d e lt)

-- ---- what a line keeps that breaks no rule

pub record IsUnbroken (catalogue : List NamedModel) (before all : List Statement) (what : What) : Type 0 where
  pub duplicate_device : rules.duplicate_device before what ≡ false
  pub unknown_model : rules.unknown_model catalogue what ≡ false
  pub duplicate_object : rules.duplicate_object catalogue before all what ≡ false
  pub duplicate_link : rules.duplicate_link before what ≡ false
  pub unknown_parameter : rules.unknown_parameter catalogue all what ≡ false
  pub out_of_range : rules.out_of_range catalogue all what ≡ false
  pub too_many_devices : rules.too_many_devices before what ≡ false
  pub too_many_links : rules.too_many_links before what ≡ false
  pub no_device : rules.no_device all what ≡ false

passed : {X : Type 0} (b : Bool) (x : X) (rest : Option X) → cond b (Some x) rest ≡ None → (b ≡ false) × (rest ≡ None)
passed false x rest e = (refl, e)
passed true x rest e = absurd (cc)

kept : (catalogue : List NamedModel) (before all : List Statement) (what : What) → rule_of catalogue before all what ≡ None → IsUnbroken catalogue before all what
unfolding rule_of
kept catalogue before all what e =
    let e1 = passed (rules.duplicate_device before what) DuplicateDevice _ e in
    let e2 = passed (rules.duplicate_group before what) DuplicateGroup _ e1.1 in
    let e3 = passed (rules.unknown_group all what) UnknownGroup _ e2.1 in
    let e4 = passed (rules.unknown_model catalogue what) UnknownModel _ e3.1 in
    let e5 = passed (rules.duplicate_object catalogue before all what) DuplicateObject _ e4.1 in
    let e6 = passed (rules.unknown_object catalogue all what) UnknownObject _ e5.1 in
    let e7 = passed (rules.duplicate_link before what) DuplicateLink _ e6.1 in
    let e8 = passed (rules.unknown_parameter catalogue all what) UnknownParameter _ e7.1 in
    let e9 = passed (rules.out_of_range catalogue all what) OutOfRange _ e8.1 in
    let e10 = passed (rules.size_differs catalogue all what) SizeDiffers _ e9.1 in
    let e11 = passed (rules.too_many_devices before what) (TooMany 255) _ e10.1 in
    let e12 = passed (rules.too_many_links before what) (TooMany 2047) _ e11.1 in
    let e13 = passed (rules.no_device all what) NoDevice _ e12.1 in
    record {
      duplicate_device = e1.0;
      unknown_model = e4.0;
      duplicate_object = e5.0;
      duplicate_link = e7.0;
      unknown_parameter = e8.0;
      out_of_range = e9.0;
      too_many_devices = e11.0;
      too_many_links = e12.0;
      no_device = e13.0;
    }

pub unbroken_at : (catalogue : List NamedModel) (ss : List Statement) (i : ℕ) (d : Statement) → first_broken catalogue ss ≡ None → i < length ss
    → IsUnbroken catalogue (take i ss) ss (get_or ss i d).what
unbroken_at catalogue ss i d e lt = kept catalogue (take i ss) ss (get_or ss i d).what (sound_at catalogue ss i d e lt)

-- a line that breaks no rule repeats no link of an earlier one
pub repeats_none : (catalogue : List NamedModel) (before all : List Statement) (s : Statement) → rule_of catalogue before all s.what ≡ None → links_again before s.what ≡ false
repeats_none catalogue before all s e = (or_parts (links_again before s.what) (repeats_group (groups_of s.what)) (kept catalogue before all s.what e).duplicate_link).0

pub up_to_start : (first : Option ℕ) → IsUpTo first 0
up_to_start None = tt
up_to_start (Some first) = omega arith

-- the first repeat isn't before the place after a line that isn't it
pub up_to_next : (first : Option ℕ) (i : ℕ) → IsUpTo first i → is_at first i ≡ false → IsUpTo first (i + 1)
up_to_next None i up away = tt
up_to_next (Some first) i up away = elim (cases_eq first i) as (λ _. i + 1 ≤ first) [
  | inl same ↦ absurd (false≢true (sym away ∙ grind (arith, nat_tests, same)))
  | inr other ↦ grind (arith, up, other)
]
