-- The pairs of links that stand in order: each group that is linked to an object has one, and they stand in the table's order.
use Rattle.std.proofs.Common.{◌≡◌, ℕ, zero, suc, ◌<◌, Bool, true, false, cond, List, [], ◌∷◌, length, get_or, map, Some, refl, sym, ap, ◌∙◌, subst, arith, inl, inr}
use Rattle.std.specs.Prelude.{Contains, IsPermutation, filter, ◌↔◌}
use Rattle.std.specs.List.{AllPairs}
use Rattle.std.specs.List.Sorted.{IsStrictlyIncreasing}
use Rattle.std.proofs.lemmas.Bool.{cases_order, false≢true}
use Rattle.std.proofs.lemmas.List.{get_or_default, get_or-map, length-map}
use Rattle.std.proofs.lemmas.List.Elements.{Contains-get_or}
use Rattle.std.proofs.lemmas.List.Sorted.{Contains-permutation, IsPermutation-sym}
use Rattle.std.proofs.lemmas.Option.{same_Some}
use Rattle.knx_model.specs.declared.config.LinkSpec.{LinkSpec}
use Rattle.knx_model.specs.Tables.{raw_of, at_place, IsLinked, Sends, IsBefore}
use Rattle.table_compiler.specs.Order.{AreApart, StandsBefore, place, pair_of}
use Rattle.table_compiler.proofs.GroupPlaces.{no_link, at_its_place, place_of_entry, places_rise}

contains_map : {Y : Type 0} (f : LinkSpec → Y) (ls : List LinkSpec) (l : LinkSpec) → Contains ls l → Contains (map f ls) (f l)
contains_map f ls l h = (h.0, omega (arith, h.1, length-map ls f), get_or-map f ls h.0 l (f l) h.1 ∙ ap f h.2)

-- what the groups of links are to them
pub record AreGroups (groups : List ℕ) (links : List LinkSpec) : Type 0 where
  pub ascend : IsStrictlyIncreasing groups
  pub listed : (g : ℕ) → Contains (map raw_of links) g → Contains groups g

link_listed : (groups : List ℕ) (links : List LinkSpec) (l : LinkSpec) → AreGroups groups links → Contains links l → Contains groups (raw_of l)
link_listed groups links l are member = are.listed (raw_of l) (contains_map raw_of links l member)

at_link : (groups : List ℕ) (links : List LinkSpec) (l : LinkSpec) → AreGroups groups links → Contains links l → at_place groups (place groups (raw_of l)) ≡ Some (raw_of l)
at_link groups links l are member = at_its_place groups (raw_of l) are.ascend (link_listed groups links l are member)

pub each_pair : (groups : List ℕ) (links order : List LinkSpec) → AreGroups groups links → IsPermutation links order → (p o : ℕ) → Contains (map (pair_of groups) order) (p, o) ↔ IsLinked groups links p o
each_pair groups links order are moved p o = (
  λ h.
      let l : LinkSpec = get_or order h.0 no_link in
      let lt : h.0 < length order = omega (arith, h.1, length-map order (pair_of groups)) in
      let is : pair_of groups l ≡ (p, o) = sym (get_or-map (pair_of groups) order h.0 no_link (p, o) lt) ∙ h.2 in
      let member : Contains links l = Contains-permutation order links l (IsPermutation-sym links order moved) (Contains-get_or order h.0 no_link lt) in
      record {
        link = l;
        member = member;
        object = ap (λ (x : ℕ × ℕ). x.1) is;
        group = subst (λ (q : ℕ). at_place groups q ≡ Some (raw_of l)) (ap (λ (x : ℕ × ℕ). x.0) is) (at_link groups links l are member);
      },
  λ h.
      let member : Contains order h.link = Contains-permutation links order h.link moved h.member in
      let at : place groups (raw_of h.link) ≡ p = place_of_entry groups p (raw_of h.link) are.ascend h.group in
      let is : pair_of groups h.link ≡ (p, o) = λ i. (at i, h.object i) in
      subst (λ (x : ℕ × ℕ). Contains (map (pair_of groups) order) x) is (contains_map (pair_of groups) order h.link member),
)

-- ---- which pairs send

abbrev sends : LinkSpec → Bool
sends l = l.sending

kept_one : (b : Bool) (m l : LinkSpec) (ms : List LinkSpec) → b ≡ true → m ≡ l → Contains (cond b (m ∷ ms) ms) l
kept_one true m l ms does same = (0, omega arith, same)
kept_one false m l ms does same = absurd (false≢true does)

kept_more : (b : Bool) (m l : LinkSpec) (ms : List LinkSpec) → Contains ms l → Contains (cond b (m ∷ ms) ms) l
kept_more true m l ms h = (suc h.0, omega (arith, h.1), h.2)
kept_more false m l ms h = h

sending_at : (ls : List LinkSpec) (l : LinkSpec) (k : ℕ) → k < length ls → get_or ls k l ≡ l → l.sending ≡ true → Contains (filter sends ls) l
sending_at [] l k lt e does = absurd (omega arith)
sending_at (m ∷ ms) l zero lt e does = kept_one m.sending m l (filter sends ms) (ap sends e ∙ does) e
sending_at (m ∷ ms) l (suc k) lt e does = kept_more m.sending m l (filter sends ms) (sending_at ms l k (omega arith) e does)

-- a link that sends is one of the links
split_one : (b : Bool) (m l : LinkSpec) (ms all : List LinkSpec) → m.sending ≡ b → (k : ℕ) → k < length (cond b (m ∷ ms) ms) → get_or (cond b (m ∷ ms) ms) k l ≡ l → ((k : ℕ) → k < length ms → get_or ms k l ≡ l → Contains all l × (l.sending ≡ true)) → Contains (m ∷ all) l × (l.sending ≡ true)
split_one true m l ms all is zero lt e later = ((0, omega arith, e), sym (ap sends e) ∙ is)
split_one true m l ms all is (suc k) lt e later = let h = later k (omega arith) e in ((suc h.0.0, omega (arith, h.0.1), h.0.2), h.1)
split_one false m l ms all is k lt e later = let h = later k lt e in ((suc h.0.0, omega (arith, h.0.1), h.0.2), h.1)

from_sending : (ls : List LinkSpec) (l : LinkSpec) (k : ℕ) → k < length (filter sends ls) → get_or (filter sends ls) k l ≡ l → Contains ls l × (l.sending ≡ true)
from_sending [] l k lt e = absurd (omega arith)
from_sending (m ∷ ms) l k lt e = split_one m.sending m l (filter sends ms) ms refl k lt e (λ i less at. from_sending ms l i less at)

-- links that are apart have one link of an object and a group
one_link : (links : List LinkSpec) (l m : LinkSpec) → AllPairs AreApart links → Contains links l → Contains links m → l.object ≡ m.object → raw_of l ≡ raw_of m → l ≡ m
one_link links l m apart h k object group =
    let there : get_or links k.0 l ≡ m = get_or_default links k.0 l m k.1 ∙ k.2 in
    elim (cases_order h.0 k.0) [
      | inl same ↦ sym h.2 ∙ ap (λ (n : ℕ). get_or links n l) same ∙ there
      | inr (inl below) ↦ absurd (apart h.0 k.0 l below k.1 (ap (λ (x : LinkSpec). x.object) h.2 ∙ object ∙ sym (ap (λ (x : LinkSpec). x.object) there)) (ap raw_of h.2 ∙ group ∙ sym (ap raw_of there)))
      | inr (inr above) ↦ absurd (apart k.0 h.0 l above h.1 (ap (λ (x : LinkSpec). x.object) there ∙ sym object ∙ sym (ap (λ (x : LinkSpec). x.object) h.2)) (ap raw_of there ∙ sym group ∙ sym (ap raw_of h.2)))
    ]

-- the pair of a link sends exactly where the link does
pair_sends : (groups : List ℕ) (links : List LinkSpec) (l : LinkSpec) → AreGroups groups links → Contains links l → l.sending ≡ true → Sends groups links (pair_of groups l)
pair_sends groups links l are member does = record { link = l; member = sending_at links l member.0 member.1 member.2 does; object = refl; group = at_link groups links l are member }

link_sends : (groups : List ℕ) (links : List LinkSpec) (l : LinkSpec) → AreGroups groups links → AllPairs AreApart links → Contains links l → Sends groups links (pair_of groups l) → l.sending ≡ true
link_sends groups links l are apart member h =
    let other = from_sending links h.link h.member.0 h.member.1 h.member.2 in
    let group : raw_of h.link ≡ raw_of l = same_Some (raw_of h.link) (raw_of l) (sym h.group ∙ at_link groups links l are member) in
    sym (ap sends (one_link links h.link l apart other.0 member h.object group)) ∙ other.1

-- ---- the order of the pairs

pair_before : (groups : List ℕ) (links : List LinkSpec) (l m : LinkSpec) → AreGroups groups links → AllPairs AreApart links → Contains links l → Contains links m → StandsBefore l m → IsBefore groups links (pair_of groups l) (pair_of groups m)
pair_before groups links l m are apart here there (inl below) = inl below
pair_before groups links l m are apart here there (inr (same, inl (does, doesnt))) = inr (same, inl (pair_sends groups links l are here does, λ h. false≢true (sym doesnt ∙ link_sends groups links m are apart there h)))
pair_before groups links l m are apart here there (inr (same, inr (alike, less))) =
    inr (
      same,
      inr (
        (λ h. pair_sends groups links m are there (sym alike ∙ link_sends groups links l are apart here h), λ h. pair_sends groups links l are here (alike ∙ link_sends groups links m are apart there h)),
        places_rise groups (raw_of l) (raw_of m) are.ascend (link_listed groups links l are here) (link_listed groups links m are there) less,
      ),
    )

pub pairs_ascend : (groups : List ℕ) (links order : List LinkSpec) → AreGroups groups links → AllPairs AreApart links → IsPermutation links order → AllPairs StandsBefore order → AllPairs (IsBefore groups links) (map (pair_of groups) order)
pairs_ascend groups links order are apart moved up i j d below lt =
    let within : j < length order = omega (arith, lt, length-map order (pair_of groups)) in
    let less : i < length order = omega (arith, below, within) in
    let back : (l : LinkSpec) → Contains order l → Contains links l = λ l h. Contains-permutation order links l (IsPermutation-sym links order moved) h in
    let at : (k : ℕ) → k < length order → pair_of groups (get_or order k no_link) ≡ get_or (map (pair_of groups) order) k d = λ k small. sym (get_or-map (pair_of groups) order k no_link d small) in
    let h : IsBefore groups links (pair_of groups (get_or order i no_link)) (pair_of groups (get_or order j no_link)) = pair_before groups links (get_or order i no_link) (get_or order j no_link) are apart (back _ (Contains-get_or order i no_link less)) (back _ (Contains-get_or order j no_link within)) (up i j no_link below within) in
    subst (λ (y : ℕ × ℕ). IsBefore groups links (get_or (map (pair_of groups) order) i d) y) (at j within) (subst (λ (x : ℕ × ℕ). IsBefore groups links x (pair_of groups (get_or order j no_link))) (at i less) h)
