-- The own address and port in a datagram, and in the record.
use Rattle.std.proofs.Common.{◌≡◌, ◌≤◌, ◌⊎◌, ◌+◌, ◌-◌, ℕ, Bool, true, false, List, ◌++◌, length, take, drop, map, refl, sym, ap, ◌∙◌, subst, Option, Some, None, inl, inr, arith}
use Rattle.std.specs.Prelude.{if◌then◌else◌, OnErr, OnOk, Result, Ok, Err}
use Rattle.std.specs.Str.{bytes_eq}
use Rattle.std.proofs.lemmas.Slice.Eq.{bytes_eq-Decides}
use Rattle.std.proofs.lemmas.Bool.{and_parts, leb-true}
use Rattle.std.proofs.lemmas.List.{length-append, length-drop, length-take-le, take-append-drop, take-append-le}
use Rattle.std.proofs.Math.Seq.{drop-append_seam, take-append_seam}
use Rattle.line_model.specs.PortStory.{PortItem, Took, Quiet, Gave, PortStory, Untold, Recorded, Adds, GivesOrNot}
use Rattle.discovery_ends.specs.Naming.{connect_response, exchanged, exchanged_at, has_place, named, named_item, named_story, named_where, nowhere, place_in, search_response}

-- ---- exchanged twice is as before

abbrev chosen : (a b : Bool) (own there : List ℕ) → List ℕ
chosen a b own there = if a then own else (if b then nowhere else there)

same_octets : (xs : List ℕ) → bytes_eq xs xs ≡ true
same_octets xs = (bytes_eq-Decides xs xs).1 refl

are_same : (xs ys : List ℕ) → bytes_eq xs ys ≡ true → xs ≡ ys
are_same xs ys e = (bytes_eq-Decides xs ys).0 e

own_twice : (a : Bool) (own : List ℕ) → bytes_eq own nowhere ≡ a → chosen a (bytes_eq own own) own own ≡ nowhere
own_twice true own e = are_same own nowhere e
own_twice false own e = rw (same_octets own) refl

by_cases : (a b : Bool) (own there : List ℕ) → bytes_eq there nowhere ≡ a → bytes_eq there own ≡ b → exchanged own (chosen a b own there) ≡ there
by_cases true b own there is is_own = own_twice (bytes_eq own nowhere) own refl ∙ sym (are_same there nowhere is)
by_cases false true own there is is_own = sym (are_same there own is_own)
by_cases false false own there is is_own = rw (is, is_own) refl

exchanged_twice : (own there : List ℕ) → exchanged own (exchanged own there) ≡ there
exchanged_twice own there = by_cases (bytes_eq there nowhere) (bytes_eq there own) own there refl refl

chosen_length : (a b : Bool) (own there : List ℕ) → length own ≡ 6 → length there ≡ 6 → length (chosen a b own there) ≡ 6
chosen_length true b own there six these = six
chosen_length false true own there six these = refl
chosen_length false false own there six these = these

exchanged_length : (own there : List ℕ) → length own ≡ 6 → length there ≡ 6 → length (exchanged own there) ≡ 6
exchanged_length own there six these = chosen_length (bytes_eq there nowhere) (bytes_eq there own) own there six these

-- ---- a datagram in three parts

-- so many octets in front, six behind them, and the rest
three_parts : (place : ℕ) (own front six rest : List ℕ) → length front ≡ place → length six ≡ 6 → exchanged_at place own (front ++ (six ++ rest)) ≡ front ++ (exchanged own six ++ rest)
three_parts place own front six rest is these =
    let behind : drop place (front ++ (six ++ rest)) ≡ six ++ rest = subst (λ (n : ℕ). drop n (front ++ (six ++ rest)) ≡ six ++ rest) is (drop-append_seam front (six ++ rest)) in
    let before : take place (front ++ (six ++ rest)) ≡ front = subst (λ (n : ℕ). take n (front ++ (six ++ rest)) ≡ front) is (take-append_seam front (six ++ rest)) in
    let there : take 6 (six ++ rest) ≡ six = subst (λ (n : ℕ). take n (six ++ rest) ≡ six) these (take-append_seam six rest) in
    let last : drop 6 (six ++ rest) ≡ rest = subst (λ (n : ℕ). drop n (six ++ rest) ≡ rest) these (drop-append_seam six rest) in
    rw (before, behind, there, last) refl

module _ (place : ℕ) (own octets : List ℕ) (six : length own ≡ 6) (fits : place + 6 ≤ length octets) where
  abbrev there : List ℕ
  there = take 6 (drop place octets)

  abbrev behind : List ℕ
  behind = drop 6 (drop place octets)

  front_length : length (take place octets) ≡ place
  front_length = length-take-le place octets (omega (arith, fits))

  there_length : length there ≡ 6
  there_length = length-take-le 6 (drop place octets) (let e : length (drop place octets) ≡ length octets - place = length-drop place octets in omega (arith, e, fits))

  -- exchanged once more it is as before
  pub at_twice : exchanged_at place own (exchanged_at place own octets) ≡ octets
  at_twice =
      three_parts place own (take place octets) (exchanged own there) behind front_length (exchanged_length own there six there_length)
      ∙ ap (λ (xs : List ℕ). take place octets ++ (xs ++ behind)) (exchanged_twice own there)
      ∙ ap (λ (xs : List ℕ). take place octets ++ xs) (take-append-drop 6 (drop place octets))
      ∙ take-append-drop place octets

  pub at_length : length (exchanged_at place own octets) ≡ length octets
  at_length =
      let whole : length (take place octets ++ (exchanged own there ++ behind)) ≡ length (take place octets) + length (exchanged own there ++ behind) = length-append (take place octets) (exchanged own there ++ behind) in
      let last : length (exchanged own there ++ behind) ≡ length (exchanged own there) + length behind = length-append (exchanged own there) behind in
      let these : length (exchanged own there) ≡ 6 = exchanged_length own there six there_length in
      let rest : length behind ≡ length (drop place octets) - 6 = length-drop 6 (drop place octets) in
      let left : length (drop place octets) ≡ length octets - place = length-drop place octets in
      omega (arith, whole, last, these, rest, left, front_length, fits)

  pub at_front : 4 ≤ place → take 4 (exchanged_at place own octets) ≡ take 4 octets
  at_front four =
      take-append-le 4 (take place octets) (exchanged own there ++ behind) (omega (arith, fits, four, front_length))
      ∙ sym (take-append-le 4 (take place octets) (drop place octets) (omega (arith, fits, four, front_length)))
      ∙ ap (take 4) (take-append-drop place octets)

-- ---- the place stays

same_place : (octets others : List ℕ) → length others ≡ length octets → take 4 others ≡ take 4 octets → place_in others ≡ place_in octets
same_place octets others long front = rw (long, front) refl

-- which place was found
which : (a b : Bool) (place : ℕ) → (if a then Some 10 else (if b then Some 8 else None)) ≡ Some place → ((a ≡ true) × (place ≡ 10)) ⊎ ((b ≡ true) × (place ≡ 8))
which true b place e = inl (refl, cc)
which false true place e = inr (refl, cc)
which false false place e = cc

-- it has room, and header and service stand before it
record IsPlace (place : ℕ) (octets : List ℕ) : Type 0 where
  fits : place + 6 ≤ length octets
  most : length octets ≤ 300
  behind : 4 ≤ place

is_place_from : (front : List ℕ) (place other : ℕ) (octets : List ℕ) → 4 ≤ other → has_place front other octets ≡ true → place ≡ other → IsPlace place octets
is_place_from front place other octets four has same =
    let whole = and_parts _ _ has in
    let sizes = and_parts _ _ whole.0 in
    record {
      fits = rw same (leb-true (other + 6) (length octets) sizes.0);
      most = leb-true (length octets) 300 sizes.1;
      behind = rw same four;
    }

is_place_of : (place : ℕ) (octets : List ℕ) → ((has_place connect_response 10 octets ≡ true) × (place ≡ 10)) ⊎ ((has_place search_response 8 octets ≡ true) × (place ≡ 8)) → IsPlace place octets
is_place_of place octets (inl h) = is_place_from connect_response place 10 octets (omega arith) h.0 h.1
is_place_of place octets (inr h) = is_place_from search_response place 8 octets (omega arith) h.0 h.1

is_place : (place : ℕ) (octets : List ℕ) → place_in octets ≡ Some place → IsPlace place octets
is_place place octets e = is_place_of place octets (which (has_place connect_response 10 octets) (has_place search_response 8 octets) place e)

-- for a caller that has found it
pub place_fits : (place : ℕ) (octets : List ℕ) → place_in octets ≡ Some place → place + 6 ≤ length octets
place_fits place octets e = (is_place place octets e).fits

pub place_most : (place : ℕ) (octets : List ℕ) → place_in octets ≡ Some place → length octets ≤ 300
place_most place octets e = (is_place place octets e).most

-- ---- named twice is as before

where_twice : (own octets : List ℕ) (o : Option ℕ) → length own ≡ 6 → place_in octets ≡ o → named own (named_where o own octets) ≡ octets
where_twice own octets None six e = rw e refl
where_twice own octets (Some place) six e =
    let is : IsPlace place octets = is_place place octets e in
    let stays : place_in (exchanged_at place own octets) ≡ Some place =
    same_place octets (exchanged_at place own octets) (at_length place own octets six is.fits) (at_front place own octets six is.fits is.behind) ∙ e in
    ap (λ (p : Option ℕ). named_where p own (exchanged_at place own octets)) stays ∙ at_twice place own octets six is.fits

named_twice : (own octets : List ℕ) → length own ≡ 6 → named own (named own octets) ≡ octets
named_twice own octets six = where_twice own octets (place_in octets) six refl

-- ---- the record of the port below, as it is shown

adds_named : (own : List ℕ) (item : PortItem) (before after : PortStory) → Adds item before after → Adds (named_item own item) (named_story own before) (named_story own after)
adds_named own item before Untold h = ap (named_story own) h
adds_named own item before (Recorded items) h = (map (named_item own) h.0, ap (named_story own) h.1, ap (map (named_item own)) h.2)

pub took_named : (own : List ℕ) (from : ℕ) (octets : List ℕ) (before after : PortStory) → Adds (Took from octets) before after → Adds (Took from octets) (named_story own before) (named_story own after)
took_named own from octets before after h = adds_named own (Took from octets) before after h

pub quiet_named : (own : List ℕ) (ms : ℕ) (before after : PortStory) → Adds (Quiet ms) before after → Adds (Quiet ms) (named_story own before) (named_story own after)
quiet_named own ms before after h = adds_named own (Quiet ms) before after h

pub gave_named : (own : List ℕ) (to : ℕ) (octets : List ℕ) (before after : PortStory) → length own ≡ 6 → Adds (Gave to (named own octets)) before after → Adds (Gave to octets) (named_story own before) (named_story own after)
gave_named own to octets before after six h =
    subst (λ (xs : List ℕ). Adds (Gave to xs) (named_story own before) (named_story own after)) (named_twice own octets six) (adds_named own (Gave to (named own octets)) before after h)

pub gave_or_not_named : (own : List ℕ) (to : ℕ) (octets : List ℕ) (before after : PortStory) → length own ≡ 6 → GivesOrNot to (named own octets) before after → GivesOrNot to octets (named_story own before) (named_story own after)
gave_or_not_named own to octets before after six (inl h) = inl (gave_named own to octets before after six h)
gave_or_not_named own to octets before after six (inr h) = inr (ap (named_story own) h)

-- the answers of a giving
pub given_named : {T E : Type 0} (r : Result T E) (own : List ℕ) (to : ℕ) (octets : List ℕ) (before after : PortStory) → length own ≡ 6 → OnOk r (Adds (Gave to (named own octets)) before after)
    → OnOk r (Adds (Gave to octets) (named_story own before) (named_story own after))
given_named (Ok x) own to octets before after six h = gave_named own to octets before after six h
given_named (Err e) own to octets before after six h = h

pub not_given_named : {T E : Type 0} (r : Result T E) (own : List ℕ) (to : ℕ) (octets : List ℕ) (before after : PortStory) → length own ≡ 6 → OnErr r (GivesOrNot to (named own octets) before after)
    → OnErr r (GivesOrNot to octets (named_story own before) (named_story own after))
not_given_named (Ok x) own to octets before after six h = h
not_given_named (Err e) own to octets before after six h = gave_or_not_named own to octets before after six h
