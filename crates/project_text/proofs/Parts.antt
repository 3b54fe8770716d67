-- A text that is cut behind a line feed has the lines of its parts, and reads as they do.
use Rattle.std.proofs.Common.{◌≡◌, ℕ, suc, ◌+◌, ◌<◌, Bool, true, false, cond, List, [], ◌∷◌, ◌++◌, length, get_or, take, drop, drop-cons, eqb-true, map, Option, Some, None, Result, Ok, Err, refl, sym, ap, ◌∙◌, arith}
use Rattle.std.specs.Prelude.{◌==◌, slice_index}
use Rattle.std.specs.List.{slice_split, onto_first, count_by, enumerate_from}
use Rattle.std.specs.Option.{option_to_list}
use Rattle.std.specs.Str.Lines.{lines, lines_of_parts, strip_carriage_return}
use Rattle.std.proofs.Math.Seq.{take-suc}
use Rattle.std.proofs.lemmas.List.{append-nil, length-map, take-append-drop, get_or-take, length-take}
use Rattle.std.proofs.lemmas.List.Elements.{filter_map-append}
use Rattle.std.proofs.lemmas.List.Splits.{length-slice_split}
use Rattle.std.proofs.lemmas.List.Sums.{sum_by-append}
use Rattle.knx_model.specs.declared.refusal.Refused.{Refused}
use Rattle.knx_model.specs.declared.refusal.Why.{Why}
use Rattle.knx_model.specs.LeastLine.{first_refusal_or, refused_from, said_from, said_in_line}
use Rattle.knx_model.specs.Words.{is_feed}

-- ---- the lines of a text that is cut

split_step : (x : ℕ) (b : Bool) (parts more : List (List ℕ)) → 0 < length parts → cond b ([] ∷ (parts ++ more)) (onto_first x (parts ++ more)) ≡ cond b ([] ∷ parts) (onto_first x parts) ++ more
split_step x b [] more some = absurd (omega arith)
split_step x true (part ∷ parts) more some = refl
split_step x false (part ∷ parts) more some = refl

split_behind : (xs ys : List ℕ) → slice_split is_feed (xs ++ 10 ∷ ys) ≡ slice_split is_feed xs ++ slice_split is_feed ys
split_behind [] ys = refl
split_behind (x ∷ xs) ys = rw (split_behind xs ys) (split_step x (is_feed x) (slice_split is_feed xs) (slice_split is_feed ys) (omega (arith, length-slice_split is_feed xs)))

lines_then : (parts more : List (List ℕ)) → 0 < length more → lines_of_parts (parts ++ more) ≡ map strip_carriage_return parts ++ lines_of_parts more
lines_then [] more some = refl
lines_then (x ∷ []) [] some = absurd (omega arith)
lines_then (x ∷ []) (y ∷ more) some = refl
lines_then (x ∷ z ∷ parts) more some = ap (λ (ls : List (List ℕ)). strip_carriage_return x ∷ ls) (lines_then (z ∷ parts) more some)

lines_behind : (xs ys : List ℕ) → lines (xs ++ 10 ∷ ys) ≡ map strip_carriage_return (slice_split is_feed xs) ++ lines ys
lines_behind xs ys = ap lines_of_parts (split_behind xs ys) ∙ lines_then (slice_split is_feed xs) (slice_split is_feed ys) (omega (arith, length-slice_split is_feed ys))

lines_to : (xs : List ℕ) → lines (xs ++ 10 ∷ []) ≡ map strip_carriage_return (slice_split is_feed xs)
lines_to xs = lines_behind xs [] ∙ append-nil (map strip_carriage_return (slice_split is_feed xs))

-- a text has the lines up to a line feed, and those behind it
lines_cut : (xs ys : List ℕ) → lines (xs ++ 10 ∷ ys) ≡ lines (xs ++ 10 ∷ []) ++ lines ys
lines_cut xs ys = lines_behind xs ys ∙ ap (λ (ls : List (List ℕ)). ls ++ lines ys) (sym (lines_to xs))

-- up to a line feed there are as many lines as line feeds
lines_counted : (xs : List ℕ) → length (lines (xs ++ 10 ∷ [])) ≡ count_by is_feed (xs ++ 10 ∷ [])
lines_counted xs =
    ap length (lines_to xs) ∙ length-map (slice_split is_feed xs) strip_carriage_return ∙ length-slice_split is_feed xs ∙ sym (sum_by-append (λ b. cond (is_feed b) 1 0) xs (10 ∷ []))

-- the place of a line feed cuts a text
feed_there : (octets : List ℕ) (at : ℕ) → at < length octets → (slice_index octets at == 10) ≡ true → octets ≡ take at octets ++ 10 ∷ drop (at + 1) octets
feed_there octets at lt feed =
    let is : get_or octets at 0 ≡ 10 = eqb-true _ _ feed in
    let next : suc at ≡ at + 1 = omega arith in
    sym (take-append-drop at octets) ∙ ap (λ (xs : List ℕ). take at octets ++ xs) (drop-cons octets at 0 lt ∙ ap (λ (x : ℕ). x ∷ drop (suc at) octets) is ∙ ap (λ (k : ℕ). 10 ∷ drop k octets) next)

to_feed : (octets : List ℕ) (at : ℕ) → at < length octets → (slice_index octets at == 10) ≡ true → take (at + 1) octets ≡ take at octets ++ 10 ∷ []
to_feed octets at lt feed =
    let is : get_or octets at 0 ≡ 10 = eqb-true _ _ feed in
    let next : at + 1 ≡ suc at = omega arith in
    ap (λ (k : ℕ). take k octets) next ∙ take-suc octets at 0 lt ∙ ap (λ (x : ℕ). take at octets ++ x ∷ []) is

-- a line feed of the first octets
in_front : (octets : List ℕ) (most at : ℕ) → at < length (take most octets) → (slice_index (take most octets) at == 10) ≡ true → (at < length octets) × ((slice_index octets at == 10) ≡ true)
in_front octets most at lt feed =
    let long = length-take most octets in
    let below : at < most = grind (arith, lt, long) in
    (grind (arith, lt, long), ap (λ (x : ℕ). x == 10) (sym (get_or-take most octets at 0 below)) ∙ feed)

pub lines_of_halves : (octets : List ℕ) (most at : ℕ) → at < length (take most octets) → (slice_index (take most octets) at == 10) ≡ true → lines octets ≡ lines (take (at + 1) octets) ++ lines (drop (at + 1) octets)
lines_of_halves octets most at within there =
    let lt = (in_front octets most at within there).0 in
    let feed = (in_front octets most at within there).1 in
    ap lines (feed_there octets at lt feed) ∙ lines_cut (take at octets) (drop (at + 1) octets) ∙ ap (λ (xs : List ℕ). lines xs ++ lines (drop (at + 1) octets)) (sym (to_feed octets at lt feed))

pub feeds_of_half : (octets : List ℕ) (most at : ℕ) → at < length (take most octets) → (slice_index (take most octets) at == 10) ≡ true → length (lines (take (at + 1) octets)) ≡ count_by is_feed (take (at + 1) octets)
feeds_of_half octets most at within there =
    let lt = (in_front octets most at within there).0 in
    let feed = (in_front octets most at within there).1 in
    ap (λ (xs : List ℕ). length (lines xs)) (to_feed octets at lt feed) ∙ lines_counted (take at octets) ∙ ap (λ (xs : List ℕ). count_by is_feed xs) (sym (to_feed octets at lt feed))

-- ---- what lines say, and those behind them

enumerated : (n : ℕ) (ls more : List (List ℕ)) → enumerate_from n (ls ++ more) ≡ enumerate_from n ls ++ enumerate_from (n + length ls) more
enumerated n [] more = ap (λ (k : ℕ). enumerate_from k more) (omega arith)
enumerated n (l ∷ ls) more =
    let next : n + 1 + length ls ≡ n + length (l ∷ ls) = omega arith in
    ap (λ (ps : List (ℕ × List ℕ)). (n, l) ∷ ps) (enumerated (n + 1) ls more ∙ ap (λ (k : ℕ). enumerate_from (n + 1) ls ++ enumerate_from k more) next)

both_said : {S : Type 0} (rs qs : List Refused) (said later ss more : List S) → first_refusal_or rs said ≡ Ok ss → first_refusal_or qs later ≡ Ok more → first_refusal_or (rs ++ qs) (said ++ later) ≡ Ok (ss ++ more)
both_said [] [] said later ss more e f =
    let front : said ≡ ss = cc in
    let back : later ≡ more = cc in
    rw (front, back) refl
both_said [] (q ∷ qs) said later ss more e f = absurd cc
both_said (r ∷ rs) qs said later ss more e f = absurd cc

first_refused : {S : Type 0} (rs qs : List Refused) (said later : List S) (r : Refused) → first_refusal_or rs said ≡ Err r → first_refusal_or (rs ++ qs) (said ++ later) ≡ Err r
first_refused [] qs said later r e = absurd cc
first_refused (q ∷ rs) qs said later r e = e

later_refused : {S : Type 0} (rs qs : List Refused) (said later ss : List S) (r : Refused) → first_refusal_or rs said ≡ Ok ss → first_refusal_or qs later ≡ Err r → first_refusal_or (rs ++ qs) (said ++ later) ≡ Err r
later_refused [] [] said later ss r e f = absurd cc
later_refused [] (q ∷ qs) said later ss r e f = f
later_refused (p ∷ rs) qs said later ss r e f = absurd cc

module _ {W S : Type 0} (numbered : ℕ → W → S) (says : ℕ → List ℕ → Result (Option W) Why) where
  -- what lines read as that are numbered from n
  abbrev pub say : ℕ → List (List ℕ) → Result (List S) Refused
  say n ls = first_refusal_or (refused_from says n ls) (said_from numbered says n ls)

  said_then : (n : ℕ) (ls more : List (List ℕ)) → said_from numbered says n (ls ++ more) ≡ said_from numbered says n ls ++ said_from numbered says (n + length ls) more
  unfolding said_from
  said_then n ls more = rw (enumerated n ls more) (filter_map-append _ (enumerate_from n ls) (enumerate_from (n + length ls) more))

  refused_then : (n : ℕ) (ls more : List (List ℕ)) → refused_from says n (ls ++ more) ≡ refused_from says n ls ++ refused_from says (n + length ls) more
  unfolding refused_from
  refused_then n ls more = rw (enumerated n ls more) (filter_map-append _ (enumerate_from n ls) (enumerate_from (n + length ls) more))

  -- where neither part is refused, the text says what both say
  pub say_both : (n : ℕ) (ls more : List (List ℕ)) (ss later : List S) → say n ls ≡ Ok ss → say (n + length ls) more ≡ Ok later → say n (ls ++ more) ≡ Ok (ss ++ later)
  say_both n ls more ss later e f = rw (said_then n ls more, refused_then n ls more) (both_said _ _ _ _ ss later e f)

  -- the first refusal of the first part is that of the whole
  pub refused_first : (n : ℕ) (ls more : List (List ℕ)) (r : Refused) → say n ls ≡ Err r → say n (ls ++ more) ≡ Err r
  refused_first n ls more r e = rw (said_then n ls more, refused_then n ls more) (first_refused _ _ _ _ r e)

  -- and where it has none, that of the second
  pub refused_later : (n : ℕ) (ls more : List (List ℕ)) (ss : List S) (r : Refused) → say n ls ≡ Ok ss → say (n + length ls) more ≡ Err r → say n (ls ++ more) ≡ Err r
  refused_later n ls more ss r e f = rw (said_then n ls more, refused_then n ls more) (later_refused _ _ _ _ ss r e f)

  -- a line alone
  pub one_says : (n : ℕ) (text : List ℕ) (said : Option W) → says n text ≡ Ok said → say n (text ∷ []) ≡ Ok (option_to_list (said_in_line numbered n (Ok said)))
  unfolding said_from refused_from
  one_says n text None e = rw e refl
  one_says n text (Some what) e = rw e refl

  pub one_refused : (n : ℕ) (text : List ℕ) (why : Why) → says n text ≡ Err why → say n (text ∷ []) ≡ Err (record { line = n; why = why })
  unfolding said_from refused_from
  one_refused n text why e = rw e refl
