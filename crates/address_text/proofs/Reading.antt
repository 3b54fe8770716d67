-- A text of units is read one line after another.
use Rattle.std.proofs.Common.{◌≡◌, ℕ, zero, suc, ◌+◌, ◌<◌, ◌≤◌, Bool, true, false, cond, List, [], ◌∷◌, ◌++◌, length, take, drop, Option, Some, None, Result, Ok, Err, refl, sym, ap, ◌∙◌, subst, arith}
use Rattle.std.specs.Prelude.{nat_lt, sum_by, ◌&&◌, if◌then◌else◌}
use Rattle.std.specs.Option.{option_to_list}
use Rattle.std.specs.Str.Lines.{lines}
use Rattle.std.proofs.lemmas.Bool.{lt-ltb, le-ltb}
use Rattle.std.proofs.lemmas.List.{length-append}
use Rattle.std.proofs.lemmas.List.Elements.{filter_map-append}
use Rattle.std.proofs.lemmas.List.Sums.{sum_by-append}
use Rattle.knx_model.specs.declared.refusal.Refused.{Refused}
use Rattle.knx_model.specs.declared.refusal.Why.{Why}
use Rattle.knx_model.specs.declared.refusal.Why.TheVariants.{TooMany}
use Rattle.knx_model.specs.Answers.{◌>>=◌}
use Rattle.knx_model.specs.LeastLine.{said_in_line, text_reading}
use Rattle.knx_model.proofs.LeastLine.{ReadsOn, goes_on, is_refused, all_read, too_long}
use Rattle.address_world.specs.declared.unit.Unit.{Unit as BusUnit}
use Rattle.address_world.specs.declared.unit.UnitLoss.{UnitLoss}
use Rattle.address_text.specs.declared.line.UnitLine.{UnitLine}
use Rattle.address_text.specs.declared.line.UnitLine.TheVariants.{OfUnit, OfLoss}
use Rattle.address_text.specs.UnitText.{unit_line, unit_line_says, units_say, unit_reading, units_in, losses_in, units_up_to, says_unit, is_unit, has_room, unit_of, loss_of}

-- ---- how many units there are

taken_one : (ls : List (List ℕ)) (at : ℕ) (text : List ℕ) (more : List (List ℕ)) → drop at ls ≡ text ∷ more → take (suc at) ls ≡ take at ls ++ text ∷ []
taken_one [] zero text more e = cc
taken_one [] (suc at) text more e = cc
taken_one (l ∷ ls) zero text more e =
    let same : l ≡ text = cc in
    ap (λ (x : List ℕ). x ∷ []) same
taken_one (l ∷ ls) (suc at) text more e = ap (λ (xs : List (List ℕ)). l ∷ xs) (taken_one ls at text more e)

counted_one : (ls : List (List ℕ)) (at : ℕ) (text : List ℕ) (more : List (List ℕ)) → drop at ls ≡ text ∷ more → units_up_to (suc at) ls ≡ units_up_to at ls + cond (says_unit (unit_line_says text)) 1 0
counted_one ls at text more e =
    let all : units_up_to (suc at) ls ≡ sum_by (λ line. cond (says_unit (unit_line_says line)) 1 0) (take at ls ++ text ∷ []) = ap (sum_by (λ line. cond (says_unit (unit_line_says line)) 1 0)) (taken_one ls at text more e) in
    let both : units_up_to (suc at) ls ≡ units_up_to at ls + (0 + cond (says_unit (unit_line_says text)) 1 0) = all ∙ sum_by-append (λ line. cond (says_unit (unit_line_says line)) 1 0) (take at ls) (text ∷ []) in
    omega (arith, both)

dropped_one : (ls : List (List ℕ)) (at : ℕ) (text : List ℕ) (more : List (List ℕ)) → drop at ls ≡ text ∷ more → drop (suc at) ls ≡ more
dropped_one [] zero text more e = cc
dropped_one [] (suc at) text more e = cc
dropped_one (l ∷ ls) zero text more e = cc
dropped_one (l ∷ ls) (suc at) text more e = dropped_one ls at text more e

units_more : (said : Option UnitLine) → length (units_in (option_to_list said)) ≡ cond (is_unit said) 1 0
units_more None = refl
units_more (Some (OfUnit unit)) = refl
units_more (Some (OfLoss loss)) = refl

-- ---- the lines so far

-- units and losses so far are what the text says before line n
pub record Reads (octets : List ℕ) (units : List BusUnit) (losses : List UnitLoss) (n : ℕ) (rest : List ℕ) : Type 0 where
  pub said : List UnitLine
  pub on : ReadsOn unit_line (units_say (lines octets)) octets said n rest
  pub units_so : units ≡ units_in said
  pub losses_so : losses ≡ losses_in said
  pub at : ℕ
  pub number : n ≡ suc at
  pub left : drop at (lines octets) ≡ lines rest
  pub counted : units_up_to at (lines octets) ≡ length units
  pub few : length units ≤ 255

room_for : (n : ℕ) (said : Option UnitLine) → (is_unit said ≡ true → n ≤ 255) → has_room n said ≡ Ok said
room_for n None h = refl
room_for n (Some (OfLoss loss)) h = refl
room_for n (Some (OfUnit unit)) h = let few : nat_lt 255 n ≡ false = le-ltb 255 n (h refl) in rw few refl

no_room : (n : ℕ) (said : Option UnitLine) → is_unit said ≡ true → 255 < n → has_room n said ≡ Err (TooMany 255)
no_room n None e h = cc
no_room n (Some (OfLoss loss)) e h = cc
no_room n (Some (OfUnit unit)) e h = let many : nat_lt 255 n ≡ true = lt-ltb 255 n h in rw many refl

says_so : (ls : List (List ℕ)) (n : ℕ) (text : List ℕ) (said : Option UnitLine) (r : Result (Option UnitLine) Why) → unit_line_says text ≡ Ok said → has_room (units_up_to n ls) said ≡ r → units_say ls n text ≡ r
unfolding units_say
says_so ls n text said r e h = rw e h

says_not : (ls : List (List ℕ)) (n : ℕ) (text : List ℕ) (why : Why) → unit_line_says text ≡ Err why → units_say ls n text ≡ Err why
unfolding units_say
says_not ls n text why e = rw e refl

same_said : (n : ℕ) (said : Option UnitLine) → said_in_line unit_line n (Ok said) ≡ said
same_said n None = refl
same_said n (Some what) = refl

count_with : (octets rest text after : List ℕ) (units : List BusUnit) (losses : List UnitLoss) (n : ℕ) (said : Option UnitLine) → (reads : Reads octets units losses n rest) → lines rest ≡ text ∷ lines after
    → unit_line_says text ≡ Ok said → units_up_to n (lines octets) ≡ length units + cond (is_unit said) 1 0
count_with octets rest text after units losses n said reads first e =
    let one : units_up_to (suc reads.at) (lines octets) ≡ units_up_to reads.at (lines octets) + cond (says_unit (unit_line_says text)) 1 0 = counted_one (lines octets) reads.at text (lines after) (reads.left ∙ first) in
    subst (λ (k : ℕ). units_up_to k (lines octets) ≡ length units + cond (is_unit said) 1 0) (sym reads.number)
    (one ∙ ap (λ (k : ℕ). k + cond (says_unit (unit_line_says text)) 1 0) reads.counted ∙ ap (λ (r : Result (Option UnitLine) Why). length units + cond (says_unit r) 1 0) e)

pub one_more : (octets rest text after : List ℕ) (units units' : List BusUnit) (losses losses' : List UnitLoss) (n : ℕ) (said : Option UnitLine) → Reads octets units losses n rest → lines rest ≡ text ∷ lines after
    → length after < length rest → unit_line_says text ≡ Ok said → units' ≡ units ++ units_in (option_to_list said) → losses' ≡ losses ++ losses_in (option_to_list said) → (is_unit said ≡ true → length units < 255)
    → Reads octets units' losses' (n + 1) after
one_more octets rest text after units units' losses losses' n said reads first less e more lost room =
    let count : units_up_to n (lines octets) ≡ length units + cond (is_unit said) 1 0 = count_with octets rest text after units losses n said reads first e in
    let fits : (is_unit said ≡ true → units_up_to n (lines octets) ≤ 255) = λ is. within (is_unit said) is count (room is) in
    let says : units_say (lines octets) n text ≡ Ok said = says_so (lines octets) n text said (Ok said) e (room_for (units_up_to n (lines octets)) said fits) in
    let now : length units' ≡ length units + cond (is_unit said) 1 0 = ap length more ∙ length-append units (units_in (option_to_list said)) ∙ ap (λ (k : ℕ). length units + k) (units_more said) in
    record {
      said = reads.said ++ option_to_list said;
      on = subst (λ (o : Option UnitLine). ReadsOn unit_line (units_say (lines octets)) octets (reads.said ++ option_to_list o) (n + 1) after) (same_said n said)
          (goes_on unit_line (units_say (lines octets)) octets rest text after reads.said n said reads.on first less says);
      units_so = more ∙ ap (λ (us : List BusUnit). us ++ units_in (option_to_list said)) reads.units_so ∙ sym (filter_map-append unit_of reads.said (option_to_list said));
      losses_so = lost ∙ ap (λ (ls : List UnitLoss). ls ++ losses_in (option_to_list said)) reads.losses_so ∙ sym (filter_map-append loss_of reads.said (option_to_list said));
      at = n;
      number = omega arith;
      left = subst (λ (k : ℕ). drop k (lines octets) ≡ lines after) (sym reads.number) (dropped_one (lines octets) reads.at text (lines after) (reads.left ∙ first));
      counted = count ∙ sym now;
      few = still (is_unit said) refl now;
    }
  where
    within : (b : Bool) → b ≡ true → units_up_to n (lines octets) ≡ length units + cond b 1 0 → length units < 255 → units_up_to n (lines octets) ≤ 255
    within true is count room = omega (arith, count, room)
    within false is count room = absurd (cc)

    still : (b : Bool) → is_unit said ≡ b → length units' ≡ length units + cond b 1 0 → length units' ≤ 255
    still true is now = omega (arith, now, room is)
    still false is now = omega (arith, now, reads.few)

pub refused : (octets rest text after : List ℕ) (units : List BusUnit) (losses : List UnitLoss) (n : ℕ) (why : Why) → Reads octets units losses n rest → lines rest ≡ text ∷ lines after → unit_line_says text ≡ Err why
    → unit_reading octets ≡ Err (record { line = n; why = why })
refused octets rest text after units losses n why reads first e =
    ap (λ (r : Result (List UnitLine) Refused). r >>= λ said. Ok (units_in said, losses_in said))
    (is_refused unit_line (units_say (lines octets)) octets rest text after reads.said n why reads.on first (says_not (lines octets) n text why e))

pub too_many : (octets rest text after : List ℕ) (units : List BusUnit) (losses : List UnitLoss) (n : ℕ) (said : Option UnitLine) → Reads octets units losses n rest → lines rest ≡ text ∷ lines after → unit_line_says text ≡ Ok said
    → is_unit said ≡ true → 255 ≤ length units → unit_reading octets ≡ Err (record { line = n; why = TooMany 255 })
too_many octets rest text after units losses n said reads first e is many =
    let count : units_up_to n (lines octets) ≡ length units + cond (is_unit said) 1 0 = count_with octets rest text after units losses n said reads first e in
    let beyond : 255 < units_up_to n (lines octets) = omega (arith, count ∙ ap (λ (b : Bool). length units + cond b 1 0) is, many) in
    ap (λ (r : Result (List UnitLine) Refused). r >>= λ said. Ok (units_in said, losses_in said))
    (is_refused unit_line (units_say (lines octets)) octets rest text after reads.said n (TooMany 255) reads.on first (says_so (lines octets) n text said (Err (TooMany 255)) e (no_room (units_up_to n (lines octets)) said is beyond)))

pub whole : (octets rest : List ℕ) (units : List BusUnit) (losses : List UnitLoss) (n : ℕ) → Reads octets units losses n rest → lines rest ≡ [] → unit_reading octets ≡ Ok (units, losses)
whole octets rest units losses n reads none =
    let all : text_reading unit_line (units_say (lines octets)) octets ≡ Ok reads.said = all_read unit_line (units_say (lines octets)) octets rest reads.said n reads.on none in
    ap (λ (r : Result (List UnitLine) Refused). r >>= λ said. Ok (units_in said, losses_in said)) all
    ∙ ap (λ (us : List BusUnit). Ok (us, losses_in reads.said)) (sym reads.units_so) ∙ ap (λ (ls : List UnitLoss). Ok (units, ls)) (sym reads.losses_so)

pub begins : (octets : List ℕ) (units : List BusUnit) (losses : List UnitLoss) → length octets ≤ 4194304 → units ≡ [] → losses ≡ [] → Reads octets units losses 1 octets
begins octets units losses short no_units no_losses = record {
  said = [];
  on = record { said = refl; refused = refl; counted = omega arith; short = short };
  units_so = no_units;
  losses_so = no_losses;
  at = 0;
  number = refl;
  left = refl;
  counted = sym (ap length no_units);
  few = let none : length units ≡ 0 = ap length no_units in omega (arith, none);
}

pub longer : (octets : List ℕ) → 4194304 < length octets → unit_reading octets ≡ Err (record { line = 0; why = TooMany 4194304 })
longer octets many = ap (λ (r : Result (List UnitLine) Refused). r >>= λ said. Ok (units_in said, losses_in said)) (too_long unit_line (units_say (lines octets)) octets many)
