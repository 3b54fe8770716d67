-- What is counted after one event more.
use Rattle.std.proofs.Common.{◌≡◌, ◌≢◌, ℕ, suc, ◌+◌, ◌^◌, ◌/◌, ◌%◌, ◌<◌, ◌≤◌, ◌==◌, Bool, true, false, is_some, List, [], ◌∷◌, length, Option, Some, None, refl, ap, sym, subst, ◌∙◌, arith, if◌then◌else◌}
use Rattle.std.specs.Prelude.{slice_set}
use Rattle.std.proofs.lemmas.List.{get_or-set_same, get_or-set_other}
use Rattle.knx_model.specs.DeviceState.{DeviceState}
use Rattle.line_model.specs.Counts.{count, goes_to, comes_from, takes_one, takes_alone, writes_one, write_of, connect_reaches}
use Rattle.line_model.specs.StartOf.{line_of}
use Rattle.line_model.specs.World.{World, Event, replay}
use Rattle.bus_sim.specs.declared.counts.DeviceCounts.{DeviceCounts}
use Rattle.bus_sim.specs.declared.counts.Met.{Met}
use Rattle.bus_sim.specs.Counted.{CountsNow, AreCounts, added, and_if, and_met, connected, counts_at, counts_in, counts_of, none_counted}

-- ---- no more than the events

pub count_few : (test : World → Event → Bool) (start : World) (es : List Event) → count test start es ≤ length es
count_few test start [] = omega arith
count_few test start (e ∷ es) = by_test (test (replay start es) e) (count_few test start es)
  where
    by_test : (t : Bool) → count test start es ≤ length es → (if t then suc (count test start es) else count test start es) ≤ suc (length es)
    by_test true h = omega arith
    by_test false h = omega arith

-- ---- an event that nothing counts

pub record Uncounts (w : World) (e : Event) : Type 0 where
  pub to : (a : ℕ) → goes_to a w e ≡ false
  pub from : (a : ℕ) → comes_from a w e ≡ false
  pub taken : (a : ℕ) → takes_one a w e ≡ false
  pub wrote : (a : ℕ) → writes_one a w e ≡ false
  pub connect : connect_reaches w e ≡ false

pub takes_nothing : (o : Option DeviceState) → takes_alone o None ≡ false
takes_nothing None = refl
takes_nothing (Some d) = refl

pub writes_nothing : (o : Option DeviceState) → is_some (write_of o None) ≡ false
writes_nothing None = refl
writes_nothing (Some d) = refl

pub uncounted : (n : CountsNow) (start : World) (es : List Event) (e : Event) → Uncounts (replay start es) e → AreCounts n start es → AreCounts n start (e ∷ es)
uncounted n start es e none are = record {
  devices = λ a on. are.devices a on ∙ same (goes_to a w e) (comes_from a w e) (takes_one a w e) (writes_one a w e) (counts_of start es a) (none.to a) (none.from a) (none.taken a) (none.wrote a);
  connects = are.connects ∙ sym (ap (λ t. if t then suc (count connect_reaches start es) else count connect_reaches start es) none.connect);
}
  where
    w : World
    w = replay start es

    same : (s t u v : Bool) (c : DeviceCounts) → s ≡ false → t ≡ false → u ≡ false → v ≡ false
        → c ≡ record { to = if s then suc c.to else c.to; from = if t then suc c.from else c.from; taken = if u then suc c.taken else c.taken; writes = if v then suc c.writes else c.writes }
    same false false false false c es et eu ev = refl
    same true t u v c es et eu ev = cc
    same false true u v c es et eu ev = cc
    same false false true v c es et eu ev = cc
    same false false false true c es et eu ev = cc

-- ---- an event that is so much of one device

pub record Counts (w : World) (e : Event) (address : ℕ) (met : Met) : Type 0 where
  pub to : (a : ℕ) → goes_to a w e ≡ (if a == address then met.to else false)
  pub from : (a : ℕ) → comes_from a w e ≡ (if a == address then met.from else false)
  pub taken : (a : ℕ) → takes_one a w e ≡ (if a == address then met.taken else false)
  pub wrote : (a : ℕ) → writes_one a w e ≡ (if a == address then met.wrote else false)
  pub connect : connect_reaches w e ≡ false

one_more : (t : Bool) (n : ℕ) → n < 2 ^ 63 → and_if t n ≡ (if t then suc n else n)
one_more true n few = omega arith
one_more false n few = omega arith

-- the counts of one device
here : (m : Met) (s t u v : Bool) (c : DeviceCounts) → s ≡ m.to → t ≡ m.from → u ≡ m.taken → v ≡ m.wrote → c.to < 2 ^ 63 → c.from < 2 ^ 63 → c.taken < 2 ^ 63 → c.writes < 2 ^ 63
    → and_met m c ≡ record { to = if s then suc c.to else c.to; from = if t then suc c.from else c.from; taken = if u then suc c.taken else c.taken; writes = if v then suc c.writes else c.writes }
here m s t u v c es et eu ev a b d f =
    let to = one_more m.to c.to a ∙ ap (λ x. if x then suc c.to else c.to) (sym es) in
    let from = one_more m.from c.from b ∙ ap (λ x. if x then suc c.from else c.from) (sym et) in
    let taken = one_more m.taken c.taken d ∙ ap (λ x. if x then suc c.taken else c.taken) (sym eu) in
    let wrote = one_more m.wrote c.writes f ∙ ap (λ x. if x then suc c.writes else c.writes) (sym ev) in
    λ i. record { to = to i; from = from i; taken = taken i; writes = wrote i }

-- those of another
away : (s t u v : Bool) (c : DeviceCounts) → s ≡ false → t ≡ false → u ≡ false → v ≡ false
    → c ≡ record { to = if s then suc c.to else c.to; from = if t then suc c.from else c.from; taken = if u then suc c.taken else c.taken; writes = if v then suc c.writes else c.writes }
away false false false false c es et eu ev = refl
away true t u v c es et eu ev = cc
away false true u v c es et eu ev = cc
away false false true v c es et eu ev = cc
away false false false true c es et eu ev = cc

decide : (P : Type 0) (t : Bool) → (t ≡ true → P) → (t ≡ false → P) → P
decide P true this that = this refl
decide P false this that = that refl

same_number : (a b : ℕ) → (a == b) ≡ true → a ≡ b
same_number a b e = grind arith

other_number : (a b : ℕ) → (a == b) ≡ false → a ≢ b
other_number a b e = grind arith

is_same : (a b : ℕ) → a ≡ b → (a == b) ≡ true
is_same a b e = grind arith

-- two addresses of one line have two device parts
two_parts : (a b line : ℕ) → a / 256 ≡ line → b / 256 ≡ line → a ≢ b → a % 256 ≢ b % 256
two_parts a b line on too other same = other (omega arith)

part_below : (a : ℕ) → a % 256 < 256
part_below a = omega arith

abbrev grown : CountsNow → ℕ → Met → List DeviceCounts
grown n address met = slice_set n.places (address % 256) (and_met met (counts_in n.places (address % 256)))

pub counted : (n : CountsNow) (start : World) (es : List Event) (e : Event) (address : ℕ) (met : Met) → Counts (replay start es) e address met → length n.places ≡ 256 → length es + 1 < 2 ^ 63 → AreCounts n start es
    → AreCounts (added address met n) start (e ∷ es)
counted n start es e address met is size few are = by_line (line_of address == n.line) refl
  where
    w : World
    w = replay start es

    few_to : (a : ℕ) → (counts_of start es a).to < 2 ^ 63
    few_to a = let h = count_few (goes_to a) start es in omega arith

    few_from : (a : ℕ) → (counts_of start es a).from < 2 ^ 63
    few_from a = let h = count_few (comes_from a) start es in omega arith

    few_taken : (a : ℕ) → (counts_of start es a).taken < 2 ^ 63
    few_taken a = let h = count_few (takes_one a) start es in omega arith

    few_writes : (a : ℕ) → (counts_of start es a).writes < 2 ^ 63
    few_writes a = let h = count_few (writes_one a) start es in omega arith

    -- of an address that isn't the event's nothing is counted
    others : (a : ℕ) → (a == address) ≡ false → counts_of start es a ≡ counts_of start (e ∷ es) a
    others a x = away (goes_to a w e) (comes_from a w e) (takes_one a w e) (writes_one a w e) (counts_of start es a)
        (is.to a ∙ ap (λ t. if t then met.to else false) x) (is.from a ∙ ap (λ t. if t then met.from else false) x) (is.taken a ∙ ap (λ t. if t then met.taken else false) x) (is.wrote a ∙ ap (λ t. if t then met.wrote else false) x)

    own : (a : ℕ) → (a == address) ≡ true → and_met met (counts_of start es a) ≡ counts_of start (e ∷ es) a
    own a y = here met (goes_to a w e) (comes_from a w e) (takes_one a w e) (writes_one a w e) (counts_of start es a)
        (is.to a ∙ ap (λ t. if t then met.to else false) y) (is.from a ∙ ap (λ t. if t then met.from else false) y) (is.taken a ∙ ap (λ t. if t then met.taken else false) y) (is.wrote a ∙ ap (λ t. if t then met.wrote else false) y)
        (few_to a) (few_from a) (few_taken a) (few_writes a)

    connects : n.connects ≡ count connect_reaches start (e ∷ es)
    connects = are.connects ∙ sym (ap (λ t. if t then suc (count connect_reaches start es) else count connect_reaches start es) is.connect)

    -- what stands at an address of the line
    at : (a : ℕ) (c : CountsNow) → line_of a ≡ n.line → c.line ≡ n.line → counts_at c a ≡ counts_in c.places (a % 256)
    at a c on line = ap (λ t. if t then counts_in c.places (a % 256) else none_counted) (is_same (line_of a) c.line (on ∙ sym line))

    on_it : line_of address ≡ n.line → (a : ℕ) → line_of a ≡ n.line → counts_in (grown n address met) (a % 256) ≡ counts_of start (e ∷ es) a
    on_it on a too = decide (counts_in (grown n address met) (a % 256) ≡ counts_of start (e ∷ es) a) (a == address)
        (λ y.
        let same : a ≡ address = same_number a address y in
        let within : address % 256 < length n.places = subst (λ k. address % 256 < k) (sym size) (part_below address) in
        let before : counts_in n.places (address % 256) ≡ counts_of start es a = ap (λ k. counts_in n.places (k % 256)) (sym same) ∙ sym (at a n too refl) ∙ are.devices a too in
        ap (λ k. counts_in (grown n address met) (k % 256)) same ∙ get_or-set_same n.places (address % 256) (and_met met (counts_in n.places (address % 256))) none_counted within ∙ ap (and_met met) before ∙ own a y)
        (λ x.
        let parts : a % 256 ≢ address % 256 = two_parts a address n.line too on (other_number a address x) in
        get_or-set_other n.places (address % 256) (a % 256) (and_met met (counts_in n.places (address % 256))) none_counted parts ∙ sym (at a n too refl) ∙ are.devices a too ∙ others a x)

    by_line : (t : Bool) → (line_of address == n.line) ≡ t → AreCounts (added address met n) start (e ∷ es)
    by_line true on = subst (λ (c : CountsNow). AreCounts c start (e ∷ es)) (sym (ap (λ t. if t then record n { places = grown n address met } else n) on)) (record {
      devices = λ a too. at a (record n { places = grown n address met }) too refl ∙ on_it (same_number (line_of address) n.line on) a too;
      connects = connects;
    })
    by_line false off = subst (λ (c : CountsNow). AreCounts c start (e ∷ es)) (sym (ap (λ t. if t then record n { places = grown n address met } else n) off)) (record {
      devices = λ a too. are.devices a too ∙ decide (counts_of start es a ≡ counts_of start (e ∷ es) a) (a == address)
          (λ y. absurd (other_number (line_of address) n.line off (ap line_of (sym (same_number a address y)) ∙ too)))
          (λ x. others a x);
      connects = connects;
    })

-- ---- a connect request that reaches the gateway, and nothing else

pub asked : (n : CountsNow) (start : World) (es : List Event) (e : Event) (more : Bool) → ((a : ℕ) → goes_to a (replay start es) e ≡ false) → ((a : ℕ) → comes_from a (replay start es) e ≡ false)
    → ((a : ℕ) → takes_one a (replay start es) e ≡ false) → ((a : ℕ) → writes_one a (replay start es) e ≡ false) → connect_reaches (replay start es) e ≡ more → length es + 1 < 2 ^ 63 → AreCounts n start es
    → AreCounts (connected more n) start (e ∷ es)
asked n start es e more to from taken wrote is few are = record {
  devices = λ a on. are.devices a on ∙ away (goes_to a (replay start es) e) (comes_from a (replay start es) e) (takes_one a (replay start es) e) (writes_one a (replay start es) e) (counts_of start es a) (to a) (from a) (taken a) (wrote a);
  connects = ap (and_if more) are.connects ∙ one_more more (count connect_reaches start es) (let h = count_few connect_reaches start es in omega arith)
      ∙ ap (λ t. if t then suc (count connect_reaches start es) else count connect_reaches start es) (sym is);
}
