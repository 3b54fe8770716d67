-- The maps of an index, one line further towards the first.
use Rattle.std.proofs.Common.{◌≡◌, ℕ, suc, ◌+◌, ◌<◌, inl, inr, Bool, true, false, ◌&&◌, eqb, List, length, drop, get_or, Option, Some, None, cond, refl, sym, ap, ◌∙◌, drop-cons, arith}
use Rattle.std.specs.Ordering.{nat_cmp, ordering_then, is_eq}
use Rattle.std.specs.declared.cmp.Ordering.{Ordering}
use Rattle.std.specs.BTreeMap.{is_at}
use Rattle.std.proofs.lemmas.Bool.{cases_order, eq-eqb, ne_eqb, lt-ltb, le-ltb}
use Rattle.knx_model.specs.declared.script.ScriptLine.{ScriptLine}
use Rattle.line_model.specs.Lines.{script_of, or_later}
use Rattle.script_index.specs.declared.place.Place.{Place}
use Rattle.script_index.specs.Places.{placed, value_in, value_at, same_place}
use Rattle.script_index.specs.Stands.{place_cmp}

-- ---- two places are one where their order says so

pub same_number : (a b : ℕ) → is_eq (nat_cmp a b) ≡ eqb a b
same_number a b = elim (cases_order a b) [
  | inl same ↦ rw (le-ltb a b (omega arith), eq-eqb a b same) refl
  | inr (inl below) ↦ rw (lt-ltb a b below, ne_eqb a b (λ e. omega arith)) refl
  | inr (inr above) ↦ rw (le-ltb a b (omega arith), ne_eqb a b (λ e. omega arith)) refl
]

same_then : (a b : ℕ) (o : Ordering) → is_eq (ordering_then (nat_cmp a b) o) ≡ (eqb a b && is_eq o)
same_then a b o = elim (cases_order a b) [
  | inl same ↦ rw (le-ltb a b (omega arith), eq-eqb a b same) refl
  | inr (inl below) ↦ rw (lt-ltb a b below, ne_eqb a b (λ e. omega arith)) refl
  | inr (inr above) ↦ rw (le-ltb a b (omega arith), ne_eqb a b (λ e. omega arith)) refl
]

pub is_there : (p q : Place) → is_at (place_cmp p) q ≡ same_place p q
is_there p q =
    same_then p.kind q.kind (ordering_then (nat_cmp p.device q.device) (nat_cmp p.n q.n))
    ∙ ap (λ b. eqb p.kind q.kind && b) (same_then p.device q.device (nat_cmp p.n q.n) ∙ ap (λ b. eqb p.device q.device && b) (same_number p.n q.n))

-- ---- what is entered goes before what was there

pub entered : (b : Bool) (v : ℕ) (later : Option ℕ) → cond b (Some v) later ≡ or_later (cond b (Some v) None) later
entered true v later = refl
entered false v later = refl

-- ---- one line further

pub place_more : (ls : List ScriptLine) (i : ℕ) (line : ScriptLine) (q : Place) → i < length ls → line ≡ get_or ls i line
    → value_at q (script_of (drop i ls)) ≡ or_later (value_in q (placed line.what)) (value_at q (script_of (drop (i + 1) ls)))
place_more ls i line q lt read =
    let next : suc i ≡ i + 1 = omega arith in
    ap (λ ls. value_at q (script_of ls)) (drop-cons ls i line lt)
    ∙ ap (λ (l : ScriptLine). or_later (value_in q (placed l.what)) (value_at q (script_of (drop (suc i) ls)))) (sym read)
    ∙ ap (λ n. or_later (value_in q (placed line.what)) (value_at q (script_of (drop n ls)))) next
