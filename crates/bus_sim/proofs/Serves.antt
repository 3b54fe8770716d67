-- A serving from turn to turn, and how it ends.
use Rattle.std.proofs.Common.{◌≡◌, ◌↔◌, inr, ℕ, suc, ◌+◌, ◌-◌, ◌≤◌, ◌<◌, Bool, true, false, IsTrue, IsFalse, List, [], ◌++◌, ap, sym, subst, ◌∙◌, arith}
use Rattle.line_model.specs.Gateway.{Gateway}
use Rattle.line_model.specs.PortStory.{PortItem, PortStory}
use Rattle.line_model.specs.Serving.{HasEnded, turns}
use Rattle.bus_sim.specs.declared.beginning.Beginning.{Beginning}
use Rattle.bus_sim.specs.declared.serve.Served.TheVariants.{Ended, OpenTurns}
use Rattle.bus_sim.specs.Begun.{said, start_of}
use Rattle.bus_sim.specs.RunNow.{RunState, script, seen, start}
use Rattle.bus_sim.specs.Serving.{AddsAll, Breaks, BreaksOff, ServedSo, Turns, NoTurn, OneMore, served_beginning, served_before}
use Rattle.bus_sim.specs.Turned.{CountsQuiet, StopsTurn, Turned}
use Rattle.bus_sim.specs.Went.{world}
use Rattle.bus_sim.proofs.Playing.{adds_more, adds_none}
use Rattle.bus_sim.proofs.Quiets.{counts_none}

untrue : false ≡ true → ⊥
untrue e = cc

-- so many turns are left, and the serving hasn't ended
pub record ServesUntil (quiet left n : ℕ) (old new : RunState) (before after : PortStory) : Type 0 where
  pub begun : new.begun ≡ served_beginning old.begun
  pub items : List PortItem
  pub told : AddsAll items before after
  pub whole : Turns (start (seen new)) (served_before old.begun.clients old.events) new.events items
  pub counts : CountsQuiet quiet items
  pub used : turns items + left ≡ n
  pub on : ¬ HasEnded (world new).tunnel.gateway items

not_at_first : (g : Gateway) → ¬ HasEnded g []
not_at_first g ended = ended.quiet

pub serves_begins : (n : ℕ) (old new : RunState) (s : PortStory) → new.begun ≡ served_beginning old.begun → new.events ≡ served_before old.begun.clients old.events → ServesUntil 0 n n old new s s
serves_begins n old new s begun events = record {
  begun = begun;
  items = [];
  told = adds_none s;
  whole = subst (λ l. Turns (start (seen new)) (served_before old.begun.clients old.events) l []) (sym events) NoTurn;
  counts = counts_none;
  used = all n;
  on = not_at_first (world new).tunnel.gateway;
}
  where
    all : (k : ℕ) → 0 + k ≡ k
    all k = omega arith

-- ---- a turn more

module _ (quiet quiet' left n : ℕ) (old mid new : RunState) (s t u : PortStory) (h : ServesUntil quiet left n old mid s t) (turn : Turned quiet quiet' mid new t u) where
  abbrev now_items : List PortItem
  now_items = turn.added ++ h.items

  pub now_counts : CountsQuiet quiet' now_items
  now_counts = turn.counts h.items h.counts

  now_begun : new.begun ≡ served_beginning old.begun
  now_begun = turn.same ∙ h.begun

  now_whole : Turns (start (seen new)) (served_before old.begun.clients old.events) new.events now_items
  now_whole = subst (λ (b : Beginning). Turns (start_of b) (served_before old.begun.clients old.events) new.events now_items) (sym turn.same) (OneMore h.whole h.on (turn.turn h.items))

  now_told : AddsAll now_items s u
  now_told = adds_more h.items turn.added s t u h.told turn.told

  used_up : (a k left n : ℕ) → k ≡ suc a → a + left ≡ n → 0 < left → k + (left - 1) ≡ n
  used_up a k left n e used some = omega (arith, e, used, some)

  some_used : (a k left n : ℕ) → k ≡ suc a → a + left ≡ n → 0 < left → k ≤ n
  some_used a k left n e used some = omega (arith, e, used, some)

  pub serves_on : 0 < left → ¬ HasEnded (world new).tunnel.gateway now_items → ServesUntil quiet' (left - 1) n old new s u
  serves_on some on = record {
    begun = now_begun;
    items = now_items;
    told = now_told;
    whole = now_whole;
    counts = now_counts;
    used = used_up (turns h.items) (turns now_items) left n (turn.one h.items) h.used some;
    on = on;
  }

  pub serves_ended : 0 < left → HasEnded (world new).tunnel.gateway now_items → ServedSo Ended n (seen old) (seen new) s u
  serves_ended some ended = record {
    begun = now_begun;
    items = now_items;
    told = now_told;
    whole = now_whole;
    few = some_used (turns h.items) (turns now_items) left n (turn.one h.items) h.used some;
    ends = ended;
  }

  -- by what the code has tested
  pub ended_so : (result : Bool) → ((items : List PortItem) → CountsQuiet quiet' items → (IsTrue result ↔ HasEnded (world new).tunnel.gateway items)) → 0 < left → IsTrue result → ServedSo Ended n (seen old) (seen new) s u
  ended_so result says some so = serves_ended some ((says now_items now_counts).0 so)

  pub on_so : (result : Bool) → ((items : List PortItem) → CountsQuiet quiet' items → (IsTrue result ↔ HasEnded (world new).tunnel.gateway items)) → 0 < left → IsFalse result → ServesUntil quiet' (left - 1) n old new s u
  on_so result says some not_so = serves_on some (λ ended. untrue (sym not_so ∙ (says now_items now_counts).1 ended))

-- ---- no turn is left

pub serves_open : (quiet left n : ℕ) (old new : RunState) (s t : PortStory) → ServesUntil quiet left n old new s t → ¬ (0 < left) → ServedSo OpenTurns n (seen old) (seen new) s t
serves_open quiet left n old new s t h none = record {
  begun = h.begun;
  items = h.items;
  told = h.told;
  whole = h.whole;
  few = most (turns h.items) left n h.used;
  ends = (h.on, all (turns h.items) left n h.used none);
}
  where
    most : (a left n : ℕ) → a + left ≡ n → a ≤ n
    most a left n used = omega (arith, used)

    all : (a left n : ℕ) → a + left ≡ n → ¬ (0 < left) → a ≡ n
    all a left n used none = grind (arith, used, none)

-- ---- it breaks off

pub breaks_off : (quiet left n : ℕ) (old mid new : RunState) (s t u : PortStory) → ServesUntil quiet left n old mid s t → 0 < left → StopsTurn mid new t u → BreaksOff n (seen old) (seen new) s u
breaks_off quiet left n old mid new s t u h some stop = inr (record {
  begun = stop.same ∙ h.begun;
  items = stop.added ++ h.items;
  told = adds_more h.items stop.added s t u h.told stop.told;
  whole_events = mid.events;
  whole_items = h.items;
  whole = subst (λ (b : Beginning). Turns (start_of b) (served_before old.begun.clients old.events) mid.events h.items) (sym stop.same) h.whole;
  breaks = subst (λ (b : Beginning). Breaks (start_of b) mid.events h.items new.events (stop.added ++ h.items)) (sym stop.same) (stop.breaks h.items);
  few = most (turns h.items) (turns (stop.added ++ h.items)) left n (stop.few h.items) h.used some;
})
  where
    most : (a k left n : ℕ) → k ≤ suc a → a + left ≡ n → 0 < left → k ≤ n
    most a k left n e used some = omega (arith, e, used, some)

-- the line and its script stay
pub same_start : (old new : RunState) → new.begun ≡ served_beginning old.begun → start (seen new) ≡ start (seen old)
same_start old new begun = ap start_of begun

pub same_script : (old new : RunState) → new.begun ≡ served_beginning old.begun → script (seen new) ≡ script (seen old)
same_script old new begun = ap said begun
