-- A turn of a run that serves at a port, whole or broken off.
use Rattle.std.proofs.Common.{◌≡◌, inl, inr, ℕ, suc, ◌+◌, ◌≤◌, min, List, [], ◌∷◌, ◌++◌, refl, ap, sym, subst, ◌∙◌, arith}
use Rattle.line_model.specs.PortStory.{PortItem, Took, Quiet, PortStory, Adds}
use Rattle.line_model.specs.Serving.{turns}
use Rattle.line_model.specs.World.{Event, From, Down, now, replay}
use Rattle.bus_sim.specs.declared.beginning.Beginning.{Beginning}
use Rattle.bus_sim.specs.Begun.{start_of}
use Rattle.bus_sim.specs.RunNow.{RunNow, RunState, seen, start, time, world as world_of}
use Rattle.bus_sim.specs.Serving.{AddsAll, Takes, Waits, Breaks, BeforeTurn, NotTaken, InTurn, NotGiven, EndsSettled, GoesOn, Turn, quiet_ms}
use Rattle.bus_sim.specs.Turned.{CountsQuiet, PlaysFor, StopsPlaying, StopsTurn, Turned}
use Rattle.bus_sim.specs.Went.{Went, world}
use Rattle.bus_sim.proofs.Grows.{timeless}
use Rattle.bus_sim.proofs.Playing.{adds_more, adds_none, adds_one, joined_so}
use Rattle.bus_sim.proofs.Quiets.{counts_as, counts_quiet, counts_took, no_turns}

-- the item that a turn begins with comes first
with_first : (a : List PortItem) (item : PortItem) (items : List PortItem) → (a ++ (item ∷ [])) ++ items ≡ a ++ (item ∷ items)
with_first a item items = joined_so a (item ∷ []) items

one_at_most : (n m : ℕ) → n ≡ suc m → n ≤ suc m
one_at_most n m e = omega (arith, e)

-- ---- a datagram is taken

module _ (old mid new : RunState) (s t u : PortStory) (from : ℕ) (octets : List ℕ) (taken : Adds (Took from octets) s t) (went : Went old (From from octets) mid) where
  begun : mid.begun ≡ old.begun
  begun = ap (λ (r : RunNow). r.begun) went

  sent : mid.events ≡ From from octets ∷ old.events
  sent = ap (λ (r : RunNow). r.events) went

  -- what goes on from there goes on in the turn
  goes_from : (events : List Event) (a items : List PortItem) → GoesOn (start (seen mid)) mid.events (Took from octets ∷ items) events (a ++ (Took from octets ∷ items))
      → GoesOn (start (seen old)) (From from octets ∷ old.events) (Took from octets ∷ items) events (a ++ (Took from octets ∷ items))
  goes_from events a items h =
      subst (λ l. GoesOn (start (seen old)) l (Took from octets ∷ items) events (a ++ (Took from octets ∷ items))) sent
      (subst (λ (b : Beginning). GoesOn (start_of b) mid.events (Took from octets ∷ items) events (a ++ (Took from octets ∷ items))) begun h)

  at_once : time (seen mid) ≡ time (seen old)
  at_once = ap (λ (r : RunNow). now (world_of r)) went ∙ timeless (world old) (From from octets) refl

  lasts_so : (a b c : ℕ) → a ≡ b + 0 → b ≡ c → a ≡ c + 0
  lasts_so a b c h e = omega (arith, h, e)

  pub took_turn : (quiet : ℕ) → PlaysFor 0 mid new t u → Turned quiet 0 old new s u
  took_turn quiet h = record {
    same = h.plays.same ∙ begun;
    added = h.plays.added ++ (Took from octets ∷ []);
    told = adds_more (Took from octets ∷ []) h.plays.added s t u (adds_one (Took from octets) s t taken) h.plays.told;
    turn = λ items. subst (Turn (start (seen old)) old.events items new.events) (sym (with_first h.plays.added (Took from octets) items)) (record {
      ms = 0;
      first_events = From from octets ∷ old.events;
      first_items = Took from octets ∷ items;
      begins = Takes from octets;
      goes = goes_from new.events h.plays.added items (h.plays.goes (Took from octets ∷ items));
      settled = subst (λ (b : Beginning). EndsSettled (start_of b) new.events) begun h.settled;
      lasts = subst (λ (b : Beginning). now (replay (start_of b) new.events) ≡ time (seen old) + 0) (h.plays.same ∙ begun) (lasts_so (time (seen new)) (time (seen mid)) (time (seen old)) h.lasts at_once);
    });
    one = λ items. ap turns (with_first h.plays.added (Took from octets) items) ∙ no_turns (start (seen mid)) mid.events (Took from octets ∷ items) new.events _ (h.plays.goes (Took from octets ∷ items));
    counts = λ items k. subst (CountsQuiet 0) (sym (with_first h.plays.added (Took from octets) items))
        (counts_as (start (seen mid)) mid.events (Took from octets ∷ items) new.events _ 0 (h.plays.goes (Took from octets ∷ items)) (counts_took from octets items));
  }

  pub took_stops : StopsPlaying mid new t u → StopsTurn old new s u
  took_stops (inl h) = record {
    same = h.same ∙ begun;
    added = h.added ++ (Took from octets ∷ []);
    told = adds_more (Took from octets ∷ []) h.added s t u (adds_one (Took from octets) s t taken) h.told;
    breaks = λ items. subst (Breaks (start (seen old)) old.events items new.events) (sym (with_first h.added (Took from octets) items)) (InTurn (Takes from octets) (goes_from new.events h.added items (h.goes (Took from octets ∷ items))));
    few = λ items. one_at_most _ (turns items) (ap turns (with_first h.added (Took from octets) items) ∙ no_turns (start (seen mid)) mid.events (Took from octets ∷ items) new.events _ (h.goes (Took from octets ∷ items)));
  }
  took_stops (inr h) = record {
    same = h.same ∙ begun;
    added = h.added ++ (Took from octets ∷ []);
    told = adds_more (Took from octets ∷ []) h.added s t u (adds_one (Took from octets) s t taken) h.told;
    breaks = λ items. subst (λ l. Breaks (start (seen old)) old.events items l ((h.added ++ (Took from octets ∷ [])) ++ items)) (sym h.last)
        (subst (Breaks (start (seen old)) old.events items (Down h.age ∷ h.events)) (sym (with_first h.added (Took from octets) items)) (NotGiven h.age (Takes from octets) (goes_from h.events h.added items (h.goes (Took from octets ∷ items)))));
    few = λ items. one_at_most _ (turns items) (ap turns (with_first h.added (Took from octets) items) ∙ no_turns (start (seen mid)) mid.events (Took from octets ∷ items) h.events _ (h.goes (Took from octets ∷ items)));
  }

-- it doesn't come to the line
pub not_taken : (old new : RunState) (s t : PortStory) (from : ℕ) (octets : List ℕ) → Adds (Took from octets) s t → seen new ≡ seen old → StopsTurn old new s t
not_taken old new s t from octets taken same = record {
  same = ap (λ (r : RunNow). r.begun) same;
  added = Took from octets ∷ [];
  told = adds_one (Took from octets) s t taken;
  breaks = λ items. subst (λ l. Breaks (start (seen old)) old.events items l (Took from octets ∷ items)) (sym (ap (λ (r : RunNow). r.events) same)) (NotTaken from octets);
  few = λ items. whole (turns items);
}
  where
    whole : (n : ℕ) → suc n ≤ suc n
    whole n = omega arith

-- ---- a quiet wait

module _ (old new : RunState) (s t u : PortStory) (waited : Adds (Quiet quiet_ms) s t) where
  pub quiet_turn : (quiet : ℕ) → PlaysFor quiet_ms old new t u → Turned quiet (min (quiet + 1) 10) old new s u
  quiet_turn quiet h = record {
    same = h.plays.same;
    added = h.plays.added ++ (Quiet quiet_ms ∷ []);
    told = adds_more (Quiet quiet_ms ∷ []) h.plays.added s t u (adds_one (Quiet quiet_ms) s t waited) h.plays.told;
    turn = λ items. subst (Turn (start (seen old)) old.events items new.events) (sym (with_first h.plays.added (Quiet quiet_ms) items)) (record {
      ms = quiet_ms;
      first_events = old.events;
      first_items = Quiet quiet_ms ∷ items;
      begins = Waits;
      goes = h.plays.goes (Quiet quiet_ms ∷ items);
      settled = h.settled;
      lasts = subst (λ (b : Beginning). now (replay (start_of b) new.events) ≡ time (seen old) + quiet_ms) h.plays.same h.lasts;
    });
    one = λ items. ap turns (with_first h.plays.added (Quiet quiet_ms) items) ∙ no_turns (start (seen old)) old.events (Quiet quiet_ms ∷ items) new.events _ (h.plays.goes (Quiet quiet_ms ∷ items));
    counts = λ items k. subst (CountsQuiet (min (quiet + 1) 10)) (sym (with_first h.plays.added (Quiet quiet_ms) items))
        (counts_as (start (seen old)) old.events (Quiet quiet_ms ∷ items) new.events _ (min (quiet + 1) 10) (h.plays.goes (Quiet quiet_ms ∷ items)) (counts_quiet quiet quiet_ms items k));
  }

  pub quiet_stops : StopsPlaying old new t u → StopsTurn old new s u
  quiet_stops (inl h) = record {
    same = h.same;
    added = h.added ++ (Quiet quiet_ms ∷ []);
    told = adds_more (Quiet quiet_ms ∷ []) h.added s t u (adds_one (Quiet quiet_ms) s t waited) h.told;
    breaks = λ items. subst (Breaks (start (seen old)) old.events items new.events) (sym (with_first h.added (Quiet quiet_ms) items)) (InTurn Waits (h.goes (Quiet quiet_ms ∷ items)));
    few = λ items. one_at_most _ (turns items) (ap turns (with_first h.added (Quiet quiet_ms) items) ∙ no_turns (start (seen old)) old.events (Quiet quiet_ms ∷ items) new.events _ (h.goes (Quiet quiet_ms ∷ items)));
  }
  quiet_stops (inr h) = record {
    same = h.same;
    added = h.added ++ (Quiet quiet_ms ∷ []);
    told = adds_more (Quiet quiet_ms ∷ []) h.added s t u (adds_one (Quiet quiet_ms) s t waited) h.told;
    breaks = λ items. subst (λ l. Breaks (start (seen old)) old.events items l ((h.added ++ (Quiet quiet_ms ∷ [])) ++ items)) (sym h.last)
        (subst (Breaks (start (seen old)) old.events items (Down h.age ∷ h.events)) (sym (with_first h.added (Quiet quiet_ms) items)) (NotGiven h.age Waits (h.goes (Quiet quiet_ms ∷ items))));
    few = λ items. one_at_most _ (turns items) (ap turns (with_first h.added (Quiet quiet_ms) items) ∙ no_turns (start (seen old)) old.events (Quiet quiet_ms ∷ items) h.events _ (h.goes (Quiet quiet_ms ∷ items)));
  }

-- ---- nothing is taken

pub none_taken : (old new : RunState) (s t : PortStory) → seen new ≡ seen old → t ≡ s → StopsTurn old new s t
none_taken old new s t same told = record {
  same = ap (λ (r : RunNow). r.begun) same;
  added = [];
  told = subst (AddsAll [] s) (sym told) (adds_none s);
  breaks = λ items. subst (λ l. Breaks (start (seen old)) old.events items l items) (sym (ap (λ (r : RunNow). r.events) same)) BeforeTurn;
  few = λ items. less (turns items);
}
  where
    less : (n : ℕ) → n ≤ suc n
    less n = omega arith
