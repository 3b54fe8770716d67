-- Which entries that a call adds come promptly and without a loss of time: those of a call that polls nothing, of a new endpoint before the channel is asked to
-- end, of the end of the channel once all is over, and of a poll that may last only where all was sent that can be. And that a poll that begins where there is
-- no cause to end is made while there is none.
use Rattle.std.proofs.Common.{◌≡◌, ◌≢◌, ◌⊎◌, inl, inr, ℕ, ◌+◌, ◌<◌, ◌≤◌, Bool, true, false, min, List, [], ◌∷◌, ◌++◌, None, refl, sym, ap, subst, ◌∙◌, arith}
use Rattle.std.specs.Prelude.{◌&&◌, nat_lt}
use Rattle.std.specs.List.{AllByRecursion}
use Rattle.std.proofs.lemmas.Bool.Decides.{nat_tests}
use Rattle.line_model.specs.declared.group.GroupTurn.{GroupTurn}
use Rattle.line_model.specs.declared.log.LogEntry.{LogEntry}
use Rattle.line_model.specs.Record.{Item, Put, Renewed, Got, Quiet, Entry, Placed, entries, is_poll, is_renewal}
use Rattle.line_model.specs.LinkStory.{Clock, Exact, Running, newest_time, AreWaits}
use Rattle.line_model.specs.ClientView.{channel}
use Rattle.line_model.specs.Closing.{asks_to_end, is_open}
use Rattle.line_model.specs.Faults.{datagrams_taken, flood, first_tunnel, first_elsewhere}
use Rattle.line_model.specs.Haste.{is_beat_overdue, is_wait, takes_time, has_just_waited, HasSent, GoesOnRightly}
use Rattle.line_model.specs.Leaves.{StaysOpen, IsFinished}
use Rattle.line_model.specs.Log.{Job, JobUnfinished, TurnUnfinished, Over, state_of, JobState, Untaken, Held}
use Rattle.line_model.specs.Renews.{PollsPromptly, to_poll_before}
use Rattle.tunnel_link.specs.Adds.{AllPrompt}
use Rattle.tunnel_link.specs.Alone as tunnel
use Rattle.tunnel_link.specs.Alone.{EndsNone, LeavesAlone, SendsOnce, Nothing, Once}
use Rattle.tunnel_link.specs.Paces.{TakesNoTime, BeatsInTime, HasTriesLeft, PollsOnce, NoPoll, Polls, PollsAndSends, PollsWithin}
use Rattle.tunnel_link.proofs.Growth.{quiet_places}
use Rattle.tunnel_link.proofs.Polls.{newest_last}
use Rattle.hub_work.proofs.Growing.{AreAbove}
use Rattle.hub_core.specs.Discipline.{IsPrompt, Hastens, LosesNone}
use Rattle.hub_core.specs.Keeps.{IsAllOver}
use Rattle.hub_core.proofs.Requests.{Each}
use Rattle.hub_core.proofs.Taking.{quiet_not_got, none_counted, none_opened}

-- ---- the open channel isn't asked to end

pub stays_open : (added old : List Placed) → tunnel.Each EndsNone old added → StaysOpen (entries old) → StaysOpen (entries (added ++ old))
stays_open [] old h unasked = unasked
stays_open (p ∷ added) old h unasked = (h.0, stays_open added old h.1 unasked)

shut : {X : Type 0} (r : List Entry) (x : Entry) → EndsNone r x → asks_to_end x ≡ true → is_open (channel r) ≡ true → X
shut r x none asks up = absurd (let z : true ≡ false = sym up ∙ none asks in cc)

-- ---- all is over

isnt_untaken : Untaken ≢ Over
isnt_untaken e = cc

isnt_held : (worker since : ℕ) → Held worker since ≢ Over
isnt_held worker since e = cc

must_be_over : (s : JobState) → (s ≢ Over → ⊥) → s ≡ Over
must_be_over Untaken h = absurd (h isnt_untaken)
must_be_over (Held worker since) h = absurd (h (isnt_held worker since))
must_be_over Over h = refl

pub all_finished : (jobs : List Job) (turns : List GroupTurn) (log : List LogEntry) → IsAllOver jobs turns log → IsFinished jobs turns log
all_finished jobs turns log over = record { jobs_over = λ k there. must_be_over (state_of k log) (λ not. over.jobs_over (k, there, not)); turns_told = over.turns_told }

-- ---- a wait

waits_poll : (what : Item) → is_wait what ≡ true → is_poll what ≡ true
waits_poll (Put octets) e = absurd (cc)
waits_poll Renewed e = absurd (cc)
waits_poll (Got octets) e = absurd (cc)
waits_poll Quiet e = e

and_parts : (a b : Bool) → (a && b) ≡ true → (a ≡ true) × (b ≡ true)
and_parts true true e = (e, e)
and_parts true false e = absurd (cc)
and_parts false b e = absurd (cc)

later : (a b : ℕ) → nat_lt a b ≡ true → a < b
later a b e = grind (arith, nat_tests)

is_later : (a b : ℕ) → a < b → nat_lt a b ≡ true
is_later a b lt = grind (arith, nat_tests)

-- what is no poll takes no time
no_wait : (r : List Entry) (x : Entry) → is_poll x.what ≡ false → takes_time r x ≡ true → ⊥
no_wait r x none takes = let z : true ≡ false = sym (waits_poll x.what (and_parts (is_wait x.what) (nat_lt (newest_time r) x.now) takes).0) ∙ none in cc

module _ (clock : Clock) (jobs : List Job) (turns : List GroupTurn) (log : List LogEntry) where
  abbrev Goes : List Placed → Placed → Type 0
  Goes older p = GoesOnRightly clock jobs log (entries older) p.what

  abbrev Busy : List Placed → Placed → Type 0
  Busy older p = takes_time (entries older) p.what ≡ true → has_just_waited (entries older) ≡ false → HasSent jobs log older p.at

  -- ---- one entry, by the clock

  by_clock : (c : Clock) (older : List Placed) (p : Placed) → (c ≡ Exact → Busy older p) → (c ≡ Exact → p.what.now ≤ newest_time (entries older) + 100)
      → (is_poll p.what.what ≡ true → is_beat_overdue (channel (entries older)) (to_poll_before (entries older)) ≡ false)
      → (asks_to_end p.what ≡ true → is_open (channel (entries older)) ≡ true → IsFinished jobs turns log × StaysOpen (entries older))
      → (is_renewal p.what.what ≡ true → StaysOpen (entries older)) → LosesNone c jobs turns log older p
  by_clock Exact older p busy short beats ends seeks = record {
    busy = busy refl;
    ends = λ asks up. (ends asks up).0;
    pace = record { short = short refl; beats = beats; ends_once = λ asks up. (ends asks up).1; seeks = seeks };
  }
  by_clock Running older p busy short beats ends seeks = record { beats = beats; ends = ends; seeks = seeks }

  -- ---- one entry that is no poll

  still : (older : List Placed) (p : Placed) → TakesNoTime (entries older) p.what → (asks_to_end p.what ≡ true → is_open (channel (entries older)) ≡ true → IsFinished jobs turns log × StaysOpen (entries older))
      → (is_renewal p.what.what ≡ true → StaysOpen (entries older)) → Hastens clock jobs turns log older p
  still older p t ends seeks = record {
    prompt = λ left poll. polls_not poll;
    loses_none = by_clock clock older p (λ exact takes first. absurd (no_wait (entries older) p.what t.polls_not takes)) (λ exact. (let s = t.still in omega (arith, s))) (λ poll. polls_not poll) ends seeks;
    goes_on = λ poll. polls_not poll;
  }
    where
      polls_not : {X : Type 0} → is_poll p.what.what ≡ true → X
      polls_not poll = absurd (let z : true ≡ false = sym poll ∙ t.polls_not in cc)

  renews_not : {X : Type 0} (x : Entry) → is_renewal x.what ≡ false → is_renewal x.what ≡ true → X
  renews_not x none renews = absurd (let z : true ≡ false = sym renews ∙ none in cc)

  -- ---- of a call

  pub alone_hastens : (added old : List Placed) → tunnel.Each TakesNoTime old added → tunnel.Each LeavesAlone old added → Each (Hastens clock jobs turns log) added old
  alone_hastens [] old t alone = tt
  alone_hastens (p ∷ added) old t alone =
      (still (added ++ old) p t.0 (shut (entries (added ++ old)) p.what alone.0.ends_none) (renews_not p.what alone.0.seeks_none.renews_not), alone_hastens added old t.1 alone.1)

  pub seek_hastens : (added old : List Placed) → tunnel.Each TakesNoTime old added → tunnel.Each EndsNone old added → StaysOpen (entries old) → Each (Hastens clock jobs turns log) added old
  seek_hastens [] old t none unasked = tt
  seek_hastens (p ∷ added) old t none unasked =
      (still (added ++ old) p t.0 (shut (entries (added ++ old)) p.what none.0) (λ renews. stays_open added old none.1 unasked), seek_hastens added old t.1 none.1 unasked)

  pub leave_hastens : (added old : List Placed) → tunnel.Each TakesNoTime old added → SendsOnce old added → IsFinished jobs turns log → StaysOpen (entries old) → Each (Hastens clock jobs turns log) added old
  leave_hastens [] old t Nothing finished unasked = tt
  leave_hastens (p ∷ (q ∷ added)) old t h finished unasked = elim h [ ]
  leave_hastens (p ∷ []) old t (Once q at seeks) finished unasked = (still old p t.0 (λ asks up. (finished, unasked)) (renews_not p.what seeks.renews_not), tt)

  -- ---- a poll goes on where there was no cause to end: what a datagram alone changes stays as it is in its waits

  module _ (old : List Placed) (few : JobUnfinished jobs log → datagrams_taken (entries old) < flood) (line : first_elsewhere jobs (first_tunnel (entries old)) ≡ None) where
    one_goes : (ws : List Placed) → AreWaits (newest_time (entries old)) (entries ws) → (p : Placed) → HasTriesLeft clock (entries (ws ++ old)) p.what → Goes (ws ++ old) p
    one_goes ws h p tries =
        let none = quiet_not_got ws (quiet_places (newest_time (entries old)) ws h) in
        λ poll here. record {
          tries_left = tries poll here;
          no_flood = λ u. subst (λ (n : ℕ). n < flood) (sym (none_counted ws old none)) (few u);
          right_line = ap (first_elsewhere jobs) (none_opened ws old none) ∙ line;
        }

    waits_go : (ws : List Placed) → AreWaits (newest_time (entries old)) (entries ws) → tunnel.Each (HasTriesLeft clock) old ws → Each Goes ws old
    waits_go [] h tries = tt
    waits_go (p ∷ ws) h tries = (one_goes ws h.2 p tries.0, waits_go ws h.2 tries.1)

    once_goes : (rest ws : List Placed) → PollsOnce rest → AreWaits (newest_time (entries old)) (entries ws) → tunnel.Each (HasTriesLeft clock) old (rest ++ ws) → Each Goes (rest ++ ws) old
    once_goes rest ws NoPoll h tries = waits_go ws h tries
    once_goes rest ws (Polls p) h tries = (one_goes ws h p tries.0, waits_go ws h tries.1)
    once_goes rest ws (PollsAndSends s p none) h tries = ((λ poll. absurd (let z : true ≡ false = sym poll ∙ none in cc)), (one_goes ws h p tries.1.0, waits_go ws h tries.1.1))

    pub poll_goes : (longest : ℕ) (added : List Placed) → PollsWithin clock longest old added → tunnel.Each (HasTriesLeft clock) old added → Each Goes added old
    poll_goes longest added within tries =
        subst (λ (l : List Placed). Each Goes l old) (sym within.parts)
        (once_goes within.rest within.waits within.once within.times (subst (λ (l : List Placed). tunnel.Each (HasTriesLeft clock) old l) within.parts tries))

  -- ---- of a poll

  module _ (n longest : ℕ) (old : List Placed) (sent : (at : ℕ) → n < at → longest ≢ 0 → HasSent jobs log old at) where
    abbrev AreWithin : List Placed → Type 0
    AreWithin added = AllByRecursion (λ (p : Placed). p.what.now ≤ newest_time (entries old) + min longest 100) added

    first_busy : (p : Placed) → p.what.now ≤ newest_time (entries old) + min longest 100 → n < p.at → Busy old p
    first_busy p le lt takes first = sent p.at lt (λ none. let since = later (newest_time (entries old)) p.what.now (and_parts (is_wait p.what.what) (nat_lt (newest_time (entries old)) p.what.now) takes).1 in omega (arith, since, le, none))

    -- a wait into which something fell is one that took time
    has_waited : (q : Placed) (ws : List Placed) → AreWaits (newest_time (entries old)) (entries (q ∷ ws)) → has_just_waited (q.what ∷ entries (ws ++ old)) ≡ true
    has_waited q ws h =
        let up : newest_time (entries (ws ++ old)) < q.what.now = (let last = newest_last old ws in let lt = h.1 in omega (arith, last, lt)) in
        let both : (is_wait q.what.what && nat_lt (newest_time (entries (ws ++ old))) q.what.now) ≡ true = rw h.0 (is_later (newest_time (entries (ws ++ old))) q.what.now up) in
        both

    next_busy : (p q : Placed) (ws : List Placed) → AreWaits (newest_time (entries old)) (entries (q ∷ ws)) → Busy ((q ∷ ws) ++ old) p
    next_busy p q ws h takes first = absurd (let z : true ≡ false = sym (has_waited q ws h) ∙ first in cc)

    waits_busy : (ws : List Placed) → AreWaits (newest_time (entries old)) (entries ws) → AreWithin ws → AreAbove n ws → Each Busy ws old
    waits_busy [] h le above = tt
    waits_busy (p ∷ []) h le above = (first_busy p le.0 above.0, tt)
    waits_busy (p ∷ (q ∷ ws)) h le above = (next_busy p q ws h.2, waits_busy (q ∷ ws) h.2 le.1 above.1)

    last_busy : (p : Placed) (ws : List Placed) → AreWaits (newest_time (entries old)) (entries ws) → p.what.now ≤ newest_time (entries old) + min longest 100 → n < p.at → Busy (ws ++ old) p
    last_busy p [] h le lt = first_busy p le lt
    last_busy p (q ∷ ws) h le lt = next_busy p q ws h

    once_busy : (rest ws : List Placed) → PollsOnce rest → AreWaits (newest_time (entries old)) (entries ws) → AreWithin (rest ++ ws) → AreAbove n (rest ++ ws) → Each Busy (rest ++ ws) old
    once_busy rest ws NoPoll h le above = waits_busy ws h le above
    once_busy rest ws (Polls p) h le above = (last_busy p ws h le.0 above.0, waits_busy ws h le.1 above.1)
    once_busy rest ws (PollsAndSends s p none) h le above =
        ((λ takes first. absurd (no_wait (entries ((p ∷ ws) ++ old)) s.what none takes)), (last_busy p ws h le.1.0 above.1.0, waits_busy ws h le.1.1 above.1.1))

    busy : clock ≡ Exact → (added : List Placed) → PollsWithin clock longest old added → AreAbove n added → Each Busy added old
    busy exact added within above =
        subst (λ (l : List Placed). Each Busy l old) (sym within.parts)
        (once_busy within.rest within.waits within.once within.times (subst AreWithin within.parts (within.in_time exact)) (subst (AreAbove n) within.parts above))

    all_hasten : (added : List Placed) → Each (IsPrompt jobs turns log) added old → (clock ≡ Exact → Each Busy added old) → (clock ≡ Exact → tunnel.Each (λ r x. x.now ≤ newest_time r + 100) old added) → tunnel.Each BeatsInTime old added → tunnel.Each LeavesAlone old added
        → Each Goes added old → Each (Hastens clock jobs turns log) added old
    all_hasten [] prompt sends short beats alone goes = tt
    all_hasten (p ∷ added) prompt sends short beats alone goes = (
      record {
        prompt = prompt.0;
        loses_none = by_clock clock (added ++ old) p (λ exact. (sends exact).0) (λ exact. (short exact).0) beats.0 (shut (entries (added ++ old)) p.what alone.0.ends_none) (renews_not p.what alone.0.seeks_none.renews_not);
        goes_on = goes.0;
      },
      all_hasten added prompt.1 (λ exact. (sends exact).1) (λ exact. (short exact).1) beats.1 alone.1 goes.1,
    )

    pub poll_hastens : (added : List Placed) → Each (IsPrompt jobs turns log) added old → PollsWithin clock longest old added → AreAbove n added → tunnel.Each BeatsInTime old added → tunnel.Each LeavesAlone old added → Each Goes added old
        → Each (Hastens clock jobs turns log) added old
    poll_hastens added prompt within above beats alone goes = all_hasten added prompt (λ exact. busy exact added within above) within.short beats alone goes

  -- ---- promptly: each poll was, or nothing is left to be done

  pub each_prompt : (added old : List Placed) → AllPrompt old added → Each (IsPrompt jobs turns log) added old
  each_prompt [] old h = tt
  each_prompt (p ∷ added) old h = (λ u. h.0, each_prompt added old h.1)

  pub each_over : (added old : List Placed) → IsAllOver jobs turns log → Each (IsPrompt jobs turns log) added old
  each_over [] old over = tt
  each_over (p ∷ added) old over = (none, each_over added old over)
    where
      none : JobUnfinished jobs log ⊎ TurnUnfinished turns log → PollsPromptly (entries (added ++ old)) p.what
      none (inl u) = absurd (over.jobs_over u)
      none (inr u) = absurd (over.turns_told u)
