-- Within one poll no deadline is passed over: no wait goes on past it. Where a new endpoint is to be taken no heartbeat is, all the same, and no third
-- failed try.
use Rattle.std.proofs.Common.{◌≡◌, ℕ, ◌+◌, ◌<◌, ◌≤◌, List, [], ◌∷◌, ◌++◌, Bool, true, false, refl, sym, subst, ap, ◌∙◌, arith}
use Rattle.std.specs.Prelude.{◌&&◌, ◌==◌, nat_lt, length}
use Rattle.std.proofs.lemmas.Bool.{or_parts}
use Rattle.std.proofs.lemmas.Bool.Decides.{nat_tests}
use Rattle.line_model.specs.Record.{Item, Quiet, Entry, entry, Placed, entries, is_poll}
use Rattle.line_model.specs.LinkStory.{Clock, Exact, Running, newest_time, AreWaits}
use Rattle.line_model.specs.ChannelLost.{own}
use Rattle.line_model.specs.ClientView as seen
use Rattle.line_model.specs.ClientView.{ClientChannel, channel, after_entry}
use Rattle.line_model.specs.Faults.{tries}
use Rattle.line_model.specs.Haste.{is_beat_overdue, is_wait, is_at_end_of_wait}
use Rattle.line_model.specs.Renews.{is_left, is_late, is_overdue, is_repeat_due, is_beat_due, PollsPromptly, to_last_poll, to_poll_before}
use Rattle.line_model.specs.ClientEnd.{ClientEnd, Idle, Seeking, Open, Leaving, JustLost, is_over}
use Rattle.tunnel_link.specs.declared.known.Known.{Known}
use Rattle.tunnel_link.specs.Goes.{TimesMove}
use Rattle.tunnel_link.specs.Kept as kept
use Rattle.tunnel_link.specs.Kept.{next_due, is_over_for}
use Rattle.tunnel_link.specs.Rights.{FitsNow, FitsRecord}
use Rattle.tunnel_link.specs.Adds.{AllPrompt}
use Rattle.tunnel_link.specs.Alone.{Each}
use Rattle.tunnel_link.specs.Paces.{BeatsInTime, HasTriesLeft, PollsOnce, NoPoll, Polls, PollsAndSends}
use Rattle.tunnel_link.proofs.Deadlines.{WaitsUntil, waits_before, timely}
use Rattle.tunnel_link.proofs.Late.{late_same, late_before, quiet_late}
use Rattle.tunnel_link.proofs.PollParts.{IsPolling}
use Rattle.tunnel_link.proofs.Polls.{newest_last, waits_all}
use Rattle.tunnel_link.proofs.Times.{moves_up, last_poll_time, poll_before_time, waits_rise, waits_move, first_wait}
use Rattle.tunnel_link.proofs.Waited.{Waited, InTime, Lapsed, Unheard, none_stays}

-- ---- while the wait goes on

in_time_of : (k : Known) (old ws : List Placed) → Waited k old ws → is_over_for k (newest_time (entries (ws ++ old))) ≡ false → FitsRecord k (entries (ws ++ old))
in_time_of k old ws (InTime f a) o = f
in_time_of k old ws (Lapsed h one) o = absurd (let over : (is_over_for k (newest_time (entries (ws ++ old))) ≡ true) = h.over in cc)
in_time_of k old ws (Unheard h a) o =
    let both = or_parts (kept.is_late k.flight (newest_time (entries (ws ++ old)))) (is_over k.channel (newest_time (entries (ws ++ old)))) o in
    absurd (let over : (is_over k.channel (newest_time (entries (ws ++ old))) ≡ true) = ap (λ (end : ClientEnd). is_over end (newest_time (entries (ws ++ old)))) h.is ∙ h.over in let none : (is_over k.channel (newest_time (entries (ws ++ old))) ≡ false) = both.1 in cc)

stays_here : (end : ClientEnd) (ch : ClientChannel) (at : ℕ) → FitsNow end ch → FitsNow end (after_entry ch (entry Quiet at)) → is_left ch ≡ false → is_left (after_entry ch (entry Quiet at)) ≡ false
stays_here Idle ch at f g h = rw (none_stays ch Quiet at refl f) h
stays_here (Seeking since) ch at f g h = rw g refl
stays_here (Open e) ch at f g h = rw g.is refl
stays_here (Leaving e) ch at f g h = rw g.is refl
stays_here (JustLost c) ch at f g h = absurd f

not_overdue : (ch : ClientChannel) (l : List Entry) → (is_left ch && is_left (channel l)) ≡ false → is_late ch (newest_time l) ≡ false → is_overdue ch l ≡ false
not_overdue ch [] left late = refl
not_overdue ch (x ∷ l) left late = rw (left, late) refl

and_none : (a b : Bool) → (b ≡ true → a ≡ false) → (a && b) ≡ false
and_none true true h = h refl
and_none true false h = refl
and_none false b h = refl

last_of_waits : (x : Entry) (r : List Entry) → x.what ≡ Quiet → to_last_poll (x ∷ r) ≡ x ∷ r
last_of_waits x r q = rw q refl

before_waits : (x : Entry) (r : List Entry) → x.what ≡ Quiet → to_poll_before (x ∷ r) ≡ to_last_poll r
before_waits x r q = rw q refl

quiet_is : (p : Placed) → p.what.what ≡ Quiet → p.what ≡ entry Quiet p.what.now
quiet_is p q = ap (λ (what : Item). entry what p.what.now) q

-- what isn't late is no heartbeat that is overdue
beat_in_time : (ch : ClientChannel) (l : List Entry) → is_late ch (newest_time l) ≡ false → is_beat_overdue ch l ≡ false
beat_in_time seen.Fresh l late = refl
beat_in_time (seen.Sought since) l late = refl
beat_in_time (seen.RefusedBy status) l late = refl
beat_in_time seen.Unanswered l late = refl
beat_in_time (seen.Open c m) [] late = refl
beat_in_time (seen.Open c m) (x ∷ l) late = (or_parts (is_repeat_due (own c m).sent x.now) (is_beat_due c m x.now) late).1
beat_in_time (seen.Lost c) l late = refl

is_before : (a b : ℕ) → nat_lt a b ≡ true → a < b
is_before a b e = grind (arith, nat_tests)

isnt_before : (a b : ℕ) → nat_lt a b ≡ false → b ≤ a
isnt_before a b e = grind (arith, nat_tests)

less_is : (a b : ℕ) → a < b → nat_lt a b ≡ true
less_is a b lt = grind (arith, nat_tests)

same_is : (a b : ℕ) → a ≡ b → (a == b) ≡ true
same_is a b e = grind (arith, nat_tests)

-- a wait in which time passed, and what comes at its end
at_end : (r : List Entry) (x y : Entry) → x.what ≡ Quiet → newest_time r < x.now → y.now ≡ x.now → is_at_end_of_wait Exact (x ∷ r) y ≡ true
at_end r x y quiet later same =
    let both : ((is_wait x.what && nat_lt (newest_time r) x.now) && (y.now == x.now)) ≡ true = rw (quiet, less_is (newest_time r) x.now later, same_is y.now x.now same) refl in
    both

module _ (k : Known) (old : List Placed) (f : FitsRecord k (entries old)) (moves : TimesMove (entries old)) (acted : is_late (channel (entries old)) (newest_time (entries old)) ≡ false) (until : ℕ) (w : WaitsUntil (next_due k) (newest_time (entries old)) until) where
  record Still (ws : List Placed) : Type 0 where
    pub fits : FitsRecord k (entries (ws ++ old))
    pub in_time : is_late (channel (entries (ws ++ old))) (newest_time (entries (ws ++ old))) ≡ false

  still : (ws : List Placed) → AreWaits (newest_time (entries old)) (entries ws) → newest_time (entries (ws ++ old)) < until → Still ws
  still [] h lt = record { fits = f; in_time = acted }
  still (p ∷ ws) h lt =
      let on_time = timely k p.what.now (waits_before k (entries old) until f acted w p.what.now (let up = waits_rise old ws h.2 in let rises = h.1 in let last = newest_last old ws in omega arith) lt) in
      let fits : FitsRecord k (p.what ∷ entries (ws ++ old)) = in_time_of k old (p ∷ ws) (waits_all k old (p ∷ ws) f h) on_time.0 in
      record { fits = fits; in_time = late_same k.channel (channel (p.what ∷ entries (ws ++ old))) p.what.now fits.end ∙ on_time.1 }

  -- nothing that was late at the end of the poll before the last
  next_late : (ws : List Placed) → AreWaits (newest_time (entries old)) (entries ws) → newest_time (entries (ws ++ old)) ≤ until → is_late (channel (entries (ws ++ old))) (newest_time (to_poll_before (entries (ws ++ old)))) ≡ false
  next_late [] h le = late_before (channel (entries old)) (newest_time (to_poll_before (entries old))) (newest_time (entries old)) (poll_before_time (entries old) moves) acted
  next_late (p ∷ ws) h le =
      let rises : newest_time (entries (ws ++ old)) < p.what.now = (let last = newest_last old ws in let up = h.1 in omega arith) in
      let s : Still ws = still ws h.2 (omega arith) in
      let last : newest_time (to_last_poll (entries (ws ++ old))) ≤ newest_time (entries (ws ++ old)) = last_poll_time (entries (ws ++ old)) (waits_move old ws moves h.2) in
      rw (before_waits p.what (entries (ws ++ old)) h.0)
      (rw (quiet_is p h.0) (quiet_late (channel (entries (ws ++ old))) p.what.now (newest_time (to_last_poll (entries (ws ++ old)))) (omega arith)
      (late_before (channel (entries (ws ++ old))) (newest_time (to_last_poll (entries (ws ++ old)))) (newest_time (entries (ws ++ old))) last s.in_time)))

  -- ---- of each entry: what holds of one that is no poll, and of one more while the wait goes on

  module _ (P : List Entry → Entry → Type 0) (sends : (r : List Entry) (x : Entry) → is_poll x.what ≡ false → P r x)
      (next : (ws : List Placed) → AreWaits (newest_time (entries old)) (entries ws) → newest_time (entries (ws ++ old)) ≤ until → (x : Entry) → P (entries (ws ++ old)) x) where
    waits_each : (ws : List Placed) → AreWaits (newest_time (entries old)) (entries ws) → newest_time (entries (ws ++ old)) ≤ until → Each P old ws
    waits_each [] h le = tt
    waits_each (p ∷ ws) h le =
        let rises : newest_time (entries (ws ++ old)) ≤ until = (let last = newest_last old ws in let up = h.1 in omega arith) in
        (next ws h.2 rises p.what, waits_each ws h.2 rises)

    once_each : (rest ws : List Placed) → PollsOnce rest → AreWaits (newest_time (entries old)) (entries ws) → newest_time (entries (ws ++ old)) ≤ until → Each P old (rest ++ ws)
    once_each rest ws NoPoll h le = waits_each ws h le
    once_each rest ws (Polls p) h le = (next ws h le p.what, waits_each ws h le)
    once_each rest ws (PollsAndSends s p n) h le = (sends (entries (p ∷ (ws ++ old))) s.what n, (next ws h le p.what, waits_each ws h le))

    polling_each : (clock : Clock) (wait : ℕ) (added : List Placed) → until ≡ newest_time (entries old) + wait → IsPolling clock wait old added → Each P old added
    polling_each clock wait added same p = rw p.parts (once_each p.rest p.waits p.once p.times (let le = p.in_time in omega arith))

  pub polling_beats : (clock : Clock) (wait : ℕ) (added : List Placed) → until ≡ newest_time (entries old) + wait → IsPolling clock wait old added → Each BeatsInTime old added
  polling_beats = polling_each BeatsInTime (λ r x none poll. absurd (let z : true ≡ false = sym poll ∙ none in cc)) (λ ws h le x poll. beat_in_time (channel (entries (ws ++ old))) (to_poll_before (entries (ws ++ old))) (next_late ws h le))

  -- ---- the tries: three may have failed only where the last wait ends at a deadline, and nothing comes later than that

  next_tries : (ws : List Placed) → AreWaits (newest_time (entries old)) (entries ws) → newest_time (entries (ws ++ old)) ≤ until → (x : Entry) → newest_time (entries (ws ++ old)) ≤ x.now → x.now ≤ until → HasTriesLeft Exact (entries (ws ++ old)) x
  next_tries [] h le x later upto = λ poll here. f.few
  next_tries (p ∷ ws) h le x later upto = λ poll here. by_end (nat_lt p.what.now until) refl here
    where
      by_end : (early : Bool) → nat_lt p.what.now until ≡ early → is_at_end_of_wait Exact (p.what ∷ entries (ws ++ old)) x ≡ false → length (tries (p.what ∷ entries (ws ++ old))) < 3
      by_end true e here = (still (p ∷ ws) h (is_before p.what.now until e)).fits.few
      by_end false e here =
          let rises : newest_time (entries (ws ++ old)) < p.what.now = (let last = newest_last old ws in let up = h.1 in omega arith) in
          let end : until ≤ p.what.now = isnt_before p.what.now until e in
          let since : p.what.now ≤ x.now = later in
          absurd (let z : true ≡ false = sym (at_end (entries (ws ++ old)) p.what x h.0 rises (omega (arith, end, since, upto))) ∙ here in cc)

  no_tries : (clock : Clock) (r : List Entry) (x : Entry) → is_poll x.what ≡ false → HasTriesLeft clock r x
  no_tries clock r x none poll = absurd (let z : true ≡ false = sym poll ∙ none in cc)

  waits_tries : (ws : List Placed) → AreWaits (newest_time (entries old)) (entries ws) → newest_time (entries (ws ++ old)) ≤ until → Each (HasTriesLeft Exact) old ws
  waits_tries [] h le = tt
  waits_tries (p ∷ ws) h le =
      let rises : newest_time (entries (ws ++ old)) ≤ p.what.now = (let last = newest_last old ws in let up = h.1 in omega arith) in
      (next_tries ws h.2 (omega arith) p.what rises le, waits_tries ws h.2 (omega arith))

  once_tries : (rest ws : List Placed) → PollsOnce rest → AreWaits (newest_time (entries old)) (entries ws) → newest_time (entries (ws ++ old)) ≤ until → TimesMove (entries ((rest ++ ws) ++ old)) → newest_time (entries ((rest ++ ws) ++ old)) ≤ until
      → Each (HasTriesLeft Exact) old (rest ++ ws)
  once_tries rest ws NoPoll h le times upto = waits_tries ws h le
  once_tries rest ws (Polls p) h le times upto = (next_tries ws h le p.what (moves_up _ (newest_time (entries (ws ++ old))) p.what.now times.0) upto, waits_tries ws h le)
  once_tries rest ws (PollsAndSends s p n) h le times upto =
      let sent : p.what.now ≤ s.what.now = moves_up _ p.what.now s.what.now times.0 in
      let most : s.what.now ≤ until = upto in
      (no_tries Exact (entries (p ∷ (ws ++ old))) s.what n, (next_tries ws h le p.what (moves_up _ (newest_time (entries (ws ++ old))) p.what.now times.1.0) (omega (arith, sent, most)), waits_tries ws h le))

  -- one that is one entry is made where this end knew what the record says
  whole_tries : (rest : List Placed) → PollsOnce rest → Each (HasTriesLeft Running) old (rest ++ [])
  whole_tries rest NoPoll = tt
  whole_tries rest (Polls p) = ((λ poll here. f.few), tt)
  whole_tries rest (PollsAndSends s p n) = (no_tries Running (p.what ∷ entries old) s.what n, ((λ poll here. f.few), tt))

  pub polling_tries : (clock : Clock) (wait : ℕ) (added : List Placed) → until ≡ newest_time (entries old) + wait → TimesMove (entries (added ++ old)) → IsPolling clock wait old added → Each (HasTriesLeft clock) old added
  polling_tries Exact wait added same times p =
      subst (λ (l : List Placed). Each (HasTriesLeft Exact) old l) (sym p.parts)
      (once_tries p.rest p.waits p.once p.times (let le = p.in_time in omega arith) (subst (λ (l : List Placed). TimesMove (entries (l ++ old))) p.parts times)
      (subst (λ (l : List Placed). newest_time (entries (l ++ old)) ≤ until) p.parts (let le = p.ends refl in omega (arith, le, same))))
  polling_tries Running wait added same times p =
      subst (λ (l : List Placed). Each (HasTriesLeft Running) old l) (sym (p.parts ∙ ap (λ (l : List Placed). p.rest ++ l) (p.at_once refl))) (whole_tries p.rest p.once)

  -- ---- and where no new endpoint was to be taken

  module _ (most : until ≤ newest_time (entries old) + 100) (sought : is_left (channel (entries old)) ≡ false) where
    here : (ws : List Placed) → AreWaits (newest_time (entries old)) (entries ws) → newest_time (entries (ws ++ old)) < until → is_left (channel (entries (ws ++ old))) ≡ false
    here [] h lt = sought
    here (p ∷ ws) h lt =
        let rises : newest_time (entries (ws ++ old)) < p.what.now = (let last = newest_last old ws in let up = h.1 in omega arith) in
        let before : Still ws = still ws h.2 (omega arith) in
        let after : Still (p ∷ ws) = still (p ∷ ws) h lt in
        let quiet : (p.what ≡ entry Quiet p.what.now) = quiet_is p h.0 in
        rw quiet (stays_here k.channel (channel (entries (ws ++ old))) p.what.now before.fits.end (subst (λ (x : Entry). FitsNow k.channel (after_entry (channel (entries (ws ++ old))) x)) quiet after.fits.end) (here ws h.2 (omega arith)))

    -- what was left at the poll before isn't left after one more wait
    left_once : (p : Placed) (ws : List Placed) → AreWaits (newest_time (entries old)) (entries (p ∷ ws)) → p.what.now ≤ until → is_left (channel (to_last_poll (entries (ws ++ old)))) ≡ true → is_left (channel (p.what ∷ entries (ws ++ old))) ≡ false
    left_once p [] h le left = rw (quiet_is p h.0) (first_wait (entries old) p.what.now moves sought (omega arith) left)
    left_once p (q ∷ ws) h le left =
        let still_here : is_left (channel (q.what ∷ entries (ws ++ old))) ≡ false = here (q ∷ ws) h.2 (let up = h.1 in omega arith) in
        let same : (to_last_poll (q.what ∷ entries (ws ++ old)) ≡ q.what ∷ entries (ws ++ old)) = last_of_waits q.what (entries (ws ++ old)) h.2.0 in
        absurd (let some : (is_left (channel (q.what ∷ entries (ws ++ old))) ≡ true) = rw same at left in cc)

    next_left : (ws : List Placed) → AreWaits (newest_time (entries old)) (entries ws) → newest_time (entries (ws ++ old)) ≤ until → (is_left (channel (entries (ws ++ old))) && is_left (channel (to_poll_before (entries (ws ++ old))))) ≡ false
    next_left [] h le = rw sought refl
    next_left (p ∷ ws) h le =
        rw (before_waits p.what (entries (ws ++ old)) h.0)
        (and_none (is_left (channel (p.what ∷ entries (ws ++ old)))) (is_left (channel (to_last_poll (entries (ws ++ old))))) (left_once p ws h le))

    next_prompt : (ws : List Placed) → AreWaits (newest_time (entries old)) (entries ws) → newest_time (entries (ws ++ old)) ≤ until → (x : Entry) → PollsPromptly (entries (ws ++ old)) x
    next_prompt ws h le x = λ poll. not_overdue (channel (entries (ws ++ old))) (to_poll_before (entries (ws ++ old))) (next_left ws h le) (next_late ws h le)

    pub polling_prompt : (clock : Clock) (wait : ℕ) (added : List Placed) → until ≡ newest_time (entries old) + wait → IsPolling clock wait old added → AllPrompt old added
    polling_prompt = polling_each PollsPromptly (λ r x none poll. absurd (let z : true ≡ false = sym poll ∙ none in cc)) next_prompt
