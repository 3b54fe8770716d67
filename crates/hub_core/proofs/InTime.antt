-- A step of the closing waits no longer than it should: what it sends takes no time, and its poll ends with its wait.
use Rattle.std.proofs.Common.{◌≡◌, ◌≢◌, ◌↔◌, ℕ, ◌+◌, ◌<◌, ◌≤◌, Bool, true, false, List, [], ◌∷◌, ◌++◌, map, Option, Some, None, refl, sym, ap, subst, ◌∙◌, arith}
use Rattle.std.proofs.lemmas.Bool.Decides.{nat_tests}
use Rattle.std.specs.Prelude.{◌||◌, ◌&&◌, not, nat_le}
use Rattle.knx_model.specs.Connection.{has_passed}
use Rattle.line_model.specs.declared.group.GroupTurn.{GroupTurn}
use Rattle.line_model.specs.declared.log.LogEntry.{LogEntry}
use Rattle.line_model.specs.Record.{Entry, Placed, entries, is_got, is_poll}
use Rattle.line_model.specs.LinkStory.{Story, Clock, Exact, Running, clock_of, places_in, newest_time, last_wait, AreWaits, EndsBy}
use Rattle.line_model.specs.declared.fault.HubFault.{HubFault}
use Rattle.line_model.specs.Asks.{HasPlace}
use Rattle.line_model.specs.ChannelLost.{answer_wait}
use Rattle.line_model.specs.ClientView.{channel}
use Rattle.line_model.specs.Log.{Job}
use Rattle.line_model.specs.Closing as line
use Rattle.line_model.specs.Waiting.{closing_deadline, OfClosing, PollsSo}
use Rattle.tunnel_link.specs.Adds.{place_of, Growing}
use Rattle.tunnel_link.specs.Goes as tunnel
use Rattle.tunnel_link.specs.Lasts.{LastsRightly, PollsFor}
use Rattle.tunnel_link.specs.Rights.{WhereTold}
use Rattle.tunnel_link.proofs.Growth.{entries_append, exact_in_time, waits_in_time}
use Rattle.tunnel_link.proofs.Times.{times_told}
use Rattle.hub_work.specs.declared.closing.Closing.{Closing}
use Rattle.hub_work.specs.declared.work.Work.{Work}
use Rattle.hub_work.specs.Closes.{closing_of, Begins}
use Rattle.hub_work.specs.Downloaders.{Task, AreJobsWith}
use Rattle.hub_work.specs.Follows.{StaysFitting}
use Rattle.hub_work.specs.Polls.{PollsRightly, came_for, closing_so_far}
use Rattle.hub_core.specs.Closes.{capped, resumed, HasntWaited, WaitsNow, MayAwait, MayAwaitNow}
use Rattle.hub_core.specs.Keeps.{Keeps}
use Rattle.hub_core.specs.Leaving.{EachFrom, WaitsOn}
use Rattle.hub_core.specs.Polls.{has_poll, SendsOnly}
use Rattle.hub_core.specs.Seen.{hub_job_of, tasks_seen}
use Rattle.hub_core.proofs.Closes.{quiet_after, poll_not_got, or_false, sent_time}
use Rattle.hub_core.proofs.Counting.{some_is, told_before}
use Rattle.hub_core.proofs.Leaving.{capped_waited, from_then, on_anywhere}
use Rattle.hub_core.proofs.Polls.{polls_so}

-- ---- what is sent

pub sends_right : (s : line.Closing) (old added : List Placed) → SendsOnly old added → EachFrom line.WaitsSo s (entries old) (entries added)
sends_right s old [] h = tt
sends_right s old (p ∷ added) h =
    let none : (is_poll p.what.what ≡ false) × (has_poll added ≡ false) = or_false (is_poll p.what.what) (has_poll added) h in (
      record {
        polls = λ is late. absurd (let z : true ≡ false = sym is ∙ none.0 in cc);
        gets = λ got. absurd (let z : true ≡ false = sym got ∙ poll_not_got p.what.what none.0 in cc);
      },
      sends_right s old added none.1,
    )

pub waits_sending : (c : Option Closing) (s t : Story) → Growing SendsOnly s t → Growing (WaitsOn c) s t
waits_sending c s t g = on_anywhere line.WaitsSo SendsOnly sends_right c s t g

-- ---- when its wait has passed

end_of : line.Closing → ℕ
end_of (line.Listening since n) = since + line.listening_wait
end_of (line.Leaving since n) = since + answer_wait

deadline_is : (s : line.Closing) → closing_deadline (Some s) ≡ Some (end_of s)
unfolding end_of
deadline_is (line.Listening since n) = refl
deadline_is (line.Leaving since n) = refl

end_capped : (s : line.Closing) → end_of (capped s) ≡ end_of s
unfolding end_of
end_capped (line.Listening since n) = refl
end_capped (line.Leaving since n) = refl

before_end : (s : line.Closing) (now : ℕ) → line.has_waited s now ≡ false → now < end_of s
unfolding end_of
before_end (line.Listening since n) now h = (let z = (or_false (has_passed 1000 since now) (nat_le 64 n) h).0 in grind (arith, nat_tests, z))
before_end (line.Leaving since n) now h = (let z = (or_false (has_passed 10000 since now) (nat_le 64 n) h).0 in grind (arith, nat_tests, z))

waits_before : (s : line.Closing) (now later : ℕ) → line.has_waited s now ≡ false → later < end_of s → line.has_waited s later ≡ false
unfolding end_of
waits_before (line.Listening since n) now later h le =
    let few : nat_le 64 n ≡ false = (or_false (has_passed 1000 since now) (nat_le 64 n) h).1 in
    let time : has_passed 1000 since later ≡ false = (grind (arith, nat_tests, le)) in
    ap (λ (b : Bool). b || nat_le 64 n) time ∙ few
waits_before (line.Leaving since n) now later h le =
    let few : nat_le 64 n ≡ false = (or_false (has_passed 10000 since now) (nat_le 64 n) h).1 in
    let time : has_passed 10000 since later ≡ false = (grind (arith, nat_tests, le)) in
    ap (λ (b : Bool). b || nat_le 64 n) time ∙ few

few_came : (s : line.Closing) (now : ℕ) → line.has_waited s now ≡ false → line.came s < line.most_datagrams
few_came (line.Listening since n) now h = (let z = (or_false (has_passed 1000 since now) (nat_le 64 n) h).1 in grind (arith, nat_tests, z))
few_came (line.Leaving since n) now h = (let z = (or_false (has_passed 10000 since now) (nat_le 64 n) h).1 in grind (arith, nat_tests, z))

-- a poll ends with it: where a worker has work it only looks
ends_in_time : (jobs : List Job) (turns : List GroupTurn) (log : List LogEntry) (places : List Placed) (at now : ℕ) (s : line.Closing) (came : ℕ → ℕ) (wait : ℕ)
    → PollsSo jobs turns log places at now (Some s) came wait → line.has_waited s now ≡ false → now + wait ≤ end_of s
ends_in_time jobs turns log places at now s came wait so waits = by_test (nat_le (now + wait) (end_of s)) refl where
  first : now < end_of s
  first = before_end s now waits

  by_test : (b : Bool) → nat_le (now + wait) (end_of s) ≡ b → now + wait ≤ end_of s
  by_test true t = grind (arith, nat_tests, t)
  by_test false t =
      let some : wait ≢ 0 = λ none. (let le : end_of s < now + wait = (grind (arith, nat_tests, t)) in omega (arith, le, first, none)) in
      let until = so.waits (λ k work. some (so.looks k work)) in
      until.no_longer (end_of s) (OfClosing (deadline_is s)) first

-- ---- a poll

newest_is : (ws r : List Entry) → newest_time (ws ++ r) ≡ last_wait (newest_time r) ws
newest_is [] r = refl
newest_is (x ∷ ws) r = refl

quiet_stays : (s : line.Closing) (since : ℕ) (ws : List Entry) → AreWaits since ws → resumed s ws ≡ s
quiet_stays s since [] h = refl
quiet_stays s since (x ∷ ws) h = quiet_after x (resumed s ws) h.0 ∙ quiet_stays s since ws h.2

module _ (s : line.Closing) (wait : ℕ) (old : List Entry) (waits : line.has_waited s (newest_time old) ≡ false) (ends : newest_time old + wait ≤ end_of s) where
  -- before each entry that takes time it hasn't waited enough
  earlier : (ws : List Entry) (x : Entry) → AreWaits (newest_time old) ws → x.now ≤ newest_time old + wait → newest_time (ws ++ old) < x.now → line.has_waited (resumed s ws) (newest_time (ws ++ old)) ≡ false
  earlier ws x are until late =
      subst (λ (z : line.Closing). line.has_waited z (newest_time (ws ++ old)) ≡ false) (sym (quiet_stays s (newest_time old) ws are))
      (waits_before s (newest_time old) (newest_time (ws ++ old)) waits (omega (arith, late, until, ends)))

  waits_right : (ws : List Entry) → AreWaits (newest_time old) ws → last_wait (newest_time old) ws ≤ newest_time old + wait → EachFrom line.WaitsSo s old ws
  waits_right [] are until = tt
  waits_right (x ∷ ws) are until = (
    record {
      polls = λ is late. earlier ws x are.2 until late;
      gets = λ got. absurd (let z : true ≡ false = sym got ∙ ap is_got are.0 in cc);
    },
    waits_right ws are.2 (let later = are.1 in omega (arith, later, until)),
  )

  -- with a clock that runs nothing was waited for before the last one
  before_last : (clock : Clock) (ws : List Entry) (x : Entry) → AreWaits (newest_time old) ws → EndsBy clock x.what wait (newest_time old) x.now ws → newest_time (ws ++ old) < x.now → line.has_waited (resumed s ws) (newest_time (ws ++ old)) ≡ false
  before_last Exact ws x are by late = earlier ws x are (exact_in_time Exact x.what wait (newest_time old) x.now ws by refl) late
  before_last Running ws x are by late = rw by waits

  last_right : (clock : Clock) (ws : List Entry) (x : Entry) → AreWaits (newest_time old) ws → EndsBy clock x.what wait (newest_time old) x.now ws → line.WaitsSo (ws ++ old) (resumed s ws) x
  last_right clock ws x are by = record {
    polls = λ is late. before_last clock ws x are by late;
    gets = λ got. subst (λ (z : line.Closing). line.came z < line.most_datagrams) (sym (quiet_stays s (newest_time old) ws are)) (few_came s (newest_time old) waits);
  }

poll_right : (clock : Clock) (s : line.Closing) (wait : ℕ) (old added : List Placed) → line.has_waited s (newest_time (entries old)) ≡ false → newest_time (entries old) + wait ≤ end_of s → PollsFor clock wait old added → EachFrom line.WaitsSo s (entries old) (entries added)
poll_right clock s wait old added waits ends p =
    let now : ℕ = newest_time (entries old) in
    let before : last_wait now (entries p.waits) ≤ p.last.what.now = subst (λ (t : ℕ). t ≤ p.last.what.now) (ap newest_time (entries_append p.waits old) ∙ newest_is (entries p.waits) (entries old)) p.later in
    subst (λ (l : List Entry). EachFrom line.WaitsSo s (entries old) l) (sym (ap entries p.parts ∙ entries_append p.sent (p.last ∷ p.waits)))
    (from_then line.WaitsSo s (entries old) (entries (p.last ∷ p.waits)) (entries p.sent)
    (last_right s wait (entries old) waits ends clock (entries p.waits) p.last.what p.times p.ends, waits_right s wait (entries old) waits ends (entries p.waits) p.times (waits_in_time clock p.last.what.what wait now p.last.what.now (entries p.waits) p.ends before))
    (subst (λ (r : List Entry). EachFrom line.WaitsSo (resumed s (entries (p.last ∷ p.waits))) r (entries p.sent)) (entries_append (p.last ∷ p.waits) old)
    (sends_right (resumed s (entries (p.last ∷ p.waits))) ((p.last ∷ p.waits) ++ old) p.sent p.sends)))

-- ---- jobs with these devices and plans

some_job : Task → Job
some_job task = record { device = task.device; image = record { addr = []; assoc = []; objs = []; params = [] }; plan = task.plan; loads = false }

some_jobs : (tasks : List Task) → AreJobsWith tasks (map some_job tasks)
unfolding some_job
some_jobs [] = refl
some_jobs (t ∷ tasks) = ap (λ (ts : List Task). t ∷ ts) (some_jobs tasks)

-- ---- the poll of a step

poll_waits : (clock : Clock) (c : Option Closing) (jobs : List Job) (turns : List GroupTurn) (log : List LogEntry) (places : List Placed) (at : ℕ) (came : ℕ → ℕ) (old added : List Placed) (wait : ℕ)
    → PollsSo jobs turns log places at (newest_time (entries old)) (closing_so_far c) came wait → HasntWaited c (newest_time (entries old)) → PollsFor clock wait old added → WaitsOn c old added
poll_waits clock None jobs turns log places at came old added wait so waits p = absurd waits
poll_waits clock (Some c) jobs turns log places at came old added wait so waits p = λ s come.
    let now : ℕ = newest_time (entries old) in
    let ends : now + wait ≤ end_of s = subst (λ (e : ℕ). now + wait ≤ e) (ap end_of come ∙ end_capped s) (ends_in_time jobs turns log places at now (closing_of c) came wait so waits) in
    poll_right clock s wait old added (sym (capped_waited s now) ∙ subst (λ (z : line.Closing). line.has_waited z now ≡ false) come waits) ends p

module _ (p : ℕ) (s t : Story) (w : Work) (met : Bool) (f : Option HubFault) (none : f ≡ None) (keeps : Keeps p s w met f) (goes : tunnel.GoesOn s t) (law : StaysFitting) (now : ℕ) (then : WhereTold (λ places. now ≡ newest_time (entries places)) s)
    (has_place : Bool) (placed : WhereTold (λ places. (has_place ≡ true) ↔ HasPlace (channel (entries places))) s) (longest : ℕ) (rightly : PollsRightly now has_place w longest) where
  pub polls_wait : Growing (LastsRightly (clock_of s) longest) s t → WaitsNow w.closing s → Growing (WaitsOn w.closing) s t
  polls_wait g waits old e =
      let x = g old e in
      let tasks : List Task = tasks_seen (map hub_job_of w.downloaders) in
      let so = polls_so p s t w met f none keeps goes law now then has_place placed longest rightly (clock_of s) (map some_job tasks) (some_jobs tasks) old x.added e x.is in
      record { new = x.new; told = x.told; added = x.added; grown = x.grown; is = poll_waits (clock_of s) w.closing (map some_job tasks) w.telegrams.turns w.journal.entries old (place_of t) (came_for w.crew) old x.added x.is.wait so (waits old e) x.is.polls }

-- ---- whether a step may poll

-- what only sends takes no time
pub awaits_on : (a b : Option Closing) (s t : Story) → tunnel.GoesOn s t → tunnel.Keeps t → Growing SendsOnly s t → WhereTold (λ places. b ≡ a) s → MayAwaitNow a s → MayAwaitNow b t
awaits_on a b s t goes keeps sends same may new et = by_old (told_before s t new goes et) where
  by_old : (old : List Placed) × (places_in s ≡ Some old) → MayAwait b (newest_time (entries new))
  by_old was =
      let x = sends was.0 was.1 in
      let is : new ≡ x.new = sym (some_is x.new new (sym x.told ∙ et)) in
      let still : newest_time (entries new) ≡ newest_time (entries was.0) =
      ap (λ (l : List Placed). newest_time (entries l)) is
      ∙ (ap newest_time x.grown.entries_grow ∙ sent_time x.added (entries was.0) x.is (subst tunnel.TimesMove x.grown.entries_grow (times_told t x.new keeps x.told))) in
      subst (λ (o : Option Closing). MayAwait o (newest_time (entries new))) (sym (same was.0 was.1)) (subst (MayAwait a) (sym still) (may was.0 was.1))

some_same : (c d : Closing) → Some c ≡ Some d → c ≡ d
some_same c d e = cc

hasnt_waited : (s : line.Closing) (now : ℕ) → (line.is_listening s && line.has_waited s now) ≡ false → (not (line.is_listening s) && line.has_waited s now) ≡ false → line.has_waited s now ≡ false
hasnt_waited (line.Listening since n) now a b = a
hasnt_waited (line.Leaving since n) now a b = b

-- it may poll where the listening isn't over, and the wait for the answer isn't
pub begun_waits : (c : Closing) (o b : Option Closing) (now : ℕ) → b ≡ Some c → Begins now o b → (line.is_listening (closing_of c) && line.has_waited (closing_of c) now) ≡ false → MayAwait o now → HasntWaited b now
begun_waits c o b now is begins asks may = subst (λ (x : Option Closing). HasntWaited x now) (sym is) (hasnt_waited (closing_of c) now asks (by_old o begins may)) where
  by_old : (o : Option Closing) → Begins now o b → MayAwait o now → (not (line.is_listening (closing_of c)) && line.has_waited (closing_of c) now) ≡ false
  by_old None begins may = let e : c ≡ begins.0 = some_same c begins.0 (sym is ∙ begins.1) in subst (λ (z : line.Closing). (not (line.is_listening z) && line.has_waited z now) ≡ false) (sym (ap closing_of e ∙ begins.2)) refl
  by_old (Some p) begins may = subst (λ (z : Closing). (not (line.is_listening (closing_of z)) && line.has_waited (closing_of z) now) ≡ false) (some_same p c (sym begins ∙ is)) may
