-- How a poll goes on, and how it ends.
use Rattle.std.proofs.Common.{◌≡◌, ℕ, ◌+◌, ◌-◌, ◌≤◌, List, [], ◌∷◌, ◌++◌, length, take, Option, Some, None, refl, ap, sym, subst, ◌∙◌, arith}
use Rattle.std.specs.Prelude.{slice_get, IfNone, OnErr, Result, Ok, Err}
use Rattle.std.proofs.lemmas.List.{take_all}
use Rattle.line_model.specs.LinkStory.{Recorded, Exact, Polls, PollsRecord, AreWaits, last_wait, newest_time}
use Rattle.line_model.specs.Network.{Sent, OfSent}
use Rattle.line_model.specs.Record.{Item, Got, Quiet, Entry, entry, got}
use Rattle.tunnel_sim.specs.Tunnels.{AreShort}
use Rattle.address_world.specs.AddressWorld.{Down, Pass, replay}
use Rattle.address_world.specs.AddressStory.{record_of}
use Rattle.address_sim.specs.Told.{RunNow, start, story, time}
use Rattle.address_sim.specs.Turns.{RunState, seen, world, now, Stays, Happens, Gets, GoesUnseen, SameRecord, EndedSo}
use Rattle.address_sim.proofs.Seen.{newest, passes, seen_record, timeless, unseen_record, unseen_timeless}

-- ---- the record of a run

abbrev pub entries : RunNow → List Entry
entries r = record_of (start r) r.events

pub newest_now : (r : RunNow) → newest_time (entries r) ≡ time r
newest_now r = newest (start r) r.events refl

pub same_itself : (r : RunNow) → SameRecord r r
same_itself r = record { begun = refl; entries = refl; time = refl }

pub same_stays : (old new : RunNow) → new ≡ old → SameRecord old new
same_stays old new e = subst (SameRecord old) (sym e) (same_itself old)

pub same_then : (old mid new : RunNow) → SameRecord old mid → SameRecord mid new → SameRecord old new
same_then old mid new one other = record { begun = other.begun ∙ one.begun; entries = other.entries ∙ one.entries; time = other.time ∙ one.time }

pub unseen_same : (old new : RunState) → GoesUnseen old new → SameRecord (seen old) (seen new)
unseen_same old new goes = subst (SameRecord (seen old)) (sym goes.happens.went) (record {
  begun = refl;
  entries = unseen_record (start (seen old)) old.events goes.event goes.unseen;
  time = unseen_timeless (world old) goes.event goes.unseen;
})

pub unseen_more : (old mid new : RunState) → SameRecord (seen old) (seen mid) → GoesUnseen mid new → SameRecord (seen old) (seen new)
unseen_more old mid new before goes = same_then (seen old) (seen mid) (seen new) before (unseen_same mid new goes)

pub stays_more : (old mid new : RunState) → SameRecord (seen old) (seen mid) → Stays mid new → SameRecord (seen old) (seen new)
stays_more old mid new before stays = same_then (seen old) (seen mid) (seen new) before (same_stays (seen mid) (seen new) stays)

-- ---- waits so far

-- waits of a poll into which something fell, and so much of it is left
pub record WaitsSo (old new : RunNow) (left wait : ℕ) : Type 0 where
  pub begun : new.begun ≡ old.begun
  pub waits : List Entry
  pub are : AreWaits (time old) waits
  pub later : last_wait (time old) waits ≤ time new
  pub all : entries new ≡ waits ++ entries old
  pub left_over : time new + left ≡ time old + wait

pub no_waits : (r : RunNow) (wait : ℕ) → WaitsSo r r wait wait
no_waits r wait = record { begun = refl; waits = []; are = tt; later = omega arith; all = refl; left_over = refl }

pub waits_same : (old mid new : RunNow) (left wait : ℕ) → WaitsSo old mid left wait → SameRecord mid new → WaitsSo old new left wait
waits_same old mid new left wait before same = record {
  begun = same.begun ∙ before.begun;
  waits = before.waits;
  are = before.are;
  later = let at : time new ≡ time mid = same.time in omega (arith, before.later, at);
  all = same.entries ∙ before.all;
  left_over = let at : time new ≡ time mid = same.time in omega (arith, before.left_over, at);
}

-- ---- a datagram, or time, is an entry more

pub record AddsOne (what : Item) (at : ℕ) (old new : RunNow) : Type 0 where
  pub begun : new.begun ≡ old.begun
  pub entries : entries new ≡ entry what at ∷ entries old
  pub time : time new ≡ at

pub got_so : (octets : List ℕ) (o : Option Sent) → length octets ≤ 300 → OfSent (λ s. s.octets ≡ octets) o → got o ≡ Some (Got octets)
got_so octets None short h = absurd h
got_so octets (Some s) short h = ap (λ (l : List ℕ). Some (Got (take 512 l))) h ∙ ap (λ (l : List ℕ). Some (Got l)) (take_all 512 octets (omega (arith, short)))

pub gets_one : (octets : List ℕ) (old new : RunState) → Gets octets old new → AddsOne (Got octets) (now old) (seen old) (seen new)
gets_one octets old new gets =
    let same : (replay (start (seen old)) (Down gets.age ∷ old.events)).tunnel.now ≡ now old = timeless (world old) (Down gets.age) refl in
    subst (AddsOne (Got octets) (now old) (seen old)) (sym gets.happens.went) (record {
      begun = refl;
      entries = seen_record (start (seen old)) old.events (Down gets.age) (Got octets) (got_so octets (slice_get (world old).tunnel.network.down gets.age) gets.short gets.got) ∙ ap (λ (n : ℕ). entry (Got octets) n ∷ entries (seen old)) same;
      time = same;
    })

pub passes_one : (ms : ℕ) (old new : RunState) → Happens old (Pass ms) new → AddsOne Quiet (now old + ms) (seen old) (seen new)
passes_one ms old new happens =
    let more : (replay (start (seen old)) (Pass ms ∷ old.events)).tunnel.now ≡ now old + ms = passes (world old) ms in
    subst (AddsOne Quiet (now old + ms) (seen old)) (sym happens.went) (record {
      begun = refl;
      entries = seen_record (start (seen old)) old.events (Pass ms) Quiet refl ∙ ap (λ (n : ℕ). entry Quiet n ∷ entries (seen old)) more;
      time = more;
    })

-- time passed, and the wait isn't over
pub waits_more : (old mid new : RunNow) (left ms wait : ℕ) → WaitsSo old mid left wait → AddsOne Quiet (time mid + ms) mid new → 1 ≤ ms → ms ≤ left → WaitsSo old new (left - ms) wait
waits_more old mid new left ms wait before adds some few =
    let at : ℕ = time mid + ms in
    let later : time new ≡ at = adds.time in
    record {
      begun = adds.begun ∙ before.begun;
      waits = entry Quiet at ∷ before.waits;
      are = (refl, omega (arith, before.later, some), before.are);
      later = omega (arith, later);
      all = adds.entries ∙ ap (λ (es : List Entry). entry Quiet at ∷ es) before.all;
      left_over = omega (arith, later, before.left_over, few);
    }

-- ---- the end

polls_so : (what : Item) (wait : ℕ) (old new : RunNow) → PollsRecord Exact what wait (time new) (entries old) (entries new) → Polls what wait (time new) (story old) (story new)
polls_so what wait old new polls = (entries old, refl, polls)

pub ends_got : (octets : List ℕ) (old mid new : RunNow) (left wait : ℕ) → WaitsSo old mid left wait → AddsOne (Got octets) (time mid) mid new → length octets ≤ 300 → EndedSo (Some octets) wait old new
ends_got octets old mid new left wait before adds short =
    let since : newest_time (entries old) ≡ time old = newest_now old in
    let at : time new ≡ time mid = adds.time in (
      short,
      polls_so (Got octets) wait old new (record {
        waits = before.waits;
        are = subst (λ (n : ℕ). AreWaits n before.waits) (sym since) before.are;
        later = subst (λ (n : ℕ). last_wait n before.waits ≤ time new) (sym since) (omega (arith, before.later, at));
        ends = omega (arith, since, at, before.left_over);
        all = adds.entries ∙ ap (λ (n : ℕ). entry (Got octets) n ∷ entries mid) (sym at) ∙ ap (λ (es : List Entry). entry (Got octets) (time new) ∷ es) before.all;
      }),
    )

pub ends_quiet : (old mid new : RunNow) (left wait : ℕ) → WaitsSo old mid left wait → AddsOne Quiet (time mid + left) mid new → EndedSo None wait old new
ends_quiet old mid new left wait before adds =
    let since : newest_time (entries old) ≡ time old = newest_now old in
    let at : time new ≡ time mid + left = adds.time in
    polls_so Quiet wait old new (record {
      waits = before.waits;
      are = subst (λ (n : ℕ). AreWaits n before.waits) (sym since) before.are;
      later = subst (λ (n : ℕ). last_wait n before.waits ≤ time new) (sym since) (omega (arith, before.later, at));
      ends = omega (arith, since, at, before.left_over);
      all = adds.entries ∙ ap (λ (n : ℕ). entry Quiet n ∷ entries mid) (sym at) ∙ ap (λ (es : List Entry). entry Quiet (time new) ∷ es) before.all;
    })

-- ---- one poll after what happened at once

pub from_same : (got : Option (List ℕ)) (wait : ℕ) (old mid new : RunNow) → SameRecord old mid → EndedSo got wait mid new → EndedSo got wait old new
from_same None wait old mid new same ended = subst (λ (es : List Entry). Polls Quiet wait (time new) (Recorded Exact es) (story new)) same.entries ended
from_same (Some octets) wait old mid new same ended = (ended.0, subst (λ (es : List Entry). Polls (Got octets) wait (time new) (Recorded Exact es) (story new)) same.entries ended.1)

pub short_so : (octets : List ℕ) (sent : List Sent) (age : ℕ) → AreShort sent → OfSent (λ s. s.octets ≡ octets) (slice_get sent age) → length octets ≤ 300
short_so octets sent age short got = by_sent (slice_get sent age) refl got
  where
    by_sent : (o : Option Sent) → slice_get sent age ≡ o → OfSent (λ s. s.octets ≡ octets) o → length octets ≤ 300
    by_sent None there h = absurd h
    by_sent (Some s) there h = subst (λ (l : List ℕ). length l ≤ 300) h (short age s there)

-- ---- options and results, whatever they are

pub IfNoneAny : {X : Type 0} (o : Option X) (P : Type 0) → P → IfNone o P
IfNoneAny None P p = p
IfNoneAny (Some x) P p = tt

pub OnErrAny : {X E : Type 0} (result : Result X E) (P : Type 0) → P → OnErr result P
OnErrAny (Ok x) P p = tt
OnErrAny (Err why) P p = p
