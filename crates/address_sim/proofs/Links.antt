-- The simulated bus as a link: what a call is to the record that it tells.
use Rattle.std.proofs.Common.{◌≡◌, ℕ, suc, ◌+◌, ◌≤◌, ◌⊎◌, inr, List, [], ◌∷◌, length, take, true, Some, None, Result, Ok, Err, OnOk, OnErr, refl, ap, sym, subst, ◌∙◌, arith}
use Rattle.std.proofs.lemmas.List.{length-append}
use Rattle.line_model.specs.declared.outside.link.LinkFault.{LinkFault}
use Rattle.line_model.specs.declared.outside.link.Polled.{Polled}
use Rattle.line_model.specs.declared.outside.link.Polled.TheVariants as answer
use Rattle.line_model.specs.LinkStory.{Recorded, Exact, Adds, AreWaits, Polls, PollsRecord, PollsNothing, last_wait, newest_time}
use Rattle.line_model.specs.Polled.{PollsAs, PollsSo}
use Rattle.line_model.specs.Record.{Item, Got, Quiet, Entry, entry, item_of}
use Rattle.line_model.specs.World.{Event}
use Rattle.address_world.specs.AddressWorld.{AddressEvent, tunnel_event}
use Rattle.address_sim.specs.Told.{RunNow, happened, start, story, time, world}
use Rattle.address_sim.specs.Turns.{EndedSo, SameRecord}
use Rattle.address_sim.proofs.Seen.{seen_record, timeless, is_still}
use Rattle.address_sim.proofs.Polling.{entries, newest_now}

-- neither its time nor the length of its record falls
pub record RunsLater (old new : RunNow) : Type 0 where
  pub time : time old ≤ time new
  pub entries : length (entries old) ≤ length (entries new)

pub stayed_later : (old new : RunNow) → new ≡ old → RunsLater old new
stayed_later old new same = subst (RunsLater old) (sym same) (record { time = omega arith; entries = omega arith })

-- ---- one event of the client

one_more : (what : Item) (e : AddressEvent) (old : RunNow) → item_of (world old).tunnel (tunnel_event (world old) e) ≡ Some what → is_still e ≡ true
    → entries (happened old e) ≡ entry what (newest_time (entries old)) ∷ entries old
one_more what e old item still =
    seen_record (start old) old.events e what item ∙ ap (λ (n : ℕ). entry what n ∷ entries old) (timeless (world old) e still ∙ sym (newest_now old))

pub added : (what : Item) (e : AddressEvent) (of_line : Event) (old new : RunNow) → item_of (world old).tunnel (tunnel_event (world old) e) ≡ Some what → is_still e ≡ true → new ≡ happened old e → Adds what of_line (story old) (story new)
added what e of_line old new item still same = subst (λ (r : RunNow). Adds what of_line (story old) (story r)) (sym same) (entries old, refl, one_more what e old item still)

pub added_later : (what : Item) (e : AddressEvent) (old new : RunNow) → item_of (world old).tunnel (tunnel_event (world old) e) ≡ Some what → is_still e ≡ true → new ≡ happened old e → RunsLater old new
added_later what e old new item still same =
    let more : length (entries (happened old e)) ≡ suc (length (entries old)) = ap length (one_more what e old item still) in
    let at : time (happened old e) ≡ time old = timeless (world old) e still in
    subst (RunsLater old) (sym same) (record { time = omega (arith, at); entries = omega (arith, more) })

pub either_later : {E : Type 0} (result : Result (Unit {0}) E) (old new went : RunNow) → OnOk result (new ≡ went) → OnErr result (new ≡ old) → RunsLater old went → RunsLater old new
either_later (Ok x) old new went is stays later = subst (RunsLater old) (sym is) later
either_later (Err why) old new went is stays later = stayed_later old new stays

-- and it takes no time
pub either_still : {E : Type 0} (result : Result (Unit {0}) E) (old new went : RunNow) → OnOk result (new ≡ went) → OnErr result (new ≡ old) → time went ≡ time old → time new ≡ time old
either_still (Ok x) old new went is stays still = ap time is ∙ still
either_still (Err why) old new went is stays still = ap time stays

-- ---- a poll

since_waits : (since : ℕ) (waits : List Entry) → AreWaits since waits → since ≤ last_wait since waits
since_waits since [] are = omega arith
since_waits since (x ∷ waits) are = let before : since ≤ last_wait since waits = since_waits since waits are.2 in omega (arith, before, are.1)

record_later : (what : Item) (wait : ℕ) (old new : RunNow) → PollsRecord Exact what wait (time new) (entries old) (entries new) → RunsLater old new
record_later what wait old new polls =
    let since : newest_time (entries old) ≡ time old = newest_now old in
    let before : newest_time (entries old) ≤ last_wait (newest_time (entries old)) polls.waits = since_waits (newest_time (entries old)) polls.waits polls.are in
    let longer : length (entries new) ≡ suc (length polls.waits + length (entries old)) = ap length polls.all ∙ ap suc (length-append polls.waits (entries old)) in
    record { time = omega (arith, since, before, polls.later); entries = omega (arith, longer) }

same_entries : (one other : List Entry) → Recorded Exact one ≡ Recorded Exact other → one ≡ other
same_entries one other e = cc

pub polls_later : (what : Item) (wait : ℕ) (old new : RunNow) → Polls what wait (time new) (story old) (story new) → RunsLater old new
polls_later what wait old new polls =
    record_later what wait old new (subst (λ (es : List Entry). PollsRecord Exact what wait (time new) es (entries new)) (sym (same_entries (entries old) polls.0 polls.1)) polls.2)

nothing_later : (old new : RunNow) → story old ≡ story new → RunsLater old new
nothing_later old new same =
    let all : entries old ≡ entries new = same_entries (entries old) (entries new) same in
    let longer : length (entries old) ≡ length (entries new) = ap length all in
    let times : time old ≡ time new = sym (newest_now old) ∙ ap newest_time all ∙ newest_now new in
    record { time = omega (arith, times); entries = omega (arith, longer) }

pub polled_later : (result : Result Polled LinkFault) (into : List ℕ) (wait : ℕ) (old new : RunNow) → PollsSo result into wait (time new) (story old) (story new) → RunsLater old new
polled_later (Ok (answer.Got n)) into wait old new polls = polls_later (Got (take n into)) wait old new polls.1
polled_later (Ok answer.Quiet) into wait old new polls = polls_later Quiet wait old new polls
polled_later (Err fault) into wait old new polls = nothing_later old new polls

-- ---- what a call answers

pub ok_adds : {E : Type 0} (what : Item) (e : AddressEvent) (of_line : Event) (result : Result (Unit {0}) E) (old new : RunNow) → item_of (world old).tunnel (tunnel_event (world old) e) ≡ Some what → is_still e ≡ true → OnOk result (new ≡ happened old e)
    → OnOk result (Adds what of_line (story old) (story new))
ok_adds what e of_line (Ok x) old new item still went = added what e of_line old new item still went
ok_adds what e of_line (Err why) old new item still went = tt

pub err_stays : {E : Type 0} (P : Type 0) (result : Result (Unit {0}) E) (old new : RunNow) → OnErr result (new ≡ old) → OnErr result (P ⊎ (story new ≡ story old))
err_stays P (Ok x) old new stays = tt
err_stays P (Err why) old new stays = inr (ap story stays)

-- ---- a poll of the run is a poll of the link

pub nothing_happened : (wait : ℕ) (old new : RunNow) → new ≡ old → PollsNothing wait (story old) (story new)
nothing_happened wait old new same = ap story (sym same)

pub nothing_seen : (wait : ℕ) (from old new : RunNow) → from ≡ old → SameRecord from new → PollsNothing wait (story old) (story new)
nothing_seen wait from old new is same = ap story (sym is) ∙ ap (Recorded Exact) (sym same.entries)

pub got_polled : (octets into : List ℕ) (n wait : ℕ) (from old new : RunNow) → from ≡ old → n ≤ 300 → take n into ≡ octets → EndedSo (Some octets) wait from new → PollsAs (answer.Got n) into wait (time new) (story old) (story new)
got_polled octets into n wait from old new is few same ended =
    let polls : Polls (Got (take n into)) wait (time new) (story from) (story new) = subst (λ (os : List ℕ). Polls (Got os) wait (time new) (story from) (story new)) (sym same) ended.1 in
    (omega (arith, few), subst (λ (r : RunNow). Polls (Got (take n into)) wait (time new) (story r) (story new)) is polls)

pub quiet_polled : (into : List ℕ) (wait : ℕ) (from old new : RunNow) → from ≡ old → EndedSo None wait from new → PollsAs answer.Quiet into wait (time new) (story old) (story new)
quiet_polled into wait from old new is ended = subst (λ (r : RunNow). Polls Quiet wait (time new) (story r) (story new)) is ended
