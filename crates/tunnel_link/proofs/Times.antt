-- Time moves in polls alone, over every link; and where the record's last poll left no channel, one is sought at most since the newest time.
use Rattle.std.proofs.Common.{◌≡◌, ℕ, ◌+◌, ◌≤◌, List, [], ◌∷◌, ◌++◌, length, Bool, true, false, cond, Option, Some, None, refl, subst, ◌∙◌, arith}
use Rattle.std.specs.Prelude.{slice_get}
use Rattle.std.proofs.lemmas.Bool.Decides.{nat_tests}
use Rattle.knx_model.specs.Connection.{has_passed}
use Rattle.line_model.specs.Network.{Sent}
use Rattle.line_model.specs.Reading.{datagram_in, is_connect_request}
use Rattle.line_model.specs.Record.{Item, Put, Renewed, Got, Quiet, Entry, entry, is_poll, got, item_of, item_at, Placed, placed, placed_if, counted, entries}
use Rattle.line_model.specs.LinkStory.{Story, Untold, Recorded, Full, places_in, newest_time, AreWaits}
use Rattle.line_model.specs.Tunnel.{Tunnel, TunnelEvent, Send, From, Renew, Up, UpRefused, Down, LoseUp, LoseDown, Carried, Heard, Repeat, Close, Pass, Elsewhere, after}
use Rattle.line_model.specs.World.{World, Event, tunnel_event, now, step, replay}
use Rattle.line_model.specs.Fresh.{IsFresh}
use Rattle.line_model.specs.ClientView as seen
use Rattle.line_model.specs.ClientView.{ClientChannel, channel, after_entry}
use Rattle.line_model.specs.ChannelLost.{answer_wait}
use Rattle.line_model.specs.Renews.{is_left, to_last_poll, to_poll_before}
use Rattle.line_model.proofs.Entries.{entries_counted}
use Rattle.tunnel_link.specs.Goes.{MovesSo, TimesMove, Keeps}
use Rattle.tunnel_link.proofs.Clock.{next_now, never_falls, newest_is_now}
use Rattle.tunnel_link.proofs.Growth.{same_places}
use Rattle.tunnel_link.proofs.Polls.{newest_last}

-- ---- of a run's places

got_polls : (o : Option Sent) (what : Item) → got o ≡ Some what → is_poll what ≡ true
got_polls None what h = absurd (cc)
got_polls (Some s) (Put octets) h = absurd (cc)
got_polls (Some s) Renewed h = absurd (cc)
got_polls (Some s) (Got octets) h = refl
got_polls (Some s) Quiet h = absurd (cc)

-- what is no poll takes no time
stands_still : (t : Tunnel) (e : TunnelEvent) (what : Item) → item_of t e ≡ Some what → is_poll what ≡ false → (after t e).now ≡ t.now
stands_still t (Send octets) what h p = refl
stands_still t (From endpoint octets) what h p = refl
stands_still t Renew what h p = refl
stands_still t (Up age) what h p = absurd (cc)
stands_still t (UpRefused age status) what h p = absurd (cc)
stands_still t (Down age) what h p = absurd (let polls : (is_poll what ≡ true) = got_polls (slice_get t.network.down age) what h in cc)
stands_still t (LoseUp age) what h p = absurd (cc)
stands_still t (LoseDown age) what h p = absurd (cc)
stands_still t (Carried confirmation) what h p = absurd (cc)
stands_still t (Heard frames) what h p = absurd (cc)
stands_still t Repeat what h p = absurd (cc)
stands_still t Close what h p = absurd (cc)
stands_still t (Pass ms) what h p = absurd (let same : (Quiet ≡ what) = (cc) in let polls : (is_poll what ≡ true) = subst (λ (w : Item). is_poll w ≡ true) same refl in cc)
stands_still t Elsewhere what h p = absurd (cc)

moves_so : (w : World) (e : Event) (what : Item) → item_at w e ≡ Some what → (b : Bool) → is_poll what ≡ b → MovesSo b (now w) (now (step w e))
moves_so w e what h true p = never_falls w e
moves_so w e what h false p = next_now _ ∙ stands_still w.tunnel (tunnel_event w e) what h p

module _ (start : World) (e : Event) (events : List Event) (fresh : IsFresh start) (before : TimesMove (entries (placed start events))) where
  one_moves : (o : Option Item) → item_at (replay start events) e ≡ o → TimesMove (entries (placed_if (length (e ∷ events)) (now (replay start (e ∷ events))) o (placed start events)))
  one_moves None h = before
  one_moves (Some what) h = (rw (newest_is_now start events fresh) (moves_so (replay start events) e what h (is_poll what) refl), before)

placed_move : (start : World) (events : List Event) → IsFresh start → TimesMove (entries (placed start events))
placed_move start [] fresh = tt
placed_move start (e ∷ events) fresh = one_moves start e events fresh (placed_move start events fresh) (item_at (replay start events) e) refl

pub times_told : (story : Story) (old : List Placed) → Keeps story → places_in story ≡ Some old → TimesMove (entries old)
times_told Untold old k p = absurd (cc)
times_told (Recorded clock r) old k p = subst (λ (l : List Placed). TimesMove (entries l)) (same_places (Recorded clock r) (counted r) old refl p) (rw (entries_counted r) k)
times_told (Full start events) old k p = subst (λ (l : List Placed). TimesMove (entries l)) (same_places (Full start events) (placed start events) old refl p) (placed_move start events k.fresh)

-- ---- no time is greater than a newer one

pub moves_up : (b : Bool) (before after : ℕ) → MovesSo b before after → before ≤ after
moves_up true before after m = m
moves_up false before after m = omega arith

module _ (x : Entry) (r : List Entry) (m : TimesMove (x ∷ r)) where
  up : newest_time r ≤ x.now
  up = moves_up (is_poll x.what) (newest_time r) x.now m.0

  last_poll_step : newest_time (to_last_poll r) ≤ newest_time r → (b : Bool) → is_poll x.what ≡ b → newest_time (to_last_poll (x ∷ r)) ≤ x.now
  last_poll_step le true q = rw q (omega arith)
  last_poll_step le false q = rw q (let u = up in omega arith)

  poll_before_step : newest_time (to_last_poll r) ≤ newest_time r → newest_time (to_poll_before r) ≤ newest_time r → (b : Bool) → is_poll x.what ≡ b → newest_time (to_poll_before (x ∷ r)) ≤ x.now
  poll_before_step last before true q = rw q (let u = up in omega arith)
  poll_before_step last before false q = rw q (let u = up in omega arith)

pub last_poll_time : (r : List Entry) → TimesMove r → newest_time (to_last_poll r) ≤ newest_time r
last_poll_time [] m = omega arith
last_poll_time (x ∷ r) m = last_poll_step x r m (last_poll_time r m.1) (is_poll x.what) refl

pub poll_before_time : (r : List Entry) → TimesMove r → newest_time (to_poll_before r) ≤ newest_time r
poll_before_time [] m = omega arith
poll_before_time (x ∷ r) m = poll_before_step x r m (last_poll_time r m.1) (poll_before_time r m.1) (is_poll x.what) refl

pub waits_rise : (old ws : List Placed) → AreWaits (newest_time (entries old)) (entries ws) → newest_time (entries old) ≤ newest_time (entries (ws ++ old))
waits_rise old [] h = omega arith
waits_rise old (p ∷ ws) h = let le = waits_rise old ws h.2 in let last = newest_last old ws in let up = h.1 in omega arith

pub waits_move : (old ws : List Placed) → TimesMove (entries old) → AreWaits (newest_time (entries old)) (entries ws) → TimesMove (entries (ws ++ old))
waits_move old [] m h = m
waits_move old (p ∷ ws) m h = (rw (h.0, newest_last old ws) (let up = h.1 in omega arith), waits_move old ws m h.2)

-- ---- where the last poll left no channel, one is sought since the newest time at most

abbrev LeftOrSought : ClientChannel → ℕ → Type 0
LeftOrSought seen.Fresh now = Unit {0}
LeftOrSought (seen.Sought since) now = since ≡ now
LeftOrSought (seen.RefusedBy status) now = Unit {0}
LeftOrSought seen.Unanswered now = Unit {0}
LeftOrSought (seen.Open c l) now = ⊥
LeftOrSought (seen.Lost c) now = Unit {0}

left_so : (ch : ClientChannel) (now : ℕ) → is_left ch ≡ true → LeftOrSought ch now
left_so seen.Fresh now h = tt
left_so (seen.Sought since) now h = absurd (cc)
left_so (seen.RefusedBy status) now h = tt
left_so seen.Unanswered now h = tt
left_so (seen.Open c l) now h = absurd (cc)
left_so (seen.Lost c) now h = tt

fresh_sent : (octets : List ℕ) (now : ℕ) (b : Bool) → LeftOrSought (cond b (seen.Sought now) seen.Fresh) now
fresh_sent octets now true = refl
fresh_sent octets now false = tt

sent_so : (ch : ClientChannel) (what : Item) (now : ℕ) → is_poll what ≡ false → LeftOrSought ch now → LeftOrSought (after_entry ch (entry what now)) now
unfolding after_entry
sent_so ch Renewed now p h = tt
sent_so ch (Got octets) now p h = absurd (cc)
sent_so ch Quiet now p h = absurd (cc)
sent_so seen.Fresh (Put octets) now p h = fresh_sent octets now (is_connect_request (datagram_in octets))
sent_so (seen.Sought since) (Put octets) now p h = h
sent_so (seen.RefusedBy status) (Put octets) now p h = tt
sent_so seen.Unanswered (Put octets) now p h = tt
sent_so (seen.Open c l) (Put octets) now p h = absurd h
sent_so (seen.Lost c) (Put octets) now p h = tt

since_one_more : (x : Entry) (r : List Entry) → TimesMove (x ∷ r) → (is_left (channel (to_last_poll r)) ≡ true → LeftOrSought (channel r) (newest_time r)) → is_left (channel (to_last_poll (x ∷ r))) ≡ true → (b : Bool) → is_poll x.what ≡ b → LeftOrSought (channel (x ∷ r)) x.now
since_one_more x r m before h true q = left_so (channel (x ∷ r)) x.now (rw q at h)
since_one_more x r m before h false q =
    let moves : MovesSo (is_poll x.what) (newest_time r) x.now = m.0 in
    let same : (x.now ≡ newest_time r) = subst (λ (b : Bool). MovesSo b (newest_time r) x.now) q moves in
    sent_so (channel r) x.what x.now q (rw same (before (rw q at h)))

since_last_poll : (r : List Entry) → TimesMove r → is_left (channel (to_last_poll r)) ≡ true → LeftOrSought (channel r) (newest_time r)
since_last_poll [] m h = tt
since_last_poll (x ∷ r) m h = since_one_more x r m (since_last_poll r m.1) h (is_poll x.what) refl

not_passed : (since at : ℕ) → at ≤ since + 100 → has_passed answer_wait since at ≡ false
not_passed since at le = grind (arith, nat_tests)

wait_left : (ch : ClientChannel) (now at : ℕ) → LeftOrSought ch now → is_left ch ≡ false → at ≤ now + 100 → is_left (after_entry ch (entry Quiet at)) ≡ false
unfolding after_entry
wait_left seen.Fresh now at s h le = absurd (cc)
wait_left (seen.Sought since) now at s h le = rw (not_passed since at (omega arith)) refl
wait_left (seen.RefusedBy status) now at s h le = absurd (cc)
wait_left seen.Unanswered now at s h le = absurd (cc)
wait_left (seen.Open c l) now at s h le = absurd s
wait_left (seen.Lost c) now at s h le = absurd (cc)

-- a first wait of at most 100 ms leaves none where the last poll left none
pub first_wait : (r : List Entry) (at : ℕ) → TimesMove r → is_left (channel r) ≡ false → at ≤ newest_time r + 100 → is_left (channel (to_last_poll r)) ≡ true → is_left (after_entry (channel r) (entry Quiet at)) ≡ false
first_wait r at m h le last = wait_left (channel r) (newest_time r) at (since_last_poll r m last) h le
