-- What this end knows after the waits of a poll and what came in it, and what it answers.
use Rattle.std.proofs.Common.{◌≡◌, ◌⊎◌, inl, inr, ℕ, ◌≤◌, List, [], ◌∷◌, ◌++◌, Bool, true, false, Option, Some, None, refl, sym, ap, ◌∙◌, arith}
use Rattle.std.specs.Prelude.{◌&&◌}
use Rattle.knx_model.specs.declared.frames.ip.IpFrame.{IpFrame}
use Rattle.knx_model.specs.declared.frames.ip.IpFrame.TheVariants.{ConnectRequest, ConnectResponse, StateRequest, StateResponse, DisconnectRequest, DisconnectResponse, TunnellingRequest, TunnellingAck}
use Rattle.knx_model.specs.Connection.{has_passed}
use Rattle.line_model.specs.Reading.{datagram_in}
use Rattle.line_model.specs.Record.{Item, Got, Quiet, Entry, entry, got_in, Placed, entries}
use Rattle.line_model.specs.LinkStory.{newest_time, AreWaits, last_wait}
use Rattle.line_model.specs.ClientView as seen
use Rattle.line_model.specs.ClientView.{ClientChannel, channel, after_entry}
use Rattle.line_model.specs.ChannelLost.{answer_wait, has_lapsed}
use Rattle.line_model.specs.Dropped.{is_dropped, drops_sought}
use Rattle.line_model.specs.Dropped as drop
use Rattle.line_model.specs.Faults.{tries, opens, is_counted, datagrams_taken}
use Rattle.line_model.specs.Faults as fault
use Rattle.line_model.specs.Renews.{owed}
use Rattle.line_model.specs.ClientEnd.{ClientEnd, Idle, Seeking, Open, Leaving, JustLost, is_over}
use Rattle.tunnel_channel.specs.Fits.{HasNone}
use Rattle.tunnel_link.specs.declared.known.Known.{Known}
use Rattle.tunnel_link.specs.Kept.{is_late, is_over_for}
use Rattle.tunnel_link.specs.Rights.{IsRight, FitsNow, FitsRecord}
use Rattle.tunnel_link.proofs.Entries.{poll_right}
use Rattle.tunnel_link.proofs.Waited.{Waited, InTime, Lapsed, Unheard, waited_more, late_or_over, late_is, open_lapsed}
use Rattle.tunnel_link.proofs.Heard.{drops_none, takes_none}

-- ---- the waits

pub newest_last : (old ws : List Placed) → newest_time (entries (ws ++ old)) ≡ last_wait (newest_time (entries old)) (entries ws)
newest_last old [] = refl
newest_last old (p ∷ ws) = refl

pub waits_all : (k : Known) (old ws : List Placed) → FitsRecord k (entries old) → AreWaits (newest_time (entries old)) (entries ws) → Waited k old ws
waits_all k old [] f h = InTime f tt
waits_all k old (p ∷ ws) f h =
    waited_more k old ws p (rw h.0 refl) (let before = newest_last old ws in let lt = h.1 in omega arith) (inl (rw h.0 refl)) (waits_all k old ws f h.2)

pub waited_paid : (k : Known) (old ws : List Placed) → Waited k old ws → owed (entries (ws ++ old)) ≡ None
waited_paid k old ws (InTime f a) = f.paid
waited_paid k old ws (Lapsed h one) = h.paid
waited_paid k old ws (Unheard h a) = h.paid

quiet_right : (k : Known) (r : List Entry) (what : Item) (now : ℕ) → what ≡ Quiet → k.fault ≡ None → owed r ≡ None → IsRight k r → IsRight k (entry what now ∷ r)
quiet_right k r what now q calm paid right =
    poll_right k k r what now (rw q refl) paid right (drops_none k.dropped r (entry what now) (rw q refl) right.drops) (takes_none k.taken r (entry what now) (rw q refl) right.takes) (rw calm tt)

pub waits_right : (k : Known) (old ws : List Placed) → k.fault ≡ None → FitsRecord k (entries old) → AreWaits (newest_time (entries old)) (entries ws) → IsRight k (entries old) → IsRight k (entries (ws ++ old))
waits_right k old [] calm f h right = right
waits_right k old (p ∷ ws) calm f h right = quiet_right k (entries (ws ++ old)) p.what.what p.what.now h.0 calm (waited_paid k old ws (waits_all k old ws f h.2)) (waits_right k old ws calm f h.2 right)

pub fits_with : (k next : Known) (r : List Entry) → next.channel ≡ k.channel → next.flight ≡ k.flight → next.tunnel ≡ k.tunnel → next.put ≡ k.put → next.tries ≡ k.tries → FitsRecord k r → FitsRecord next r
fits_with k next r c p o u t f = record {
  end = rw c f.end;
  current = f.current;
  acknowledged = rw p f.acknowledged;
  confirmed = rw p f.confirmed;
  counts = rw (o, u) f.counts;
  failed = rw t f.failed;
  few = f.few;
  paid = f.paid;
  parted = f.parted;
  first = f.first;
}

-- ---- a datagram that is for no one: the time has ended what it would act on, or it doesn't read

pub record ForNone (r : List Entry) (octets : List ℕ) (now : ℕ) : Type 0 where
  pub drops : is_dropped r (entry (Got octets) now) ≡ true
  pub counts : is_counted r (entry (Got octets) now) ≡ true
  pub opens_none : opens (channel r) (channel (entry (Got octets) now ∷ r)) (entry (Got octets) now) ≡ None

late_frame : (since now : ℕ) (frame : IpFrame) → has_passed answer_wait since now ≡ true → drops_sought since now frame ≡ true
late_frame since now ConnectRequest q = refl
late_frame since now (ConnectResponse ch status tunnel) q = q
late_frame since now (StateRequest ch) q = refl
late_frame since now (StateResponse ch status) q = refl
late_frame since now (DisconnectRequest ch) q = refl
late_frame since now (DisconnectResponse ch status) q = refl
late_frame since now (TunnellingRequest ch number cemi) q = refl
late_frame since now (TunnellingAck ch number status) q = refl

late_drops : (since now : ℕ) (frame : Option IpFrame) → has_passed answer_wait since now ≡ true → drop.drops (seen.Sought since) now frame ≡ true
late_drops since now None q = refl
late_drops since now (Some frame) q = late_frame since now frame q

lapsed_drops : (c : ℕ) (l : List Entry) (now : ℕ) (frame : Option IpFrame) → has_lapsed c l now ≡ true → drop.drops (seen.Open c l) now frame ≡ true
lapsed_drops c l now None q = refl
lapsed_drops c l now (Some frame) q = rw q refl

none_drops : (ch : ClientChannel) (now : ℕ) (frame : Option IpFrame) → HasNone ch → drop.drops ch now frame ≡ true
none_drops ch now None n = refl
none_drops seen.Fresh now (Some frame) n = refl
none_drops (seen.Sought since) now (Some frame) n = absurd n
none_drops (seen.RefusedBy status) now (Some frame) n = refl
none_drops seen.Unanswered now (Some frame) n = refl
none_drops (seen.Open c l) now (Some frame) n = absurd n
none_drops (seen.Lost c) now (Some frame) n = refl

none_opens : (ch after : ClientChannel) (x : Entry) → HasNone ch → opens ch after x ≡ None
none_opens seen.Fresh after x n = refl
none_opens (seen.Sought since) after x n = absurd n
none_opens (seen.RefusedBy status) after x n = refl
none_opens seen.Unanswered after x n = refl
none_opens (seen.Open c l) after x n = absurd n
none_opens (seen.Lost c) after x n = refl

none_counts : (ch : ClientChannel) (x : Entry) → HasNone ch → fault.answers_heartbeat ch x ≡ false
none_counts seen.Fresh x n = refl
none_counts (seen.Sought since) x n = absurd n
none_counts (seen.RefusedBy status) x n = refl
none_counts seen.Unanswered x n = refl
none_counts (seen.Open c l) x n = absurd n
none_counts (seen.Lost c) x n = refl

and_false : (a : Bool) → (a && false) ≡ false
and_false true = refl
and_false false = refl

none_for : (r : List Entry) (octets : List ℕ) (now : ℕ) → HasNone (channel r) → ForNone r octets now
none_for r octets now n = record {
  drops = none_drops (channel r) now (datagram_in octets) n;
  counts = rw (none_counts (channel r) (entry (Got octets) now) n) refl;
  opens_none = none_opens (channel r) (channel (entry (Got octets) now ∷ r)) (entry (Got octets) now) n;
}

sought_for : (r : List Entry) (octets : List ℕ) (now since : ℕ) → channel r ≡ seen.Sought since → has_passed answer_wait since now ≡ true → ForNone r octets now
unfolding after_entry
sought_for r octets now since at q = record { drops = rw at (late_drops since now (datagram_in octets) q); counts = rw at refl; opens_none = rw (at, q) refl }

open_for : (r : List Entry) (octets : List ℕ) (now c : ℕ) (l : List Entry) → channel r ≡ seen.Open c l → has_lapsed c l now ≡ true → ForNone r octets now
open_for r octets now c l at q = record { drops = rw at (lapsed_drops c l now (datagram_in octets) q); counts = rw (at, q) (rw (and_false _) refl); opens_none = rw at refl }

unread_opens : (ch after : ClientChannel) (x : Entry) → got_in x.what ≡ None → opens ch after x ≡ None
unread_opens seen.Fresh after x n = refl
unread_opens (seen.Sought since) seen.Fresh x n = refl
unread_opens (seen.Sought since) (seen.Sought t) x n = refl
unread_opens (seen.Sought since) (seen.RefusedBy status) x n = refl
unread_opens (seen.Sought since) seen.Unanswered x n = refl
unread_opens (seen.Sought since) (seen.Open c l) x n = rw n refl
unread_opens (seen.Sought since) (seen.Lost c) x n = refl
unread_opens (seen.RefusedBy status) after x n = refl
unread_opens seen.Unanswered after x n = refl
unread_opens (seen.Open c l) after x n = refl
unread_opens (seen.Lost c) after x n = refl

unread_counts : (ch : ClientChannel) (octets : List ℕ) (now : ℕ) → datagram_in octets ≡ None → fault.answers_heartbeat ch (entry (Got octets) now) ≡ false
unread_counts seen.Fresh octets now n = refl
unread_counts (seen.Sought since) octets now n = refl
unread_counts (seen.RefusedBy status) octets now n = refl
unread_counts seen.Unanswered octets now n = refl
unread_counts (seen.Open c l) octets now n = rw n refl
unread_counts (seen.Lost c) octets now n = refl

pub unread_for : (r : List Entry) (octets : List ℕ) (now : ℕ) → datagram_in octets ≡ None → ForNone r octets now
unread_for r octets now n = record {
  drops = rw n refl;
  counts = rw (unread_counts (channel r) octets now n) refl;
  opens_none = unread_opens (channel r) (channel (entry (Got octets) now ∷ r)) (entry (Got octets) now) n;
}

in_time_for : (k : Known) (r : List Entry) (f : FitsRecord k r) (octets : List ℕ) (now : ℕ) (le : newest_time r ≤ now) (end : ClientEnd) → k.channel ≡ end → FitsNow end (channel r) → is_over_for k now ≡ true → ForNone r octets now
in_time_for k r f octets now le Idle is g over = none_for r octets now g
in_time_for k r f octets now le (Seeking since) is g over =
    let late : (is_late k.flight now ≡ false) = late_is k r f (Got octets) now refl le ∙ rw g refl in
    sought_for r octets now since g (sym (ap (λ (end : ClientEnd). is_over end now) is) ∙ late_or_over (is_late k.flight now) (is_over k.channel now) over late)
in_time_for k r f octets now le (Open e) is g over = open_for r octets now g.c g.l g.is (open_lapsed k r f (Got octets) now refl le e false g (is_late k.flight now) refl (by_late (is_late k.flight now) refl))
  where
    by_late : (t : Bool) → is_late k.flight now ≡ t → is_over (Open e) now ≡ true ⊎ (is_late k.flight now ≡ true)
    by_late true q = inr q
    by_late false q = inl (sym (ap (λ (end : ClientEnd). is_over end now) is) ∙ late_or_over (is_late k.flight now) (is_over k.channel now) over q)
in_time_for k r f octets now le (Leaving e) is g over = open_for r octets now g.c g.l g.is (open_lapsed k r f (Got octets) now refl le e true g (is_late k.flight now) refl (by_late (is_late k.flight now) refl))
  where
    by_late : (t : Bool) → is_late k.flight now ≡ t → is_over (Open e) now ≡ true ⊎ (is_late k.flight now ≡ true)
    by_late true q = inr q
    by_late false q = inl (sym (ap (λ (end : ClientEnd). is_over end now) is) ∙ late_or_over (is_late k.flight now) (is_over k.channel now) over q)
in_time_for k r f octets now le (JustLost c) is g over = absurd g

pub over_for : (k : Known) (old ws : List Placed) (octets : List ℕ) (now : ℕ) → newest_time (entries (ws ++ old)) ≤ now → is_over_for k now ≡ true → Waited k old ws → ForNone (entries (ws ++ old)) octets now
over_for k old ws octets now le over (InTime f a) = in_time_for k (entries (ws ++ old)) f octets now le k.channel refl f.end over
over_for k old ws octets now le over (Lapsed h one) = none_for (entries (ws ++ old)) octets now (rw h.lost tt)
over_for k old ws octets now le over (Unheard h a) = none_for (entries (ws ++ old)) octets now (rw h.unanswered tt)
