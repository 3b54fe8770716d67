-- A quiet wait, a datagram that doesn't read, and one that comes when the time has ended what it would act on: what the record says then of
-- the channel, of what is in flight and of the tries.
use Rattle.std.proofs.Common.{◌≡◌, ℕ, List, ◌∷◌, Bool, true, false, None, refl}
use Rattle.std.specs.Prelude.{◌&&◌}
use Rattle.knx_model.specs.Connection.{has_passed}
use Rattle.line_model.specs.declared.fault.Try.{Try}
use Rattle.line_model.specs.declared.fault.Try.TheVariants as try
use Rattle.line_model.specs.Record.{Item, Put, Renewed, Got, Quiet, Entry, entry, got_in, is_poll}
use Rattle.line_model.specs.ClientView as seen
use Rattle.line_model.specs.ClientView.{ClientChannel, channel, after_entry, Nothing, Loses, deed}
use Rattle.line_model.specs.ChannelLost.{answer_wait, has_left, has_lapsed, is_lost}
use Rattle.line_model.specs.Renews.{owed, owed_in}
use Rattle.line_model.specs.Faults.{tries_after}
use Rattle.tunnel_channel.specs.Fits.{HasNone}
use Rattle.tunnel_link.proofs.Entries.{Still}

-- ---- an entry that reads as nothing: nothing is owed after it

unread_owes_by : (ch : ClientChannel) (x : Entry) (after : ClientChannel) → got_in x.what ≡ None → owed_in ch x after ≡ None
unread_owes_by seen.Fresh x after n = refl
unread_owes_by (seen.Sought since) x after n = refl
unread_owes_by (seen.RefusedBy status) x after n = refl
unread_owes_by seen.Unanswered x after n = refl
unread_owes_by (seen.Open c l) x seen.Fresh n = refl
unread_owes_by (seen.Open c l) x (seen.Sought since) n = refl
unread_owes_by (seen.Open c l) x (seen.RefusedBy status) n = refl
unread_owes_by (seen.Open c l) x seen.Unanswered n = refl
unread_owes_by (seen.Open c l) x (seen.Open d more) n = rw n refl
unread_owes_by (seen.Open c l) x (seen.Lost d) n = refl
unread_owes_by (seen.Lost c) x after n = refl

pub unread_owes : (r : List Entry) (x : Entry) → got_in x.what ≡ None → owed (x ∷ r) ≡ None
unread_owes r x n = unread_owes_by (channel r) x (channel (x ∷ r)) n

-- ---- what a poll entry makes of each channel, where nothing has lapsed and it reads as nothing

-- it stays as it is, and so does what is in flight
pub record Rests (ch : ClientChannel) (x : Entry) : Type 0 where
  pub still : Still ch (after_entry ch x)
  pub did : deed ch x ≡ Nothing
  pub failed : (t : List Try) → tries_after ch (after_entry ch x) t ≡ t

none_false : (a : Bool) → (a && false) ≡ false
none_false true = refl
none_false false = refl

open_rests_by : (c : ℕ) (l : List Entry) (what : Item) (now : ℕ) → is_poll what ≡ true → got_in what ≡ None → has_lapsed c l now ≡ false → is_lost c l (entry what now) ≡ false → Rests (seen.Open c l) (entry what now)
unfolding after_entry deed
open_rests_by c l (Put octets) now p n h q = absurd (cc)
open_rests_by c l Renewed now p n h q = absurd (cc)
open_rests_by c l (Got octets) now p n h q = record {
  still = record { acked = rw q (rw n refl); confirms = rw q (rw n refl) };
  did = rw q (rw n refl);
  failed = λ t. refl;
}
open_rests_by c l Quiet now p n h q = record { still = record { acked = rw q refl; confirms = rw q refl }; did = rw q refl; failed = λ t. refl }

unlost : (c : ℕ) (l : List Entry) (what : Item) (now : ℕ) → is_poll what ≡ true → got_in what ≡ None → has_lapsed c l now ≡ false → is_lost c l (entry what now) ≡ false
unlost c l (Put octets) now p n h = absurd (cc)
unlost c l Renewed now p n h = absurd (cc)
unlost c l (Got octets) now p n h = rw (h, n) (none_false (has_left c l))
unlost c l Quiet now p n h = rw h (none_false (has_left c l))

pub open_rests : (c : ℕ) (l : List Entry) (what : Item) (now : ℕ) → is_poll what ≡ true → got_in what ≡ None → has_lapsed c l now ≡ false → Rests (seen.Open c l) (entry what now)
open_rests c l what now p n h = open_rests_by c l what now p n h (unlost c l what now p n h)

pub sought_rests : (since : ℕ) (what : Item) (now : ℕ) → is_poll what ≡ true → got_in what ≡ None → has_passed answer_wait since now ≡ false → Rests (seen.Sought since) (entry what now)
unfolding after_entry deed
sought_rests since (Put octets) now p n h = absurd (cc)
sought_rests since Renewed now p n h = absurd (cc)
sought_rests since (Got octets) now p n h = record { still = record { acked = rw (h, n) refl; confirms = rw (h, n) refl }; did = refl; failed = λ t. rw (h, n) refl }
sought_rests since Quiet now p n h = record { still = record { acked = rw h refl; confirms = rw h refl }; did = refl; failed = λ t. rw h refl }

-- where there is none, whatever is got
pub none_rests : (ch : ClientChannel) (what : Item) (now : ℕ) → is_poll what ≡ true → HasNone ch → Rests ch (entry what now)
unfolding after_entry deed
none_rests ch (Put octets) now p n = absurd (cc)
none_rests ch Renewed now p n = absurd (cc)
none_rests seen.Fresh (Got octets) now p n = record { still = record { acked = refl; confirms = refl }; did = refl; failed = λ t. refl }
none_rests (seen.Sought since) (Got octets) now p n = absurd n
none_rests (seen.RefusedBy status) (Got octets) now p n = record { still = record { acked = refl; confirms = refl }; did = refl; failed = λ t. refl }
none_rests seen.Unanswered (Got octets) now p n = record { still = record { acked = refl; confirms = refl }; did = refl; failed = λ t. refl }
none_rests (seen.Open c l) (Got octets) now p n = absurd n
none_rests (seen.Lost c) (Got octets) now p n = record { still = record { acked = refl; confirms = refl }; did = refl; failed = λ t. refl }
none_rests seen.Fresh Quiet now p n = record { still = record { acked = refl; confirms = refl }; did = refl; failed = λ t. refl }
none_rests (seen.Sought since) Quiet now p n = absurd n
none_rests (seen.RefusedBy status) Quiet now p n = record { still = record { acked = refl; confirms = refl }; did = refl; failed = λ t. refl }
none_rests seen.Unanswered Quiet now p n = record { still = record { acked = refl; confirms = refl }; did = refl; failed = λ t. refl }
none_rests (seen.Open c l) Quiet now p n = absurd n
none_rests (seen.Lost c) Quiet now p n = record { still = record { acked = refl; confirms = refl }; did = refl; failed = λ t. refl }

-- ---- where the time has ended it

pub record Ends (ch : ClientChannel) (x : Entry) (after : ClientChannel) (did : seen.Deed) (more : List Try → List Try) : Type 0 where
  pub after_is : after_entry ch x ≡ after
  pub did_is : deed ch x ≡ did
  pub failed : (t : List Try) → tries_after ch (after_entry ch x) t ≡ more t
  pub owes : owed_in ch x (after_entry ch x) ≡ None

pub open_ends : (c : ℕ) (l : List Entry) (what : Item) (now : ℕ) → is_poll what ≡ true → has_lapsed c l now ≡ true → Ends (seen.Open c l) (entry what now) (seen.Lost c) Loses (λ t. t)
unfolding after_entry deed
open_ends c l (Put octets) now p h = absurd (cc)
open_ends c l Renewed now p h = absurd (cc)
open_ends c l (Got octets) now p h = record { after_is = rw h refl; did_is = rw h refl; failed = λ t. refl; owes = rw h refl }
open_ends c l Quiet now p h = record { after_is = rw h refl; did_is = rw h refl; failed = λ t. refl; owes = rw h refl }

pub sought_ends : (since : ℕ) (what : Item) (now : ℕ) → is_poll what ≡ true → has_passed answer_wait since now ≡ true → Ends (seen.Sought since) (entry what now) seen.Unanswered Nothing (λ t. try.NoAnswer ∷ t)
unfolding after_entry deed
sought_ends since (Put octets) now p h = absurd (cc)
sought_ends since Renewed now p h = absurd (cc)
sought_ends since (Got octets) now p h = record { after_is = rw h refl; did_is = refl; failed = λ t. rw h refl; owes = refl }
sought_ends since Quiet now p h = record { after_is = rw h refl; did_is = refl; failed = λ t. rw h refl; owes = refl }

-- what was ended stays so
pub lost_ends : (c : ℕ) (what : Item) (now : ℕ) → is_poll what ≡ true → Ends (seen.Lost c) (entry what now) (seen.Lost c) Nothing (λ t. t)
unfolding after_entry deed
lost_ends c (Put octets) now p = absurd (cc)
lost_ends c Renewed now p = absurd (cc)
lost_ends c (Got octets) now p = record { after_is = refl; did_is = refl; failed = λ t. refl; owes = refl }
lost_ends c Quiet now p = record { after_is = refl; did_is = refl; failed = λ t. refl; owes = refl }

pub unanswered_ends : (what : Item) (now : ℕ) → is_poll what ≡ true → Ends seen.Unanswered (entry what now) seen.Unanswered Nothing (λ t. t)
unfolding after_entry deed
unanswered_ends (Put octets) now p = absurd (cc)
unanswered_ends Renewed now p = absurd (cc)
unanswered_ends (Got octets) now p = record { after_is = refl; did_is = refl; failed = λ t. refl; owes = refl }
unanswered_ends Quiet now p = record { after_is = refl; did_is = refl; failed = λ t. refl; owes = refl }
