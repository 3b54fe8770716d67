-- After a poll what the time has ended is given up: then what this end knows is what the record says, once the gateway is told.
use Rattle.std.proofs.Common.{◌≡◌, ◌⊎◌, inl, inr, ℕ, ◌<◌, List, ◌∷◌, ◌++◌, length, Bool, true, false, Option, Some, None, refl, sym, subst, ap, ◌∙◌, arith}
use Rattle.std.specs.Prelude.{◌||◌, is_some}
use Rattle.knx_model.specs.declared.frames.ip.IpFrame.TheVariants.{DisconnectRequest}
use Rattle.knx_model.specs.KnxNetIp.{Written}
use Rattle.knx_model.specs.Connection.{has_passed}
use Rattle.line_model.specs.declared.client_end.ChannelExpired.TheVariants as due
use Rattle.line_model.specs.declared.fault.Try.{Try}
use Rattle.line_model.specs.declared.fault.Try.TheVariants as try
use Rattle.line_model.specs.Reading.{datagram_in, disconnect_request_in}
use Rattle.line_model.specs.Record.{Entry, Placed, entries}
use Rattle.line_model.specs.LinkStory.{newest_time}
use Rattle.line_model.specs.ClientView as seen
use Rattle.line_model.specs.ClientView.{channel, Nothing}
use Rattle.line_model.specs.ChannelLost.{answer_wait}
use Rattle.line_model.specs.Renews.{owed}
use Rattle.line_model.specs.Leaves.{parting_of}
use Rattle.line_model.specs.Faults.{tries}
use Rattle.line_model.specs.Moments.{Moment}
use Rattle.line_model.specs.ClientEnd.{ClientEnd, Idle, Seeking, Open, Leaving, JustLost, OpenEnd, open_end, is_over, is_given_up, is_dead, lost, channel_expired, after_expired}
use Rattle.tunnel_channel.proofs.Frames.{leave_read}
use Rattle.tunnel_channel.proofs.Puts.{renews_other, put_none}
use Rattle.tunnel_link.specs.declared.came.Answer.{Answer}
use Rattle.tunnel_link.specs.declared.came.Loss.{Loss}
use Rattle.tunnel_link.specs.declared.came.Loss.TheVariants.{Stays, Told}
use Rattle.tunnel_link.specs.declared.came.What.{What}
use Rattle.tunnel_link.specs.declared.came.What.TheVariants as came
use Rattle.tunnel_link.specs.declared.known.Known.{Known}
use Rattle.tunnel_link.specs.declared.tries.Tries.{Tries}
use Rattle.tunnel_link.specs.declared.tries.Tries.TheVariants.{Zero, One, Two, Three}
use Rattle.tunnel_link.specs.Kept.{none_in_flight, is_late, one_more, refused, tried, only, lapsed, lapse_answer}
use Rattle.tunnel_link.specs.Rights.{IsRight, IsKept, FitsFault, tries_of}
use Rattle.tunnel_link.specs.Adds.{DoesSo, OrLoses, is_told, moments_on}
use Rattle.tunnel_link.proofs.MaySend.{not_over, not_late, Sending, lost_sent}
use Rattle.tunnel_link.proofs.Steps.{right_with}
use Rattle.tunnel_link.proofs.Partings.{parting_sent}
use Rattle.tunnel_link.proofs.Waited.{Waited, InTime, Lapsed, Unheard, late_or_over}

-- ---- what is known after a poll, and what is to be sent

abbrev pub Outcome : Known → Option (List ℕ) → List Entry → Type 0
Outcome k None r = IsKept k r
Outcome k (Some octets) r = Sending k octets Nothing r

abbrev pub asks_to_leave : Option (List ℕ) → Bool
asks_to_leave None = false
asks_to_leave (Some octets) = is_some (disconnect_request_in (datagram_in octets))

pub record Answers (next : Known) (answer : Answer) (old added : List Placed) : Type 0 where
  pub so : Outcome next answer.sends (entries (added ++ old))
  pub tells : asks_to_leave answer.sends ≡ is_told answer.loss
  pub does : DoesSo answer.what answer.loss (newest_time (entries (added ++ old))) (moments_on old added)

-- what is got is for no one
abbrev pub IsAside : What → Type 0
IsAside came.Quiet = Unit {0}
IsAside came.Dropped = Unit {0}
IsAside came.Tunnel = ⊥
IsAside (came.Up tunnel) = ⊥
IsAside (came.Frame frame) = ⊥

does_aside : (what : What) (loss : Loss) (now : ℕ) (l : List Moment) → IsAside what → OrLoses loss l → DoesSo what loss now l
does_aside came.Quiet loss now l a o = o
does_aside came.Dropped loss now l a o = inl o
does_aside came.Tunnel loss now l a o = absurd a
does_aside (came.Up tunnel) loss now l a o = absurd a
does_aside (came.Frame frame) loss now l a o = absurd a

-- ---- a failed try

pub refused_fits : (t : Tries) (failed : Try) → length (tries_of t) < 3 → FitsFault (refused (one_more t failed)) (failed ∷ tries_of t)
refused_fits Zero failed few = tt
refused_fits (One a) failed few = tt
refused_fits (Two a b) failed few = refl
refused_fits (Three a b c) failed few = absurd (let h : 3 < 3 = few in omega arith)

pub more_tries : (t : Tries) (failed : Try) → length (tries_of t) < 3 → tries_of (one_more t failed) ≡ failed ∷ tries_of t
more_tries Zero failed few = refl
more_tries (One a) failed few = refl
more_tries (Two a b) failed few = refl
more_tries (Three a b c) failed few = absurd (let h : 3 < 3 = few in omega arith)

pub still_few : (t : Tries) (failed : Try) → refused (one_more t failed) ≡ None → length (failed ∷ tries_of t) < 3
still_few Zero failed h = omega arith
still_few (One a) failed h = omega arith
still_few (Two a b) failed h = absurd (cc)
still_few (Three a b c) failed h = absurd (cc)

pub right_tried : (k : Known) (r : List Entry) (failed : Try) → length (tries_of k.tries) < 3 → tries r ≡ failed ∷ tries_of k.tries → IsRight k r → IsRight (tried failed k) r
right_tried k r failed few is right = record {
  renews = right.renews;
  sends = right.sends;
  writes = right.writes;
  acknowledges = right.acknowledges;
  parts = right.parts;
  drops = right.drops;
  takes = right.takes;
  fault = rw is (refused_fits k.tries failed few);
}

-- ---- the channel that was lost: the gateway is told

abbrev pub gone : Known → Known
gone k = record k { channel = Idle; flight = none_in_flight }

pub leaves_lost : (k : Known) (r : List Entry) (c : ℕ) → channel r ≡ seen.Lost c → tries r ≡ tries_of k.tries → length (tries_of k.tries) < 3 → owed r ≡ None → parting_of r ≡ Some (DisconnectRequest c) → IsRight k r
    → Sending (gone k) (Written (DisconnectRequest c)) Nothing r
leaves_lost k r c at failed few paid parting right =
    let now : ℕ = newest_time r in
    let octets : List ℕ = Written (DisconnectRequest c) in
    record {
      right = right_with k (gone k) r refl refl refl right;
      written = record { frame = DisconnectRequest c; carries = tt; is = refl };
      owes = rw paid tt;
      may = rw (leave_read c, at) refl;
      renews = renews_other r octets (DisconnectRequest c) now (leave_read c) refl;
      parts = parting_sent r octets now (DisconnectRequest c) parting (leave_read c);
      fits = λ u. lost_sent (gone k) r octets c at refl refl (sym failed) (rw failed few);
      did = put_none (channel r) octets (DisconnectRequest c) now (leave_read c) refl;
    }

lost_is : (end : ClientEnd) (e : OpenEnd) → open_end end ≡ Some e → lost end ≡ JustLost e.channel
lost_is Idle e h = absurd (cc)
lost_is (Seeking since) e h = absurd (cc)
lost_is (Open d) e h = let same : (d ≡ e) = cc in ap (λ (x : OpenEnd). JustLost x.channel) same
lost_is (Leaving d) e h = let same : (d ≡ e) = cc in ap (λ (x : OpenEnd). JustLost x.channel) same
lost_is (JustLost c) e h = absurd (cc)

-- the two ways in which it expires
abbrev Expired : ClientEnd → ℕ → Type 0
Expired end now = (channel_expired end now ≡ due.Lost) ⊎ (channel_expired end now ≡ due.Dead)

open_expires : (e : OpenEnd) (now : ℕ) (g d : Bool) → is_given_up e.request now ≡ g → is_dead e now ≡ d → is_over (Open e) now ≡ true → Expired (Open e) now × Expired (Leaving e) now
unfolding channel_expired
open_expires e now true d p q h = (inl (rw p refl), inl (rw p refl))
open_expires e now false true p q h = (inr (rw (p, q) refl), inr (rw (p, q) refl))
open_expires e now false false p q h = absurd (let o : (is_over (Open e) now ≡ false) = rw (p, q) refl in cc)

up_expires : (end : ClientEnd) (e : OpenEnd) (now : ℕ) → open_end end ≡ Some e → is_over end now ≡ true → Expired end now
up_expires Idle e now h o = absurd (cc)
up_expires (Seeking since) e now h o = absurd (cc)
up_expires (Open d) e now h o = (open_expires d now (is_given_up d.request now) (is_dead d now) refl refl o).0
up_expires (Leaving d) e now h o = (open_expires d now (is_given_up d.request now) (is_dead d now) refl refl o).1
up_expires (JustLost c) e now h o = absurd (cc)

abbrev pub gone_answer : What → ℕ → Answer
gone_answer what c = record { what = what; loss = Told; sends = Some (Written (DisconnectRequest c)) }

record Gives (what : What) (k : Known) (now : ℕ) (next : Known) (answer : Answer) : Type 0 where
  pub known : lapsed k now ≡ next
  pub is : lapse_answer what k now ≡ answer

lapsed_gone : (what : What) (k : Known) (now : ℕ) (e : OpenEnd) → open_end k.channel ≡ Some e → (t : Bool) → is_late k.flight now ≡ t → (is_late k.flight now || is_over k.channel now) ≡ true → Gives what k now (gone k) (gone_answer what e.channel)
unfolding lapsed lapse_answer after_expired
lapsed_gone what k now e is true q over = record { known = rw (q, is, lost_is k.channel e is) refl; is = rw (q, is, lost_is k.channel e is) refl }
lapsed_gone what k now e is false q over = by_way (up_expires k.channel e now is passed)
  where
    passed : is_over k.channel now ≡ true
    passed = late_or_over (is_late k.flight now) (is_over k.channel now) over q

    by_way : Expired k.channel now → Gives what k now (gone k) (gone_answer what e.channel)
    by_way (inl h) = record { known = rw (q, passed, h, lost_is k.channel e is) refl; is = rw (q, passed, h, lost_is k.channel e is) refl }
    by_way (inr h) = record { known = rw (q, passed, h, lost_is k.channel e is) refl; is = rw (q, passed, h, lost_is k.channel e is) refl }

lapsed_none : (what : What) (k : Known) (now : ℕ) → is_late k.flight now ≡ false → is_over k.channel now ≡ false → Gives what k now k (only what)
unfolding lapsed lapse_answer
lapsed_none what k now q o = record { known = rw (q, o) refl; is = rw (q, o) refl }

lapsed_unheard : (what : What) (k : Known) (now since : ℕ) → k.channel ≡ Seeking since → is_late k.flight now ≡ false → has_passed answer_wait since now ≡ true → Gives what k now (tried try.NoAnswer (record k { channel = Idle })) (only what)
unfolding lapsed lapse_answer channel_expired after_expired
lapsed_unheard what k now since is q passed = record { known = rw (q, is, passed) refl; is = rw (q, is, passed) refl }

answers_by : (what : What) (k next : Known) (now : ℕ) (answer : Answer) (old added : List Placed) → Gives what k now next answer → Answers next answer old added → Answers (lapsed k now) (lapse_answer what k now) old added
answers_by what k next now answer old added g a = subst (λ (n : Known). Answers n (lapse_answer what k now) old added) (sym g.known) (subst (λ (x : Answer). Answers next x old added) (sym g.is) a)

pub lapse_answers : (what : What) (k : Known) (old added : List Placed) → IsAside what → IsRight k (entries (added ++ old)) → Waited k old added
    → Answers (lapsed k (newest_time (entries (added ++ old)))) (lapse_answer what k (newest_time (entries (added ++ old)))) old added
lapse_answers what k old added aside right (InTime f a) =
    let r : List Entry = entries (added ++ old) in
    answers_by what k k (newest_time r) (only what) old added (lapsed_none what k (newest_time r) (not_late k r f) (not_over k r f)) (record {
      so = record { right = right; fits = λ u. f };
      tells = refl;
      does = does_aside what Stays (newest_time r) (moments_on old added) aside a;
    })
lapse_answers what k old added aside right (Lapsed h one) =
    let r : List Entry = entries (added ++ old) in
    answers_by what k (gone k) (newest_time r) (gone_answer what h.e.channel) old added (lapsed_gone what k (newest_time r) h.e h.is (is_late k.flight (newest_time r)) refl h.over) (record {
      so = leaves_lost k r h.e.channel h.lost h.failed h.few h.paid h.parting right;
      tells = rw (leave_read h.e.channel) refl;
      does = does_aside what Told (newest_time r) (moments_on old added) aside one;
    })
lapse_answers what k old added aside right (Unheard h a) =
    let r : List Entry = entries (added ++ old) in
    let late : (is_late k.flight (newest_time r) ≡ false) = rw h.acknowledged refl in
    answers_by what k (tried try.NoAnswer (record k { channel = Idle })) (newest_time r) (only what) old added (lapsed_unheard what k (newest_time r) h.since h.is late h.over) (record {
      so = record {
        right = right_tried (record k { channel = Idle }) r try.NoAnswer h.few h.failed (right_with k (record k { channel = Idle }) r refl refl refl right);
        fits = λ u. record {
          end = rw h.unanswered tt;
          current = rw h.unanswered tt;
          acknowledged = rw h.unanswered h.acknowledged;
          confirmed = rw h.unanswered h.confirmed;
          counts = rw h.unanswered tt;
          failed = more_tries k.tries try.NoAnswer h.few ∙ sym h.failed;
          few = rw h.failed (still_few k.tries try.NoAnswer u);
          paid = h.paid;
          parted = h.parted;
          first = λ e. absurd (let g : (seen.Unanswered ≡ seen.Fresh) = sym h.unanswered ∙ e in cc);
        };
      };
      tells = refl;
      does = does_aside what Stays (newest_time r) (moments_on old added) aside a;
    })

pub lapse_what : (what : What) (k : Known) (old added : List Placed) → Waited k old added → (lapse_answer what k (newest_time (entries (added ++ old)))).what ≡ what
lapse_what what k old added (InTime f a) = ap (λ (x : Answer). x.what) (lapsed_none what k (newest_time (entries (added ++ old))) (not_late k (entries (added ++ old)) f) (not_over k (entries (added ++ old)) f)).is
lapse_what what k old added (Lapsed h one) = ap (λ (x : Answer). x.what) (lapsed_gone what k (newest_time (entries (added ++ old))) h.e h.is (is_late k.flight (newest_time (entries (added ++ old)))) refl h.over).is
lapse_what what k old added (Unheard h a) = ap (λ (x : Answer). x.what) (lapsed_unheard what k (newest_time (entries (added ++ old))) h.since h.is (rw h.acknowledged refl) h.over).is
