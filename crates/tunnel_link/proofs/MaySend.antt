-- A datagram that may be sent, and what is known once it is.
use Rattle.std.proofs.Common.{◌≡◌, inl, inr, ℕ, ◌<◌, List, ◌∷◌, length, Bool, true, false, Some, None, refl, sym, subst, ap, ◌∙◌}
use Rattle.std.specs.Prelude.{◌||◌}
use Rattle.line_model.specs.declared.fault.HubFault.{HubFault}
use Rattle.line_model.specs.Record.{Put, Entry, entry}
use Rattle.line_model.specs.LinkStory.{newest_time}
use Rattle.line_model.specs.ClientView as seen
use Rattle.line_model.specs.ClientView.{ClientChannel, channel, Deed, deed}
use Rattle.line_model.specs.ChannelLost.{own, acknowledged, confirmed, beats, is_given_up, is_unconfirmed, is_dead, has_lapsed}
use Rattle.line_model.specs.Renews.{RenewsSo, IsOwed, owed}
use Rattle.line_model.specs.Sendings.{IsRightItem}
use Rattle.line_model.specs.Written.{IsWritten}
use Rattle.line_model.specs.Leaves.{PartsSo}
use Rattle.line_model.specs.Faults.{tries}
use Rattle.line_model.specs.ClientEnd.{ClientEnd, Idle, Seeking, Open, Leaving, JustLost, OpenEnd, is_over}
use Rattle.tunnel_channel.specs.Fits.{FitsChannel, Fits, Knows, KnowsOpen, end_of, acknowledged_in, confirmed_in}
use Rattle.tunnel_channel.specs.Follows.{IsCurrent, is_confirmation_late}
use Rattle.tunnel_channel.proofs.Current.{sendings_stay_current}
use Rattle.tunnel_channel.proofs.Puts.{opened_put, lost_put}
use Rattle.tunnel_channel.proofs.Take.{lapsed_alike}
use Rattle.tunnel_link.specs.declared.known.Known.{Known}
use Rattle.tunnel_link.specs.Kept.{none_in_flight, is_late}
use Rattle.tunnel_link.specs.Rights.{IsRight, FitsNow, FitsRecord, IsKept, IsntRefusal, CountsBy, tries_of}
use Rattle.tunnel_link.proofs.Entries.{put_tries, put_owes, put_right, failed_right}
use Rattle.tunnel_link.proofs.Partings.{put_parted}

-- ---- between calls this end isn't behind the record, and the time has ended nothing

pub fits_of : (end : ClientEnd) (t : ℕ) (ch : ClientChannel) → FitsNow end ch → FitsChannel end t ch
fits_of Idle t ch f = f
fits_of (Seeking since) t ch f = inl f
fits_of (Open e) t ch f = inl f
fits_of (Leaving e) t ch f = inl f
fits_of (JustLost c) t ch f = absurd f

late_by : (ch : ClientChannel) (now : ℕ) → is_unconfirmed (acknowledged_in ch) (confirmed_in ch) now ≡ is_confirmation_late ch now
late_by seen.Fresh now = refl
late_by (seen.Sought since) now = refl
late_by (seen.RefusedBy status) now = refl
late_by seen.Unanswered now = refl
late_by (seen.Open c l) now = refl
late_by (seen.Lost c) now = refl

-- the two tests of a confirmation's wait are one
pub same_late : (k : Known) (r : List Entry) (now : ℕ) → FitsRecord k r → is_late k.flight now ≡ is_confirmation_late (channel r) now
same_late k r now f = rw (f.acknowledged, f.confirmed) (late_by (channel r) now)

second_of : (a u b : Bool) → (a || u || b) ≡ false → u ≡ false
second_of true u b h = absurd (cc)
second_of false true b h = h
second_of false false b h = refl

current_late : (ch : ClientChannel) (now : ℕ) → IsCurrent ch now → is_confirmation_late ch now ≡ false
current_late seen.Fresh now h = refl
current_late (seen.Sought since) now h = refl
current_late (seen.RefusedBy status) now h = refl
current_late seen.Unanswered now h = refl
current_late (seen.Open c l) now h = second_of (is_given_up (own c l).sent now) (is_unconfirmed (acknowledged c l) (confirmed c l) now) (is_dead (beats c l) now) h
current_late (seen.Lost c) now h = refl

open_over : (e : OpenEnd) (left : Bool) (ch : ClientChannel) (now : ℕ) → KnowsOpen e left ch → IsCurrent ch now → is_over (Open e) now ≡ false
open_over e left ch now k h =
    let current : (has_lapsed k.c k.l now ≡ false) = subst (λ (d : ClientChannel). IsCurrent d now) k.is h in
    let timely : (is_unconfirmed (acknowledged k.c k.l) (confirmed k.c k.l) now ≡ false) = current_late (seen.Open k.c k.l) now current in
    let same : (e ≡ end_of k.c k.l) = k.knows.is in
    let knows : Knows (end_of k.c k.l) left k.c k.l = subst (λ (d : OpenEnd). Knows d left k.c k.l) same k.knows in
    subst (λ (d : OpenEnd). is_over (Open d) now ≡ false) (sym same) (sym (lapsed_alike k.c k.l left now knows timely) ∙ current)

pub current_over : (end : ClientEnd) (ch : ClientChannel) (now : ℕ) → FitsNow end ch → IsCurrent ch now → is_over end now ≡ false
current_over Idle ch now f h = refl
current_over (Seeking since) ch now f h = subst (λ (d : ClientChannel). IsCurrent d now) f h
current_over (Open e) ch now f h = open_over e false ch now f h
current_over (Leaving e) ch now f h = open_over e true ch now f h
current_over (JustLost c) ch now f h = absurd f

pub not_over : (k : Known) (r : List Entry) → FitsRecord k r → is_over k.channel (newest_time r) ≡ false
not_over k r f = current_over k.channel (channel r) (newest_time r) f.end f.current

pub not_late : (k : Known) (r : List Entry) → FitsRecord k r → is_late k.flight (newest_time r) ≡ false
not_late k r f = same_late k r (newest_time r) f ∙ current_late (channel r) (newest_time r) f.current

-- ---- where a channel is open this end isn't behind

pub open_now : (end : ClientEnd) (t c : ℕ) (l : List Entry) → FitsChannel end t (seen.Open c l) → FitsNow end (seen.Open c l)
open_now Idle t c l f = f
open_now (Seeking since) t c l (inl f) = f
open_now (Seeking since) t c l (inr f) = absurd (let h = f.unanswered in cc)
open_now (Open e) t c l (inl f) = f
open_now (Open e) t c l (inr f) = absurd (let h = f.lost in cc)
open_now (Leaving e) t c l (inl f) = f
open_now (Leaving e) t c l (inr f) = absurd (let h = f.lost in cc)
open_now (JustLost d) t c l f = absurd (cc)

-- ---- a datagram that may be sent

pub record Sending (k : Known) (octets : List ℕ) (does : Deed) (r : List Entry) : Type 0 where
  pub right : IsRight k r
  pub written : IsWritten octets
  pub owes : IsOwed (owed r) (entry (Put octets) (newest_time r))
  pub may : IsRightItem r (entry (Put octets) (newest_time r)) (Put octets)
  pub renews : RenewsSo r (entry (Put octets) (newest_time r))
  pub parts : PartsSo r (entry (Put octets) (newest_time r))
  pub fits : k.fault ≡ None → FitsRecord k (entry (Put octets) (newest_time r) ∷ r)
  pub did : deed (channel r) (entry (Put octets) (newest_time r)) ≡ does

pub sent_right : (k : Known) (octets : List ℕ) (does : Deed) (r : List Entry) → Sending k octets does r → IsRight k (entry (Put octets) (newest_time r) ∷ r)
sent_right k octets does r s = put_right k r octets (newest_time r) s.right s.written s.owes s.may s.renews s.parts

pub sent_kept : (k : Known) (octets : List ℕ) (does : Deed) (r : List Entry) → Sending k octets does r → IsKept k (entry (Put octets) (newest_time r) ∷ r)
sent_kept k octets does r s = record { right = sent_right k octets does r s; fits = s.fits }

pub failed_kept : (k : Known) (r : List Entry) (fault : HubFault) → IsntRefusal fault → IsRight k r → IsKept (record k { fault = Some fault }) r
failed_kept k r fault n right = record { right = failed_right k r fault n right; fits = λ h. absurd (cc) }

-- ---- in an open channel

pub record Flies (k : Known) (ch : ClientChannel) : Type 0 where
  pub acknowledged : k.flight.acknowledged ≡ acknowledged_in ch
  pub confirmed : k.flight.confirmed ≡ confirmed_in ch
  pub counts : CountsBy k.tunnel k.put ch

pub open_sent_by : (next : Known) (r : List Entry) (octets : List ℕ) (c : ℕ) (l : List Entry) → channel r ≡ seen.Open c l → IsCurrent (channel r) (newest_time r) → tries_of next.tries ≡ tries r → length (tries r) < 3
    → Fits next.channel (entry (Put octets) (newest_time r) ∷ r) → Flies next (channel (entry (Put octets) (newest_time r) ∷ r)) → FitsRecord next (entry (Put octets) (newest_time r) ∷ r)
open_sent_by next r octets c l at current failed few fits flies =
    let now : ℕ = newest_time r in
    let stays : (channel (entry (Put octets) now ∷ r) ≡ seen.Open c (entry (Put octets) now ∷ l)) = opened_put r octets now c l at in
    record {
      end = subst (λ (ch : ClientChannel). FitsNow next.channel ch) (sym stays) (open_now next.channel now c (entry (Put octets) now ∷ l) (subst (λ (ch : ClientChannel). FitsChannel next.channel now ch) stays fits));
      current = sendings_stay_current r octets now current;
      acknowledged = flies.acknowledged;
      confirmed = flies.confirmed;
      counts = flies.counts;
      failed = failed ∙ sym (put_tries r octets now);
      few = rw (put_tries r octets now) few;
      paid = put_owes r octets now;
      parted = put_parted r octets now;
      first = λ h. absurd (let e : (seen.Open c (entry (Put octets) now ∷ l) ≡ seen.Fresh) = sym stays ∙ h in cc);
    }

pub open_sent : (k next : Known) (r : List Entry) (octets : List ℕ) (c : ℕ) (l : List Entry) → channel r ≡ seen.Open c l → FitsRecord k r → next.tries ≡ k.tries → Fits next.channel (entry (Put octets) (newest_time r) ∷ r)
    → Flies next (channel (entry (Put octets) (newest_time r) ∷ r)) → FitsRecord next (entry (Put octets) (newest_time r) ∷ r)
open_sent k next r octets c l at f same fits flies = open_sent_by next r octets c l at f.current (ap tries_of same ∙ f.failed) f.few fits flies

-- ---- where the channel was just lost

pub lost_sent : (next : Known) (r : List Entry) (octets : List ℕ) (c : ℕ) → channel r ≡ seen.Lost c → next.channel ≡ Idle → next.flight ≡ none_in_flight → tries_of next.tries ≡ tries r → length (tries r) < 3
    → FitsRecord next (entry (Put octets) (newest_time r) ∷ r)
lost_sent next r octets c at idle none failed few =
    let now : ℕ = newest_time r in
    let stays : (channel (entry (Put octets) now ∷ r) ≡ seen.Lost c) = lost_put r octets now c at in
    record {
      end = rw (idle, stays) tt;
      current = rw stays tt;
      acknowledged = rw (none, stays) refl;
      confirmed = rw (none, stays) refl;
      counts = rw stays tt;
      failed = failed ∙ sym (put_tries r octets now);
      few = rw (put_tries r octets now) few;
      paid = put_owes r octets now;
      parted = put_parted r octets now;
      first = λ h. absurd (let e : (seen.Lost c ≡ seen.Fresh) = sym stays ∙ h in cc);
    }
