-- What is due, a request and the end of the channel: what this end gives to be sent may be sent, and where it gives nothing it stays as it was.
use Rattle.std.proofs.Common.{◌≡◌, ◌∷◌, ℕ, List, Bool, true, false, Some, None, refl, sym, subst, ◌∙◌, arith}
use Rattle.std.specs.Prelude.{◌&&◌, is_some}
use Rattle.knx_model.specs.declared.frames.ip.IpFrame.TheVariants.{DisconnectRequest}
use Rattle.knx_model.specs.KnxNetIp.{Written}
use Rattle.knx_model.specs.Connection.{has_passed}
use Rattle.line_model.specs.declared.client_end.ChannelExpired.{ChannelExpired}
use Rattle.line_model.specs.declared.client_end.ChannelExpired.TheVariants as due
use Rattle.line_model.specs.Reading.{datagram_in, ldata_in}
use Rattle.line_model.specs.Record.{Put, Entry, entry}
use Rattle.line_model.specs.LinkStory.{newest_time}
use Rattle.line_model.specs.ClientView as seen
use Rattle.line_model.specs.ClientView.{ClientChannel, channel, Puts, Nothing, deed}
use Rattle.line_model.specs.ChannelLost.{answer_wait}
use Rattle.line_model.specs.Renews.{is_left}
use Rattle.line_model.specs.Asks.{HasPlace}
use Rattle.line_model.specs.Closing.{is_open}
use Rattle.line_model.specs.ClientEnd.{ClientEnd, Idle, Seeking, Open, Leaving, JustLost, OpenEnd, IsCemi, request_of, is_free, put_octets, channel_put, channel_expired, after_expired, channel_left, after_leave}
use Rattle.tunnel_channel.specs.Fits.{HasNone, KnowsOpen, end_of}
use Rattle.tunnel_channel.specs.Follows.{Expires, PutsRequest, Sends, sent_by, is_told_over, is_up_or_sought}
use Rattle.tunnel_channel.proofs.Frames.{leave_read}
use Rattle.tunnel_channel.proofs.Puts.{opened_put, renews_other, put_none}
use Rattle.tunnel_channel.proofs.Calls.{put_follows, leave_follows}
use Rattle.tunnel_channel.proofs.Expired.{expire_follows}
use Rattle.tunnel_link.specs.declared.known.Known.{Known}
use Rattle.tunnel_link.specs.Kept.{with_due, with_put, with_leave}
use Rattle.tunnel_link.specs.Rights.{CountsBy, IsRight, FitsNow, FitsRecord}
use Rattle.tunnel_link.proofs.Entries.{put_still}
use Rattle.tunnel_link.proofs.PutLast.{put_of, sent_put}
use Rattle.tunnel_link.proofs.MaySend.{fits_of, not_over, Sending, open_sent}
use Rattle.tunnel_link.proofs.Partings.{put_parts}
use Rattle.tunnel_link.proofs.Writings.{channel_written, due_written, put_written}

pub right_with : (k next : Known) (r : List Entry) → next.dropped ≡ k.dropped → next.taken ≡ k.taken → next.fault ≡ k.fault → IsRight k r → IsRight next r
right_with k next r d t f right = record {
  renews = right.renews;
  sends = right.sends;
  writes = right.writes;
  acknowledges = right.acknowledges;
  parts = right.parts;
  drops = d ∙ right.drops;
  takes = t ∙ right.takes;
  fault = rw f right.fault;
}

pub record IsOpenAt (ch : ClientChannel) : Type 0 where
  pub c : ℕ
  pub l : List Entry
  pub is : ch ≡ seen.Open c l

opened : (e : OpenEnd) (left : Bool) (ch : ClientChannel) → KnowsOpen e left ch → IsOpenAt ch
opened e left ch k = record { c = k.c; l = k.l; is = k.is }

-- ---- what is due

not_left : (end : ClientEnd) (ch : ClientChannel) → FitsNow end ch → (is_up_or_sought end && is_left ch) ≡ false
not_left Idle ch f = refl
not_left (Seeking since) ch f = rw f refl
not_left (Open e) ch f = rw f.is refl
not_left (Leaving e) ch f = rw f.is refl
not_left (JustLost c) ch f = absurd f

seeking_sends : (since now : ℕ) (octets : List ℕ) (t : Bool) → has_passed answer_wait since now ≡ t → sent_by (channel_expired (Seeking since) now) ≡ Some octets → ⊥
unfolding channel_expired
seeking_sends since now octets true q h = absurd (let e : (sent_by (channel_expired (Seeking since) now) ≡ None) = rw q refl in cc)
seeking_sends since now octets false q h = absurd (let e : (sent_by (channel_expired (Seeking since) now) ≡ None) = rw q refl in cc)

due_open : (end : ClientEnd) (ch : ClientChannel) (now : ℕ) (octets : List ℕ) → FitsNow end ch → sent_by (channel_expired end now) ≡ Some octets → IsOpenAt ch
unfolding channel_expired
due_open Idle ch now octets f h = absurd (cc)
due_open (Seeking since) ch now octets f h = absurd (seeking_sends since now octets (has_passed answer_wait since now) refl h)
due_open (Open e) ch now octets f h = opened e false ch f
due_open (Leaving e) ch now octets f h = opened e true ch f
due_open (JustLost c) ch now octets f h = absurd f

rests_by : (end : ClientEnd) (now : ℕ) (told : ChannelExpired) → sent_by told ≡ None → is_told_over told ≡ false → after_expired end now told ≡ end
unfolding after_expired
rests_by end now due.Nothing n o = refl
rests_by end now (due.Repeat octets) n o = absurd (cc)
rests_by end now due.Lost n o = absurd (cc)
rests_by end now due.NoAnswer n o = absurd (cc)
rests_by end now (due.Beat octets) n o = absurd (cc)
rests_by end now due.Dead n o = absurd (cc)

module _ (k : Known) (r : List Entry) (f : FitsRecord k r) where
  pub expires : Expires k.channel (after_expired k.channel (newest_time r) (channel_expired k.channel (newest_time r))) (channel_expired k.channel (newest_time r)) (newest_time r) r
  expires = expire_follows k.channel (newest_time r) r (fits_of k.channel (newest_time r) (channel r) f.end) (omega arith)

  pub told_over : is_told_over (channel_expired k.channel (newest_time r)) ≡ false
  told_over = expires.over f.current ∙ not_left k.channel (channel r) f.end

  pub due_rests : sent_by (channel_expired k.channel (newest_time r)) ≡ None → with_due k (newest_time r) ≡ k
  due_rests n = rw (rests_by k.channel (newest_time r) (channel_expired k.channel (newest_time r)) n told_over) refl

  pub due_sends : (octets : List ℕ) → IsRight k r → sent_by (channel_expired k.channel (newest_time r)) ≡ Some octets → Sending (with_due k (newest_time r)) octets Nothing r
  due_sends octets right h =
      let s : Sends (after_expired k.channel (newest_time r) (channel_expired k.channel (newest_time r))) octets (newest_time r) r = expires.sends octets h in
      let none = expires.no_deed octets h in
      let still = put_still r octets (newest_time r) none in
      let o = due_open k.channel (channel r) (newest_time r) octets f.end h in
      record {
        right = right_with k (with_due k (newest_time r)) r refl refl refl right;
        written = due_written k.channel (channel r) (newest_time r) octets f.end (channel_written r right.writes) h;
        owes = rw f.paid tt;
        may = s.may;
        renews = expires.right octets h;
        parts = put_parts r octets (newest_time r) f.parted (λ asks. rw o.is refl);
        fits = λ u. open_sent k (with_due k (newest_time r)) r octets o.c o.l o.is f refl s.fits
            (record { acknowledged = f.acknowledged ∙ sym still.acked; confirmed = f.confirmed ∙ sym still.confirms; counts = sent_put k.tunnel k.put (channel r) octets (newest_time r) none f.counts });
        did = none;
      }

-- ---- a request

put_open : (end : ClientEnd) (ch : ClientChannel) (cemi octets : List ℕ) → FitsNow end ch → channel_put end cemi ≡ Some octets → IsOpenAt ch
put_open Idle ch cemi octets f h = absurd (cc)
put_open (Seeking since) ch cemi octets f h = absurd (cc)
put_open (Open e) ch cemi octets f h = opened e false ch f
put_open (Leaving e) ch cemi octets f h = opened e true ch f
put_open (JustLost c) ch cemi octets f h = absurd f

pub put_sends : (k : Known) (r : List Entry) (cemi octets : List ℕ) → FitsRecord k r → IsRight k r → IsCemi cemi → channel_put k.channel cemi ≡ Some octets → Sending (with_put k cemi (newest_time r)) octets (Puts cemi) r
put_sends k r cemi octets f right i h =
    let now : ℕ = newest_time r in
    let p : PutsRequest k.channel cemi octets now r = put_follows k.channel cemi now i r octets (fits_of k.channel now (channel r) f.end) (omega arith) (not_over k r f) h in
    let o = put_open k.channel (channel r) cemi octets f.end h in
    record {
      right = right_with k (with_put k cemi now) r refl refl refl right;
      written = put_written k.channel cemi octets i h;
      owes = rw f.paid tt;
      may = p.sends.may;
      renews = p.right;
      parts = put_parts r octets now f.parted (λ asks. rw o.is refl);
      fits = λ u. open_sent k (with_put k cemi now) r octets o.c o.l o.is f refl p.sends.fits (record { acknowledged = rw h (sym p.unacknowledged); confirmed = rw h (sym p.unconfirmed); counts = rw h (put_of k.tunnel k.put (ldata_in cemi) o.c o.l (entry (Put octets) now) (channel (entry (Put octets) now ∷ r)) (subst (CountsBy k.tunnel k.put) o.is f.counts) (opened_put r octets now o.c o.l o.is) p.frame) });
      did = p.deed;
    }

-- where the place in flight is free it is put
free_puts : (e : OpenEnd) (c : ℕ) (l : List Entry) (cemi : List ℕ) → e ≡ end_of c l → HasPlace (seen.Open c l) → put_octets (Some e) cemi ≡ None → ⊥
free_puts e c l cemi same place h =
    let free : (is_free e.request ≡ true) = rw same (rw place.acknowledged refl) in
    absurd (let g : (put_octets (Some e) cemi ≡ Some (Written (request_of e cemi))) = rw free refl in cc)

known_puts : (e : OpenEnd) (left : Bool) (ch : ClientChannel) (cemi : List ℕ) → KnowsOpen e left ch → HasPlace ch → put_octets (Some e) cemi ≡ None → ⊥
known_puts e left ch cemi k place h = free_puts e k.c k.l cemi k.knows.is (subst HasPlace k.is place) h

pub none_places : (ch : ClientChannel) → HasNone ch → HasPlace ch → ⊥
none_places seen.Fresh n p = p
none_places (seen.Sought since) n p = p
none_places (seen.RefusedBy status) n p = p
none_places seen.Unanswered n p = p
none_places (seen.Open c l) n p = n
none_places (seen.Lost c) n p = p

pub place_puts : (end : ClientEnd) (ch : ClientChannel) (cemi : List ℕ) → FitsNow end ch → HasPlace ch → channel_put end cemi ≡ None → ⊥
place_puts Idle ch cemi f p h = none_places ch f p
place_puts (Seeking since) ch cemi f p h = subst HasPlace f p
place_puts (Open e) ch cemi f p h = known_puts e false ch cemi f p h
place_puts (Leaving e) ch cemi f p h = known_puts e true ch cemi f p h
place_puts (JustLost c) ch cemi f p h = f

-- ---- the end of the channel

pub none_open : (ch : ClientChannel) → HasNone ch → is_open ch ≡ false
none_open seen.Fresh n = refl
none_open (seen.Sought since) n = refl
none_open (seen.RefusedBy status) n = refl
none_open seen.Unanswered n = refl
none_open (seen.Open c l) n = absurd n
none_open (seen.Lost c) n = refl

pub is_left_open : (end : ClientEnd) (ch : ClientChannel) → FitsNow end ch → is_some (channel_left end) ≡ is_open ch
is_left_open Idle ch f = sym (none_open ch f)
is_left_open (Seeking since) ch f = rw f refl
is_left_open (Open e) ch f = rw f.is refl
is_left_open (Leaving e) ch f = rw f.is refl
is_left_open (JustLost c) ch f = absurd f

-- the datagram asks to end that channel
pub record AsksEnd (octets : List ℕ) : Type 0 where
  pub c : ℕ
  pub is : octets ≡ Written (DisconnectRequest c)

pub left_asks : (end : ClientEnd) (octets : List ℕ) → channel_left end ≡ Some octets → AsksEnd octets
left_asks Idle octets h = absurd (cc)
left_asks (Seeking since) octets h = absurd (cc)
left_asks (Open e) octets h = record { c = e.channel; is = cc }
left_asks (Leaving e) octets h = record { c = e.channel; is = cc }
left_asks (JustLost c) octets h = record { c = c; is = cc }

pub asks_read : (octets : List ℕ) (a : AsksEnd octets) → datagram_in octets ≡ Some (DisconnectRequest a.c)
asks_read octets a = subst (λ (o : List ℕ). datagram_in o ≡ Some (DisconnectRequest a.c)) (sym a.is) (leave_read a.c)

leave_open : (end : ClientEnd) (ch : ClientChannel) (octets : List ℕ) → FitsNow end ch → channel_left end ≡ Some octets → IsOpenAt ch
leave_open Idle ch octets f h = absurd (cc)
leave_open (Seeking since) ch octets f h = absurd (cc)
leave_open (Open e) ch octets f h = opened e false ch f
leave_open (Leaving e) ch octets f h = opened e true ch f
leave_open (JustLost c) ch octets f h = absurd f

pub leave_sends : (k : Known) (r : List Entry) (octets : List ℕ) → FitsRecord k r → IsRight k r → channel_left k.channel ≡ Some octets → Sending (with_leave k) octets Nothing r
leave_sends k r octets f right h =
    let now : ℕ = newest_time r in
    let s : Sends (after_leave k.channel) octets now r = leave_follows k.channel r octets now (fits_of k.channel now (channel r) f.end) (omega arith) h in
    let a = left_asks k.channel octets h in
    let none : (deed (channel r) (entry (Put octets) now) ≡ Nothing) = put_none (channel r) octets (DisconnectRequest a.c) now (asks_read octets a) refl in
    let still = put_still r octets now none in
    let o = leave_open k.channel (channel r) octets f.end h in
    record {
      right = right_with k (with_leave k) r refl refl refl right;
      written = record { frame = DisconnectRequest a.c; carries = tt; is = a.is };
      owes = rw f.paid tt;
      may = s.may;
      renews = renews_other r octets (DisconnectRequest a.c) now (asks_read octets a) refl;
      parts = put_parts r octets now f.parted (λ asks. rw o.is refl);
      fits = λ u. open_sent k (with_leave k) r octets o.c o.l o.is f refl s.fits
          (record { acknowledged = f.acknowledged ∙ sym still.acked; confirmed = f.confirmed ∙ sym still.confirms; counts = sent_put k.tunnel k.put (channel r) octets now none f.counts });
      did = none;
    }
