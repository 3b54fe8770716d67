-- A connect request, a request, a disconnect request and a loss follow the record.
use Rattle.std.proofs.Common.{◌≡◌, ◌≢◌, ℕ, ◌≤◌, ◌⊎◌, inl, inr, List, [], ◌∷◌, Bool, true, false, cond, Some, None, refl, sym, ◌∙◌, ap, subst}
use Rattle.std.specs.Prelude.{◌||◌}
use Rattle.knx_model.specs.declared.frames.ip.IpFrame.TheVariants.{ConnectRequest, DisconnectRequest, TunnellingRequest}
use Rattle.knx_model.specs.KnxNetIp.{Written}
use Rattle.line_model.specs.Reading.{datagram_in}
use Rattle.line_model.specs.Record.{Item, Put, Renewed, Got, Quiet, Entry, entry, is_poll, is_renewal}
use Rattle.line_model.specs.LinkStory.{newest_time}
use Rattle.line_model.specs.ChannelLost as lapse
use Rattle.line_model.specs.ChannelLost.{own, acknowledged, confirmed, beats, is_none, is_unconfirmed, has_lapsed}
use Rattle.line_model.specs.ClientView as seen
use Rattle.line_model.specs.ClientView.{ClientChannel, channel, Puts, after_entry, deed}
use Rattle.line_model.specs.Renews.{is_just_renewed, MayLeave}
use Rattle.line_model.specs.Sendings.{last_request}
use Rattle.line_model.specs.ClientEnd.{OpenEnd, ClientEnd, Idle, Seeking, Open, Leaving, JustLost, MayConnect, IsCemi, is_over, is_free, put_octets, with_request, request_of}
use Rattle.tunnel_channel.specs.Fits.{end_of, Knows, KnowsOpen, IsBehind, HasNone, Fits}
use Rattle.tunnel_channel.specs.Follows.{Sends, ConnectFollows, PutsRequest, PutFollows, LostFollows, LeaveFollows, is_confirmation_late}
use Rattle.tunnel_channel.proofs.Frames.{connect_read, leave_read, request_read}
use Rattle.tunnel_channel.proofs.Times.{over_later, same_free}
use Rattle.tunnel_channel.proofs.Readings.{readings}
use Rattle.tunnel_channel.proofs.Rows.{up, with_up}
use Rattle.tunnel_channel.proofs.Puts.{put_readings, opened_put, lost_put, renews_other}
use Rattle.tunnel_channel.proofs.Given.{same_number, put_fits, put_sends, put_deed}

-- ---- a connect request

renewed_by : (x : Entry) (r : List Entry) → is_renewal x.what ≡ true → channel (x ∷ r) ≡ seen.Fresh
unfolding after_entry
renewed_by x r h = rw h refl

renewed : (r : List Entry) → is_just_renewed r ≡ true → channel r ≡ seen.Fresh
renewed [] h = refl
renewed (x ∷ r) h = renewed_by x r h

connect_sends : (r : List Entry) (now : ℕ) → channel r ≡ seen.Fresh → Sends (Seeking now) (Written ConnectRequest) now r
unfolding after_entry
connect_sends r now fresh = record { may = rw connect_read tt; fits = inl (rw (fresh, connect_read) refl) }

none_leaves : (ch : ClientChannel) → HasNone ch → ch ≢ seen.Fresh → MayLeave ch
none_leaves seen.Fresh n f = absurd (f refl)
none_leaves (seen.Sought since) n f = absurd n
none_leaves (seen.RefusedBy status) n f = tt
none_leaves seen.Unanswered n f = tt
none_leaves (seen.Open c l) n f = absurd n
none_leaves (seen.Lost c) n f = tt

may_leave : (end : ClientEnd) (r : List Entry) → MayConnect end → Fits end r → channel r ≢ seen.Fresh → MayLeave (channel r)
may_leave Idle r m fits f = none_leaves (channel r) fits f
may_leave (Seeking since) r m fits f = absurd m
may_leave (Open e) r m fits f = absurd m
may_leave (Leaving e) r m fits f = absurd m
may_leave (JustLost c) r m fits f = rw fits tt

pub connect_follows : (end : ClientEnd) (now : ℕ) → MayConnect end → ConnectFollows end now
connect_follows end now m r = record {
  sends = λ h. connect_sends r now (renewed r h);
  right = λ h. record { connects = λ c. h; leaves = λ c n. absurd (cc); tries_left = λ c. absurd (cc) };
  leaves = λ fits f. may_leave end r m fits f;
}

-- ---- a request

free_none : (s : List ℕ) → is_none s ≡ true → s ≡ []
free_none [] h = refl
free_none (t ∷ ts) h = absurd (cc)

given_free : (b : Bool) (octets other : List ℕ) → cond b (Some octets) None ≡ Some other → (b ≡ true) × (octets ≡ other)
given_free true octets other h = (refl, cc)
given_free false octets other h = absurd (cc)

known_puts : (left : Bool) (c : ℕ) (l r : List Entry) (now : ℕ) (cemi octets : List ℕ) → IsCemi cemi → channel r ≡ seen.Open c l → Knows (end_of c l) left c l → put_octets (Some (end_of c l)) cemi ≡ Some octets
    → PutsRequest (up left (end_of c l)) cemi octets now r
known_puts left c l r now cemi octets i at k h =
    let g = given_free (is_free (end_of c l).request) (Written (request_of (end_of c l) cemi)) octets h in
    let free : ((own c l).sent ≡ []) = free_none (own c l).sent (sym (same_free (own c l).sent (last_request c l)) ∙ g.0) in
    let read : (datagram_in octets ≡ Some (TunnellingRequest c (own c l).number cemi)) = subst (λ (o : List ℕ). datagram_in o ≡ Some (TunnellingRequest c (own c l).number cemi)) g.1 (request_read c (own c l).number cemi i) in
    record {
      sends = rw (with_up (with_request cemi now) left (end_of c l)) (put_sends left c l r now at k cemi octets read free (sym g.1));
      deed = put_deed left c l r now at k cemi octets read free;
      right = renews_other r octets (TunnellingRequest c (own c l).number cemi) now read refl;
      unacknowledged = rw (opened_put r octets now c l at) (rw (read, same_number c, free) refl);
      unconfirmed = rw (opened_put r octets now c l at) (rw (read, same_number c, free) refl);
      frame = rw (opened_put r octets now c l at) (rw (read, same_number c, free) refl);
    }

up_puts : (left : Bool) (e : OpenEnd) (r : List Entry) (now : ℕ) (cemi octets : List ℕ) → IsCemi cemi → KnowsOpen e left (channel r) ⊎ IsBehind e (newest_time r) (channel r) → newest_time r ≤ now → is_over (Open e) now ≡ false
    → put_octets (Some e) cemi ≡ Some octets → PutsRequest (up left e) cemi octets now r
up_puts left e r now cemi octets i (inl k) le over h =
    let same : (e ≡ end_of k.c k.l) = k.knows.is in
    subst (λ (d : OpenEnd). PutsRequest (up left d) cemi octets now r) (sym same)
    (known_puts left k.c k.l r now cemi octets i k.is (subst (λ (d : OpenEnd). Knows d left k.c k.l) same k.knows) (subst (λ (d : OpenEnd). put_octets (Some d) cemi ≡ Some octets) same h))
up_puts left e r now cemi octets i (inr b) le over h = absurd (let lapsed : (is_over (Open e) now ≡ true) = over_later e (newest_time r) now le b.over in cc)

pub put_follows : (end : ClientEnd) (cemi : List ℕ) (now : ℕ) → IsCemi cemi → PutFollows end cemi now
put_follows Idle cemi now i r octets fits le over h = absurd (cc)
put_follows (Seeking since) cemi now i r octets fits le over h = absurd (cc)
put_follows (Open e) cemi now i r octets fits le over h = up_puts false e r now cemi octets i fits le over h
put_follows (Leaving e) cemi now i r octets fits le over h = up_puts true e r now cemi octets i fits le over h
put_follows (JustLost c) cemi now i r octets fits le over h = absurd (cc)

-- ---- a disconnect request

open_leaves : (left : Bool) (c : ℕ) (l r : List Entry) (now : ℕ) → channel r ≡ seen.Open c l → Knows (end_of c l) left c l → Sends (Leaving (end_of c l)) (Written (DisconnectRequest c)) now r
open_leaves left c l r now at k = record {
  may = rw (leave_read c, at) refl;
  fits = put_fits (end_of c l) true c l r (Written (DisconnectRequest c)) now (record (readings c l) { left = true }) at
      (put_readings c l (Written (DisconnectRequest c)) (DisconnectRequest c) now k.begun (leave_read c) ∙ rw (same_number c) refl)
      (record { is = refl; sendings = k.sendings; heartbeats = k.heartbeats; asked = refl });
}

behind_leaves : (e : OpenEnd) (r : List Entry) (now : ℕ) → channel r ≡ seen.Lost e.channel → is_over (Open e) now ≡ true → Sends (Leaving e) (Written (DisconnectRequest e.channel)) now r
behind_leaves e r now at over = record {
  may = rw (leave_read e.channel, at) refl;
  fits = inr (record { lost = lost_put r (Written (DisconnectRequest e.channel)) now e.channel at; over = over });
}

lost_leaves : (c : ℕ) (r : List Entry) (now : ℕ) → channel r ≡ seen.Lost c → Sends Idle (Written (DisconnectRequest c)) now r
lost_leaves c r now at = record { may = rw (leave_read c, at) refl; fits = rw (lost_put r (Written (DisconnectRequest c)) now c at) tt }

up_leaves : (left : Bool) (e : OpenEnd) (r : List Entry) (now : ℕ) → KnowsOpen e left (channel r) ⊎ IsBehind e (newest_time r) (channel r) → newest_time r ≤ now → Sends (Leaving e) (Written (DisconnectRequest e.channel)) now r
up_leaves left e r now (inl k) le =
    let same : (e ≡ end_of k.c k.l) = k.knows.is in
    subst (λ (d : OpenEnd). Sends (Leaving d) (Written (DisconnectRequest d.channel)) now r) (sym same) (open_leaves left k.c k.l r now k.is (subst (λ (d : OpenEnd). Knows d left k.c k.l) same k.knows))
up_leaves left e r now (inr b) le = behind_leaves e r now b.lost (over_later e (newest_time r) now le b.over)

given : (after : ClientEnd) (one other : List ℕ) (now : ℕ) (r : List Entry) → Some one ≡ Some other → Sends after one now r → Sends after other now r
given after one other now r h s = subst (λ (x : List ℕ). Sends after x now r) (let e : (one ≡ other) = (cc) in e) s

pub leave_follows : (end : ClientEnd) → LeaveFollows end
leave_follows Idle r octets now fits le h = absurd (cc)
leave_follows (Seeking since) r octets now fits le h = absurd (cc)
leave_follows (Open e) r octets now fits le h = given (Leaving e) (Written (DisconnectRequest e.channel)) octets now r h (up_leaves false e r now fits le)
leave_follows (Leaving e) r octets now fits le h = given (Leaving e) (Written (DisconnectRequest e.channel)) octets now r h (up_leaves true e r now fits le)
leave_follows (JustLost c) r octets now fits le h = given Idle (Written (DisconnectRequest c)) octets now r h (lost_leaves c r now fits)

-- ---- a confirmation that didn't come in time

late_lapses : (a b u : Bool) → u ≡ true → (a || u || b) ≡ true
late_lapses true b u h = refl
late_lapses false b u h = rw h refl

pub poll_loses : (r : List Entry) (what : Item) (now c : ℕ) (l : List Entry) → channel r ≡ seen.Open c l → is_poll what ≡ true → has_lapsed c l now ≡ true → channel (entry what now ∷ r) ≡ seen.Lost c
unfolding after_entry
poll_loses r (Put octets) now c l at p h = absurd (cc)
poll_loses r Renewed now c l at p h = absurd (cc)
poll_loses r (Got octets) now c l at p h = rw (at, h) refl
poll_loses r Quiet now c l at p h = rw (at, h) refl

up_lost : (left : Bool) (e : OpenEnd) (r : List Entry) (what : Item) (now : ℕ) → KnowsOpen e left (channel r) ⊎ IsBehind e (newest_time r) (channel r) → is_poll what ≡ true → is_confirmation_late (channel r) now ≡ true
    → channel (entry what now ∷ r) ≡ seen.Lost e.channel
up_lost left e r what now (inl k) p u =
    let late : (is_unconfirmed (acknowledged k.c k.l) (confirmed k.c k.l) now ≡ true) = subst (λ (ch : ClientChannel). is_confirmation_late ch now ≡ true) k.is u in
    poll_loses r what now k.c k.l k.is p (late_lapses (lapse.is_given_up (own k.c k.l).sent now) (lapse.is_dead (beats k.c k.l) now) _ late) ∙ ap (λ (d : OpenEnd). seen.Lost d.channel) (sym k.knows.is)
up_lost left e r what now (inr b) p u = absurd (let f : (is_confirmation_late (seen.Lost e.channel) now ≡ true) = subst (λ (ch : ClientChannel). is_confirmation_late ch now ≡ true) b.lost u in cc)

pub lost_follows : (end : ClientEnd) → LostFollows end
lost_follows Idle r what now fits o p u = absurd (cc)
lost_follows (Seeking since) r what now fits o p u = absurd (cc)
lost_follows (Open e) r what now fits o p u = up_lost false e r what now fits p u
lost_follows (Leaving e) r what now fits o p u = up_lost true e r what now fits p u
lost_follows (JustLost c) r what now fits o p u = absurd (cc)
