-- What this end knows and answers after a poll, by its last entry.
use Rattle.std.proofs.Common.{◌≡◌, inl, inr, ℕ, ◌≤◌, List, ◌∷◌, ◌++◌, Bool, true, false, Option, Some, None, refl, sym, subst, ap, ◌∙◌}
use Rattle.std.proofs.lemmas.Bool.{or_parts}
use Rattle.knx_model.specs.declared.frames.ip.IpFrame.{IpFrame}
use Rattle.line_model.specs.declared.client_end.ChannelTook.{ChannelTook}
use Rattle.line_model.specs.declared.client_end.ChannelTook.TheVariants as took
use Rattle.line_model.specs.Reading.{datagram_in}
use Rattle.line_model.specs.Record.{Item, Put, Renewed, Got, Quiet, Entry, entry, is_poll, Placed, entries}
use Rattle.line_model.specs.LinkStory.{newest_time, AreWaits}
use Rattle.line_model.specs.ClientView as seen
use Rattle.line_model.specs.ClientView.{ClientChannel, channel}
use Rattle.line_model.specs.Faults as fault
use Rattle.line_model.specs.ClientEnd.{ClientEnd, Idle, Seeking, Open, Leaving, JustLost, is_over}
use Rattle.line_model.specs.ClientFrames.{HasTunnelIfUp, channel_took, after_took}
use Rattle.tunnel_channel.specs.Fits.{HasNone}
use Rattle.tunnel_channel.specs.Follows.{TakesFrame}
use Rattle.tunnel_channel.proofs.Answered.{take_follows}
use Rattle.tunnel_link.specs.declared.came.Answer.{Answer}
use Rattle.tunnel_link.specs.declared.came.What.TheVariants as came
use Rattle.tunnel_link.specs.declared.known.Known.{Known}
use Rattle.tunnel_link.specs.Calls.{after_item, item_answer}
use Rattle.tunnel_link.specs.Kept.{only, is_late, is_over_for, lapsed, lapse_answer, dropped_as_unread, after_got, got_answer, read_or_dropped, read_answer, taken, take_answer, counted, with_channel_of, answers_heartbeat, after_told, told_answer}
use Rattle.tunnel_link.specs.Rights.{IsRight, FitsNow, FitsRecord}
use Rattle.tunnel_link.specs.Adds.{GotSo, moments_on}
use Rattle.tunnel_link.proofs.Entries.{poll_right}
use Rattle.tunnel_link.proofs.MaySend.{fits_of}
use Rattle.tunnel_link.proofs.Waited.{Waited, InTime, Lapsed, Unheard, waited_more, late_is, open_timely, over_for_later}
use Rattle.tunnel_link.proofs.Lapses.{Answers, lapse_answers, lapse_what}
use Rattle.tunnel_link.proofs.Heard.{drops_one, drops_none, takes_one, takes_none}
use Rattle.tunnel_link.proofs.Beats.{InTimeAt, beat_told}
use Rattle.tunnel_link.proofs.TakesRows.{TakenSo, IsCounted, row_dropped, row_up, row_refused, row_acked, row_alive}
use Rattle.tunnel_link.proofs.TakesSends.{row_again, row_cemi, row_ended, row_gone}
use Rattle.tunnel_link.proofs.Polls.{waits_all, waits_right, waited_paid, fits_with, ForNone, unread_for, over_for}
use Rattle.tunnel_channel.proofs.Times.{passed_later}

-- ---- a frame that came in time

module _ (k : Known) (r : List Entry) (f : FitsRecord k r) (right : IsRight k r) (calm : k.fault ≡ None) (octets : List ℕ) (frame : IpFrame) (now : ℕ) (is : datagram_in octets ≡ Some frame) (le : newest_time r ≤ now) (over : is_over_for k now ≡ false) (tunnel : HasTunnelIfUp frame) where
  late : is_late k.flight now ≡ false
  late = (or_parts (is_late k.flight now) (is_over k.channel now) over).0

  in_time : is_over k.channel now ≡ false
  in_time = (or_parts (is_late k.flight now) (is_over k.channel now) over).1

  timely : (end : ClientEnd) → k.channel ≡ end → FitsNow end (channel r) → InTimeAt (channel r) now
  timely Idle at g = none_timely (channel r) g
    where
      none_timely : (ch : ClientChannel) → HasNone ch → InTimeAt ch now
      none_timely seen.Fresh n = tt
      none_timely (seen.Sought since) n = tt
      none_timely (seen.RefusedBy status) n = tt
      none_timely seen.Unanswered n = tt
      none_timely (seen.Open c l) n = absurd n
      none_timely (seen.Lost c) n = tt
  timely (Seeking since) at g = subst (λ (ch : ClientChannel). InTimeAt ch now) (sym g) tt
  timely (Open e) at g = subst (λ (ch : ClientChannel). InTimeAt ch now) (sym g.is) (open_timely k r f (Got octets) now refl le e false g late (sym (ap (λ (end : ClientEnd). is_over end now) at) ∙ in_time))
  timely (Leaving e) at g = subst (λ (ch : ClientChannel). InTimeAt ch now) (sym g.is) (open_timely k r f (Got octets) now refl le e true g late (sym (ap (λ (end : ClientEnd). is_over end now) at) ∙ in_time))
  timely (JustLost c) at g = absurd g

  frame_so : TakesFrame (after_took k.channel frame now (channel_took k.channel frame now)) (channel_took k.channel frame now) (is_over k.channel now) octets now r
  frame_so = take_follows k.channel frame now tunnel r octets (fits_of k.channel (newest_time r) (channel r) f.end) le (sym (late_is k r f (Got octets) now refl le) ∙ late) is

  beats_so : fault.answers_heartbeat (channel r) (entry (Got octets) now) ≡ answers_heartbeat frame (channel_took k.channel frame now)
  beats_so = beat_told k.channel r octets frame now f.end (timely k.channel refl f.end) is frame_so.drops

  counted_by : (b : Bool) → answers_heartbeat frame (channel_took k.channel frame now) ≡ b
      → IsCounted k (counted frame (channel_took k.channel frame now) (with_channel_of k frame now)) (after_took k.channel frame now (channel_took k.channel frame now)) (entry (Got octets) now ∷ r)
  counted_by true q = rw q (record { channel_is = refl; flight_is = refl; tunnel_is = refl; put_is = refl; tries_is = refl; fault_is = refl; drops_is = refl; takes_is = takes_none k.taken r (entry (Got octets) now) (rw (beats_so, q) refl) right.takes })
  counted_by false q = rw q (record { channel_is = refl; flight_is = refl; tunnel_is = refl; put_is = refl; tries_is = refl; fault_is = refl; drops_is = refl; takes_is = takes_one k.taken r (entry (Got octets) now) (rw (beats_so, q) refl) right.takes })

  by_told : (t : ChannelTook) → channel_took k.channel frame now ≡ t → (next : Known) → TakesFrame (after_took k.channel frame now t) t (is_over k.channel now) octets now r → IsCounted k next (after_took k.channel frame now t) (entry (Got octets) now ∷ r)
      → TakenSo (after_told now t next) (told_answer t k.tunnel k.put next.channel) r (entry (Got octets) now)
  by_told took.Dropped q next t cs = row_dropped k r f right calm octets frame now is in_time next q t cs
  by_told (took.Up address) q next t cs = row_up k r f right calm octets frame now is in_time address next q t cs
  by_told (took.RefusedBy status) q next t cs = row_refused k r f right calm octets frame now is in_time status next q t cs
  by_told took.Acked q next t cs = row_acked k r f right calm octets frame now is in_time next q t cs
  by_told (took.Cemi cemi ack) q next t cs = row_cemi k r f right calm octets frame now is in_time cemi ack next q t cs
  by_told (took.Again ack) q next t cs = row_again k r f right calm octets frame now is in_time ack next q t cs
  by_told (took.Gone None) q next t cs = row_gone k r f right calm octets frame now is in_time (timely k.channel refl f.end) next q t cs
  by_told (took.Gone (Some answer)) q next t cs = row_ended k r f right calm octets frame now is in_time (timely k.channel refl f.end) answer next q t cs
  by_told took.Alive q next t cs = row_alive k r f right calm octets frame now is in_time next q t cs

  same_channel : (b : Bool) → answers_heartbeat frame (channel_took k.channel frame now) ≡ b → (counted frame (channel_took k.channel frame now) (with_channel_of k frame now)).channel ≡ (with_channel_of k frame now).channel
  same_channel true q = rw q refl
  same_channel false q = rw q refl

  pub takes_so : TakenSo (taken k frame now) (take_answer k frame now) r (entry (Got octets) now)
  unfolding taken take_answer
  takes_so =
      let next : Known = counted frame (channel_took k.channel frame now) (with_channel_of k frame now) in
      subst (λ (end : ClientEnd). TakenSo (after_told now (channel_took k.channel frame now) (counted frame (channel_took k.channel frame now) (with_channel_of k frame now))) (told_answer (channel_took k.channel frame now) k.tunnel k.put end) r (entry (Got octets) now)) (same_channel _ refl)
      (by_told (channel_took k.channel frame now) refl (counted frame (channel_took k.channel frame now) (with_channel_of k frame now)) frame_so (counted_by _ refl))

-- ---- what came, and what is answered

pub record Comes (next : Known) (answer : Answer) (old ws : List Placed) (p : Placed) : Type 0 where
  pub answers : Answers next answer old (p ∷ ws)
  pub got : GotSo answer.what (entries (ws ++ old)) p.what

module _ (k : Known) (old ws : List Placed) (calm : k.fault ≡ None) (f : FitsRecord k (entries old)) (right : IsRight k (entries old)) (times : AreWaits (newest_time (entries old)) (entries ws)) (at now : ℕ) (le : newest_time (entries (ws ++ old)) ≤ now) where
  abbrev last : Item → Placed
  last what = record { at = at; what = entry what now }

  waited : Waited k old ws
  waited = waits_all k old ws f times

  right_then : IsRight k (entries (ws ++ old))
  right_then = waits_right k old ws calm f times right

  quiet_so : Comes (lapsed k now) (lapse_answer came.Quiet k now) old ws (last Quiet)
  quiet_so =
      let w : Waited k old (last Quiet ∷ ws) = waited_more k old ws (last Quiet) refl le (inl refl) waited in
      let good : IsRight k (entry Quiet now ∷ entries (ws ++ old)) = poll_right k k (entries (ws ++ old)) Quiet now refl (waited_paid k old ws waited) right_then (drops_none k.dropped (entries (ws ++ old)) (entry Quiet now) refl right_then.drops)
      (takes_none k.taken (entries (ws ++ old)) (entry Quiet now) refl right_then.takes) (rw calm tt) in
      record {
        answers = lapse_answers came.Quiet k old (last Quiet ∷ ws) tt good w;
        got = rw (lapse_what came.Quiet k old (last Quiet ∷ ws) w) refl;
      }

  -- a datagram for no one counts as got and as dropped
  unread_right : (octets : List ℕ) → ForNone (entries (ws ++ old)) octets now → IsRight (dropped_as_unread k) (entry (Got octets) now ∷ entries (ws ++ old))
  unread_right octets n = poll_right k (dropped_as_unread k) (entries (ws ++ old)) (Got octets) now refl (waited_paid k old ws waited) right_then (drops_one k.dropped (entries (ws ++ old)) (entry (Got octets) now) n.drops right_then.drops)
      (takes_one k.taken (entries (ws ++ old)) (entry (Got octets) now) n.counts right_then.takes) (rw calm tt)

  waited_unread : Waited (dropped_as_unread k) old ws
  waited_unread = waits_all (dropped_as_unread k) old ws (fits_with k (dropped_as_unread k) (entries old) refl refl refl refl refl f) times

  got_late : (octets : List ℕ) → is_over_for k now ≡ true → Comes (lapsed (dropped_as_unread k) now) (lapse_answer came.Dropped (dropped_as_unread k) now) old ws (last (Got octets))
  got_late octets over =
      let n : ForNone (entries (ws ++ old)) octets now = over_for k old ws octets now le over waited in
      let w : Waited (dropped_as_unread k) old (last (Got octets) ∷ ws) = waited_more (dropped_as_unread k) old ws (last (Got octets)) refl le (inr over) waited_unread in
      record {
        answers = lapse_answers came.Dropped (dropped_as_unread k) old (last (Got octets) ∷ ws) tt (unread_right octets n) w;
        got = rw (lapse_what came.Dropped (dropped_as_unread k) old (last (Got octets) ∷ ws) w) (record { got = refl; drops = n.drops }, n.opens_none);
      }

  got_unread : (octets : List ℕ) → is_over_for k now ≡ false → datagram_in octets ≡ None → Waited (dropped_as_unread k) old (last (Got octets) ∷ ws) → Comes (dropped_as_unread k) (only came.Dropped) old ws (last (Got octets))
  got_unread octets over n (InTime g a) =
      let none : ForNone (entries (ws ++ old)) octets now = unread_for (entries (ws ++ old)) octets now n in
      record {
        answers = record { so = record { right = unread_right octets none; fits = λ u. g }; tells = refl; does = inl a };
        got = (record { got = refl; drops = none.drops }, none.opens_none);
      }
  got_unread octets over n (Lapsed h one) = absurd (let o : (is_over_for k now ≡ true) = h.over in cc)
  got_unread octets over n (Unheard h a) =
      absurd (let o : (is_over k.channel now ≡ true) = ap (λ (end : ClientEnd). is_over end now) h.is ∙ h.over in let p : (is_over k.channel now ≡ false) = (or_parts (is_late k.flight now) (is_over k.channel now) over).1 in cc)

  got_frame : (octets : List ℕ) (frame : IpFrame) → is_over_for k now ≡ false → datagram_in octets ≡ Some frame → HasTunnelIfUp frame → Waited k old ws → Comes (taken k frame now) (take_answer k frame now) old ws (last (Got octets))
  got_frame octets frame over is tunnel (InTime g a) =
      let t : TakenSo (taken k frame now) (take_answer k frame now) (entries (ws ++ old)) (entry (Got octets) now) = takes_so k (entries (ws ++ old)) g right_then calm octets frame now is le over tunnel in
      record {
        answers = record { so = t.so; tells = t.tells; does = t.does _ (moments_on old ws) refl refl a };
        got = t.got;
      }
  got_frame octets frame over is tunnel (Lapsed h one) =
      absurd (let o : (is_over_for k now ≡ true) = over_for_later k h.e (newest_time (entries (ws ++ old))) now h.is le h.over in cc)
  got_frame octets frame over is tunnel (Unheard h a) =
      absurd (let o : (is_over k.channel now ≡ true) = ap (λ (end : ClientEnd). is_over end now) h.is ∙ passed_later 10000 h.since (newest_time (entries (ws ++ old))) now le h.over in let p : (is_over k.channel now ≡ false) = (or_parts (is_late k.flight now) (is_over k.channel now) over).1 in cc)

  by_frame : (octets : List ℕ) (o : Option IpFrame) → datagram_in octets ≡ o → is_over_for k now ≡ false → ((frame : IpFrame) → o ≡ Some frame → HasTunnelIfUp frame) → Comes (read_or_dropped k now o) (read_answer k now o) old ws (last (Got octets))
  by_frame octets None n over h = got_unread octets over n (waited_more (dropped_as_unread k) old ws (last (Got octets)) refl le (inl n) waited_unread)
  by_frame octets (Some frame) is over h = got_frame octets frame over is (h frame refl) waited

  got_so : (octets : List ℕ) (t : Bool) → is_over_for k now ≡ t → ((frame : IpFrame) → datagram_in octets ≡ Some frame → HasTunnelIfUp frame) → Comes (after_got k octets now) (got_answer k octets now) old ws (last (Got octets))
  got_so octets true over h = rw over (got_late octets over)
  got_so octets false over h = rw over (by_frame octets (datagram_in octets) refl over h)

  pub comes : (what : Item) → is_poll what ≡ true → ((octets : List ℕ) (frame : IpFrame) → datagram_in octets ≡ Some frame → HasTunnelIfUp frame) → Comes (after_item k what now) (item_answer k what now) old ws (last what)
  comes (Put octets) p h = absurd (cc)
  comes Renewed p h = absurd (cc)
  comes (Got octets) p h = got_so octets (is_over_for k now) refl (h octets)
  comes Quiet p h = quiet_so
