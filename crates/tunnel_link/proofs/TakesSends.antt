-- The answers of the channel to a frame that came in time, and to which something is sent.
use Rattle.std.proofs.Common.{◌≡◌, inl, inr, ℕ, List, [], ◌∷◌, Bool, true, false, Option, Some, None, refl, sym, subst, ap, ◌∙◌}
use Rattle.std.specs.Prelude.{is_some}
use Rattle.knx_model.specs.declared.frames.cemi.Ldata.{Ldata}
use Rattle.knx_model.specs.declared.frames.ip.IpFrame.{IpFrame}
use Rattle.knx_model.specs.declared.frames.ip.IpFrame.TheVariants.{StateResponse, DisconnectRequest, DisconnectResponse}
use Rattle.line_model.specs.declared.client_end.ChannelTook.{ChannelTook}
use Rattle.line_model.specs.declared.client_end.ChannelTook.TheVariants as took
use Rattle.line_model.specs.Reading.{datagram_in, ldata_in, is_con, is_connect_request, disconnect_request_in}
use Rattle.line_model.specs.Record.{Put, Entry, entry}
use Rattle.line_model.specs.ClientView as seen
use Rattle.line_model.specs.ClientView.{ClientChannel, channel, Takes, Loses, Nothing, is_stray, traffic, deed}
use Rattle.line_model.specs.Moments.{Moment}
use Rattle.line_model.specs.Signs.{Every}
use Rattle.line_model.specs.ClientEnd.{ClientEnd, Idle, Seeking, Open, Leaving, JustLost, is_over}
use Rattle.line_model.specs.ClientFrames.{gone, channel_took, after_took}
use Rattle.line_model.specs.Leaves.{parting_of, PartsSo}
use Rattle.line_model.specs.ChannelLost.{is_confirmation_of}
use Rattle.line_model.proofs.Strays.{con_stray}
use Rattle.tunnel_channel.specs.Fits.{FitsChannel, last_in}
use Rattle.tunnel_channel.specs.Follows.{Ends, Stays, change_told, answer_in, acknowledgement_in}
use Rattle.tunnel_channel.proofs.Frames.{leave_read}
use Rattle.tunnel_link.specs.declared.known.Known.{Known}
use Rattle.tunnel_link.specs.Kept.{none_in_flight, drops, told_answer, tried, left}
use Rattle.tunnel_link.specs.Rights.{IsRight, FitsRecord, tries_of}
use Rattle.tunnel_link.specs.Adds.{IsNothing}
use Rattle.tunnel_link.proofs.MaySend.{Sending, Flies, lost_sent}
use Rattle.tunnel_link.proofs.Lapses.{leaves_lost}
use Rattle.tunnel_link.proofs.Takes.{IsDown, gone_down, IsLostAt, lost_by}
use Rattle.tunnel_link.proofs.Beats.{InTimeAt}
use Rattle.tunnel_link.proofs.Partings.{put_parts, parting_sent, IsEnding, ending, PartsBy, Requested, Responded, Told, parts_by, loses_it, parting_is, is_answered, idle_loses, lost_idle, AnswersIt, answers_it}
use Rattle.tunnel_link.specs.Adds.{One}
use Rattle.tunnel_link.proofs.PutLast.{last_is, other_confirms, taken_deed, unread_confirms}
use Rattle.tunnel_link.proofs.Writings.{answer_written}
use Rattle.tunnel_link.proofs.TakesRows.{TakenSo, IsCounted, x, Frame, Row, changes, calm_right, undropped, dropped_up, failed_stay, few_stay, unowed, fits_next, fits_acked, flies_same, put_same, did_nothing, did_lose, did_take, opens_nothing, all_nothing, unparted}

module _ (k : Known) (r : List Entry) (f : FitsRecord k r) (right : IsRight k r) (calm : k.fault ≡ None) (octets : List ℕ) (frame : IpFrame) (now : ℕ) (is : datagram_in octets ≡ Some frame) (over : is_over k.channel now ≡ false) where
  -- an acknowledgement, of which nothing else is known
  sends_ack : (told : ChannelTook) (counted next : Known) (t : Frame k r f right calm octets frame now is over told) (cs : IsCounted k counted (after_took k.channel frame now told) (x k r f right calm octets frame now is over ∷ r)) (ack : List ℕ)
      → channel_took k.channel frame now ≡ told → answer_in told ≡ Some ack → acknowledgement_in told ≡ Some ack → next.channel ≡ counted.channel → IsRight next (x k r f right calm octets frame now is over ∷ r) → Flies next (channel (x k r f right calm octets frame now is over ∷ r)) → next.tries ≡ counted.tries → change_told told ≡ Stays
      → Sending next ack Nothing (x k r f right calm octets frame now is over ∷ r)
  sends_ack told counted next t cs ack q a h same good flies tried stays = record {
    right = good;
    written = answer_written k.channel frame now told q ack a;
    owes = t.owes ack a;
    may = (t.answers ack a).may;
    renews = t.right ack a;
    parts = put_parts (x k r f right calm octets frame now is over ∷ r) ack now (unparted k r f right calm octets frame now is over told counted t cs (λ e. absurd (let z : Stays ≡ Ends = sym stays ∙ e in cc)))
        (λ asks. absurd (let none : (is_some (disconnect_request_in (datagram_in ack)) ≡ false) = rw (t.asks_not ack a) refl in let z : true ≡ false = sym asks ∙ none in cc));
    fits = λ u. fits_acked k r f right calm octets frame now is over told counted t cs next ack a h same flies (ap tries_of tried ∙ failed_stay k r f right calm octets frame now is over told counted t cs (inl stays)) (few_stay k r f right calm octets frame now is over told counted t cs (inl stays));
    did = t.no_deed ack a;
  }

  pub row_again : (ack : List ℕ) → Row k r f right calm octets frame now is over (took.Again ack)
  unfolding after_took
  row_again ack counted q t cs = record {
    so = sends_ack (took.Again ack) counted counted t cs ack q refl refl refl (calm_right k r f right calm octets frame now is over (took.Again ack) counted t cs counted (undropped k r f right calm octets frame now is over (took.Again ack) counted t cs refl) refl refl)
        (flies_same k r f right calm octets frame now is over (took.Again ack) counted t cs counted refl refl refl (λ h. absurd (cc)) (t.acked over) (t.confirms over)) refl refl;
    tells = rw (t.asks_not ack refl) refl;
    got = (record { got = refl; drops = t.drops }, opens_nothing k r f right calm octets frame now is over (took.Again ack) counted t cs (λ h. absurd (cc)));
    does = λ m l w n a. all_nothing k r f right calm octets frame now is over m l _ (did_nothing k r f right calm octets frame now is over (took.Again ack) counted t cs refl (λ h. absurd (cc))) w a;
  }

  -- a request of the gateway's, with a frame of the link layer or without
  took_is : (cemi ack : List ℕ) (counted : Known) (t : Frame k r f right calm octets frame now is over (took.Cemi cemi ack)) → IsCounted k counted (after_took k.channel frame now (took.Cemi cemi ack)) (x k r f right calm octets frame now is over ∷ r)
      → traffic (channel r) (x k r f right calm octets frame now is over) ≡ Takes cemi
  took_is cemi ack counted t cs = did_take k r f right calm octets frame now is over (took.Cemi cemi ack) counted t cs cemi refl

  row_unread : (cemi ack : List ℕ) → ldata_in cemi ≡ None → Row k r f right calm octets frame now is over (took.Cemi cemi ack)
  unfolding after_took
  row_unread cemi ack m counted q t cs =
      let last : last_in (channel r) ≡ k.put = last_is k.tunnel k.put (channel r) (x k r f right calm octets frame now is over) cemi f.counts (took_is cemi ack counted t cs) in
      let did : (deed (channel r) (x k r f right calm octets frame now is over) ≡ Takes cemi) = taken_deed k.tunnel k.put (channel r) (x k r f right calm octets frame now is over) cemi f.counts (took_is cemi ack counted t cs) ∙ rw m refl in
      let stays : is_confirmation_of (last_in (channel r)) (ldata_in cemi) ≡ false = ap (is_confirmation_of (last_in (channel r))) m ∙ unread_confirms (last_in (channel r)) in
      rw m (record {
        so = sends_ack (took.Cemi cemi ack) counted (drops counted) t cs ack q refl refl refl (calm_right k r f right calm octets frame now is over (took.Cemi cemi ack) counted t cs (drops counted) (dropped_up k r f right calm octets frame now is over (took.Cemi cemi ack) counted t cs (rw m refl)) refl refl)
            (flies_same k r f right calm octets frame now is over (took.Cemi cemi ack) counted t cs (drops counted) refl refl refl (λ h. absurd (cc)) (t.acked over) (t.confirms over ∙ rw stays refl)) refl refl;
        tells = rw (t.asks_not ack refl) refl;
        got = (record { got = refl; drops = t.drops ∙ rw m refl }, opens_nothing k r f right calm octets frame now is over (took.Cemi cemi ack) counted t cs (λ h. absurd (cc)));
        does = λ e l w n a. inr (record { newer = []; m = e; older = l; all = refl; is = record { octets = cemi; takes = w ∙ did; unread = m }; newer_nothing = tt; older_nothing = a }, refl);
      })

  row_frame : (cemi ack : List ℕ) (ldata : Ldata) (b : Bool) → ldata_in cemi ≡ Some ldata → is_con ldata.code ≡ false → is_stray k.tunnel (Some ldata) ≡ b → Row k r f right calm octets frame now is over (took.Cemi cemi ack)
  unfolding after_took
  row_frame cemi ack ldata false m c own counted q t cs =
      let did : (deed (channel r) (x k r f right calm octets frame now is over) ≡ Takes cemi) = taken_deed k.tunnel k.put (channel r) (x k r f right calm octets frame now is over) cemi f.counts (took_is cemi ack counted t cs) ∙ rw (m, own, c) refl in
      let stays : is_confirmation_of (last_in (channel r)) (ldata_in cemi) ≡ false = ap (is_confirmation_of (last_in (channel r))) m ∙ other_confirms (last_in (channel r)) ldata c in
      rw (m, c, own) (record {
        so = sends_ack (took.Cemi cemi ack) counted counted t cs ack q refl refl refl (calm_right k r f right calm octets frame now is over (took.Cemi cemi ack) counted t cs counted (undropped k r f right calm octets frame now is over (took.Cemi cemi ack) counted t cs (rw m refl)) refl refl)
            (flies_same k r f right calm octets frame now is over (took.Cemi cemi ack) counted t cs counted refl refl refl (λ h. absurd (cc)) (t.acked over) (t.confirms over ∙ rw stays refl)) refl refl;
        tells = rw (t.asks_not ack refl) refl;
        got = (record { got = refl; drops = t.drops ∙ rw m refl }, opens_nothing k r f right calm octets frame now is over (took.Cemi cemi ack) counted t cs (λ h. absurd (cc)), record { octets = cemi; taken = did; reads = m });
        does = λ e l w n a. (record { newer = []; m = e; older = l; all = refl; is = record { octets = cemi; takes = w ∙ did; reads = m; then = n }; newer_nothing = tt; older_nothing = a }, refl);
      })
  -- an indication to another device
  row_frame cemi ack ldata true m c own counted q t cs =
      let did : (deed (channel r) (x k r f right calm octets frame now is over) ≡ Nothing) = taken_deed k.tunnel k.put (channel r) (x k r f right calm octets frame now is over) cemi f.counts (took_is cemi ack counted t cs) ∙ rw (m, own) refl in
      let stays : is_confirmation_of (last_in (channel r)) (ldata_in cemi) ≡ false = ap (is_confirmation_of (last_in (channel r))) m ∙ other_confirms (last_in (channel r)) ldata c in
      rw (m, c, own) (record {
        so = sends_ack (took.Cemi cemi ack) counted counted t cs ack q refl refl refl (calm_right k r f right calm octets frame now is over (took.Cemi cemi ack) counted t cs counted (undropped k r f right calm octets frame now is over (took.Cemi cemi ack) counted t cs (rw m refl)) refl refl)
            (flies_same k r f right calm octets frame now is over (took.Cemi cemi ack) counted t cs counted refl refl refl (λ h. absurd (cc)) (t.acked over) (t.confirms over ∙ rw stays refl)) refl refl;
        tells = rw (t.asks_not ack refl) refl;
        got = (record { got = refl; drops = t.drops ∙ rw m refl }, opens_nothing k r f right calm octets frame now is over (took.Cemi cemi ack) counted t cs (λ h. absurd (cc)));
        does = λ e l w n a. all_nothing k r f right calm octets frame now is over e l _ did w a;
      })

  -- a confirmation, of the request put last or of another
  row_con : (cemi ack : List ℕ) (ldata : Ldata) (b : Bool) → ldata_in cemi ≡ Some ldata → is_con ldata.code ≡ true → is_confirmation_of k.put (Some ldata) ≡ b → Row k r f right calm octets frame now is over (took.Cemi cemi ack)
  unfolding after_took
  row_con cemi ack ldata true m c own counted q t cs =
      let last : last_in (channel r) ≡ k.put = last_is k.tunnel k.put (channel r) (x k r f right calm octets frame now is over) cemi f.counts (took_is cemi ack counted t cs) in
      let did : (deed (channel r) (x k r f right calm octets frame now is over) ≡ Takes cemi) = taken_deed k.tunnel k.put (channel r) (x k r f right calm octets frame now is over) cemi f.counts (took_is cemi ack counted t cs) ∙ rw (m, con_stray k.tunnel (Some ldata) c, c, own) refl in
      let comes : is_confirmation_of (last_in (channel r)) (ldata_in cemi) ≡ true = ap (is_confirmation_of (last_in (channel r))) m ∙ ap (λ o. is_confirmation_of o (Some ldata)) last ∙ own in
      let next : Known = record counted { flight = record counted.flight { confirmed = true } } in
      let its : is_confirmation_of counted.put (Some ldata) ≡ true = ap (λ o. is_confirmation_of o (Some ldata)) cs.put_is ∙ own in
      rw (m, c, its, own) (record {
        so = sends_ack (took.Cemi cemi ack) counted (record counted { flight = record counted.flight { confirmed = true } }) t cs ack q refl refl refl
            (calm_right k r f right calm octets frame now is over (took.Cemi cemi ack) counted t cs (record counted { flight = record counted.flight { confirmed = true } }) (undropped k r f right calm octets frame now is over (took.Cemi cemi ack) counted t cs (rw m refl)) refl refl)
            (record {
              acknowledged = rw cs.flight_is (f.acknowledged ∙ sym (t.acked over));
              confirmed = sym (t.confirms over ∙ rw comes refl);
              counts = put_same k r f right calm octets frame now is over (took.Cemi cemi ack) counted t cs (record counted { flight = record counted.flight { confirmed = true } }) refl refl (λ h. absurd (cc));
            }) refl refl;
        tells = rw (t.asks_not ack refl) refl;
        got = (record { got = refl; drops = t.drops ∙ rw m refl }, opens_nothing k r f right calm octets frame now is over (took.Cemi cemi ack) counted t cs (λ h. absurd (cc)), record { octets = cemi; taken = did; reads = m });
        does = λ e l w n a. (record { newer = []; m = e; older = l; all = refl; is = record { octets = cemi; takes = w ∙ did; reads = m; then = n }; newer_nothing = tt; older_nothing = a }, refl);
      })
  row_con cemi ack ldata false m c own counted q t cs =
      let last : last_in (channel r) ≡ k.put = last_is k.tunnel k.put (channel r) (x k r f right calm octets frame now is over) cemi f.counts (took_is cemi ack counted t cs) in
      let did : (deed (channel r) (x k r f right calm octets frame now is over) ≡ Nothing) = taken_deed k.tunnel k.put (channel r) (x k r f right calm octets frame now is over) cemi f.counts (took_is cemi ack counted t cs) ∙ rw (m, con_stray k.tunnel (Some ldata) c, c, own) refl in
      let stays : is_confirmation_of (last_in (channel r)) (ldata_in cemi) ≡ false = ap (is_confirmation_of (last_in (channel r))) m ∙ ap (λ o. is_confirmation_of o (Some ldata)) last ∙ own in
      let its : is_confirmation_of counted.put (Some ldata) ≡ false = ap (λ o. is_confirmation_of o (Some ldata)) cs.put_is ∙ own in
      rw (m, c, its, own) (record {
        so = sends_ack (took.Cemi cemi ack) counted counted t cs ack q refl refl refl (calm_right k r f right calm octets frame now is over (took.Cemi cemi ack) counted t cs counted (undropped k r f right calm octets frame now is over (took.Cemi cemi ack) counted t cs (rw m refl)) refl refl)
            (flies_same k r f right calm octets frame now is over (took.Cemi cemi ack) counted t cs counted refl refl refl (λ h. absurd (cc)) (t.acked over) (t.confirms over ∙ rw stays refl)) refl refl;
        tells = rw (t.asks_not ack refl) refl;
        got = (record { got = refl; drops = t.drops ∙ rw m refl }, opens_nothing k r f right calm octets frame now is over (took.Cemi cemi ack) counted t cs (λ h. absurd (cc)));
        does = λ e l w n a. all_nothing k r f right calm octets frame now is over e l _ did w a;
      })

  by_reading : (cemi ack : List ℕ) (o : Option Ldata) → ldata_in cemi ≡ o → Row k r f right calm octets frame now is over (took.Cemi cemi ack)
  by_reading cemi ack None m = row_unread cemi ack m
  by_reading cemi ack (Some ldata) m = by_code (is_con ldata.code) refl
    where
      by_code : (b : Bool) → is_con ldata.code ≡ b → Row k r f right calm octets frame now is over (took.Cemi cemi ack)
      by_code true c = row_con cemi ack ldata (is_confirmation_of k.put (Some ldata)) m c refl
      by_code false c = row_frame cemi ack ldata (is_stray k.tunnel (Some ldata)) m c refl

  pub row_cemi : (cemi ack : List ℕ) → Row k r f right calm octets frame now is over (took.Cemi cemi ack)
  row_cemi cemi ack = by_reading cemi ack (ldata_in cemi) refl

  -- ---- the channel has ended

  one_loss : (told : ChannelTook) (counted : Known) (t : Frame k r f right calm octets frame now is over told) (cs : IsCounted k counted (after_took k.channel frame now told) (x k r f right calm octets frame now is over ∷ r)) → change_told told ≡ Ends → (m : Moment) (l : List Moment)
      → m.what ≡ deed (channel r) (x k r f right calm octets frame now is over) → Every IsNothing l → One (λ (m : Moment). m.what ≡ Loses) (m ∷ l)
  one_loss told counted t cs e m l w a = record { newer = []; m = m; older = l; all = refl; is = w ∙ did_lose k r f right calm octets frame now is over told counted t cs e; newer_nothing = tt; older_nothing = a }

  -- what is to be sent then
  its_parts : InTimeAt (channel r) now → (e : IsEnding (channel r) (channel (x k r f right calm octets frame now is over ∷ r))) → PartsBy e.c frame (parting_of (x k r f right calm octets frame now is over ∷ r))
  its_parts timely e =
      subst (λ (o : Option IpFrame). PartsBy e.c frame o) (sym (parting_is r (x k r f right calm octets frame now is over) e.c e.l e.d e.was e.lost))
      (parts_by e.c e.l octets now (subst (λ (ch : ClientChannel). InTimeAt ch now) e.was timely) (loses_it r octets now e.c e.l e.d e.was e.lost).loses frame is)

  its_number : (e : IsEnding (channel r) (channel (x k r f right calm octets frame now is over ∷ r))) → e.d ≡ e.c
  its_number e = (loses_it r octets now e.c e.l e.d e.was e.lost).same

  -- the answer to the gateway's disconnect request
  answer_parts : InTimeAt (channel r) now → (answer : List ℕ) (counted : Known) (t : Frame k r f right calm octets frame now is over (took.Gone (Some answer)))
      → (cs : IsCounted k counted (after_took k.channel frame now (took.Gone (Some answer))) (x k r f right calm octets frame now is over ∷ r)) → PartsSo (x k r f right calm octets frame now is over ∷ r) (entry (Put answer) now)
  answer_parts timely answer counted t cs = by_frame (its_parts timely e)
    where
      e : IsEnding (channel r) (channel (x k r f right calm octets frame now is over ∷ r))
      e = ending (channel r) (channel (x k r f right calm octets frame now is over ∷ r)) (changes k r f right calm octets frame now is over (took.Gone (Some answer)) counted t cs)

      not_connect : is_connect_request (datagram_in answer) ≡ true → ⊥
      not_connect h = let z : false ≡ true = (t.right answer refl).connects h in cc

      a : AnswersIt (x k r f right calm octets frame now is over ∷ r) (datagram_in answer) e.d
      a = answers_it (x k r f right calm octets frame now is over ∷ r) (entry (Put answer) now) (datagram_in answer) e.d e.lost (unowed k r f right calm octets frame now is over (took.Gone (Some answer)) counted t cs refl) (t.asks_not answer refl) not_connect (t.answers answer refl).may

      not_of : (other : IpFrame) → frame ≡ other → disconnect_request_in (Some other) ≡ None → ⊥
      not_of other same none = let z : None ≡ Some e.d = sym (ap disconnect_request_in (is ∙ ap Some same) ∙ none) ∙ a.got in cc

      by_frame : PartsBy e.c frame (parting_of (x k r f right calm octets frame now is over ∷ r)) → PartsSo (x k r f right calm octets frame now is over ∷ r) (entry (Put answer) now)
      by_frame (Requested ch same o) = parting_sent (x k r f right calm octets frame now is over ∷ r) answer now (DisconnectResponse e.c 0) o (a.is ∙ ap (λ (n : ℕ). Some (DisconnectResponse n 0)) (its_number e))
      by_frame (Responded ch status same o) = absurd (not_of (DisconnectResponse ch status) same refl)
      by_frame (Told ch status same o) = absurd (not_of (StateResponse ch status) same refl)

  -- the gateway ended it, and is answered
  pub row_ended : InTimeAt (channel r) now → (answer : List ℕ) → Row k r f right calm octets frame now is over (took.Gone (Some answer))
  unfolding after_took
  row_ended timely answer counted q t cs =
      let told : ChannelTook = took.Gone (Some answer) in
      let at = lost_by (channel r) (channel (x k r f right calm octets frame now is over ∷ r)) (changes k r f right calm octets frame now is over (took.Gone (Some answer)) counted t cs) in
      let s = t.answers answer refl in record {
        so = record {
          right = calm_right k r f right calm octets frame now is over (took.Gone (Some answer)) counted t cs (record counted { flight = none_in_flight }) (undropped k r f right calm octets frame now is over (took.Gone (Some answer)) counted t cs refl) refl refl;
          written = answer_written k.channel frame now told q answer refl;
          owes = t.owes answer refl;
          may = s.may;
          renews = t.right answer refl;
          parts = answer_parts timely answer counted t cs;
          fits = λ u. lost_sent (record counted { flight = none_in_flight }) (x k r f right calm octets frame now is over ∷ r) answer at.c at.is cs.channel_is refl (failed_stay k r f right calm octets frame now is over (took.Gone (Some answer)) counted t cs (inr refl)) (few_stay k r f right calm octets frame now is over (took.Gone (Some answer)) counted t cs (inr refl));
          did = t.no_deed answer refl;
        };
        tells = rw (t.asks_not answer refl) refl;
        got = (record { got = refl; drops = t.drops }, opens_nothing k r f right calm octets frame now is over (took.Gone (Some answer)) counted t cs (λ h. absurd (cc)));
        does = λ m l w n a. one_loss (took.Gone (Some answer)) counted t cs refl m l w a;
      }

  -- it ended otherwise: the gateway didn't ask for it
  not_asked : (ch : ℕ) → frame ≡ DisconnectRequest ch → channel_took k.channel frame now ≡ took.Gone None → ⊥
  not_asked ch same q = is_answered k.channel ch now (is_over k.channel now) refl (subst (λ (o : IpFrame). channel_took k.channel o now ≡ took.Gone None) same q)

  -- nothing is to be sent after the response to the client's own disconnect request
  left_parted : (e : IsEnding (channel r) (channel (x k r f right calm octets frame now is over ∷ r))) → channel_took k.channel frame now ≡ took.Gone None → gone k.channel frame ≡ Idle
      → PartsBy e.c frame (parting_of (x k r f right calm octets frame now is over ∷ r)) → parting_of (x k r f right calm octets frame now is over ∷ r) ≡ None
  left_parted e q at (Requested ch same o) = absurd (not_asked ch same q)
  left_parted e q at (Responded ch status same o) = o
  left_parted e q at (Told ch status same o) =
      let idle : k.channel ≡ Idle = lost_idle k.channel (sym (ap (gone k.channel) same) ∙ at) in
      absurd (idle_loses frame now (subst (λ (end : ClientEnd). channel_took end frame now ≡ took.Gone None) idle q))

  -- and a disconnect request after a state response with another status than 0
  told_parting : (e : IsEnding (channel r) (channel (x k r f right calm octets frame now is over ∷ r))) (c : ℕ) → channel_took k.channel frame now ≡ took.Gone None → gone k.channel frame ≡ JustLost c → channel (x k r f right calm octets frame now is over ∷ r) ≡ seen.Lost c
      → PartsBy e.c frame (parting_of (x k r f right calm octets frame now is over ∷ r)) → parting_of (x k r f right calm octets frame now is over ∷ r) ≡ Some (DisconnectRequest c)
  told_parting e c q at lost (Requested ch same o) = absurd (not_asked ch same q)
  told_parting e c q at lost (Responded ch status same o) = absurd (let z : (Idle ≡ JustLost c) = sym (ap (gone k.channel) same) ∙ at in cc)
  told_parting e c q at lost (Told ch status same o) = o ∙ ap (λ (n : ℕ). Some (DisconnectRequest n)) (sym (its_number e) ∙ sym (same_lost c e.d (sym lost ∙ e.lost)))
    where
      same_lost : (a b : ℕ) → seen.Lost a ≡ seen.Lost b → a ≡ b
      same_lost a b h = cc

  gone_so : (counted : Known) (t : Frame k r f right calm octets frame now is over (took.Gone None)) (cs : IsCounted k counted (after_took k.channel frame now (took.Gone None)) (x k r f right calm octets frame now is over ∷ r)) → channel_took k.channel frame now ≡ took.Gone None → InTimeAt (channel r) now → (end : ClientEnd) → gone k.channel frame ≡ end → counted.channel ≡ end → IsDown end
      → FitsChannel end now (channel (x k r f right calm octets frame now is over ∷ r)) → TakenSo (left counted) (told_answer (took.Gone None) k.tunnel k.put counted.channel) r (x k r f right calm octets frame now is over)
  gone_so counted t cs q timely Idle goes at d g = rw at (record {
    so = record {
      right = calm_right k r f right calm octets frame now is over (took.Gone None) counted t cs (record counted { channel = Idle; flight = none_in_flight }) (undropped k r f right calm octets frame now is over (took.Gone None) counted t cs refl) refl refl;
      fits = λ u. fits_next k r f right calm octets frame now is over (took.Gone None) counted t cs (record counted { channel = Idle; flight = none_in_flight }) g
          (record { acknowledged = sym (t.acked over); confirmed = sym (t.confirms over); counts = put_same k r f right calm octets frame now is over (took.Gone None) counted t cs (record counted { channel = Idle; flight = none_in_flight }) refl refl (λ h. absurd (cc)) })
          (failed_stay k r f right calm octets frame now is over (took.Gone None) counted t cs (inr refl)) (few_stay k r f right calm octets frame now is over (took.Gone None) counted t cs (inr refl)) refl
          (left_parted (ending (channel r) (channel (x k r f right calm octets frame now is over ∷ r)) (changes k r f right calm octets frame now is over (took.Gone None) counted t cs)) q goes
          (its_parts timely (ending (channel r) (channel (x k r f right calm octets frame now is over ∷ r)) (changes k r f right calm octets frame now is over (took.Gone None) counted t cs))));
    };
    tells = refl;
    got = (record { got = refl; drops = t.drops }, opens_nothing k r f right calm octets frame now is over (took.Gone None) counted t cs (λ h. absurd (cc)));
    does = λ m l w n a. one_loss (took.Gone None) counted t cs refl m l w a;
  })
  gone_so counted t cs q timely (Seeking since) goes at d g = absurd (not_sought g)
    where
      lost_at : IsLostAt (channel (x k r f right calm octets frame now is over ∷ r))
      lost_at = lost_by (channel r) (channel (x k r f right calm octets frame now is over ∷ r)) (changes k r f right calm octets frame now is over (took.Gone None) counted t cs)

      not_sought : FitsChannel (Seeking since) now (channel (x k r f right calm octets frame now is over ∷ r)) → ⊥
      not_sought (inl h) = absurd (let e : (seen.Lost lost_at.c ≡ seen.Sought since) = sym lost_at.is ∙ h in cc)
      not_sought (inr h) = absurd (let e : (seen.Lost lost_at.c ≡ seen.Unanswered) = sym lost_at.is ∙ h.unanswered in cc)
  gone_so counted t cs q timely (Open e) goes at d g = absurd d
  gone_so counted t cs q timely (Leaving e) goes at d g = absurd d
  gone_so counted t cs q timely (JustLost c) goes at d g = rw at (record {
    so = leaves_lost counted (x k r f right calm octets frame now is over ∷ r) c g (sym (failed_stay k r f right calm octets frame now is over (took.Gone None) counted t cs (inr refl))) (rw (failed_stay k r f right calm octets frame now is over (took.Gone None) counted t cs (inr refl)) (few_stay k r f right calm octets frame now is over (took.Gone None) counted t cs (inr refl)))
        (unowed k r f right calm octets frame now is over (took.Gone None) counted t cs refl)
        (told_parting (ending (channel r) (channel (x k r f right calm octets frame now is over ∷ r)) (changes k r f right calm octets frame now is over (took.Gone None) counted t cs)) c q goes g
        (its_parts timely (ending (channel r) (channel (x k r f right calm octets frame now is over ∷ r)) (changes k r f right calm octets frame now is over (took.Gone None) counted t cs)))) (calm_right k r f right calm octets frame now is over (took.Gone None) counted t cs counted (undropped k r f right calm octets frame now is over (took.Gone None) counted t cs refl) refl refl);
    tells = rw (leave_read c) refl;
    got = (record { got = refl; drops = t.drops }, opens_nothing k r f right calm octets frame now is over (took.Gone None) counted t cs (λ h. absurd (cc)));
    does = λ m l w n a. one_loss (took.Gone None) counted t cs refl m l w a;
  })

  pub row_gone : InTimeAt (channel r) now → Row k r f right calm octets frame now is over (took.Gone None)
  unfolding after_took
  row_gone timely counted q t cs = gone_so counted t cs q timely (gone k.channel frame) refl cs.channel_is (gone_down k.channel frame) t.fits
