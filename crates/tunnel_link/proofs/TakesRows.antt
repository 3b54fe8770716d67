-- Each answer of the channel to a frame that came in time: what is known then is what the record says, and what is sent may be sent.
use Rattle.std.proofs.Common.{◌≡◌, ◌≢◌, ◌⊎◌, inl, inr, ℕ, ◌<◌, List, [], ◌∷◌, length, true, false, Some, None, refl, sym, ap, ◌∙◌, arith}
use Rattle.knx_model.specs.declared.address.IndAddr.{IndAddr}
use Rattle.knx_model.specs.declared.frames.ip.IpFrame.{IpFrame}
use Rattle.line_model.specs.declared.client_end.ChannelTook.{ChannelTook}
use Rattle.line_model.specs.declared.client_end.ChannelTook.TheVariants as took
use Rattle.line_model.specs.declared.fault.Try.{Try}
use Rattle.line_model.specs.declared.fault.Try.TheVariants as try
use Rattle.line_model.specs.Reading.{datagram_in}
use Rattle.line_model.specs.Record.{Put, Got, Entry, entry}
use Rattle.line_model.specs.ClientView.{channel, Deed, Takes, Loses, Nothing, as_counted, traffic, deed}
use Rattle.line_model.specs.Dropped.{dropped}
use Rattle.line_model.specs.Faults.{tries, datagrams_taken, opens}
use Rattle.line_model.specs.Moments.{Moment}
use Rattle.line_model.specs.Renews.{owed}
use Rattle.line_model.specs.Leaves.{parting_of}
use Rattle.line_model.specs.Signs.{Every}
use Rattle.line_model.specs.ClientEnd.{ClientEnd, Idle, Seeking, Open, Leaving, JustLost, is_over}
use Rattle.line_model.specs.ClientFrames.{channel_took, after_took}
use Rattle.tunnel_channel.specs.Fits.{FitsChannel, acknowledged_in, confirmed_in, last_in, own_in}
use Rattle.tunnel_channel.specs.Follows.{TakesFrame, Opens, Ends, Stays, change, change_told, cemi_in, taken_in, answer_in, is_told_dropped, acknowledgement_in}
use Rattle.tunnel_channel.proofs.Current.{polls_are_current}
use Rattle.tunnel_link.specs.declared.came.Answer.{Answer}
use Rattle.tunnel_link.specs.declared.known.Known.{Known}
use Rattle.tunnel_link.specs.declared.tries.Tries.TheVariants.{Zero}
use Rattle.tunnel_link.specs.Kept.{none_in_flight, counted_up, drops, after_told, told_answer, tried}
use Rattle.tunnel_link.specs.Rights.{IsRight, FitsNow, FitsRecord, FitsFault, CountsBy, tries_of, at_most_64_bits}
use Rattle.tunnel_link.specs.Adds.{IsNothing, GotSo, DoesSo, is_told}
use Rattle.tunnel_link.proofs.Entries.{poll_right}
use Rattle.tunnel_link.proofs.MaySend.{Flies, open_sent_by}
use Rattle.tunnel_link.proofs.Partings.{unended_parted}
use Rattle.tunnel_link.proofs.PutLast.{deed_is, opened_put, poll_put, sent_put}
use Rattle.tunnel_link.proofs.Lapses.{Outcome, asks_to_leave, refused_fits, more_tries, still_few}
use Rattle.tunnel_link.proofs.Heard.{GotDeed, IsLost, IsTaken, IsNone, got_deed, opens_none, opens_so, opened_tries, refused_tries, same_tries, fresh_before, drops_one, drops_none}
use Rattle.tunnel_link.proofs.Takes.{IsIn, fits_not_lost, given_in, acked_in, alive_in, paid_by, owed_open}

-- what is known and answered, by the record with the frame
pub record TakenSo (next : Known) (answer : Answer) (r : List Entry) (x : Entry) : Type 0 where
  pub so : Outcome next answer.sends (x ∷ r)
  pub tells : asks_to_leave answer.sends ≡ is_told answer.loss
  pub got : GotSo answer.what r x
  pub does : (m : Moment) (l : List Moment) → m.what ≡ deed (channel r) x → m.now ≡ x.now → Every IsNothing l → DoesSo answer.what answer.loss x.now (m ∷ l)

-- what is known with the frame counted, and the end of the channel after it
pub record IsCounted (k counted : Known) (end : ClientEnd) (r : List Entry) : Type 0 where
  pub channel_is : counted.channel ≡ end
  pub flight_is : counted.flight ≡ k.flight
  pub tunnel_is : counted.tunnel ≡ k.tunnel
  pub put_is : counted.put ≡ k.put
  pub tries_is : counted.tries ≡ k.tries
  pub fault_is : counted.fault ≡ k.fault
  pub drops_is : counted.dropped ≡ k.dropped
  pub takes_is : counted.taken ≡ at_most_64_bits (datagrams_taken r)

module _ (k : Known) (r : List Entry) (f : FitsRecord k r) (right : IsRight k r) (calm : k.fault ≡ None) (octets : List ℕ) (frame : IpFrame) (now : ℕ) (is : datagram_in octets ≡ Some frame) (over : is_over k.channel now ≡ false) where
  abbrev pub x : Entry
  x = entry (Got octets) now

  abbrev pub Frame : ChannelTook → Type 0
  Frame told = TakesFrame (after_took k.channel frame now told) told (is_over k.channel now) octets now r

  abbrev pub Row : ChannelTook → Type 0
  Row told = (counted : Known) → channel_took k.channel frame now ≡ told → Frame told → IsCounted k counted (after_took k.channel frame now told) (x ∷ r) → TakenSo (after_told now told counted) (told_answer told k.tunnel k.put counted.channel) r x

  module _ (told : ChannelTook) (counted : Known) (t : Frame told) (cs : IsCounted k counted (after_took k.channel frame now told) (x ∷ r)) where
    pub changes : change (channel r) (channel (x ∷ r)) ≡ change_told told
    changes = t.changes over

    pub calm_then : counted.fault ≡ None
    calm_then = cs.fault_is ∙ calm

    -- ---- the parts

    pub right_next : (next : Known) → next.dropped ≡ at_most_64_bits (dropped (x ∷ r)) → next.taken ≡ counted.taken → FitsFault next.fault (tries (x ∷ r)) → IsRight next (x ∷ r)
    right_next next d n p = poll_right k next r (Got octets) now refl f.paid right d (n ∙ cs.takes_is) p

    pub calm_right : (next : Known) → next.dropped ≡ at_most_64_bits (dropped (x ∷ r)) → next.taken ≡ counted.taken → next.fault ≡ counted.fault → IsRight next (x ∷ r)
    calm_right next d n p = right_next next d n (rw (p ∙ calm_then) tt)

    pub undropped : is_told_dropped told ≡ false → counted.dropped ≡ at_most_64_bits (dropped (x ∷ r))
    undropped n = drops_none counted.dropped r x (t.drops ∙ n) (cs.drops_is ∙ right.drops)

    pub dropped_up : is_told_dropped told ≡ true → counted_up counted.dropped ≡ at_most_64_bits (dropped (x ∷ r))
    dropped_up n = drops_one counted.dropped r x (t.drops ∙ n) (cs.drops_is ∙ right.drops)

    pub tries_stay : (change_told told ≡ Stays) ⊎ (change_told told ≡ Ends) → tries (x ∷ r) ≡ tries r
    tries_stay (inl s) = same_tries k.channel (channel r) octets now (tries r) f.end over (inl (changes ∙ s))
    tries_stay (inr s) = same_tries k.channel (channel r) octets now (tries r) f.end over (inr (changes ∙ s))

    pub failed_stay : (change_told told ≡ Stays) ⊎ (change_told told ≡ Ends) → tries_of counted.tries ≡ tries (x ∷ r)
    failed_stay s = ap tries_of cs.tries_is ∙ f.failed ∙ sym (tries_stay s)

    pub few_stay : (change_told told ≡ Stays) ⊎ (change_told told ≡ Ends) → length (tries (x ∷ r)) < 3
    few_stay s = rw (tries_stay s) f.few

    pub unowed : acknowledgement_in told ≡ None → owed (x ∷ r) ≡ None
    unowed n = paid_by (owed (x ∷ r)) (t.acknowledges ∙ n)

    pub end_now : IsIn (after_took k.channel frame now told) now → FitsNow counted.channel (channel (x ∷ r))
    end_now i = rw cs.channel_is (in_now (after_took k.channel frame now told) i t.fits)
      where
        in_now : (end : ClientEnd) → IsIn end now → FitsChannel end now (channel (x ∷ r)) → FitsNow end (channel (x ∷ r))
        in_now Idle i g = g
        in_now (Seeking since) i (inl g) = g
        in_now (Seeking since) i (inr g) = absurd (let o = i.over in let h = g.over in cc)
        in_now (Open e) i (inl g) = g
        in_now (Open e) i (inr g) = absurd (let o = i.over in let h = g.over in cc)
        in_now (Leaving e) i (inl g) = g
        in_now (Leaving e) i (inr g) = absurd (let o = i.over in let h = g.over in cc)
        in_now (JustLost c) i g = absurd i.up

    -- where the channel hasn't ended, the gateway isn't told of it
    pub unparted : change_told told ≢ Ends → parting_of (x ∷ r) ≡ None
    unparted n = unended_parted r x (λ e. n (sym changes ∙ e)) f.parted

    -- nothing is to be sent
    pub fits_next : (next : Known) → FitsNow next.channel (channel (x ∷ r)) → Flies next (channel (x ∷ r)) → tries_of next.tries ≡ tries (x ∷ r) → length (tries (x ∷ r)) < 3 → acknowledgement_in told ≡ None → parting_of (x ∷ r) ≡ None → FitsRecord next (x ∷ r)
    fits_next next end flies failed few n parted = record {
      end = end;
      current = polls_are_current r (Got octets) now refl;
      acknowledged = flies.acknowledged;
      confirmed = flies.confirmed;
      counts = flies.counts;
      failed = failed;
      few = few;
      paid = unowed n;
      parted = parted;
      first = λ h. f.first (fresh_before k.channel (channel r) octets now f.end over h);
    }

    -- an acknowledgement is to be sent
    pub fits_acked : (next : Known) (ack : List ℕ) → answer_in told ≡ Some ack → acknowledgement_in told ≡ Some ack → next.channel ≡ counted.channel → Flies next (channel (x ∷ r)) → tries_of next.tries ≡ tries (x ∷ r) → length (tries (x ∷ r)) < 3
        → FitsRecord next (entry (Put ack) now ∷ x ∷ r)
    fits_acked next ack a h same flies failed few =
        let o = owed_open (channel r) x (channel (x ∷ r)) ack (t.acknowledges ∙ h) in
        let still = Rattle.tunnel_link.proofs.Entries.put_still (x ∷ r) ack now (t.no_deed ack a) in
        open_sent_by next (x ∷ r) ack o.c o.l o.is (polls_are_current r (Got octets) now refl) failed few (rw (same, cs.channel_is) (t.answers ack a).fits)
        (record { acknowledged = flies.acknowledged ∙ sym still.acked; confirmed = flies.confirmed ∙ sym still.confirms; counts = sent_put next.tunnel next.put (channel (x ∷ r)) ack now (t.no_deed ack a) flies.counts })

    -- where no channel came up, the frame put last is still that, and the tunnel's own address
    pub put_same : (next : Known) → next.tunnel ≡ counted.tunnel → next.put ≡ counted.put → change_told told ≢ Opens → CountsBy next.tunnel next.put (channel (x ∷ r))
    put_same next own same n = rw (own, cs.tunnel_is, same, cs.put_is) (poll_put k.tunnel k.put (channel r) (Got octets) now refl (λ h. n (sym changes ∙ h)) f.counts)

    pub flies_same : (next : Known) → next.flight ≡ counted.flight → next.tunnel ≡ counted.tunnel → next.put ≡ counted.put → change_told told ≢ Opens → (acknowledged_in (channel (x ∷ r)) ≡ acknowledged_in (channel r)) → (confirmed_in (channel (x ∷ r)) ≡ confirmed_in (channel r)) → Flies next (channel (x ∷ r))
    flies_same next same own put n a c = record { acknowledged = rw (same, cs.flight_is) (f.acknowledged ∙ sym a); confirmed = rw (same, cs.flight_is) (f.confirmed ∙ sym c); counts = put_same next own put n }

    -- ---- what it did

    pub did_nothing : cemi_in told ≡ None → change_told told ≢ Ends → deed (channel r) x ≡ Nothing
    did_nothing n e = by_deed (got_deed (channel r) octets now)
      where
        by_deed : GotDeed (channel r) x (channel (x ∷ r)) → deed (channel r) x ≡ Nothing
        by_deed (IsLost d c) = absurd (e (sym changes ∙ c))
        by_deed (IsTaken o d c) = absurd (let g : (Some o ≡ None) = sym (ap taken_in d) ∙ t.gives ∙ n in cc)
        by_deed (IsNone d c) = deed_is (channel r) x ∙ ap (as_counted (own_in (channel r)) (last_in (channel r))) d

    pub did_lose : change_told told ≡ Ends → deed (channel r) x ≡ Loses
    did_lose e = by_deed (got_deed (channel r) octets now)
      where
        by_deed : GotDeed (channel r) x (channel (x ∷ r)) → deed (channel r) x ≡ Loses
        by_deed (IsLost d c) = deed_is (channel r) x ∙ ap (as_counted (own_in (channel r)) (last_in (channel r))) d
        by_deed (IsTaken o d c) = absurd (let g : (Stays ≡ Ends) = sym c ∙ changes ∙ e in cc)
        by_deed (IsNone d c) = absurd (c (changes ∙ e))

    pub did_take : (cemi : List ℕ) → cemi_in told ≡ Some cemi → traffic (channel r) x ≡ Takes cemi
    did_take cemi h = by_deed (got_deed (channel r) octets now)
      where
        by_deed : GotDeed (channel r) x (channel (x ∷ r)) → traffic (channel r) x ≡ Takes cemi
        by_deed (IsLost d c) = absurd (let g : (None ≡ Some cemi) = sym (ap taken_in d) ∙ t.gives ∙ h in cc)
        by_deed (IsTaken o d c) = let g : (Some o ≡ Some cemi) = sym (ap taken_in d) ∙ t.gives ∙ h in let same : (o ≡ cemi) = cc in d ∙ ap (λ (o : List ℕ). Takes o) same
        by_deed (IsNone d c) = absurd (let g : (None ≡ Some cemi) = sym (ap taken_in d) ∙ t.gives ∙ h in cc)

    pub opens_nothing : change_told told ≢ Opens → opens (channel r) (channel (x ∷ r)) x ≡ None
    opens_nothing n = opens_none (channel r) (channel (x ∷ r)) x (λ h. n (sym changes ∙ h))

  pub all_nothing : (m : Moment) (l : List Moment) (d : Deed) → d ≡ Nothing → m.what ≡ d → Every IsNothing l → Every IsNothing (m ∷ l)
  all_nothing m l d n h a = (h ∙ n, a)

  -- ---- the rows

  pub row_dropped : Row took.Dropped
  unfolding after_took
  row_dropped counted q t cs = record {
    so = record {
      right = calm_right took.Dropped counted t cs (drops counted) (dropped_up took.Dropped counted t cs refl) refl refl;
      fits = λ u. fits_next took.Dropped counted t cs (drops counted) (end_now took.Dropped counted t cs (record { over = over; up = fits_not_lost k.channel (channel r) f.end })) (flies_same took.Dropped counted t cs (drops counted) refl refl refl (λ h. absurd (cc)) (t.acked over) (t.confirms over))
          (failed_stay took.Dropped counted t cs (inl refl)) (few_stay took.Dropped counted t cs (inl refl)) refl (unparted took.Dropped counted t cs (λ h. absurd (cc)));
    };
    tells = refl;
    got = (record { got = refl; drops = t.drops }, opens_nothing took.Dropped counted t cs (λ h. absurd (cc)));
    does = λ m l w n a. inl (all_nothing m l _ (did_nothing took.Dropped counted t cs refl (λ h. absurd (cc))) w a);
  }

  pub row_up : (tunnel : IndAddr) → Row (took.Up tunnel)
  unfolding after_took
  row_up tunnel counted q t cs =
      let none : (tries (x ∷ r) ≡ []) = opened_tries (channel r) (channel (x ∷ r)) (tries r) (changes (took.Up tunnel) counted t cs) in
      let opened : opens (channel r) (channel (x ∷ r)) x ≡ Some tunnel = opens_so k.channel frame octets now tunnel (channel r) (channel (x ∷ r)) f.end over is q (changes (took.Up tunnel) counted t cs) in
      let next : Known = record counted { tries = Zero; flight = none_in_flight; tunnel = Some tunnel; put = None } in record {
        so = record {
          right = calm_right (took.Up tunnel) counted t cs (record counted { tries = Zero; flight = none_in_flight; tunnel = Some tunnel; put = None }) (undropped (took.Up tunnel) counted t cs refl) refl refl;
          fits = λ u. fits_next (took.Up tunnel) counted t cs (record counted { tries = Zero; flight = none_in_flight; tunnel = Some tunnel; put = None }) (end_now (took.Up tunnel) counted t cs (given_in frame now)) (record { acknowledged = sym (t.acked over); confirmed = sym (t.confirms over); counts = opened_put tunnel (channel r) octets now (changes (took.Up tunnel) counted t cs) opened })
              (sym none) (rw none (omega arith)) refl (unparted (took.Up tunnel) counted t cs (λ h. absurd (cc)));
        };
        tells = refl;
        got = (record { got = refl; drops = t.drops }, opened);
        does = λ m l w n a. (all_nothing m l _ (did_nothing (took.Up tunnel) counted t cs refl (λ h. absurd (cc))) w a, refl);
      }

  pub row_refused : (status : ℕ) → Row (took.RefusedBy status)
  unfolding after_took
  row_refused status counted q t cs =
      let more : (tries (x ∷ r) ≡ try.Status status ∷ tries_of counted.tries) = refused_tries (channel r) (channel (x ∷ r)) status (tries r) (changes (took.RefusedBy status) counted t cs) ∙ ap (λ (l : List Try). try.Status status ∷ l) (sym (ap tries_of cs.tries_is ∙ f.failed)) in
      let few : (length (tries_of counted.tries) < 3) = rw (ap tries_of cs.tries_is ∙ f.failed) f.few in record {
        so = record {
          right = right_next (took.RefusedBy status) counted t cs (tried (try.Status status) counted) (undropped (took.RefusedBy status) counted t cs refl) refl (rw more (refused_fits counted.tries (try.Status status) few));
          fits = λ u. fits_next (took.RefusedBy status) counted t cs (tried (try.Status status) counted) (end_now (took.RefusedBy status) counted t cs (record { over = refl; up = tt }))
              (flies_same (took.RefusedBy status) counted t cs (tried (try.Status status) counted) refl refl refl (λ h. absurd (cc)) (t.acked over) (t.confirms over))
              (more_tries counted.tries (try.Status status) few ∙ sym more) (rw more (still_few counted.tries (try.Status status) u)) refl (unparted (took.RefusedBy status) counted t cs (λ h. absurd (cc)));
        };
        tells = refl;
        got = (record { got = refl; drops = t.drops }, opens_nothing (took.RefusedBy status) counted t cs (λ h. absurd (cc)));
        does = λ m l w n a. all_nothing m l _ (did_nothing (took.RefusedBy status) counted t cs refl (λ h. absurd (cc))) w a;
      }

  pub row_acked : Row took.Acked
  unfolding after_took
  row_acked counted q t cs = record {
    so = record {
      right = calm_right took.Acked counted t cs (after_told now took.Acked counted) (undropped took.Acked counted t cs refl) refl refl;
      fits = λ u. fits_next took.Acked counted t cs (after_told now took.Acked counted) (end_now took.Acked counted t cs (acked_in now k.channel (record { over = over; up = fits_not_lost k.channel (channel r) f.end })))
          (record { acknowledged = sym (t.acked over); confirmed = rw cs.flight_is (f.confirmed ∙ sym (t.confirms over)); counts = put_same took.Acked counted t cs (after_told now took.Acked counted) refl refl (λ h. absurd (cc)) }) (failed_stay took.Acked counted t cs (inl refl)) (few_stay took.Acked counted t cs (inl refl)) refl (unparted took.Acked counted t cs (λ h. absurd (cc)));
    };
    tells = refl;
    got = (record { got = refl; drops = t.drops }, opens_nothing took.Acked counted t cs (λ h. absurd (cc)));
    does = λ m l w n a. all_nothing m l _ (did_nothing took.Acked counted t cs refl (λ h. absurd (cc))) w a;
  }

  pub row_alive : Row took.Alive
  unfolding after_took
  row_alive counted q t cs = record {
    so = record {
      right = calm_right took.Alive counted t cs counted (undropped took.Alive counted t cs refl) refl refl;
      fits = λ u. fits_next took.Alive counted t cs counted (end_now took.Alive counted t cs (alive_in now k.channel (record { over = over; up = fits_not_lost k.channel (channel r) f.end })))
          (flies_same took.Alive counted t cs counted refl refl refl (λ h. absurd (cc)) (t.acked over) (t.confirms over)) (failed_stay took.Alive counted t cs (inl refl)) (few_stay took.Alive counted t cs (inl refl)) refl (unparted took.Alive counted t cs (λ h. absurd (cc)));
    };
    tells = refl;
    got = (record { got = refl; drops = t.drops }, opens_nothing took.Alive counted t cs (λ h. absurd (cc)));
    does = λ m l w n a. all_nothing m l _ (did_nothing took.Alive counted t cs refl (λ h. absurd (cc))) w a;
  }
