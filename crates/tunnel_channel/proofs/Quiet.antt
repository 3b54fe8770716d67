-- A poll that gets nothing, or a datagram that doesn't read, leaves what this end knows.
use Rattle.std.proofs.Common.{◌≡◌, ℕ, ◌≤◌, ◌⊎◌, inl, inr, List, ◌∷◌, Bool, true, false, None, refl, sym, ◌∙◌, subst}
use Rattle.std.specs.Prelude.{◌&&◌}
use Rattle.knx_model.specs.Connection.{has_passed}
use Rattle.line_model.specs.Record.{Item, Put, Renewed, Got, Quiet, Entry, entry, got_in, is_poll}
use Rattle.line_model.specs.LinkStory.{newest_time}
use Rattle.line_model.specs.ChannelLost.{answer_wait, acknowledged, confirmed, is_unconfirmed, has_left, has_lapsed}
use Rattle.line_model.specs.ClientView as seen
use Rattle.line_model.specs.ClientView.{ClientChannel, channel, after_entry}
use Rattle.line_model.specs.ClientEnd.{OpenEnd, Idle, Seeking, Open, Leaving, JustLost, is_over}
use Rattle.tunnel_channel.specs.Fits.{end_of, Knows, KnowsOpen, IsBehind, IsUnanswered, HasNone, Fits}
use Rattle.tunnel_channel.specs.Follows.{QuietFollows, is_confirmation_late}
use Rattle.tunnel_channel.proofs.Times.{over_later, passed_later}
use Rattle.tunnel_channel.proofs.Readings.{readings, knows_by, knows, quiet_readings}
use Rattle.tunnel_channel.proofs.Rows.{up, fits_up}
use Rattle.tunnel_channel.proofs.Take.{lapsed_alike}
use Rattle.tunnel_channel.proofs.Calls.{poll_loses}

and_false : (a : Bool) → (a && false) ≡ false
and_false true = refl
and_false false = refl

module _ (r : List Entry) (what : Item) (now : ℕ) (n : got_in what ≡ None) where
  -- where there is no channel and none is sought
  none_stays : (ch : ClientChannel) → HasNone ch → channel r ≡ ch → is_poll what ≡ true → channel (entry what now ∷ r) ≡ ch
  unfolding after_entry
  none_stays ch h at p = none_by what ch h at p n
    where
      none_by : (what : Item) (ch : ClientChannel) → HasNone ch → channel r ≡ ch → is_poll what ≡ true → got_in what ≡ None → channel (entry what now ∷ r) ≡ ch
      none_by (Put octets) ch h at p n = absurd (cc)
      none_by Renewed ch h at p n = absurd (cc)
      none_by (Got octets) seen.Fresh h at p n = rw at refl
      none_by (Got octets) (seen.Sought since) h at p n = absurd h
      none_by (Got octets) (seen.RefusedBy status) h at p n = rw at refl
      none_by (Got octets) seen.Unanswered h at p n = rw at refl
      none_by (Got octets) (seen.Open c l) h at p n = absurd h
      none_by (Got octets) (seen.Lost c) h at p n = rw at refl
      none_by Quiet seen.Fresh h at p n = rw at refl
      none_by Quiet (seen.Sought since) h at p n = absurd h
      none_by Quiet (seen.RefusedBy status) h at p n = rw at refl
      none_by Quiet seen.Unanswered h at p n = rw at refl
      none_by Quiet (seen.Open c l) h at p n = absurd h
      none_by Quiet (seen.Lost c) h at p n = rw at refl

  -- while one is sought
  sought_late : (since : ℕ) → channel r ≡ seen.Sought since → is_poll what ≡ true → has_passed answer_wait since now ≡ true → channel (entry what now ∷ r) ≡ seen.Unanswered
  unfolding after_entry
  sought_late since at p q = late_by what p
    where
      late_by : (what : Item) → is_poll what ≡ true → channel (entry what now ∷ r) ≡ seen.Unanswered
      late_by (Put octets) p = absurd (cc)
      late_by Renewed p = absurd (cc)
      late_by (Got octets) p = rw (at, q) refl
      late_by Quiet p = rw (at, q) refl

  sought_stays : (since : ℕ) → channel r ≡ seen.Sought since → is_poll what ≡ true → has_passed answer_wait since now ≡ false → channel (entry what now ∷ r) ≡ seen.Sought since
  unfolding after_entry
  sought_stays since at p q = stays_by what p n
    where
      stays_by : (what : Item) → is_poll what ≡ true → got_in what ≡ None → channel (entry what now ∷ r) ≡ seen.Sought since
      stays_by (Put octets) p n = absurd (cc)
      stays_by Renewed p n = absurd (cc)
      stays_by (Got octets) p n = rw (at, q, n) refl
      stays_by Quiet p n = rw (at, q) refl

  -- in an open channel
  open_stays : (c : ℕ) (l : List Entry) → channel r ≡ seen.Open c l → is_poll what ≡ true → has_lapsed c l now ≡ false → channel (entry what now ∷ r) ≡ seen.Open c (entry what now ∷ l)
  unfolding after_entry
  open_stays c l at p q = stays_by what p n
    where
      stays_by : (what : Item) → is_poll what ≡ true → got_in what ≡ None → channel (entry what now ∷ r) ≡ seen.Open c (entry what now ∷ l)
      stays_by (Put octets) p n = absurd (cc)
      stays_by Renewed p n = absurd (cc)
      stays_by (Got octets) p n = rw (at, q, n, and_false (has_left c l)) refl
      stays_by Quiet p n = rw (at, q, and_false (has_left c l)) refl

  sought_fits : (since : ℕ) → channel r ≡ seen.Sought since → is_poll what ≡ true → (t : Bool) → has_passed answer_wait since now ≡ t → Fits (Seeking since) (entry what now ∷ r)
  sought_fits since at p true q = inr (record { unanswered = sought_late since at p q; over = q })
  sought_fits since at p false q = inl (sought_stays since at p q)

  known_fits : (left : Bool) (c : ℕ) (l : List Entry) → channel r ≡ seen.Open c l → Knows (end_of c l) left c l → is_unconfirmed (acknowledged c l) (confirmed c l) now ≡ false → is_poll what ≡ true
      → (t : Bool) → is_over (Open (end_of c l)) now ≡ t → Fits (up left (end_of c l)) (entry what now ∷ r)
  known_fits left c l at k u p true q =
      fits_up left (end_of c l) now (channel (entry what now ∷ r)) (inr (record { lost = poll_loses r what now c l at p (lapsed_alike c l left now k u ∙ q); over = q }))
  known_fits left c l at k u p false q =
      fits_up left (end_of c l) now (channel (entry what now ∷ r)) (inl (record {
        c = c;
        l = entry what now ∷ l;
        is = open_stays c l at p (lapsed_alike c l left now k u ∙ q);
        knows = knows (end_of c l) left c (entry what now) l (readings c l) (quiet_readings c l what now k.begun p n) (knows_by (end_of c l) left c l k);
      }))

  up_fits : (left : Bool) (e : OpenEnd) → KnowsOpen e left (channel r) ⊎ IsBehind e (newest_time r) (channel r) → newest_time r ≤ now → is_confirmation_late (channel r) now ≡ false → is_poll what ≡ true → Fits (up left e) (entry what now ∷ r)
  up_fits left e (inl k) le u p =
      let same : (e ≡ end_of k.c k.l) = k.knows.is in
      subst (λ (d : OpenEnd). Fits (up left d) (entry what now ∷ r)) (sym same)
      (known_fits left k.c k.l k.is (subst (λ (d : OpenEnd). Knows d left k.c k.l) same k.knows) (subst (λ (ch : ClientChannel). is_confirmation_late ch now ≡ false) k.is u) p (is_over (Open (end_of k.c k.l)) now) refl)
  up_fits left e (inr b) le u p =
      fits_up left e now (channel (entry what now ∷ r)) (inr (record { lost = none_stays (seen.Lost e.channel) tt b.lost p; over = over_later e (newest_time r) now le b.over }))

  seeking_fits : (since : ℕ) → (channel r ≡ seen.Sought since) ⊎ IsUnanswered since (newest_time r) (channel r) → newest_time r ≤ now → is_poll what ≡ true → Fits (Seeking since) (entry what now ∷ r)
  seeking_fits since (inl at) le p = sought_fits since at p (has_passed answer_wait since now) refl
  seeking_fits since (inr b) le p = inr (record { unanswered = none_stays seen.Unanswered tt b.unanswered p; over = passed_later answer_wait since (newest_time r) now le b.over })

  idle_fits : HasNone (channel r) → is_poll what ≡ true → Fits Idle (entry what now ∷ r)
  idle_fits h p = subst (λ (ch : ClientChannel). HasNone ch) (sym (none_stays (channel r) h refl p)) h

pub quiet_follows : QuietFollows
quiet_follows Idle r what now fits le u p n = idle_fits r what now n fits p
quiet_follows (Seeking since) r what now fits le u p n = seeking_fits r what now n since fits le p
quiet_follows (Open e) r what now fits le u p n = up_fits r what now n false e fits le u p
quiet_follows (Leaving e) r what now fits le u p n = up_fits r what now n true e fits le u p
quiet_follows (JustLost c) r what now fits le u p n = none_stays r what now n (seen.Lost c) tt fits p
