-- The calm run is one: the premises of the law can be met.
use Rattle.std.proofs.Common.{◌≡◌, ℕ, zero, suc, ◌+◌, ◌≤◌, List, [], ◌∷◌, true, false, Some, refl, sym, ◌∙◌, subst, arith, inl, drop}
use Rattle.std.specs.Prelude.{slice_get}
use Rattle.line_model.specs.Gateway.{gateway_took}
use Rattle.line_model.specs.Network.{Sent, IsUnderWay}
use Rattle.line_model.specs.Reading.{datagram_in, ldata_in, is_connect_request}
use Rattle.line_model.specs.Tunnel.{Tunnel, Commissions, IsLegal, fresh, replay}
use Rattle.line_model.specs.Record.{Entry, put_in, is_renewal, tunnel_record}
use Rattle.line_model.specs.ClientView.{channel, after_entry, deed}
use Rattle.line_model.specs.Renews.{RenewsRightly, RenewsSo, AcknowledgesRightly, to_poll_before}
use Rattle.line_model.specs.LinkStory.{newest_time}
use Rattle.line_model.specs.Closing.{asks_to_end}
use Rattle.line_model.specs.Sendings.{SendsRightly}
use Rattle.line_model.specs.Haste.{KeepsPace, KeepsPaces, is_beat_overdue}
use Rattle.calm_law.specs.CalmTunnel.{AreCalm, PutsRightly}
use Rattle.calm_law.specs.CalmRun.{gateway, frame, calm_run}
use Rattle.calm_law.proofs.Ways.{AllCame}

pub all_over : (l : List Sent) → AllCame l → (age : ℕ) (s : Sent) → slice_get l age ≡ Some s → 1 ≤ s.delivered
all_over [] h age s e = absurd (cc)
all_over (x ∷ l) h zero s e = (let same : x ≡ s = cc in subst (λ (z : Sent). 1 ≤ z.delivered) same h.0)
all_over (x ∷ l) h (suc age) s e = all_over l h.1 age s e

pub apart : false ≡ true → ⊥
apart e = cc

abbrev start : Tunnel
start = fresh gateway

up_now : (made : ℕ) (s : Sent) → made ≤ 1 → s.lost ≡ false → s.delivered ≡ 0 → IsUnderWay made 0 s
up_now made s m k d = record { kept = k; twice = omega (arith, d); young = omega arith; soon = omega (arith, m) }

pub legal : IsLegal Commissions start calm_run
unfolding datagram_in ldata_in after_entry gateway_took
legal = (
  tt,
  (
    up_now 1 _ (omega arith) refl refl,
    (
      tt,
      (
        (up_now 1 _ (omega arith) refl refl, refl),
        (
          λ e. cc,
          (
            (up_now 1 _ (omega arith) refl refl, refl),
            (up_now 1 _ (omega arith) refl refl, (tt, ((up_now 1 _ (omega arith) refl refl, refl), (up_now 0 _ (omega arith) refl refl, (tt, (tt, tt)))))),
          ),
        ),
      ),
    ),
  ),
)

pub calm : AreCalm start calm_run
unfolding datagram_in ldata_in after_entry gateway_took
calm = (
  record {
    up = λ age s e. inl (all_over (replay start (drop 1 calm_run)).network.up (omega arith, (omega arith, (omega arith, tt))) age s e);
    down = λ age s e. inl (all_over (replay start (drop 1 calm_run)).network.down (omega arith, (omega arith, (omega arith, tt))) age s e);
    bus = refl;
  },
  (refl, (tt, (refl, ((false, refl), (refl, (refl, (tt, (refl, (refl, (tt, (tt, tt))))))))))),
)

-- ---- the client

pub renews_not : (r : List Entry) (x : Entry) → is_connect_request (put_in x.what) ≡ false → is_renewal x.what ≡ false → RenewsSo r x
renews_not r x a b = record { connects = λ e. absurd (apart (sym a ∙ e)); leaves = λ e f. absurd (apart (sym b ∙ e)); tries_left = λ e. absurd (apart (sym b ∙ e)) }

pub renews : RenewsRightly (tunnel_record start calm_run)
unfolding datagram_in ldata_in after_entry gateway_took
renews = (
  renews_not _ _ refl refl,
  (
    renews_not _ _ refl refl,
    (
      renews_not _ _ refl refl,
      (
        renews_not _ _ refl refl,
        (
          renews_not _ _ refl refl,
          (
            renews_not _ _ refl refl,
            (record { connects = λ e. refl; leaves = λ e f. absurd (apart e); tries_left = λ e. absurd (apart e) }, (record { connects = λ e. absurd (apart e); leaves = λ e f. absurd (apart f); tries_left = λ e. omega arith }, tt)),
          ),
        ),
      ),
    ),
  ),
)

pub sends : SendsRightly (tunnel_record start calm_run)
unfolding datagram_in ldata_in after_entry gateway_took
sends = (tt, (refl, (tt, (tt, (record { in_it = refl; numbered = refl; one_at_a_time = inl refl }, (tt, (tt, (tt, tt))))))))

pub acknowledges : AcknowledgesRightly (tunnel_record start calm_run)
unfolding datagram_in ldata_in after_entry gateway_took
acknowledges = (tt, (refl, (tt, (tt, (tt, (tt, (tt, (tt, tt))))))))

pub paces_not : (r : List Entry) (x : Entry) → x.now ≤ newest_time r + 100 → is_beat_overdue (channel r) (to_poll_before r) ≡ false → asks_to_end x ≡ false → is_renewal x.what ≡ false → KeepsPace r x
paces_not r x short beats a b = record { short = short; beats = λ e. beats; ends_once = λ e f. absurd (apart (sym a ∙ e)); seeks = λ e. absurd (apart (sym b ∙ e)) }

pub paces : KeepsPaces (tunnel_record start calm_run)
unfolding datagram_in ldata_in after_entry gateway_took
paces = (
  paces_not _ _ (omega arith) refl refl refl,
  (
    paces_not _ _ (omega arith) refl refl refl,
    (
      paces_not _ _ (omega arith) refl refl refl,
      (
        paces_not _ _ (omega arith) refl refl refl,
        (
          paces_not _ _ (omega arith) refl refl refl,
          (
            paces_not _ _ (omega arith) refl refl refl,
            (paces_not _ _ (omega arith) refl refl refl, (record { short = omega arith; beats = λ e. refl; ends_once = λ e f. absurd (apart e); seeks = λ e. tt }, tt)),
          ),
        ),
      ),
    ),
  ),
)

pub puts : PutsRightly (tunnel_record start calm_run)
unfolding datagram_in ldata_in after_entry deed gateway_took
puts = (tt, (tt, (tt, (tt, (record { frame = frame; reads = refl; request = refl; place = record { acknowledged = refl; has_confirmation = refl } }, (tt, (tt, (tt, tt))))))))
