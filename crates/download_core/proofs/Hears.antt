-- A frame of the device, in the downloader and in the line's view: whatever its connection makes of it.
use Rattle.std.proofs.Common.{◌≡◌, ℕ, suc, Bool, true, List, [], map, Option, Some, None, refl, ap, sym, subst, ◌∙◌}
use Rattle.knx_model.specs.declared.address.IndAddr.{IndAddr}
use Rattle.knx_model.specs.declared.connection.TransportFrame.{TransportFrame}
use Rattle.knx_model.specs.declared.connection.ClientTook.{ClientTook}
use Rattle.knx_model.specs.declared.connection.ClientTook.TheVariants as heard
use Rattle.knx_model.specs.Connection.{frame_in, HasNumber}
use Rattle.knx_model.specs.ConnectionLaws.{Hearing}
use Rattle.knx_model.specs.ClientConnection.{ClientEnd, Asked, Up, Asking, Awaiting, Ended as NoConnection, IsClientEnd, client_took, client_after}
use Rattle.knx_model.specs.Plans.{Plan}
use Rattle.transport_conn.proofs.Numbers.{client_numbers}
use Rattle.line_model.specs.Moments.{Moment}
use Rattle.line_model.specs.Attempts as line
use Rattle.line_model.specs.Attempts.{Attempts, attempts_after, awaits, heard_attempt}
use Rattle.download_core.specs.declared.flight.Flight.{Flight}
use Rattle.download_core.specs.declared.flight.Flight.TheVariants.{Nothing, Frame, Reply}
use Rattle.download_core.specs.declared.signs.Signs.{Signs}
use Rattle.download_core.specs.Attempt.{Attempt, Phase, Resting, Running, Closing, Leaving, Ended, answered}
use Rattle.download_core.specs.Calls.{owing, attempt_heard, phase_heard}
use Rattle.download_core.specs.Fits.{Knows, AreReplies, one_octet, IsFlight, IsFrame, StandsWith, FitsPhase, OfLast, earlier}
use Rattle.download_core.specs.Follows.{IsMoment}
use Rattle.download_core.proofs.Told.{told, line_told}
use Rattle.download_core.proofs.Replies.{IsHeard, flight_heard, end_heard, awaits_acked, awaits_answered, awaits_again, awaits_nak, IsOwed, OwesReply, took_owes, has_number, owed_more, replies_owed}
use Rattle.download_core.proofs.Learns.{Learns, learns}

-- ---- an attempt that runs

-- its connection knows more
knows_conn : (a : Attempt) (x : line.Attempt) (now : ℕ) (t : ClientTook) → IsHeard t → awaits (client_after a.conn now t) ≡ awaits a.conn → IsClientEnd (client_after a.conn now t) → Knows a x
    → Knows (record a { conn = client_after a.conn now t }) (record x { end = client_after x.end now t })
knows_conn a x now t h w n k = record {
  end = ap (λ (e : ClientEnd). client_after e now t) k.end;
  owed = k.owed;
  replies = k.replies;
  flying = flight_heard a.flight a.conn now t x.flying h k.flying;
  closing = k.closing;
  left = k.left;
  stands = λ e. subst (λ (b : Bool). StandsWith b a.standing) (sym w) (k.stands e);
  sendable = k.sendable;
  numbers = n;
  repeats = end_heard a.conn now t k.repeats;
}

-- and a reply is owed
knows_owing : (a : Attempt) (x : line.Attempt) (now : ℕ) (t : ClientTook) (reply : List ℕ) → IsHeard t → awaits (client_after a.conn now t) ≡ awaits a.conn → IsClientEnd (client_after a.conn now t) → IsOwed reply → Knows a x
    → Knows (owing a (client_after a.conn now t) reply) (line.owing x now t reply)
knows_owing a x now t reply h w n r k = record {
  end = ap (λ (e : ClientEnd). client_after e now t) k.end;
  owed = owed_more a.owed reply x.owed k.owed r;
  replies = replies_owed a.owed reply k.replies r;
  flying = flight_heard a.flight a.conn now t x.flying h k.flying;
  closing = k.closing;
  left = k.left;
  stands = λ e. subst (λ (b : Bool). StandsWith b a.standing) (sym w) (k.stands e);
  sendable = k.sendable;
  numbers = n;
  repeats = end_heard a.conn now t k.repeats;
}

-- an answer came, and its T_ACK is owed
knows_answer : (a : Attempt) (x : line.Attempt) (b : Attempt) (y : line.Attempt) (now : ℕ) (apdu reply : List ℕ) → IsClientEnd (client_after a.conn now (heard.Answer apdu reply)) → IsOwed reply → Learns a x b y → Knows a x
    → Knows (owing b (client_after a.conn now (heard.Answer apdu reply)) reply) (line.owing y now (heard.Answer apdu reply) reply)
knows_answer a x b y now apdu reply n r m k = record {
  end = ap (λ (e : ClientEnd). client_after e now (heard.Answer apdu reply)) (m.end ∙ k.end);
  owed = owed_more b.owed reply y.owed (m.owed ∙ k.owed ∙ ap (map one_octet) (sym m.same_owed)) r;
  replies = replies_owed b.owed reply (subst AreReplies (sym m.same_owed) k.replies) r;
  flying = subst (λ (g : Flight). IsFlight g (client_after a.conn now (heard.Answer apdu reply)) y.flying) (sym m.same_flight)
      (subst (IsFlight a.flight (client_after a.conn now (heard.Answer apdu reply))) (sym m.flying) (flight_heard a.flight a.conn now (heard.Answer apdu reply) x.flying tt k.flying));
  closing = m.closing;
  left = m.left;
  stands = λ e. subst (λ (b2 : Bool). StandsWith b2 b.standing) (sym (awaits_answered a.conn now apdu reply)) (m.stands e);
  sendable = m.sendable;
  numbers = n;
  repeats = end_heard a.conn now (heard.Answer apdu reply) k.repeats;
}

-- ---- a connection that is closed was up

frame_left : (e : ClientEnd) (f : TransportFrame) (answer : Option (List ℕ)) (flying : Option TransportFrame) → client_took e f ≡ heard.Closed answer → IsFrame e flying → IsFrame NoConnection flying
unfolding client_took
frame_left (Asked d) f answer flying h k = absurd (cc h)
frame_left (Up s) f answer flying h k = k
frame_left (Asking s q) f answer flying h k = k
frame_left (Awaiting s) f answer flying h k = k
frame_left NoConnection f answer flying h k = k

flight_left : (flight : Flight) (e : ClientEnd) (f : TransportFrame) (answer : Option (List ℕ)) (flying : Option TransportFrame) → client_took e f ≡ heard.Closed answer → IsFlight flight e flying → IsFlight flight NoConnection flying
flight_left Nothing e f answer flying h k = k
flight_left Frame e f answer flying h k = frame_left e f answer flying h k
flight_left Reply e f answer flying h k = k

dropped_end : (e : ClientEnd) (now : ℕ) → client_after e now heard.Dropped ≡ e
unfolding client_after
dropped_end e now = refl

running_heard : (signs : Signs) (a : Attempt) (x : line.Attempt) (f : TransportFrame) (now : ℕ) (t : ClientTook) → client_took a.conn f ≡ t → IsClientEnd (client_after a.conn now t) → OwesReply t → Knows a x
    → FitsPhase signs (attempt_heard a (client_after a.conn now t) t) (heard_attempt (suc (earlier signs)) x now t)
running_heard signs a x f now heard.Dropped e n r k =
    subst (λ (y : ClientEnd). OfLast signs (Knows (record a { conn = y })) (line.Running (suc (earlier signs)) x)) (sym (dropped_end a.conn now)) (x, refl, k)
running_heard signs a x f now heard.Acked e n r k = (record x { end = client_after x.end now heard.Acked }, refl, knows_conn a x now heard.Acked tt (awaits_acked a.conn now) n k)
running_heard signs a x f now (heard.Answer apdu ack) e n r k =
    (line.owing (line.answered x apdu) now (heard.Answer apdu ack) ack, refl, knows_answer a x (answered a apdu) (line.answered x apdu) now apdu ack n r (learns a x apdu k) k)
running_heard signs a x f now (heard.Again ack) e n r k = (line.owing x now (heard.Again ack) ack, refl, knows_owing a x now (heard.Again ack) ack tt (awaits_again a.conn now ack) n r k)
running_heard signs a x f now (heard.Nak nak) e n r k = (line.owing x now (heard.Nak nak) nak, refl, knows_owing a x now (heard.Nak nak) nak tt (awaits_nak a.conn now nak) n r k)
running_heard signs a x f now (heard.Closed None) e n r k = refl
running_heard signs a x f now (heard.Closed (Some d)) e n r k =
    (record x { end = NoConnection; owed = []; closing = true }, refl, record { end = refl; owes_nothing = refl; closing = refl; flying = flight_left a.flight a.conn f (Some d) x.flying e k.flying })

-- ---- all of it

abbrev hears_at : IndAddr → Plan → ℕ → TransportFrame → Attempts → Attempts
hears_at device plan now f t = told device plan now None None (Some f) t

running_told : (device : IndAddr) (plan : Plan) (n now : ℕ) (f : TransportFrame) (conn : ClientEnd) (x : line.Attempt) (t : Attempts) → x.end ≡ conn → t ≡ line.Running n x → hears_at device plan now f t ≡ heard_attempt n x now (client_took conn f)
running_told device plan n now f conn x t c e = ap (hears_at device plan now f) e ∙ ap (λ (y : ClientEnd). heard_attempt n x now (client_took y f)) c

-- a connection that has ended drops it
ended_told : (device : IndAddr) (plan : Plan) (n now : ℕ) (f : TransportFrame) (x : line.Attempt) (t : Attempts) → x.end ≡ NoConnection → t ≡ line.Running n x → hears_at device plan now f t ≡ line.Running n x
unfolding client_took
ended_told device plan n now f x t c e = running_told device plan n now f NoConnection x t c e

heard_at : (device : IndAddr) (plan : Plan) (signs : Signs) (phase : Phase) (f : TransportFrame) (now : ℕ) (t : Attempts) → HasNumber f → FitsPhase signs phase t → FitsPhase signs (phase_heard phase f now) (hears_at device plan now f t)
heard_at device plan signs Resting f now t n k = (k.0, ap (hears_at device plan now f) k.1)
heard_at device plan signs (Running a) f now t n k =
    let took = client_took a.conn f in
    subst (FitsPhase signs (attempt_heard a (client_after a.conn now took) took)) (sym (running_told device plan (suc (earlier signs)) now f a.conn k.0 t k.2.end k.1))
    (running_heard signs a k.0 f now took refl (client_numbers a.conn (Hearing f now) k.2.numbers) (took_owes a.conn f n) k.2)
heard_at device plan signs (Closing flight outcome) f now t n k = (k.0, ended_told device plan (suc (earlier signs)) now f k.0 t k.2.end k.1, k.2)
heard_at device plan signs (Leaving outcome) f now t n k = (k.0, ended_told device plan (suc (earlier signs)) now f k.0 t k.2.end k.1, k.2)
heard_at device plan signs (Ended outcome) f now t n k = ap (hears_at device plan now f) k

pub heard_fits : (device : IndAddr) (plan : Plan) (signs : Signs) (phase : Phase) (octets : List ℕ) (m : Moment) (t : Attempts) → FitsPhase signs phase t → IsMoment device None (Some (frame_in octets)) None m
    → FitsPhase signs (phase_heard phase (frame_in octets) m.now) (attempts_after device plan m t)
heard_fits device plan signs phase octets m t k h =
    subst (FitsPhase signs (phase_heard phase (frame_in octets) m.now)) (sym (line_told device plan None (Some (frame_in octets)) None m t h)) (heard_at device plan signs phase (frame_in octets) m.now t (has_number octets) k)
