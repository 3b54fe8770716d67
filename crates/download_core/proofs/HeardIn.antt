-- A frame of the device in a session: what the connection makes of it, and what is known of the session then.
use Rattle.std.proofs.Common.{◌≡◌, ◌≢◌, ℕ, true, false, List, ◌∷◌, Some, None, ap, ◌∙◌}
use Rattle.knx_model.specs.declared.address.IndAddr.{IndAddr}
use Rattle.knx_model.specs.declared.connection.TransportFrame.{TransportFrame}
use Rattle.knx_model.specs.declared.connection.TransportFrame.TheVariants.{Ack, Numbered}
use Rattle.knx_model.specs.declared.connection.ClientTook.{ClientTook}
use Rattle.knx_model.specs.declared.connection.ClientTook.TheVariants as heard
use Rattle.knx_model.specs.ClientConnection.{ClientEnd, Asked, Up, Asking, Awaiting, Ended as NoConnection, client_after, client_stayed}
use Rattle.line_model.specs.Moments.{Moment, number, answers, ends_session, closes_by}
use Rattle.line_model.specs.Signs.{is_ignored}
use Rattle.download_core.specs.declared.flight.Flight.{Flight}
use Rattle.download_core.specs.InSession.{ConnFits}
use Rattle.download_core.specs.Follows.{IsMoment}
use Rattle.download_core.proofs.Readings.{IsSame, ends_after, put_after}
use Rattle.download_core.proofs.Sessions.{isnt_ack}
use Rattle.download_core.proofs.Conns.{Passes, Moves, conn_kept, conn_moved}
use Rattle.download_core.proofs.Tally.{SameAnswers, SameServices}

-- ---- the session goes on, an answer was accepted, or the session has ended

pub record StaysIn (device : ℕ) (flight : Flight) (sent : ℕ) (m : Moment) (l : List Moment) (conn : ClientEnd) : Type 0 where
  pub goes : ends_session device m l ≡ false
  pub fits : ConnFits device conn flight sent (m ∷ l)
  pub got : SameAnswers device m l
  pub put : SameServices device m l

pub record AnswersIn (device : ℕ) (flight : Flight) (sent : ℕ) (apdu : List ℕ) (m : Moment) (l : List Moment) (conn : ClientEnd) : Type 0 where
  pub goes : ends_session device m l ≡ false
  pub fits : ConnFits device conn flight sent (m ∷ l)
  pub got : answers device (m ∷ l) ≡ apdu ∷ answers device l
  pub put : SameServices device m l

pub record EndsIn (device : ℕ) (m : Moment) (l : List Moment) : Type 0 where
  pub ends : ends_session device m l ≡ true
  pub same : IsSame device m l

abbrev pub HeardIn : ℕ → Flight → ℕ → Moment → List Moment → ClientTook → ClientEnd → Type 0
HeardIn device flight sent m l heard.Dropped conn = StaysIn device flight sent m l conn
HeardIn device flight sent m l heard.Acked conn = StaysIn device flight sent m l conn
HeardIn device flight sent m l (heard.Answer apdu ack) conn = AnswersIn device flight sent apdu m l conn
HeardIn device flight sent m l (heard.Again ack) conn = StaysIn device flight sent m l conn
HeardIn device flight sent m l (heard.Nak nak) conn = StaysIn device flight sent m l conn
HeardIn device flight sent m l (heard.Closed answer) conn = EndsIn device m l

abbrev pub Hears : IndAddr → TransportFrame → Moment → Type 0
Hears device f m = IsMoment device None (Some f) None m

abbrev pub HeardBy : IndAddr → ClientEnd → Flight → ℕ → Moment → List Moment → ClientTook → Type 0
HeardBy device conn flight sent m l took = HeardIn device.raw flight sent m l took (client_after conn m.now took)

-- ---- what it leaves as it is

pub same_services : (device : IndAddr) (f : TransportFrame) (m : Moment) (l : List Moment) → Hears device f m → SameServices device.raw m l
same_services device f m l w = put_after device None (Some f) None m l w

abbrev pub IsIgnored : ClientEnd → TransportFrame → Type 0
IsIgnored (Asked to) f = Unit {0}
IsIgnored (Up s) f = Unit {0}
IsIgnored (Asking s q) f = Some f ≢ Some (Ack s.number)
IsIgnored (Awaiting s) f = is_ignored s.number (Some f) ≡ true
IsIgnored NoConnection f = Unit {0}

passes : (device : IndAddr) (conn : ClientEnd) (f : TransportFrame) (m : Moment) → IsIgnored conn f → Hears device f m → Passes device.raw conn m
passes device (Asked to) f m i w = tt
passes device (Up s) f m i w = tt
passes device (Asking s q) f m i w = isnt_ack device s.number None (Some f) None m w i
passes device (Awaiting s) f m i w = record { unput = w.put_is; ignored = ap (is_ignored s.number) w.heard_is ∙ i }
passes device NoConnection f m i w = tt

-- a frame that is dropped
pub dropped : (device : IndAddr) (conn : ClientEnd) (flight : Flight) (sent : ℕ) (f : TransportFrame) (m : Moment) (l : List Moment) → ConnFits device.raw conn flight sent l → Hears device f m → IsSame device.raw m l → closes_by (Some f) (number device.raw l) ≡ false
    → IsIgnored conn f → HeardBy device conn flight sent m l heard.Dropped
unfolding client_after
dropped device conn flight sent f m l k w e c i = record { goes = ends_after device None (Some f) None m l w ∙ c; fits = conn_kept device.raw conn flight sent m l k e (passes device conn f m i w) (λ t. w.confirmed_is); got = e.got; put = e.put }

moves : (device : IndAddr) (conn : ClientEnd) (n : ℕ) (apdu : List ℕ) (m : Moment) → Hears device (Numbered n apdu) m → Moves device.raw conn m
moves device (Asked to) n apdu m w = tt
moves device (Up s) n apdu m w = tt
moves device (Asking s q) n apdu m w = isnt_ack device s.number None (Some (Numbered n apdu)) None m w (λ e. cc e)
moves device (Awaiting s) n apdu m w = tt
moves device NoConnection n apdu m w = tt

-- a service of another number than the expected one
abbrev pub Stays : IndAddr → ClientEnd → Flight → ℕ → Moment → List Moment → Type 0
Stays device conn flight sent m l = StaysIn device.raw flight sent m l (client_stayed conn m.now)

pub repeated : (device : IndAddr) (conn : ClientEnd) (flight : Flight) (sent n : ℕ) (apdu : List ℕ) (m : Moment) (l : List Moment) → ConnFits device.raw conn flight sent l → Hears device (Numbered n apdu) m → IsSame device.raw m l → Stays device conn flight sent m l
repeated device conn flight sent n apdu m l k w e = record {
  goes = ends_after device None (Some (Numbered n apdu)) None m l w;
  fits = conn_moved device.raw conn flight sent m l k e (moves device conn n apdu m w) (λ t. w.confirmed_is);
  got = e.got;
  put = e.put;
}

pub again : (device : IndAddr) (conn : ClientEnd) (flight : Flight) (sent : ℕ) (ack : List ℕ) (m : Moment) (l : List Moment) → Stays device conn flight sent m l → HeardBy device conn flight sent m l (heard.Again ack)
unfolding client_after
again device conn flight sent ack m l s = s

pub refused : (device : IndAddr) (conn : ClientEnd) (flight : Flight) (sent : ℕ) (nak : List ℕ) (m : Moment) (l : List Moment) → Stays device conn flight sent m l → HeardBy device conn flight sent m l (heard.Nak nak)
unfolding client_after
refused device conn flight sent nak m l s = s
