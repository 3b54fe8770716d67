-- What each connection makes of a frame of the device, by the record of its session.
use Rattle.std.proofs.Common.{◌≡◌, ◌≢◌, ◌%◌, ◌==◌, ℕ, not, Bool, true, false, List, ◌∷◌, length, Some, None, refl, ap, sym, subst, ◌∙◌, if◌then◌else◌}
use Rattle.std.proofs.lemmas.Bool.{eqb-true, eqb-false}
use Rattle.knx_model.specs.declared.address.IndAddr.{IndAddr}
use Rattle.knx_model.specs.declared.frames.tpdu.Tpdu.TheVariants as tpdu
use Rattle.knx_model.specs.declared.connection.TransportFrame.{TransportFrame}
use Rattle.knx_model.specs.declared.connection.TransportFrame.TheVariants.{Connect, Disconnect, Ack, Nak, Numbered, Other}
use Rattle.knx_model.specs.declared.connection.ClientTook.TheVariants as heard
use Rattle.knx_model.specs.Apdu.{Written}
use Rattle.knx_model.specs.Connection.{Session, is_before, next_number, acknowledged as settled}
use Rattle.knx_model.specs.ClientConnection.{ClientEnd, Asked, Up, Asking, Awaiting, Ended as NoConnection, Question, client_took, client_after, up_took, asking_took}
use Rattle.line_model.specs.Moments.{Moment, Number, Next as NextNumber, Outstanding, number, number_heard, is_acknowledged, answers, answer_expected, ends_session, closes_by}
use Rattle.line_model.specs.Signs.{is_ignored}
use Rattle.download_core.specs.declared.flight.Flight.{Flight}
use Rattle.download_core.specs.InSession.{Expects, UpFits, AskingFits, AwaitingFits, ConnFits}
use Rattle.download_core.proofs.Readings.{IsSame, same_by, ends_after}
use Rattle.download_core.proofs.Acked.{acked_up, acked_awaiting, acked_got, answered_got, answered_up, answered_asking}
use Rattle.download_core.proofs.HeardIn.{EndsIn, HeardBy, Hears, IsIgnored, same_services, dropped, repeated, again, refused}

-- ---- a frame that says nothing

abbrev IsDull : TransportFrame → Type 0
IsDull Connect = Unit {0}
IsDull Disconnect = ⊥
IsDull (Ack n) = ⊥
IsDull (Nak n) = Unit {0}
IsDull (Numbered n apdu) = ⊥
IsDull Other = Unit {0}

dull_isnt : (f : TransportFrame) (n : ℕ) → IsDull f → Some f ≢ Some (Ack n)
dull_isnt Connect n d = λ e. cc e
dull_isnt Disconnect n d = absurd d
dull_isnt (Ack k) n d = absurd d
dull_isnt (Nak k) n d = λ e. cc e
dull_isnt (Numbered k apdu) n d = absurd d
dull_isnt Other n d = λ e. cc e

dull_ignored : (f : TransportFrame) (n : ℕ) → IsDull f → is_ignored n (Some f) ≡ true
dull_ignored Connect n d = refl
dull_ignored Disconnect n d = absurd d
dull_ignored (Ack k) n d = absurd d
dull_ignored (Nak k) n d = refl
dull_ignored (Numbered k apdu) n d = absurd d
dull_ignored Other n d = refl

ignores : (conn : ClientEnd) (f : TransportFrame) → IsDull f → IsIgnored conn f
ignores (Asked to) f d = tt
ignores (Up s) f d = tt
ignores (Asking s q) f d = dull_isnt f s.number d
ignores (Awaiting s) f d = dull_ignored f s.number d
ignores NoConnection f d = tt

dull_heard : (device : IndAddr) (conn : ClientEnd) (flight : Flight) (sent : ℕ) (f : TransportFrame) (m : Moment) (l : List Moment) → IsDull f → ConnFits device.raw conn flight sent l → Hears device f m → HeardBy device conn flight sent m l heard.Dropped
dull_heard device conn flight sent Connect m l d k w = dropped device conn flight sent Connect m l k w (same_by device None (Some Connect) None m l w refl refl refl refl) refl (ignores conn Connect tt)
dull_heard device conn flight sent Disconnect m l d k w = absurd d
dull_heard device conn flight sent (Ack n) m l d k w = absurd d
dull_heard device conn flight sent (Nak n) m l d k w = dropped device conn flight sent (Nak n) m l k w (same_by device None (Some (Nak n)) None m l w refl refl refl refl) refl (ignores conn (Nak n) tt)
dull_heard device conn flight sent (Numbered n apdu) m l d k w = absurd d
dull_heard device conn flight sent Other m l d k w = dropped device conn flight sent Other m l k w (same_by device None (Some Other) None m l w refl refl refl refl) refl (ignores conn Other tt)

-- ---- T_Disconnect

disconnected : (device : IndAddr) (m : Moment) (l : List Moment) → Hears device Disconnect m → EndsIn device.raw m l
disconnected device m l w = record { ends = ends_after device None (Some Disconnect) None m l w; same = same_by device None (Some Disconnect) None m l w refl refl refl refl }

-- ---- a service of the device

unexpected : (device n e : ℕ) (apdu : List ℕ) (l : List Moment) → Expects device e l → (n == e) ≡ false → answer_expected (Some (Numbered n apdu)) (length (answers device l)) (answers device l) ≡ answers device l
unexpected device n e apdu l x t = let y : (n == length (answers device l) % 16) ≡ false = subst (λ (k : ℕ). (n == k) ≡ false) x t in rw y refl

unexpected_same : (device : IndAddr) (n e : ℕ) (apdu : List ℕ) (m : Moment) (l : List Moment) → Expects device.raw e l → (n == e) ≡ false → Hears device (Numbered n apdu) m → IsSame device.raw m l
unexpected_same device n e apdu m l x t w = same_by device None (Some (Numbered n apdu)) None m l w refl refl (unexpected device.raw n e apdu l x t) refl

abbrev AnsweredBy : IndAddr → ClientEnd → Flight → ℕ → ℕ → List ℕ → Moment → List Moment → Type 0
AnsweredBy device conn flight sent n apdu m l = HeardBy device conn flight sent m l (heard.Answer apdu (Written (tpdu.Ack n)))

service_heard : (device : IndAddr) (conn : ClientEnd) (s : Session) (flight : Flight) (sent n : ℕ) (apdu : List ℕ) (m : Moment) (l : List Moment) (t u : Bool) → (n == s.expected) ≡ t → is_before n s.expected ≡ u
    → ConnFits device.raw conn flight sent l → Expects device.raw s.expected l → Hears device (Numbered n apdu) m → (n ≡ s.expected → AnsweredBy device conn flight sent n apdu m l) → HeardBy device conn flight sent m l (up_took s (Numbered n apdu))
service_heard device conn s flight sent n apdu m l true u e b k x w a = rw e (a (eqb-true n s.expected e))
service_heard device conn s flight sent n apdu m l false true e b k x w a = rw (e, b) (again device conn flight sent (Written (tpdu.Ack n)) m l (repeated device conn flight sent n apdu m l k w (unexpected_same device n s.expected apdu m l x e w)))
service_heard device conn s flight sent n apdu m l false false e b k x w a = rw (e, b) (refused device conn flight sent (Written (tpdu.Nak n)) m l (repeated device conn flight sent n apdu m l k w (unexpected_same device n s.expected apdu m l x e w)))

answered_goes : (device : IndAddr) (n : ℕ) (apdu : List ℕ) (m : Moment) (l : List Moment) → Hears device (Numbered n apdu) m → ends_session device.raw m l ≡ false
answered_goes device n apdu m l w = ends_after device None (Some (Numbered n apdu)) None m l w

up_answers : (device : IndAddr) (s : Session) (flight : Flight) (sent n : ℕ) (apdu : List ℕ) (m : Moment) (l : List Moment) → UpFits device.raw s sent l → Hears device (Numbered n apdu) m → n ≡ s.expected → AnsweredBy device (Up s) flight sent n apdu m l
unfolding client_after
up_answers device s flight sent n apdu m l f w e = record {
  goes = answered_goes device n apdu m l w;
  fits = answered_up device s n apdu sent m.now m l f.own f.expects f.over e w;
  got = answered_got device n apdu s.expected m l f.expects e w;
  put = same_services device (Numbered n apdu) m l w;
}

awaiting_answers : (device : IndAddr) (s : Session) (flight : Flight) (sent n : ℕ) (apdu : List ℕ) (m : Moment) (l : List Moment) → AwaitingFits device.raw s sent l → Hears device (Numbered n apdu) m → n ≡ s.expected
    → AnsweredBy device (Awaiting s) flight sent n apdu m l
unfolding client_after
awaiting_answers device s flight sent n apdu m l f w e = record {
  goes = answered_goes device n apdu m l w;
  fits = answered_up device s n apdu sent m.now m l f.own f.expects f.over e w;
  got = answered_got device n apdu s.expected m l f.expects e w;
  put = same_services device (Numbered n apdu) m l w;
}

asking_answers : (device : IndAddr) (s : Session) (q : Question) (flight : Flight) (sent n : ℕ) (apdu : List ℕ) (m : Moment) (l : List Moment) → AskingFits device.raw s q flight sent l → Hears device (Numbered n apdu) m → n ≡ s.expected
    → AnsweredBy device (Asking s q) flight sent n apdu m l
unfolding client_after
asking_answers device s q flight sent n apdu m l f w e = record {
  goes = answered_goes device n apdu m l w;
  fits = answered_asking device s q flight n apdu sent m.now m l f e w;
  got = answered_got device n apdu s.expected m l f.expects e w;
  put = same_services device (Numbered n apdu) m l w;
}

-- ---- a T_ACK while none is awaited

calm_same : (device : IndAddr) (k n : ℕ) (m : Moment) (l : List Moment) → number device.raw l ≡ NextNumber n → Hears device (Ack k) m → IsSame device.raw m l
calm_same device k n m l o w =
    same_by device None (Some (Ack k)) None m l w (subst (λ (x : Number). number_heard (Some (Ack k)) x ≡ x) (sym o) refl) (subst (λ (x : Number). is_acknowledged (Some (Ack k)) x ≡ false) (sym o) refl) refl refl

calm_closes : (k n : ℕ) (t : Bool) (o : Number) → o ≡ NextNumber n → is_before k n ≡ t → closes_by (Some (Ack k)) o ≡ not t
calm_closes k n t o e b = subst (λ (x : Number). closes_by (Some (Ack k)) x ≡ not t) (sym e) (ap not b)

calm_ack : (device : IndAddr) (conn : ClientEnd) (s : Session) (flight : Flight) (sent k : ℕ) (m : Moment) (l : List Moment) (t : Bool) → is_before k s.number ≡ t → ConnFits device.raw conn flight sent l → number device.raw l ≡ NextNumber s.number
    → (is_before k s.number ≡ true → IsIgnored conn (Ack k)) → Hears device (Ack k) m → HeardBy device conn flight sent m l (up_took s (Ack k))
calm_ack device conn s flight sent k m l true b f o i w = rw b (dropped device conn flight sent (Ack k) m l f w (calm_same device k s.number m l o w) (calm_closes k s.number true (number device.raw l) o b) (i b))
calm_ack device conn s flight sent k m l false b f o i w =
    rw b (record { ends = ends_after device None (Some (Ack k)) None m l w ∙ calm_closes k s.number false (number device.raw l) o b; same = calm_same device k s.number m l o w })

-- ---- a T_ACK while one is awaited

busy_same : (device : IndAddr) (k n : ℕ) (m : Moment) (l : List Moment) → number device.raw l ≡ Outstanding n → (k == n) ≡ false → Hears device (Ack k) m → IsSame device.raw m l
busy_same device k n m l o t w =
    same_by device None (Some (Ack k)) None m l w (subst (λ (x : Number). number_heard (Some (Ack k)) x ≡ x) (sym o) (rw t refl)) (subst (λ (x : Number). is_acknowledged (Some (Ack k)) x ≡ false) (sym o) t) refl refl

busy_closes : (k n : ℕ) (t : Bool) (o : Number) → o ≡ Outstanding n → (k == n) ≡ false → is_before k n ≡ t → closes_by (Some (Ack k)) o ≡ not t
busy_closes k n t o e d b = subst (λ (x : Number). closes_by (Some (Ack k)) x ≡ not t) (sym e) (let c : (next_number k == n) ≡ t = b in rw (d, c) refl)

own_goes : (k n : ℕ) (o : Number) → o ≡ Outstanding n → (k == n) ≡ true → closes_by (Some (Ack k)) o ≡ false
own_goes k n o e t = subst (λ (x : Number). closes_by (Some (Ack k)) x ≡ false) (sym e) (rw t refl)

acked_conn : (device : IndAddr) (s : Session) (q : Question) (flight : Flight) (sent : ℕ) (m : Moment) (l : List Moment) (t : Bool) → q.awaits ≡ t → AskingFits device.raw s q flight sent l → Hears device (Ack s.number) m
    → ConnFits device.raw (if t then Awaiting (settled s m.now) else Up (settled s m.now)) flight sent (m ∷ l)
acked_conn device s q flight sent m l true e f w = acked_awaiting device s q flight sent m l f e w
acked_conn device s q flight sent m l false e f w = acked_up device s q flight sent m.now m l f w

acked : (device : IndAddr) (s : Session) (q : Question) (flight : Flight) (sent k : ℕ) (m : Moment) (l : List Moment) → AskingFits device.raw s q flight sent l → (k == s.number) ≡ true → Hears device (Ack k) m → HeardBy device (Asking s q) flight sent m l heard.Acked
unfolding client_after
acked device s q flight sent k m l f t w = record {
  goes = ends_after device None (Some (Ack k)) None m l w ∙ own_goes k s.number (number device.raw l) f.own t;
  fits = acked_conn device s q flight sent m l q.awaits refl f (subst (λ (j : ℕ). Hears device (Ack j) m) (eqb-true k s.number t) w);
  got = acked_got device k m l w;
  put = same_services device (Ack k) m l w;
}

busy_ack : (device : IndAddr) (s : Session) (q : Question) (flight : Flight) (sent k : ℕ) (m : Moment) (l : List Moment) (t : Bool) → is_before k s.number ≡ t → (k == s.number) ≡ false → AskingFits device.raw s q flight sent l → Hears device (Ack k) m
    → HeardBy device (Asking s q) flight sent m l (up_took s (Ack k))
busy_ack device s q flight sent k m l true b d f w =
    rw b (dropped device (Asking s q) flight sent (Ack k) m l f w (busy_same device k s.number m l f.own d w) (busy_closes k s.number true (number device.raw l) f.own d b) (λ e. eqb-false k s.number d (cc e)))
busy_ack device s q flight sent k m l false b d f w =
    rw b (record { ends = ends_after device None (Some (Ack k)) None m l w ∙ busy_closes k s.number false (number device.raw l) f.own d b; same = busy_same device k s.number m l f.own d w })

asking_ack : (device : IndAddr) (s : Session) (q : Question) (flight : Flight) (sent k : ℕ) (m : Moment) (l : List Moment) (t : Bool) → (k == s.number) ≡ t → AskingFits device.raw s q flight sent l → Hears device (Ack k) m
    → HeardBy device (Asking s q) flight sent m l (if t then heard.Acked else up_took s (Ack k))
asking_ack device s q flight sent k m l true d f w = acked device s q flight sent k m l f d w
asking_ack device s q flight sent k m l false d f w = busy_ack device s q flight sent k m l (is_before k s.number) refl d f w

-- ---- each connection

up_heard : (device : IndAddr) (s : Session) (flight : Flight) (sent : ℕ) (f : TransportFrame) (m : Moment) (l : List Moment) → UpFits device.raw s sent l → Hears device f m → HeardBy device (Up s) flight sent m l (up_took s f)
up_heard device s flight sent Connect m l k w = dull_heard device (Up s) flight sent Connect m l tt k w
up_heard device s flight sent Disconnect m l k w = disconnected device m l w
up_heard device s flight sent (Ack n) m l k w = calm_ack device (Up s) s flight sent n m l (is_before n s.number) refl k k.own (λ b. tt) w
up_heard device s flight sent (Nak n) m l k w = dull_heard device (Up s) flight sent (Nak n) m l tt k w
up_heard device s flight sent (Numbered n apdu) m l k w = service_heard device (Up s) s flight sent n apdu m l (n == s.expected) (is_before n s.expected) refl refl k k.expects w (up_answers device s flight sent n apdu m l k w)
up_heard device s flight sent Other m l k w = dull_heard device (Up s) flight sent Other m l tt k w

awaiting_heard : (device : IndAddr) (s : Session) (flight : Flight) (sent : ℕ) (f : TransportFrame) (m : Moment) (l : List Moment) → AwaitingFits device.raw s sent l → Hears device f m → HeardBy device (Awaiting s) flight sent m l (up_took s f)
awaiting_heard device s flight sent Connect m l k w = dull_heard device (Awaiting s) flight sent Connect m l tt k w
awaiting_heard device s flight sent Disconnect m l k w = disconnected device m l w
awaiting_heard device s flight sent (Ack n) m l k w = calm_ack device (Awaiting s) s flight sent n m l (is_before n s.number) refl k k.own (λ b. b) w
awaiting_heard device s flight sent (Nak n) m l k w = dull_heard device (Awaiting s) flight sent (Nak n) m l tt k w
awaiting_heard device s flight sent (Numbered n apdu) m l k w =
    service_heard device (Awaiting s) s flight sent n apdu m l (n == s.expected) (is_before n s.expected) refl refl k k.expects w (awaiting_answers device s flight sent n apdu m l k w)
awaiting_heard device s flight sent Other m l k w = dull_heard device (Awaiting s) flight sent Other m l tt k w

asking_heard : (device : IndAddr) (s : Session) (q : Question) (flight : Flight) (sent : ℕ) (f : TransportFrame) (m : Moment) (l : List Moment) → AskingFits device.raw s q flight sent l → Hears device f m
    → HeardBy device (Asking s q) flight sent m l (asking_took s f)
asking_heard device s q flight sent Connect m l k w = dull_heard device (Asking s q) flight sent Connect m l tt k w
asking_heard device s q flight sent Disconnect m l k w = disconnected device m l w
asking_heard device s q flight sent (Ack n) m l k w = asking_ack device s q flight sent n m l (n == s.number) refl k w
asking_heard device s q flight sent (Nak n) m l k w = dull_heard device (Asking s q) flight sent (Nak n) m l tt k w
asking_heard device s q flight sent (Numbered n apdu) m l k w =
    service_heard device (Asking s q) s flight sent n apdu m l (n == s.expected) (is_before n s.expected) refl refl k k.expects w (asking_answers device s q flight sent n apdu m l k w)
asking_heard device s q flight sent Other m l k w = dull_heard device (Asking s q) flight sent Other m l tt k w

pub conn_heard : (device : IndAddr) (conn : ClientEnd) (flight : Flight) (sent : ℕ) (f : TransportFrame) (m : Moment) (l : List Moment) → ConnFits device.raw conn flight sent l → Hears device f m → HeardBy device conn flight sent m l (client_took conn f)
unfolding client_took
conn_heard device (Asked to) flight sent f m l k w = absurd k
conn_heard device (Up s) flight sent f m l k w = up_heard device s flight sent f m l k w
conn_heard device (Asking s q) flight sent f m l k w = asking_heard device s q flight sent f m l k w
conn_heard device (Awaiting s) flight sent f m l k w = awaiting_heard device s flight sent f m l k w
conn_heard device NoConnection flight sent f m l k w = absurd k
