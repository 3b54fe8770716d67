-- A download that nothing disturbs, operation by operation.
use Rattle.std.proofs.Common.{◌≡◌, ℕ, ◌+◌, ◌*◌, ◌<◌, ◌≤◌, List, [], ◌∷◌, length, true, false, Option, Some, None, refl, arith}
use Rattle.std.specs.Prelude.{◌==◌, nat_lt}
use Rattle.std.proofs.lemmas.Grind.{common_steps}
use Rattle.std.proofs.lemmas.Bool.{eq-eqb}
use Rattle.knx_model.specs.declared.address.IndAddr.{IndAddr}
use Rattle.knx_model.specs.declared.device.FrameSupport.{FrameSupport}
use Rattle.knx_model.specs.declared.device.FrameSupport.TheVariants.{Standard, Extended}
use Rattle.knx_model.specs.declared.frames.cemi.Ldata.{Ldata}
use Rattle.knx_model.specs.declared.frames.value.Value.{Value}
use Rattle.knx_model.specs.Connection.{IsApdu, next_number, numbered_data}
use Rattle.knx_model.specs.ClientConnection.{has_answer, Up, Awaiting, client_confirmed, after_confirmed, client_sent, after_send, client_took, client_after}
use Rattle.knx_model.specs.DeviceConnection.{Idle, Answering, device_took, device_after, device_answered, after_answer}
use Rattle.knx_model.specs.Device.{NonVolatile, whole, effect_in, answer_in}
use Rattle.knx_model.specs.DeviceState.{DeviceState}
use Rattle.knx_model.specs.DeviceFrames.{Whole, own_frame, is_too_long}
use Rattle.session_law.specs.World.{World}
use Rattle.session_law.specs.Events.{Event, Takes, Bus, Replies, DevSend, replay, IsLegal}
use Rattle.session_law.specs.Device.{Comes}
use Rattle.session_law.proofs.Frames.{numbered_read, ack_read}
use Rattle.knx_model.specs.Served.{FitsInto}
use Rattle.load_law.specs.Undisturbed.{acknowledged}
use Rattle.load_law.proofs.Answers.{Texts}

-- a connection that is up, with nothing on its way
abbrev pub calm : IndAddr → DeviceState → ℕ → NonVolatile → List (Option Value) → Option Ldata → Option Ldata → ℕ → ℕ → Texts → Texts → World
calm me d t kept values last echo p h sent accepted = record {
  me = me;
  now = t;
  client = record { end = Up (record { partner = d.address; expected = h; number = p; last = t }); joined = true; pending = false; owed = []; sent = sent; accepted = accepted };
  flying = None;
  coming = [];
  device = record { address = d.address; frames = d.frames; kept = kept; power = true; connection = Idle (record { partner = record { raw = me.raw }; expected = p; number = h; last = t }); values = values; unsent = []; last = last };
  echo = echo;
  delivered = sent;
  given = accepted;
}

pub same : (n : ℕ) → (n == n) ≡ true
same n = eq-eqb n n refl

abbrev pub Ends : World → IndAddr → DeviceState → ℕ → NonVolatile → ℕ → ℕ → Texts → Texts → Type 0
Ends w me d t kept p h sent accepted = (values : List (Option Value)) × (last : Option Ldata) × (echo : Option Ldata) × (w ≡ calm me d t kept values last echo p h sent accepted)

-- ---- frames that the device takes

pub short_control : (frames : FrameSupport) (me device : IndAddr) (octet : ℕ) → is_too_long frames (own_frame me false device.raw (octet ∷ [])) ≡ false
short_control Standard me device octet = refl
short_control Extended me device octet = refl

length_numbered : (p : ℕ) (apdu : List ℕ) → length (numbered_data p apdu) ≡ length apdu
length_numbered p [] = refl
length_numbered p (x ∷ l) = refl

long_by : (n m : ℕ) → m ≡ n → n ≤ 16 → nat_lt 16 m ≡ false
long_by n m e h = grind (arith, common_steps)

pub short_service : (frames : FrameSupport) (me device : IndAddr) (p : ℕ) (apdu : List ℕ) → FitsInto frames apdu → is_too_long frames (own_frame me false device.raw (numbered_data p apdu)) ≡ false
short_service Standard me device p apdu h = long_by (length apdu) (length (numbered_data p apdu)) (length_numbered p apdu) h
short_service Extended me device p apdu h = refl

-- ---- a service that has no answer

module _ (me : IndAddr) (d : DeviceState) (t : ℕ) (kept : NonVolatile) (values : List (Option Value)) (last echo : Option Ldata) (p h : ℕ) (sent accepted : Texts) (apdu : List ℕ) (small : p < 16) (is : IsApdu apdu) (fits : FitsInto d.frames apdu) where
  pub goes_without : has_answer apdu ≡ false → answer_in d.frames kept apdu ≡ None → Ends (replay (calm me d t kept values last echo p h sent accepted) (acknowledged apdu)) me d t (whole kept (effect_in apdu)) (next_number p) h (apdu ∷ sent) accepted
  unfolding device_took device_after device_answered after_answer client_confirmed after_confirmed client_sent after_send client_took client_after
  goes_without a n =
      let w : World = replay (calm me d t kept values last echo p h sent accepted) (acknowledged apdu) in
      (w.device.values, w.device.last, w.echo, rw (same d.address.raw) (rw (short_service d.frames me d.address p apdu fits) (rw (numbered_read p apdu small is) (rw (same me.raw) (rw (same p) (rw n (rw (same d.address.raw) (rw (ack_read p small) (rw (same p) (rw a refl))))))))))

  pub legal_without : IsLegal (calm me d t kept values last echo p h sent accepted) (acknowledged apdu)
  legal_without = (tt, (tt, (tt, (tt, ((refl, is), tt)))))

-- ---- a service that has one

-- its T_ACK came, and the answer waits at the device
abbrev pub halfway : IndAddr → DeviceState → ℕ → NonVolatile → List (Option Value) → Option Ldata → Option Ldata → ℕ → ℕ → Texts → Texts → List ℕ → World
halfway me d t kept values last echo p h sent accepted v = record {
  me = me;
  now = t;
  client = record { end = Awaiting (record { partner = d.address; expected = h; number = p; last = t }); joined = true; pending = false; owed = []; sent = sent; accepted = accepted };
  flying = None;
  coming = [];
  device = record {
    address = d.address;
    frames = d.frames;
    kept = kept;
    power = true;
    connection = Answering (record { partner = record { raw = me.raw }; expected = p; number = h; last = t }) (record { frame = numbered_data h v; repeats = 0; sent = t });
    values = values;
    unsent = own_frame d.address false me.raw (numbered_data h v) ∷ [];
    last = last;
  };
  echo = echo;
  delivered = sent;
  given = v ∷ accepted;
}

abbrev pub Waits : World → IndAddr → DeviceState → ℕ → NonVolatile → ℕ → ℕ → Texts → Texts → List ℕ → Type 0
Waits w me d t kept p h sent accepted v = (values : List (Option Value)) × (last : Option Ldata) × (echo : Option Ldata) × (w ≡ halfway me d t kept values last echo p h sent accepted v)

abbrev pub answering : List Event
answering = Takes ∷ Bus Whole ∷ Replies ∷ Takes ∷ DevSend Comes ∷ []

module _ (me : IndAddr) (d : DeviceState) (t : ℕ) (kept : NonVolatile) (values : List (Option Value)) (last echo : Option Ldata) (p h : ℕ) (sent accepted : Texts) where
  pub waits : (apdu v : List ℕ) → p < 16 → IsApdu apdu → FitsInto d.frames apdu → has_answer apdu ≡ true → answer_in d.frames kept apdu ≡ Some v
      → Waits (replay (calm me d t kept values last echo p h sent accepted) (acknowledged apdu)) me d t (whole kept (effect_in apdu)) (next_number p) h (apdu ∷ sent) accepted v
  unfolding device_took device_after device_answered after_answer client_confirmed after_confirmed client_sent after_send client_took client_after
  waits apdu v small is fits a n =
      let w : World = replay (calm me d t kept values last echo p h sent accepted) (acknowledged apdu) in
      (w.device.values, w.device.last, w.echo, rw (same d.address.raw) (rw (short_service d.frames me d.address p apdu fits) (rw (numbered_read p apdu small is) (rw (same me.raw) (rw (same p) (rw n (rw (same d.address.raw) (rw (ack_read p small) (rw (same p) (rw a refl))))))))))

  pub answered : (v : List ℕ) → h < 16 → IsApdu v → Ends (replay (halfway me d t kept values last echo p h sent accepted v) answering) me d t kept p (next_number h) sent (v ∷ accepted)
  unfolding device_took device_after device_answered after_answer client_confirmed after_confirmed client_sent after_send client_took client_after
  answered v tiny iv =
      let w : World = replay (halfway me d t kept values last echo p h sent accepted v) answering in
      (w.device.values, w.device.last, w.echo, rw (same d.address.raw) (rw (numbered_read h v tiny iv) (rw (same h) (rw (same d.address.raw) (rw (short_control d.frames me d.address (0xC2 + 4 * h)) (rw (ack_read h tiny) (rw (same me.raw) (rw (same h) refl))))))))

  pub legal_answering : (v : List ℕ) → IsLegal (halfway me d t kept values last echo p h sent accepted v) answering
  legal_answering v = (tt, (tt, (refl, (tt, (tt, tt)))))
