-- The time, and a confirmation, beside what the record says of a session.
use Rattle.std.proofs.Common.{◌≡◌, ℕ, List, [], reverse, length, Bool, true, false, Option, Some, None, refl, sym, ◌∙◌, subst, inl, inr, arith}
use Rattle.knx_model.specs.declared.address.IndAddr.{IndAddr}
use Rattle.knx_model.specs.declared.connection.TransportFrame.{TransportFrame}
use Rattle.knx_model.specs.declared.connection.TransportFrame.TheVariants.{Connect, Disconnect, Ack, Nak, Numbered, Other}
use Rattle.knx_model.specs.ClientConnection.{ClientEnd, Asked, Up, Asking, Awaiting, Ended, after_confirmed}
use Rattle.knx_model.specs.Connection.{frame_in}
use Rattle.knx_model.specs.Plans.{Plan}
use Rattle.line_model.specs.Attempts.{Attempt, Attempts, Resting, Running, awaits, confirmed_attempt, landed, MayPut, MayAsk}
use Rattle.line_model.specs.Moments.{Number, Next}
use Rattle.line_law.proofs.Counts.{NumberIs, ExpectedIs, LeftIs, NotEnd, Count, CountIs}

-- ---- a confirmation

pub landed_number : (end : ClientEnd) (error : Bool) (now : ℕ) (o : Number) (acked sent : ℕ) → NumberIs end o acked sent → NumberIs (after_confirmed end error now) o acked sent
unfolding after_confirmed
landed_number (Asked d) error now o acked sent h = absurd h
landed_number (Up p) error now o acked sent h = h
landed_number (Asking p q) error now o acked sent h = h
landed_number (Awaiting p) error now o acked sent h = h
landed_number Ended error now o acked sent h = h

pub landed_expected : (end : ClientEnd) (error : Bool) (now : ℕ) (o : Number) (acked sent n : ℕ) → NumberIs end o acked sent → ExpectedIs end n → ExpectedIs (after_confirmed end error now) n
unfolding after_confirmed
landed_expected (Asked d) error now o acked sent n h e = absurd h
landed_expected (Up p) error now o acked sent n h e = e
landed_expected (Asking p q) error now o acked sent n h e = e
landed_expected (Awaiting p) error now o acked sent n h e = e
landed_expected Ended error now o acked sent n h e = e

pub landed_awaits : (end : ClientEnd) (error : Bool) (now : ℕ) (o : Number) (acked sent : ℕ) → NumberIs end o acked sent → awaits (after_confirmed end error now) ≡ awaits end
unfolding after_confirmed
landed_awaits (Asked d) error now o acked sent h = absurd h
landed_awaits (Up p) error now o acked sent h = refl
landed_awaits (Asking p q) error now o acked sent h = refl
landed_awaits (Awaiting p) error now o acked sent h = refl
landed_awaits Ended error now o acked sent h = refl

pub landed_count : (plan : Plan) (t : Attempt) (o : Number) (acked : ℕ) (ans : List (List ℕ)) → Count plan t o acked ans → Count plan (landed t) o acked ans
landed_count plan t o acked ans h = record { sent = h.sent; number_is = h.number_is; expected_is = h.expected_is; plain = tt; left_is = h.left_is; spoilt = h.spoilt }

pub con_count : (plan : Plan) (k : ℕ) (t : Attempt) (now : ℕ) (error : Bool) (flying : Option TransportFrame) (o : Number) (acked : ℕ) (ans : List (List ℕ)) → NotEnd flying → Count plan t o acked ans → CountIs plan (confirmed_attempt k t now error flying) o acked ans
con_count plan k t now error None o acked ans n h = h
con_count plan k t now error (Some Connect) o acked ans n h = absurd n
con_count plan k t now error (Some Disconnect) o acked ans n h = absurd n
con_count plan k t now error (Some (Numbered j apdu)) o acked ans n h =
    record {
      sent = h.sent;
      number_is = landed_number t.end error now o acked h.sent h.number_is;
      expected_is = landed_expected t.end error now o acked h.sent (length ans) h.number_is h.expected_is;
      plain = tt;
      left_is = λ q. subst (λ b. LeftIs b plan t.left h.sent (reverse ans)) (sym (landed_awaits t.end error now o acked h.sent h.number_is)) (h.left_is q);
      spoilt = h.spoilt;
    }
con_count plan k t now error (Some (Ack j)) o acked ans n h = landed_count plan t o acked ans h
con_count plan k t now error (Some (Nak j)) o acked ans n h = landed_count plan t o acked ans h
con_count plan k t now error (Some Other) o acked ans n h = landed_count plan t o acked ans h

pub begun_count : (plan : Plan) (t : Attempt) (now : ℕ) (device : IndAddr) → t.end ≡ Asked device → t.closing ≡ false → t.left ≡ plan → Count plan (landed (record t { end = after_confirmed t.end false now })) (Next 0) 0 []
unfolding after_confirmed
begun_count plan t now device e c l =
    record {
      sent = 0;
      number_is = subst (λ z. NumberIs (after_confirmed z false now) (Next 0) 0 0) (sym e) (refl, refl, omega arith);
      expected_is = subst (λ z. ExpectedIs (after_confirmed z false now) 0) (sym e) refl;
      plain = tt;
      left_is = λ q. subst (λ z. LeftIs (awaits (after_confirmed z false now)) plan t.left 0 []) (sym e) (sym l);
      spoilt = λ q. absurd (let z : true ≡ false = sym q ∙ c in cc);
    }

-- what an attempt that runs may put
abbrev pub Allowed : Attempt → ℕ → List ℕ → TransportFrame → Type 0
Allowed u now octets Connect = ⊥
Allowed u now octets Disconnect = Unit {0}
Allowed u now octets (Ack j) = Unit {0}
Allowed u now octets (Nak j) = Unit {0}
Allowed u now octets (Numbered j apdu) = MayAsk u now apdu octets
Allowed u now octets Other = ⊥

pub allowed : (k : ℕ) (u : Attempt) (now : ℕ) (octets : List ℕ) (x : TransportFrame) → MayPut (Running k u) now octets x → Allowed u now octets x
allowed k u now octets Connect h = h
allowed k u now octets Disconnect h = tt
allowed k u now octets (Ack j) h = tt
allowed k u now octets (Nak j) h = tt
allowed k u now octets (Numbered j apdu) h =
    record { owes_nothing = h.owes_nothing; which = elim h.which [ inl q ↦ inl (record { session = q.session; up = q.up; goes_on = q.goes_on; place = q.place; expect = q.expect; next = q.next; head = q.head; as_sent = q.as_sent }) | inr due ↦ inr due ] }
allowed k u now octets Other h = h

abbrev pub Free : Attempts → Type 0
Free (Resting k) = Unit {0}
Free (Running k u) = u.flying ≡ None

-- what is put to the device is allowed
pub record PutsSo (t : Attempts) (now : ℕ) (x : TransportFrame) : Type 0 where
  pub octets : List ℕ
  pub reads : frame_in octets ≡ x
  pub may : MayPut t now octets x
  pub free : Free t
