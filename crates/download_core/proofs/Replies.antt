-- A frame of the device, at the connection of an attempt: what it knows then, and the reply that is owed.
use Rattle.std.proofs.Common.{◌≡◌, ◌<◌, inl, inr, ◌==◌, ◌+◌, ◌*◌, ℕ, suc, nat_le, nat_lt, Bool, true, false, List, [], ◌∷◌, ◌++◌, length, map, Option, Some, refl, ap, sym, subst, ◌∙◌, if◌then◌else◌, arith}
use Rattle.std.proofs.lemmas.Grind.{common_steps}
use Rattle.knx_model.specs.declared.frames.tpdu.Tpdu.TheVariants as tpdu
use Rattle.knx_model.specs.declared.connection.TransportFrame.{TransportFrame}
use Rattle.knx_model.specs.declared.connection.TransportFrame.TheVariants as frame
use Rattle.knx_model.specs.declared.connection.ClientTook.{ClientTook}
use Rattle.knx_model.specs.declared.connection.ClientTook.TheVariants as heard
use Rattle.knx_model.specs.Apdu.{Written}
use Rattle.knx_model.specs.Connection.{Session, frame_in, HasNumber, acknowledged, is_before}
use Rattle.knx_model.specs.ConnectionLaws.{Carries}
use Rattle.knx_model.specs.ClientConnection.{ClientEnd, Asked, Up, Asking, Awaiting, Ended as NoConnection, client_took, client_after, up_took, asking_took}
use Rattle.transport_conn.proofs.Carried.{frame_read, carried}
use Rattle.line_model.specs.Attempts as line
use Rattle.line_model.specs.Attempts.{awaits}
use Rattle.download_core.specs.declared.flight.Flight.{Flight}
use Rattle.download_core.specs.declared.flight.Flight.TheVariants.{Nothing, Frame, Reply}
use Rattle.download_core.specs.Attempt.{with_reply}
use Rattle.download_core.specs.Fits.{IsFrame, IsReply, IsAck, IsNak, IsFlight, AreReplies, one_octet, IsEnd}

-- ---- the connection

abbrev pub IsHeard : ClientTook → Type 0
IsHeard heard.Dropped = Unit {0}
IsHeard heard.Acked = Unit {0}
IsHeard (heard.Answer apdu ack) = Unit {0}
IsHeard (heard.Again ack) = Unit {0}
IsHeard (heard.Nak nak) = Unit {0}
IsHeard (heard.Closed answer) = ⊥

either_frame : (s : Session) (now : ℕ) (t : Bool) (f : Option TransportFrame) → ((n : ℕ) × (apdu : List ℕ) × (f ≡ Some (frame.Numbered n apdu))) → IsFrame (if t then Awaiting (acknowledged s now) else Up (acknowledged s now)) f
either_frame s now true f k = k
either_frame s now false f k = k

frame_heard : (e : ClientEnd) (now : ℕ) (t : ClientTook) (f : Option TransportFrame) → IsHeard t → IsFrame e f → IsFrame (client_after e now t) f
unfolding client_after
frame_heard e now heard.Dropped f h k = k
frame_heard (Asked d) now heard.Acked f h k = k
frame_heard (Up s) now heard.Acked f h k = k
frame_heard (Asking s q) now heard.Acked f h k = either_frame s now q.awaits f k
frame_heard (Awaiting s) now heard.Acked f h k = k
frame_heard NoConnection now heard.Acked f h k = k
frame_heard (Asked d) now (heard.Answer apdu ack) f h k = k
frame_heard (Up s) now (heard.Answer apdu ack) f h k = k
frame_heard (Asking s q) now (heard.Answer apdu ack) f h k = k
frame_heard (Awaiting s) now (heard.Answer apdu ack) f h k = k
frame_heard NoConnection now (heard.Answer apdu ack) f h k = k
frame_heard (Asked d) now (heard.Again ack) f h k = k
frame_heard (Up s) now (heard.Again ack) f h k = k
frame_heard (Asking s q) now (heard.Again ack) f h k = k
frame_heard (Awaiting s) now (heard.Again ack) f h k = k
frame_heard NoConnection now (heard.Again ack) f h k = k
frame_heard (Asked d) now (heard.Nak nak) f h k = k
frame_heard (Up s) now (heard.Nak nak) f h k = k
frame_heard (Asking s q) now (heard.Nak nak) f h k = k
frame_heard (Awaiting s) now (heard.Nak nak) f h k = k
frame_heard NoConnection now (heard.Nak nak) f h k = k
frame_heard e now (heard.Closed answer) f h k = absurd h

pub flight_heard : (flight : Flight) (e : ClientEnd) (now : ℕ) (t : ClientTook) (f : Option TransportFrame) → IsHeard t → IsFlight flight e f → IsFlight flight (client_after e now t) f
flight_heard Nothing e now t f h k = k
flight_heard Frame e now t f h k = frame_heard e now t f h k
flight_heard Reply e now t f h k = k

either_end : (s : Session) (now : ℕ) (t : Bool) → IsEnd (if t then Awaiting (acknowledged s now) else Up (acknowledged s now))
either_end s now true = tt
either_end s now false = tt

pub end_heard : (e : ClientEnd) (now : ℕ) (t : ClientTook) → IsEnd e → IsEnd (client_after e now t)
unfolding client_after
end_heard e now heard.Dropped k = k
end_heard (Asked d) now heard.Acked k = tt
end_heard (Up s) now heard.Acked k = tt
end_heard (Asking s q) now heard.Acked k = either_end s now q.awaits
end_heard (Awaiting s) now heard.Acked k = tt
end_heard NoConnection now heard.Acked k = tt
end_heard (Asked d) now (heard.Answer apdu ack) k = tt
end_heard (Up s) now (heard.Answer apdu ack) k = tt
end_heard (Asking s q) now (heard.Answer apdu ack) k = k
end_heard (Awaiting s) now (heard.Answer apdu ack) k = tt
end_heard NoConnection now (heard.Answer apdu ack) k = tt
end_heard (Asked d) now (heard.Again ack) k = tt
end_heard (Up s) now (heard.Again ack) k = tt
end_heard (Asking s q) now (heard.Again ack) k = k
end_heard (Awaiting s) now (heard.Again ack) k = tt
end_heard NoConnection now (heard.Again ack) k = tt
end_heard (Asked d) now (heard.Nak nak) k = tt
end_heard (Up s) now (heard.Nak nak) k = tt
end_heard (Asking s q) now (heard.Nak nak) k = k
end_heard (Awaiting s) now (heard.Nak nak) k = tt
end_heard NoConnection now (heard.Nak nak) k = tt
end_heard e now (heard.Closed answer) k = tt

either_awaits : (s : Session) (now : ℕ) (t : Bool) → awaits (if t then Awaiting (acknowledged s now) else Up (acknowledged s now)) ≡ t
either_awaits s now true = refl
either_awaits s now false = refl

pub awaits_acked : (e : ClientEnd) (now : ℕ) → awaits (client_after e now heard.Acked) ≡ awaits e
unfolding client_after
awaits_acked (Asked d) now = refl
awaits_acked (Up s) now = refl
awaits_acked (Asking s q) now = either_awaits s now q.awaits
awaits_acked (Awaiting s) now = refl
awaits_acked NoConnection now = refl

pub awaits_answered : (e : ClientEnd) (now : ℕ) (apdu ack : List ℕ) → awaits (client_after e now (heard.Answer apdu ack)) ≡ false
unfolding client_after
awaits_answered (Asked d) now apdu ack = refl
awaits_answered (Up s) now apdu ack = refl
awaits_answered (Asking s q) now apdu ack = refl
awaits_answered (Awaiting s) now apdu ack = refl
awaits_answered NoConnection now apdu ack = refl

pub awaits_again : (e : ClientEnd) (now : ℕ) (ack : List ℕ) → awaits (client_after e now (heard.Again ack)) ≡ awaits e
unfolding client_after
awaits_again (Asked d) now ack = refl
awaits_again (Up s) now ack = refl
awaits_again (Asking s q) now ack = refl
awaits_again (Awaiting s) now ack = refl
awaits_again NoConnection now ack = refl

pub awaits_nak : (e : ClientEnd) (now : ℕ) (nak : List ℕ) → awaits (client_after e now (heard.Nak nak)) ≡ awaits e
unfolding client_after
awaits_nak (Asked d) now nak = refl
awaits_nak (Up s) now nak = refl
awaits_nak (Asking s q) now nak = refl
awaits_nak (Awaiting s) now nak = refl
awaits_nak NoConnection now nak = refl

-- ---- what is owed then

-- one octet, which is a T_ACK or a T_NAK
pub record IsOwed (reply : List ℕ) : Type 0 where
  pub octet : ℕ
  pub one : reply ≡ octet ∷ []
  pub which : IsReply (Some (frame_in (octet ∷ [])))

abbrev pub OwesReply : ClientTook → Type 0
OwesReply heard.Dropped = Unit {0}
OwesReply heard.Acked = Unit {0}
OwesReply (heard.Answer apdu ack) = IsOwed ack
OwesReply (heard.Again ack) = IsOwed ack
OwesReply (heard.Nak nak) = IsOwed nak
OwesReply (heard.Closed answer) = Unit {0}

ack_owed : (n : ℕ) → n < 16 → IsOwed (Written (tpdu.Ack n))
ack_owed n l = record { octet = 0xC2 + 4 * n; one = refl; which = IsAck n (ap Some (frame_read (Written (tpdu.Ack n)) (frame.Ack n) (refl, l))) }

nak_owed : (n : ℕ) → n < 16 → IsOwed (Written (tpdu.Nak n))
nak_owed n l = record { octet = 0xC3 + 4 * n; one = refl; which = IsNak n (ap Some (frame_read (Written (tpdu.Nak n)) (frame.Nak n) (refl, l))) }

by_tests : (n : ℕ) (apdu : List ℕ) (b c : Bool) → n < 16 → OwesReply (if b then heard.Answer apdu (Written (tpdu.Ack n)) else (if c then heard.Again (Written (tpdu.Ack n)) else heard.Nak (Written (tpdu.Nak n))))
by_tests n apdu true c l = ack_owed n l
by_tests n apdu false true l = ack_owed n l
by_tests n apdu false false l = nak_owed n l

by_ack_test : (b : Bool) (answer : Option (List ℕ)) → OwesReply (if b then heard.Dropped else heard.Closed answer)
by_ack_test true answer = tt
by_ack_test false answer = tt

up_owes : (s : Session) (f : TransportFrame) → HasNumber f → OwesReply (up_took s f)
up_owes s frame.Connect l = tt
up_owes s frame.Disconnect l = tt
up_owes s (frame.Ack n) l = by_ack_test (is_before n s.number) (Some (Written tpdu.Disconnect))
up_owes s (frame.Nak n) l = tt
up_owes s (frame.Numbered n apdu) l = by_tests n apdu (n == s.expected) (is_before n s.expected) l
up_owes s frame.Other l = tt

by_own_test : (b : Bool) (t : ClientTook) → OwesReply t → OwesReply (if b then heard.Acked else t)
by_own_test true t k = tt
by_own_test false t k = k

asking_owes : (s : Session) (f : TransportFrame) → HasNumber f → OwesReply (asking_took s f)
asking_owes s frame.Connect l = tt
asking_owes s frame.Disconnect l = tt
asking_owes s (frame.Ack n) l = by_own_test (n == s.number) (up_took s (frame.Ack n)) (up_owes s (frame.Ack n) l)
asking_owes s (frame.Nak n) l = tt
asking_owes s (frame.Numbered n apdu) l = up_owes s (frame.Numbered n apdu) l
asking_owes s frame.Other l = tt

pub took_owes : (e : ClientEnd) (f : TransportFrame) → HasNumber f → OwesReply (client_took e f)
unfolding client_took
took_owes (Asked d) f l = tt
took_owes (Up s) f l = up_owes s f l
took_owes (Asking s q) f l = asking_owes s f l
took_owes (Awaiting s) f l = up_owes s f l
took_owes NoConnection f l = tt

number_of : (octets : List ℕ) (f : TransportFrame) → Carries octets f → HasNumber f
number_of octets frame.Connect k = tt
number_of octets frame.Disconnect k = tt
number_of [] (frame.Ack n) k = absurd k
number_of (x ∷ []) (frame.Ack n) k = k.1
number_of (x ∷ y ∷ rest) (frame.Ack n) k = absurd k
number_of [] (frame.Nak n) k = absurd k
number_of (x ∷ []) (frame.Nak n) k = k.1
number_of (x ∷ y ∷ rest) (frame.Nak n) k = absurd k
number_of octets (frame.Numbered n apdu) k = k.0
number_of octets frame.Other k = absurd k

pub has_number : (tpdu : List ℕ) → HasNumber (frame_in tpdu)
has_number octets = elim (carried octets) [
  | inl o ↦ subst HasNumber (sym o) tt
  | inr k ↦ number_of octets (frame_in octets) k
]

map_more : (xs : List ℕ) (y : ℕ) → map one_octet xs ++ (y ∷ []) ∷ [] ≡ map one_octet (xs ++ y ∷ [])
map_more [] y = refl
map_more (x ∷ xs) y = ap (λ (l : List (List ℕ)). (x ∷ []) ∷ l) (map_more xs y)

replies_more : (xs : List ℕ) (y : ℕ) → AreReplies xs → IsReply (Some (frame_in (y ∷ []))) → AreReplies (xs ++ y ∷ [])
replies_more [] y k r = (r, tt)
replies_more (x ∷ xs) y k r = (k.0, replies_more xs y k.1 r)

map_length : (xs : List ℕ) → length (map one_octet xs) ≡ length xs
map_length [] = refl
map_length (x ∷ xs) = ap suc (map_length xs)

same_room : (n : ℕ) → nat_le (n + 1) 64 ≡ nat_lt n 64
same_room n = grind (arith, common_steps)

map_test : (t : Bool) (xs : List ℕ) (y : ℕ) → (if t then map one_octet xs ++ (y ∷ []) ∷ [] else map one_octet xs) ≡ map one_octet (if t then xs ++ y ∷ [] else xs)
map_test true xs y = map_more xs y
map_test false xs y = refl

replies_test : (t : Bool) (xs : List ℕ) (y : ℕ) → AreReplies xs → IsReply (Some (frame_in (y ∷ []))) → AreReplies (if t then xs ++ y ∷ [] else xs)
replies_test true xs y k r = replies_more xs y k r
replies_test false xs y k r = k

pub owed_more : (owed reply : List ℕ) (all : List (List ℕ)) → all ≡ map one_octet owed → IsOwed reply → line.with_reply all reply ≡ map one_octet (with_reply owed reply)
owed_more owed reply all e r =
    ap (λ (o : List (List ℕ)). line.with_reply o reply) e
    ∙ ap (line.with_reply (map one_octet owed)) r.one
    ∙ ap (λ (n : ℕ). if nat_lt n 64 then map one_octet owed ++ (r.octet ∷ []) ∷ [] else map one_octet owed) (map_length owed)
    ∙ ap (λ (t : Bool). if t then map one_octet owed ++ (r.octet ∷ []) ∷ [] else map one_octet owed) (sym (same_room (length owed)))
    ∙ map_test (nat_le (length owed + 1) 64) owed r.octet
    ∙ ap (λ (o : List ℕ). map one_octet (with_reply owed o)) (sym r.one)

pub replies_owed : (owed reply : List ℕ) → AreReplies owed → IsOwed reply → AreReplies (with_reply owed reply)
replies_owed owed reply k r = subst (λ (o : List ℕ). AreReplies (with_reply owed o)) (sym r.one) (replies_test (nat_le (length owed + 1) 64) owed r.octet k r.which)
