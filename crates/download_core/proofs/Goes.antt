-- What a downloader gives to be sent may be put, and is then what the line's view has of it.
use Rattle.std.proofs.Common.{◌≡◌, ◌<◌, ◌⊎◌, inl, ℕ, suc, Bool, true, false, is_some, List, [], ◌∷◌, map, drop, Option, Some, None, refl, ap, sym, subst, ◌∙◌}
use Rattle.knx_model.specs.declared.address.IndAddr.{IndAddr}
use Rattle.knx_model.specs.declared.connection.TransportFrame.{TransportFrame}
use Rattle.knx_model.specs.declared.connection.TransportFrame.TheVariants as frame
use Rattle.knx_model.specs.declared.plan.Expect.{Expect}
use Rattle.knx_model.specs.declared.plan.Expect.TheVariants.{AckOnly, Is, Note}
use Rattle.knx_model.specs.Connection.{Session, HasNumbers, at_time, frame_in, numbered_data, disconnect, IsApdu, IsNumber}
use Rattle.knx_model.specs.ConnectionLaws.{Sends}
use Rattle.knx_model.specs.ClientConnection.{ClientEnd, Asked, Up, Asking, Awaiting, Ended as NoConnection, IsClientEnd, awaits_nothing, client_stayed, client_sent, after_send}
use Rattle.knx_model.specs.Plans.{Plan, Asks}
use Rattle.knx_model.specs.GoodPlan.{IsSendable}
use Rattle.transport_conn.proofs.Carried.{frame_read}
use Rattle.transport_conn.proofs.Numbers.{client_numbers}
use Rattle.line_model.specs.Attempts as line
use Rattle.line_model.specs.Attempts.{Attempts, MayPut, MayAsk, IsNext, IsRepeat, IsOver, IsDone, is_asking, is_silent, awaits, sent_of, sends_numbered, put_attempt, first, most_attempts}
use Rattle.download_core.specs.declared.did.Did.TheVariants as did
use Rattle.download_core.specs.declared.outcome.Outcome.{Outcome}
use Rattle.download_core.specs.declared.signs.Signs.{Signs}
use Rattle.download_core.specs.Attempt.{Attempt, Phase, Running, Leaving, first_attempt}
use Rattle.download_core.specs.Steps.{connect, replied, asked, stands_after}
use Rattle.download_core.specs.Fits.{Knows, Leaves, IsFrame, IsReply, IsAck, IsNak, AreReplies, one_octet, plan_of, StandsWith, IsEnd, FitsPhase, earlier}
use Rattle.download_core.proofs.Told.{told}

pub record Goes (device : IndAddr) (plan : Plan) (signs : Signs) (phase : Phase) (now : ℕ) (tpdu : List ℕ) (t : Attempts) (f : TransportFrame) : Type 0 where
  pub may : MayPut t now tpdu f
  pub fits : FitsPhase signs phase (told device plan now (Some f) None None t)

pub is_sent : (a b : List ℕ) → did.Send a ≡ did.Send b → a ≡ b
is_sent a b h = cc h

-- ---- the frames

pub connect_read : frame_in connect ≡ frame.Connect
connect_read = frame_read connect frame.Connect refl

pub disconnect_read : frame_in disconnect ≡ frame.Disconnect
disconnect_read = frame_read disconnect frame.Disconnect refl

pub numbered_read : (n : ℕ) (apdu : List ℕ) → n < 16 → IsApdu apdu → frame_in (numbered_data n apdu) ≡ frame.Numbered n apdu
numbered_read n apdu l a = frame_read (numbered_data n apdu) (frame.Numbered n apdu) (l, a, refl)

-- ---- an attempt begins

knows_first : (device : IndAddr) (plan : Plan) → IsSendable plan → Knows (first_attempt device plan) (first device plan)
knows_first device plan s = record {
  end = refl;
  owed = refl;
  replies = tt;
  flying = refl;
  closing = refl;
  left = λ _. refl;
  stands = λ _. refl;
  sendable = s;
  numbers = tt;
  repeats = tt;
}

pub begins_with : (device : IndAddr) (plan : Plan) (signs : Signs) (now k : ℕ) (tpdu : List ℕ) (t : Attempts) → IsSendable plan → t ≡ line.Resting k → k ≡ earlier signs → k < most_attempts → tpdu ≡ connect
    → Goes device plan signs (Running (first_attempt device plan)) now tpdu t (frame_in tpdu)
begins_with device plan signs now k tpdu t s e n l c =
    subst (λ (u : List ℕ). Goes device plan signs (Running (first_attempt device plan)) now u t (frame_in u)) (sym c)
    (subst (Goes device plan signs (Running (first_attempt device plan)) now connect t) (sym connect_read)
    (subst (λ (u : Attempts). Goes device plan signs (Running (first_attempt device plan)) now connect u frame.Connect) (sym e)
    (record { may = l; fits = (first device plan, ap (λ (j : ℕ). line.Running (suc j) (first device plan)) n, knows_first device plan s) })))

-- ---- what is owed

stayed_end : (e : ClientEnd) (now : ℕ) → IsEnd e → IsEnd (client_stayed e now)
stayed_end (Asked d) now k = tt
stayed_end (Up s) now k = tt
stayed_end (Asking s q) now k = k
stayed_end (Awaiting s) now k = tt
stayed_end NoConnection now k = tt

pub stayed_awaits : (e : ClientEnd) (now : ℕ) → awaits (client_stayed e now) ≡ awaits e
stayed_awaits (Asked d) now = refl
stayed_awaits (Up s) now = refl
stayed_awaits (Asking s q) now = refl
stayed_awaits (Awaiting s) now = refl
stayed_awaits NoConnection now = refl

timed_numbers : (s : Session) (now : ℕ) → HasNumbers s → HasNumbers (at_time s now)
timed_numbers s now k = record { expected = k.expected; number = k.number }

stayed_numbers : (e : ClientEnd) (now : ℕ) → IsClientEnd e → IsClientEnd (client_stayed e now)
stayed_numbers (Asked d) now k = tt
stayed_numbers (Up s) now k = timed_numbers s now k
stayed_numbers (Asking s q) now k = timed_numbers s now k
stayed_numbers (Awaiting s) now k = timed_numbers s now k
stayed_numbers NoConnection now k = tt

knows_replied : (a : Attempt) (x : line.Attempt) (now y : ℕ) (rest : List ℕ) (f : TransportFrame) → IsReply (Some f) → a.owed ≡ y ∷ rest → Knows a x → Knows (replied a now) (record x { end = client_stayed x.end now; owed = drop 1 x.owed; flying = Some f })
knows_replied a x now y rest f r o k = record {
  end = ap (λ (e : ClientEnd). client_stayed e now) k.end;
  owed = ap (drop 1) k.owed ∙ ap (λ (l : List ℕ). drop 1 (map one_octet l)) o ∙ ap (λ (l : List ℕ). map one_octet (drop 1 l)) (sym o);
  replies = subst (λ (l : List ℕ). AreReplies (drop 1 l)) (sym o) (subst AreReplies o k.replies).1;
  flying = r;
  closing = k.closing;
  left = k.left;
  stands = λ e. subst (λ (b : Bool). StandsWith b a.standing) (sym (stayed_awaits a.conn now)) (k.stands e);
  sendable = k.sendable;
  numbers = stayed_numbers a.conn now k.numbers;
  repeats = stayed_end a.conn now k.repeats;
}

owes : (a : Attempt) (x : line.Attempt) (y : ℕ) (rest : List ℕ) → a.owed ≡ y ∷ rest → Knows a x → x.owed ≡ (y ∷ []) ∷ map one_octet rest
owes a x y rest o k = k.owed ∙ ap (map one_octet) o

pub reply_goes : (device : IndAddr) (plan : Plan) (signs : Signs) (a : Attempt) (x : line.Attempt) (now y : ℕ) (rest : List ℕ) (f : TransportFrame) → IsReply (Some f) → a.owed ≡ y ∷ rest → Knows a x
    → Goes device plan signs (Running (replied a now)) now (y ∷ []) (line.Running (suc (earlier signs)) x) f
reply_goes device plan signs a x now y rest frame.Connect (IsAck n e) o k = absurd (cc e)
reply_goes device plan signs a x now y rest frame.Connect (IsNak n e) o k = absurd (cc e)
reply_goes device plan signs a x now y rest frame.Disconnect (IsAck n e) o k = absurd (cc e)
reply_goes device plan signs a x now y rest frame.Disconnect (IsNak n e) o k = absurd (cc e)
reply_goes device plan signs a x now y rest (frame.Numbered m apdu) (IsAck n e) o k = absurd (cc e)
reply_goes device plan signs a x now y rest (frame.Numbered m apdu) (IsNak n e) o k = absurd (cc e)
reply_goes device plan signs a x now y rest frame.Other (IsAck n e) o k = absurd (cc e)
reply_goes device plan signs a x now y rest frame.Other (IsNak n e) o k = absurd (cc e)
reply_goes device plan signs a x now y rest (frame.Ack m) r o k = record {
  may = (map one_octet rest, owes a x y rest o k);
  fits = (record x { end = client_stayed x.end now; owed = drop 1 x.owed; flying = Some (frame.Ack m) }, refl, knows_replied a x now y rest (frame.Ack m) (IsAck m refl) o k);
}
reply_goes device plan signs a x now y rest (frame.Nak m) r o k = record {
  may = (map one_octet rest, owes a x y rest o k);
  fits = (record x { end = client_stayed x.end now; owed = drop 1 x.owed; flying = Some (frame.Nak m) }, refl, knows_replied a x now y rest (frame.Nak m) (IsNak m refl) o k);
}

-- ---- T_Disconnect

leaves_so : (x : line.Attempt) (now : ℕ) → Leaves (put_attempt x now frame.Disconnect)
leaves_so x now = record { end = refl; flying = refl }

pub leaves_by : (device : IndAddr) (plan : Plan) (signs : Signs) (outcome : Outcome) (x : line.Attempt) (now : ℕ) (tpdu : List ℕ) → tpdu ≡ disconnect → line.MayDisconnect x now
    → Goes device plan signs (Leaving outcome) now tpdu (line.Running (suc (earlier signs)) x) (frame_in tpdu)
leaves_by device plan signs outcome x now tpdu c m =
    subst (λ (u : List ℕ). Goes device plan signs (Leaving outcome) now u (line.Running (suc (earlier signs)) x) (frame_in u)) (sym c)
    (subst (Goes device plan signs (Leaving outcome) now disconnect (line.Running (suc (earlier signs)) x)) (sym disconnect_read)
    (record { may = m; fits = (put_attempt x now frame.Disconnect, refl, leaves_so x now) }))

pub not_asking : (conn : ClientEnd) → awaits_nothing conn ≡ true → is_asking conn ≡ false
not_asking (Asked d) h = refl
not_asking (Up s) h = refl
not_asking (Asking s q) h = absurd (cc h)
not_asking (Awaiting s) h = refl
not_asking NoConnection h = refl

pub over_by : (a : Attempt) (x : line.Attempt) → Knows a x → a.owed ≡ [] → awaits_nothing a.conn ≡ true → (x.closing ≡ true) ⊎ IsDone x → IsOver x
over_by a x k o u w = record { acknowledged = ap is_asking k.end ∙ not_asking a.conn u; owes_nothing = k.owed ∙ ap (map one_octet) o; which = w }

-- ---- an operation

up_frame : (s : Session) (apdu : List ℕ) (now : ℕ) → IsFrame (after_send (Up s) apdu now) (Some (frame.Numbered s.number apdu))
unfolding after_send
up_frame s apdu now = (s.number, apdu, refl)

pub up_sent : (s : Session) (apdu : List ℕ) → client_sent (Up s) apdu ≡ Some (numbered_data s.number apdu)
unfolding client_sent
up_sent s apdu = refl

up_end : (s : Session) (apdu : List ℕ) (now : ℕ) → IsNumber s.number → IsApdu apdu → IsEnd (after_send (Up s) apdu now)
unfolding after_send
up_end s apdu now l a = (s.number, apdu, numbered_read s.number apdu l a)

up_stands : (s : Session) (place : ℕ) (apdu : List ℕ) (expect : Expect) (next : Option (List ℕ) → Plan) (now : ℕ) → IsSendable (Asks place apdu expect next) → StandsWith (awaits (after_send (Up s) apdu now)) (stands_after (Asks place apdu expect next))
unfolding after_send
up_stands s place apdu AckOnly next now k = sym k.1
up_stands s place apdu (Is wanted) next now k = (sym k.1, tt)
up_stands s place apdu Note next now k = (sym k.1, tt)

sent_stands : (place : ℕ) (apdu : List ℕ) (expect : Expect) (next : Option (List ℕ) → Plan) → sent_of (Asks place apdu expect next) ≡ plan_of (stands_after (Asks place apdu expect next))
sent_stands place apdu AckOnly next = refl
sent_stands place apdu (Is wanted) next = refl
sent_stands place apdu Note next = refl

stands_sendable : (place : ℕ) (apdu : List ℕ) (expect : Expect) (next : Option (List ℕ) → Plan) → IsSendable (Asks place apdu expect next) → IsSendable (plan_of (stands_after (Asks place apdu expect next)))
stands_sendable place apdu AckOnly next k = k.2 None
stands_sendable place apdu (Is wanted) next k = k
stands_sendable place apdu Note next k = k

knows_asked : (a : Attempt) (x : line.Attempt) (s : Session) (place : ℕ) (apdu : List ℕ) (expect : Expect) (next : Option (List ℕ) → Plan) (now : ℕ) → a.conn ≡ Up s → plan_of a.standing ≡ Asks place apdu expect next → a.wrong ≡ None → Knows a x
    → Knows (asked a (Asks place apdu expect next) apdu now) (record x { end = after_send x.end apdu now; left = sent_of x.left; flying = Some (frame.Numbered s.number apdu) })
knows_asked a x s place apdu expect next now c p w k =
    let can : IsSendable (Asks place apdu expect next) = subst IsSendable p k.sendable in
    let fits : IsNumber s.number = (subst IsClientEnd c k.numbers).number in
    record {
      end = ap (λ (e : ClientEnd). after_send e apdu now) k.end;
      owed = k.owed;
      replies = k.replies;
      flying = subst (λ (e : ClientEnd). IsFrame (after_send e apdu now) (Some (frame.Numbered s.number apdu))) (sym c) (up_frame s apdu now);
      closing = k.closing;
      left = λ _. ap sent_of (k.left w ∙ p) ∙ sent_stands place apdu expect next;
      stands = λ _. subst (λ (e : ClientEnd). StandsWith (awaits (after_send e apdu now)) (stands_after (Asks place apdu expect next))) (sym c) (up_stands s place apdu expect next now can);
      sendable = stands_sendable place apdu expect next can;
      numbers = client_numbers a.conn (Sends apdu now) k.numbers;
      repeats = subst (λ (e : ClientEnd). IsEnd (after_send e apdu now)) (sym c) (up_end s apdu now fits can.0);
    }

put_asked : (x : line.Attempt) (apdu g : List ℕ) (n now : ℕ) → client_sent x.end apdu ≡ Some g → put_attempt x now (frame.Numbered n apdu) ≡ record x { end = after_send x.end apdu now; left = sent_of x.left; flying = Some (frame.Numbered n apdu) }
put_asked x apdu g n now e = ap (λ (o : Option (List ℕ)). record (sends_numbered x apdu now o) { flying = Some (frame.Numbered n apdu) }) e

pub ask_goes : (device : IndAddr) (plan : Plan) (signs : Signs) (a : Attempt) (x : line.Attempt) (s : Session) (place : ℕ) (apdu : List ℕ) (expect : Expect) (next : Option (List ℕ) → Plan) (now : ℕ) (tpdu : List ℕ)
    → a.conn ≡ Up s → plan_of a.standing ≡ Asks place apdu expect next → a.wrong ≡ None → a.owed ≡ [] → Knows a x → tpdu ≡ numbered_data s.number apdu
    → Goes device plan signs (Running (asked a (Asks place apdu expect next) apdu now)) now tpdu (line.Running (suc (earlier signs)) x) (frame_in tpdu)
ask_goes device plan signs a x s place apdu expect next now tpdu c p w o k d =
    let can : IsSendable (Asks place apdu expect next) = subst IsSendable p k.sendable in
    let fits : IsNumber s.number = (subst IsClientEnd c k.numbers).number in
    let same : client_sent x.end apdu ≡ Some (numbered_data s.number apdu) = ap (λ (e : ClientEnd). client_sent e apdu) (k.end ∙ c) ∙ up_sent s apdu in
    subst (λ (u : List ℕ). Goes device plan signs (Running (asked a (Asks place apdu expect next) apdu now)) now u (line.Running (suc (earlier signs)) x) (frame_in u)) (sym d)
    (subst (Goes device plan signs (Running (asked a (Asks place apdu expect next) apdu now)) now (numbered_data s.number apdu) (line.Running (suc (earlier signs)) x)) (sym (numbered_read s.number apdu fits can.0))
    (record {
      may = record {
        owes_nothing = k.owed ∙ ap (map one_octet) o;
        which = inl (record { session = s; up = k.end ∙ c; goes_on = k.closing ∙ ap is_some w; place = place; expect = expect; next = next; head = k.left w ∙ p; as_sent = same });
      };
      fits = (
        put_attempt x now (frame.Numbered s.number apdu),
        refl,
        subst (Knows (asked a (Asks place apdu expect next) apdu now)) (sym (put_asked x apdu (numbered_data s.number apdu) s.number now same)) (knows_asked a x s place apdu expect next now c p w k),
      );
    }))
