-- An attempt that runs sends exactly where it has something to send in the line's view, and else it waits.
use Rattle.std.proofs.Common.{◌≡◌, inl, inr, ℕ, Bool, true, false, is_some, List, [], ◌∷◌, map, Option, Some, None, refl, ap, sym, subst, ◌∙◌, if◌then◌else◌}
use Rattle.knx_model.specs.declared.connection.TransportFrame.{TransportFrame}
use Rattle.knx_model.specs.declared.connection.ClientExpired.{ClientExpired}
use Rattle.knx_model.specs.declared.connection.ClientExpired.TheVariants as due
use Rattle.knx_model.specs.declared.plan.Expect.{Expect}
use Rattle.knx_model.specs.Connection.{Session, numbered_data}
use Rattle.knx_model.specs.ClientConnection.{ClientEnd, Asked, Up, Asking, Awaiting, Ended as NoConnection, awaits_nothing, client_sent, client_expired}
use Rattle.knx_model.specs.Plans.{Plan, Over, Asks}
use Rattle.line_model.specs.Attempts as line
use Rattle.line_model.specs.Attempts.{MayAsk, IsNext, MayDisconnect, IsOver, IsDone, Owes, is_asking, is_silent, awaits}
use Rattle.line_model.specs.Moments.{Moment, Course, Unconfirmed, WithError, InSession, Left}
use Rattle.line_model.specs.Waiting.{HasToSend, ToAcknowledge, ToAsk, ToDisconnect}
use Rattle.download_core.specs.declared.did.Did.{Did}
use Rattle.download_core.specs.declared.did.Did.TheVariants as did
use Rattle.download_core.specs.declared.flight.Flight.{Flight}
use Rattle.download_core.specs.declared.flight.Flight.TheVariants.{Nothing, Frame, Reply}
use Rattle.download_core.specs.declared.outcome.Refusal.{Refusal}
use Rattle.download_core.specs.Attempt.{Standing, Next, AnswerOf, Attempt}
use Rattle.download_core.specs.Steps.{attempt_did, timed_did, paid_did, free_did, standing_did, due_did, sends, is_send}
use Rattle.download_core.specs.Fits.{Knows, IsFlight, IsFrame, IsReply, IsAck, IsNak, StandsWith, plan_of, one_octet}
use Rattle.download_core.specs.InSession.{ConnFits, SessionFits}
use Rattle.download_core.specs.Record.{RunFits}
use Rattle.download_core.proofs.Goes.{over_by, up_sent}
use Rattle.download_core.proofs.Comes.{isnt_awaited}
use Rattle.download_core.proofs.Fares.{begun_frame, nothing_frame}
use Rattle.download_core.proofs.Sent.{up_of}

abbrev pub Has : line.Attempt → ℕ → Type 0
Has x now = (x.flying ≡ None) × HasToSend x now

-- it sends, and has to; or it waits, and has nothing to send
pub data Steps (x : line.Attempt) (now : ℕ) (d : Did) : Type 0 where
  Sends : is_send d ≡ true → Has x now → Steps x now d
  Waits : d ≡ did.Wait → (Has x now → ⊥) → Steps x now d

-- ---- something is in flight

frame_flies : (conn : ClientEnd) (flying : Option TransportFrame) → IsFrame conn flying → flying ≡ None → ⊥
frame_flies (Asked to) flying f e = cc (sym f ∙ e)
frame_flies (Up s) flying f e = cc (sym f.2 ∙ e)
frame_flies (Asking s q) flying f e = cc (sym f.2 ∙ e)
frame_flies (Awaiting s) flying f e = cc (sym f.2 ∙ e)
frame_flies NoConnection flying f e = cc (sym f.2 ∙ e)

reply_flies : (flying : Option TransportFrame) → IsReply flying → flying ≡ None → ⊥
reply_flies flying (IsAck n f) e = cc (sym f ∙ e)
reply_flies flying (IsNak n f) e = cc (sym f ∙ e)

pub flies_not : (flight : Flight) (conn : ClientEnd) (flying : Option TransportFrame) → (flight ≡ Nothing → ⊥) → IsFlight flight conn flying → flying ≡ None → ⊥
flies_not Nothing conn flying n f e = n refl
flies_not Frame conn flying n f e = frame_flies conn flying f e
flies_not Reply conn flying n f e = reply_flies flying f e

-- ---- what is owed

owes_first : (a : Attempt) (x : line.Attempt) (now y : ℕ) (rest : List ℕ) → a.owed ≡ y ∷ rest → Knows a x → HasToSend x now
owes_first a x now y rest o k = ToAcknowledge (y ∷ []) (map one_octet rest, k.owed ∙ ap (map one_octet) o)

owes_none : (a : Attempt) (x : line.Attempt) → a.owed ≡ [] → Knows a x → x.owed ≡ []
owes_none a x o k = k.owed ∙ ap (map one_octet) o

-- ---- nothing is awaited

asks_next : (a : Attempt) (x : line.Attempt) (s : Session) (place : ℕ) (apdu : List ℕ) (expect : Expect) (next : Option (List ℕ) → Plan) (now : ℕ) → a.conn ≡ Up s → a.wrong ≡ None → a.standing ≡ Next (Asks place apdu expect next) → a.owed ≡ [] → Knows a x
    → HasToSend x now
asks_next a x s place apdu expect next now c w st o k = ToAsk apdu (numbered_data s.number apdu) (record {
  owes_nothing = owes_none a x o k;
  which = inl (record {
    session = s;
    up = k.end ∙ c;
    goes_on = k.closing ∙ ap is_some w;
    place = place;
    expect = expect;
    next = next;
    head = k.left w ∙ ap plan_of st;
    as_sent = ap (λ (e : ClientEnd). client_sent e apdu) (k.end ∙ c) ∙ up_sent s apdu;
  });
})

up_sends : (conn : ClientEnd) (s : Session) (apdu : List ℕ) → conn ≡ Up s → is_send (sends (client_sent conn apdu)) ≡ true
unfolding client_sent
up_sends conn s apdu c = ap (λ (e : ClientEnd). is_send (sends (client_sent e apdu))) c

standing_steps : (a : Attempt) (x : line.Attempt) (st : Standing) (now : ℕ) → awaits_nothing a.conn ≡ true → a.wrong ≡ None → a.standing ≡ st → StandsWith false st → a.owed ≡ [] → x.flying ≡ None → Knows a x → Steps x now (standing_did a.conn st)
standing_steps a x (Next Over) now u w st s o f k =
    let up = up_of a.conn u in Sends refl (f, ToDisconnect (inl (over_by a x k o u (inr (record { session = up.0; up = k.end ∙ up.1; all = k.left w ∙ ap plan_of st })))))
standing_steps a x (Next (Asks place apdu expect next)) now u w st s o f k = let up = up_of a.conn u in Sends (up_sends a.conn up.0 apdu up.1) (f, asks_next a x up.0 place apdu expect next now up.1 w st o k)
standing_steps a x (AnswerOf left) now u w st s o f k = absurd (cc s.0)

free_steps : (a : Attempt) (x : line.Attempt) (w : Option Refusal) (now : ℕ) → awaits_nothing a.conn ≡ true → a.wrong ≡ w → a.owed ≡ [] → x.flying ≡ None → Knows a x → Steps x now (free_did a w)
free_steps a x None now u w o f k = standing_steps a x a.standing now u w refl (subst (λ (b : Bool). StandsWith b a.standing) (isnt_awaited a.conn u) (k.stands w)) o f k
free_steps a x (Some r) now u w o f k = Sends refl (f, ToDisconnect (inl (over_by a x k o u (inl (k.closing ∙ ap is_some w)))))

-- ---- something is awaited

not_up : (conn : ClientEnd) (s : Session) → awaits_nothing conn ≡ false → conn ≡ Up s → ⊥
not_up conn s u e = cc (sym (ap awaits_nothing e) ∙ u)

-- in a session it is a T_ACK or an answer, and where an answer was wrong it is a T_ACK
wrong_asking : (device : ℕ) (plan : Plan) (a : Attempt) (conn : ClientEnd) (l : List Moment) → a.conn ≡ conn → awaits_nothing conn ≡ false → is_asking conn ≡ false → SessionFits device plan a l → is_some a.wrong ≡ true → ⊥
wrong_asking device plan a (Asked to) l c u n f w = absurd (subst (λ (e : ClientEnd). ConnFits device e a.flight a.sent l) c f.conn)
wrong_asking device plan a (Up s) l c u n f w = cc u
wrong_asking device plan a (Asking s q) l c u n f w = cc n
wrong_asking device plan a (Awaiting s) l c u n f w = cc (sym w ∙ ap is_some (f.right (ap awaits c)))
wrong_asking device plan a NoConnection l c u n f w = absurd (subst (λ (e : ClientEnd). ConnFits device e a.flight a.sent l) c f.conn)

over_not : (device : ℕ) (plan : Plan) (a : Attempt) (x : line.Attempt) (l : List Moment) → awaits_nothing a.conn ≡ false → SessionFits device plan a l → Knows a x → IsOver x → ⊥
over_not device plan a x l u f k h = elim (h.which) [
  | inl c ↦ wrong_asking device plan a a.conn l refl u (sym (ap is_asking k.end) ∙ h.acknowledged) f (sym k.closing ∙ c)
  | inr d ↦ not_up a.conn d.session u (sym k.end ∙ d.up)
]

expired_is : (a : Attempt) (x : line.Attempt) (d : ClientExpired) (now : ℕ) → client_expired a.conn now ≡ d → Knows a x → client_expired x.end now ≡ d
expired_is a x d now e k = ap (λ (c : ClientEnd). client_expired c now) k.end ∙ e

nothing_to : (device : ℕ) (plan : Plan) (a : Attempt) (x : line.Attempt) (now : ℕ) (l : List Moment) → awaits_nothing a.conn ≡ false → client_expired a.conn now ≡ due.Nothing → a.owed ≡ [] → SessionFits device plan a l → Knows a x → HasToSend x now → ⊥
nothing_to device plan a x now l u e o f k (ToAcknowledge tpdu h) = cc (sym h.1 ∙ owes_none a x o k)
nothing_to device plan a x now l u e o f k (ToAsk apdu tpdu h) = elim (h.which) [
  | inl n ↦ not_up a.conn n.session u (sym k.end ∙ n.up)
  | inr r ↦ cc (sym (expired_is a x due.Nothing now e k) ∙ r)
]
nothing_to device plan a x now l u e o f k (ToDisconnect h) = elim h [
  | inl v ↦ over_not device plan a x l u f k v
  | inr s ↦ cc (sym (ap is_silent (expired_is a x due.Nothing now e k)) ∙ s)
]

due_steps : (device : ℕ) (plan : Plan) (a : Attempt) (x : line.Attempt) (d : ClientExpired) (now : ℕ) (l : List Moment) → (is_silent d ≡ false) → awaits_nothing a.conn ≡ false → client_expired a.conn now ≡ d → a.owed ≡ [] → x.flying ≡ None → SessionFits device plan a l → Knows a x
    → Steps x now (due_did d)
due_steps device plan a x due.Nothing now l i u e o v f k = Waits refl (λ h. nothing_to device plan a x now l u e o f k h.1)
due_steps device plan a x (due.Repeat g) now l i u e o v f k = Sends refl (v, ToAsk [] g (record { owes_nothing = owes_none a x o k; which = inr (expired_is a x (due.Repeat g) now e k) }))
due_steps device plan a x (due.Silent ms) now l i u e o v f k = absurd (cc i)

test_steps : (device : ℕ) (plan : Plan) (a : Attempt) (x : line.Attempt) (u : Bool) (d : ClientExpired) (now : ℕ) (l : List Moment) → (is_silent d ≡ false) → awaits_nothing a.conn ≡ u → client_expired a.conn now ≡ d → a.owed ≡ [] → x.flying ≡ None → SessionFits device plan a l → Knows a x
    → Steps x now (if u then free_did a a.wrong else due_did d)
test_steps device plan a x true d now l i u e o v f k = free_steps a x a.wrong now u refl o v k
test_steps device plan a x false d now l i u e o v f k = due_steps device plan a x d now l i u e o v f k

paid_steps : (device : ℕ) (plan : Plan) (a : Attempt) (x : line.Attempt) (owed : List ℕ) (d : ClientExpired) (now : ℕ) (l : List Moment) → (is_silent d ≡ false) → a.owed ≡ owed → client_expired a.conn now ≡ d → x.flying ≡ None → SessionFits device plan a l → Knows a x
    → Steps x now (paid_did a owed d)
paid_steps device plan a x [] d now l i o e v f k = test_steps device plan a x (awaits_nothing a.conn) d now l i refl e o v f k
paid_steps device plan a x (y ∷ rest) d now l i o e v f k = Sends refl (v, owes_first a x now y rest o k)

timed_steps : (device : ℕ) (plan : Plan) (a : Attempt) (x : line.Attempt) (d : ClientExpired) (now : ℕ) (l : List Moment) → client_expired a.conn now ≡ d → x.flying ≡ None → SessionFits device plan a l → Knows a x → Steps x now (timed_did a d)
timed_steps device plan a x due.Nothing now l e v f k = paid_steps device plan a x a.owed due.Nothing now l refl refl e v f k
timed_steps device plan a x (due.Repeat g) now l e v f k = paid_steps device plan a x a.owed (due.Repeat g) now l refl refl e v f k
timed_steps device plan a x (due.Silent ms) now l e v f k = Sends refl (v, ToDisconnect (inr (ap is_silent (expired_is a x (due.Silent ms) now e k))))

-- ---- whatever is in flight

run_steps : (device : ℕ) (plan : Plan) (a : Attempt) (x : line.Attempt) (flight : Flight) (now : ℕ) (c : Course) → a.flight ≡ flight → RunFits device plan a c → Knows a x → Steps x now (attempt_did a flight now)
run_steps device plan a x Frame now c g f k = Waits refl (λ h. flies_not Frame a.conn x.flying (λ e. cc e) (subst (λ (j : Flight). IsFlight j a.conn x.flying) g k.flying) h.0)
run_steps device plan a x Reply now c g f k = Waits refl (λ h. flies_not Reply a.conn x.flying (λ e. cc e) (subst (λ (j : Flight). IsFlight j a.conn x.flying) g k.flying) h.0)
run_steps device plan a x Nothing now Unconfirmed g f k = absurd (begun_frame plan a Nothing f g nothing_frame)
run_steps device plan a x Nothing now WithError g f k = absurd f
run_steps device plan a x Nothing now (InSession l) g f k = timed_steps device plan a x (client_expired a.conn now) now l refl (subst (λ (j : Flight). IsFlight j a.conn x.flying) g k.flying) f k
run_steps device plan a x Nothing now (Left l) g f k = absurd f

pub running_steps : (device : ℕ) (plan : Plan) (a : Attempt) (x : line.Attempt) (now : ℕ) (c : Course) → RunFits device plan a c → Knows a x → Steps x now (attempt_did a a.flight now)
running_steps device plan a x now c f k = run_steps device plan a x a.flight now c refl f k
