-- What an attempt may put is what the session's client puts.
use Rattle.std.proofs.Common.{◌≡◌, ℕ, suc, List, [], ◌∷◌, drop, Bool, true, false, ◌||◌, Option, Some, None, refl, sym, ◌∙◌, ap, subst, inl, inr, if◌then◌else◌}
use Rattle.knx_model.specs.declared.address.IndAddr.{IndAddr}
use Rattle.knx_model.specs.declared.connection.ClientExpired.{ClientExpired}
use Rattle.knx_model.specs.declared.connection.ClientExpired.TheVariants as over
use Rattle.knx_model.specs.declared.connection.TransportFrame.{TransportFrame}
use Rattle.knx_model.specs.declared.connection.TransportFrame.TheVariants.{Connect, Disconnect, Ack, Nak, Numbered, Other}
use Rattle.knx_model.specs.declared.frames.cemi.Ldata.{Ldata}
use Rattle.knx_model.specs.declared.frames.tpdu.Tpdu.TheVariants as tpdu
use Rattle.knx_model.specs.declared.plan.Expect.{Expect}
use Rattle.knx_model.specs.declared.plan.Expect.TheVariants.{AckOnly, Is, Note}
use Rattle.knx_model.specs.Apdu.{Written}
use Rattle.knx_model.specs.ClientConnection.{ClientEnd, Asked, Up, Asking, Awaiting, Ended, Question, awaits_nothing, client_sent, after_send, client_asked, client_stayed, client_expired, after_overdue, client_repeated, has_answer}
use Rattle.knx_model.specs.Connection.{Session, IsApdu, control_frame, frame_in, disconnect}
use Rattle.knx_model.specs.GoodPlan.{IsSendable, awaits_answer}
use Rattle.knx_model.specs.Plans.{Plan, Asks as Operation}
use Rattle.line_model.specs.Attempts.{Attempt, Attempts, Resting, Running, first, sent_of, sends_numbered, put_so, is_silent, attempts_after, MayPut, MayAsk as MayAskSo, IsNext, Owes}
use Rattle.line_model.specs.ClientView as view
use Rattle.line_model.specs.Reading.{ldata_in, is_req}
use Rattle.session_law.specs.World.{World as SessionWorld}
use Rattle.session_law.specs.Client.{asks_so, waits_so, replies_so}
use Rattle.session_law.specs.Events.{Connects, Asks, Waits, Replies, Leaves, step}
use Rattle.load_law.specs.Download.{Went, Acknowledged}
use Rattle.load_law.proofs.Walked.{sendable}
use Rattle.line_law.proofs.Queue.{is_its}
use Rattle.line_law.proofs.Attempting.{NotConnect, IsService, FlyFits, Stands, InPlan, IsWith, Runs, AttemptIs}
use Rattle.line_law.proofs.Hearing.{stayed_with, stayed_stands}
use Rattle.line_law.proofs.Courses.{NotService}
use Rattle.line_law.proofs.Requests.{connect_octets, disconnect_octets, put_step, PutsGoes, fly_is, not_flying}

module _ (a : ℕ) (address : IndAddr) (IsJob : Plan → Type 0) (device : IndAddr) (plan : Plan) (job : IsJob plan) (can : IsSendable plan) (f : Ldata) (now : ℕ) (s : SessionWorld) (raw : device.raw ≡ a) (same_me : s.me ≡ address) (same_now : s.now ≡ now)
    (named : s.device.address.raw ≡ a) (group : f.group ≡ false) (to : f.destination ≡ a) (its : is_its a f ≡ true) (free : s.client.pending ≡ false) (joined : s.client.joined ≡ true) where
  abbrev Put : Attempts → Type 0
  Put t = PutsGoes a address IsJob device plan f s t

  -- a T_Connect
  connects : (k : ℕ) → frame_in f.tpdu ≡ Connect → Put (Running k (first device plan))
  connects k e =
      let same : device ≡ s.device.address = ap (λ z. (let x : IndAddr = record { raw = z } in x)) (raw ∙ sym named) in
      record {
        event = Connects;
        after = step s Connects;
        is = refl;
        may = (free, joined);
        asks = tt;
        quiet = λ q. tt;
        by = record { device = refl; same_me = refl; same_now = refl; echo = refl; coming = refl; joined = refl; flying = λ q. fly_is a address f s (Written tpdu.Connect) same_me named group to (connect_octets f.tpdu e); pending = λ q. inr its };
        attempt = record { end_is = ap (λ z. Asked z) same; owed_is = refl; flies = refl; fits = refl; with_it = raw; joined = joined; stands = λ q. refl };
      }

  -- in an attempt that runs
  module _ (k : ℕ) (t : Attempt) (h : Runs a plan t s.client) where
    none : t.flying ≡ None
    none = not_flying t.flying s.client.pending h.flies free

    leaves : frame_in f.tpdu ≡ Disconnect → Put (Running k (record t { end = Ended; owed = []; closing = true; flying = Some Disconnect }))
    leaves e =
        record {
          event = Leaves;
          after = step s Leaves;
          is = refl;
          may = (free, joined);
          asks = tt;
          quiet = λ q. tt;
          by = record { device = refl; same_me = refl; same_now = refl; echo = refl; coming = refl; joined = refl; flying = λ q. fly_is a address f s disconnect same_me named group to (disconnect_octets f.tpdu e); pending = λ q. inr its };
          attempt = record { end_is = refl; owed_is = refl; flies = refl; fits = tt; with_it = tt; joined = joined; stands = λ q. absurd (cc) };
        }

    replies : (x : TransportFrame) → NotConnect (Some x) → Owes f.tpdu t → Put (Running k (record t { end = client_stayed t.end now; owed = drop 1 t.owed; flying = Some x }))
    replies x plain owes =
        let rest : List (List ℕ) = owes.0 in
        let owed : s.client.owed ≡ f.tpdu ∷ rest = sym h.owed_is ∙ owes.1 in
        record {
          event = Replies;
          after = replies_so s (f.tpdu ∷ rest);
          is = ap (replies_so s) owed;
          may = free;
          asks = tt;
          quiet = λ q. tt;
          by = record { device = refl; same_me = refl; same_now = refl; echo = refl; coming = refl; joined = refl; flying = λ q. fly_is a address f s f.tpdu same_me named group to refl; pending = λ q. inr its };
          attempt = record {
            end_is = ap (λ z. client_stayed z now) h.end_is ∙ ap (client_stayed s.client.end) (sym same_now);
            owed_is = ap (drop 1) owes.1;
            flies = refl;
            fits = reply_fits t.end h.fits;
            with_it = stayed_with a t.end now h.with_it;
            joined = joined;
            stands = λ q. stayed_stands t.end now plan t.left s.client.sent s.client.accepted (h.stands q);
          };
        }
      where
        reply_fits : (end : ClientEnd) → FlyFits end t.flying → FlyFits (client_stayed end now) (Some x)
        reply_fits (Asked d) y = absurd (let z : None ≡ Some Connect = sym none ∙ y in cc)
        reply_fits (Up p) y = plain
        reply_fits (Asking p q) y = (plain, λ e. absurd (subst IsService none (y.1 e)))
        reply_fits (Awaiting p) y = plain
        reply_fits Ended y = plain

    -- the plan's next operation
    asked_stands : (place : ℕ) (apdu : List ℕ) (expect : Expect) (next : Option (List ℕ) → Plan) (sent accepted : List (List ℕ)) → awaits_answer expect ≡ has_answer apdu → Went plan sent accepted (Operation place apdu expect next) → Stands (has_answer apdu) plan (sent_of (Operation place apdu expect next)) (apdu ∷ sent) accepted
    asked_stands place apdu AckOnly next sent accepted e w = subst (λ b. Stands b plan (next None) (apdu ∷ sent) accepted) e (Acknowledged place apdu next sent accepted w)
    asked_stands place apdu (Is wanted) next sent accepted e w =
        subst (λ b. Stands b plan (Operation place apdu (Is wanted) next) (apdu ∷ sent) accepted) e (record { apdu = apdu; older = sent; place = place; expect = Is wanted; next = next; last = refl; head = refl; went = w })
    asked_stands place apdu Note next sent accepted e w = subst (λ b. Stands b plan (Operation place apdu Note next) (apdu ∷ sent) accepted) e (record { apdu = apdu; older = sent; place = place; expect = Note; next = next; last = refl; head = refl; went = w })

    after_up : (end : ClientEnd) (session : Session) (apdu : List ℕ) (t : ℕ) → end ≡ Up session → after_send end apdu t ≡ client_asked session apdu t
    unfolding after_send
    after_up end session apdu t e = ap (λ z. after_send z apdu t) e

    abbrev asked_attempt : ℕ → List ℕ → Option (List ℕ) → Attempt
    asked_attempt n apdu o = record (sends_numbered t apdu now o) { flying = Some (Numbered n apdu) }

    asks : (n : ℕ) (apdu : List ℕ) → frame_in f.tpdu ≡ Numbered n apdu → IsNext t apdu f.tpdu → Put (Running k (asked_attempt n apdu (client_sent t.end apdu)))
    asks n apdu read q =
        let stands : InPlan t.end plan t.left s.client.sent s.client.accepted = h.stands q.goes_on in
        let went : Went plan s.client.sent s.client.accepted (Operation q.place apdu q.expect q.next)
        = subst (Went plan s.client.sent s.client.accepted) q.head (subst (λ z. InPlan z plan t.left s.client.sent s.client.accepted) q.up stands) in
        let ok = sendable plan (Operation q.place apdu q.expect q.next) s.client.sent s.client.accepted can went in
        let up : s.client.end ≡ Up q.session = sym h.end_is ∙ q.up in
        let sent : client_sent s.client.end apdu ≡ Some f.tpdu = ap (λ z. client_sent z apdu) (sym h.end_is) ∙ q.as_sent in
        let P : Option (List ℕ) → Type 0 = λ o. Put (Running k (asked_attempt n apdu o)) in
        subst P (sym q.as_sent) (record {
          event = Asks apdu;
          after = asks_so s apdu (Some f.tpdu);
          is = ap (asks_so s apdu) sent;
          may = (free, ok.0);
          asks = (plan, job, record { free = ap awaits_nothing up; place = q.place; expect = q.expect; next = q.next; went = went });
          quiet = λ z. absurd (subst (λ y. NotService (Some y)) read z);
          by = record { device = refl; same_me = refl; same_now = refl; echo = refl; coming = refl; joined = refl; flying = λ z. fly_is a address f s f.tpdu same_me named group to refl; pending = λ z. inr its };
          attempt = record {
            end_is = ap (λ z. after_send z apdu now) h.end_is ∙ ap (after_send s.client.end apdu) (sym same_now);
            owed_is = h.owed_is;
            flies = refl;
            fits = subst (λ z. FlyFits z (Some (Numbered n apdu))) (sym (after_up t.end q.session apdu now q.up)) (tt, λ z. tt);
            with_it = subst (IsWith a) (sym (after_up t.end q.session apdu now q.up)) (subst (IsWith a) q.up h.with_it);
            joined = joined;
            stands = λ z. subst (λ y. InPlan y plan (sent_of t.left) (apdu ∷ s.client.sent) s.client.accepted) (sym (after_up t.end q.session apdu now q.up))
                (subst (λ y. Stands (has_answer apdu) plan (sent_of y) (apdu ∷ s.client.sent) s.client.accepted) (sym q.head) (asked_stands q.place apdu q.expect q.next s.client.sent s.client.accepted ok.1 went));
          };
        })

    -- the outstanding operation again
    repeats_so : (end : ClientEnd) (apdu : List ℕ) (x : ClientExpired) → t.end ≡ end → client_expired end now ≡ x → (p : Session) × (q : Question) × (end ≡ Asking p q) → (n : ℕ) → x ≡ over.Repeat f.tpdu → Put (Running k (asked_attempt n apdu (client_sent t.end apdu)))
    unfolding client_sent after_overdue
    repeats_so end apdu x e i (p, q, is) n r =
        let at : t.end ≡ Asking p q = e ∙ is in
        let mine : s.client.end ≡ Asking p q = sym h.end_is ∙ at in
        let due : client_expired s.client.end s.now ≡ over.Repeat f.tpdu = ap (λ z. client_expired z s.now) (sym h.end_is ∙ e) ∙ ap (client_expired end) same_now ∙ i ∙ r in
        let unsent : client_sent t.end apdu ≡ None = ap (λ z. client_sent z apdu) at in
        let P : Option (List ℕ) → Type 0 = λ o. Put (Running k (asked_attempt n apdu o)) in
        subst P (sym unsent) (record {
          event = Waits;
          after = waits_so s (over.Repeat f.tpdu);
          is = ap (waits_so s) due;
          may = free;
          asks = tt;
          quiet = λ q. tt;
          by = record { device = refl; same_me = refl; same_now = refl; echo = refl; coming = refl; joined = refl; flying = λ z. fly_is a address f s f.tpdu same_me named group to refl; pending = λ z. inr its };
          attempt = record {
            end_is = ap (λ z. client_repeated z now) h.end_is ∙ ap (client_repeated s.client.end) (sym same_now);
            owed_is = h.owed_is;
            flies = refl;
            fits = subst (λ z. FlyFits (client_repeated z now) (Some (Numbered n apdu))) (sym at) (tt, λ z. tt);
            with_it = subst (λ z. IsWith a (client_repeated z now)) (sym at) (subst (IsWith a) at h.with_it);
            joined = joined;
            stands = λ z. subst (λ y. InPlan (client_repeated y now) plan t.left s.client.sent s.client.accepted) (sym at) (subst (λ y. InPlan y plan t.left s.client.sent s.client.accepted) at (h.stands z));
          };
        })

    repeat_asking : (end : ClientEnd) → client_expired end now ≡ over.Repeat f.tpdu → (p : Session) × (q : Question) × (end ≡ Asking p q)
    unfolding client_expired
    repeat_asking (Asked d) e = absurd (let z : over.Nothing ≡ over.Repeat f.tpdu = e in cc)
    repeat_asking (Up p) e = absurd (let z : over.Nothing ≡ over.Repeat f.tpdu = e in cc)
    repeat_asking (Asking p q) e = (p, q, refl)
    repeat_asking (Awaiting p) e = absurd (by_wait _ e) where
      by_wait : (b : Bool) → (if b then over.Silent Rattle.knx_model.specs.Connection.idle_wait else over.Nothing) ≡ over.Repeat f.tpdu → ⊥
      by_wait true q = cc
      by_wait false q = cc
    repeat_asking Ended e = absurd (let z : over.Nothing ≡ over.Repeat f.tpdu = e in cc)

    numbered : (n : ℕ) (apdu : List ℕ) → frame_in f.tpdu ≡ Numbered n apdu → MayAskSo t now apdu f.tpdu → Put (Running k (asked_attempt n apdu (client_sent t.end apdu)))
    numbered n apdu read q = elim q.which [ inl next ↦ asks n apdu read next | inr again ↦ repeats_so t.end apdu (client_expired t.end now) refl refl (repeat_asking t.end again) n again ]

  -- ---- whichever it is

  put_running : (x : TransportFrame) (k : ℕ) (t : Attempt) → frame_in f.tpdu ≡ x → Runs a plan t s.client → MayPut (Running k t) now f.tpdu x
      → Put (put_so device plan now (Running k t) (Some x))
  put_running Connect k t e h may = absurd may
  put_running Disconnect k t e h may = leaves k t h e
  put_running (Ack n) k t e h may = replies k t h (Ack n) tt may
  put_running (Nak n) k t e h may = replies k t h (Nak n) tt may
  put_running (Numbered n apdu) k t e h may =
      numbered k t h n apdu e
      (record { owes_nothing = may.owes_nothing; which = elim may.which [ inl q ↦ inl (record { session = q.session; up = q.up; goes_on = q.goes_on; place = q.place; expect = q.expect; next = q.next; head = q.head; as_sent = q.as_sent }) | inr q ↦ inr q ] })
  put_running Other k t e h may = absurd may

  put_goes : (x : TransportFrame) (t : Attempts) → frame_in f.tpdu ≡ x → AttemptIs a plan t s.client → MayPut t now f.tpdu x → Put (put_so device plan now t (Some x))
  put_goes Connect (Resting k) e h may = connects (suc k) e
  put_goes Disconnect (Resting k) e h may = absurd may
  put_goes (Ack n) (Resting k) e h may = absurd may
  put_goes (Nak n) (Resting k) e h may = absurd may
  put_goes (Numbered n apdu) (Resting k) e h may = absurd may
  put_goes Other (Resting k) e h may = absurd may
  put_goes x (Running k t) e h may = put_running x k t e (h) may

  -- in the attempts of the job
  pub asks_kept : (t : Attempts) (content : List ℕ) (at : ℕ) → ldata_in content ≡ Some f → is_req f.code ≡ true → AttemptIs a plan t s.client → MayPut t now f.tpdu (frame_in f.tpdu) → Put (attempts_after device plan (record { what = view.Puts content; now = now; at = at }) t)
  asks_kept t content at reads req h may = subst Put (sym (put_step a device plan t content f now at raw reads req its)) (put_goes (frame_in f.tpdu) t refl h may)
