-- Each moment keeps what the record says of a session beside what it says of the attempt.
use Rattle.std.proofs.Common.{◌≡◌, ℕ, suc, List, [], ◌∷◌, drop, reverse, length, Bool, true, false, ◌||◌, cond, Option, Some, None, refl, sym, ◌∙◌, ap, subst, if◌then◌else◌}
use Rattle.knx_model.specs.declared.address.IndAddr.{IndAddr}
use Rattle.knx_model.specs.declared.connection.ClientTook.{ClientTook}
use Rattle.knx_model.specs.declared.connection.ClientTook.TheVariants as heard
use Rattle.knx_model.specs.declared.connection.TransportFrame.{TransportFrame}
use Rattle.knx_model.specs.declared.connection.TransportFrame.TheVariants.{Connect, Disconnect, Ack, Nak, Numbered, Other}
use Rattle.knx_model.specs.ClientConnection.{ClientEnd, Ended, client_took, client_stayed}
use Rattle.knx_model.specs.Connection.{frame_in}
use Rattle.knx_model.specs.GoodPlan.{IsSendable}
use Rattle.knx_model.specs.Plans.{Plan, Over}
use Rattle.line_model.specs.Attempts.{Attempt, Attempts, Resting, Running, begun, put_so, put_attempt, confirmed_so, confirmed_attempt, heard_so, heard_attempt, attempts, attempts_after, MayPut}
use Rattle.line_model.specs.Moments.{Moment, confirmation_in, put_to, heard_from, Number, Next, number_put, number_heard, number, is_disconnect, closes_by, is_loss, ends_session, is_connect, grown, stretches, Course, Unconfirmed, WithError, InSession, Left, course_from, course_after, course, is_acknowledged, acknowledged, answer_expected, answers}
use Rattle.line_model.specs.Progress.{Reaches}
use Rattle.line_model.specs.Told.{WentThrough}
use Rattle.line_law.proofs.Counting.{heard_count}
use Rattle.line_law.proofs.Counts.{Count, CountIs, stayed_count, heard_effect}
use Rattle.line_law.proofs.Courses.{Kind, Lost, Plain, Put, Confirmed, Hears, NotService, WasDone, Now, Later, Begun, Idle, AtRest, CourseIs, StretchIs, done_now}
use Rattle.line_model.specs.Attempts.{first, put_other}
use Rattle.line_law.proofs.CourseSteps.{Closes, end_closes, closed_idle, numbered_count, ended_asks}
use Rattle.line_law.proofs.CourseEnds.{ended_confirmed, ended_took, asked_took}
use Rattle.line_law.proofs.Landing.{con_count, begun_count, Allowed, allowed, Free, PutsSo}
use Rattle.line_law.proofs.Requests.{heard_none, confirmed_none}

module _ (a : ℕ) (device : IndAddr) (plan : Plan) (can : IsSendable plan) (m : Moment) (l : List Moment) where
  abbrev t : Attempts
  t = attempts device plan l

  abbrev Kept : Course → Attempts → Type 0
  Kept c u = CourseIs a device plan c u (m ∷ l)

  grown_kept : (u : Attempts) → (AtRest (attempts device plan l) → AtRest u) → ((c : Course) → CourseIs a device plan c (attempts device plan l) l → Kept (course_after a m c) u) → (ss : List (List Moment)) → StretchIs a device plan ss (attempts device plan l) l → StretchIs a device plan (grown m ss) u (m ∷ l)
  grown_kept u f g [] h = f h
  grown_kept u f g (s ∷ older) h = g (course a s) h

  stretch_by : (p : Option TransportFrame) (u : Attempts) → put_to a m.what ≡ p → is_connect p ≡ false → StretchIs a device plan (grown m (stretches a l)) u (m ∷ l) → StretchIs a device plan (stretches a (m ∷ l)) u (m ∷ l)
  stretch_by p u e n h = subst (λ b. StretchIs a device plan (cond {A = List (List Moment)} b ([] ∷ stretches a l) (grown m (stretches a l))) u (m ∷ l)) (sym (ap is_connect e ∙ n)) h

  -- nothing went through yet
  no_plan : WentThrough a plan [] → (plan ≡ Over → ⊥) → WasDone a device plan (m ∷ l)
  no_plan w some = absurd (some w)

  not_service : (p : Option TransportFrame) → put_to a m.what ≡ p → NotService p → NotService (put_to a m.what)
  not_service p e h = subst NotService (sym e) h

  module _ (p h : Option TransportFrame) (put : put_to a m.what ≡ p) (hear : heard_from a m.what ≡ h) where
    numbers : (s : List Moment) → number a (m ∷ s) ≡ number_heard h (number_put p (number a s))
    numbers s = ap (λ z. number_heard z (number_put (put_to a m.what) (number a s))) hear ∙ ap (λ z. number_heard h (number_put z (number a s))) put

    ackeds : (s : List Moment) → acknowledged a (m ∷ s) ≡ (if is_acknowledged h (number a s) then suc (acknowledged a s) else acknowledged a s)
    ackeds s = ap (λ z. cond {A = ℕ} (is_acknowledged z (number a s)) (suc (acknowledged a s)) (acknowledged a s)) hear

    answereds : (s : List Moment) → answers a (m ∷ s) ≡ answer_expected h (length (answers a s)) (answers a s)
    answereds s = ap (λ z. answer_expected z (length (answers a s)) (answers a s)) hear

    ends : (s : List Moment) (b : Bool) → is_loss m.what ≡ b → ends_session a m s ≡ (b || is_disconnect p || closes_by h (number a s))
    ends s b e =
        ap (λ z. z || is_disconnect (put_to a m.what) || closes_by (heard_from a m.what) (number a s)) e ∙ ap (λ z. b || is_disconnect z || closes_by (heard_from a m.what) (number a s)) put
        ∙ ap (λ z. b || is_disconnect p || closes_by z (number a s)) hear

    -- the session goes on
    on : (s : List Moment) (u : Attempts) → ends_session a m s ≡ false
        → CountIs plan u (number_heard h (number_put p (number a s))) (if is_acknowledged h (number a s) then suc (acknowledged a s) else acknowledged a s) (answer_expected h (length (answers a s)) (answers a s)) → Kept (course_after a m (InSession s)) u
    on s u e k =
        subst (λ b. Kept (cond {A = Course} b (Left (m ∷ s)) (InSession (m ∷ s))) u) (sym e)
        (subst (λ z. CountIs plan u z (acknowledged a (m ∷ s)) (answers a (m ∷ s))) (sym (numbers s)) (subst (λ z. CountIs plan u (number_heard h (number_put p (number a s))) z (answers a (m ∷ s))) (sym (ackeds s))
        (subst (λ z. CountIs plan u (number_heard h (number_put p (number a s))) (if is_acknowledged h (number a s) then suc (acknowledged a s) else acknowledged a s) z) (sym (answereds s)) k)))

    -- or ends
    off : (s : List Moment) (u : Attempts) → ends_session a m s ≡ true → Idle u → NotService p → (if is_acknowledged h (number a s) then suc (acknowledged a s) else acknowledged a s) ≡ acknowledged a s → answer_expected h (length (answers a s)) (answers a s) ≡ answers a s
        → CountIs plan (attempts device plan l) (number a s) (acknowledged a s) (answers a s) → Kept (course_after a m (InSession s)) u
    off s u e idle ns ack ans k =
        subst (λ b. Kept (cond {A = Course} b (Left (m ∷ s)) (InSession (m ∷ s))) u) (sym e) (
          idle,
          λ w some.
              Later (Now (done_now plan (attempts device plan l) (number a s) (acknowledged a s) (answers a s) k
              (subst (λ z. Reaches plan z (reverse (answers a s)) Over) (ackeds s ∙ ack) (subst (λ z. Reaches plan (acknowledged a (m ∷ s)) (reverse z) Over) (answereds s ∙ ans) w)))) (not_service p put ns),
        )

  -- a left session stays so
  left_kept : (s : List Moment) (u : Attempts) (p : Option TransportFrame) → put_to a m.what ≡ p → NotService p → Idle u → CourseIs a device plan (Left s) (attempts device plan l) l → Kept (Left s) u
  left_kept s u p e ns idle h = (idle, λ w some. Later (h.1 w some) (not_service p e ns))

  unconfirmed_by : (b : Bool) (o : Option Bool) (u : Attempts) → is_loss m.what ≡ b → confirmation_in m.what ≡ o → Kept (if b then Left [] else course_from o) u → Kept (course_after a m Unconfirmed) u
  unconfirmed_by b o u e c h = subst (λ z. Kept (cond {A = Course} z (Left []) (course_from (confirmation_in m.what))) u) (sym e) (subst (λ z. Kept (cond {A = Course} b (Left []) (course_from z)) u) (sym c) h)

  -- ---- the channel is lost
  lost_course : is_loss m.what ≡ true → put_to a m.what ≡ None → heard_from a m.what ≡ None → (k : ℕ) (c : Course) → CourseIs a device plan c (attempts device plan l) l → Kept (course_after a m c) (Resting k)
  lost_course e p h k Unconfirmed q = unconfirmed_by true (confirmation_in m.what) (Resting k) e refl (tt, no_plan)
  lost_course e p h k WithError q = tt
  lost_course e p h k (InSession s) q = off None None p h s (Resting k) (ends None None p h s true e) tt tt refl refl q
  lost_course e p h k (Left s) q = left_kept s (Resting k) None p tt tt q

  -- ---- nothing comes or goes
  plain_course : is_loss m.what ≡ false → put_to a m.what ≡ None → confirmation_in m.what ≡ None → heard_from a m.what ≡ None → (c : Course) → CourseIs a device plan c (attempts device plan l) l → Kept (course_after a m c) (attempts device plan l)
  plain_course e p c h Unconfirmed q = unconfirmed_by false None (attempts device plan l) e c (q)
  plain_course e p c h WithError q = tt
  plain_course e p c h (InSession s) q = on None None p h s (attempts device plan l) (ends None None p h s false e) (q)
  plain_course e p c h (Left s) q = left_kept s (attempts device plan l) None p tt (q.0) q

  -- ---- a confirmation comes
  con_on : (k : ℕ) (u : Attempt) (error : Bool) (o : Number) (acked : ℕ) (ans : List (List ℕ)) → Count plan u o acked ans → CountIs plan (confirmed_attempt k u m.now error u.flying) o acked ans
  con_on k u error o acked ans h = con_count plan k u m.now error u.flying o acked ans h.plain h

  begun_on : (k : ℕ) (u : Attempt) (error : Bool) → is_loss m.what ≡ false → confirmation_in m.what ≡ Some error → Begun plan (Running k u) → Kept (course_after a m Unconfirmed) (confirmed_attempt k u m.now error u.flying)
  begun_on k u true e c (d, end, fly, open_, left) = unconfirmed_by false (Some true) (confirmed_attempt k u m.now true u.flying) e c tt
  begun_on k u false e c (d, end, fly, open_, left) =
      unconfirmed_by false (Some false) (confirmed_attempt k u m.now false u.flying) e c (subst (λ z. CountIs plan (confirmed_attempt k u m.now false z) (Next 0) 0 []) (sym fly) (begun_count plan u m.now d end open_ left))

  con_course : (u : Attempts) (error : Bool) → is_loss m.what ≡ false → put_to a m.what ≡ None → confirmation_in m.what ≡ Some error → heard_from a m.what ≡ None → (c : Course) → CourseIs a device plan c u l → (CourseIs a device plan c u l → CourseIs a device plan c u l)
      → Kept (course_after a m c) (confirmed_so m.now u (Some error))
  con_course (Resting k) error e p c h Unconfirmed q f = absurd q
  con_course (Running k u) error e p c h Unconfirmed q f = begun_on k u error e c q
  con_course u error e p c h WithError q f = tt
  con_course (Resting k) error e p c h (InSession s) q f = absurd q
  con_course (Running k u) error e p c h (InSession s) q f = on None None p h s (confirmed_attempt k u m.now error u.flying) (ends None None p h s false e) (con_on k u error (number a s) (acknowledged a s) (answers a s) q)
  con_course (Resting k) error e p c h (Left s) q f = (tt, λ w some. Later (q.1 w some) (not_service None p tt))
  con_course (Running k u) error e p c h (Left s) q f = (ended_confirmed u k m.now error u.flying q.0, λ w some. Later (q.1 w some) (not_service None p tt))

  con_rest : (u : Attempts) (o : Option Bool) → AtRest u → AtRest (confirmed_so m.now u o)
  con_rest (Resting k) o h = h
  con_rest (Running k u) o h = absurd h

  -- ---- a frame of the device comes
  hear_rest : (u : Attempts) (o : Option TransportFrame) → AtRest u → AtRest (heard_so m.now u o)
  hear_rest (Resting k) o h = h
  hear_rest (Running k u) o h = absurd h

  dropped_on : (k : ℕ) (u : Attempt) (took : ClientTook) (P : Attempts → Type 0) → took ≡ heard.Dropped → P (Running k u) → P (heard_attempt k u m.now took)
  dropped_on k u took P e h = subst (λ z. P (heard_attempt k u m.now z)) (sym e) h

  hear_session : (k : ℕ) (u : Attempt) (y : TransportFrame) (s : List Moment) (b : Bool) → closes_by (Some y) (number a s) ≡ b → is_loss m.what ≡ false → put_to a m.what ≡ None → heard_from a m.what ≡ Some y → CountIs plan (attempts device plan l) (number a s) (acknowledged a s) (answers a s)
      → Count plan u (number a s) (acknowledged a s) (answers a s) → Kept (course_after a m (InSession s)) (heard_attempt k u m.now (client_took u.end y))
  hear_session k u y s true close e p h q c =
      let x : Closes (number a s) y (acknowledged a s) (answers a s) (client_took u.end y) = end_closes u.end y (number a s) (acknowledged a s) c.sent (answers a s) c.number_is close in
      off None (Some y) p h s (heard_attempt k u m.now (client_took u.end y)) (ends None (Some y) p h s false e ∙ close) (closed_idle k u m.now (client_took u.end y) x.close x.is) tt x.uncounted x.unanswered q
  hear_session k u y s false close e p h q c =
      on None (Some y) p h s (heard_attempt k u m.now (client_took u.end y)) (ends None (Some y) p h s false e ∙ close)
      (heard_count plan k u (number a s) _ (acknowledged a s) _ m.now (answers a s) _ (client_took u.end y) (heard_effect u.end y (number a s) (acknowledged a s) c.sent (answers a s) c.number_is c.expected_is close) c)

  hear_course : (u : Attempts) (y : TransportFrame) → is_loss m.what ≡ false → put_to a m.what ≡ None → confirmation_in m.what ≡ None → heard_from a m.what ≡ Some y → (c : Course) → CourseIs a device plan c (attempts device plan l) l → CourseIs a device plan c u l → Kept (course_after a m c) (heard_so m.now u (Some y))
  hear_course (Resting k) y e p c h Unconfirmed q r = absurd r
  hear_course (Running k u) y e p c h Unconfirmed q r =
      unconfirmed_by false None (heard_attempt k u m.now (client_took u.end y)) e c (dropped_on k u (client_took u.end y) (Begun plan) (asked_took u.end r.0 y r.1) r)
  hear_course u y e p c h WithError q r = tt
  hear_course (Resting k) y e p c h (InSession s) q r = absurd r
  hear_course (Running k u) y e p c h (InSession s) q r = hear_session k u y s (closes_by (Some y) (number a s)) refl e p h q r
  hear_course (Resting k) y e p c h (Left s) q r = (tt, λ w some. Later (r.1 w some) (not_service None p tt))
  hear_course (Running k u) y e p c h (Left s) q r = (dropped_on k u (client_took u.end y) Idle (ended_took u.end y r.0) r.0, λ w some. Later (r.1 w some) (not_service None p tt))

  -- ---- a frame is put to it
  stayed_ended : (end : ClientEnd) (now : ℕ) → end ≡ Ended → client_stayed end now ≡ Ended
  stayed_ended end now e = ap (λ z. client_stayed z now) e

  put_running : (k : ℕ) (u : Attempt) (x : TransportFrame) (octets : List ℕ) → is_loss m.what ≡ false → put_to a m.what ≡ Some x → confirmation_in m.what ≡ None → heard_from a m.what ≡ None → frame_in octets ≡ x → Allowed u m.now octets x → u.flying ≡ None → (c : Course)
      → CourseIs a device plan c (attempts device plan l) l → CourseIs a device plan c (Running k u) l → Kept (course_after a m c) (Running k (put_attempt u m.now x))
  put_running k u x octets e p c h read may free Unconfirmed q r = absurd (let z : None ≡ Some Connect = sym free ∙ r.2 in cc)
  put_running k u x octets e p c h read may free WithError q r = tt
  put_running k u Connect octets e p c h read may free (InSession s) q r = absurd may
  put_running k u Disconnect octets e p c h read may free (InSession s) q r = off (Some Disconnect) None p h s (Running k (put_attempt u m.now Disconnect)) (ends (Some Disconnect) None p h s false e) refl tt refl refl q
  put_running k u (Ack j) octets e p c h read may free (InSession s) q r =
      on (Some (Ack j)) None p h s (Running k (put_attempt u m.now (Ack j))) (ends (Some (Ack j)) None p h s false e)
      (stayed_count plan u (number a s) (acknowledged a s) m.now (answers a s) (drop 1 u.owed) (Some (Ack j)) tt r)
  put_running k u (Nak j) octets e p c h read may free (InSession s) q r =
      on (Some (Nak j)) None p h s (Running k (put_attempt u m.now (Nak j))) (ends (Some (Nak j)) None p h s false e)
      (stayed_count plan u (number a s) (acknowledged a s) m.now (answers a s) (drop 1 u.owed) (Some (Nak j)) tt r)
  put_running k u (Numbered j apdu) octets e p c h read may free (InSession s) q r =
      on (Some (Numbered j apdu)) None p h s (Running k (put_attempt u m.now (Numbered j apdu))) (ends (Some (Numbered j apdu)) None p h s false e) (numbered_count plan u (number a s) (acknowledged a s) m.now j (answers a s) apdu octets can read may r)
  put_running k u Other octets e p c h read may free (InSession s) q r = absurd may
  put_running k u Connect octets e p c h read may free (Left s) q r = absurd may
  put_running k u Disconnect octets e p c h read may free (Left s) q r = (refl, λ w some. Later (r.1 w some) (not_service (Some Disconnect) p tt))
  put_running k u (Ack j) octets e p c h read may free (Left s) q r = (stayed_ended u.end m.now r.0, λ w some. Later (r.1 w some) (not_service (Some (Ack j)) p tt))
  put_running k u (Nak j) octets e p c h read may free (Left s) q r = (stayed_ended u.end m.now r.0, λ w some. Later (r.1 w some) (not_service (Some (Nak j)) p tt))
  put_running k u (Numbered j apdu) octets e p c h read may free (Left s) q r = absurd (ended_asks u m.now apdu octets r.0 may)
  put_running k u Other octets e p c h read may free (Left s) q r = absurd may

  -- ---- whichever it is
  after_is : device.raw ≡ a → (b : Bool) (p h : Option TransportFrame) (c : Option Bool) → is_loss m.what ≡ b → put_to a m.what ≡ p → confirmation_in m.what ≡ c → heard_from a m.what ≡ h
      → attempts_after device plan m (attempts device plan l) ≡ (if b then Resting (begun (attempts device plan l)) else heard_so m.now (confirmed_so m.now (put_so device plan m.now (attempts device plan l) p) c) h)
  after_is raw b p h c e q k f =
      let t : Attempts = attempts device plan l in
      ap (λ z. cond {A = Attempts} (is_loss m.what) (Resting (begun t)) (heard_so m.now (confirmed_so m.now (put_so device plan m.now t (put_to z m.what)) (confirmation_in m.what)) (heard_from z m.what))) raw
      ∙ ap (λ z. cond {A = Attempts} z (Resting (begun t)) (heard_so m.now (confirmed_so m.now (put_so device plan m.now t (put_to a m.what)) (confirmation_in m.what)) (heard_from a m.what))) e
      ∙ ap (λ z. cond {A = Attempts} b (Resting (begun t)) (heard_so m.now (confirmed_so m.now (put_so device plan m.now t z) (confirmation_in m.what)) (heard_from a m.what))) q
      ∙ ap (λ z. cond {A = Attempts} b (Resting (begun t)) (heard_so m.now (confirmed_so m.now (put_so device plan m.now t p) z) (heard_from a m.what))) k
      ∙ ap (λ z. cond {A = Attempts} b (Resting (begun t)) (heard_so m.now (confirmed_so m.now (put_so device plan m.now t p) c) z)) f

  abbrev Done : Type 0
  Done = StretchIs a device plan (stretches a (m ∷ l)) (attempts_after device plan m (attempts device plan l)) (m ∷ l)

  with_after : (u : Attempts) → attempts_after device plan m (attempts device plan l) ≡ u → StretchIs a device plan (stretches a (m ∷ l)) u (m ∷ l) → Done
  with_after u e h = subst (λ z. StretchIs a device plan (stretches a (m ∷ l)) z (m ∷ l)) (sym e) h

  put_other_kept : (t : Attempts) (x : TransportFrame) (octets : List ℕ) → is_loss m.what ≡ false → put_to a m.what ≡ Some x → confirmation_in m.what ≡ None → heard_from a m.what ≡ None → frame_in octets ≡ x → is_connect (Some x) ≡ false → MayPut t m.now octets x → Free t
      → ((c : Course) → CourseIs a device plan c (attempts device plan l) l → CourseIs a device plan c t l) → (AtRest (attempts device plan l) → AtRest t) → StretchIs a device plan (stretches a l) (attempts device plan l) l
      → StretchIs a device plan (grown m (stretches a l)) (put_other t m.now x) (m ∷ l)
  put_other_kept (Resting k) Connect octets e p c h read n may free f g s = absurd (cc)
  put_other_kept (Resting k) Disconnect octets e p c h read n may free f g s = absurd may
  put_other_kept (Resting k) (Ack j) octets e p c h read n may free f g s = absurd may
  put_other_kept (Resting k) (Nak j) octets e p c h read n may free f g s = absurd may
  put_other_kept (Resting k) (Numbered j apdu) octets e p c h read n may free f g s = absurd may
  put_other_kept (Resting k) Other octets e p c h read n may free f g s = absurd may
  put_other_kept (Running k u) x octets e p c h read n may free f g s =
      grown_kept (put_other (Running k u) m.now x) (λ r. absurd (g r))
      (λ y q. put_running k u x octets e p c h read (allowed k u m.now octets x may) free y q (f y q)) (stretches a l) s

  other_kind : (x : TransportFrame) → is_connect (Some x) ≡ false → put_so device plan m.now (attempts device plan l) (Some x) ≡ put_other (attempts device plan l) m.now x → device.raw ≡ a → is_loss m.what ≡ false → put_to a m.what ≡ Some x → confirmation_in m.what ≡ None
      → heard_from a m.what ≡ None → PutsSo (attempts device plan l) m.now x → StretchIs a device plan (stretches a l) (attempts device plan l) l → Done
  other_kind x n so raw e p c h may s =
      let u : Attempts = put_other (attempts device plan l) m.now x in
      with_after u (after_is raw false (Some x) None None e p c h ∙ ap (λ z. heard_so m.now (confirmed_so m.now z None) None) so ∙ heard_none m.now (confirmed_so m.now u None) ∙ confirmed_none m.now u)
      (stretch_by (Some x) u p n (put_other_kept (attempts device plan l) x may.octets e p c h may.reads n may.may may.free (λ y q. q) (λ q. q) s))

  put_kind : (x : TransportFrame) → device.raw ≡ a → is_loss m.what ≡ false → put_to a m.what ≡ Some x → confirmation_in m.what ≡ None → heard_from a m.what ≡ None → PutsSo (attempts device plan l) m.now x → StretchIs a device plan (stretches a l) (attempts device plan l) l → Done
  put_kind Connect raw e p c h may s =
      with_after (Running (suc (begun (attempts device plan l))) (first device plan)) (after_is raw false (Some Connect) None None e p c h)
      (subst (λ b. StretchIs a device plan (cond {A = List (List Moment)} b ([] ∷ stretches a l) (grown m (stretches a l))) (Running (suc (begun (attempts device plan l))) (first device plan)) (m ∷ l)) (sym (ap is_connect p)) (device, refl, refl, refl, refl))
  put_kind Disconnect raw e p c h may s = other_kind Disconnect refl refl raw e p c h may s
  put_kind (Ack j) raw e p c h may s = other_kind (Ack j) refl refl raw e p c h may s
  put_kind (Nak j) raw e p c h may s = other_kind (Nak j) refl refl raw e p c h may s
  put_kind (Numbered j apdu) raw e p c h may s = other_kind (Numbered j apdu) refl refl raw e p c h may s
  put_kind Other raw e p c h may s = other_kind Other refl refl raw e p c h may s

  pub course_kept : device.raw ≡ a → Kind a m.what → ((x : TransportFrame) → put_to a m.what ≡ Some x → PutsSo (attempts device plan l) m.now x) → StretchIs a device plan (stretches a l) (attempts device plan l) l → Done
  course_kept raw (Lost e p c h) allowed s =
      let k : ℕ = begun (attempts device plan l) in
      with_after (Resting k) (after_is raw true (put_to a m.what) (heard_from a m.what) (confirmation_in m.what) e refl refl refl)
      (stretch_by None (Resting k) p refl (grown_kept (Resting k) (λ q. tt) (λ y q. lost_course e p h k y q) (stretches a l) s))
  course_kept raw (Plain e p c h) allowed s =
      let u : Attempts = (attempts device plan l) in
      with_after u (after_is raw false None None None e p c h ∙ heard_none m.now (confirmed_so m.now u None) ∙ confirmed_none m.now u)
      (stretch_by None u p refl (grown_kept u (λ q. q) (λ y q. plain_course e p c h y q) (stretches a l) s))
  course_kept raw (Put x e p c h) allowed s = put_kind x raw e p c h (allowed x p) s
  course_kept raw (Confirmed error e p c h) allowed s =
      let u : Attempts = confirmed_so m.now (attempts device plan l) (Some error) in
      with_after u (after_is raw false None None (Some error) e p c h ∙ heard_none m.now u)
      (stretch_by None u p refl (grown_kept u (λ q. con_rest (attempts device plan l) (Some error) (q)) (λ y q. con_course (attempts device plan l) error e p c h y (q) (λ z. z)) (stretches a l) s))
  course_kept raw (Hears y e p c h) allowed s =
      let u : Attempts = heard_so m.now (attempts device plan l) (Some y) in
      with_after u (after_is raw false None (Some y) None e p c h ∙ ap (λ z. heard_so m.now z (Some y)) (confirmed_none m.now (attempts device plan l)))
      (stretch_by None u p refl (grown_kept u (λ q. hear_rest (attempts device plan l) (Some y) (q)) (λ z q. hear_course (attempts device plan l) y e p c h z q (q)) (stretches a l) s))
