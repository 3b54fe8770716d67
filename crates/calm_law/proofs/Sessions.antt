-- The sessions ride on the tunnel: each entry of the record keeps what they await.
use Rattle.std.proofs.Common.{◌≡◌, ◌≢◌, ◌⊎◌, ℕ, suc, ◌≤◌, List, [], ◌∷◌, length, Bool, true, false, not, ◌&&◌, Option, Some, None, refl, sym, ◌∙◌, ap, subst, inl, inr, arith}
use Rattle.std.specs.Prelude.{◌==◌}
use Rattle.std.proofs.lemmas.Bool.{eqb-true}
use Rattle.knx_model.specs.declared.address.IndAddr.{IndAddr}
use Rattle.knx_model.specs.declared.connection.TransportFrame.{TransportFrame}
use Rattle.knx_model.specs.declared.connection.TransportFrame.TheVariants.{Connect}
use Rattle.knx_model.specs.declared.frames.cemi.Ldata.{Ldata}
use Rattle.knx_model.specs.Connection.{frame_in}
use Rattle.knx_model.specs.Cemi.{Written as cemi_octets}
use Rattle.knx_model.specs.Device.{HasCapacities}
use Rattle.knx_model.specs.DeviceState.{DeviceState}
use Rattle.knx_model.specs.Plans.{Plan}
use Rattle.line_model.specs.declared.group.GroupTurn.{GroupTurn}
use Rattle.line_model.specs.declared.log.LogEntry.{LogEntry}
use Rattle.line_model.specs.Reading.{ldata_in, is_req}
use Rattle.line_model.specs.Record.{Entry, Placed, entries}
use Rattle.line_model.specs.ClientView.{Fresh, Deed, Puts, Takes, Loses, Nothing, channel, deed}
use Rattle.line_model.specs.Moments.{Moment, moments, between, is_to, where_is, put_frame, put_to, stretches, Course, Left, Unconfirmed, WithError, InSession, course, session, is_connect}
use Rattle.line_model.specs.Attempts.{Attempts, Resting, Running, attempts, confirmed_so, heard_so, MayPut}
use Rattle.line_model.specs.Asks.{IsTurn, IsOfJob, IsRightRequest, IsRightDeed, moment_of}
use Rattle.line_model.specs.Ends.{IsUndecided, BeginsSo}
use Rattle.line_model.specs.Haste.{takes_time, has_just_waited}
use Rattle.line_model.specs.Log.{Job, job_of}
use Rattle.line_model.specs.Told.{WentThrough, IsRefused, last_stretch, session_since}
use Rattle.line_model.specs.Undisturbed.{IsServedJob}
use Rattle.line_model.specs.Waiting.{IsResting}
use Rattle.line_model.specs.World.{World}
use Rattle.line_law.proofs.ReadBack.{read_range}
use Rattle.calm_law.proofs.State.{cons_in, Steps}
use Rattle.calm_law.proofs.Phases.{Goes}
use Rattle.calm_law.proofs.Books.{Says, tried, tried_more, One, IsLeft, Refusal, Decided, none_more}
use Rattle.calm_law.proofs.Rows.{Devices, Willing, Riders, to_it, con_in, frame_from, IsTaken, PutsTo, more, riders_take, riders_put, riders_nothing}
use Rattle.calm_law.proofs.Held.{HeldJob, after, AreUpto, between_after, after_more}
use Rattle.calm_law.proofs.Moves.{says_nothing, says_put, says_take}

-- ---- the client's frame lands at a device of the line

abbrev pub Lands : Devices → Option Ldata → Type 0
Lands devices None = Unit {0}
Lands devices (Some f) = ((1 ≤ length f.tpdu) × (length f.tpdu ≤ 64)) × ((f.group ≡ true) ⊎ (devices f.destination ≢ None))

-- ---- all that rides on the tunnel

-- of a job that is held: its plan, its device when it was taken, and the moments since then; `then` has the devices of each moment
pub record OfHeld (jobs : List Job) (then : ℕ → Devices) (log : List LogEntry) (places : List Placed) (a : ℕ) (h : HeldJob jobs log a) (plan : Plan) (old : Option DeviceState) (l : List Moment) : Type 0 where
  pub plan_is : plan ≡ h.job.plan
  pub old_is : old ≡ then h.since a
  pub since_is : l ≡ after h.since (moments places)

pub record Whole (jobs : List Job) (then : ℕ → Devices) (me : IndAddr) (log : List LogEntry) (places : List Placed) (devices : Devices) (now : ℕ) (fly : Option Ldata) (q : List Ldata) : Type 0 where
  pub plans : ℕ → Plan
  pub olds : ℕ → Option DeviceState
  pub since : ℕ → List Moment
  pub riders : Riders me plans olds since devices now fly q
  pub held : (a : ℕ) (h : HeldJob jobs log a) → OfHeld jobs then log places a h (plans a) (olds a) (since a)
  pub free : (a : ℕ) → (HeldJob jobs log a → ⊥) → IsResting (tried a (plans a) (since a))
  pub lands : Lands devices fly
  pub fresh : channel (entries places) ≡ Fresh → (a : ℕ) → stretches a (since a) ≡ []
  pub waited : has_just_waited (entries places) ≡ true → (a : ℕ) → HeldJob jobs log a → stretches a (since a) ≡ []

-- ---- where none runs, none runs after a moment by which nothing is put

confirmed_rests : (now : ℕ) (t : Attempts) (c : Option Bool) → IsResting t → IsResting (confirmed_so now t c)
confirmed_rests now (Resting k) c h = tt
confirmed_rests now (Running k x) c h = absurd h

heard_rests : (now : ℕ) (t : Attempts) (y : Option TransportFrame) → IsResting t → IsResting (heard_so now t y)
heard_rests now (Resting k) y h = tt
heard_rests now (Running k x) y h = absurd h

pub rests_more : (a : ℕ) (plan : Plan) (m : Moment) (l : List Moment) (c : Option Bool) (y : Option TransportFrame) → Says a m None c y → IsResting (tried a plan l) → IsResting (tried a plan (m ∷ l))
rests_more a plan m l c y says h =
    subst IsResting (sym (tried_more a plan m l None c y says)) (heard_rests m.now (confirmed_so m.now (tried a plan l) c) y (confirmed_rests m.now (tried a plan l) c h))

-- ---- a job that is decided begins no attempt

decided_base : (W : Type 0) (job : Job) (since at : ℕ) (places : List Placed) → IsUndecided job since at places → One job.device.raw (between since at (moments places)) (IsLeft (Decided W job.device.raw job.plan)) → ⊥
decided_base W job since at places u o = by_course (course job.device.raw o.stretch) refl o.so where
  session_is : session_since job.device.raw since at places ≡ session (course job.device.raw o.stretch)
  session_is = ap (λ z. session (course job.device.raw (last_stretch z))) o.is

  by_course : (c : Course) → course job.device.raw o.stretch ≡ c → IsLeft (Decided W job.device.raw job.plan) c → ⊥
  by_course Unconfirmed e d = d
  by_course WithError e d = d
  by_course (InSession s) e d = d
  by_course (Left s) e d = by_which d.which where
    by_which : WentThrough job.device.raw job.plan s ⊎ Refusal job.device.raw job.plan s → ⊥
    by_which (inl w) = u.not_through (subst (λ z. WentThrough job.device.raw job.plan z) (sym (session_is ∙ ap session e)) w)
    by_which (inr r) = u.not_refused r.0 r.1 r.2 (subst (λ z. IsRefused job.device.raw job.plan r.0 r.1 r.2 z) (sym (session_is ∙ ap session e)) r.3)

decided_not : (W : Type 0) (job : Job) (since at : ℕ) (places : List Placed) (a : ℕ) (plan : Plan) (l : List Moment) → job.device.raw ≡ a → plan ≡ job.plan → l ≡ between since at (moments places) → IsUndecided job since at places → One a l (IsLeft (Decided W a plan)) → ⊥
decided_not W job since at places a plan l of_device plan_is since_is u o =
    decided_base W job since at places u
    (subst (λ z. One z (between since at (moments places)) (IsLeft (Decided W z job.plan))) (sym of_device) (subst (λ z. One a (between since at (moments places)) (IsLeft (Decided W a z))) plan_is (subst (λ z. One a z (IsLeft (Decided W a plan))) since_is o)))

fresh_deed : (x : Entry) → deed Fresh x ≡ Nothing
unfolding deed
fresh_deed x = refl

-- ---- an entry of the record

module _ (jobs : List Job) (then : ℕ → Devices) (turns : List GroupTurn) (start : World) (served : (k : ℕ) (job : Job) → job_of jobs k ≡ Some job → IsServedJob job) (on_line : (k : ℕ) (job : Job) → job_of jobs k ≡ Some job → start.devices job.device.raw ≢ None) (me : IndAddr) (n : ℕ) (log : List LogEntry) (places : List Placed)
    (upto : AreUpto n (moments places)) (upto_next : AreUpto (suc n) (moments places)) (early : (a : ℕ) (h : HeldJob jobs log a) → h.since ≤ n) (devices : Devices) (capable : (a : ℕ) (d : DeviceState) → devices a ≡ Some d → HasCapacities d.kept) (present : (a : ℕ) → start.devices a ≢ None → devices a ≢ None)
    (x : Entry) (now : ℕ) (at : x.now ≡ now) (still : takes_time (entries places) x ≡ false) (back : channel (x ∷ entries places) ≡ Fresh → channel (entries places) ≡ Fresh) where
  abbrev place : Placed
  place = record { at = suc n; what = x }

  abbrev m : Moment
  m = moment_of places place

  abbrev Before : Option Ldata → List Ldata → Type 0
  Before fly q = Whole jobs then me log places devices now fly q

  abbrev After : Option Ldata → List Ldata → Type 0
  After fly q = Whole jobs then me log (place ∷ places) devices now fly q

  held_more : (plans : ℕ → Plan) (olds : ℕ → Option DeviceState) (since : ℕ → List Moment) → ((a : ℕ) (h : HeldJob jobs log a) → OfHeld jobs then log places a h (plans a) (olds a) (since a)) → (a : ℕ) (h : HeldJob jobs log a) → OfHeld jobs then log (place ∷ places) a h (plans a) (olds a) (m ∷ since a)
  held_more plans olds since f a h =
      let le : h.since ≤ n = early a h in
      record { plan_is = (f a h).plan_is; old_is = (f a h).old_is; since_is = ap (λ z. m ∷ z) (f a h).since_is ∙ sym (after_more h.since m (moments places) (omega (arith, le))) }

  not_waited : (a : ℕ) (l : List Moment) → has_just_waited (x ∷ entries places) ≡ true → stretches a l ≡ []
  not_waited a l w = absurd (let e : false ≡ true = sym still ∙ w in cc)

  -- where the channel is fresh, nothing came
  fresh_on : (since : ℕ → List Moment) → (channel (entries places) ≡ Fresh → (a : ℕ) → stretches a (since a) ≡ []) → channel (x ∷ entries places) ≡ Fresh → (a : ℕ) → stretches a (m ∷ since a) ≡ []
  fresh_on since f e a =
      let nothing : m.what ≡ Nothing = ap (λ c. deed c x) (back e) ∙ fresh_deed x in
      none_more a m (since a) (ap is_connect (says_nothing a m nothing).put) (f (back e) a)

  -- ---- a request is put

  module _ (octets : List ℕ) (is : m.what ≡ Puts octets) (asks : IsRightRequest jobs turns log places m octets) (begins : BeginsSo jobs log places m) (f : Ldata) (q : List Ldata) (reads : ldata_in octets ≡ Some f) where
    frame_is : asks.frame ≡ f
    frame_is = let e : Some asks.frame ≡ Some f = sym asks.reads ∙ reads in cc

    request : is_req f.code ≡ true
    request = ap (λ (z : Ldata). is_req z.code) (sym frame_is) ∙ asks.request

    says : (a : ℕ) → Says a m (to_it (is_to a f) (frame_in f.tpdu)) None None
    says a = says_put a m octets f is reads request

    put_is : put_frame m.what ≡ Some f
    put_is = ap put_frame is ∙ ap (where_is (λ (z : Ldata). is_req z.code)) reads ∙ (let e : where_is (λ (z : Ldata). is_req z.code) (Some f) ≡ Some f = rw request refl in e)

    turn_group : IsTurn jobs turns log places m → f.group ≡ true
    turn_group t = let same : t.is_its.frame ≡ f = (let e : Some t.is_its.frame ≡ Some f = sym t.is_its.put ∙ put_is in cc) in ap (λ (z : Ldata). z.group) (sym same) ∙ t.is_its.group

    group_not : (a : ℕ) → f.group ≡ true → is_to a f ≡ true → ⊥
    group_not a g to = let e : false ≡ true = sym (ap (λ z. not z && (f.destination == a)) g) ∙ to in cc

    to_me : (a : ℕ) → f.group ≡ false → is_to a f ≡ true → f.destination ≡ a
    to_me a g to = eqb-true f.destination a (ap (λ z. not z && (f.destination == a)) (sym g) ∙ to)

    -- to the device of a job
    module _ (o : IsOfJob jobs log places m asks.frame) where
      alone : f.group ≡ false
      alone = ap (λ (z : Ldata). z.group) (sym frame_is) ∙ o.alone

      destination : f.destination ≡ o.job.device.raw
      destination = ap (λ (z : Ldata). z.destination) (sym frame_is) ∙ o.to

      abbrev holder : (a : ℕ) → is_to a f ≡ true → HeldJob jobs log a
      holder a to = record { number = o.k; job = o.job; worker = o.worker; since = o.since; there = o.there; of_device = sym destination ∙ to_me a alone to; held = o.held }

      since_it : after o.since (moments places) ≡ between o.since (suc n) (moments places)
      since_it = sym (between_after o.since (suc n) (moments places) upto_next)

      puts_to : (a : ℕ) (plan : Plan) (old : Option DeviceState) (l : List Moment) (d : DeviceState) → devices a ≡ Some d → (to : is_to a f ≡ true) → OfHeld jobs then log places a (holder a to) plan old l → PutsTo a plan old l now f d
      puts_to a plan old l d there to h =
          let s : IsServedJob o.job = served o.k o.job o.there in
          let device : o.job.device.raw ≡ a = sym destination ∙ to_me a alone to in
          let l_is : l ≡ between o.since (suc n) (moments places) = h.since_is ∙ since_it in
          let same : attempts o.job.device o.job.plan (between o.since (suc n) (moments places)) ≡ tried a plan l
          = ap (λ (z : ℕ). attempts (record { raw = z }) o.job.plan (between o.since (suc n) (moments places))) device ∙ ap (λ z. attempts (record { raw = a }) z (between o.since (suc n) (moments places))) (sym h.plan_is) ∙ ap (λ z. tried a plan z) (sym l_is) in
          let may : MayPut (tried a plan l) m.now asks.frame.tpdu (frame_in asks.frame.tpdu) = subst (λ z. MayPut z m.now asks.frame.tpdu (frame_in asks.frame.tpdu)) same o.may in
          record {
            whole = subst (λ z. Goes z false d.frames d.kept) (sym h.plan_is) (record { sendable = s.sendable; served = λ e. s.served d.frames d.kept (capable a d there) });
            may = subst (λ z. MayPut (tried a plan l) z f.tpdu (frame_in f.tpdu)) at (subst (λ (z : Ldata). MayPut (tried a plan l) m.now z.tpdu (frame_in z.tpdu)) frame_is may);
            undecided = λ connects one.
                decided_not (Willing plan old) o.job o.since (suc n) places a plan l device h.plan_is l_is
                (begins o.k o.since o.job (record { there = o.there; worker = o.worker; held = o.held }) (subst (λ z. put_to z m.what ≡ Some Connect) (sym device) ((says a).put ∙ ap (λ b. to_it b (frame_in f.tpdu)) to ∙ ap (λ z. Some z) connects))) one;
          }

    put_so : cons_in q ≡ 0 → Before None q → After (Some f) q
    put_so cons w =
        record {
          plans = w.plans;
          olds = w.olds;
          since = more m w.since;
          riders = riders_put me w.plans w.olds w.since devices now f q m at says w.riders cons (λ a d there to. by_to a d there to asks.why);
          held = held_more w.plans w.olds w.since w.held;
          free = λ a none. by_free a none (is_to a f) refl;
          lands = (read_range octets f reads, by_why asks.why);
          fresh = fresh_on w.since w.fresh;
          waited = λ e a h. not_waited a (m ∷ w.since a) e;
        }
      where
        by_to : (a : ℕ) (d : DeviceState) → devices a ≡ Some d → is_to a f ≡ true → IsTurn jobs turns log places m ⊎ IsOfJob jobs log places m asks.frame → PutsTo a (w.plans a) (w.olds a) (w.since a) now f d
        by_to a d there to (inl t) = absurd (group_not a (turn_group t) to)
        by_to a d there to (inr o) = puts_to o a (w.plans a) (w.olds a) (w.since a) d there to (w.held a (holder o a to))

        by_why : IsTurn jobs turns log places m ⊎ IsOfJob jobs log places m asks.frame → (f.group ≡ true) ⊎ (devices f.destination ≢ None)
        by_why (inl t) = inl (turn_group t)
        by_why (inr o) = inr (present f.destination (subst (λ z. start.devices z ≢ None) (sym (destination o)) (on_line o.k o.job o.there)))

        of_none : (a : ℕ) → (HeldJob jobs log a → ⊥) → is_to a f ≡ true → IsTurn jobs turns log places m ⊎ IsOfJob jobs log places m asks.frame → IsResting (tried a (w.plans a) (m ∷ w.since a))
        of_none a none to (inl t) = absurd (group_not a (turn_group t) to)
        of_none a none to (inr o) = absurd (none (holder o a to))

        by_free : (a : ℕ) → (HeldJob jobs log a → ⊥) → (b : Bool) → is_to a f ≡ b → IsResting (tried a (w.plans a) (m ∷ w.since a))
        by_free a none true to = of_none a none to asks.why
        by_free a none false to = rests_more a (w.plans a) m (w.since a) None None (subst (λ b. Says a m (to_it b (frame_in f.tpdu)) None None) to (says a)) (w.free a none)

  -- ---- a frame is taken

  taken_rests : (a : ℕ) (y : Ldata) (plan : Plan) (l : List Moment) → IsTaken a m y → IsResting (tried a plan l) → IsResting (tried a plan (m ∷ l))
  taken_rests a y plan l (inl s) h = rests_more a plan m l (con_in y) (frame_from a y) s h
  taken_rests a y plan l (inr u) h = rests_more a plan m l None None u.0 h

  take_so : (octets : List ℕ) → m.what ≡ Takes octets → (fly : Option Ldata) (y : Ldata) (q : List Ldata) → cemi_octets y ≡ octets → Before fly (y ∷ q) → After fly q
  take_so octets is fly y q content w =
      record {
        plans = w.plans;
        olds = w.olds;
        since = more m w.since;
        riders = riders_take me w.plans w.olds w.since devices now fly y q m at (λ a. says_take a m octets y is content w.riders.told.0) w.riders;
        held = held_more w.plans w.olds w.since w.held;
        free = λ a none. taken_rests a y (w.plans a) (w.since a) (says_take a m octets y is content w.riders.told.0) (w.free a none);
        lands = w.lands;
        fresh = fresh_on w.since w.fresh;
        waited = λ e a h. not_waited a (m ∷ w.since a) e;
      }

  -- ---- neither

  nothing_so : m.what ≡ Nothing → (fly : Option Ldata) (q : List Ldata) → Before fly q → After fly q
  nothing_so is fly q w =
      record {
        plans = w.plans;
        olds = w.olds;
        since = more m w.since;
        riders = riders_nothing me w.plans w.olds w.since devices now fly q m at (λ a. says_nothing a m is) w.riders;
        held = held_more w.plans w.olds w.since w.held;
        free = λ a none. rests_more a (w.plans a) m (w.since a) None None (says_nothing a m is) (w.free a none);
        lands = w.lands;
        fresh = fresh_on w.since w.fresh;
        waited = λ e a h. not_waited a (m ∷ w.since a) e;
      }

  pub entry_steps : IsRightDeed jobs turns log places m m.what → BeginsSo jobs log places m → Steps Before After (deed (channel (entries places)) x)
  entry_steps asks begins = by_deed (deed (channel (entries places)) x) refl asks where
    by_deed : (what : Deed) → deed (channel (entries places)) x ≡ what → IsRightDeed jobs turns log places m what → Steps Before After what
    by_deed (Puts octets) is a = λ f q reads cons w. put_so octets is a begins f q reads cons w
    by_deed (Takes octets) is a = λ fly y q content w. take_so octets is fly y q content w
    by_deed Loses is a = tt
    by_deed Nothing is a = λ fly q w. nothing_so is fly q w
