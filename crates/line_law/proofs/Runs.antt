-- A run of the line is followed by a run of the session with each device.
use Rattle.std.proofs.Common.{◌≡◌, ℕ, suc, ◌<◌, List, [], ◌∷◌, ◌++◌, length, Bool, true, false, cond, Option, Some, None, refl, sym, ◌∙◌, ap, subst, arith}
use Rattle.std.specs.Prelude.{◌==◌}
use Rattle.knx_model.specs.declared.frames.cemi.Ldata.{Ldata}
use Rattle.knx_model.specs.ApduReading.{option_map}
use Rattle.knx_model.specs.DeviceConnection.{Closed}
use Rattle.knx_model.specs.DeviceState.{DeviceState}
use Rattle.knx_model.specs.DeviceFrames.{Outcome, Whole, Torn, Worn, takes}
use Rattle.knx_model.specs.GoodPlan.{IsSendable}
use Rattle.knx_model.specs.Plans.{Plan}
use Rattle.line_model.specs.declared.group.GroupTurn.{GroupTurn}
use Rattle.line_model.specs.declared.log.LogEntry.{LogEntry}
use Rattle.line_model.specs.Fresh.{IsFresh, IsAtRest}
use Rattle.line_model.specs.Log.{Job, job_of, log_before, IsLog, OneDownloaderPerDevice}
use Rattle.line_model.specs.Record.{record_of, placed}
use Rattle.line_model.specs.Tunnel.{Tunnel}
use Rattle.line_model.specs.World as line
use Rattle.line_model.specs.World.{World, Event, Bus, BusTorn, BusWorn, BusAgain, DevSend, DevRepeat, DevClose, Cut, On, me, Devices, changed, all_take, one_takes, others_take, devices_after, is_among, next_frame, waiting_at, now, step}
use Rattle.session_law.specs.World.{World as SessionWorld, fresh}
use Rattle.session_law.specs.Events as event
use Rattle.session_law.specs.Events.{Event as SessionEvent, replay, IsLegal}
use Rattle.load_law.specs.Download.{MayAsk, Follows}
use Rattle.line_law.proofs.Coupled.{Never, echo_of, Coupled}
use Rattle.line_law.proofs.Arrivals.{owned_always, arrives}
use Rattle.line_law.proofs.HeldJobs.{HeldPlan, AllAttempted}
use Rattle.line_law.proofs.Traces.{Adds, StepBy, Follower, event_step}
use Rattle.line_law.proofs.RunsBefore.{IsRun, run_before}
use Rattle.line_model.specs.Moments.{moments}

-- ---- the beginning

at_rest : (address : ℕ) (d : DeviceState) → IsAtRest address d → (let x : DeviceState = record d { connection = Closed; unsent = []; last = None } in x) ≡ d
at_rest address d h =
    ap (λ z. (let x : DeviceState = record d { connection = z; unsent = []; last = None } in x)) (sym h.unconnected) ∙ ap (λ z. (let x : DeviceState = record d { unsent = z; last = None } in x)) (sym h.nothing_unsent) ∙ ap (λ z. (let x : DeviceState = record d { last = z } in x)) (sym h.nothing_got)

begin_coupled : (a : ℕ) (start : World) (d : DeviceState) → IsFresh start → start.devices a ≡ Some d → Coupled a start [] (fresh (me start) d)
begin_coupled a start d f is =
    let rest : IsAtRest a d = f.devices a d is in
    let P : Tunnel → Type 0 = λ t. Coupled a (record { tunnel = t; devices = start.devices; echo = start.echo }) [] (fresh (me start) d) in
    subst P (sym f.tunnel) (record {
      items = [];
      older = [];
      last = Never;
      by = record {
        side = record { device = is ∙ ap (λ z. Some z) (sym (at_rest a d rest)); same_me = refl; same_now = refl; echo = sym (ap (echo_of a) f.echo) };
        pipe = record { puts_are = refl; sorted = tt; newest = tt; frames = tt; last_is = record { none = λ k other c. absurd c.made_by; out = tt; bus = refl; quiet = refl; empty = refl } };
        coming = refl;
        flying = tt;
        pending = λ x y. absurd (cc);
        joined = refl;
      };
    })

pub begin_follower : (jobs : List Job) (log : List LogEntry) (a : ℕ) (start : World) (d : DeviceState) → IsFresh start → start.devices a ≡ Some d → Follower jobs log a start [] (fresh (me start) d)
begin_follower jobs log a start d f is = record { coupled = begin_coupled a start d f is; attempted = λ h. tt }

-- ---- the run of the session, moment by moment

pub data Trace (jobs : List Job) (log : List LogEntry) (a : ℕ) (start : World) (d : DeviceState) : List Event → List SessionEvent → Type 0 where
  Begins : Follower jobs log a start [] (fresh (me start) d) → Trace jobs log a start d [] []
  Goes : {events : List Event} {past : List SessionEvent} (e : Event) (more : List SessionEvent) → Trace jobs log a start d events past → IsLegal (replay (fresh (me start) d) past) more
      → Follows (HeldPlan jobs (log_before (suc (length events)) log) a) (replay (fresh (me start) d) past) more → Follower jobs log a start (e ∷ events) (replay (fresh (me start) d) (more ++ past))
      → Adds jobs (log_before (suc (length events)) log) a (suc (length events)) more (moments (placed start events)) (moments (placed start (e ∷ events)))
      → AllAttempted jobs (log_before (suc (length events)) log) a (moments (placed start (e ∷ events))) (replay (fresh (me start) d) (more ++ past)).client → Trace jobs log a start d (e ∷ events) (more ++ past)

pub follower_now : {jobs : List Job} {log : List LogEntry} {a : ℕ} {start : World} {d : DeviceState} {events : List Event} {past : List SessionEvent} → Trace jobs log a start d events past → Follower jobs log a start events (replay (fresh (me start) d) past)
follower_now (Begins f) = f
follower_now (Goes e more t l f n q late) = n

pub replay_more : (start : SessionWorld) (more past : List SessionEvent) → replay start (more ++ past) ≡ replay (replay start past) more
replay_more start [] past = refl
replay_more start (y ∷ more) past = ap (λ q. event.step q y) (replay_more start more past)

pub legal_more : (start : SessionWorld) (more past : List SessionEvent) → IsLegal (replay start past) more → IsLegal start past → IsLegal start (more ++ past)
legal_more start [] past h k = k
legal_more start (y ∷ more) past h k = (subst (λ q. event.MayHappen q y) (sym (replay_more start more past)) h.0, legal_more start more past h.1 k)

pub follows_more : (IsJob : Plan → Type 0) (start : SessionWorld) (more past : List SessionEvent) → Follows IsJob (replay start past) more → Follows IsJob start past → Follows IsJob start (more ++ past)
follows_more IsJob start [] past h k = k
follows_more IsJob start (y ∷ more) past h k = (subst (λ q. MayAsk IsJob q y) (sym (replay_more start more past)) h.0, follows_more IsJob start more past h.1 k)

pub trace_legal : {jobs : List Job} {log : List LogEntry} {a : ℕ} {start : World} {d : DeviceState} {events : List Event} {past : List SessionEvent} → Trace jobs log a start d events past → IsLegal (fresh (me start) d) past
trace_legal (Begins f) = tt
trace_legal {start = start} {d = d} (Goes {past = past} e more t l f n q late) = legal_more (fresh (me start) d) more past l (trace_legal t)

module _ (jobs : List Job) (turns : List GroupTurn) (count : ℕ) (log : List LogEntry) (form : IsLog jobs turns count log) (alone : OneDownloaderPerDevice jobs log) (can : (number : ℕ) (job : Job) → job_of jobs number ≡ Some job → IsSendable job.plan) (a : ℕ) (start : World) (d : DeviceState) (is : start.devices a ≡ Some d) where
  pub trace_always : (events : List Event) → IsRun jobs turns log start events → (past : List SessionEvent) × Trace jobs log a start d events past
  trace_always [] h = ([], Begins (begin_follower jobs log a start d h.begins is))
  trace_always (e ∷ events) h =
      let t = trace_always events (run_before jobs turns log start e events h) in
      let past : List SessionEvent = t.0 in
      let s : SessionWorld = replay (fresh (me start) d) past in
      let g : StepBy jobs log a (length events) (step (line.replay start events) e) (record_of start (e ∷ events)) (moments (placed start events)) (placed start (e ∷ events)) s
      = event_step jobs turns count log form alone can a start events s (follower_now t.1) e h (owned_always start events h.begins) (arrives start events h.begins h.legal.1) (arrives start (e ∷ events) h.begins h.legal) in
      let whole : replay s g.more ≡ replay (fresh (me start) d) (g.more ++ past) = sym (replay_more (fresh (me start) d) g.more past) in (
        g.more ++ past,
        Goes e g.more t.1 g.legal g.follows (subst (Follower jobs log a start (e ∷ events)) whole (record { coupled = g.coupled; attempted = g.attempted })) g.adds
            (subst (λ y. AllAttempted jobs (log_before (suc (length events)) log) a (moments (placed start (e ∷ events))) y.client) whole g.late),
      )

-- ---- the jobs whose plans are gone through

may_map : (P Q : Plan → Type 0) (s : SessionWorld) (e : SessionEvent) → ((plan : Plan) → P plan → Q plan) → MayAsk P s e → MayAsk Q s e
may_map P Q s event.Connects f h = tt
may_map P Q s (event.Asks apdu) f (plan, job, next) = (plan, f plan job, next)
may_map P Q s event.Waits f h = tt
may_map P Q s event.Replies f h = tt
may_map P Q s event.Leaves f h = tt
may_map P Q s event.Takes f h = tt
may_map P Q s event.Loses f h = tt
may_map P Q s (event.Joins n) f h = tt
may_map P Q s (event.Drops n) f h = tt
may_map P Q s (event.Bus outcome) f h = tt
may_map P Q s event.BusLost f h = tt
may_map P Q s event.BusAgain f h = tt
may_map P Q s (event.Group frame) f h = tt
may_map P Q s event.Elsewhere f h = tt
may_map P Q s (event.DevSend gateway) f h = tt
may_map P Q s (event.DevRepeat gateway) f h = tt
may_map P Q s event.DevClose f h = tt
may_map P Q s event.GwAgain f h = tt
may_map P Q s event.Cut f h = tt
may_map P Q s event.On f h = tt
may_map P Q s (event.Pass ms) f h = tt

pub follows_map : (P Q : Plan → Type 0) (s : SessionWorld) (events : List SessionEvent) → ((plan : Plan) → P plan → Q plan) → Follows P s events → Follows Q s events
follows_map P Q s [] f h = tt
follows_map P Q s (e ∷ events) f h = (may_map P Q (replay s events) e f h.0, follows_map P Q s events f h.1)

pub trace_follows : {jobs : List Job} {log : List LogEntry} {a : ℕ} {start : World} {d : DeviceState} {events : List Event} {past : List SessionEvent} (Q : Plan → Type 0) → ((n : ℕ) → n < length events → (plan : Plan) → HeldPlan jobs (log_before (suc n) log) a plan → Q plan)
    → Trace jobs log a start d events past → Follows Q (fresh (me start) d) past
trace_follows Q f (Begins b) = tt
trace_follows {jobs = jobs} {log = log} {a = a} {start = start} {d = d} Q f (Goes {events = events} {past = past} e more t l g n q late) =
    follows_more Q (fresh (me start) d) more past (follows_map (HeldPlan jobs (log_before (suc (length events)) log) a) Q (replay (fresh (me start) d) past) more (f (length events) (here (length events))) g)
    (trace_follows Q (λ m lt plan h. f m (later m (length events) lt) plan h) t)
  where
    here : (m : ℕ) → m < suc m
    here m = omega arith

    later : (m k : ℕ) → m < k → m < suc k
    later m k lt = omega (arith, lt)

-- ---- where there is no device there is none later

none_by : (b : Bool) (o p : Option DeviceState) → o ≡ None → p ≡ None → ◌≡◌ {A = Option DeviceState} (cond b o p) None
none_by true o p h g = h
none_by false o p h g = g

none_changed : (device : ℕ) (f : DeviceState → DeviceState) (devices : Devices) (a : ℕ) → devices a ≡ None → changed device f devices a ≡ None
none_changed device f devices a e = none_by (a == device) (option_map f (devices a)) (devices a) (ap (option_map f) e) e

none_all : (t : ℕ) (left_out : List ℕ) (o : Option Ldata) (devices : Devices) (a : ℕ) → devices a ≡ None → all_take t left_out o devices a ≡ None
none_all t left_out None devices a e = e
none_all t left_out (Some f) devices a e = none_by (is_among left_out a) (devices a) _ e (ap (option_map (λ x. takes x f t Whole)) e)

none_one : (t : ℕ) (outcome : Outcome) (o : Option Ldata) (devices : Devices) (a : ℕ) → devices a ≡ None → one_takes t outcome o devices a ≡ None
none_one t outcome None devices a e = e
none_one t outcome (Some f) devices a e = none_changed f.destination (λ x. takes x f t outcome) devices a e

none_others : (t : ℕ) (left_out : List ℕ) (o : Option Ldata) (devices : Devices) (a : ℕ) → devices a ≡ None → others_take t left_out o devices a ≡ None
none_others t left_out None devices a e = e
none_others t left_out (Some f) devices a e = by_group f.group where
  by_group : (b : Bool) → cond {A = Devices} b (all_take t left_out (Some f) devices) devices a ≡ None
  by_group true = none_all t left_out (Some f) devices a e
  by_group false = e

pub none_step : (w : World) (e : Event) (a : ℕ) → w.devices a ≡ None → devices_after w e a ≡ None
none_step w (Bus left_out) a h = none_all (now w) left_out (next_frame w) w.devices a h
none_step w (BusTorn fresh_ octets) a h = none_one (now w) (Torn fresh_ octets) (next_frame w) w.devices a h
none_step w (BusWorn octets) a h = none_one (now w) (Worn octets) (next_frame w) w.devices a h
none_step w (BusAgain device) a h = none_changed device _ w.devices a h
none_step w (DevSend device gateway left_out) a h = none_changed device _ (others_take (now w) (device ∷ left_out) (waiting_at w device) w.devices) a (none_others (now w) (device ∷ left_out) (waiting_at w device) w.devices a h)
none_step w (DevRepeat device gateway) a h = none_changed device _ w.devices a h
none_step w (DevClose device) a h = none_changed device _ w.devices a h
none_step w (Cut device) a h = none_changed device _ w.devices a h
none_step w (On device) a h = none_changed device _ w.devices a h
none_step w _ a h = h

pub none_always : (start : World) (events : List Event) (a : ℕ) → start.devices a ≡ None → (line.replay start events).devices a ≡ None
none_always start [] a h = h
none_always start (e ∷ events) a h = none_step (line.replay start events) e a (none_always start events a h)
