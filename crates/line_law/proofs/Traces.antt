-- Each event of the line: the session with a device follows it, and so do the attempts of the job that is held.
use Rattle.std.proofs.Common.{◌≡◌, ℕ, suc, ◌≤◌, ◌⊎◌, List, [], ◌∷◌, ◌++◌, length, false, Option, Some, None, refl, sym, ◌∙◌, ap, subst, inl, inr, arith}
use Rattle.std.specs.Prelude.{◌==◌, slice_get, take}
use Rattle.knx_model.specs.GoodPlan.{IsSendable}
use Rattle.line_model.specs.declared.group.GroupTurn.{GroupTurn}
use Rattle.line_model.specs.declared.log.LogEntry.{LogEntry}
use Rattle.line_model.specs.ActedOnce.{Has, IsActedOnce}
use Rattle.line_model.specs.Asks.{IsRightDeed}
use Rattle.line_law.specs.Safe.{IsAsked, EachAsked}
use Rattle.line_model.specs.Attempts.{attempts}
use Rattle.line_model.specs.ClientView.{channel, deed}
use Rattle.line_model.specs.ClientView as view
use Rattle.line_model.specs.Log.{Job, job_of, log_before, IsLog, OneDownloaderPerDevice}
use Rattle.knx_model.specs.declared.connection.TransportFrame.{TransportFrame}
use Rattle.line_model.specs.Moments.{Moment, moments, put_to}
use Rattle.line_model.specs.Network.{Sent, OfSent, changed_at, once_more}
use Rattle.line_model.specs.Record.{Item, Put, Renewed, Got, Quiet, Entry, entry, Placed, placed, placed_if, entries, got, noted, item_at, record_of, is_renewal}
use Rattle.line_model.specs.Renews.{RenewsRightly}
use Rattle.line_model.specs.Tunnel.{Tunnel, sends_up, with_down}
use Rattle.line_model.specs.World as line
use Rattle.line_model.specs.World.{World, Event, me, now, step}
use Rattle.session_law.specs.World.{World as SessionWorld}
use Rattle.session_law.specs.Events.{Event as SessionEvent, replay}
use Rattle.session_law.specs.Events as event
use Rattle.load_law.specs.Download.{MayAsk, Follows, AsksNothing}
use Rattle.tunnel_law.proofs.Fits.{books}
use Rattle.tunnel_law.proofs.Took.{InvT}
use Rattle.line_law.proofs.Coupled.{Owned, is_open, Coupled, Goes}
use Rattle.line_law.proofs.Bus.{after_world, bus_kept, torn_kept, worn_kept}
use Rattle.line_law.proofs.Devices as devices
use Rattle.line_law.proofs.Changes as changes
use Rattle.line_law.proofs.Putting.{tunnel_kept, next_kept}
use Rattle.line_law.proofs.Facts.{inv_always, inv_after, once_after}
use Rattle.line_law.proofs.Taking.{goes_on as goes_to}
use Rattle.line_law.proofs.Tunnels as tunnels
use Rattle.line_law.proofs.Entries.{HeadView, head_view, renewed_world, renewed_kept, later_world, pass_kept}
use Rattle.line_law.proofs.Entering.{buses_client, buses_follow, buses_silent}
use Rattle.line_law.proofs.Attempting.{IsService}
use Rattle.line_law.proofs.Landing.{PutsSo as PutsAllowed}
use Rattle.line_law.proofs.Telling.{still_attempt}
use Rattle.line_law.proofs.Logs.{AreUpto, moments_upto, upto_more}
use Rattle.line_law.proofs.Logs as logs
use Rattle.tunnel_law.proofs.Inside.{Every}
use Rattle.line_law.proofs.OwnAddress.{KnowsOwn, PutReaches}
use Rattle.line_law.proofs.Arrivals.{Arrives}
use Rattle.line_law.proofs.Stepping.{entry_next}
use Rattle.line_law.proofs.HeldJobs.{HeldJob, HeldPlan, Attempted, AllAttempted, EntryGoes}
use Rattle.line_law.proofs.RunsBefore.{IsRun, run_before, carried_none, heard_none}
use Rattle.line_model.specs.World.{Comes, next_frame, waiting_at, repeat_at, Send, From, Renew, Up, UpRefused, Down, LoseUp, LoseDown, Bus, BusTorn, BusWorn, BusAgain, DevSend, DevRepeat, DevClose, GwAgain, GwRepeat, GwClose, Cut, On, Pass}
use Rattle.line_model.proofs.Entries.{entries_placed}
use Rattle.line_law.proofs.Following.{attempted_late, stays_present, renewed_fresh, renewed_nothing, shut_by, one_job, attempted_same, attempted_more}

-- ---- the events of the session that follow one of the line

-- what the record adds to the moments, and which services this asks of the session
pub data Adds (jobs : List Job) (log : List LogEntry) (a at : ℕ) (more : List SessionEvent) (old new : List Moment) : Type 0 where
  Same : new ≡ old → AsksNothing more → Adds jobs log a at more old new
  One : (m : Moment) → new ≡ m ∷ old → m.at ≡ at → AsksNothing more ⊎ IsService (put_to a m.what)
      → ((h : HeldJob jobs log a) (x : TransportFrame) → put_to a m.what ≡ Some x → PutsAllowed (attempts h.job.device h.job.plan (logs.after h.since old)) m.now x) → Adds jobs log a at more old new

pub record StepBy (jobs : List Job) (log : List LogEntry) (a n : ℕ) (w : World) (k : List Entry) (old : List Moment) (places : List Placed) (s : SessionWorld) : Type 0 where
  pub more : List SessionEvent
  pub legal : event.IsLegal s more
  pub follows : Follows (HeldPlan jobs (log_before (suc n) log) a) s more
  pub coupled : Coupled a w k (replay s more)
  pub attempted : AllAttempted jobs (log_before (suc (suc n)) log) a (moments places) (replay s more).client
  pub adds : Adds jobs (log_before (suc n) log) a (suc n) more old (moments places)
  pub late : AllAttempted jobs (log_before (suc n) log) a (moments places) (replay s more).client  -- of the jobs that were held up to then

pub record Follower (jobs : List Job) (log : List LogEntry) (a : ℕ) (start : World) (events : List Event) (s : SessionWorld) : Type 0 where
  pub coupled : Coupled a (line.replay start events) (record_of start events) s
  pub attempted : AllAttempted jobs (log_before (suc (length events)) log) a (moments (placed start events)) s.client

module _ (jobs : List Job) (turns : List GroupTurn) (count : ℕ) (log : List LogEntry) (form : IsLog jobs turns count log) (alone : OneDownloaderPerDevice jobs log) (can : (number : ℕ) (job : Job) → job_of jobs number ≡ Some job → IsSendable job.plan) (a : ℕ)
    (start : World) (events : List Event) (s : SessionWorld) (f : Follower jobs log a start events s) where
  abbrev w : World
  w = line.replay start events

  abbrev n : ℕ
  n = length events

  -- without an entry
  quiet : (e : Event) → Goes a (after_world (line.replay start events) e) (record_of start events) s → StepBy jobs log a (length events) (step (line.replay start events) e) (record_of start events) (moments (placed start events)) (placed start events) s
  quiet e g =
      let h : Goes a (step (line.replay start events) e) (record_of start events) s
      = goes_to a (after_world (line.replay start events) e) (step (line.replay start events) e) (record_of start events) (record_of start events) s (λ z q. next_kept a (after_world (line.replay start events) e) (record_of start events) z q) g in
      record {
        more = h.more;
        legal = h.legal;
        follows = buses_follow (HeldPlan jobs (log_before (suc (length events)) log) a) s h.more h.silent;
        coupled = h.coupled;
        attempted = attempted_same jobs turns count log form alone a (length events) (moments (placed start events)) s.client (replay s h.more).client (upto_more (length events) (moments (placed start events)) (moments_upto start events)) (buses_client s h.more h.silent) f.attempted;
        adds = Same refl (buses_silent h.more h.silent);
        late = λ q. subst (Attempted a (moments (placed start events)) q.job q.since) (sym (buses_client s h.more h.silent)) (f.attempted q);
      }

  -- with an entry that is no renewal, from a session that may have gone on already
  entered : (e : Event) (item : Item) (z : SessionWorld) (first : List SessionEvent) → replay s first ≡ z → event.IsLegal s first → Follows (HeldPlan jobs (log_before (suc (length events)) log) a) s first → AsksNothing first → z.client ≡ s.client → is_renewal item ≡ false
      → (step (line.replay start events) e).tunnel.present ≡ (line.replay start events).tunnel.present
      → (x : Entry) → x ≡ entry item (now (step (line.replay start events) e))
      → z.device.address.raw ≡ a → InvT (books (record_of start events)) (line.replay start events).tunnel → InvT (books (x ∷ record_of start events)) (step (line.replay start events) e).tunnel → KnowsOwn (me start) (channel (record_of start events)) → Every (PutReaches (me start)) (step (line.replay start events) e).tunnel.gateway.puts → IsActedOnce (step (line.replay start events) e).tunnel.gateway (x ∷ record_of start events)
      → IsAsked jobs turns (log_before (suc (length events)) log) (placed start events) (record { at = suc (length events); what = x }) → Coupled a (step (line.replay start events) e) (record_of start events) z
      → StepBy jobs log a (length events) (step (line.replay start events) e) (x ∷ record_of start events) (moments (placed start events)) (record { at = suc (length events); what = x } ∷ placed start events) s
  entered e item z first is legal follows silent client kept present x x_is named old inv knows reaches once asks c =
      let r : List Entry = record_of start events in
      let older : List Placed = placed start events in
      let same : entries older ≡ r = entries_placed start events in
      let upto : AreUpto (length events) (moments older) = moments_upto start events in
      let view_ : HeadView r (step (line.replay start events) e).tunnel.present = subst (HeadView r) (sym present) (head_view r (line.replay start events).tunnel old) in
      let time : z.now ≡ x.now = c.by.side.same_now ∙ ap (λ (y : Entry). y.now) (sym x_is) in
      let no_renewal : is_renewal x.what ≡ false = ap (λ (y : Entry). is_renewal y.what) x_is ∙ kept in
      let deed_is : deed (channel (entries older)) x ≡ deed (channel r) x = ap (λ y. deed (channel y) x) same in
      let ask : IsRightDeed jobs turns (log_before (suc (length events)) log) older (record { what = deed (channel r) x; now = x.now; at = suc (length events) }) (deed (channel r) x)
      = subst (λ y. IsRightDeed jobs turns (log_before (suc (length events)) log) older (record { what = y; now = x.now; at = suc (length events) }) y) deed_is asks in
      let g : EntryGoes jobs (log_before (suc (length events)) log) a (step (line.replay start events) e) (x ∷ r) (moments older) (record { what = deed (channel r) x; now = x.now; at = suc (length events) }) z
      = entry_next jobs turns (log_before (suc (length events)) log) a (step (line.replay start events) e) r older x (length events) z same no_renewal view_ inv (me start) knows reaches once named time upto (one_job jobs turns count log form alone a (suc (length events)))
      (λ p. can p.number p.job p.there) c (λ p. subst (Attempted a (moments older) p.job p.since) (sym client) (f.attempted p)) ask in
      let whole : replay s (g.more ++ first) ≡ replay z g.more = replay_more g.more ∙ ap (λ y. replay y g.more) is in
      record {
        more = g.more ++ first;
        legal = legal_more g.more (subst (λ y. event.IsLegal y g.more) (sym is) g.legal) legal;
        follows = follows_more g.more (subst (λ y. Follows (HeldPlan jobs (log_before (suc (length events)) log) a) y g.more) (sym is) g.follows) follows;
        coupled = subst (Coupled a (step (line.replay start events) e) (x ∷ r)) (sym whole) g.coupled;
        attempted = subst (λ (y : SessionWorld). AllAttempted jobs (log_before (suc (suc (length events))) log) a (moments (record { at = suc (length events); what = x } ∷ older)) y.client) (sym whole)
            (subst (λ y. AllAttempted jobs (log_before (suc (suc (length events))) log) a (record { what = y; now = x.now; at = suc (length events) } ∷ moments older) (replay z g.more).client) (sym deed_is)
            (attempted_more jobs turns count log form alone a (length events) (record { what = deed (channel r) x; now = x.now; at = suc (length events) }) (moments older) (replay z g.more).client refl (same_place (suc (length events)), upto_more (length events) (moments older) upto) g.attempted));
        adds = One (record { what = deed (channel (entries older)) x; now = x.now; at = suc (length events) }) refl refl
            (subst (λ y. AsksNothing (g.more ++ first) ⊎ IsService (put_to a y)) (sym deed_is) (elim g.asks [ inl q ↦ inl (silent_more g.more q silent) | inr q ↦ inr q ]))
            (λ h y put. g.puts h y (ap (put_to a) (sym deed_is) ∙ put));
        late = subst (λ y. AllAttempted jobs (log_before (suc (length events)) log) a (moments (record { at = suc (length events); what = x } ∷ older)) y.client) (sym whole)
            (subst (λ y. AllAttempted jobs (log_before (suc (length events)) log) a (record { what = y; now = x.now; at = suc (length events) } ∷ moments older) (replay z g.more).client) (sym deed_is)
            (attempted_late jobs turns count log form alone a (length events) (record { what = deed (channel r) x; now = x.now; at = suc (length events) }) (moments older) (replay z g.more).client refl g.attempted));
      }
    where
      same_place : (m : ℕ) → m ≤ m
      same_place m = omega arith

      replay_more : (l : List SessionEvent) → replay s (l ++ first) ≡ replay (replay s first) l
      replay_more [] = refl
      replay_more (y ∷ l) = ap (λ q. event.step q y) (replay_more l)

      legal_more : (l : List SessionEvent) → event.IsLegal (replay s first) l → event.IsLegal s first → event.IsLegal s (l ++ first)
      legal_more [] h k = k
      legal_more (y ∷ l) h k = (subst (λ q. event.MayHappen q y) (sym (replay_more l)) h.0, legal_more l h.1 k)

      follows_more : (l : List SessionEvent) → Follows (HeldPlan jobs (log_before (suc (length events)) log) a) (replay s first) l → Follows (HeldPlan jobs (log_before (suc (length events)) log) a) s first → Follows (HeldPlan jobs (log_before (suc (length events)) log) a) s (l ++ first)
      follows_more [] h k = k
      follows_more (y ∷ l) h k = (subst (λ q. MayAsk (HeldPlan jobs (log_before (suc (length events)) log) a) q y) (sym (replay_more l)) h.0, follows_more l h.1 k)

      silent_more : (l : List SessionEvent) → AsksNothing l → AsksNothing first → AsksNothing (l ++ first)
      silent_more [] h k = k
      silent_more (y ∷ l) h k = (h.0, silent_more l h.1 k)

  -- an event of the bus has no entry
  unentered : (e : Event) → item_at (line.replay start events) e ≡ None → Goes a (after_world (line.replay start events) e) (record_of start events) s
      → StepBy jobs log a (length events) (step (line.replay start events) e) (record_of start (e ∷ events)) (moments (placed start events)) (placed start (e ∷ events)) s
  unentered e none g =
      let t : ℕ = now (step (line.replay start events) e) in
      subst (λ o. StepBy jobs log a (length events) (step (line.replay start events) e) (noted o t (record_of start events)) (moments (placed start events)) (placed_if (suc (length events)) t o (placed start events)) s) (sym none) (quiet e g)

  -- ---- each event

  got_step : (age : ℕ) (o : Option Sent) → s.device.address.raw ≡ a → InvT (books (record_of start events)) (line.replay start events).tunnel
      → InvT (books (noted (got o) (now (step (line.replay start events) (Down age))) (record_of start events))) (step (line.replay start events) (Down age)).tunnel
      → KnowsOwn (me start) (channel (record_of start events)) → Every (PutReaches (me start)) (step (line.replay start events) (Down age)).tunnel.gateway.puts → IsActedOnce (step (line.replay start events) (Down age)).tunnel.gateway (noted (got o) (now (step (line.replay start events) (Down age))) (record_of start events))
      → EachAsked jobs turns log (placed_if (suc (length events)) (now (step (line.replay start events) (Down age))) (got o) (placed start events)) → OfSent (λ d. Unit {0}) o
      → StepBy jobs log a (length events) (step (line.replay start events) (Down age)) (noted (got o) (now (step (line.replay start events) (Down age))) (record_of start events)) (moments (placed start events))
      (placed_if (suc (length events)) (now (step (line.replay start events) (Down age))) (got o) (placed start events)) s
  got_step age None named old inv knows reaches once asks may = absurd may
  got_step age (Some d) named old inv knows reaches once asks may =
      let w1 : World = line.replay start events in
      let t1 : Tunnel = with_down w1.tunnel (changed_at age once_more w1.tunnel.network.down) in
      entered (Down age) (Got (take 512 d.octets)) s [] refl tt tt tt refl refl (stays_present t1) (entry (Got (take 512 d.octets)) (now (step w1 (Down age)))) refl named old inv knows reaches once asks.0
      (next_kept a (record { tunnel = t1; devices = w1.devices; echo = w1.echo }) (record_of start events) s (tunnel_kept a w1 (record_of start events) s t1 refl refl refl f.coupled))

  sent_only : (P : Sent → Type 0) (o : Option Sent) → OfSent P o → OfSent (λ d. Unit {0}) o
  sent_only P None h = h
  sent_only P (Some d) h = tt

  renew_step : IsRun jobs turns log start (Renew ∷ events) → InvT (books (record_of start events)) (line.replay start events).tunnel → StepBy jobs log a (length events) (step (line.replay start events) Renew) (record_of start (Renew ∷ events)) (moments (placed start events)) (placed start (Renew ∷ events)) s
  renew_step run old =
      let w1 : World = line.replay start events in
      let r : List Entry = record_of start events in
      let t : ℕ = now (step w1 Renew) in
      let x : Entry = entry Renewed t in
      let same : entries (placed start events) ≡ r = entries_placed start events in
      let renews : RenewsRightly (x ∷ r) = run.renews in
      let shut : is_open (channel r) ≡ false = shut_by r (channel r) refl renews.1 (renews.0.leaves refl) in
      let none : (k : ℕ) → Has w1.tunnel.gateway.makers k (suc w1.tunnel.present) → ⊥ = λ k q. (let b = old.made k (suc w1.tunnel.present) q in omega (arith, b, old.endpoints)) in
      let deed_is : deed (channel (entries (placed start events))) x ≡ view.Nothing = ap (λ z. deed (channel z) x) same ∙ renewed_nothing (channel r) t shut in
      record {
        more = [];
        legal = tt;
        follows = tt;
        coupled = next_kept a (renewed_world w1) (x ∷ r) s (renewed_kept a w1 r x s refl (renewed_fresh (channel r) t) shut none f.coupled);
        attempted = subst (λ z. AllAttempted jobs (log_before (suc (suc (length events))) log) a (record { what = z; now = t; at = suc (length events) } ∷ moments (placed start events)) s.client) (sym deed_is)
            (attempted_more jobs turns count log form alone a (length events) (record { what = view.Nothing; now = t; at = suc (length events) }) (moments (placed start events)) s.client refl
            (here (suc (length events)), upto_more (length events) (moments (placed start events)) (moments_upto start events))
            (λ q. still_attempt a q.job.device q.job.plan (attempts q.job.device q.job.plan (logs.after q.since (moments (placed start events)))) s.client t (suc (length events)) (f.attempted q)));
        adds = One (record { what = deed (channel (entries (placed start events))) x; now = t; at = suc (length events) }) refl refl (inl tt)
            (λ q y put. absurd (let z : None ≡ Some y = sym (ap (put_to a) deed_is) ∙ put in cc));
        late = subst (λ z. AllAttempted jobs (log_before (suc (length events)) log) a (record { what = z; now = t; at = suc (length events) } ∷ moments (placed start events)) s.client) (sym deed_is)
            (attempted_late jobs turns count log form alone a (length events) (record { what = view.Nothing; now = t; at = suc (length events) }) (moments (placed start events)) s.client refl
            (λ q. still_attempt a q.job.device q.job.plan (attempts q.job.device q.job.plan (logs.after q.since (moments (placed start events)))) s.client t (suc (length events)) (f.attempted q)));
      }
    where
      here : (m : ℕ) → m ≤ m
      here m = omega arith

  pub event_step : (e : Event) → IsRun jobs turns log start (e ∷ events) → Owned (line.replay start events) → Arrives (me start) (line.replay start events) (record_of start events) → Arrives (me start) (step (line.replay start events) e) (record_of start (e ∷ events)) → StepBy jobs log a (length events) (step (line.replay start events) e) (record_of start (e ∷ events)) (moments (placed start events)) (placed start (e ∷ events)) s
  event_step e run own old new = by_event e run (inv_always start events run.begins run.legal.1 before.renews before.sends) (inv_always start (e ∷ events) run.begins run.legal run.renews run.sends) new.tunnel.gateway.puts run.once.0 where
    before : IsRun jobs turns log start events
    before = run_before jobs turns log start e events run

    c : Coupled a (line.replay start events) (record_of start events) s
    c = f.coupled

    named : s.device.address.raw ≡ a
    named = (own.devices a s.device f.coupled.by.side.device).named

    w1 : World
    w1 = line.replay start events

    r : List Entry
    r = record_of start events

    by_event : (y : Event) → IsRun jobs turns log start (y ∷ events) → InvT (books (record_of start events)) (line.replay start events).tunnel → InvT (books (record_of start (y ∷ events))) (step (line.replay start events) y).tunnel
        → Every (PutReaches (me start)) (step (line.replay start events) y).tunnel.gateway.puts → IsActedOnce (step (line.replay start events) y).tunnel.gateway (record_of start (y ∷ events)) → StepBy jobs log a (length events) (step (line.replay start events) y) (record_of start (y ∷ events)) (moments (placed start events)) (placed start (y ∷ events)) s
    by_event (Send octets) h i k reaches once =
        entered (Send octets) (Put octets) s [] refl tt tt tt refl refl (stays_present (sends_up w1.tunnel w1.tunnel.present octets)) (entry (Put octets) (now (step w1 (Send octets)))) refl named i k old.knows reaches once h.asks.0
        (next_kept a (record { tunnel = sends_up w1.tunnel w1.tunnel.present octets; devices = w1.devices; echo = w1.echo }) r s (tunnel_kept a w1 r s (sends_up w1.tunnel w1.tunnel.present octets) refl refl refl c))
    by_event (From endpoint octets) h i k reaches once = absurd h.legal.0.tunnel
    by_event Renew h i k reaches once = renew_step h i
    by_event (Up age) h i k reaches once = quiet (Up age) (tunnels.up_kept a w1 r s age c i (inv_after w1 r (Up age) (now (step w1 (Up age))) i h.legal.0 h.renews h.sends) (once_after (after_world w1 (Up age)).tunnel r once))
    by_event (UpRefused age status) h i k reaches once = quiet (UpRefused age status) (tunnels.refused_kept a w1 r s age status c)
    by_event (Down age) h i k reaches once = got_step age (slice_get w1.tunnel.network.down age) named i k old.knows reaches once h.asks (sent_only _ (slice_get w1.tunnel.network.down age) h.legal.0.tunnel)
    by_event (LoseUp age) h i k reaches once = quiet (LoseUp age) (tunnels.lost_up_kept a w1 r s age c)
    by_event (LoseDown age) h i k reaches once = quiet (LoseDown age) (tunnels.lost_down_kept a w1 r s age c)
    by_event (Bus left_out) h i k reaches once = unentered (Bus left_out) (carried_none w1 left_out (next_frame w1)) (bus_kept a w1 r s left_out named c h.legal.0.devices)
    by_event (BusTorn fresh_ octets) h i k reaches once = unentered (BusTorn fresh_ octets) (carried_none w1 [] (next_frame w1)) (torn_kept a w1 r s fresh_ octets named c h.legal.0.devices)
    by_event (BusWorn octets) h i k reaches once = unentered (BusWorn octets) (carried_none w1 [] (next_frame w1)) (worn_kept a w1 r s octets named c h.legal.0.devices)
    by_event (BusAgain device) h i k reaches once = quiet (BusAgain device) (changes.again_kept a w1 r s device (a == device) refl c)
    by_event (DevSend device gateway left_out) h i k reaches once = unentered (DevSend device gateway left_out) (heard_none gateway w1 (waiting_at w1 device)) (devices.sends_kept a w1 r s device gateway left_out (a == device) refl own c)
    by_event (DevRepeat device gateway) h i k reaches once = unentered (DevRepeat device gateway) (heard_none gateway w1 (repeat_at w1 device)) (devices.repeats_kept a w1 r s device gateway (a == device) refl own h.legal.0.devices c)
    by_event (DevClose device) h i k reaches once = quiet (DevClose device) (changes.close_kept a w1 r s device (a == device) refl c)
    by_event GwAgain h i k reaches once = unentered GwAgain (heard_none Comes w1 w1.echo) (changes.echo_kept a w1 r s own c)
    by_event GwRepeat h i k reaches once = quiet GwRepeat (tunnels.again_kept a w1 r s c)
    by_event GwClose h i k reaches once = quiet GwClose (tunnels.closes_kept a w1 r s c)
    by_event (Cut device) h i k reaches once = quiet (Cut device) (changes.cut_kept a w1 r s device (a == device) refl c)
    by_event (On device) h i k reaches once = quiet (On device) (changes.on_kept a w1 r s device (a == device) refl c)
    by_event (Pass ms) h i k reaches once =
        entered (Pass ms) Quiet (event.step s (event.Pass ms)) (event.Pass ms ∷ []) refl (tt, tt) (tt, tt) (tt, tt) refl refl (stays_present (later_world w1 ms).tunnel) (entry Quiet (now (step w1 (Pass ms)))) refl named i k old.knows reaches once h.asks.0
        (next_kept a (later_world w1 ms) r (event.step s (event.Pass ms)) (pass_kept a w1 r s ms c))
