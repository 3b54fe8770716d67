-- On a calm line whose client is safe and loses no time, time passes only where nothing is awaited and no job has begun, and nothing fails.
use Rattle.std.proofs.Common.{◌≡◌, ◌≢◌, ◌⊎◌, ℕ, zero, suc, ◌+◌, ◌*◌, ◌-◌, ◌<◌, ◌≤◌, List, [], ◌∷◌, ◌++◌, length, true, false, Option, Some, None, refl, sym, ◌∙◌, ap, subst, arith, inl, inr, drop, length-append}
use Rattle.std.specs.List.{AllByRecursion}
use Rattle.std.proofs.lemmas.Bool.{lt-ltb}
use Rattle.knx_model.specs.declared.frames.cemi.Ldata.{Ldata}
use Rattle.knx_model.specs.declared.log.Sign.{Sign}
use Rattle.knx_model.specs.Device.{HasCapacities, answer_in}
use Rattle.knx_model.specs.GoodPlan.{AnswersAll}
use Rattle.line_model.specs.Waiting.{IsResting}
use Rattle.knx_model.specs.DeviceState.{DeviceState}
use Rattle.line_model.specs.declared.group.GroupTurn.{GroupTurn}
use Rattle.line_model.specs.declared.log.LogEntry.{LogEntry}
use Rattle.line_model.specs.declared.log.LogWhat.{LogWhat}
use Rattle.line_model.specs.declared.log.LogWhat.TheVariants.{Took, Done, Failed, Refused, Sent, Lost as LostTurn}
use Rattle.line_model.specs.Asks.{IsRightDeed, moment_of}
use Rattle.line_model.specs.Calm as line
use Rattle.line_model.specs.ClientView.{Deed, Puts, Takes, Loses, Nothing, channel, deed}
use Rattle.line_model.specs.Ends.{IsAtRest, EndsSo, EndsAtRest, BeginsUndecided}
use Rattle.line_model.specs.Faults.{tries}
use Rattle.line_model.specs.Fresh.{IsFresh}
use Rattle.line_model.specs.Haste.{KeepsPaces, LosesNoTimes, HasSent, has_just_waited}
use Rattle.line_model.specs.Leaves.{StaysOpen}
use Rattle.line_model.specs.Legal.{OfDevice, IsLegal}
use Rattle.line_model.specs.LinkStory.{newest_time}
use Rattle.line_model.specs.Log.{Job, JobState, Untaken, Held, Over, job_of, turn_of, turn_place, log_before, state_of, latest, IsLog, MayFollow, OneDownloaderPerDevice}
use Rattle.line_model.specs.Moments.{moments, between, stretches, course, session}
use Rattle.line_model.specs.OldStoppedOrNew.{IsUntouched, RunsWhereDone, StaysDone}
use Rattle.line_model.specs.Record.{Entry, Item, Quiet, Placed, entry, entries, placed_if, placed, noted, item_of, record_of}
use Rattle.line_model.specs.Renews.{RenewsRightly, AcknowledgesRightly}
use Rattle.line_model.specs.Sendings.{SendsRightly}
use Rattle.line_model.specs.Signs.{SignsHold}
use Rattle.line_model.specs.Told.{session_since, last_stretch, IsRefused, IsTrue, ToldTruly, OfJob, OfHeld as WhereHeld, OfTurn, PutOnce, IsLoss}
use Rattle.line_model.specs.Tunnel as tunnel
use Rattle.line_model.specs.Tunnel.{Tunnel, TunnelEvent, Commissions}
use Rattle.line_model.specs.Undisturbed.{HasDevices, IsServedJob, IsIdle, IsIdleAt, PassesIdly, FailsNot, NothingFailed, IsPrompt, world_at, RefusesSo, RefusesRightly}
use Rattle.line_model.specs.World.{World, Event, Send, From, Renew, Up, UpRefused, Down, LoseUp, LoseDown, Bus, BusTorn, BusWorn, BusAgain, DevSend, DevRepeat, DevClose, GwAgain, GwRepeat, GwClose, Cut, On, Pass, me, tunnel_event, step, replay}
use Rattle.line_model.proofs.Entries.{entries_placed}
use Rattle.line_law.specs.Safe.{EachAsked}
use Rattle.line_law.proofs.Coupled.{Owned}
use Rattle.tunnel_law.proofs.Inside.{Every}
use Rattle.calm_law.specs.CalmLine.{HaveShortValues}
use Rattle.calm_law.proofs.Short.{AreShort}
use Rattle.calm_law.proofs.ShortFrames.{are_short}
use Rattle.calm_law.specs.CalmTunnel.{PutsSo, PutsRightly, IsKept, KeepsItsChannel}
use Rattle.calm_law.specs.CalmJobs.{HavePower, IsPromptClient}
use Rattle.calm_law.proofs.OwnFrames.{own_frames}
use Rattle.calm_law.proofs.State.{NoStrays, lives_over, Ridden, ridden}
use Rattle.calm_law.proofs.Sends.{MayDo}
use Rattle.calm_law.proofs.Law.{Inv, May, Keeps, may_of, idle_of, lives_rides, kept_of}
use Rattle.calm_law.proofs.Ends.{parted_pass}
use Rattle.calm_law.proofs.OnLine.{come_on_line, owned, event_calm, none_fails_on_line}
use Rattle.calm_law.proofs.Joined.{step_now, fresh_before}
use Rattle.calm_law.proofs.Held.{HeldJob, before_in, held_before, after, AreUpto, moments_upto, upto_next, first_moments, all_before, next_moment}
use Rattle.calm_law.proofs.Finished.{asked_or_not, WhereAsked, asked_more, finished_stays, none_held, none_next, signs_not, NotLost, lost_after, put_not_lost, lost_deed, none_between}
use Rattle.calm_law.proofs.Capacities.{devices_have}
use Rattle.calm_law.proofs.Sessions.{Whole}
use Rattle.calm_law.proofs.JoinedTime.{few_began, none_began}
use Rattle.calm_law.proofs.Logged.{ends_at_rest, entry_whole}
use Rattle.calm_law.proofs.Refused.{refused_not}
use Rattle.calm_law.proofs.Ended.{end_well}
use Rattle.calm_law.specs.CalmChecks.{ChecksExactly, HaveOneImage, IsAnsweredRightly}
use Rattle.calm_law.specs.CalmCounts.{AllCost, BringsSo, ComeForJobs, ComeForWrites, CostsAtMost, EachBrings, EachHeard, HeardSo, brought, frames_taken, group_requests, requests_put, some_reads, strangers}
use Rattle.calm_law.specs.CalmEnds.{EndWell}
use Rattle.calm_law.proofs.Spending.{spent_within}
use Rattle.calm_law.proofs.Numbered.{each_of}
use Rattle.calm_law.proofs.Hearing.{hears, heard_if_noted}
use Rattle.calm_law.proofs.TurnsPut.{asks_nothing, few_requests}
use Rattle.calm_law.proofs.Unread.{AsksNothing, none_strange}
use Rattle.calm_law.proofs.Sharing.{Shared, shared_all, shared_first, shared_logged, shared_more}
use Rattle.calm_law.proofs.Checked.{checks_exactly}
use Rattle.calm_law.proofs.Rows.{Devices, Willing}
use Rattle.calm_law.proofs.Books.{tried}
use Rattle.calm_law.proofs.JoinedEvents.{MayPutSo}
use Rattle.calm_law.proofs.JoinedSteps.{Times, TimesSo}
use Rattle.calm_law.proofs.JoinedAlways.{entries_if, Goes, goes_first, goes_on}
use Rattle.calm_law.proofs.JoinedRests.{quiet_nothing, newest_after, devices_there}

-- ---- what the client keeps to, by record and log

record IsSo (jobs : List Job) (turns : List GroupTurn) (log : List LogEntry) (places : List Placed) : Type 0 where
  renews : RenewsRightly (entries places)
  sends : SendsRightly (entries places)
  acknowledges : AcknowledgesRightly (entries places)
  hastens : LosesNoTimes jobs turns log places
  asks : EachAsked jobs turns log places
  begins : BeginsUndecided jobs log places

module _ (jobs : List Job) (turns : List GroupTurn) (log : List LogEntry) where
  so_before : (at now : ℕ) (o : Option Item) (places : List Placed) → IsSo jobs turns log (placed_if at now o places) → IsSo jobs turns log places
  so_before at now None places h = h
  so_before at now (Some what) places h = record { renews = h.renews.1; sends = h.sends.1; acknowledges = h.acknowledges.1; hastens = h.hastens.1; asks = h.asks.1; begins = h.begins.1 }

  paces : (places : List Placed) → LosesNoTimes jobs turns log places → KeepsPaces (entries places)
  paces [] h = tt
  paces (p ∷ older) h = (h.0.pace, paces older h.1)

  puts_so : (older : List Placed) (p : Placed) (what : Deed) → IsRightDeed jobs turns (log_before p.at log) older (moment_of older p) what → PutsSo (channel (entries older)) what
  puts_so older p (Puts octets) h = record { frame = h.frame; reads = h.reads; request = h.request; place = h.place }
  puts_so older p (Takes octets) h = tt
  puts_so older p Loses h = tt
  puts_so older p Nothing h = tt

  puts : (places : List Placed) → EachAsked jobs turns log places → PutsRightly (entries places)
  puts [] h = tt
  puts (p ∷ older) h = (puts_so older p (deed (channel (entries older)) p.what) h.0, puts older h.1)

  keeps : (places : List Placed) → IsSo jobs turns log places → Keeps (entries places)
  keeps places h = record { renews = h.renews; sends = h.sends; acknowledges = h.acknowledges; paces = paces places h.hastens; puts = puts places h.asks }

-- ---- an entry of the log, by what is older

form_at : (jobs : List Job) (turns : List GroupTurn) (count : ℕ) (newer rest : List LogEntry) → IsLog jobs turns count (newer ++ rest) → IsLog jobs turns count rest
form_at jobs turns count [] rest h = h
form_at jobs turns count (x ∷ newer) rest h = form_at jobs turns count newer rest h.1

alone_at : (jobs : List Job) (newer rest : List LogEntry) → OneDownloaderPerDevice jobs (newer ++ rest) → OneDownloaderPerDevice jobs rest
alone_at jobs [] rest h = h
alone_at jobs (x ∷ newer) rest h = alone_at jobs newer rest h.1

rests_at : (jobs : List Job) (places : List Placed) (newer rest : List LogEntry) → EndsAtRest jobs places (newer ++ rest) → EndsAtRest jobs places rest
rests_at jobs places [] rest h = h
rests_at jobs places (x ∷ newer) rest h = rests_at jobs places newer rest h.1

true_at : (jobs : List Job) (turns : List GroupTurn) (places : List Placed) (newer rest : List LogEntry) → ToldTruly jobs turns places (newer ++ rest) → ToldTruly jobs turns places rest
true_at jobs turns places [] rest h = h
true_at jobs turns places (x ∷ newer) rest h = true_at jobs turns places newer rest h.1

none_before : (log : List LogEntry) → log_before 0 log ≡ []
none_before [] = refl
none_before (e ∷ log) = before_in 0 e log false (grind arith) ∙ none_before log

so_far : (jobs : List Job) (turns : List GroupTurn) (count : ℕ) (log : List LogEntry) → IsLog jobs turns count log → latest log ≤ count
so_far jobs turns count [] h = omega arith
so_far jobs turns count (e ∷ log) h = h.0.so_far

-- ---- the law

module _ (jobs : List Job) (turns : List GroupTurn) (start : World) (served : (k : ℕ) (job : Job) → job_of jobs k ≡ Some job → IsServedJob job) (on_line : (k : ℕ) (job : Job) → job_of jobs k ≡ Some job → start.devices job.device.raw ≢ None) (f : IsFresh start) (power : HavePower start)
    (log : List LogEntry) (events : List Event) (form : IsLog jobs turns (length events) log) (alone : OneDownloaderPerDevice jobs log) (truly : ToldTruly jobs turns (placed start events) log) (ends : EndsAtRest jobs (placed start events) log) where
  abbrev full : List Placed
  full = placed start events

  -- the devices at each moment
  abbrev then : ℕ → Devices
  then n = (world_at start events n).devices

  -- of a moment: tunnel and sessions, what is finished where the end of the channel was asked for, and that nothing failed yet
  record So (w : World) (places : List Placed) (older : List LogEntry) : Type 0 where
    goes : Goes jobs then w older places
    finished : WhereAsked jobs turns older (entries places)
    fails_not : NothingFailed older
    refuses : RefusesRightly jobs start events older
    brings : EachBrings jobs full older
    shared : (cost : ℕ) → AllCost jobs cost → Shared jobs start older places (cost + 4)

  abbrev AllThere : World → Type 0
  AllThere w = (a : ℕ) → start.devices a ≢ None → w.devices a ≢ None

  inv_over : (E F : Option Ldata → List Ldata → Type 0) (r : List Entry) (t : Tunnel) → ((fly : Option Ldata) (q : List Ldata) → E fly q → F fly q) → Inv E r t → Inv F r t
  inv_over E F r t to (inl l) = inl (lives_over E F r t to l)
  inv_over E F r t to (inr x) = inr x

  -- ---- an entry of the log is made at a moment

  module _ (w : World) (places : List Placed) (n : ℕ) (upto : AreUpto n (moments places)) (link : (since : ℕ) → between since n (moments full) ≡ after since (moments places)) (there : AllThere w) (kept : StaysOpen (entries places) → Every NotLost (moments places)) (is_now : (a : ℕ) → w.devices a ≡ then n a) where
    one_attempt : (older : List LogEntry) → Goes jobs then w older places → WhereAsked jobs turns older (entries places) → (k worker since : ℕ) (job : Job) → job_of jobs k ≡ Some job → state_of k older ≡ Held worker since → (signs : List Sign) → SignsHold job.device.raw signs (between since n (moments full)) → ⊥
    one_attempt older (inr (inl p)) finished k worker since job is held signs hold = none_held jobs turns older k worker since job (finished p.up.asks.1) is held
    one_attempt older (inr (inr g)) finished k worker since job is held signs hold = none_held jobs turns older k worker since job (finished g.asked) is held
    one_attempt older (inl l) finished k worker since job is held signs hold = by_device (w.devices job.device.raw) refl where
      h : HeldJob jobs older job.device.raw
      h = record { number = k; job = job; worker = worker; since = since; there = is; of_device = refl; held = held }

      x : Ridden (Whole jobs then (me w) older places w.devices w.tunnel.now)
      x = ridden (Whole jobs then (me w) older places w.devices w.tunnel.now) (entries places) w.tunnel l

      by_device : (o : Option DeviceState) → w.devices job.device.raw ≡ o → ⊥
      by_device None e = there job.device.raw (on_line k job is) e
      by_device (Some d) e =
          signs_not job.device.raw signs (x.so.since job.device.raw) (few_began (me w) job.device.raw (x.so.plans job.device.raw) (x.so.olds job.device.raw) (x.so.since job.device.raw) x.fly x.queue d w.tunnel.now (x.so.riders.rows job.device.raw d e))
          (subst (SignsHold job.device.raw signs) (link since ∙ sym (x.so.held job.device.raw h).since_is) hold)

    fails_not : (older : List LogEntry) (at : ℕ) → at ≡ n → (worker : ℕ) (what : LogWhat) → Goes jobs then w older places → WhereAsked jobs turns older (entries places) → MayFollow jobs turns worker older what → IsTrue jobs turns full older at what → FailsNot what
    fails_not older at is worker (Took k) goes finished may true_ = tt
    fails_not older at is worker (Done k) goes finished may true_ = tt
    fails_not older at is worker (Refused k op got expected) goes finished may true_ = tt
    fails_not older at is worker (Sent k) goes finished may true_ = tt
    fails_not older at is worker (Failed k signs) goes finished may true_ = by_job (job_of jobs k) refl true_ where
      by_state : (job : Job) → job_of jobs k ≡ Some job → (s : JobState) → state_of k older ≡ s → WhereHeld (λ since. SignsHold job.device.raw signs (between since at (moments full))) s → ⊥
      by_state job there_is Untaken e t = t
      by_state job there_is (Held by since) e t = one_attempt older goes finished k by since job there_is e signs (subst (λ z. SignsHold job.device.raw signs (between since z (moments full))) is t)
      by_state job there_is Over e t = t

      by_job : (o : Option Job) → job_of jobs k ≡ o → OfJob (λ job since. SignsHold job.device.raw signs (between since at (moments full))) o (state_of k older) → ⊥
      by_job None e t = t
      by_job (Some job) e t = by_state job e (state_of k older) refl t
    fails_not older at is worker (LostTurn k) goes finished may true_ = by_asked (asked_or_not (entries places)) where
      by_turn : (o : Option GroupTurn) → Every NotLost (between (turn_place (k - 1) older) at (moments full)) → OfTurn (λ turn. PutOnce turn IsLoss (between (turn_place (k - 1) older) at (moments full))) o → ⊥
      by_turn None every t = t
      by_turn (Some turn) every t = put_not_lost turn (between (turn_place (k - 1) older) at (moments full)) every t

      by_asked : StaysOpen (entries places) ⊎ (StaysOpen (entries places) → ⊥) → ⊥
      by_asked (inl stays) =
          by_turn (turn_of turns k)
          (subst (Every NotLost) (sym (ap (λ z. between (turn_place (k - 1) older) z (moments full)) is ∙ link (turn_place (k - 1) older))) (lost_after (turn_place (k - 1) older) (moments places) (kept stays))) true_
      by_asked (inr asked) = none_next jobs turns older k (finished asked) may.0

    -- a job whose device gives each wanted answer isn't refused
    refuses_so : (older : List LogEntry) (e : LogEntry) → e.at ≡ n → (k op : ℕ) (got expected : List ℕ) → e.what ≡ Refused k op got expected → Goes jobs then w older places → WhereAsked jobs turns older (entries places) → IsAtRest jobs full older e.at k → IsTrue jobs turns full older e.at (Refused k op got expected)
        → (job : Job) (worker since : ℕ) (d : DeviceState) → job_of jobs k ≡ Some job → state_of k older ≡ Held worker since → then since job.device.raw ≡ Some d → AnswersAll (answer_in d.frames) job.plan d.kept → ⊥
    refuses_so older e at k op got expected what (inr (inl p)) finished rest told job worker since d there_is held was answers = none_held jobs turns older k worker since job (finished p.up.asks.1) there_is held
    refuses_so older e at k op got expected what (inr (inr g)) finished rest told job worker since d there_is held was answers = none_held jobs turns older k worker since job (finished g.asked) there_is held
    refuses_so older e at k op got expected what (inl l) finished rest told job worker since d there_is held was answers = by_device (w.devices job.device.raw) refl where
      h : HeldJob jobs older job.device.raw
      h = record { number = k; job = job; worker = worker; since = since; there = there_is; of_device = refl; held = held }

      x : Ridden (Whole jobs then (me w) older places w.devices w.tunnel.now)
      x = ridden (Whole jobs then (me w) older places w.devices w.tunnel.now) (entries places) w.tunnel l

      willing : Willing (x.so.plans job.device.raw) (x.so.olds job.device.raw)
      willing =
          subst (λ z. Willing (x.so.plans job.device.raw) z) (sym ((x.so.held job.device.raw h).old_is ∙ was)) (subst (λ z. AnswersAll (answer_in d.frames) z d.kept) (sym (x.so.held job.device.raw h).plan_is) answers)

      rests : IsResting (tried job.device.raw (x.so.plans job.device.raw) (x.so.since job.device.raw))
      rests = ends_at_rest jobs then turns (me w) full places n upto link w.devices is_now w.tunnel.now x.fly x.queue older e at x.so k job.device.raw h refl rest

      told_so : IsRefused job.device.raw job.plan op got expected (session_since job.device.raw since e.at full)
      told_so =
          subst (λ z. OfJob (λ j since. IsRefused j.device.raw j.plan op got expected (session_since j.device.raw since e.at full)) (Some job) z) held
          (subst (λ z. OfJob (λ j since. IsRefused j.device.raw j.plan op got expected (session_since j.device.raw since e.at full)) z (state_of k older)) there_is told)

      l_is : between since e.at (moments full) ≡ x.so.since job.device.raw
      l_is = ap (λ z. between since z (moments full)) at ∙ link since ∙ sym (x.so.held job.device.raw h).since_is

      its : IsRefused job.device.raw (x.so.plans job.device.raw) op got expected (session (course job.device.raw (last_stretch (stretches job.device.raw (x.so.since job.device.raw)))))
      its =
          subst (λ z. IsRefused job.device.raw z op got expected (session (course job.device.raw (last_stretch (stretches job.device.raw (x.so.since job.device.raw)))))) (sym (x.so.held job.device.raw h).plan_is)
          (subst (λ z. IsRefused job.device.raw job.plan op got expected (session (course job.device.raw (last_stretch (stretches job.device.raw z))))) l_is told_so)

      by_device : (o : Option DeviceState) → w.devices job.device.raw ≡ o → ⊥
      by_device None e = there job.device.raw (on_line k job there_is) e
      by_device (Some now_) e =
          refused_not (me w) job.device.raw (x.so.plans job.device.raw) (x.so.olds job.device.raw) (x.so.since job.device.raw) x.fly x.queue now_ w.tunnel.now op got expected (x.so.riders.rows job.device.raw now_ e) rests willing its

    refuses_all : (older : List LogEntry) (e : LogEntry) → e.at ≡ n → (what : LogWhat) → e.what ≡ what → Goes jobs then w older places → WhereAsked jobs turns older (entries places) → EndsSo jobs full older e.at what → IsTrue jobs turns full older e.at what → RefusesSo jobs start events older what
    refuses_all older e at (Took k) is goes finished ends_ told = tt
    refuses_all older e at (Done k) is goes finished ends_ told = tt
    refuses_all older e at (Failed k signs) is goes finished ends_ told = tt
    refuses_all older e at (Refused k op got expected) is goes finished ends_ told = λ job worker since d there_is held was answers. refuses_so older e at k op got expected is goes finished ends_ told job worker since d there_is held was answers
    refuses_all older e at (Sent k) is goes finished ends_ told = tt
    refuses_all older e at (LostTurn k) is goes finished ends_ told = tt

    -- a job that is held brought no more than its plan costs
    held_brings : (older : List LogEntry) → Goes jobs then w older places → WhereAsked jobs turns older (entries places) → (k worker since cost : ℕ) (job : Job) → job_of jobs k ≡ Some job → state_of k older ≡ Held worker since → CostsAtMost job.plan cost → brought job.device.raw (after since (moments places)) ≤ cost + 4
    held_brings older (inr (inl p)) finished = λ k worker since cost job there_is held costs. absurd (none_held jobs turns older k worker since job (finished p.up.asks.1) there_is held)
    held_brings older (inr (inr g)) finished = λ k worker since cost job there_is held costs. absurd (none_held jobs turns older k worker since job (finished g.asked) there_is held)
    held_brings older (inl l) finished = λ k worker since cost job there_is held costs. of_device k worker since cost job there_is held costs (w.devices job.device.raw) refl where
      x : Ridden (Whole jobs then (me w) older places w.devices w.tunnel.now)
      x = ridden (Whole jobs then (me w) older places w.devices w.tunnel.now) (entries places) w.tunnel l

      of_device : (k worker since cost : ℕ) (job : Job) → job_of jobs k ≡ Some job → state_of k older ≡ Held worker since → CostsAtMost job.plan cost → (o : Option DeviceState) → w.devices job.device.raw ≡ o → brought job.device.raw (after since (moments places)) ≤ cost + 4
      of_device k worker since cost job there_is held costs None is = absurd (there job.device.raw (on_line k job there_is) is)
      of_device k worker since cost job there_is held costs (Some d) is =
          let a : ℕ = job.device.raw in
          let h : HeldJob jobs older a = record { number = k; job = job; worker = worker; since = since; there = there_is; of_device = refl; held = held } in
          let row = x.so.riders.rows a d is in
          let costs_it : CostsAtMost (x.so.plans a) cost = subst (λ z. CostsAtMost z cost) (sym (x.so.held a h).plan_is) costs in
          subst (λ z. brought a z ≤ cost + 4) (x.so.held a h).since_is (spent_within (Willing (x.so.plans a) (x.so.olds a)) a (x.so.plans a) row.k row.n row.e row.phase (x.so.since a) row.books cost costs_it)

    -- a job that ends brought what its plan costs
    brings_so : (older : List LogEntry) (e : LogEntry) → e.at ≡ n → Goes jobs then w older places → WhereAsked jobs turns older (entries places) → BringsSo jobs full older e
    brings_so older e at (inr (inl p)) finished = λ k worker since cost job ends there_is held costs. absurd (none_held jobs turns older k worker since job (finished p.up.asks.1) there_is held)
    brings_so older e at (inr (inr g)) finished = λ k worker since cost job ends there_is held costs. absurd (none_held jobs turns older k worker since job (finished g.asked) there_is held)
    brings_so older e at (inl l) finished = λ k worker since cost job ends there_is held costs. by_device k worker since cost job there_is held costs (w.devices job.device.raw) refl where
      x : Ridden (Whole jobs then (me w) older places w.devices w.tunnel.now)
      x = ridden (Whole jobs then (me w) older places w.devices w.tunnel.now) (entries places) w.tunnel l

      by_device : (k worker since cost : ℕ) (job : Job) → job_of jobs k ≡ Some job → state_of k older ≡ Held worker since → CostsAtMost job.plan cost → (o : Option DeviceState) → w.devices job.device.raw ≡ o → brought job.device.raw (between since e.at (moments full)) ≤ cost + 4
      by_device k worker since cost job there_is held costs None is = absurd (there job.device.raw (on_line k job there_is) is)
      by_device k worker since cost job there_is held costs (Some d) is =
          let a : ℕ = job.device.raw in
          let h : HeldJob jobs older a = record { number = k; job = job; worker = worker; since = since; there = there_is; of_device = refl; held = held } in
          let row = x.so.riders.rows a d is in
          let l_is : between since e.at (moments full) ≡ x.so.since a = ap (λ z. between since z (moments full)) at ∙ link since ∙ sym (x.so.held a h).since_is in
          let costs_it : CostsAtMost (x.so.plans a) cost = subst (λ z. CostsAtMost z cost) (sym (x.so.held a h).plan_is) costs in
          subst (λ z. brought a z ≤ cost + 4) (sym l_is) (spent_within (Willing (x.so.plans a) (x.so.olds a)) a (x.so.plans a) row.k row.n row.e row.phase (x.so.since a) row.books cost costs_it)

    entry_so : (newer older : List LogEntry) (e : LogEntry) → log ≡ newer ++ e ∷ older → e.at ≡ n → So w places older → So w places (e ∷ older)
    entry_so newer older e whole at s =
        let form_e : IsLog jobs turns (length events) (e ∷ older) = form_at jobs turns (length events) newer (e ∷ older) (subst (IsLog jobs turns (length events)) whole form) in
        let alone_e : OneDownloaderPerDevice jobs (e ∷ older) = alone_at jobs newer (e ∷ older) (subst (OneDownloaderPerDevice jobs) whole alone) in
        let ends_e : EndsAtRest jobs full (e ∷ older) = rests_at jobs full newer (e ∷ older) (subst (EndsAtRest jobs full) whole ends) in
        let true_e : ToldTruly jobs turns full (e ∷ older) = true_at jobs turns full newer (e ∷ older) (subst (ToldTruly jobs turns full) whole truly) in
        let may : MayFollow jobs turns e.worker older e.what = form_e.0.follows in
        record {
          goes = inv_over (Whole jobs then (me w) older places w.devices w.tunnel.now) (Whole jobs then (me w) (e ∷ older) places w.devices w.tunnel.now) (entries places) w.tunnel
              (λ fly q x. entry_whole jobs then turns (me w) full places n upto link w.devices is_now w.tunnel.now fly q older e at x may alone_e.0 ends_e.0) s.goes;
          finished = λ asked. finished_stays jobs turns e older may (s.finished asked);
          fails_not = (fails_not older e.at at e.worker e.what s.goes s.finished may true_e.0, s.fails_not);
          refuses = (refuses_all older e at e.what refl s.goes s.finished ends_e.0 true_e.0, s.refuses);
          brings = (brings_so older e at s.goes s.finished, s.brings);
          shared = λ cost costs. shared_logged jobs turns start places (cost + 4) n (length events) upto older e at form_e (s.shared cost costs) (λ k worker since job there_is held. held_brings older s.goes s.finished k worker since cost job there_is held (costs k job there_is));
        }

  -- ---- an event

  -- as it stands after so many events and the entries that were made there
  record Stands (past : List Event) : Type 0 where
    so : So (replay start past) (placed start past) (log_before (suc (length past)) log)
    newest : newest_time (entries (placed start past)) ≡ (replay start past).tunnel.now
    there : AllThere (replay start past)
    capable : (a : ℕ) (d : DeviceState) → (replay start past).devices a ≡ Some d → HasCapacities d.kept
    kept : StaysOpen (entries (placed start past)) → Every NotLost (moments (placed start past))
    idly : PassesIdly jobs start log past
    heard : EachHeard jobs start log (placed start past)

  -- the log entries of a moment
  module _ (newer past : List Event) (whole : events ≡ newer ++ past) where
    abbrev n : ℕ
    n = length past

    link : (since : ℕ) → between since n (moments full) ≡ after since (moments (placed start past))
    link since = ap (λ z. between since n (moments (placed start z))) whole ∙ first_moments since start newer past

    drop_newer : (l : List Event) → drop (length l) (l ++ past) ≡ past
    drop_newer [] = refl
    drop_newer (x ∷ l) = drop_newer l

    world_is : world_at start events n ≡ replay start past
    world_is =
        ap (λ z. world_at start z n) whole
        ∙ ap (λ z. replay start (drop z (newer ++ past))) (let x = length-append newer past in let y : length (newer ++ past) - length past ≡ length newer = omega (arith, x) in y) ∙ ap (replay start) (drop_newer newer)

    is_now : (a : ℕ) → (replay start past).devices a ≡ then n a
    is_now a = ap (λ (z : World). z.devices a) (sym world_is)

    logged : AllThere (replay start past) → (StaysOpen (entries (placed start past)) → Every NotLost (moments (placed start past))) → So (replay start past) (placed start past) (log_before n log) → So (replay start past) (placed start past) (log_before (suc n) log)
    logged there kept s =
        next_moment jobs turns (length events) n log (So (replay start past) (placed start past)) (λ before older e is at x. entry_so (replay start past) (placed start past) n (moments_upto start past) link there kept is_now before older e is at x) [] log refl form s

  begins : (newer : List Event) → events ≡ newer ++ [] → Stands []
  begins newer whole =
      let first : So start [] [] = record { goes = goes_first jobs then start f power; finished = λ asked. absurd (asked tt); fails_not = tt; refuses = tt; brings = tt; shared = λ cost costs. shared_first jobs start (cost + 4) } in
      record {
        so = logged newer [] whole (λ a h. h) (λ s. tt) (subst (So start []) (sym (none_before log)) first);
        newest = sym (ap (λ (z : Tunnel). z.now) f.tunnel);
        there = λ a h. h;
        capable = λ a d is. (f.devices a d is).capacities;
        kept = λ s. tt;
        idly = tt;
        heard = tt;
      }

  module _ (past : List Event) (s : Stands past) where
    abbrev w : World
    w = replay start past

    abbrev places : List Placed
    places = placed start past

    abbrev m : ℕ
    m = length past

    abbrev now_log : List LogEntry
    now_log = log_before (suc m) log

    abbrev E : Option Ldata → List Ldata → Type 0
    E = Whole jobs then (me w) now_log places w.devices w.tunnel.now

    early : (a : ℕ) (h : HeldJob jobs now_log a) → h.since ≤ m
    early a h = held_before h.number m h.worker h.since log h.held

    -- ---- time passes

    module _ (ms : ℕ) (c : line.IsCalm w (Pass (suc ms))) (may : MayDo (entries places) (entry Quiet (w.tunnel.now + suc ms))) (busy : has_just_waited (entries places) ≡ false → HasSent jobs now_log places (suc m)) where
      none_yet : (a : ℕ) (h : HeldJob jobs now_log a) → stretches a (after h.since (moments places)) ≡ []
      none_yet a h = by_inv s.so.goes where
        by_inv : Inv E (entries places) w.tunnel → stretches a (after h.since (moments places)) ≡ []
        by_inv (inl l) =
            elim (lives_rides E (entries places) w.tunnel (suc ms) l c.settled.tunnel may) [
              | inl fresh ↦ (let x = ridden E (entries places) w.tunnel l in subst (λ z. stretches a z ≡ []) (x.so.held a h).since_is (x.so.fresh fresh a))
              | inr r ↦
                  subst (λ z. stretches a z ≡ []) (r.0.held a h).since_is
                  (none_began jobs then start on_line (me w) m now_log places (upto_next start past) early w.devices s.there w.tunnel s.newest (λ b d is. c.settled.nothing_to_send.devices b d is) busy [] (inr (refl, r.1)) r.0 a h)
            ]
        by_inv (inr (inl p)) = absurd (parted_pass (entries places) w.tunnel p c.settled.tunnel)
        by_inv (inr (inr g)) = absurd (none_held jobs turns now_log h.number h.worker h.since h.job (s.so.finished g.asked) h.there h.held)

      idle : IsIdle jobs now_log places
      idle =
          record {
            channel_is = idle_of E (entries places) w.tunnel (suc ms) s.so.goes c.settled.tunnel may;
            jobs_are = λ k worker since upto job there held. none_between job.device.raw since upto (moments places) (none_yet job.device.raw (record { number = k; job = job; worker = worker; since = since; there = there; of_device = refl; held = held }));
          }

    -- ---- what the client does at an event

    asks_on : (now : ℕ) (o : Option Item) → IsSo jobs turns log (placed_if (suc m) now o places) → (item : Item) → o ≡ Some item → MayPutSo jobs then turns start served on_line (me w) m now_log places (moments_upto start past) (upto_next start past) early item now
    asks_on now None so item e = absurd (cc)
    asks_on now (Some what) so item e =
        (let same : what ≡ item = cc in
        subst (λ z. MayPutSo jobs then turns start served on_line (me w) m now_log places (moments_upto start past) (upto_next start past) early z now) same (so.asks.0, so.begins.0))

    finished_on : (now : ℕ) (o : Option Item) → IsSo jobs turns log (placed_if (suc m) now o places) → WhereAsked jobs turns now_log (entries places) → WhereAsked jobs turns now_log (entries (placed_if (suc m) now o places))
    finished_on now None so h = h
    finished_on now (Some what) so h = asked_more jobs turns now_log (entry what now) (entries places) so.hastens.0.ends h

    kept_on : (now : ℕ) (o : Option Item) → (StaysOpen (entries places) → Every NotLost (moments places)) → KeepsItsChannel (entries (placed_if (suc m) now o places)) → StaysOpen (entries (placed_if (suc m) now o places)) → Every NotLost (moments (placed_if (suc m) now o places))
    kept_on now None kept it stays = kept stays
    kept_on now (Some what) kept it stays =
        ((λ is. let lost = lost_deed (channel (entries places)) (entry what now) is in subst IsKept lost.1 (it stays)), kept stays.1)

    quiet_busy : (ms now : ℕ) → now ≡ w.tunnel.now + suc ms → IsSo jobs turns log (placed_if (suc m) now (Some Quiet) places) → has_just_waited (entries places) ≡ false → HasSent jobs now_log places (suc m)
    quiet_busy ms now is so just =
        let newest = s.newest in
        let later : newest_time (entries places) < now = omega (arith, newest, is) in
        so.hastens.0.busy (lt-ltb (newest_time (entries places)) now later) just

    -- by the event's name
    times_pass : (ms : ℕ) → line.IsCalm w (Pass ms) → MayDo (entries places) (entry Quiet (w.tunnel.now + ms)) → IsSo jobs turns log (placed_if (suc m) (w.tunnel.now + ms) (Some Quiet) places) → Times jobs then turns start served on_line m now_log places (moments_upto start past) (upto_next start past) early w ms
    times_pass ms c may so =
        record {
          nothing = quiet_nothing (channel (entries places)) (w.tunnel.now + ms) (idle_of E (entries places) w.tunnel ms s.so.goes c.settled.tunnel may);
          back = fresh_before (channel (entries places)) (entry Quiet (w.tunnel.now + ms)) refl;
          busy = by_ms ms so;
        }
      where
        by_ms : (k : ℕ) → IsSo jobs turns log (placed_if (suc m) (w.tunnel.now + k) (Some Quiet) places) → (k ≡ 0) ⊎ (has_just_waited (entries places) ≡ false → HasSent jobs now_log places (suc m))
        by_ms zero so = inl refl
        by_ms (suc k) so = inr (quiet_busy k (w.tunnel.now + suc k) refl so)

    times : (e : Event) → line.IsCalm w e → May (entries places) (item_of w.tunnel (tunnel_event w e)) (tunnel.after w.tunnel (tunnel_event w e)).now → IsSo jobs turns log (placed_if (suc m) (tunnel.after w.tunnel (tunnel_event w e)).now (item_of w.tunnel (tunnel_event w e)) places)
        → TimesSo jobs then turns start served on_line m now_log places (moments_upto start past) (upto_next start past) early w e
    times (Send octets) c may so = tt
    times (From endpoint octets) c may so = tt
    times Renew c may so = tt
    times (Up age) c may so = tt
    times (UpRefused age status) c may so = tt
    times (Down age) c may so = tt
    times (LoseUp age) c may so = tt
    times (LoseDown age) c may so = tt
    times (Bus left_out) c may so = tt
    times (BusTorn fresh octets) c may so = tt
    times (BusWorn octets) c may so = tt
    times (BusAgain device) c may so = tt
    times (DevSend device gateway left_out) c may so = tt
    times (DevRepeat device gateway) c may so = tt
    times (DevClose device) c may so = tt
    times GwAgain c may so = tt
    times GwRepeat c may so = tt
    times GwClose c may so = tt
    times (Cut device) c may so = tt
    times (On device) c may so = tt
    times (Pass ms) c may so = times_pass ms c (may Quiet refl) so

    idle_at : (e : Event) → line.IsCalm w e → May (entries places) (item_of w.tunnel (tunnel_event w e)) (tunnel.after w.tunnel (tunnel_event w e)).now → IsSo jobs turns log (placed_if (suc m) (tunnel.after w.tunnel (tunnel_event w e)).now (item_of w.tunnel (tunnel_event w e)) places) → IsIdleAt jobs now_log places e
    idle_at (Pass zero) c may so = tt
    idle_at (Pass (suc ms)) c may so = idle ms c (may Quiet refl) (quiet_busy ms (w.tunnel.now + suc ms) refl so)
    idle_at (Send octets) c may so = tt
    idle_at (From endpoint octets) c may so = tt
    idle_at Renew c may so = tt
    idle_at (Up age) c may so = tt
    idle_at (UpRefused age status) c may so = tt
    idle_at (Down age) c may so = tt
    idle_at (LoseUp age) c may so = tt
    idle_at (LoseDown age) c may so = tt
    idle_at (Bus left_out) c may so = tt
    idle_at (BusTorn fresh octets) c may so = tt
    idle_at (BusWorn octets) c may so = tt
    idle_at (BusAgain device) c may so = tt
    idle_at (DevSend device gateway left_out) c may so = tt
    idle_at (DevRepeat device gateway) c may so = tt
    idle_at (DevClose device) c may so = tt
    idle_at GwAgain c may so = tt
    idle_at GwRepeat c may so = tt
    idle_at GwClose c may so = tt
    idle_at (Cut device) c may so = tt
    idle_at (On device) c may so = tt

    shared_on : (now : ℕ) (o : Option Item) → IsSo jobs turns log (placed_if (suc m) now o places) → ((item : Item) → o ≡ Some item → HeardSo jobs start now_log places (record { at = suc m; what = entry item now })) → (cost : ℕ)
        → Shared jobs start now_log places (cost + 4) → Shared jobs start now_log (placed_if (suc m) now o places) (cost + 4)
    shared_on now None so heard_at cost shared = shared
    shared_on now (Some item) so heard_at cost shared =
        shared_more jobs turns start now_log places (cost + 4) m (record { at = suc m; what = entry item now }) refl (moments_upto start past) (λ k worker since job there held. held_before k m worker since log held) shared so.asks.0 (heard_at item refl)

    -- ---- so it stands after the event

    stands_on : (newer : List Event) (e : Event) → events ≡ newer ++ e ∷ past → IsLegal Commissions start (e ∷ past) → line.AreCalm start (e ∷ past) → AreShort start (e ∷ past) → IsSo jobs turns log (placed start (e ∷ past)) → Stands (e ∷ past)
    stands_on newer e whole legal calm short so =
        let t : Tunnel = w.tunnel in
        let te : TunnelEvent = tunnel_event w e in
        let o : Option Item = item_of t te in
        let n : ℕ = (tunnel.step t te).now in
        let same : n ≡ (tunnel.after t te).now = step_now t te in
        let k : Keeps (noted o n (entries places)) = subst Keeps (entries_if (suc m) n o places) (keeps jobs turns log (placed_if (suc m) n o places) so) in
        let may : May (entries places) o n = may_of o n (entries places) k in
        let may_after : May (entries places) o (tunnel.after t te).now = subst (λ z. May (entries places) o z) same may in
        let so_after : IsSo jobs turns log (placed_if (suc m) (tunnel.after t te).now o places) = subst (λ z. IsSo jobs turns log (placed_if (suc m) z o places)) same so in
        let own : Owned w = owned start past f in
        let none : NoStrays (channel (entries places)) t.gateway.channel = subst (λ (z : List Entry). NoStrays (channel z) t.gateway.channel) (sym (entries_placed start past)) (own_frames start past f legal.1) in
        let newest : newest_time (noted o (tunnel.after t te).now (entries places)) ≡ (tunnel.after t te).now = newest_after t te (entries places) (event_calm w e own calm.0 short.0) s.newest in
        let there : AllThere (step w e) = λ a h. devices_there w e calm.0 a (s.there a h) in
        let goes : Goes jobs then (step w e) now_log (placed_if (suc m) n o places)
        = goes_on jobs then turns start served on_line m now_log places (moments_upto start past) (upto_next start past) early w e s.so.goes s.capable none s.newest own calm.0 short.0 legal.0 may (asks_on (tunnel.after t te).now o so_after) (times e calm.0 may_after so_after) s.there in
        let kept : StaysOpen (entries (placed_if (suc m) n o places)) → Every NotLost (moments (placed_if (suc m) n o places))
        = kept_on n o s.kept (kept_of (Whole jobs then (me (step w e)) now_log (placed_if (suc m) n o places) (step w e).devices (step w e).tunnel.now) (entries (placed_if (suc m) n o places)) (step w e).tunnel goes) in
        let heard_at : (item : Item) → o ≡ Some item → HeardSo jobs start now_log places (record { at = suc m; what = entry item n })
        = λ item is. hears jobs then start (me w) now_log places w.devices m t s.there te none s.so.goes legal.0.tunnel (event_calm w e own calm.0 short.0) may item is in
        let after_event : So (step w e) (placed_if (suc m) n o places) now_log = record { goes = goes; finished = finished_on n o so s.so.finished; fails_not = s.so.fails_not; refuses = s.so.refuses; brings = s.so.brings; shared = λ cost costs. shared_on n o so heard_at cost (s.so.shared cost costs) } in
        record {
          so = logged newer (e ∷ past) whole there kept after_event;
          newest = ap newest_time (entries_if (suc m) n o places) ∙ subst (λ z. newest_time (noted o z (entries places)) ≡ z) (sym same) newest;
          there = there;
          capable = devices_have w e calm.0 s.capable;
          kept = kept;
          idly = (idle_at e calm.0 may_after so_after, s.idly);
          heard = heard_if_noted jobs then start (me w) now_log places w.devices m t s.there te log o refl heard_at s.heard refl;
        }

  append_one : (l : List Event) (e : Event) (past : List Event) → l ++ e ∷ past ≡ (l ++ e ∷ []) ++ past
  append_one [] e past = refl
  append_one (x ∷ l) e past = ap (λ z. x ∷ z) (append_one l e past)

  always : (newer past : List Event) → events ≡ newer ++ past → IsLegal Commissions start past → line.AreCalm start past → AreShort start past → IsSo jobs turns log (placed start past) → Stands past
  always newer [] whole legal calm short so = begins newer whole
  always newer (e ∷ past) whole legal calm short so =
      let w : World = replay start past in
      let before : IsSo jobs turns log (placed start past) = so_before jobs turns log (suc (length past)) (step w e).tunnel.now (item_of w.tunnel (tunnel_event w e)) (placed start past) so in
      stands_on past (always (newer ++ e ∷ []) past (whole ∙ append_one newer e past) legal.1 calm.1 short.1 before) newer e whole legal calm short so

  abbrev SharesAll : Type 0
  SharesAll =
      (cost : ℕ) → AllCost jobs cost → StaysOpen (entries (placed start events))
      → 2 * requests_put (entries (placed start events)) + frames_taken (entries (placed start events)) ≤ length jobs * (cost + 4) + (2 * group_requests (entries (placed start events)) + strangers start (entries (placed start events)))

  shares_all : Stands events → log_before (suc (length events)) log ≡ log → SharesAll
  shares_all s all cost costs stays =
      let sh = s.so.shared cost costs in
      let form_all : IsLog jobs turns (length events) (log_before (suc (length events)) log) = subst (IsLog jobs turns (length events)) (sym all) form in
      let sums = sh.sum stays in
      let bound = shared_all jobs turns (length events) start (log_before (suc (length events)) log) (placed start events) (cost + 4) form_all sh
      (λ k worker since job there held. held_brings (replay start events) (placed start events) (length events) (moments_upto start events) (link [] events refl) s.there s.kept (is_now [] events refl) (log_before (suc (length events)) log) s.so.goes s.so.finished k worker since cost job there held (costs k job there)) in
      omega (arith, sums, bound)

  right : IsLegal Commissions start events → line.AreCalm start events → AreShort start events → IsSo jobs turns log (placed start events) → IsPrompt jobs start log events × RefusesRightly jobs start events log × EachBrings jobs (placed start events) log × EachHeard jobs start log (placed start events) × SharesAll
  right legal calm short so =
      let s : Stands events = always [] events refl legal calm short so in
      let all : log_before (suc (length events)) log ≡ log = all_before jobs turns (length events) (suc (length events)) (length events) log form (so_far jobs turns (length events) log form) (omega arith) in
      (record { idle = s.idly; nothing_failed = subst NothingFailed all s.so.fails_not }, subst (RefusesRightly jobs start events) all s.so.refuses, subst (EachBrings jobs (placed start events)) all s.so.brings, s.heard, shares_all s all)

on_line_of : (jobs : List Job) (start : World) → HasDevices jobs start → (k : ℕ) (job : Job) → job_of jobs k ≡ Some job → start.devices job.device.raw ≢ None
on_line_of jobs start devices k job is = none_not (start.devices job.device.raw) (each_of (λ (j : Job). OfDevice (λ d. d.power ≡ true) (start.devices j.device.raw)) jobs devices k job is) where
  none_not : (o : Option DeviceState) → OfDevice (λ d. d.power ≡ true) o → o ≢ None
  none_not None h e = h
  none_not (Some d) h e = cc

module _ (jobs : List Job) (turns : List GroupTurn) (start : World) (events : List Event) (log : List LogEntry) (served : AllByRecursion IsServedJob jobs) (devices : HasDevices jobs start) (power : HavePower start) (client : IsPromptClient jobs turns start events log) (calm : line.AreCalm start events)
    (values : HaveShortValues start) where
  both : IsPrompt jobs start log events × RefusesRightly jobs start events log × EachBrings jobs (placed start events) log × EachHeard jobs start log (placed start events)
      × ((cost : ℕ) → AllCost jobs cost → StaysOpen (entries (placed start events))
      → 2 * requests_put (entries (placed start events)) + frames_taken (entries (placed start events)) ≤ length jobs * (cost + 4) + (2 * group_requests (entries (placed start events)) + strangers start (entries (placed start events))))
  both =
      let safe = client.safe.safe in
      right jobs turns start (each_of IsServedJob jobs served) (on_line_of jobs start devices) client.safe.fresh power log events safe.form safe.alone safe.truly client.ends client.safe.legal calm (are_short start events client.safe.fresh values calm)
      (record { renews = safe.renews; sends = safe.sends; acknowledges = client.acknowledges; hastens = client.hastens; asks = safe.asks; begins = client.begins })

  pub nothing_fails : IsPrompt jobs start log events
  nothing_fails = both.0

  pub refuses_rightly : RefusesRightly jobs start events log
  refuses_rightly = both.1

  pub each_brings : EachBrings jobs (placed start events) log
  each_brings = both.2

  pub each_heard : EachHeard jobs start log (placed start events)
  each_heard = both.3

  -- and what comes is shared out among the jobs
  pub comes_for_jobs : ComeForJobs jobs start (record_of start events)
  comes_for_jobs cost costs stays =
      let safe = client.safe.safe in
      let so : IsSo jobs turns log (placed start events) = record { renews = safe.renews; sends = safe.sends; acknowledges = client.acknowledges; hastens = client.hastens; asks = safe.asks; begins = client.begins } in
      let come = come_on_line start events client.safe.fresh client.safe.legal calm (are_short start events client.safe.fresh values calm) (subst Keeps (entries_placed start events) (keeps jobs turns log (placed start events) so)) stays in
      let P : List Entry → Type 0 = λ r. StaysOpen r → 2 * requests_put r + frames_taken r ≤ length jobs * (cost + 4) + (2 * group_requests r + strangers start r) in
      let sums : 2 * requests_put (record_of start events) + frames_taken (record_of start events) ≤ length jobs * (cost + 4) + (2 * group_requests (record_of start events) + strangers start (record_of start events))
      = subst P (entries_placed start events) (both.4 cost costs) stays in
      omega (arith, come, sums)

  -- where no group telegram asks for a value, none but those of the jobs and the telegrams come
  pub comes_for_writes : some_reads turns ≡ false → ComeForWrites jobs turns (record_of start events)
  comes_for_writes none cost costs stays =
      let safe = client.safe.safe in
      let short : AreShort start events = are_short start events client.safe.fresh values calm in
      let so : IsSo jobs turns log (placed start events) = record { renews = safe.renews; sends = safe.sends; acknowledges = client.acknowledges; hastens = client.hastens; asks = safe.asks; begins = client.begins } in
      let keeps_all : Keeps (record_of start events) = subst Keeps (entries_placed start events) (keeps jobs turns log (placed start events) so) in
      let asks : AsksNothing start (record_of start events) = subst (AsksNothing start) (entries_placed start events) (asks_nothing jobs turns start none log (placed start events) safe.asks) in
      let few : group_requests (record_of start events) ≤ length turns = subst (λ (r : List Entry). group_requests r ≤ length turns) (entries_placed start events) (few_requests jobs turns (length events) start log safe.form events safe.asks) in
      let no_other = none_strange start client.safe.fresh events client.safe.legal calm short keeps_all asks stays in
      let come = comes_for_jobs cost costs stays in
      omega (arith, come, few, no_other)

  pub ends_well : EndWell jobs log
  ends_well = end_well jobs turns start events client.safe.fresh calm (on_line_of jobs start devices) (length events) log client.safe.safe.form both.0.nothing_failed both.1

  -- no try to get a channel fails
  pub no_try_fails : tries (record_of start events) ≡ []
  no_try_fails =
      let safe = client.safe.safe in
      let so : IsSo jobs turns log (placed start events) = record { renews = safe.renews; sends = safe.sends; acknowledges = client.acknowledges; hastens = client.hastens; asks = safe.asks; begins = client.begins } in
      none_fails_on_line start events client.safe.fresh client.safe.legal calm (are_short start events client.safe.fresh values calm) (subst Keeps (entries_placed start events) (keeps jobs turns log (placed start events) so))

  pub checks_right : IsUntouched jobs start events log → StaysDone jobs start events log → RunsWhereDone jobs start events log → AllByRecursion IsAnsweredRightly jobs → HaveOneImage jobs → ChecksExactly jobs start log
  checks_right untouched stays done answered one_image =
      checks_exactly jobs turns start events log client.safe.fresh calm (on_line_of jobs start devices) client.safe.safe.form client.safe.safe.alone both.0.nothing_failed both.1 untouched stays done (each_of IsAnsweredRightly jobs answered) one_image
