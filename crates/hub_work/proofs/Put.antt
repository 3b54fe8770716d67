-- What a worker puts for its job is a right request, and the work fits the record once it is put.
use Rattle.std.proofs.Common.{◌≡◌, ◌≢◌, inl, inr, ℕ, suc, ◌-◌, ◌≤◌, true, false, List, ◌∷◌, Option, Some, None, refl, sym, ap, subst, ◌∙◌, arith}
use Rattle.std.specs.Prelude.{slice_get, nat_le, option_map}
use Rattle.std.proofs.lemmas.Bool.{cases_eq}
use Rattle.std.proofs.lemmas.Option.{same_Some}
use Rattle.knx_model.specs.declared.address.IndAddr.{IndAddr}
use Rattle.knx_model.specs.declared.connection.TransportFrame.TheVariants.{Connect}
use Rattle.knx_model.specs.Connection.{frame_in}
use Rattle.knx_model.specs.Plans.{Plan}
use Rattle.line_model.specs.declared.group.GroupTurn.{GroupTurn}
use Rattle.line_model.specs.Reading.{ldata_in}
use Rattle.line_model.specs.Record.{Placed, entries}
use Rattle.line_model.specs.ClientView.{Puts, channel}
use Rattle.line_model.specs.Moments.{Moment, moments, between}
use Rattle.line_model.specs.Log.{Job, Untaken, Held, job_of, state_of}
use Rattle.line_model.specs.Attempts.{begun, attempts, MayBegin, MayPut}
use Rattle.line_model.specs.Asks.{HasPlace, IsRightRequest}
use Rattle.line_model.specs.Ends.{IsUndecided, BeginsSo}
use Rattle.download_core.specs.declared.did.Did.{Did}
use Rattle.download_core.specs.declared.did.Did.TheVariants as did
use Rattle.download_core.specs.Attempt.{DownloaderState}
use Rattle.download_core.specs.Steps.{next_did, stepped, is_send}
use Rattle.download_core.specs.Record.{FitsRecord}
use Rattle.download_core.specs.Follows.{flies}
use Rattle.hub_work.specs.declared.crew.Held.{Held as Holds}
use Rattle.hub_work.specs.declared.telegrams.Stage.{Stage}
use Rattle.hub_work.specs.declared.telegrams.Stage.TheVariants.{UnderWay}
use Rattle.hub_work.specs.declared.work.Sender.TheVariants.{Nobody, Worker, GroupThread}
use Rattle.hub_work.specs.declared.work.Work.{Work}
use Rattle.hub_work.specs.Books.{held_at}
use Rattle.hub_work.specs.Crew.{Holding, holdings, after_begun}
use Rattle.hub_work.specs.Downloaders.{states, downloader_of, changed}
use Rattle.hub_work.specs.Laws.{Laws}
use Rattle.hub_work.specs.Fits.{Fits, FitsJob, FitsTelegram, in_flight}
use Rattle.hub_work.specs.Follows.{IsNew, PutFollows}
use Rattle.hub_work.specs.Comes.{PutsTo}
use Rattle.line_frames.specs.Requests.{request_with}
use Rattle.hub_work.specs.Journals.{Written}
use Rattle.hub_work.specs.Telegrams.{Telling}
use Rattle.hub_work.specs.Works.{KeepsBooks, SameBooks}
use Rattle.hub_work.proofs.Begun.{flying_begun, begun_stays}
use Rattle.hub_work.proofs.Between.{same_up_to}
use Rattle.hub_work.proofs.Changed.{changed_there, changed_elsewhere}
use Rattle.hub_work.proofs.Crews.{IsHeldSo, held_so, same_slot, holding_at, begun_there, begun_elsewhere}
use Rattle.hub_work.proofs.Deeds.{puts_to}
use Rattle.hub_work.proofs.Events.{fits_on}
use Rattle.hub_work.proofs.Heard.{one_job}
use Rattle.hub_work.proofs.JobEvents.{Becomes, aside_becomes}
use Rattle.hub_work.proofs.Stages.{settled_telegram}
use Rattle.hub_work.proofs.Stepped.{stepped_device, stepped_plan}
use Rattle.hub_work.proofs.Undecided.{LeavesUndecided, undecided}

-- what comes next of a downloader that is there
its_next : (o : Option DownloaderState) (s : DownloaderState) (now : ℕ) (d : Did) → o ≡ Some s → Some d ≡ option_map (λ (x : DownloaderState). next_did x now) o → next_did s now ≡ d
its_next o s now d there e = sym (same_Some d (next_did s now) (e ∙ ap (λ (p : Option DownloaderState). option_map (λ (x : DownloaderState). next_did x now) p) there))

same_holder : (w v s t : ℕ) → Held w s ≡ Held v t → w ≡ v
same_holder w v s t e = cc

same_since : (w v s t : ℕ) → Held w s ≡ Held v t → s ≡ t
same_since w v s t e = cc

module _ (laws : Laws) (jobs : List Job) (places : List Placed) (old new : Work) (worker now at : ℕ) (h : Holds) (tpdu cemi : List ℕ) (books : KeepsBooks at old) (f : Fits jobs old now at (moments places)) (from : 1 ≤ worker) (holds : Some h ≡ held_at old.crew (worker - 1))
    (next : Some (did.Send tpdu) ≡ option_map (λ (x : DownloaderState). next_did x now) (downloader_of (states old.downloaders) h.job))
    (reads : ldata_in cemi ≡ Some (request_with false h.device.raw tpdu)) (same : SameBooks old new) (ds : states new.downloaders ≡ changed (λ (x : DownloaderState). stepped x now) h.job (states old.downloaders))
    (held : holdings new.crew ≡ after_begun (worker - 1) (holdings old.crew)) (sender : new.sender ≡ Worker worker) (telling : new.telegrams ≡ old.telegrams) (free : in_flight (moments places) ≡ false) where
  its : IsHeldSo jobs old at (worker - 1) h
  its = held_so jobs old now at (moments places) (worker - 1) h books f holds

  its_log : state_of h.job old.journal.entries ≡ Held worker its.since
  its_log = its.held ∙ ap (λ w. Held w its.since) (let e : suc (worker - 1) ≡ worker = omega arith in e)

  abbrev l : List Moment
  l = between its.since at (moments places)

  j : FitsJob old now l h.job worker its.job
  j = f.held h.job worker its.since its.job its.there its_log

  next_is : next_did j.state now ≡ did.Send tpdu
  next_is = its_next (downloader_of (states old.downloaders) h.job) j.state now (did.Send tpdu) j.there next

  nobody : old.sender ≡ Nobody
  nobody = f.free free

  -- it may be put
  may : (m : Moment) → m.now ≡ now → at ≤ m.at → MayPut (attempts its.job.device its.job.plan (between its.since m.at (moments places))) m.now tpdu (frame_in tpdu)
  may m time le =
      subst (λ (x : List Moment). MayPut (attempts its.job.device its.job.plan x) m.now tpdu (frame_in tpdu)) (sym (same_up_to its.since at m.at (moments places) le f.so_far))
      (subst (λ n. MayPut (attempts its.job.device its.job.plan l) n tpdu (frame_in tpdu)) (sym time)
      (subst (λ (p : Plan). MayPut (attempts its.job.device p l) now tpdu (frame_in tpdu)) j.plan
      (subst (λ (d : IndAddr). MayPut (attempts d j.state.plan l) now tpdu (frame_in tpdu)) j.device (laws.sends j.state now tpdu l j.fits next_is))))

  asks : (m : Moment) → m.now ≡ now → at ≤ m.at → HasPlace (channel (entries places)) → IsRightRequest jobs old.telegrams.turns old.journal.entries places m cemi
  asks m time le place = record {
    frame = request_with false h.device.raw tpdu;
    reads = reads;
    request = refl;
    place = place;
    why = inr (record { k = h.job; job = its.job; there = its.there; worker = worker; since = its.since; held = its_log; alone = refl; to = ap (λ (d : IndAddr). d.raw) (sym its.device); may = may m time le });
  }

  -- it begins an attempt only where the last session is undecided
  its_last : (m : Moment) → at ≤ m.at → frame_in tpdu ≡ Connect → IsUndecided its.job its.since m.at places
  its_last m le connects =
      let may_begin : MayBegin (attempts j.state.device j.state.plan l) = subst (MayPut (attempts j.state.device j.state.plan l) now tpdu) connects (laws.sends j.state now tpdu l j.fits next_is) in
      let u : LeavesUndecided its.job.device its.job.plan (between its.since m.at (moments places)) =
      subst (LeavesUndecided its.job.device its.job.plan) (sym (same_up_to its.since at m.at (moments places) le f.so_far))
      (subst (λ (p : Plan). LeavesUndecided its.job.device p l) j.plan (subst (λ (d : IndAddr). LeavesUndecided d j.state.plan l) j.device (undecided laws.ends j.state now tpdu l j.fits next_is may_begin))) in
      record { not_through = u.not_through; not_refused = u.not_refused }

  begins : (m : Moment) → at ≤ m.at → m.what ≡ Puts cemi → BeginsSo jobs old.journal.entries places m
  begins m le what k since job held connects = elim (cases_eq job.device.raw h.device.raw) [
    | inl is ↦ of_its is
    | inr apart ↦ absurd (let z : None ≡ Some Connect = sym (to.others job.device apart).put_is ∙ connects in cc)
  ]
    where
      to : PutsTo h.device.raw tpdu m
      to = puts_to m cemi h.device.raw tpdu what reads

      of_its : job.device.raw ≡ h.device.raw → IsUndecided job since m.at places
      of_its is =
          let same : k ≡ h.job = one_job jobs old now at (moments places) k h.job held.worker since worker its.since job its.job books f held.there its.there (is ∙ ap (λ (d : IndAddr). d.raw) (sym its.device)) held.held its_log in
          let one : its.job ≡ job = same_Some its.job job (sym its.there ∙ (ap (job_of jobs) (sym same) ∙ held.there)) in
          let holds_so : Held worker its.since ≡ Held held.worker since = sym its_log ∙ (ap (λ i. state_of i old.journal.entries) (sym same) ∙ held.held) in
          let frame : frame_in tpdu ≡ Connect = same_Some (frame_in tpdu) Connect (sym (to.to job.device is).put_is ∙ connects) in
          subst (λ (b : Job). IsUndecided b since m.at places) one (subst (λ s. IsUndecided its.job s m.at places) (same_since worker held.worker its.since since holds_so) (its_last m le frame))

  -- ---- once it is put

  sends : is_send (next_did j.state now) ≡ true
  sends = ap is_send next_is

  moves : flies (stepped j.state now).phase ≡ true
  moves = (laws.flights j.state now).sent sends

  device_stays : (stepped j.state now).device ≡ j.state.device
  device_stays = stepped_device j.state now

  plan_stays : (stepped j.state now).plan ≡ j.state.plan
  plan_stays = stepped_plan j.state now

  module _ (m : Moment) (later : ℕ) (e : m.what ≡ Puts cemi) (n : IsNew m now at later) where
    to : PutsTo h.device.raw tpdu m
    to = puts_to m cemi h.device.raw tpdu e reads

    fits_sent : FitsRecord (stepped j.state now) now (m ∷ l)
    fits_sent = laws.sending j.state now tpdu m l j.fits next_is n.time (to.to j.state.device (ap (λ (d : IndAddr). d.raw) (j.device ∙ its.device)))

    has_begun : nat_le 1 (begun (attempts its.job.device its.job.plan (m ∷ l))) ≡ true
    has_begun =
        ap (λ (p : Plan). nat_le 1 (begun (attempts its.job.device p (m ∷ l)))) (sym (plan_stays ∙ j.plan))
        ∙ (ap (λ (d : IndAddr). nat_le 1 (begun (attempts d (stepped j.state now).plan (m ∷ l)))) (sym (device_stays ∙ j.device))
        ∙ flying_begun (stepped j.state now).signs (stepped j.state now).phase (attempts (stepped j.state now).device (stepped j.state now).plan (m ∷ l)) moves fits_sent.job)

    its_slot : slice_get (holdings new.crew) (worker - 1) ≡ Some (Some (record { job = h.job; device = its.job.device; begun = nat_le 1 (begun (attempts its.job.device its.job.plan (m ∷ l))) }))
    its_slot =
        ap (λ (hs : List (Option Holding)). slice_get hs (worker - 1)) held
        ∙ (begun_there (worker - 1) (holdings old.crew) (record { job = h.job; device = h.device; begun = h.begun }) (holding_at old.crew (worker - 1) h holds)
        ∙ (ap (λ (d : IndAddr). Some (Some (record { job = h.job; device = d; begun = true }))) (sym its.device)
        ∙ ap (λ b. Some (Some (record { job = h.job; device = its.job.device; begun = b }))) (sym has_begun)))

    sent_job : FitsJob new now (m ∷ l) h.job worker its.job
    sent_job = record {
      state = stepped j.state now;
      there = ap (λ (all : List DownloaderState). downloader_of all h.job) ds ∙ changed_there (λ (x : DownloaderState). stepped x now) h.job (states old.downloaders) j.state j.there;
      device = device_stays ∙ j.device;
      plan = plan_stays ∙ j.plan;
      from_1 = from;
      fits = fits_sent;
      flight = λ x. sender;
      holds = its_slot;
    }

    -- another job
    other_job : (k by since : ℕ) (job : Job) → job_of jobs k ≡ Some job → state_of k old.journal.entries ≡ Held by since → k ≢ h.job → FitsJob old now (between since at (moments places)) k by job → FitsJob new now (m ∷ between since at (moments places)) k by job
    other_job k by since job there log apart i = record {
      state = i.state;
      there = ap (λ (all : List DownloaderState). downloader_of all k) ds ∙ (changed_elsewhere (λ (x : DownloaderState). stepped x now) h.job k (states old.downloaders) apart ∙ i.there);
      device = i.device;
      plan = i.plan;
      from_1 = i.from_1;
      fits = b.fits;
      flight = λ x. absurd (let s : Nobody ≡ Worker by = sym nobody ∙ i.flight x in cc);
      holds = slot;
    }
      where
        elsewhere : job.device.raw ≢ h.device.raw
        elsewhere is = apart (one_job jobs old now at (moments places) k h.job by since worker its.since job its.job books f there its.there (is ∙ ap (λ (d : IndAddr). d.raw) (sym its.device)) log its_log)

        b : Becomes i.state i.state now m (between since at (moments places))
        b = aside_becomes laws i.state now now m (between since at (moments places)) i.fits n.time (to.others i.state.device (λ is. elsewhere (ap (λ (d : IndAddr). d.raw) (sym i.device) ∙ is)))

        slot : slice_get (holdings new.crew) (by - 1) ≡ Some (Some (record { job = k; device = job.device; begun = nat_le 1 (begun (attempts job.device job.plan (m ∷ between since at (moments places)))) }))
        slot =
            ap (λ (hs : List (Option Holding)). slice_get hs (by - 1)) held
            ∙ (begun_elsewhere (worker - 1) (by - 1) (holdings old.crew) (λ is. apart (same_slot old.crew h by k job _ (subst (λ p. Some h ≡ held_at old.crew p) (sym is) holds) i.holds))
            ∙ (i.holds
            ∙ ap (λ c. Some (Some (record { job = k; device = job.device; begun = nat_le 1 c }))) (sym (begun_stays job.device job.plan m (between since at (moments places)) (to.others job.device elsewhere).put_is))))

    settled : old.telegrams.stage ≢ UnderWay
    settled u = let g : GroupThread ≡ Nobody = sym (f.group.1 u) ∙ nobody in absurd (cc)

    fits : Fits jobs new now later (m ∷ moments places)
    fits = fits_on jobs old new now now at later m (moments places) books f n (record {
      same = same;
      untaken = λ k job there u d. ap (λ (all : List DownloaderState). downloader_of all k) ds ∙ (changed_elsewhere (λ (x : DownloaderState). stepped x now) h.job k (states old.downloaders) (λ is. not_untaken k is u) ∙ d);
      held = λ k by since job there log i. elim (cases_eq k h.job) [
        | inl is ↦ same_job k by since job there log is
        | inr apart ↦ other_job k by since job there log apart i
      ];
      telegram = λ o x _ t. subst (λ (s : Stage). FitsTelegram o s (m ∷ x)) (sym (ap (λ (y : Telling). y.stage) telling)) (settled_telegram o old.telegrams.stage m x to.alone settled t);
      group = (λ g. absurd (let s : Worker worker ≡ GroupThread = sym sender ∙ g in cc), λ u. absurd (settled (sym (ap (λ (y : Telling). y.stage) telling) ∙ u)));
      free = λ x. absurd (let isnt : true ≡ false = sym (to.flies (moments places)) ∙ x in cc);
    })
      where
        not_untaken : (k : ℕ) → k ≡ h.job → state_of k old.journal.entries ≡ Untaken → ⊥
        not_untaken k is u =
            let t : Held worker its.since ≡ Untaken = sym its_log ∙ (ap (λ i. state_of i old.journal.entries) (sym is) ∙ u) in
            absurd (cc)

        same_job : (k by since : ℕ) (job : Job) → job_of jobs k ≡ Some job → state_of k old.journal.entries ≡ Held by since → k ≡ h.job → FitsJob new now (m ∷ between since at (moments places)) k by job
        same_job k by since job there log is =
            let one : its.job ≡ job = same_Some its.job job (sym its.there ∙ (ap (job_of jobs) (sym is) ∙ there)) in
            let holds_so : Held worker its.since ≡ Held by since = sym its_log ∙ (ap (λ i. state_of i old.journal.entries) (sym is) ∙ log) in
            subst (λ i. FitsJob new now (m ∷ between since at (moments places)) i by job) (sym is)
            (subst (λ (b : Job). FitsJob new now (m ∷ between since at (moments places)) h.job by b) one
            (subst (λ w. FitsJob new now (m ∷ between since at (moments places)) h.job w its.job) (same_holder worker by its.since since holds_so)
            (subst (λ s. FitsJob new now (m ∷ between s at (moments places)) h.job worker its.job) (same_since worker by its.since since holds_so) sent_job)))

  pub put_follows : PutFollows jobs places now at new cemi
  put_follows = record {
    asks = λ m time le place.
        subst (λ (ts : List GroupTurn). IsRightRequest jobs ts new.journal.entries places m cemi) (sym same.turns)
        (subst (λ (w : Written). IsRightRequest jobs old.telegrams.turns w.entries places m cemi) (sym same.journal) (asks m time le place));
    begins = λ m le what. subst (λ (w : Written). BeginsSo jobs w.entries places m) (sym same.journal) (begins m le what);
    fits = λ m later e n. fits m later e n;
  }
