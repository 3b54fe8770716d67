-- What a worker's turn comes to, for the record and for the log.
use Rattle.std.proofs.Common.{◌≡◌, ℕ, ◌+◌, ◌-◌, ◌≤◌, false, List, map, Option, Some, refl, sym, ap, subst, ◌∙◌, suc}
use Rattle.std.specs.Prelude.{slice_get, option_map}
use Rattle.std.proofs.lemmas.Option.{same_Some}
use Rattle.line_model.specs.declared.group.GroupTurn.{GroupTurn}
use Rattle.line_model.specs.declared.log.LogWhat.{LogWhat}
use Rattle.line_model.specs.Record.{Placed}
use Rattle.line_model.specs.Moments.{Moment, moments, between}
use Rattle.line_model.specs.Log.{Job, turn_of, state_of, turn_place}
use Rattle.line_model.specs.Told.{IsTrue, ToldTruly}
use Rattle.line_model.specs.Reading.{ldata_in}
use Rattle.line_model.specs.Ends.{EndsAtRest, EndsSo}
use Rattle.device_reservation.specs.Reservation.{Reservation}
use Rattle.download_core.specs.declared.did.Did.{Did}
use Rattle.download_core.specs.declared.did.Did.TheVariants as did
use Rattle.download_core.specs.Attempt.{DownloaderState}
use Rattle.download_core.specs.Steps.{next_did, stepped}
use Rattle.download_core.specs.Turns.{IsDownloaderOf, entry_of}
use Rattle.hub_work.specs.declared.answers.Turned.{Turned}
use Rattle.hub_work.specs.declared.crew.Held.{Held as Holds}
use Rattle.hub_work.specs.declared.work.Sender.TheVariants.{Worker}
use Rattle.hub_work.specs.declared.work.Work.{Work}
use Rattle.hub_work.specs.declared.work.turn.Turn.{Turn}
use Rattle.hub_work.specs.declared.work.turn.Turn.TheVariants as turn
use Rattle.hub_work.specs.Books.{held_at}
use Rattle.hub_work.specs.Comes.{EndFollows, TookFollows}
use Rattle.hub_work.specs.Crew.{Holding, holdings, after_begun}
use Rattle.hub_work.specs.Downloaders.{states, downloader_of, changed, task_of_state}
use Rattle.hub_work.specs.Laws.{Laws}
use Rattle.hub_work.specs.Fits.{Fits, FitsJob, FitsTelegram}
use Rattle.hub_work.specs.Follows.{TurnFollows, TellsTruly}
use Rattle.hub_work.specs.Journals.{Written}
use Rattle.line_frames.specs.Requests.{request_with}
use Rattle.hub_work.specs.Telegrams.{Telling}
use Rattle.hub_work.specs.Works.{KeepsBooks, SameBooks}
use Rattle.hub_work.proofs.Crews.{IsHeldSo, held_so}
use Rattle.hub_work.proofs.Put.{put_follows}
use Rattle.hub_work.proofs.Undecided.{ends_at_rest}

-- ---- nothing of the record or of the log

-- the same, but for what came for the workers and for how far the jobs are in the reservation
module _ (v w : Work) (devices : v.reservation.devices ≡ w.reservation.devices) (ds : v.downloaders ≡ w.downloaders) (same : holdings v.crew ≡ holdings w.crew) (telling : v.telegrams ≡ w.telegrams) (sender : v.sender ≡ w.sender) (journal : v.journal ≡ w.journal) where
  job_same : (now k worker : ℕ) (job : Job) (x : List Moment) → FitsJob w now x k worker job → FitsJob v now x k worker job
  job_same now k worker job x j = record {
    state = j.state;
    there = ap (λ d. downloader_of (states d) k) ds ∙ j.there;
    device = j.device;
    plan = j.plan;
    from_1 = j.from_1;
    fits = j.fits;
    flight = λ moves. sender ∙ j.flight moves;
    holds = ap (λ (hs : List (Option Holding)). slice_get hs (worker - 1)) same ∙ j.holds;
  }

  pub same_fits : (jobs : List Job) (now at : ℕ) (l : List Moment) → Fits jobs w now at l → Fits jobs v now at l
  same_fits jobs now at l f = record {
    devices = f.devices ∙ sym devices;
    tasks = f.tasks ∙ ap (λ d. map task_of_state (states d)) (sym ds);
    sendable = f.sendable;
    so_far = f.so_far;
    untaken = λ k job there e. ap (λ d. downloader_of (states d) k) ds ∙ f.untaken k job there (ap (λ (n : Written). state_of k n.entries) (sym journal) ∙ e);
    held = λ k worker since job there e. job_same now k worker job (between since at l) (f.held k worker since job there (ap (λ (n : Written). state_of k n.entries) (sym journal) ∙ e));
    telegram =
        subst (λ (t : Telling). FitsTelegram (turn_of t.turns (t.told + 1)) t.stage (between (turn_place t.told v.journal.entries) at l)) (sym telling)
        (subst (λ (n : Written). FitsTelegram (turn_of w.telegrams.turns (w.telegrams.told + 1)) w.telegrams.stage (between (turn_place w.telegrams.told n.entries) at l)) (sym journal) f.telegram);
    group = (λ g. ap (λ (t : Telling). t.stage) telling ∙ f.group.0 (sym sender ∙ g), λ u. sender ∙ f.group.1 (sym (ap (λ (t : Telling). t.stage) telling) ∙ u));
    free = λ e. sender ∙ f.free e;
  }

pub counted_follows : (now at : ℕ) (old : Work) (crew : List (Option Holds)) (turned : Turned) → holdings crew ≡ holdings old.crew → TurnFollows now at old (record old { crew = crew }) (turn.Did turned)
counted_follows now at old crew turned same jobs places f = (same_fits (record old { crew = crew }) old refl refl same refl refl refl jobs now at (moments places) f, record { truly = λ told. told; rests = λ rests. rests })

-- ---- it took a job

pub taken_follows : (now at : ℕ) (old new : Work) (r : Reservation) (turned : Turned) (did : Turn) → did ≡ turn.Did turned → r.devices ≡ old.reservation.devices → TookFollows at (record old { reservation = r }) new → TurnFollows now at old new did
taken_follows now at old new r turned did is devices follows = subst (λ (t : Turn). TurnFollows now at old new t) (sym is)
    (λ jobs places f.
    let told : Fits jobs new now at (moments places) × TellsTruly jobs places (record old { reservation = r }) new = follows jobs places now (same_fits (record old { reservation = r }) old devices refl refl refl refl refl jobs now at (moments places) f) in
    (told.0, record { truly = told.1.truly; rests = told.1.rests }))

-- ---- it puts

pub puts_follows : (laws : Laws) (old new : Work) (worker now at : ℕ) (h : Holds) (tpdu cemi : List ℕ) → KeepsBooks at old → 1 ≤ worker → Some h ≡ held_at old.crew (worker - 1) → Some (did.Send tpdu) ≡ option_map (λ (x : DownloaderState). next_did x now) (downloader_of (states old.downloaders) h.job)
    → ldata_in cemi ≡ Some (request_with false h.device.raw tpdu) → SameBooks old new → states new.downloaders ≡ changed (λ (x : DownloaderState). stepped x now) h.job (states old.downloaders) → holdings new.crew ≡ after_begun (worker - 1) (holdings old.crew)
    → new.sender ≡ Worker worker → new.telegrams ≡ old.telegrams → TurnFollows now at old new (turn.Puts cemi)
puts_follows laws old new worker now at h tpdu cemi books from holds next reads same ds held sender telling jobs places f = (
  λ free. put_follows laws jobs places old new worker now at h tpdu cemi books f from holds next reads same ds held sender telling free,
  record {
    truly = λ told. subst (λ (ts : List GroupTurn). ToldTruly jobs ts places new.journal.entries) (sym same.turns) (subst (λ (w : Written). ToldTruly jobs old.telegrams.turns places w.entries) (sym same.journal) told);
    rests = λ rests. subst (λ (w : Written). EndsAtRest jobs places w.entries) (sym same.journal) rests;
  },
)

-- ---- it tells the job's end

end_of : (laws : Laws) (old new : Work) (worker now at : ℕ) (h : Holds) (d : Did) (what : LogWhat) → KeepsBooks at old → 1 ≤ worker → Some h ≡ held_at old.crew (worker - 1) → Some d ≡ option_map (λ (x : DownloaderState). next_did x now) (downloader_of (states old.downloaders) h.job)
    → entry_of h.job d ≡ Some what → EndFollows at what old new → (jobs : List Job) (places : List Placed) → Fits jobs old now at (moments places) → Fits jobs new now at (moments places) × TellsTruly jobs places old new
end_of laws old new worker now at h d what books from holds next entry follows jobs places f = (e.0, e.1 is_true rests)
  where
    its : IsHeldSo jobs old at (worker - 1) h
    its = held_so jobs old now at (moments places) (worker - 1) h books f holds

    j : FitsJob old now (between its.since at (moments places)) h.job (suc (worker - 1)) its.job
    j = f.held h.job (suc (worker - 1)) its.since its.job its.there its.held

    next_is : next_did j.state now ≡ d
    next_is = sym (same_Some d (next_did j.state now) (next ∙ ap (λ (p : Option DownloaderState). option_map (λ (x : DownloaderState). next_did x now) p) j.there))

    is_downloader : IsDownloaderOf j.state now jobs old.journal.entries places at h.job
    is_downloader = record {
      job = its.job;
      since = its.since;
      holds = record { there = its.there; worker = suc (worker - 1); held = its.held };
      device = j.device;
      plan = j.plan;
      fits = j.fits;
    }

    is_true : IsTrue jobs old.telegrams.turns places old.journal.entries at what
    is_true = laws.logs j.state now jobs old.telegrams.turns old.journal.entries places at h.job what is_downloader (ap (entry_of h.job) next_is ∙ entry)

    rests : EndsSo jobs places old.journal.entries at what
    rests = ends_at_rest laws.ends jobs places old.journal.entries j.state now at h.job (suc (worker - 1)) its.since its.job d what its.there its.held j.device j.plan j.fits next_is entry

    e : Fits jobs new now at (moments places) × (IsTrue jobs old.telegrams.turns places old.journal.entries at what → EndsSo jobs places old.journal.entries at what → TellsTruly jobs places old new)
    e = follows jobs places now f

pub ends_follow : (laws : Laws) (old new : Work) (worker now at : ℕ) (h : Holds) (d : Did) (what : LogWhat) (turned : Turned) (result : Turn) → result ≡ turn.Did turned → KeepsBooks at old → 1 ≤ worker → Some h ≡ held_at old.crew (worker - 1) → Some d ≡ option_map (λ (x : DownloaderState). next_did x now) (downloader_of (states old.downloaders) h.job)
    → entry_of h.job d ≡ Some what → EndFollows at what old new → TurnFollows now at old new result
ends_follow laws old new worker now at h d what turned result is books from holds next entry follows = subst (λ (t : Turn). TurnFollows now at old new t) (sym is) (λ jobs places f. end_of laws old new worker now at h d what books from holds next entry follows jobs places f)
