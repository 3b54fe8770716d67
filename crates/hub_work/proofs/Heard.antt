-- A hub's work fits the record after a frame of a device, and after the loss of the channel.
use Rattle.std.proofs.Common.{◌≡◌, ◌≢◌, inl, inr, ℕ, suc, ◌-◌, eqb, Bool, true, false, List, ◌∷◌, Option, Some, None, refl, sym, ap, subst, ◌∙◌}
use Rattle.std.proofs.lemmas.Bool.{cases_eq, eq-eqb, eqb-true}
use Rattle.std.proofs.lemmas.Option.{same_Some}
use Rattle.knx_model.specs.declared.address.IndAddr.{IndAddr}
use Rattle.knx_model.specs.declared.frames.cemi.Ldata.{Ldata}
use Rattle.line_model.specs.Moments.{Moment, between, is_loss, confirmation_in}
use Rattle.line_model.specs.Log.{Job, Untaken, Held, SameDevice, job_of, state_of}
use Rattle.device_reservation.proofs.Logged.{one_downloader}
use Rattle.download_core.specs.Attempt.{DownloaderState}
use Rattle.download_core.specs.Calls.{taken}
use Rattle.download_core.specs.Keeps.{Known}
use Rattle.hub_work.specs.declared.crew.Held.{Held as Holds}
use Rattle.hub_work.specs.declared.telegrams.Stage.{Stage}
use Rattle.hub_work.specs.declared.work.Sender.TheVariants.{Worker}
use Rattle.hub_work.specs.declared.work.Work.{Work}
use Rattle.hub_work.specs.Books.{held_at, is_of_device}
use Rattle.hub_work.specs.Crew.{holdings}
use Rattle.hub_work.specs.Downloaders.{states, downloader_of, changed}
use Rattle.hub_work.specs.Laws.{Laws}
use Rattle.hub_work.specs.Fits.{Fits, FitsJob, FitsTelegram}
use Rattle.hub_work.specs.Follows.{IsNew}
use Rattle.hub_work.specs.Comes.{Hears, HearingFollows}
use Rattle.hub_work.specs.Works.{KeepsBooks, SameBooks}
use Rattle.hub_work.proofs.Changed.{changed_there, changed_elsewhere}
use Rattle.hub_work.proofs.Crews.{IsHeldSo, held_so, held_anywhere}
use Rattle.hub_work.proofs.Events.{fits_on}
use Rattle.hub_work.proofs.HeldJobs.{alone_held}
use Rattle.hub_work.proofs.JobEvents.{job_on, aside_becomes, heard_becomes, heard_flies}
use Rattle.hub_work.proofs.Moments.{lasts, same_books, changed_books}
use Rattle.hub_work.proofs.Stages.{aside_telegram}

-- ---- jobs of one device

same_device : (a b : Option Job) (j k : Job) → a ≡ Some j → b ≡ Some k → j.device.raw ≡ k.device.raw → SameDevice a b
same_device a b j k ea eb e = subst (λ (x : Option Job). SameDevice x b) (sym ea) (subst (λ (y : Option Job). SameDevice (Some j) y) (sym eb) e)

-- two jobs that are held and of one device are one
pub one_job : (jobs : List Job) (old : Work) (before at : ℕ) (l : List Moment) (j k w s v t : ℕ) (a b : Job) → KeepsBooks at old → Fits jobs old before at l → job_of jobs j ≡ Some a → job_of jobs k ≡ Some b → a.device.raw ≡ b.device.raw
    → state_of j old.journal.entries ≡ Held w s → state_of k old.journal.entries ≡ Held v t → j ≡ k
one_job jobs old before at l j k w s v t a b books f ja kb e sj sk =
    alone_held jobs old.journal.entries j k w s v t (one_downloader jobs old.journal.entries (books.written.reserved jobs f.devices)) (same_device (job_of jobs j) (job_of jobs k) a b ja kb e) sj sk

pub of_it : (device : IndAddr) (h : Holds) → is_of_device device (Some h) ≡ true → h.device.raw ≡ device.raw
of_it device h e = eqb-true h.device.raw device.raw e

-- ---- a frame of a device

module _ (laws : Laws) (jobs : List Job) (old new : Work) (source : ℕ) (tpdu : List ℕ) (before now at later : ℕ) (m : Moment) (l : List Moment) (books : KeepsBooks at old) (f : Fits jobs old before at l) (n : IsNew m now at later) (c : Hears source tpdu m)
    (same : SameBooks old new) (sender_same : new.sender ≡ old.sender) (stage_same : new.telegrams.stage ≡ old.telegrams.stage) (held_same : holdings new.crew ≡ holdings old.crew) where
  -- a job of another device
  aside_job : (k worker since : ℕ) (job : Job) (j : FitsJob old before (between since at l) k worker job) → downloader_of (states new.downloaders) k ≡ downloader_of (states old.downloaders) k → job.device.raw ≢ source → FitsJob new now (m ∷ between since at l) k worker job
  aside_job k worker since job j there apart =
      job_on old new before now k worker m (between since at l) job j j.state (there ∙ j.there)
      (aside_becomes laws j.state before now m (between since at l) j.fits n.time (c.others j.state.device (λ e. apart (sym (ap (λ (d : IndAddr). d.raw) j.device) ∙ e))))
      (c.others job.device apart).put_is held_same (λ flies. sender_same ∙ j.flight flies)

  -- the job whose device it is of
  its_job : (k worker since : ℕ) (job : Job) (j : FitsJob old before (between since at l) k worker job) → downloader_of (states new.downloaders) k ≡ Some (taken j.state tpdu now) → job.device.raw ≡ source → FitsJob new now (m ∷ between since at l) k worker job
  its_job k worker since job j there is =
      job_on old new before now k worker m (between since at l) job j (taken j.state tpdu now) there
      (heard_becomes laws j.state before now m (between since at l) j.fits n.time tpdu (c.to j.state.device (ap (λ (d : IndAddr). d.raw) j.device ∙ is)))
      (c.to job.device is).put_is held_same (λ moves. sender_same ∙ heard_flies laws j.state tpdu now (old.sender ≡ Worker worker) j.flight moves)

  goes : ((k : ℕ) (job : Job) → job_of jobs k ≡ Some job → state_of k old.journal.entries ≡ Untaken → downloader_of (states new.downloaders) k ≡ downloader_of (states old.downloaders) k)
      → ((k worker since : ℕ) (job : Job) → job_of jobs k ≡ Some job → state_of k old.journal.entries ≡ Held worker since → FitsJob old before (between since at l) k worker job → FitsJob new now (m ∷ between since at l) k worker job) → Fits jobs new now later (m ∷ l)
  goes untaken held = fits_on jobs old new before now at later m l books f n (record {
    same = same;
    untaken = λ k job there e u. untaken k job there e ∙ u;
    held = held;
    telegram = λ o x _ t. subst (λ (s : Stage). FitsTelegram o s (m ∷ x)) (sym stage_same)
        (aside_telegram o old.telegrams.stage m x c.alone (lasts m (still_moment (eqb 0 source) refl).0) (still_moment (eqb 0 source) refl).1 t);
    group = (λ e. stage_same ∙ f.group.0 (sym sender_same ∙ e), λ e. sender_same ∙ f.group.1 (sym stage_same ∙ e));
    free = λ e. sender_same ∙ f.free (sym (c.still l) ∙ e);
  })
    where
      still_moment : (b : Bool) → eqb 0 source ≡ b → (is_loss m.what ≡ false) × (confirmation_in m.what ≡ None)
      still_moment true e = let w = c.to (record { raw = 0 }) (eqb-true 0 source e) in (w.lasts, w.confirmed_is)
      still_moment false e = let w = c.others (record { raw = 0 }) (λ is. let t : eqb 0 source ≡ true = eq-eqb 0 source is in absurd (cc)) in (w.lasts, w.confirmed_is)

  -- a worker holds a job of the device
  pub heard_of : (place : ℕ) (h : Holds) → Some h ≡ held_at old.crew place → h.device.raw ≡ source → states new.downloaders ≡ changed (λ (s : DownloaderState). taken s tpdu now) h.job (states old.downloaders) → Fits jobs new now later (m ∷ l)
  heard_of place h holds is ds = goes (λ k job there e. elsewhere k (λ same. not_untaken k same e)) on
    where
      its : IsHeldSo jobs old at place h
      its = held_so jobs old before at l place h books f holds

      elsewhere : (k : ℕ) → k ≢ h.job → downloader_of (states new.downloaders) k ≡ downloader_of (states old.downloaders) k
      elsewhere k apart = ap (λ (all : List DownloaderState). downloader_of all k) ds ∙ changed_elsewhere (λ (s : DownloaderState). taken s tpdu now) h.job k (states old.downloaders) apart

      not_untaken : (k : ℕ) → k ≡ h.job → state_of k old.journal.entries ≡ Untaken → ⊥
      not_untaken k same e =
          let t : state_of h.job old.journal.entries ≡ Untaken = ap (λ i. state_of i old.journal.entries) (sym same) ∙ e in
          let differs : Held (suc place) its.since ≡ Untaken = sym its.held ∙ t in
          absurd (cc)

      on : (k worker since : ℕ) (job : Job) → job_of jobs k ≡ Some job → state_of k old.journal.entries ≡ Held worker since → FitsJob old before (between since at l) k worker job → FitsJob new now (m ∷ between since at l) k worker job
      on k worker since job there e j = elim (cases_eq job.device.raw source) [
        | inl eq ↦ of_its (one_job jobs old before at l k h.job worker since (suc place) its.since job its.job books f there its.there (eq ∙ (sym is ∙ ap (λ (d : IndAddr). d.raw) (sym its.device))) e its.held) eq
        | inr apart ↦ aside_job k worker since job j (elsewhere k (λ same. apart (of_source same))) apart
      ]
        where
          of_its : k ≡ h.job → job.device.raw ≡ source → FitsJob new now (m ∷ between since at l) k worker job
          of_its same eq = its_job k worker since job j
              (ap (λ (all : List DownloaderState). downloader_of all k) ds
              ∙ (ap (λ i. downloader_of (changed (λ (s : DownloaderState). taken s tpdu now) i (states old.downloaders)) k) (sym same)
              ∙ changed_there (λ (s : DownloaderState). taken s tpdu now) k (states old.downloaders) j.state j.there)) eq

          of_source : k ≡ h.job → job.device.raw ≡ source
          of_source same =
              let one : job ≡ its.job = same_Some job its.job (sym there ∙ (ap (job_of jobs) same ∙ its.there)) in
              ap (λ (x : Job). x.device.raw) one ∙ (ap (λ (d : IndAddr). d.raw) its.device ∙ is)

  -- none does
  pub heard_of_none : ((place : ℕ) (h : Holds) → Some h ≡ held_at old.crew place → h.device.raw ≢ source) → states new.downloaders ≡ states old.downloaders → Fits jobs new now later (m ∷ l)
  heard_of_none none ds = goes (λ k job there e. ap (λ (all : List DownloaderState). downloader_of all k) ds) on
    where
      on : (k worker since : ℕ) (job : Job) → job_of jobs k ≡ Some job → state_of k old.journal.entries ≡ Held worker since → FitsJob old before (between since at l) k worker job → FitsJob new now (m ∷ between since at l) k worker job
      on k worker since job there e j = elim (cases_eq job.device.raw source) [
        | inl eq ↦ absurd (held_anywhere old.crew (worker - 1) _ j.holds (λ h at_it is. none (worker - 1) h at_it (ap (λ (d : IndAddr). d.raw) is ∙ eq)))
        | inr apart ↦ aside_job k worker since job j (ap (λ (all : List DownloaderState). downloader_of all k) ds) apart
      ]

-- ---- each case of the call

module _ (laws : Laws) (old : Work) (frame : Ldata) (tpdu : List ℕ) (now : ℕ) (read : tpdu ≡ frame.tpdu) where
  pub heard_by_worker : (ds : List Known) (crew : List (Option Holds)) (place : ℕ) (h : Holds) → Some h ≡ held_at old.crew place → is_of_device (record { raw = frame.source }) (held_at old.crew place) ≡ true
      → states ds ≡ changed (λ (s : DownloaderState). taken s tpdu now) h.job (states old.downloaders) → holdings crew ≡ holdings old.crew → HearingFollows old (record old { downloaders = ds; crew = crew }) frame now
  heard_by_worker ds crew place h holds of ds_is same jobs before at later m l books f n c =
      heard_of laws jobs old (record old { downloaders = ds; crew = crew }) frame.source tpdu before now at later m l books f n (subst (λ t. Hears frame.source t m) (sym read) c)
      (changed_books old ds crew old.sender (λ (s : DownloaderState). taken s tpdu now) h.job (λ s. refl) ds_is same) refl refl same place h holds
      (of_it (record { raw = frame.source }) h (subst (λ (o : Option Holds). is_of_device (record { raw = frame.source }) o ≡ true) (sym holds) of)) ds_is

  pub heard_by_none : ((place : ℕ) → is_of_device (record { raw = frame.source }) (held_at old.crew place) ≡ false) → HearingFollows old old frame now
  heard_by_none none jobs before at later m l books f n c =
      heard_of_none laws jobs old old frame.source tpdu before now at later m l books f n (subst (λ t. Hears frame.source t m) (sym read) c) (same_books old) refl refl refl
      (λ place h holds is. not_of place h holds is) refl
    where
      not_of : (place : ℕ) (h : Holds) → Some h ≡ held_at old.crew place → h.device.raw ≢ frame.source
      not_of place h holds is =
          let of : is_of_device (record { raw = frame.source }) (held_at old.crew place) ≡ true = subst (λ (o : Option Holds). is_of_device (record { raw = frame.source }) o ≡ true) holds (eq-eqb h.device.raw frame.source is) in
          let isnt : true ≡ false = sym of ∙ none place in
          absurd (cc)
