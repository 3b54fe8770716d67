-- The downloader of a job that is held fits the moments since the job was taken after each moment.
use Rattle.std.proofs.Common.{◌≡◌, ◌≢◌, ℕ, ◌-◌, Bool, true, false, List, ◌∷◌, Option, Some, None, refl, sym, ap, subst, ◌∙◌}
use Rattle.std.specs.Prelude.{slice_get, nat_le}
use Rattle.knx_model.specs.Connection.{frame_in}
use Rattle.line_model.specs.Moments.{Moment, is_loss, put_to}
use Rattle.line_model.specs.Log.{Job}
use Rattle.download_core.specs.Attempt.{DownloaderState, Phase, Resting, Running, Closing, Leaving, Ended}
use Rattle.download_core.specs.Calls.{confirmed, taken, lost, phase_lost}
use Rattle.download_core.specs.Record.{FitsRecord}
use Rattle.download_core.specs.Follows.{IsMoment, flies}
use Rattle.hub_work.specs.declared.work.Sender.TheVariants.{Worker}
use Rattle.hub_work.specs.declared.work.Work.{Work}
use Rattle.hub_work.specs.Crew.{Holding, holdings}
use Rattle.hub_work.specs.Downloaders.{states, downloader_of}
use Rattle.hub_work.specs.Fits.{FitsJob}
use Rattle.hub_work.specs.Laws.{Laws}
use Rattle.hub_work.proofs.Begun.{begun_stays}

-- what a downloader becomes with a moment
pub record Becomes (s t : DownloaderState) (now : ℕ) (m : Moment) (l : List Moment) : Type 0 where
  pub device : t.device ≡ s.device
  pub plan : t.plan ≡ s.plan
  pub fits : FitsRecord t now (m ∷ l)

module _ (old new : Work) (before now k worker : ℕ) (m : Moment) (l : List Moment) (job : Job) (f : FitsJob old before l k worker job) where
  -- it fits, where nothing was put to the device
  pub job_on : (t : DownloaderState) → downloader_of (states new.downloaders) k ≡ Some t → Becomes f.state t now m l → put_to job.device.raw m.what ≡ None → holdings new.crew ≡ holdings old.crew → (flies t.phase ≡ true → new.sender ≡ Worker worker)
      → FitsJob new now (m ∷ l) k worker job
  job_on t there b unput same flight = record {
    state = t;
    there = there;
    device = b.device ∙ f.device;
    plan = b.plan ∙ f.plan;
    from_1 = f.from_1;
    fits = b.fits;
    flight = flight;
    holds = ap (λ (held : List (Option Holding)). slice_get held (worker - 1)) same
        ∙ (f.holds
        ∙ ap (λ n. Some (Some (record { job = k; device = job.device; begun = nat_le 1 n }))) (sym (begun_stays job.device job.plan m l unput)));
  }

  -- nothing of it is in flight, where another has put what is unconfirmed
  pub not_flying : old.sender ≢ Worker worker → flies f.state.phase ≡ false
  not_flying apart = by_flight (flies f.state.phase) refl
    where
      by_flight : (b : Bool) → flies f.state.phase ≡ b → flies f.state.phase ≡ false
      by_flight true e = absurd (apart (f.flight e))
      by_flight false e = e

-- ---- what each moment makes of a downloader

at_now : (t : DownloaderState) (m : Moment) (l : List Moment) (now : ℕ) → m.now ≡ now → FitsRecord t m.now l → FitsRecord t now l
at_now t m l now e f = subst (λ n. FitsRecord t n l) e f

module _ (laws : Laws) (s : DownloaderState) (before now : ℕ) (m : Moment) (l : List Moment) (fits : FitsRecord s before l) (time : m.now ≡ now) where
  pub aside_becomes : IsMoment s.device None None None m → Becomes s s now m l
  aside_becomes w = record { device = refl; plan = refl; fits = at_now s m (m ∷ l) now time (laws.aside s before m l fits w) }

  pub others_become : (error : Bool) → flies s.phase ≡ false → IsMoment s.device None None (Some error) m → Becomes s s now m l
  others_become error e w = record { device = refl; plan = refl; fits = at_now s m (m ∷ l) now time (laws.others s before error m l fits e w) }

  pub confirmed_becomes : (error : Bool) → IsMoment s.device None None (Some error) m → Becomes s (confirmed s error now) now m l
  confirmed_becomes error w = record {
    device = refl;
    plan = refl;
    fits = subst (λ n. FitsRecord (confirmed s error n) n (m ∷ l)) time (laws.confirmation s before error m l fits w);
  }

  pub heard_becomes : (tpdu : List ℕ) → IsMoment s.device None (Some (frame_in tpdu)) None m → Becomes s (taken s tpdu now) now m l
  heard_becomes tpdu w = record {
    device = refl;
    plan = refl;
    fits = subst (λ n. FitsRecord (taken s tpdu n) n (m ∷ l)) time (laws.hearing s before tpdu m l fits w);
  }

  pub lost_becomes : is_loss m.what ≡ true → Becomes s (lost s) now m l
  lost_becomes w = record {
    device = refl;
    plan = refl;
    fits = at_now (lost s) m (m ∷ l) now time (laws.loss s before m l fits w);
  }

-- a confirmation and a loss leave nothing in flight, and a frame of the device begins no flight
pub landed : (laws : Laws) (s : DownloaderState) (error : Bool) (now : ℕ) → flies (confirmed s error now).phase ≡ false
landed laws s error now = (laws.flights s now).confirmed_is error

pub lost_lands : (laws : Laws) (s : DownloaderState) → flies (lost s).phase ≡ false
lost_lands laws s = (laws.flights s 0).lost_is

pub heard_flies : (laws : Laws) (s : DownloaderState) (tpdu : List ℕ) (now : ℕ) (P : Type 0) → (flies s.phase ≡ true → P) → flies (taken s tpdu now).phase ≡ true → P
heard_flies laws s tpdu now P p e = by_flight (flies s.phase) refl
  where
    by_flight : (b : Bool) → flies s.phase ≡ b → P
    by_flight true f = p f
    by_flight false f = absurd (let still : flies (taken s tpdu now).phase ≡ false = (laws.flights s now).heard_is tpdu f in cc)

-- where nothing is put, what rests stays as it is
pub lost_twice : (s : DownloaderState) → lost (lost s) ≡ lost s
lost_twice s = ap (λ p. record s { phase = p }) (phase_twice s.phase)
  where
    phase_twice : (p : Phase) → phase_lost (phase_lost p) ≡ phase_lost p
    phase_twice Resting = refl
    phase_twice (Running a) = refl
    phase_twice (Closing flight outcome) = refl
    phase_twice (Leaving outcome) = refl
    phase_twice (Ended outcome) = refl

pub lost_at_rest : (s : DownloaderState) → s.phase ≡ Resting → lost s ≡ s
lost_at_rest s e = ap (λ p. record s { phase = phase_lost p }) e ∙ ap (λ p. record s { phase = p }) (sym e)
