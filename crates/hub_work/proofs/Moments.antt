-- A hub's work fits the record after a moment that is nothing to it, a confirmation, a frame of a device, the loss of the channel, and a request.
use Rattle.std.proofs.Common.{◌≡◌, ◌≢◌, ◌⊎◌, inl, inr, ℕ, true, false, List, ◌∷◌, map, Option, Some, None, refl, sym, ap, ◌∙◌}
use Rattle.knx_model.specs.declared.frames.cemi.Ldata.{Ldata}
use Rattle.line_model.specs.Reading.{is_con, is_ind}
use Rattle.line_model.specs.ClientView.{Loses}
use Rattle.line_model.specs.Moments.{Moment, between, is_loss}
use Rattle.line_model.specs.Log.{Job}
use Rattle.hub_work.specs.declared.work.Sender.{Sender}
use Rattle.hub_work.specs.declared.work.Work.{Work}
use Rattle.hub_work.specs.declared.crew.Held.{Held as Holds}
use Rattle.hub_work.specs.Crew.{holdings}
use Rattle.hub_work.specs.Downloaders.{states, changed, task_of_state}
use Rattle.hub_work.specs.Laws.{Laws}
use Rattle.hub_work.specs.Fits.{Fits}
use Rattle.hub_work.specs.Follows.{IsNew, IsAside, FrameFollows}
use Rattle.hub_work.specs.Comes.{IsNothing, ConfirmationFollows, HearingFollows}
use Rattle.hub_work.specs.Works.{KeepsBooks, SameBooks}
use Rattle.download_core.specs.Attempt.{DownloaderState}
use Rattle.download_core.specs.Keeps.{Known}
use Rattle.hub_work.proofs.Changed.{Change, tasks_stay}
use Rattle.hub_work.proofs.Crews.{same_jobs_held}
use Rattle.hub_work.proofs.Deeds.{aside_is_nothing, confirms, hears, nothing, nothing_of_req, nothing_of_group, taken_so}
use Rattle.hub_work.proofs.Events.{Goes, fits_on}
use Rattle.hub_work.proofs.JobEvents.{job_on, aside_becomes}
use Rattle.hub_work.proofs.Stages.{aside_telegram}

pub same_books : (w : Work) → SameBooks w w
same_books w = record { reservation = refl; turns = refl; told = refl; held = refl; journal = refl; unfinished = refl; tasks_are = refl; closing = refl }

pub lasts : (m : Moment) → is_loss m.what ≡ false → m.what ≢ Loses
lasts m e is = let f : is_loss m.what ≡ true = ap is_loss is in cc

pub changed_books : (old : Work) (ds : List Known) (crew : List (Option Holds)) (s : Sender) (change : Change) (job : ℕ) → ((x : DownloaderState) → task_of_state (change x) ≡ task_of_state x) → states ds ≡ changed change job (states old.downloaders) → holdings crew ≡ holdings old.crew
    → SameBooks old (record old { downloaders = ds; crew = crew; sender = s })
changed_books old ds crew s change job tasks is same = record {
  reservation = refl;
  turns = refl;
  told = refl;
  held = same_jobs_held old.crew crew same;
  journal = refl;
  unfinished = refl;
  tasks_are = ap (map task_of_state) is ∙ tasks_stay change tasks job (states old.downloaders);
  closing = refl;
}

pub books_again : (a b c : Work) → SameBooks a b → SameBooks b c → SameBooks a c
books_again a b c x y = record {
  reservation = y.reservation ∙ x.reservation;
  turns = y.turns ∙ x.turns;
  told = y.told ∙ x.told;
  held = y.held ∙ x.held;
  journal = y.journal ∙ x.journal;
  unfinished = y.unfinished ∙ x.unfinished;
  tasks_are = y.tasks_are ∙ x.tasks_are;
  closing = y.closing ∙ x.closing;
}

-- ---- nothing

module _ (laws : Laws) (jobs : List Job) (old new : Work) (before now at later : ℕ) (m : Moment) (l : List Moment) (books : KeepsBooks at old) (f : Fits jobs old before at l) (n : IsNew m now at later) where
  -- the work stays
  pub nothing_goes : old ≡ new → IsNothing m → Goes jobs old old before now at m l
  nothing_goes e w = record {
    same = same_books old;
    untaken = λ k job there e u. u;
    held = λ k worker since job there e j.
        job_on old old before now k worker m (between since at l) job j j.state j.there (aside_becomes laws j.state before now m (between since at l) j.fits n.time (w.to j.state.device)) (w.to job.device).put_is refl j.flight;
    telegram = λ o x _ t. aside_telegram o old.telegrams.stage m x w.alone (lasts m (w.to (record { raw = 0 })).lasts) (w.to (record { raw = 0 })).confirmed_is t;
    group = f.group;
    free = λ e. f.free (sym (w.still l) ∙ e);
  }

pub aside_follows : (laws : Laws) (jobs : List Job) (w : Work) (before now at later : ℕ) (m : Moment) (l : List Moment) → KeepsBooks at w → Fits jobs w before at l → IsNew m now at later → IsAside m.what → Fits jobs w now later (m ∷ l)
aside_follows laws jobs w before now at later m l books f n a = fits_on jobs w w before now at later m l books f n (nothing_goes laws jobs w w before now at later m l books f n refl (aside_is_nothing m a))

-- a frame that is none of a device, and no confirmation
pub frame_of_none : (laws : Laws) (w : Work) (frame : Ldata) (now : ℕ) → is_con frame.code ≡ false → (is_ind frame.code ≡ false) ⊎ (frame.group ≡ true) → FrameFollows w w frame now
frame_of_none laws w frame now con none jobs before at later octets m l books f n e r =
    fits_on jobs w w before now at later m l books f n (nothing_goes laws jobs w w before now at later m l books f n refl (nothing m octets e frame r con (unheard none)))
  where
    unheard : (is_ind frame.code ≡ false) ⊎ (frame.group ≡ true) → (device : ℕ) → taken_so (Some frame) device ≡ None
    unheard (inl c) = nothing_of_req frame c
    unheard (inr g) = nothing_of_group frame g

-- a confirmation
pub frame_confirms : (old new : Work) (frame : Ldata) (now : ℕ) → is_con frame.code ≡ true → ConfirmationFollows old new frame.error now → FrameFollows old new frame now
frame_confirms old new frame now con c jobs before at later octets m l books f n e r = c jobs before at later m l books f n (confirms m octets e frame r con)

-- a frame of a device
pub frame_is_heard : (old new : Work) (frame : Ldata) (now : ℕ) → is_ind frame.code ≡ true → frame.group ≡ false → HearingFollows old new frame now → FrameFollows old new frame now
frame_is_heard old new frame now ind alone h jobs before at later octets m l books f n e r = h jobs before at later m l books f n (hears m octets e frame r ind alone)
