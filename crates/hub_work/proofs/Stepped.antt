-- A step of a downloader leaves its job.
use Rattle.std.proofs.Common.{◌≡◌, ℕ, Bool, true, false, refl, ap, ◌∙◌}
use Rattle.std.specs.Prelude.{if◌then◌else◌}
use Rattle.knx_model.specs.declared.address.IndAddr.{IndAddr}
use Rattle.knx_model.specs.Plans.{Plan}
use Rattle.download_core.specs.declared.outcome.Outcome.{Outcome}
use Rattle.download_core.specs.declared.outcome.Outcome.TheVariants.{Failed, Done, Refused}
use Rattle.download_core.specs.Attempt.{DownloaderState, Phase, Resting, Running, Closing, Leaving, Ended}
use Rattle.download_core.specs.Steps.{next_did, stepped, sent, phase_sent, ended_sent, is_send}
use Rattle.hub_work.specs.Downloaders.{task_of_state}

ended_device : (s : DownloaderState) (o : Outcome) → (ended_sent s o).device ≡ s.device
ended_device s (Failed why) = refl
ended_device s Done = refl
ended_device s (Refused wrong) = refl

ended_plan : (s : DownloaderState) (o : Outcome) → (ended_sent s o).plan ≡ s.plan
ended_plan s (Failed why) = refl
ended_plan s Done = refl
ended_plan s (Refused wrong) = refl

sent_device : (s : DownloaderState) (p : Phase) (now : ℕ) → (phase_sent s p now).device ≡ s.device
sent_device s Resting now = refl
sent_device s (Running a) now = refl
sent_device s (Closing flight outcome) now = refl
sent_device s (Leaving outcome) now = refl
sent_device s (Ended outcome) now = ended_device s outcome

sent_plan : (s : DownloaderState) (p : Phase) (now : ℕ) → (phase_sent s p now).plan ≡ s.plan
sent_plan s Resting now = refl
sent_plan s (Running a) now = refl
sent_plan s (Closing flight outcome) now = refl
sent_plan s (Leaving outcome) now = refl
sent_plan s (Ended outcome) now = ended_plan s outcome

pub stepped_device : (s : DownloaderState) (now : ℕ) → (stepped s now).device ≡ s.device
stepped_device s now = by_sending (is_send (next_did s now))
  where
    by_sending : (b : Bool) → (if b then sent s now else s).device ≡ s.device
    by_sending true = sent_device s s.phase now
    by_sending false = refl

pub stepped_plan : (s : DownloaderState) (now : ℕ) → (stepped s now).plan ≡ s.plan
stepped_plan s now = by_sending (is_send (next_did s now))
  where
    by_sending : (b : Bool) → (if b then sent s now else s).plan ≡ s.plan
    by_sending true = sent_plan s s.phase now
    by_sending false = refl

pub stepped_task : (now : ℕ) (s : DownloaderState) → task_of_state (stepped s now) ≡ task_of_state s
stepped_task now s = ap (λ (d : IndAddr). record { device = d; plan = (stepped s now).plan }) (stepped_device s now) ∙ ap (λ (p : Plan). record { device = s.device; plan = p }) (stepped_plan s now)
