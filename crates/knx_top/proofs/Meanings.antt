-- What a run promises by the images of its jobs it promises by the new project: each job has the image that stands for what the project says.
use Rattle.std.proofs.Common.{ℕ, zero, suc, ◌≡◌, ◌-◌, Bool, true, false, List, [], ◌∷◌, slice_get, Option, Some, None, sym, subst, inl, inr}
use Rattle.std.specs.Prelude.{◌==◌, if◌then◌else◌}
use Rattle.knx_model.specs.declared.address.IndAddr.{IndAddr}
use Rattle.call_words.specs.declared.job_word.JobWord.{JobWord}
use Rattle.knx_model.specs.Device.{NonVolatile, runs}
use Rattle.knx_model.specs.DeviceState.{DeviceState}
use Rattle.knx_model.specs.Meaning.{Installation, meaning}
use Rattle.knx_model.specs.Promises.{RunsProject}
use Rattle.knx_model.specs.Tables.{StandsFor}
use Rattle.line_model.specs.declared.log.LogEntry.{LogEntry}
use Rattle.line_model.specs.declared.log.LogWhat.{LogWhat}
use Rattle.line_model.specs.declared.log.LogWhat.TheVariants.{Took, Done, Failed, Refused, Sent, Lost}
use Rattle.line_model.specs.Legal.{AtEveryMoment, OfDevice}
use Rattle.line_model.specs.Log.{Job, job_of}
use Rattle.line_model.specs.OldStoppedOrNew.{Both, DoneSo, IsCase, MeansWhereDone, OldStoppedOr, OldStoppedOrNew, RunsJob, RunsMeaning, RunsWhereDone, world_at}
use Rattle.line_model.specs.World.{World, Event, replay}
use Rattle.call_parts.specs.Jobs.{ArePlanned}
use Rattle.table_compiler.specs.Images.{IsImage}

-- ---- the job of a number

planned_at : (project : Installation) (jobs : List Job) (words : List JobWord) (k : ℕ) (job : Job) → ArePlanned project jobs words → slice_get jobs k ≡ Some job → IsImage project job.device job.image
planned_at project [] [] k job h e = absurd (none_there k e)
  where
    none_there : (k : ℕ) → slice_get (let js : List Job = [] in js) k ≡ Some job → ⊥
    none_there zero e = cc
    none_there (suc k) e = cc
planned_at project [] (w ∷ ws) k job h e = absurd h
planned_at project (j ∷ js) [] k job h e = absurd h
planned_at project (j ∷ js) (w ∷ ws) zero job h e =
    let same : j ≡ job = some_job j job e in
    let is : IsImage project j.device j.image = subst (λ (d : IndAddr). IsImage project d j.image) (sym h.0.device) h.0.image in
    subst (λ (x : Job). IsImage project x.device x.image) same is
  where
    some_job : (one other : Job) → Some one ≡ Some other → one ≡ other
    some_job one other e = cc
planned_at project (j ∷ js) (w ∷ ws) (suc k) job h e = planned_at project js ws k job h.1 e

pub planned_of : (project : Installation) (jobs : List Job) (words : List JobWord) (k : ℕ) (job : Job) → ArePlanned project jobs words → job_of jobs k ≡ Some job → IsImage project job.device job.image
planned_of project jobs words k job h e = planned_at project jobs words (k - 1) job h (place_of (k == 0) jobs k job e)
  where
    place_of : (b : Bool) (jobs : List Job) (k : ℕ) (job : Job) → (if b then None else slice_get jobs (k - 1)) ≡ Some job → slice_get jobs (k - 1) ≡ Some job
    place_of true jobs k job e = absurd cc
    place_of false jobs k job e = e

runs_meaning : (project : Installation) (jobs : List Job) (words : List JobWord) (device : ℕ) (nv : NonVolatile) → ArePlanned project jobs words → RunsJob jobs device nv → RunsMeaning project device nv
runs_meaning project jobs words device nv h r =
    let stands : StandsFor r.job.image (meaning project r.job.device) = (planned_of project jobs words r.number r.job h r.there).stands in
    record {
      image = r.job.image;
      runs_it = r.runs_it;
      stands = subst (λ (raw : ℕ). StandsFor r.job.image (meaning project (record { raw = raw }))) r.of_device stands;
    }

-- ---- old, stopped or new

case_means : (project : Installation) (jobs : List Job) (words : List JobWord) (device : ℕ) (old new : NonVolatile) → ArePlanned project jobs words → OldStoppedOr (RunsJob jobs device) old new → OldStoppedOr (RunsMeaning project device) old new
case_means project jobs words device old new h (inl e) = inl e
case_means project jobs words device old new h (inr (inl e)) = inr (inl e)
case_means project jobs words device old new h (inr (inr r)) = inr (inr (runs_meaning project jobs words device new h r))

both_mean : (P Q : NonVolatile → NonVolatile → Type 0) (one other : Option DeviceState) → ((old new : NonVolatile) → P old new → Q old new) → Both P one other → Both Q one other
both_mean P Q (Some old) (Some new) weaker h = weaker old.kept new.kept h
both_mean P Q (Some old) None weaker h = absurd h
both_mean P Q None (Some new) weaker h = absurd h
both_mean P Q None None weaker h = h

cases_mean : (project : Installation) (jobs : List Job) (words : List JobWord) (start : World) (events : List Event) → ArePlanned project jobs words → IsCase (RunsJob jobs) start events → IsCase (RunsMeaning project) start events
cases_mean project jobs words start events h case = λ device.
    both_mean (OldStoppedOr (RunsJob jobs device)) (OldStoppedOr (RunsMeaning project device)) (start.devices device) ((replay start events).devices device) (λ old new. case_means project jobs words device old new h) (case device)

every_mean : (project : Installation) (jobs : List Job) (words : List JobWord) (start : World) (events : List Event) → ArePlanned project jobs words → AtEveryMoment (IsCase (RunsJob jobs) start) events → AtEveryMoment (IsCase (RunsMeaning project) start) events
every_mean project jobs words start [] h every = cases_mean project jobs words start [] h every
every_mean project jobs words start (e ∷ events) h every = (cases_mean project jobs words start (e ∷ events) h every.0, every_mean project jobs words start events h every.1)

pub devices_mean : (project : Installation) (jobs : List Job) (words : List JobWord) (start : World) (events : List Event) (log : List LogEntry) → ArePlanned project jobs words
    → OldStoppedOrNew (RunsJob jobs) jobs start events log → OldStoppedOrNew (RunsMeaning project) jobs start events log
devices_mean project jobs words start events log h o = record { case = every_mean project jobs words start events h o.case; untouched = o.untouched; stays = o.stays }

-- ---- done is told only where the new project's runs

of_device_means : (P Q : DeviceState → Type 0) (d : Option DeviceState) → ((d : DeviceState) → P d → Q d) → OfDevice P d → OfDevice Q d
of_device_means P Q None weaker h = h
of_device_means P Q (Some d) weaker h = weaker d h

done_so : (project : Installation) (jobs : List Job) (words : List JobWord) (start : World) (events : List Event) (e : LogEntry) (what : LogWhat) → ArePlanned project jobs words
    → DoneSo (λ job nv. runs nv ≡ Some job.image) jobs start events e what → DoneSo (λ job nv. RunsProject project job.device nv) jobs start events e what
done_so project jobs words start events e (Took k) h so = tt
done_so project jobs words start events e (Done k) h so = λ job there.
    of_device_means (λ d. runs d.kept ≡ Some job.image) (λ d. RunsProject project job.device d.kept) ((world_at start events e.at).devices job.device.raw)
    (λ d runs_it. record { image = job.image; runs_it = runs_it; stands = (planned_of project jobs words k job h there).stands }) (so job there)
done_so project jobs words start events e (Failed k signs) h so = tt
done_so project jobs words start events e (Refused k op got expected) h so = tt
done_so project jobs words start events e (Sent k) h so = tt
done_so project jobs words start events e (Lost k) h so = tt

pub done_means : (project : Installation) (jobs : List Job) (words : List JobWord) (start : World) (events : List Event) (log : List LogEntry) → ArePlanned project jobs words → RunsWhereDone jobs start events log → MeansWhereDone project jobs start events log
done_means project jobs words start events [] h done = tt
done_means project jobs words start events (e ∷ log) h done = (done_so project jobs words start events e e.what h done.0, done_means project jobs words start events log h done.1)

-- what holds at every moment holds at the last one
pub now_case : (P : List Event → Type 0) (events : List Event) → AtEveryMoment P events → P events
now_case P [] h = h
now_case P (e ∷ events) h = h.0
