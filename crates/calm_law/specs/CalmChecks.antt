-- Which checks are told done on a calm line: those of a device that an earlier job loads, or that began with the image; each other one is told refused.
use Rattle.std.specs.Prelude.{◌≡◌, ◌⊎◌, ℕ, ◌<◌, true, false, List, Some}
use Rattle.knx_model.specs.declared.device.FrameSupport.{FrameSupport}
use Rattle.knx_model.specs.Device.{NonVolatile, HasCapacities, answer_in, runs}
use Rattle.knx_model.specs.GoodPlan.{AnswersAll}
use Rattle.line_model.specs.declared.log.LogEntry.{LogEntry}
use Rattle.line_model.specs.Legal.{OfDevice}
use Rattle.line_model.specs.Log.{Job, Over, job_of, state_of}
use Rattle.line_model.specs.World.{World}
use Rattle.calm_law.specs.CalmEnds.{IsAnsweredJob, IsToldDone, IsToldRefused}

-- ---- the jobs

-- a load is answered wholly by each device, and a check by one that runs its image
pub record IsAnsweredRightly (job : Job) : Type 0 where
  pub load : job.loads ≡ true → IsAnsweredJob job
  pub check : job.loads ≡ false → (frames : FrameSupport) (nv : NonVolatile) → HasCapacities nv → runs nv ≡ Some job.image → AnswersAll (answer_in frames) job.plan nv

-- those of one device have one image
abbrev pub HaveOneImage : List Job → Type 0
HaveOneImage jobs = (j k : ℕ) (one other : Job) → job_of jobs j ≡ Some one → job_of jobs k ≡ Some other → one.device.raw ≡ other.device.raw → one.image ≡ other.image

-- ---- whether the device of job k runs its image once the jobs before are over

pub record IsLoadedBefore (jobs : List Job) (k : ℕ) (job : Job) : Type 0 where
  pub number : ℕ
  pub before : number < k
  pub load : Job
  pub there : job_of jobs number ≡ Some load
  pub loads : load.loads ≡ true
  pub device : load.device.raw ≡ job.device.raw

-- its device began with the image
abbrev pub BeganSo : World → Job → Type 0
BeganSo start job = OfDevice (λ d. runs d.kept ≡ Some job.image) (start.devices job.device.raw)

abbrev pub RunsByThen : List Job → World → ℕ → Job → Type 0
RunsByThen jobs start k job = IsLoadedBefore jobs k job ⊎ BeganSo start job

-- ---- what is told of the checks that are over

abbrev pub ChecksExactly : List Job → World → List LogEntry → Type 0
ChecksExactly jobs start log =
    (k : ℕ) (job : Job) → job_of jobs k ≡ Some job → job.loads ≡ false → state_of k log ≡ Over → (IsToldDone k log × RunsByThen jobs start k job) ⊎ (IsToldRefused k log × ¬ RunsByThen jobs start k job)
