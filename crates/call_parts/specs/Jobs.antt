-- The jobs of a run: those that the words name, or else one load for each device of the new project, ascending. Each goes through the plan of the new
-- project's compiled image.
use Rattle.std.specs.Prelude.{◌≡◌, Bool, true, false, List, [], ◌∷◌, map, IsPermutation}
use Rattle.std.specs.List.{AllZip}
use Rattle.std.specs.List.Sorted.{IsStrictlyIncreasing}
use Rattle.knx_model.specs.declared.address.IndAddr.{IndAddr}
use Rattle.knx_model.specs.declared.config.Image.{Image}
use Rattle.call_words.specs.declared.job_word.JobKind.{JobKind}
use Rattle.call_words.specs.declared.job_word.JobKind.TheVariants.{Load, Check}
use Rattle.call_words.specs.declared.job_word.JobWord.{JobWord}
use Rattle.knx_model.specs.LoadPlan.{load_plan, check_plan}
use Rattle.knx_model.specs.Meaning.{Installation}
use Rattle.knx_model.specs.Plans.{Plan}
use Rattle.knx_model.specs.Rules.{devices_of}
use Rattle.line_model.specs.Log.{Job}
use Rattle.download_core.specs.JobPlans.{job_left}
use Rattle.download_core.specs.declared.job_plan.JobPlan.{JobPlan}
use Rattle.download_core.specs.declared.job_plan.JobPlan.TheVariants as plan
use Rattle.hub_work.specs.declared.job.HubJob.{HubJob}
use Rattle.table_compiler.specs.Images.{IsImage}

-- ---- which jobs

abbrev pub load_of : IndAddr → JobWord
load_of device = record { device = device; kind = Load }

-- one load for each device of the project, ascending
pub record LoadsEach (project : Installation) (jobs : List JobWord) : Type 0 where
  pub devices : List IndAddr
  pub all : IsPermutation (devices_of project.statements) devices
  pub ascending : IsStrictlyIncreasing (map (λ (d : IndAddr). d.raw) devices)
  pub jobs_are : jobs ≡ map load_of devices

-- the jobs of the run, by those that the words name
abbrev pub AreJobs : List JobWord → Installation → List JobWord → Type 0
AreJobs [] project jobs = LoadsEach project jobs
AreJobs (named ∷ more) project jobs = jobs ≡ named ∷ more

-- ---- what each job does

abbrev pub is_load : JobKind → Bool
is_load Load = true
is_load Check = false

abbrev pub plan_of : JobKind → Image → Plan
plan_of Load image = load_plan image
plan_of Check image = check_plan image

-- a job with the plan of the project's compiled image
pub record IsPlanned (project : Installation) (job : Job) (word : JobWord) : Type 0 where
  pub device : job.device ≡ word.device
  pub loads : job.loads ≡ is_load word.kind
  pub image : IsImage project word.device job.image
  pub plan : job.plan ≡ plan_of word.kind job.image

abbrev pub ArePlanned : Installation → List Job → List JobWord → Type 0
ArePlanned project jobs words = AllZip (IsPlanned project) jobs words

-- ---- a job of the hub, as the definitions see it

abbrev pub image_in : JobPlan → Image
image_in (plan.Load p) = p.image
image_in (plan.Check p) = p.image

abbrev pub kind_in : JobPlan → JobKind
kind_in (plan.Load p) = Load
kind_in (plan.Check p) = Check

abbrev pub seen_job : HubJob → Job
seen_job j = record { device = j.device; image = image_in j.plan; plan = job_left j.plan 0; loads = is_load (kind_in j.plan) }

-- a plan by which a job of this kind goes through the image
pub record PlansImage (of : JobKind) (meant : Image) (p : JobPlan) : Type 0 where
  pub kind : kind_in p ≡ of
  pub image : image_in p ≡ meant
  pub plan : job_left p 0 ≡ plan_of of meant
