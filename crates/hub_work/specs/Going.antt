-- How far a job has come, by its downloader.
use Rattle.std.specs.Prelude.{◌≡◌, ◌≤◌, ℕ, List, Some}
use Rattle.line_model.specs.Log.{numbered_from_one}
use Rattle.download_core.specs.declared.gone.Gone.{Gone}
use Rattle.download_core.specs.Going.{gone_in}
use Rattle.download_core.specs.JobPlans.{job_count}
use Rattle.download_core.specs.Keeps.{Known, state_of}

-- so many of the operations of its plan are over in the attempt that runs, and none before the first
pub record HasGone (downloaders : List Known) (job : ℕ) (gone : Gone) : Type 0 where
  pub known : Known
  pub there : numbered_from_one downloaders job ≡ Some known
  pub device : gone.device ≡ known.device
  pub done : gone_in (state_of known).phase ≡ Some gone.done
  pub all : gone.all ≡ job_count known.plan
  pub within : gone.done ≤ gone.all
