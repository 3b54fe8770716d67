-- When the step of a group telegram waits, and when a worker's turn does, by record and log, where the link tells them.
use Rattle.std.specs.Prelude.{◌≡◌, ◌↔◌, ℕ, ◌-◌, List, Option, Some}
use Rattle.line_model.specs.declared.group.GroupTurn.{GroupTurn}
use Rattle.line_model.specs.declared.log.LogEntry.{LogEntry}
use Rattle.line_model.specs.Record.{entries}
use Rattle.line_model.specs.LinkStory.{Story, newest_time}
use Rattle.line_model.specs.Log.{Job}
use Rattle.line_model.specs.Waiting.{GroupWaits, TurnWaits}
use Rattle.tunnel_link.specs.Rights.{WhereTold}
use Rattle.hub_core.specs.declared.answers.GroupDid.{GroupDid}
use Rattle.hub_core.specs.declared.answers.GroupDid.TheVariants.{Wait}
use Rattle.hub_work.specs.declared.answers.Turned.{Turned}
use Rattle.hub_work.specs.declared.answers.Turned.TheVariants as answer
use Rattle.hub_work.specs.declared.crew.Held.{Held}
use Rattle.hub_work.specs.declared.job.HubJob.{HubJob}
use Rattle.hub_work.specs.Books.{held_at}
use Rattle.hub_core.specs.Seen.{AreJobs}

-- the step of telegram k, for any jobs with these devices and plans, when there were so many events
abbrev pub WaitsExactly : List HubJob → List GroupTurn → List LogEntry → ℕ → ℕ → GroupDid → Story → Type 0
WaitsExactly hub_jobs turns log at k did story = (jobs : List Job) → AreJobs hub_jobs jobs → WhereTold (λ places. (did ≡ Wait) ↔ GroupWaits jobs turns log places at k) story

-- the turn of a worker that holds this
abbrev pub TurnWaitsExactly : List HubJob → List GroupTurn → List LogEntry → List (Option Held) → ℕ → ℕ → Turned → Story → Type 0
TurnWaitsExactly hub_jobs turns log crew at worker turned story =
    (held : Held) → Some held ≡ held_at crew (worker - 1) → (jobs : List Job) → AreJobs hub_jobs jobs
    → WhereTold (λ places. (turned ≡ answer.Wait) ↔ TurnWaits jobs turns log places at (newest_time (entries places)) held.job held.came) story
