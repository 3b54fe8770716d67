-- How far a job has come: how many operations of its plan are over in the attempt that runs, each sent and, where it has an answer, answered as wanted; none
-- before the first attempt. An attempt that has gone wrong, or has come to its end, has come nowhere.
use Rattle.std.specs.Prelude.{◌≡◌, ◌⊎◌, ◌<◌, ◌≤◌, ℕ, ◌-◌, List, reverse, Option, Some, None}
use Rattle.knx_model.specs.declared.address.IndAddr.{IndAddr}
use Rattle.knx_model.specs.Plans.{Plan}
use Rattle.line_model.specs.Moments.{Moment, answers, course, session, stretches}
use Rattle.line_model.specs.Progress.{Reaches}
use Rattle.line_model.specs.Told.{last_stretch}
use Rattle.download_core.specs.declared.gone.Gone.{Gone}
use Rattle.download_core.specs.declared.outcome.Refusal.{Refusal}
use Rattle.download_core.specs.Attempt.{Standing, Next, AnswerOf, Attempt, Phase, Resting, Running, Closing, Leaving, Ended, DownloaderState}

-- of so many that were sent the last one awaits its answer, or none does
abbrev pub over_of : Standing → ℕ → ℕ
over_of (Next left) sent = sent
over_of (AnswerOf left) sent = sent - 1

abbrev pub over_unless : Option Refusal → ℕ → Option ℕ
over_unless (Some wrong) n = None
over_unless None n = Some n

abbrev pub gone_of : Attempt → Option ℕ
gone_of a = over_unless a.wrong (over_of a.standing a.sent)

abbrev pub gone_in : Phase → Option ℕ
gone_in Resting = Some 0
gone_in (Running a) = gone_of a
gone_in (Closing flight outcome) = None
gone_in (Leaving outcome) = None
gone_in (Ended outcome) = None

-- so many of so many, and nothing exactly where nothing has come so far, or more than all
abbrev pub TellsGone : IndAddr → Option ℕ → ℕ → Option Gone → Type 0
TellsGone device over all None = (over ≡ None) ⊎ ((n : ℕ) × (over ≡ Some n) × (all < n))
TellsGone device over all (Some gone) = (gone.device ≡ device) × (over ≡ Some gone.done) × (gone.all ≡ all) × (gone.done ≤ all)

-- of all moments since the job was taken: with the answers that were taken in the session that runs the plan has gone so far
abbrev pub HasGoneIn : ℕ → Plan → ℕ → List Moment → Type 0
HasGoneIn device plan done l = (left : Plan) × Reaches plan done (reverse (answers device (session (course device (last_stretch (stretches device l)))))) left
