-- What the code of a downloader keeps of an attempt stands for what the definitions say: a place in the plan for the plan that is left.
use Rattle.std.specs.Prelude.{◌≡◌, ℕ, ◌<◌, ◌≤◌, ◌+◌, ◌-◌, Option, Some, None}
use Rattle.knx_model.specs.declared.address.IndAddr.{IndAddr}
use Rattle.knx_model.specs.Connection.{next_number, IsNumber}
use Rattle.knx_model.specs.ClientConnection.{ClientEnd, Asked, Up, Asking, Awaiting, Ended as NoConnection}
use Rattle.knx_model.specs.Plans.{Plan, Over, IsHead}
use Rattle.download_core.specs.declared.job_plan.JobPlan.{JobPlan}
use Rattle.download_core.specs.declared.question.Question.{Question}
use Rattle.download_core.specs.declared.position.Position.{Position}
use Rattle.download_core.specs.declared.position.Position.TheVariants as at
use Rattle.download_core.specs.declared.run.Run.{Run}
use Rattle.download_core.specs.declared.phase.Phase.{Phase as Kept}
use Rattle.download_core.specs.declared.phase.Phase.TheVariants as kept
use Rattle.download_core.specs.declared.signs.Signs.{Signs}
use Rattle.download_core.specs.JobPlans.{job_left}
use Rattle.download_core.specs.Attempt.{Standing, Next, AnswerOf, Attempt, Phase, Resting, Running, Closing, Leaving, Ended, DownloaderState}

-- ---- what it stands for

abbrev pub standing_of : (ℕ → Plan) → Position → Standing
standing_of left (at.Next k) = Next (left k)
standing_of left (at.AnswerOf q) = AnswerOf (left q.place)

-- the number of the operation sent last, 0 where none was
abbrev pub last_sent : Position → ℕ
last_sent (at.Next k) = k - 1
last_sent (at.AnswerOf q) = q.place

abbrev pub attempt_of : (ℕ → Plan) → Run → Attempt
attempt_of left r = record { conn = r.conn; standing = standing_of left r.position; sent = r.sent; last = last_sent r.position; owed = r.owed; flight = r.flight; wrong = r.wrong }

abbrev pub phase_of : (ℕ → Plan) → Kept → Phase
phase_of left kept.Resting = Resting
phase_of left (kept.Running r) = Running (attempt_of left r)
phase_of left (kept.Closing flight outcome) = Closing flight outcome
phase_of left (kept.Leaving outcome) = Leaving outcome
phase_of left (kept.Ended outcome) = Ended outcome

-- what the code has
pub record Known : Type 0 where
  pub device : IndAddr
  pub plan : JobPlan
  pub signs : Signs
  pub phase : Kept

abbrev pub state_of : Known → DownloaderState
state_of d = record { device = d.device; plan = job_left d.plan 0; signs = d.signs; phase = phase_of (job_left d.plan) d.phase }

-- ---- what it keeps

-- the operation at the place is this one
abbrev pub IsAt : (ℕ → Plan) → Question → Type 0
IsAt left q = IsHead q.place q.apdu q.expect (left q.place) (left (q.place + 1))

-- the operation that comes next from a place on; none where all are over
abbrev pub IsNextOf : (ℕ → Plan) → ℕ → Option Question → Type 0
IsNextOf left from None = left from ≡ Over
IsNextOf left from (Some q) = (from ≤ q.place) × (q.place < 0xFFFFFFFF) × (left from ≡ left q.place) × IsAt left q

abbrev pub KeepsPosition : (ℕ → Plan) → ℕ → Position → Type 0
KeepsPosition left sent (at.Next k) = sent ≤ k
KeepsPosition left sent (at.AnswerOf q) = (sent ≤ q.place + 1) × (q.place < 0xFFFFFFFF) × IsAt left q

-- the number of the next service is that of the connection
abbrev pub KeepsNumber : ℕ → ClientEnd → Type 0
KeepsNumber number (Asked device) = number ≡ 0
KeepsNumber number (Up s) = s.number ≡ number
KeepsNumber number (Asking s q) = next_number s.number ≡ number
KeepsNumber number (Awaiting s) = s.number ≡ number
KeepsNumber number NoConnection = Unit {0}

pub record KeepsRun (left : ℕ → Plan) (r : Run) : Type 0 where
  pub four_bits : IsNumber r.number
  pub number : KeepsNumber r.number r.conn
  pub position : KeepsPosition left r.sent r.position

abbrev pub KeepsPhase : (ℕ → Plan) → Kept → Type 0
KeepsPhase left kept.Resting = Unit {0}
KeepsPhase left (kept.Running r) = KeepsRun left r
KeepsPhase left (kept.Closing flight outcome) = Unit {0}
KeepsPhase left (kept.Leaving outcome) = Unit {0}
KeepsPhase left (kept.Ended outcome) = Unit {0}
