-- Each operation that is left of a job's plan can be sent, whatever was noted.
use Rattle.std.proofs.Common.{◌≢◌, ℕ, zero, suc, List, [], ◌∷◌, drop, ◌+◌, None, subst}
use Rattle.knx_model.specs.declared.plan.Expect.{Expect}
use Rattle.knx_model.specs.declared.plan.Expect.TheVariants.{AckOnly, Is, Note}
use Rattle.knx_model.specs.declared.plan.PieceSize.{PieceSize}
use Rattle.knx_model.specs.Connection.{IsApdu}
use Rattle.knx_model.specs.LoadPlan.{load_operations, check_operations}
use Rattle.knx_model.specs.Operations.{Operation}
use Rattle.knx_model.specs.Plans.{Plan, Over, IsHead}
use Rattle.knx_model.specs.GoodPlan.{IsSendable}
use Rattle.download_plan.specs.Left.{Listening, left_of, load_left, check_left}
use Rattle.download_plan.proofs.Octets.{AllWritable, octets_sendable}
use Rattle.download_plan.proofs.Writable.{load_writable, check_writable}
use Rattle.download_plan.proofs.Opened.{opened_sendable}
use Rattle.download_core.specs.declared.job_plan.JobPlan.{JobPlan}
use Rattle.download_core.specs.declared.job_plan.JobPlan.TheVariants.{Load, Check}
use Rattle.download_core.specs.declared.question.Question.{Question}
use Rattle.download_core.specs.JobPlans.{job_left}
use Rattle.download_core.specs.Keeps.{IsAt}

rest_writable : (ops : List Operation) (k : ℕ) → AllWritable ops → AllWritable (drop k ops)
rest_writable ops zero w = w
rest_writable [] (suc k) w = tt
rest_writable (x ∷ xs) (suc k) w = rest_writable xs k w.1

of_sendable : (operations : PieceSize → List Operation) (size : PieceSize) (k : ℕ) → ((s : PieceSize) → AllWritable (operations s)) → IsSendable (left_of operations size k)
of_sendable operations size zero w = opened_sendable operations w
of_sendable operations size (suc zero) w = (opened_sendable operations w).2 None
of_sendable operations size (suc (suc k)) w = octets_sendable (suc (suc k)) (drop k (operations size)) (rest_writable (operations size) k (w size))

load_sendable : (p : Listening) (k : ℕ) → IsSendable (load_left p k)
unfolding load_left
load_sendable p k = of_sendable (load_operations p.image) p.size k (load_writable p.image)

check_sendable : (p : Listening) (k : ℕ) → IsSendable (check_left p k)
unfolding check_left
check_sendable p k = of_sendable (check_operations p.image) p.size k (check_writable p.image)

pub job_sendable : (plan : JobPlan) (k : ℕ) → IsSendable (job_left plan k)
job_sendable (Load p) k = load_sendable p k
job_sendable (Check p) k = check_sendable p k

apdu_at : (place : ℕ) (apdu : List ℕ) (expect : Expect) (plan rest : Plan) → IsHead place apdu expect plan rest → IsSendable plan → IsApdu apdu
apdu_at place apdu AckOnly plan rest h s = (subst IsSendable h s).0
apdu_at place apdu (Is wanted) plan rest h s = (subst IsSendable h s).0
apdu_at place apdu Note plan rest h s = (subst IsSendable h.1 s).0

pub question_sendable : (plan : JobPlan) (q : Question) → IsAt (job_left plan) q → IsApdu q.apdu
question_sendable plan q h = apdu_at q.place q.apdu q.expect (job_left plan q.place) (job_left plan (q.place + 1)) h (job_sendable plan q.place)

load_begins : (p : Listening) → load_left p 0 ≢ Over
unfolding load_left
load_begins p h = absurd (cc h)

check_begins : (p : Listening) → check_left p 0 ≢ Over
unfolding check_left
check_begins p h = absurd (cc h)

pub job_begins : (plan : JobPlan) → job_left plan 0 ≢ Over
job_begins (Load p) h = load_begins p h
job_begins (Check p) h = check_begins p h
