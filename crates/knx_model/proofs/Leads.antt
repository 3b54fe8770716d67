-- What a plan leads to, as a condition on what is kept: the form in which a plan is proved to be good.
use Rattle.knx_model.specs.Device.{NonVolatile}
use Rattle.knx_model.specs.DeviceFrames.{Outcome}
use Rattle.knx_model.specs.Plans.{Plan, Over, Asks, Suits}
use Rattle.knx_model.specs.GoodPlan.{Answering, kept_by, IsNotTorn, Beginning, NotBegun, Last, Then, WholeRun, AtEnd, Goes}

-- from nv on P holds at every moment of the plan, and R after all of it
abbrev pub Leads : Answering → (NonVolatile → Type 0) → (NonVolatile → Type 0) → Plan → NonVolatile → Type 0
Leads answers P R Over nv = P nv × R nv
Leads answers P R (Asks place apdu expect next) nv =
    P nv
    × ((outcome : Outcome) → P (kept_by nv apdu outcome))
    × ((outcome : Outcome) → IsNotTorn outcome → Suits apdu expect (answers nv apdu) → Leads answers P R (next (answers nv apdu)) (kept_by nv apdu outcome))

pub Leads-now : (answers : Answering) (P R : NonVolatile → Type 0) (plan : Plan) (nv : NonVolatile) → Leads answers P R plan nv → P nv
Leads-now answers P R Over nv h = h.0
Leads-now answers P R (Asks place apdu expect next) nv h = h.0

pub Leads-beginning : (answers : Answering) (P R : NonVolatile → Type 0) (plan : Plan) (start end : NonVolatile) → Beginning answers plan start end → Leads answers P R plan start → P end
Leads-beginning answers P R _ _ _ (NotBegun plan nv) h = Leads-now answers P R plan nv h
Leads-beginning answers P R _ _ _ (Last place apdu expect next nv outcome) h = h.1 outcome
Leads-beginning answers P R _ _ _ (Then place apdu expect next nv outcome end not_torn suits rest) h =
    Leads-beginning answers P R (next (answers nv apdu)) (kept_by nv apdu outcome) end rest (h.2 outcome not_torn suits)

pub Leads-whole : (answers : Answering) (P R : NonVolatile → Type 0) (plan : Plan) (start end : NonVolatile) → WholeRun answers plan start end → Leads answers P R plan start → R end
Leads-whole answers P R _ _ _ (AtEnd nv) h = h.1
Leads-whole answers P R _ _ _ (Goes place apdu expect next nv outcome end not_torn suits rest) h =
    Leads-whole answers P R (next (answers nv apdu)) (kept_by nv apdu outcome) end rest (h.2 outcome not_torn suits)

-- and the runs lead there
pub Leads-by_runs : (answers : Answering) (P R : NonVolatile → Type 0) (plan : Plan) (nv : NonVolatile) → ((end : NonVolatile) → Beginning answers plan nv end → P end) → ((end : NonVolatile) → WholeRun answers plan nv end → R end) → Leads answers P R plan nv
Leads-by_runs answers P R Over nv f g = (f nv (NotBegun Over nv), g nv (AtEnd nv))
Leads-by_runs answers P R (Asks place apdu expect next) nv f g = (
  f nv (NotBegun (Asks place apdu expect next) nv),
  λ outcome. f (kept_by nv apdu outcome) (Last place apdu expect next nv outcome),
  λ outcome not_torn suits. Leads-by_runs answers P R (next (answers nv apdu)) (kept_by nv apdu outcome)
      (λ end b. f end (Then place apdu expect next nv outcome end not_torn suits b))
      (λ end w. g end (Goes place apdu expect next nv outcome end not_torn suits w)),
)

pub Leads-weaker : (answers : Answering) (P Q R S : NonVolatile → Type 0) → ((u : NonVolatile) → P u → Q u) → ((u : NonVolatile) → R u → S u) → (plan : Plan) (nv : NonVolatile) → Leads answers P R plan nv → Leads answers Q S plan nv
Leads-weaker answers P Q R S f g Over nv h = (f nv h.0, g nv h.1)
Leads-weaker answers P Q R S f g (Asks place apdu expect next) nv h = (
  f nv h.0,
  λ outcome. f (kept_by nv apdu outcome) (h.1 outcome),
  λ outcome not_torn suits. Leads-weaker answers P Q R S f g (next (answers nv apdu)) (kept_by nv apdu outcome) (h.2 outcome not_torn suits),
)
