-- What a device keeps leads on, after it took and answered the services of a plan as far as a client went through it.
use Rattle.std.proofs.Common.{◌≡◌, ℕ, suc, ◌≤◌, List, [], ◌∷◌, length, true, Option, Some, None, refl, sym, ◌∙◌, ap, subst, arith}
use Rattle.knx_model.specs.declared.device.FrameSupport.{FrameSupport}
use Rattle.knx_model.specs.declared.plan.Expect.{Expect}
use Rattle.knx_model.specs.declared.plan.Expect.TheVariants.{AckOnly, Is, Note}
use Rattle.knx_model.specs.ClientConnection.{has_answer}
use Rattle.knx_model.specs.Device.{NonVolatile, answer_in}
use Rattle.knx_model.specs.DeviceFrames.{Outcome}
use Rattle.knx_model.specs.GoodPlan.{Beginning, WholeRun, kept_by, IsNotTorn, IsSendable, awaits_answer}
use Rattle.knx_model.specs.Plans.{Plan, Asks as Operation, Suits}
use Rattle.knx_model.proofs.Leads.{Leads, Leads-by_runs}
use Rattle.session_law.proofs.Taken.{and_octets}
use Rattle.load_law.specs.Download.{Went, NotBegun, Acknowledged, Answered}
use Rattle.load_law.proofs.Answers.{Texts, no_answer, one_if, want, want_more}

-- ---- what a device took and gave from a start on, each service whole or worn; the newest first

abbrev pub Trail : FrameSupport → NonVolatile → Texts → Texts → NonVolatile → Type 0
Trail frames start [] given kept = (given ≡ []) × (kept ≡ start)
Trail frames start (apdu ∷ older) given kept =
    (nv : NonVolatile) × (rest : Texts) × (outcome : Outcome) × IsNotTorn outcome × (given ≡ and_octets (answer_in frames nv apdu) rest) × (kept ≡ kept_by nv apdu outcome) × Trail frames start older rest nv

few_by : (frames : FrameSupport) (nv : NonVolatile) (apdu : List ℕ) (older rest : Texts) (o : Option (List ℕ)) → answer_in frames nv apdu ≡ o → length rest ≤ want older → length (and_octets o rest) ≤ want (apdu ∷ older)
few_by frames nv apdu older rest None e h = let n : want older ≤ want (apdu ∷ older) = omega arith in omega arith
few_by frames nv apdu older rest (Some v) e h = want_more frames nv apdu v older (length rest) e h

-- it gave at most the answers that these services have
pub few : (frames : FrameSupport) (start : NonVolatile) (delivered given : Texts) (kept : NonVolatile) → Trail frames start delivered given kept → length given ≤ want delivered
few frames start [] given kept t = let e : length given ≡ 0 = ap (λ (l : Texts). length l) t.0 in omega arith
few frames start (apdu ∷ older) given kept t =
    subst (λ (z : Texts). length z ≤ want (apdu ∷ older)) (sym t.4) (few_by frames t.0 apdu older t.1 (answer_in frames t.0 apdu) refl (few frames start older t.1 t.0 t.6))

-- ---- a client went through a plan that can be sent

pub sendable : (plan rest : Plan) (sent accepted : Texts) → IsSendable plan → Went plan sent accepted rest → IsSendable rest
sendable plan _ _ _ s NotBegun = s
sendable plan _ _ _ s (Acknowledged place apdu next sent accepted w) = (sendable plan (Operation place apdu AckOnly next) sent accepted s w).2 None
sendable plan _ _ _ s (Answered place apdu expect next got sent accepted w suits) = (sendable plan (Operation place apdu expect next) sent accepted s w).2 (Some got)

answered_one : (apdu : List ℕ) (expect : Expect) (got : List ℕ) → Suits apdu expect (Some got) → awaits_answer expect ≡ has_answer apdu → has_answer apdu ≡ true
answered_one apdu AckOnly got suits e = absurd suits
answered_one apdu (Is wanted) got suits e = sym e
answered_one apdu Note got suits e = sym e

-- it accepted just the answers that these services have
pub count : (plan rest : Plan) (sent accepted : Texts) → IsSendable plan → Went plan sent accepted rest → length accepted ≡ want sent
count plan _ _ _ s NotBegun = refl
count plan _ _ _ s (Acknowledged place apdu next sent accepted w) =
    let ih : length accepted ≡ want sent = count plan (Operation place apdu AckOnly next) sent accepted s w in
    let none : one_if (has_answer apdu) ≡ 0 = ap one_if (sym (sendable plan (Operation place apdu AckOnly next) sent accepted s w).1) in
    omega arith
count plan _ _ _ s (Answered place apdu expect next got sent accepted w suits) =
    let ih : length accepted ≡ want sent = count plan (Operation place apdu expect next) sent accepted s w in
    let one : one_if (has_answer apdu) ≡ 1 = ap one_if (answered_one apdu expect got suits (sendable plan (Operation place apdu expect next) sent accepted s w).1) in
    omega arith

-- ---- plans that are good for devices of which something holds, which no service takes from them: any beginning leaves a right content, and all of it
-- what the plan is for

pub record IsGoodFor (Holds Case Ends : NonVolatile → Type 0) (plan : Plan) : Type 0 where
  pub beginnings : (frames : FrameSupport) (start end : NonVolatile) → Holds start → Case start → Beginning (answer_in frames) plan start end → Case end
  pub whole_runs : (frames : FrameSupport) (start end : NonVolatile) → Holds start → Case start → WholeRun (answer_in frames) plan start end → Ends end

pub record AllGoodFor (IsJob : Plan → Type 0) (Holds Case : NonVolatile → Type 0) (Ends : Plan → NonVolatile → Type 0) : Type 0 where
  pub kept : (nv : NonVolatile) (apdu : List ℕ) (outcome : Outcome) → Holds nv → Holds (kept_by nv apdu outcome)
  pub good : (plan : Plan) → IsJob plan → IsGoodFor Holds Case (Ends plan) plan
  pub sendable : (plan : Plan) → IsJob plan → IsSendable plan

-- ---- so what the device keeps leads on

module _ (Case Ends : NonVolatile → Type 0) (frames : FrameSupport) where
  abbrev pub On : Plan → NonVolatile → Type 0
  On = Leads (answer_in frames) Case Ends

  begun : (Holds : NonVolatile → Type 0) (plan : Plan) → IsGoodFor Holds Case Ends plan → (start : NonVolatile) → Case start → Holds start → On plan start
  begun Holds plan good start case holds = Leads-by_runs (answer_in frames) Case Ends plan start (λ end b. good.beginnings frames start end holds case b) (λ end r. good.whole_runs frames start end holds case r)

  goes_on : (place : ℕ) (apdu : List ℕ) (expect : Expect) (next : Option (List ℕ) → Plan) (nv kept : NonVolatile) (outcome : Outcome) (o : Option (List ℕ)) → answer_in frames nv apdu ≡ o → Suits apdu expect o → IsNotTorn outcome → kept ≡ kept_by nv apdu outcome
      → On (Operation place apdu expect next) nv → On (next o) kept
  goes_on place apdu expect next nv kept outcome o e suits whole ke h =
      subst (λ (z : NonVolatile). On (next o) z) (sym ke)
      (subst (λ (z : Option (List ℕ)). On (next z) (kept_by nv apdu outcome)) e (h.2 outcome whole (subst (λ (z : Option (List ℕ)). Suits apdu expect z) (sym e) suits)))

  answered_on : (place : ℕ) (apdu : List ℕ) (expect : Expect) (next : Option (List ℕ) → Plan) (got : List ℕ) (sent accepted rest : Texts) (start nv kept : NonVolatile) (outcome : Outcome) (o : Option (List ℕ)) → answer_in frames nv apdu ≡ o → got ∷ accepted ≡ and_octets o rest
      → length rest ≤ want sent → length accepted ≡ want sent → Suits apdu expect (Some got) → IsNotTorn outcome → kept ≡ kept_by nv apdu outcome → (rest ≡ accepted → On (Operation place apdu expect next) nv) → On (next (Some got)) kept
  answered_on place apdu expect next got sent accepted rest start nv kept outcome None e same most all suits whole ke f =
      absurd (let len : suc (length accepted) ≡ length rest = ap (λ (l : Texts). length l) same in omega arith)
  answered_on place apdu expect next got sent accepted rest start nv kept outcome (Some v) e same most all suits whole ke f =
      let is : got ≡ v = cc in
      let more : rest ≡ accepted = cc in
      goes_on place apdu expect next nv kept outcome (Some got) (e ∙ ap (λ (z : List ℕ). Some z) (sym is)) suits whole ke (f more)

  pub walked : (Holds : NonVolatile → Type 0) (plan : Plan) → IsGoodFor Holds Case Ends plan → IsSendable plan → (rest : Plan) (sent given : Texts) (start kept : NonVolatile) → Case start → Holds start → Went plan sent given rest → Trail frames start sent given kept → On rest kept
  walked Holds plan good can _ _ _ start kept case holds NotBegun t = subst (λ (z : NonVolatile). On plan z) (sym t.1) (begun Holds plan good start case holds)
  walked Holds plan good can _ _ _ start kept case holds (Acknowledged place apdu next sent accepted w) t =
      let none : answer_in frames t.0 apdu ≡ None = no_answer frames t.0 apdu (sym (sendable plan (Operation place apdu AckOnly next) sent accepted can w).1) in
      let same : t.1 ≡ accepted = sym (t.4 ∙ ap (λ (z : Option (List ℕ)). and_octets z t.1) none) in
      goes_on place apdu AckOnly next t.0 kept t.2 None none tt t.3 t.5 (walked Holds plan good can (Operation place apdu AckOnly next) sent accepted start t.0 case holds w (subst (λ (z : Texts). Trail frames start sent z t.0) same t.6))
  walked Holds plan good can _ _ _ start kept case holds (Answered place apdu expect next got sent accepted w suits) t =
      answered_on place apdu expect next got sent accepted t.1 start t.0 kept t.2 (answer_in frames t.0 apdu) refl t.4 (few frames start sent t.1 t.0 t.6) (count plan (Operation place apdu expect next) sent accepted can w) suits t.3 t.5
      (λ same. walked Holds plan good can (Operation place apdu expect next) sent accepted start t.0 case holds w (subst (λ (z : Texts). Trail frames start sent z t.0) same t.6))
