-- A download that nothing disturbs may happen, follows the plan, and ends done.
use Rattle.std.proofs.Common.{◌≡◌, ℕ, ◌<◌, List, [], ◌∷◌, ◌++◌, length, drop, true, false, Option, Some, None, refl, sym, ◌∙◌, ap, subst, arith, append_assoc}
use Rattle.knx_model.specs.declared.address.IndAddr.{IndAddr}
use Rattle.knx_model.specs.declared.frames.cemi.Ldata.{Ldata}
use Rattle.knx_model.specs.declared.frames.value.Value.{Value}
use Rattle.knx_model.specs.declared.plan.Expect.{Expect}
use Rattle.knx_model.specs.declared.plan.Expect.TheVariants.{AckOnly, Is, Note}
use Rattle.knx_model.specs.Connection.{IsApdu, next_number}
use Rattle.knx_model.specs.ClientConnection.{has_answer, client_confirmed, after_confirmed}
use Rattle.knx_model.specs.declared.connection.DeviceTook.TheVariants as took
use Rattle.knx_model.specs.declared.connection.TransportFrame.TheVariants.{Connect}
use Rattle.knx_model.specs.DeviceConnection.{Closed, device_took, device_after}
use Rattle.knx_model.specs.Device.{NonVolatile, whole, effect_in, answer_in}
use Rattle.knx_model.specs.DeviceState.{DeviceState}
use Rattle.knx_model.specs.GoodPlan.{AnswersAll, IsSendable}
use Rattle.knx_model.specs.Plans.{Plan, Over, Asks as Operation, Suits}
use Rattle.std.specs.List.{AllByRecursion}
use Rattle.knx_model.specs.DeviceFrames.{Whole}
use Rattle.session_law.specs.World.{Message, World, fresh}
use Rattle.session_law.specs.Events.{Event, Takes, Bus, Connects, Joins, IsInd, MayHappen, replay, IsLegal}
use Rattle.session_law.proofs.Apdus.{answer_is_apdu}
use Rattle.session_law.proofs.Frames.{connect_read}
use Rattle.load_law.specs.Download.{Went, NotBegun, Acknowledged, Answered, MayAsk, Follows, IsDone}
use Rattle.knx_model.specs.Served.{FitsInto}
use Rattle.load_law.specs.Undisturbed.{acknowledged, operation, operations, undisturbed, AllFit}
use Rattle.load_law.proofs.Answers.{Texts}
use Rattle.load_law.proofs.Calm.{calm, same, Ends, short_control, goes_without, legal_without, answering, waits, answered, legal_answering}

-- ---- one run after another

replay_more : (start : World) (l k : List Event) → replay start (l ++ k) ≡ replay (replay start k) l
replay_more start [] k = refl
replay_more start (e ∷ l) k = ap (λ (w : World). replay w (e ∷ [])) (replay_more start l k)

legal_more : (start : World) (l k : List Event) → IsLegal (replay start k) l → IsLegal start k → IsLegal start (l ++ k)
legal_more start [] k h g = g
legal_more start (e ∷ l) k h g = (subst (λ (w : World). MayHappen w e) (sym (replay_more start l k)) h.0, legal_more start l k h.1 g)

follows_more : (IsJob : Plan → Type 0) (start : World) (l k : List Event) → Follows IsJob (replay start k) l → Follows IsJob start k → Follows IsJob start (l ++ k)
follows_more IsJob start [] k h g = g
follows_more IsJob start (e ∷ l) k h g = (subst (λ (w : World). MayAsk IsJob w e) (sym (replay_more start l k)) h.0, follows_more IsJob start l k h.1 g)

next_small : (n : ℕ) → next_number n < 16
next_small n = omega arith

-- ---- from a connection that is up

pub record EndsDone (IsJob : Plan → Type 0) (plan : Plan) (w : World) (events : List Event) : Type 0 where
  pub legal : IsLegal w events
  pub follows : Follows IsJob w events
  pub done : IsDone plan (replay w events)

pub then_done : (IsJob : Plan → Type 0) (plan : Plan) (w : World) (l k : List Event) → IsLegal w k → Follows IsJob w k → EndsDone IsJob plan (replay w k) l → EndsDone IsJob plan w (l ++ k)
then_done IsJob plan w l k legal f h = record { legal = legal_more w l k h.legal legal; follows = follows_more IsJob w l k h.follows f; done = subst (λ (x : World). IsDone plan x) (sym (replay_more w l k)) h.done }

abbrev answers_of : DeviceState → NonVolatile → List ℕ → Option (List ℕ)
answers_of d = answer_in d.frames

module _ (IsJob : Plan → Type 0) (plan : Plan) (job : IsJob plan) (me : IndAddr) (d : DeviceState) (t : ℕ) (can : IsSendable plan) where
  abbrev Up : NonVolatile → List (Option Value) → Option Ldata → Option Ldata → ℕ → ℕ → Texts → Texts → World
  Up = calm me d t

  -- the rest of the plan, from any such connection
  abbrev GoesOn : Plan → Type 0
  GoesOn rest =
      (kept : NonVolatile) (values : List (Option Value)) (last echo : Option Ldata) (p h : ℕ) (sent accepted : Texts) → p < 16 → h < 16 → Went plan sent accepted rest → IsSendable rest → AnswersAll (answers_of d) rest kept → AllFit d.frames (answers_of d) rest kept
      → EndsDone IsJob plan (Up kept values last echo p h sent accepted) (operations (answers_of d) rest kept)

  without_one : (place : ℕ) (apdu : List ℕ) (next : Option (List ℕ) → Plan) (kept : NonVolatile) (values : List (Option Value)) (last echo : Option Ldata) (p h : ℕ) (sent accepted : Texts) → p < 16 → h < 16 → Went plan sent accepted (Operation place apdu AckOnly next) → IsApdu apdu
      → FitsInto d.frames apdu → has_answer apdu ≡ false → answers_of d kept apdu ≡ None → (rest : List Event) → ((values : List (Option Value)) (last echo : Option Ldata) → EndsDone IsJob plan (Up (whole kept (effect_in apdu)) values last echo (next_number p) h (apdu ∷ sent) accepted) rest)
      → EndsDone IsJob plan (Up kept values last echo p h sent accepted) (rest ++ acknowledged apdu)
  without_one place apdu next kept values last echo p h sent accepted small tiny went is fits a n rest more =
      let g = goes_without me d t kept values last echo p h sent accepted apdu small is fits a n in
      then_done IsJob plan (Up kept values last echo p h sent accepted) rest (acknowledged apdu) (legal_without me d t kept values last echo p h sent accepted apdu small is fits)
      (tt, (tt, (tt, (tt, ((plan, job, record { free = refl; place = place; expect = AckOnly; next = next; went = went }), tt)))))
      (subst (λ (w : World). EndsDone IsJob plan w rest) (sym g.3) (more g.0 g.1 g.2))

  with_one : (place : ℕ) (apdu v : List ℕ) (expect : Expect) (next : Option (List ℕ) → Plan) (kept : NonVolatile) (values : List (Option Value)) (last echo : Option Ldata) (p h : ℕ) (sent accepted : Texts) → p < 16 → h < 16 → Went plan sent accepted (Operation place apdu expect next) → IsApdu apdu
      → FitsInto d.frames apdu → has_answer apdu ≡ true → answers_of d kept apdu ≡ Some v → (rest : List Event) → ((values : List (Option Value)) (last echo : Option Ldata) → EndsDone IsJob plan (Up (whole kept (effect_in apdu)) values last echo (next_number p) (next_number h) (apdu ∷ sent) (v ∷ accepted)) rest)
      → EndsDone IsJob plan (Up kept values last echo p h sent accepted) (rest ++ operation apdu (Some v))
  with_one place apdu v expect next kept values last echo p h sent accepted small tiny went is fits a n rest more =
      let iv : IsApdu v = answer_is_apdu d.frames kept apdu v n in
      let start : World = Up kept values last echo p h sent accepted in
      let g = waits me d t kept values last echo p h sent accepted apdu v small is fits a n in
      let k : World = replay start (acknowledged apdu) in
      let u = answered me d t (whole kept (effect_in apdu)) g.0 g.1 g.2 (next_number p) h (apdu ∷ sent) accepted v tiny iv in
      let legal : IsLegal k answering = subst (λ (w : World). IsLegal w answering) (sym g.3) (legal_answering me d t (whole kept (effect_in apdu)) g.0 g.1 g.2 (next_number p) h (apdu ∷ sent) accepted v) in
      let end : replay k answering ≡ Up (whole kept (effect_in apdu)) u.0 u.1 u.2 (next_number p) (next_number h) (apdu ∷ sent) (v ∷ accepted) = ap (λ (w : World). replay w answering) g.3 ∙ u.3 in
      let last_part : EndsDone IsJob plan k (rest ++ answering) = then_done IsJob plan k rest answering legal (tt, (tt, (tt, (tt, (tt, tt))))) (subst (λ (w : World). EndsDone IsJob plan w rest) (sym end) (more u.0 u.1 u.2)) in
      let all : EndsDone IsJob plan start ((rest ++ answering) ++ acknowledged apdu) = then_done IsJob plan start (rest ++ answering) (acknowledged apdu) (legal_without me d t kept values last echo p h sent accepted apdu small is fits)
      (tt, (tt, (tt, (tt, ((plan, job, record { free = refl; place = place; expect = expect; next = next; went = went }), tt))))) last_part in
      subst (λ (l : List Event). EndsDone IsJob plan start l) (append_assoc rest answering (acknowledged apdu)) all

  by_answer : (place : ℕ) (apdu : List ℕ) (expect : Expect) (next : Option (List ℕ) → Plan) (kept : NonVolatile) (values : List (Option Value)) (last echo : Option Ldata) (p h : ℕ) (sent accepted : Texts) → p < 16 → h < 16 → Went plan sent accepted (Operation place apdu expect next)
      → IsSendable (Operation place apdu expect next) → FitsInto d.frames apdu → (o : Option (List ℕ)) → answers_of d kept apdu ≡ o → Suits apdu expect o
      → ((p h : ℕ) (accepted : Texts) → p < 16 → h < 16 → Went plan (apdu ∷ sent) accepted (next o) → (values : List (Option Value)) (last echo : Option Ldata) → EndsDone IsJob plan (Up (whole kept (effect_in apdu)) values last echo p h (apdu ∷ sent) accepted) (operations (answers_of d) (next o) (whole kept (effect_in apdu))))
      → EndsDone IsJob plan (Up kept values last echo p h sent accepted) (operations (answers_of d) (next o) (whole kept (effect_in apdu)) ++ operation apdu o)
  by_answer place apdu AckOnly next kept values last echo p h sent accepted small tiny went s fits None e suits more =
      without_one place apdu next kept values last echo p h sent accepted small tiny went s.0 fits (sym s.1) e (operations (answers_of d) (next None) (whole kept (effect_in apdu)))
      (more (next_number p) h accepted (next_small p) tiny (Acknowledged place apdu next sent accepted went))
  by_answer place apdu (Is wanted) next kept values last echo p h sent accepted small tiny went s fits None e suits more = absurd suits
  by_answer place apdu Note next kept values last echo p h sent accepted small tiny went s fits None e suits more = absurd suits
  by_answer place apdu AckOnly next kept values last echo p h sent accepted small tiny went s fits (Some v) e suits more = absurd suits
  by_answer place apdu (Is wanted) next kept values last echo p h sent accepted small tiny went s fits (Some v) e suits more =
      with_one place apdu v (Is wanted) next kept values last echo p h sent accepted small tiny went s.0 fits (sym s.1) e (operations (answers_of d) (next (Some v)) (whole kept (effect_in apdu)))
      (more (next_number p) (next_number h) (v ∷ accepted) (next_small p) (next_small h) (Answered place apdu (Is wanted) next v sent accepted went suits))
  by_answer place apdu Note next kept values last echo p h sent accepted small tiny went s fits (Some v) e suits more =
      with_one place apdu v Note next kept values last echo p h sent accepted small tiny went s.0 fits (sym s.1) e (operations (answers_of d) (next (Some v)) (whole kept (effect_in apdu)))
      (more (next_number p) (next_number h) (v ∷ accepted) (next_small p) (next_small h) (Answered place apdu Note next v sent accepted went suits))

  goes_on : (rest : Plan) → GoesOn rest
  goes_on Over kept values last echo p h sent accepted small tiny went s a f = record { legal = tt; follows = tt; done = record { over = refl; all = went } }
  goes_on (Operation place apdu expect next) kept values last echo p h sent accepted small tiny went s a f =
      by_answer place apdu expect next kept values last echo p h sent accepted small tiny went s f.0 (answers_of d kept apdu) refl a.0
      (λ p2 h2 accepted2 small2 tiny2 went2 values2 last2 echo2. goes_on (next (answers_of d kept apdu)) (whole kept (effect_in apdu)) values2 last2 echo2 p2 h2 (apdu ∷ sent) accepted2 small2 tiny2 went2 (s.2 (answers_of d kept apdu)) a.1 f.1)

-- ---- the connection

drop_all : (l : List Message) → drop (length l) l ≡ []
drop_all [] = refl
drop_all (x ∷ l) = drop_all l

abbrev pub connecting : World → List Event
connecting w = Takes ∷ Bus Whole ∷ Connects ∷ Joins (length w.coming) ∷ []

-- a device with power takes the T_Connect
opens : (w : World) → w.device.power ≡ true → device_took w.device.connection (record { raw = w.me.raw }) Connect ≡ took.Connected → Ends (replay w (connecting w)) w.me w.device w.now w.device.kept 0 0 [] []
unfolding device_after client_confirmed after_confirmed
opens w power takes =
    let n : World = replay w (connecting w) in
    (n.device.values, n.device.last, n.echo, rw power (rw (same w.device.address.raw) (rw (short_control w.device.frames w.me w.device.address 0x80) (rw connect_read (rw takes (rw (drop_all w.coming) refl))))))

no_messages : (l : List Message) → AllByRecursion IsInd (drop (length l) l)
no_messages l = subst (λ (z : List Message). AllByRecursion IsInd z) (sym (drop_all l)) tt

pub from_here : (IsJob : Plan → Type 0) (plan : Plan) (w : World) → IsJob plan → IsSendable plan → w.device.power ≡ true → device_took w.device.connection (record { raw = w.me.raw }) Connect ≡ took.Connected → AnswersAll (answers_of w.device) plan w.device.kept
    → AllFit w.device.frames (answers_of w.device) plan w.device.kept → EndsDone IsJob plan w (operations (answers_of w.device) plan w.device.kept ++ connecting w)
from_here IsJob plan w job can power takes a f =
    let g = opens w power takes in
    then_done IsJob plan w (operations (answers_of w.device) plan w.device.kept) (connecting w) (tt, (tt, ((refl, refl), (no_messages w.coming, tt)))) (tt, (tt, (tt, (tt, tt))))
    (subst (λ (n : World). EndsDone IsJob plan n (operations (answers_of w.device) plan w.device.kept)) (sym g.3) (goes_on IsJob plan job w.me w.device w.now can plan w.device.kept g.0 g.1 g.2 0 0 [] [] (omega arith) (omega arith) NotBegun can a f))

closed_takes : (from : IndAddr) → device_took Closed from Connect ≡ took.Connected
unfolding device_took
closed_takes from = refl

pub ends : (IsJob : Plan → Type 0) (plan : Plan) (me : IndAddr) (d : DeviceState) → IsJob plan → IsSendable plan → d.power ≡ true → AnswersAll (answers_of d) plan d.kept → AllFit d.frames (answers_of d) plan d.kept → EndsDone IsJob plan (fresh me d) (undisturbed (answers_of d) plan d.kept)
ends IsJob plan me d job can power a f = from_here IsJob plan (fresh me d) job can power (closed_takes (record { raw = me.raw })) a f
