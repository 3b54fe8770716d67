-- Each job with the plan of a compiled image is a good one.
use Rattle.std.proofs.Common.{◌≡◌, true, false, List, [], ◌∷◌, Some, sym, ◌∙◌, subst}
use Rattle.std.specs.List.{AllByRecursion}
use Rattle.download_plan.proofs.Plans.{plan_good, check_runs, check_stays, load_sendable, check_sendable}
use Rattle.knx_model.specs.declared.config.Image.{Image}
use Rattle.knx_model.specs.declared.device.FrameSupport.{FrameSupport}
use Rattle.call_words.specs.declared.job_word.JobKind.{JobKind}
use Rattle.call_words.specs.declared.job_word.JobKind.TheVariants.{Load, Check}
use Rattle.call_words.specs.declared.job_word.JobWord.{JobWord}
use Rattle.knx_model.specs.Device.{Fits, HasCapacities, NonVolatile, answer_in, effect_in, runs, whole}
use Rattle.knx_model.specs.DeviceFrames.{Whole}
use Rattle.knx_model.specs.GoodPlan.{Answering, AnswersAll, Beginning, Last, Then, GoodPlan, IsSendable, WholeRun, AtEnd, Goes, kept_by}
use Rattle.knx_model.specs.LoadPlan.{check_plan}
use Rattle.knx_model.specs.Meaning.{Installation}
use Rattle.knx_model.specs.Plans.{Plan}
use Rattle.line_model.specs.Headline.{GoodCheck, IsGoodJob}
use Rattle.line_model.specs.Log.{Job}
use Rattle.call_parts.specs.Jobs.{ArePlanned, is_load, plan_of}

-- a whole run of a plan that changes nothing gives every answer
all_answered : (answers : Answering) (plan : Plan) (nv end : NonVolatile) → ((last : NonVolatile) → Beginning answers plan nv last → last ≡ nv) → WholeRun answers plan nv end → AnswersAll answers plan nv
all_answered answers _ _ _ stays (AtEnd nv) = tt
all_answered answers _ _ _ stays (Goes place apdu expect next nv outcome end not_torn suits rest) =
    let same : kept_by nv apdu outcome ≡ nv = stays (kept_by nv apdu outcome) (Last place apdu expect next nv outcome) in
    let still : nv ≡ whole nv (effect_in apdu) = sym (stays (kept_by nv apdu Whole) (Last place apdu expect next nv Whole)) in
    let later : (last : NonVolatile) → Beginning answers (next (answers nv apdu)) (kept_by nv apdu outcome) last → last ≡ kept_by nv apdu outcome
    = λ last b. stays last (Then place apdu expect next nv outcome last not_torn suits b) ∙ sym same in
    (suits, subst (AnswersAll answers (next (answers nv apdu))) (same ∙ still) (all_answered answers (next (answers nv apdu)) (kept_by nv apdu outcome) end later rest))

check_tells : (image : Image) → Fits image → (frames : FrameSupport) (start end : NonVolatile) → HasCapacities start → WholeRun (answer_in frames) (check_plan image) start end → runs start ≡ Some image
check_tells image fits frames start end capacities run =
    check_runs image fits frames start capacities (all_answered (answer_in frames) (check_plan image) start end (λ last b. check_stays image frames start last b) run)

check_good : (image : Image) → Fits image → GoodCheck (check_plan image) image
check_good image fits = record {
  changes_nothing = λ frames start end b. check_stays image frames start end b;
  tells = check_tells image fits;
}

-- ---- by the kind of the job

good_by : (kind : JobKind) (job : Job) → job.loads ≡ is_load kind → Fits job.image → job.plan ≡ plan_of kind job.image → IsGoodJob job
good_by Load job is fits plan = record {
  sendable = subst IsSendable (sym plan) (load_sendable job.image);
  load = λ _. subst (λ (p : Plan). GoodPlan p job.image) (sym plan) (plan_good job.image fits);
  check = λ no. absurd (let no_load : true ≡ false = sym is ∙ no in cc);
}
good_by Check job is fits plan = record {
  sendable = subst IsSendable (sym plan) (check_sendable job.image);
  load = λ yes. absurd (let no_load : true ≡ false = sym yes ∙ is in cc);
  check = λ _. subst (λ (p : Plan). GoodCheck p job.image) (sym plan) (check_good job.image fits);
}

pub all_good : (project : Installation) (jobs : List Job) (words : List JobWord) → ArePlanned project jobs words → AllByRecursion IsGoodJob jobs
all_good project [] [] h = tt
all_good project [] (w ∷ ws) h = absurd h
all_good project (j ∷ js) [] h = absurd h
all_good project (j ∷ js) (w ∷ ws) h = (good_by w.kind j h.0.loads h.0.image.fits h.0.plan, all_good project js ws h.1)
