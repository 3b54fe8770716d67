-- Both plans whole: each load plan is good, whatever is noted, and serves a device that nothing disturbs.
use Rattle.std.proofs.Common.{◌≡◌, Some, inl, refl, ◌∙◌, ap}
use Rattle.knx_model.specs.declared.config.Image.{Image}
use Rattle.knx_model.specs.declared.device.FrameSupport.{FrameSupport}
use Rattle.knx_model.specs.declared.plan.PieceSize.{PieceSize}
use Rattle.knx_model.specs.Device.{NonVolatile, answer_in, runs, Fits, HasCapacities}
use Rattle.knx_model.specs.Operations.{listed}
use Rattle.knx_model.specs.LoadPlan.{load_operations, load_plan, check_operations, check_plan}
use Rattle.knx_model.specs.GoodPlan.{GoodPlan, Beginning, OldStoppedOrImage, AnswersAll, kept_by_all, IsSendable}
use Rattle.knx_model.proofs.Leads.{Leads, Leads-beginning, Leads-whole}
use Rattle.download_plan.proofs.Good.{operations_good}
use Rattle.download_plan.proofs.Served.{operations_serve}
use Rattle.download_plan.proofs.Octets.{octets_lead, octets_serve, octets_served}
use Rattle.download_plan.proofs.Opened.{opened_leads, opened_kept, opened_answers, opened_answered, opened_sendable, size_of, size_read}
use Rattle.download_plan.proofs.Checked.{reads_serve_as, served_reads, reads_stay, check_reads, checked_runs, runs_checked}
use Rattle.download_plan.proofs.Writable.{load_writable, check_writable}

rest_leads : (frames : FrameSupport) (image : Image) (size : PieceSize) → Fits image → (start : NonVolatile) → Leads (answer_in frames) (OldStoppedOrImage start image) (λ nv. runs nv ≡ Some image) (listed 2 (load_operations image size)) start
rest_leads frames image size f start =
    octets_lead 2 frames (OldStoppedOrImage start image) (λ nv. runs nv ≡ Some image) (load_operations image size) start (load_writable image size) (operations_good frames size image f start)

pub rest_good : (image : Image) (size : PieceSize) → Fits image → GoodPlan (listed 2 (load_operations image size)) image
rest_good image size f = record {
  beginnings = λ frames start end b. Leads-beginning (answer_in frames) (OldStoppedOrImage start image) (λ nv. runs nv ≡ Some image) (listed 2 (load_operations image size)) start end b (rest_leads frames image size f start);
  whole_runs = λ frames start end w. Leads-whole (answer_in frames) (OldStoppedOrImage start image) (λ nv. runs nv ≡ Some image) (listed 2 (load_operations image size)) start end w (rest_leads frames image size f start);
}

pub plan_leads : (frames : FrameSupport) (image : Image) → Fits image → (start : NonVolatile) → Leads (answer_in frames) (OldStoppedOrImage start image) (λ nv. runs nv ≡ Some image) (load_plan image) start
unfolding load_plan
plan_leads frames image f start =
    opened_leads frames (OldStoppedOrImage start image) (λ nv. runs nv ≡ Some image) (load_operations image) start (inl refl) (λ size. rest_leads frames image size f start)

pub plan_good : (image : Image) → Fits image → GoodPlan (load_plan image) image
plan_good image f = record {
  beginnings = λ frames start end b. Leads-beginning (answer_in frames) (OldStoppedOrImage start image) (λ nv. runs nv ≡ Some image) (load_plan image) start end b (plan_leads frames image f start);
  whole_runs = λ frames start end w. Leads-whole (answer_in frames) (OldStoppedOrImage start image) (λ nv. runs nv ≡ Some image) (load_plan image) start end w (plan_leads frames image f start);
}

rest_serves : (frames : FrameSupport) (image : Image) → Fits image → (nv : NonVolatile) → HasCapacities nv
    → AnswersAll (answer_in frames) (listed 2 (load_operations image (size_of frames))) nv × (runs (kept_by_all (answer_in frames) (listed 2 (load_operations image (size_of frames))) nv) ≡ Some image)
rest_serves frames image f nv h =
    octets_serve 2 frames (λ u. runs u ≡ Some image) (load_operations image (size_of frames)) nv (load_writable image (size_of frames)) (operations_serve frames (size_of frames) image (size_read frames) f nv h)

pub plan_answers : (image : Image) → Fits image → (frames : FrameSupport) (nv : NonVolatile) → HasCapacities nv → AnswersAll (answer_in frames) (load_plan image) nv
unfolding load_plan
plan_answers image f frames nv h = opened_answers frames (load_operations image) nv (rest_serves frames image f nv h).0

pub plan_leaves : (image : Image) → Fits image → (frames : FrameSupport) (nv : NonVolatile) → HasCapacities nv → runs (kept_by_all (answer_in frames) (load_plan image) nv) ≡ Some image
unfolding load_plan
plan_leaves image f frames nv h = ap runs (opened_kept frames (load_operations image) nv) ∙ (rest_serves frames image f nv h).1

pub load_sendable : (image : Image) → IsSendable (load_plan image)
unfolding load_plan
load_sendable image = opened_sendable (load_operations image) (load_writable image)

pub check_sendable : (image : Image) → IsSendable (check_plan image)
unfolding check_plan
check_sendable image = opened_sendable (check_operations image) (check_writable image)

-- ---- the check plan

check_rest : (image : Image) → Fits image → (frames : FrameSupport) (nv : NonVolatile) → HasCapacities nv → AnswersAll (answer_in frames) (listed 2 (check_operations image (size_of frames))) nv → runs nv ≡ Some image
check_rest image f frames nv c h =
    checked_runs frames image (size_of frames) nv f c (served_reads frames (check_operations image (size_of frames)) nv (check_reads image (size_of frames))
    (octets_served 2 frames (check_operations image (size_of frames)) nv (check_writable image (size_of frames)) h))

pub check_runs : (image : Image) → Fits image → (frames : FrameSupport) (nv : NonVolatile) → HasCapacities nv → AnswersAll (answer_in frames) (check_plan image) nv → runs nv ≡ Some image
unfolding check_plan
check_runs image f frames nv c h = check_rest image f frames nv c (opened_answered frames (check_operations image) nv h)

pub check_answers : (image : Image) → Fits image → (frames : FrameSupport) (nv : NonVolatile) → HasCapacities nv → runs nv ≡ Some image → AnswersAll (answer_in frames) (check_plan image) nv
unfolding check_plan
check_answers image f frames nv c e =
    opened_answers frames (check_operations image) nv
    (octets_serve 2 frames (λ _. Unit {0}) (check_operations image (size_of frames)) nv (check_writable image (size_of frames))
    (reads_serve_as frames (check_operations image (size_of frames)) nv (check_reads image (size_of frames)) (runs_checked frames image (size_of frames) nv (size_read frames) f c e))).0

pub check_leads : (image : Image) (frames : FrameSupport) (start : NonVolatile) → Leads (answer_in frames) (λ u. u ≡ start) (λ u. u ≡ start) (check_plan image) start
unfolding check_plan
check_leads image frames start =
    opened_leads frames (λ u. u ≡ start) (λ u. u ≡ start) (check_operations image) start refl
    (λ size. octets_lead 2 frames (λ u. u ≡ start) (λ u. u ≡ start) (check_operations image size) start (check_writable image size) (reads_stay frames (check_operations image size) start (check_reads image size)))

pub check_stays : (image : Image) (frames : FrameSupport) (start end : NonVolatile) → Beginning (answer_in frames) (check_plan image) start end → end ≡ start
check_stays image frames start end b = Leads-beginning (answer_in frames) (λ u. u ≡ start) (λ u. u ≡ start) (check_plan image) start end b (check_leads image frames start)
