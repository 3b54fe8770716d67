-- Jobs whose plans are good: one good plan, and the loads and checks of an image.
use Rattle.std.proofs.Common.{◌≡◌, ℕ, List, [], ◌∷◌, ◌++◌, true, Some, refl, sym, ◌∙◌, ap, subst, inl, inr}
use Rattle.knx_model.specs.declared.address.IndAddr.{IndAddr}
use Rattle.knx_model.specs.declared.config.Image.{Image}
use Rattle.knx_model.specs.Device.{NonVolatile, Fits, HasCapacities, answer_in, effect_in, runs, whole}
use Rattle.knx_model.specs.DeviceFrames.{Outcome, Whole}
use Rattle.knx_model.specs.DeviceState.{DeviceState}
use Rattle.knx_model.specs.GoodPlan.{Answering, WholeRun, AtEnd, Goes, GoodPlan, AnswersAll, IsSendable, kept_by, OldStoppedOrImage}
use Rattle.knx_model.specs.LoadPlan.{load_plan, check_plan}
use Rattle.knx_model.specs.Plans.{Plan, Suits}
use Rattle.knx_model.proofs.Leads.{Leads}
use Rattle.session_law.specs.World.{World, fresh}
use Rattle.session_law.specs.Events.{Event, replay, IsLegal, AtEveryMoment}
use Rattle.download_plan.proofs.Plans.{plan_good, load_sendable, plan_answers, check_sendable, check_stays, check_runs, check_leads}
use Rattle.load_law.specs.Download.{Follows, IsDone, IsRight, IsGood, AllGood, IsAmong, IsOnly, IsLoad, IsLoadOrCheck, AsksNothing}
use Rattle.load_law.specs.Undisturbed.{undisturbed}
use Rattle.load_law.proofs.Walked.{IsGoodFor, AllGoodFor}
use Rattle.knx_model.proofs.Capacities.{kept_capacities}
use Rattle.load_law.proofs.Follows.{IsRightFor, each_moment}
use Rattle.load_law.proofs.Quiet.{done_stays}
use Rattle.load_law.proofs.Short.{load_fits}
use Rattle.load_law.proofs.Ends.{EndsDone, ends}

-- ---- one good plan

abbrev Any : NonVolatile → Type 0
Any nv = Unit {0}

-- what a plan of an image is for
abbrev pub RunsIt : Image → Plan → NonVolatile → Type 0
RunsIt image plan nv = runs nv ≡ Some image

-- what a beginning makes of a right content
right_on : (first start end : NonVolatile) (image : Image) → OldStoppedOrImage first image start → OldStoppedOrImage start image end → OldStoppedOrImage first image end
right_on first start end image case h = elim h [ inl same ↦ subst (OldStoppedOrImage first image) (sym same) case | inr other ↦ inr other ]

good_for : (Holds : NonVolatile → Type 0) (plan : Plan) (image : Image) (first : NonVolatile) → GoodPlan plan image → IsGoodFor Holds (OldStoppedOrImage first image) (RunsIt image plan) plan
good_for Holds plan image first good = record {
  beginnings = λ frames start end holds case b. right_on first start end image case (good.beginnings frames start end b);
  whole_runs = λ frames start end holds case r. good.whole_runs frames start end r;
}

only_good : (plan : Plan) (image : Image) (first : NonVolatile) → GoodPlan plan image → IsSendable plan → AllGoodFor (IsOnly plan) Any (OldStoppedOrImage first image) (RunsIt image)
only_good plan image first good can = record {
  kept = λ nv apdu outcome holds. tt;
  good = λ one e. subst (λ (p : Plan). IsGoodFor Any (OldStoppedOrImage first image) (RunsIt image p) p) (sym e) (good_for Any plan image first good);
  sendable = λ one e. subst IsSendable (sym e) can;
}

-- the same, said of one image
are_right : (IsJob : Plan → Type 0) (image : Image) (first : NonVolatile) (start : World) (events : List Event) → AtEveryMoment (λ past. IsRightFor IsJob (OldStoppedOrImage first image) (RunsIt image) (replay start past)) events
    → AtEveryMoment (λ past. IsRight IsJob image first (replay start past)) events
are_right IsJob image first start [] h = record { case = h.case; done = h.done }
are_right IsJob image first start (e ∷ events) h = (record { case = h.0.case; done = h.0.done }, are_right IsJob image first start events h.1)

pub plan_right : (plan : Plan) (image : Image) (me : IndAddr) (d : DeviceState) (events : List Event) → GoodPlan plan image → IsSendable plan → IsLegal (fresh me d) events → Follows (IsOnly plan) (fresh me d) events
    → AtEveryMoment (λ past. IsRight (IsOnly plan) image d.kept (replay (fresh me d) past)) events
plan_right plan image me d events good can legal follows =
    are_right (IsOnly plan) image d.kept (fresh me d) events (each_moment (IsOnly plan) Any (OldStoppedOrImage d.kept image) (RunsIt image) me d events (only_good plan image d.kept good can) tt (inl refl) legal follows)

pub plan_stays : (plan : Plan) (image : Image) (me : IndAddr) (d : DeviceState) (later earlier : List Event) → GoodPlan plan image → IsSendable plan → IsLegal (fresh me d) (later ++ earlier) → Follows (IsOnly plan) (fresh me d) earlier
    → IsDone plan (replay (fresh me d) earlier) → AsksNothing later → (replay (fresh me d) (later ++ earlier)).device.kept ≡ (replay (fresh me d) earlier).device.kept
plan_stays plan image me d later earlier good can legal follows done silent = done_stays (IsOnly plan) Any (OldStoppedOrImage d.kept image) (RunsIt image) plan me d later earlier (only_good plan image d.kept good can) tt (inl refl) refl legal follows done silent

-- ---- several good plans

among_good : (plans : List Plan) (image : Image) (plan : Plan) → AllGood plans image → IsAmong plans plan → IsGood plan image
among_good [] image plan all job = absurd job
among_good (one ∷ plans) image plan all (inl e) = subst (λ (p : Plan). IsGood p image) (sym e) all.0
among_good (one ∷ plans) image plan all (inr job) = among_good plans image plan all.1 job

has_kept : (nv : NonVolatile) (apdu : List ℕ) (outcome : Outcome) → HasCapacities nv → HasCapacities (kept_by nv apdu outcome)
has_kept nv apdu outcome has = kept_capacities nv (effect_in apdu) outcome has

plans_good : (plans : List Plan) (image : Image) (first : NonVolatile) → AllGood plans image → AllGoodFor (IsAmong plans) HasCapacities (OldStoppedOrImage first image) (RunsIt image)
plans_good plans image first all = record {
  kept = has_kept;
  good = λ plan job.
      let g : IsGood plan image = among_good plans image plan all job in
      record { beginnings = λ frames start end holds case b. right_on first start end image case (g.beginnings frames start end holds b); whole_runs = λ frames start end holds case r. g.whole_runs frames start end holds r };
  sendable = λ plan job. (among_good plans image plan all job).sendable;
}

pub plans_right : (plans : List Plan) (image : Image) (me : IndAddr) (d : DeviceState) (events : List Event) → AllGood plans image → HasCapacities d.kept → IsLegal (fresh me d) events → Follows (IsAmong plans) (fresh me d) events
    → AtEveryMoment (λ past. IsRight (IsAmong plans) image d.kept (replay (fresh me d) past)) events
plans_right plans image me d events all has legal follows =
    are_right (IsAmong plans) image d.kept (fresh me d) events (each_moment (IsAmong plans) HasCapacities (OldStoppedOrImage d.kept image) (RunsIt image) me d events (plans_good plans image d.kept all) has (inl refl) legal follows)

pub plans_stay : (plans : List Plan) (plan : Plan) (image : Image) (me : IndAddr) (d : DeviceState) (later earlier : List Event) → AllGood plans image → HasCapacities d.kept → IsAmong plans plan → IsLegal (fresh me d) (later ++ earlier)
    → Follows (IsAmong plans) (fresh me d) earlier → IsDone plan (replay (fresh me d) earlier) → AsksNothing later → (replay (fresh me d) (later ++ earlier)).device.kept ≡ (replay (fresh me d) earlier).device.kept
plans_stay plans plan image me d later earlier all has job legal follows done silent = done_stays (IsAmong plans) HasCapacities (OldStoppedOrImage d.kept image) (RunsIt image) plan me d later earlier (plans_good plans image d.kept all) has (inl refl) job legal follows done silent

-- ---- a check, of a device whose memories have their capacities

whole_answers : (answers : Answering) (plan : Plan) (start nv end : NonVolatile) → WholeRun answers plan nv end → nv ≡ start → Leads answers (λ u. u ≡ start) (λ u. u ≡ start) plan nv → AnswersAll answers plan start × (end ≡ start)
whole_answers answers _ start _ _ (AtEnd nv) e h = (tt, e)
whole_answers answers _ start _ _ (Goes place apdu expect next nv outcome end whole_ suits rest) e h =
    let ih = whole_answers answers (next (answers nv apdu)) start (kept_by nv apdu outcome) end rest (h.1 outcome) (h.2 outcome whole_ suits) in
    let same : whole start (effect_in apdu) ≡ start = subst (λ (z : NonVolatile). whole z (effect_in apdu) ≡ start) e (h.1 Whole) in
    let after : AnswersAll answers (next (answers start apdu)) start = subst (λ (z : NonVolatile). AnswersAll answers (next (answers z apdu)) start) e ih.0 in
    ((subst (λ (z : NonVolatile). Suits apdu expect (answers z apdu)) e suits, subst (λ (z : NonVolatile). AnswersAll answers (next (answers start apdu)) z) (sym same) after), ih.1)

check_good : (image : Image) (first : NonVolatile) → Fits image → IsGoodFor HasCapacities (OldStoppedOrImage first image) (RunsIt image (check_plan image)) (check_plan image)
check_good image first fits = record {
  beginnings = λ frames start end has case b. right_on first start end image case (inl (check_stays image frames start end b));
  whole_runs = λ frames start end has case r.
      let h = whole_answers (answer_in frames) (check_plan image) start start end r refl (check_leads image frames start) in
      ap runs h.1 ∙ check_runs image fits frames start has h.0;
}

job_good : (image : Image) (plan : Plan) (first : NonVolatile) → Fits image → IsLoadOrCheck image plan → IsGoodFor HasCapacities (OldStoppedOrImage first image) (RunsIt image plan) plan
job_good image plan first fits (inl e) = subst (λ (p : Plan). IsGoodFor HasCapacities (OldStoppedOrImage first image) (RunsIt image p) p) (sym e) (good_for HasCapacities (load_plan image) image first (plan_good image fits))
job_good image plan first fits (inr e) = subst (λ (p : Plan). IsGoodFor HasCapacities (OldStoppedOrImage first image) (RunsIt image p) p) (sym e) (check_good image first fits)

job_sendable : (image : Image) (plan : Plan) → IsLoadOrCheck image plan → IsSendable plan
job_sendable image plan (inl e) = subst IsSendable (sym e) (load_sendable image)
job_sendable image plan (inr e) = subst IsSendable (sym e) (check_sendable image)

pub jobs_good : (image : Image) (first : NonVolatile) → Fits image → AllGoodFor (IsLoadOrCheck image) HasCapacities (OldStoppedOrImage first image) (RunsIt image)
jobs_good image first fits = record { kept = has_kept; good = λ plan job. job_good image plan first fits job; sendable = λ plan job. job_sendable image plan job }

pub jobs_right : (image : Image) (me : IndAddr) (d : DeviceState) (events : List Event) → Fits image → HasCapacities d.kept → IsLegal (fresh me d) events → Follows (IsLoadOrCheck image) (fresh me d) events
    → AtEveryMoment (λ past. IsRight (IsLoadOrCheck image) image d.kept (replay (fresh me d) past)) events
jobs_right image me d events fits has legal follows =
    are_right (IsLoadOrCheck image) image d.kept (fresh me d) events (each_moment (IsLoadOrCheck image) HasCapacities (OldStoppedOrImage d.kept image) (RunsIt image) me d events (jobs_good image d.kept fits) has (inl refl) legal follows)

-- ---- a load

pub load_right : (image : Image) (me : IndAddr) (d : DeviceState) (events : List Event) → Fits image → IsLegal (fresh me d) events → Follows (IsLoad image) (fresh me d) events
    → AtEveryMoment (λ past. IsRight (IsLoad image) image d.kept (replay (fresh me d) past)) events
load_right image me d events fits legal follows = plan_right (load_plan image) image me d events (plan_good image fits) (load_sendable image) legal follows

pub load_ends : (image : Image) (me : IndAddr) (d : DeviceState) → Fits image → HasCapacities d.kept → d.power ≡ true → EndsDone (IsLoad image) (load_plan image) (fresh me d) (undisturbed (answer_in d.frames) (load_plan image) d.kept)
load_ends image me d fits has power = ends (IsLoad image) (load_plan image) me d refl (load_sendable image) power (plan_answers image fits d.frames d.kept has) (load_fits d.frames image d.kept)

-- the last of all moments
last_moment : (P : List Event → Type 0) (events : List Event) → AtEveryMoment P events → P events
last_moment P [] h = h
last_moment P (e ∷ events) h = h.0

pub load_runs : (image : Image) (me : IndAddr) (d : DeviceState) → Fits image → HasCapacities d.kept → d.power ≡ true → runs (replay (fresh me d) (undisturbed (answer_in d.frames) (load_plan image) d.kept)).device.kept ≡ Some image
load_runs image me d fits has power =
    let e : EndsDone (IsLoad image) (load_plan image) (fresh me d) (undisturbed (answer_in d.frames) (load_plan image) d.kept) = load_ends image me d fits has power in
    let right = last_moment (λ past. IsRight (IsLoad image) image d.kept (replay (fresh me d) past)) (undisturbed (answer_in d.frames) (load_plan image) d.kept) (load_right image me d (undisturbed (answer_in d.frames) (load_plan image) d.kept) fits e.legal e.follows) in
    right.done (load_plan image) refl e.done
