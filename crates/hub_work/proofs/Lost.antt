-- A hub's work fits the record after the loss of the channel.
use Rattle.std.proofs.Common.{◌≡◌, ◌≢◌, ◌⊎◌, inl, inr, ℕ, zero, suc, ◌+◌, ◌-◌, ◌<◌, ◌≤◌, false, List, [], ◌∷◌, length, Option, Some, None, refl, sym, ap, subst, ◌∙◌, arith}
use Rattle.std.specs.Prelude.{slice_get}
use Rattle.std.proofs.lemmas.Bool.{cases_eq}
use Rattle.std.proofs.lemmas.List.{length-map}
use Rattle.std.proofs.lemmas.Option.{same_Some, slice_get_within}
use Rattle.line_model.specs.ClientView.{Loses}
use Rattle.line_model.specs.Moments.{Moment, between, is_loss, put_to, put_frame}
use Rattle.line_model.specs.Log.{Job}
use Rattle.line_model.specs.Told.{PutsNoGroup, is_group}
use Rattle.download_core.specs.Attempt.{DownloaderState, Resting}
use Rattle.download_core.specs.Calls.{lost}
use Rattle.download_core.specs.Follows.{flies}
use Rattle.hub_work.specs.declared.crew.Held.{Held as Holds}
use Rattle.hub_work.specs.declared.telegrams.Stage.{Stage}
use Rattle.hub_work.specs.declared.work.Sender.TheVariants.{Nobody, GroupThread}
use Rattle.hub_work.specs.declared.work.Work.{Work}
use Rattle.hub_work.specs.Books.{held_at}
use Rattle.hub_work.specs.Crew.{Holding, holding_in, holdings}
use Rattle.hub_work.specs.Downloaders.{states, downloader_of, changed, task_of, new_downloader}
use Rattle.hub_work.specs.Laws.{Laws}
use Rattle.hub_work.specs.Fits.{FitsJob, FitsTelegram}
use Rattle.hub_work.specs.Follows.{LossFollows}
use Rattle.hub_work.specs.Comes.{lost_for}
use Rattle.hub_work.specs.Telegrams.{Telling, after_loss}
use Rattle.hub_work.specs.Works.{SameBooks}
use Rattle.hub_work.proofs.Changed.{changed_there, changed_elsewhere}
use Rattle.hub_work.proofs.Crews.{same_held_job}
use Rattle.hub_work.proofs.Events.{fits_on}
use Rattle.hub_work.proofs.JobEvents.{job_on, lost_becomes, lost_lands, lost_twice, lost_at_rest}
use Rattle.hub_work.proofs.Stages.{lost_telegram, not_after_loss}

-- ---- the jobs of the workers before a place are told

pub record LostSoFar (held : List (Option Holding)) (n : ℕ) (old new : List DownloaderState) : Type 0 where
  pub told : (place : ℕ) (x : Holding) (s : DownloaderState) → place < n → slice_get held place ≡ Some (Some x) → downloader_of old x.job ≡ Some s → downloader_of new x.job ≡ Some (lost s)
  pub each : (k : ℕ) (s : DownloaderState) → downloader_of old k ≡ Some s → (downloader_of new k ≡ Some s) ⊎ (downloader_of new k ≡ Some (lost s))

-- the worker at a place holds that
pub at_holding : (crew : List (Option Holds)) (n : ℕ) (x : Holding) → slice_get (holdings crew) n ≡ Some (Some x) → (h : Holds) × (held_at crew n ≡ Some h) × (h.job ≡ x.job)
at_holding [] n x e = absurd (cc)
at_holding (None ∷ crew) zero x e = absurd (cc)
at_holding (Some h ∷ crew) zero x e = (h, refl, same_held_job (record { job = h.job; device = h.device; begun = h.begun }) x e)
at_holding (y ∷ crew) (suc n) x e = at_holding crew n x e

-- it is lost for a job once more
again : (all : List DownloaderState) (job k : ℕ) (s : DownloaderState) → (downloader_of all k ≡ Some s) ⊎ (downloader_of all k ≡ Some (lost s)) → k ≡ job → downloader_of (changed lost job all) k ≡ Some (lost s)
again all job k s (inl e) is = ap (λ i. downloader_of (changed lost i all) k) (sym is) ∙ changed_there lost k all s e
again all job k s (inr e) is = ap (λ i. downloader_of (changed lost i all) k) (sym is) ∙ (changed_there lost k all (lost s) e ∙ ap Some (lost_twice s))

module _ (held : List (Option Holding)) (n : ℕ) (old all : List DownloaderState) (f : LostSoFar held n old all) where
  lost_for_one : (h : Holds) → ((x : Holding) → slice_get held n ≡ Some (Some x) → x.job ≡ h.job) → LostSoFar held (n + 1) old (changed lost h.job all)
  lost_for_one h its = record {
    told = λ place x s lt e t. elim (cases_eq x.job h.job) [
      | inl is ↦ again all h.job x.job s (f.each x.job s t) is
      | inr apart ↦ changed_elsewhere lost h.job x.job all apart ∙ f.told place x s (before place x lt e apart) e t
    ];
    each = λ k s e. elim (cases_eq k h.job) [
      | inl is ↦ inr (again all h.job k s (f.each k s e) is)
      | inr apart ↦ elim (f.each k s e) [
        | inl t ↦ inl (changed_elsewhere lost h.job k all apart ∙ t)
        | inr t ↦ inr (changed_elsewhere lost h.job k all apart ∙ t)
      ]
    ];
  }
    where
      before : (place : ℕ) (x : Holding) → place < n + 1 → slice_get held place ≡ Some (Some x) → x.job ≢ h.job → place < n
      before place x lt e apart = elim (cases_eq place n) [
        | inl is ↦ absurd (apart (its x (subst (λ i. slice_get held i ≡ Some (Some x)) is e)))
        | inr other ↦ omega arith
      ]

  lost_for_nobody : ((x : Holding) → slice_get held n ≡ Some (Some x) → ⊥) → LostSoFar held (n + 1) old all
  lost_for_nobody none = record {
    told = λ place x s lt e t. elim (cases_eq place n) [
      | inl is ↦ absurd (none x (subst (λ i. slice_get held i ≡ Some (Some x)) is e))
      | inr other ↦ f.told place x s (omega arith) e t
    ];
    each = f.each;
  }

  by_holder : (o : Option Holds) → ((x : Holding) → slice_get held n ≡ Some (Some x) → (h : Holds) × (o ≡ Some h) × (h.job ≡ x.job)) → LostSoFar held (n + 1) old (lost_for o all)
  by_holder None its = lost_for_nobody (λ x e. let h : (h : Holds) × (None ≡ Some h) × (h.job ≡ x.job) = its x e in let isnt : None ≡ Some h.0 = h.1 in cc)
  by_holder (Some h) its = lost_for_one h (λ x e. let i : (g : Holds) × (Some h ≡ Some g) × (g.job ≡ x.job) = its x e in sym (ap (λ (g : Holds). g.job) (same_Some h i.0 i.1) ∙ i.2))

  pub one_more_lost : (crew : List (Option Holds)) → holdings crew ≡ held → LostSoFar held (n + 1) old (lost_for (held_at crew n) all)
  one_more_lost crew same = by_holder (held_at crew n) (λ x e. at_holding crew n x (ap (λ (hs : List (Option Holding)). slice_get hs n) same ∙ e))

-- ---- the whole

loss_puts : (m : Moment) → m.what ≡ Loses → PutsNoGroup m
loss_puts m e = ap (λ w. is_group (put_frame w)) e

pub loss_follows : (laws : Laws) (old new : Work) (now n end : ℕ) → end ≡ length old.crew → end ≤ n → SameBooks old new → holdings new.crew ≡ holdings old.crew → new.sender ≡ Nobody → new.telegrams ≡ record old.telegrams { stage = after_loss old.telegrams.stage }
    → LostSoFar (holdings old.crew) n (states old.downloaders) (states new.downloaders) → LossFollows old new now
loss_follows laws old new now n end crew all same held_same nobody telling so_far jobs before at later m l books f w is = fits_on jobs old new before now at later m l books f w (record {
  same = same;
  untaken = λ k job there e u. resting k (new_downloader (task_of job)) u refl;
  held = λ k worker since job there e j.
      job_on old new before now k worker m (between since at l) job j (lost j.state) (its k worker since job j) (lost_becomes laws j.state before now m (between since at l) j.fits w.time (ap is_loss is)) (ap (put_to job.device.raw) is) held_same
      (λ moves. absurd (let lands : flies (lost j.state).phase ≡ false = lost_lands laws j.state in cc));
  telegram = λ o x _ t. subst (λ (s : Stage). FitsTelegram o s (m ∷ x)) (sym (ap (λ (y : Telling). y.stage) telling)) (lost_telegram o old.telegrams.stage m x (loss_puts m is) is t);
  group = (λ g. absurd (let isnt : Nobody ≡ GroupThread = sym nobody ∙ g in cc), λ u. absurd (not_after_loss old.telegrams.stage (sym (ap (λ (y : Telling). y.stage) telling) ∙ u)));
  free = λ e. nobody;
})
  where
    resting : (k : ℕ) (s : DownloaderState) → downloader_of (states old.downloaders) k ≡ Some s → s.phase ≡ Resting → downloader_of (states new.downloaders) k ≡ Some s
    resting k s e r = elim (so_far.each k s e) [
      | inl t ↦ t
      | inr t ↦ t ∙ ap Some (lost_at_rest s r)
    ]

    its : (k worker since : ℕ) (job : Job) (j : FitsJob old before (between since at l) k worker job) → downloader_of (states new.downloaders) k ≡ Some (lost j.state)
    its k worker since job j =
        let within : worker - 1 < length (holdings old.crew) = slice_get_within (holdings old.crew) (worker - 1) _ j.holds in
        so_far.told (worker - 1) _ j.state (omega (arith, within, crew, length-map old.crew holding_in)) j.holds j.there
