-- A hub's work fits the record after each moment.
use Rattle.std.proofs.Common.{◌≡◌, ◌↔◌, ℕ, ◌+◌, ◌<◌, ◌≤◌, false, List, ◌∷◌, Option, Some, refl, sym, ap, subst, ◌∙◌, arith}
use Rattle.line_model.specs.declared.group.GroupTurn.{GroupTurn}
use Rattle.line_model.specs.Moments.{Moment, between}
use Rattle.line_model.specs.Log.{Job, IsLog, Untaken, Held, job_of, turn_of, state_of, turn_place}
use Rattle.hub_work.specs.declared.telegrams.Stage.TheVariants.{UnderWay}
use Rattle.hub_work.specs.declared.work.Sender.TheVariants.{Nobody, GroupThread}
use Rattle.hub_work.specs.declared.work.Work.{Work}
use Rattle.hub_work.specs.Downloaders.{states, downloader_of, task_of, new_downloader}
use Rattle.hub_work.specs.Fits.{Fits, FitsJob, FitsTelegram, in_flight}
use Rattle.hub_work.specs.Follows.{IsNew}
use Rattle.hub_work.specs.Journals.{Written}
use Rattle.hub_work.specs.Works.{KeepsBooks, SameBooks}
use Rattle.hub_work.proofs.Between.{up_to_later, one_more, same_up_to}
use Rattle.hub_work.proofs.HeldJobs.{held_in, turn_so_far}

-- the log is one of these jobs
pub log_of : (jobs : List Job) (w : Work) (now at : ℕ) (l : List Moment) → KeepsBooks at w → Fits jobs w now at l → IsLog jobs w.telegrams.turns at w.journal.entries
log_of jobs w now at l books f = books.written.form jobs f.devices

-- what a call leaves of the work after a moment: the books stay, and each job and the telegram fit
pub record Goes (jobs : List Job) (old new : Work) (before now at : ℕ) (m : Moment) (l : List Moment) : Type 0 where
  pub same : SameBooks old new
  pub untaken : (k : ℕ) (job : Job) → job_of jobs k ≡ Some job → state_of k old.journal.entries ≡ Untaken → downloader_of (states old.downloaders) k ≡ Some (new_downloader (task_of job)) → downloader_of (states new.downloaders) k ≡ Some (new_downloader (task_of job))
  pub held : (k worker since : ℕ) (job : Job) → job_of jobs k ≡ Some job → state_of k old.journal.entries ≡ Held worker since → FitsJob old before (between since at l) k worker job → FitsJob new now (m ∷ between since at l) k worker job
  pub telegram : (o : Option GroupTurn) (x : List Moment) → o ≡ turn_of old.telegrams.turns (old.telegrams.told + 1) → FitsTelegram o old.telegrams.stage x → FitsTelegram o new.telegrams.stage (m ∷ x)
  pub group : (new.sender ≡ GroupThread) ↔ (new.telegrams.stage ≡ UnderWay)
  pub free : in_flight (m ∷ l) ≡ false → new.sender ≡ Nobody

module _ (jobs : List Job) (old new : Work) (before now at later : ℕ) (m : Moment) (l : List Moment) (books : KeepsBooks at old) (f : Fits jobs old before at l) (n : IsNew m now at later) (g : Goes jobs old new before now at m l) where
  journal_is : new.journal ≡ old.journal
  journal_is = g.same.journal

  joined : (since : ℕ) → since ≤ at → between since later (m ∷ l) ≡ m ∷ between since at l
  joined since le = one_more since at later m l le n.after n.within f.so_far

  log_is : IsLog jobs old.telegrams.turns at old.journal.entries
  log_is = log_of jobs old before at l books f

  held_on : (k worker since : ℕ) (job : Job) → job_of jobs k ≡ Some job → state_of k old.journal.entries ≡ Held worker since → FitsJob new now (between since later (m ∷ l)) k worker job
  held_on k worker since job there e =
      subst (λ (x : List Moment). FitsJob new now x k worker job) (sym (joined since (held_in jobs old.telegrams.turns at old.journal.entries k worker since log_is e).so_far))
      (g.held k worker since job there e (f.held k worker since job there e))

  telegram_on : FitsTelegram (turn_of old.telegrams.turns (old.telegrams.told + 1)) new.telegrams.stage (between (turn_place old.telegrams.told old.journal.entries) later (m ∷ l))
  telegram_on =
      subst (λ (x : List Moment). FitsTelegram (turn_of old.telegrams.turns (old.telegrams.told + 1)) new.telegrams.stage x)
      (sym (joined (turn_place old.telegrams.told old.journal.entries) (turn_so_far jobs old.telegrams.turns at old.journal.entries old.telegrams.told log_is)))
      (g.telegram (turn_of old.telegrams.turns (old.telegrams.told + 1)) (between (turn_place old.telegrams.told old.journal.entries) at l) refl f.telegram)

  pub fits_on : Fits jobs new now later (m ∷ l)
  fits_on = record {
    devices = f.devices ∙ ap (λ r. r.devices) (sym g.same.reservation);
    tasks = f.tasks ∙ sym g.same.tasks_are;
    sendable = f.sendable;
    so_far = (n.within, up_to_later at later l (let a : at < m.at = n.after in let b : m.at ≤ later = n.within in omega arith) f.so_far);
    untaken = λ k job there e.
        let e' : state_of k old.journal.entries ≡ Untaken = ap (λ (j : Written). state_of k j.entries) (sym journal_is) ∙ e in
        g.untaken k job there e' (f.untaken k job there e');
    held = λ k worker since job there e. held_on k worker since job there (ap (λ (j : Written). state_of k j.entries) (sym journal_is) ∙ e);
    telegram =
        subst (λ (ts : List GroupTurn). FitsTelegram (turn_of ts (new.telegrams.told + 1)) new.telegrams.stage (between (turn_place new.telegrams.told new.journal.entries) later (m ∷ l))) (sym g.same.turns)
        (subst (λ (t : ℕ). FitsTelegram (turn_of old.telegrams.turns (t + 1)) new.telegrams.stage (between (turn_place t new.journal.entries) later (m ∷ l))) (sym g.same.told)
        (subst (λ (j : Written). FitsTelegram (turn_of old.telegrams.turns (old.telegrams.told + 1)) new.telegrams.stage (between (turn_place old.telegrams.told j.entries) later (m ∷ l))) (sym journal_is) telegram_on));
    group = g.group;
    free = g.free;
  }

-- ---- there are more events

pub stays_fitting : (jobs : List Job) (w : Work) (now at later : ℕ) (l : List Moment) → KeepsBooks at w → Fits jobs w now at l → at ≤ later → Fits jobs w now later l
stays_fitting jobs w now at later l books f le = record {
  devices = f.devices;
  tasks = f.tasks;
  sendable = f.sendable;
  so_far = up_to_later at later l le f.so_far;
  untaken = f.untaken;
  held = λ k worker since job there e. subst (λ (x : List Moment). FitsJob w now x k worker job) (sym (same_up_to since at later l le f.so_far)) (f.held k worker since job there e);
  telegram = subst (λ (x : List Moment). FitsTelegram (turn_of w.telegrams.turns (w.telegrams.told + 1)) w.telegrams.stage x) (sym (same_up_to (turn_place w.telegrams.told w.journal.entries) at later l le f.so_far)) f.telegram;
  group = f.group;
  free = f.free;
}
