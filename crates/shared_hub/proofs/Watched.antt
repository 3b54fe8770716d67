-- Who watches is told rightly, from the beginning on, by each entry, and by each report.
use Rattle.std.proofs.Common.{◌≡◌, ◌⊎◌, inl, inr, ℕ, ◌+◌, ◌-◌, ◌≤◌, Bool, true, false, List, [], ◌∷◌, ◌++◌, replicate, Option, Some, None, refl, sym, ap, subst, ◌∙◌, arith}
use Rattle.std.specs.Prelude.{if◌then◌else◌, nat_le, slice_set}
use Rattle.std.proofs.lemmas.Bool.{cases_eq, eq-eqb, ne_eqb}
use Rattle.std.proofs.lemmas.Bool.Decides.{nat_tests}
use Rattle.knx_model.specs.declared.address.IndAddr.{IndAddr}
use Rattle.line_model.specs.declared.log.LogEntry.{LogEntry}
use Rattle.line_model.specs.declared.outside.watcher.JobProgress.{JobProgress}
use Rattle.line_model.specs.LinkStory.{IsPlace, Story, Untold as NoRecord, Recorded, Full}
use Rattle.line_model.specs.Log.{Job, numbered_from_one}
use Rattle.line_model.specs.Watched.{ASecondAfter, IsRunning, Notice, Logged, Reported, ShowsProgress, SinceThen, Tells, Told, Untold, Watch, Watches, last_told, second}
use Rattle.device_reservation.proofs.Numbered.{from_1, of_all, unwritten, within, written}
use Rattle.tunnel_link.specs.Adds.{place_of}
use Rattle.tunnel_link.specs.Goes.{GoesOn}
use Rattle.tunnel_link.specs.Rights.{WhereTold}
use Rattle.hub_work.specs.Downloaders.{AreJobsWith, Task}
use Rattle.hub_work.specs.Journals.{newest}
use Rattle.shared_hub.specs.declared.site.Step.{Step}
use Rattle.shared_hub.specs.declared.site.Step.TheVariants.{Took}
use Rattle.shared_hub.specs.declared.site.Step.TheVariants as step
use Rattle.shared_hub.specs.Runs.{WatchesSo}
use Rattle.shared_hub.specs.Watchers.{AddsOne, IsWatched, IsWatchedSo, KeepsTimes, LogsBy, TellsInTime, TellsOrNot, WatcherSeen, is_time}
use Rattle.shared_hub.proofs.Grown.{shown_grown, upto_grown}

-- ---- it begins

pub begins_watched : (tasks : List Task) (story : Story) (devices : List IndAddr) (jobs : ℕ) (before : Watch) (now : WatcherSeen) → now.watch ≡ before → now.told ≡ replicate jobs None → IsWatched tasks story devices [] before now
begins_watched tasks story devices jobs Untold now is told = is
begins_watched tasks story devices jobs (Told notices) now is told = (
  [],
  is,
  record {
    watches = record { entries = refl; runs = tt; paced = tt };
    times = λ job at e. sym (of_all jobs job None at (subst (λ (l : List (Option ℕ)). numbered_from_one l job ≡ Some at) told e));
    shown = λ all are places e. tt;
    upto = λ places e. tt;
  },
)

-- ---- the log stays, and the link's story goes on

grown_so : (tasks ts : List Task) (s t : Story) (devices ds : List IndAddr) (log l : List LogEntry) (told : List (Option ℕ)) (notices : List Notice) → ts ≡ tasks → GoesOn s t → ds ≡ devices → l ≡ log → IsWatchedSo tasks s devices log told notices → IsWatchedSo ts t ds l told notices
grown_so tasks ts s t devices ds log l told notices same goes d e w = record {
  watches = subst (λ (x : List IndAddr). Watches x l notices) (sym d) (subst (λ (x : List LogEntry). Watches devices x notices) (sym e) w.watches);
  times = w.times;
  shown = λ jobs are. shown_grown notices jobs s t goes w.upto (w.shown jobs (subst (λ (x : List Task). AreJobsWith x jobs) same are));
  upto = upto_grown notices s t goes w.upto;
}

pub watched_still : (tasks ts : List Task) (s t : Story) (devices ds : List IndAddr) (log l : List LogEntry) (before : Watch) (now : WatcherSeen) → ts ≡ tasks → GoesOn s t → ds ≡ devices → l ≡ log → IsWatched tasks s devices log before now → IsWatched ts t ds l before now
watched_still tasks ts s t devices ds log l Untold now same goes d e w = w
watched_still tasks ts s t devices ds log l (Told notices) now same goes d e w = (w.0, w.1, grown_so tasks ts s t devices ds log l now.told w.0 same goes d e w.2)

-- ---- an entry

tells_told : (notice : Notice) (w v : Watch) (notices : List Notice) → w ≡ Told notices → Tells notice w v → v ≡ Told (notice ∷ notices)
tells_told notice w v notices e t = subst (λ (x : Watch). Tells notice x v) e t

tells_untold : (notice : Notice) (w v : Watch) → w ≡ Untold → Tells notice w v → v ≡ Untold
tells_untold notice w v e t = subst (λ (x : Watch). Tells notice x v) e t

pub entry_watched : (tasks : List Task) (story : Story) (devices : List IndAddr) (log : List LogEntry) (e : LogEntry) (before : Watch) (old new : WatcherSeen) → Tells (Logged e) old.watch new.watch → new.told ≡ old.told → IsWatched tasks story devices log before old → IsWatched tasks story devices (e ∷ log) before new
entry_watched tasks story devices log e Untold old new tells told w = tells_untold (Logged e) old.watch new.watch w tells
entry_watched tasks story devices log e (Told notices) old new tells told w = (
  Logged e ∷ w.0,
  tells_told (Logged e) old.watch new.watch (w.0 ++ notices) w.1 tells,
  record {
    watches = record { entries = ap (λ (l : List LogEntry). e ∷ l) w.2.watches.entries; runs = w.2.watches.runs; paced = w.2.watches.paced };
    times = λ job at is. w.2.times job at (subst (λ (l : List (Option ℕ)). numbered_from_one l job ≡ Some at) told is);
    shown = w.2.shown;
    upto = w.2.upto;
  },
)

-- the entry that a turn added is the newest
newest_is : (log l : List LogEntry) (e : LogEntry) → AddsOne log l → newest l ≡ Some e → l ≡ e ∷ log
newest_is log l e added is =
    let same : Some added.0 ≡ Some e = subst (λ (x : List LogEntry). newest x ≡ Some e) added.1 is in
    let one : added.0 ≡ e = cc in
    added.1 ∙ ap (λ (x : LogEntry). x ∷ log) one

pub entry_is : (came : Step) (log l : List LogEntry) (e : LogEntry) → ((job : ℕ) × (came ≡ Took job)) ⊎ (came ≡ step.Told) → LogsBy came log l → newest l ≡ Some e → l ≡ e ∷ log
entry_is came log l e (inl took) logs is = newest_is log l e (subst (λ (c : Step). LogsBy c log l) took.1 logs) is
entry_is came log l e (inr told) logs is = newest_is log l e (subst (λ (c : Step). LogsBy c log l) told logs) is

-- ---- a report

in_time : (now : ℕ) (o : Option (Option ℕ)) → is_time now o ≡ true → (at : Option ℕ) × (o ≡ Some at) × ASecondAfter now at
in_time now None e = absurd (cc)
in_time now (Some None) e = (None, refl, tt)
in_time now (Some (Some at)) e = (Some at, refl, (let t : nat_le (at + second) now ≡ true = e in grind (arith, nat_tests, t)))

some_is : {X : Type 0} (x y : X) → Some x ≡ Some y → x ≡ y
some_is x y e = cc

told_times : (told after : List (Option ℕ)) (p : JobProgress) (at : Option ℕ) (notices : List Notice) → numbered_from_one told p.job ≡ Some at → after ≡ slice_set told (p.job - 1) (Some p.now) → KeepsTimes told notices → KeepsTimes after (Reported p ∷ notices)
told_times told after p at notices there is keeps job before e =
    let from : 1 ≤ p.job = from_1 told p.job at there in
    let here : numbered_from_one after p.job ≡ Some (Some p.now) = subst (λ (l : List (Option ℕ)). numbered_from_one l p.job ≡ Some (Some p.now)) (sym is) (written told p.job (Some p.now) from (within told p.job at there)) in
    elim (cases_eq p.job job) [
      | inl same ↦ some_is before (Some p.now) (sym e ∙ (ap (λ (j : ℕ). numbered_from_one after j) (sym same) ∙ here)) ∙ sym (ap (λ (b : Bool). if b then Some p.now else last_told job notices) (eq-eqb p.job job same))
      | inr apart ↦ keeps job before (sym (unwritten told p.job job (Some p.now) from (λ z. apart (sym z))) ∙ subst (λ (l : List (Option ℕ)). numbered_from_one l job ≡ Some before) is e)
          ∙ sym (ap (λ (b : Bool). if b then Some p.now else last_told job notices) (ne_eqb p.job job apart))
    ]

-- a report is shown where the link tells its record, and its place has been
abbrev pub IsShownAt : List Task → Story → List LogEntry → JobProgress → Type 0
IsShownAt tasks story log p = ((jobs : List Job) → AreJobsWith tasks jobs → WhereTold (λ places. ShowsProgress jobs places log p) story) × WhereTold (λ places. p.at ≤ place_of story) story

by_time : (tasks : List Task) (story : Story) (devices : List IndAddr) (log : List LogEntry) (p : JobProgress) (before : Watch) (old new : WatcherSeen) (b : Bool) → is_time p.now (numbered_from_one old.told p.job) ≡ b → IsRunning devices log p → IsShownAt tasks story log p → TellsOrNot b p old new
    → IsWatched tasks story devices log before old → IsWatched tasks story devices log before new
by_time tasks story devices log p before old new false e runs shows tells w = subst (IsWatched tasks story devices log before) (sym tells) w
by_time tasks story devices log p Untold old new true e runs shows tells w = tells_untold (Reported p) old.watch new.watch w tells.0
by_time tasks story devices log p (Told notices) old new true e runs shows tells w =
    let t : (at : Option ℕ) × (numbered_from_one old.told p.job ≡ Some at) × ASecondAfter p.now at = in_time p.now (numbered_from_one old.told p.job) e in (
      Reported p ∷ w.0,
      tells_told (Reported p) old.watch new.watch (w.0 ++ notices) w.1 tells.0,
      record {
        watches = record {
          entries = w.2.watches.entries;
          runs = (subst (λ (l : List LogEntry). IsRunning devices l p) (sym w.2.watches.entries) runs, w.2.watches.runs);
          paced = (subst (ASecondAfter p.now) (w.2.times p.job t.0 t.1) t.2, w.2.watches.paced);
        };
        times = told_times old.told new.told p t.0 w.0 t.1 tells.1 w.2.times;
        shown = λ jobs are places e. (subst (λ (l : List LogEntry). ShowsProgress jobs places l p) (sym w.2.watches.entries) (shows.0 jobs are places e), w.2.shown jobs are places e);
        upto = λ places e. (shows.1 places e, w.2.upto places e);
      },
    )

pub report_watched : (tasks : List Task) (story : Story) (devices : List IndAddr) (log : List LogEntry) (p : JobProgress) (before : Watch) (old new : WatcherSeen) → IsRunning devices log p → IsShownAt tasks story log p → TellsInTime p old new → IsWatched tasks story devices log before old
    → IsWatched tasks story devices log before new
report_watched tasks story devices log p before old new runs shows tells w = by_time tasks story devices log p before old new (is_time p.now (numbered_from_one old.told p.job)) refl runs shows tells w

-- its place has been
pub place_been : (at place : ℕ) (story : Story) → at ≡ place → IsPlace place story → WhereTold (λ places. at ≤ place_of story) story
place_been at place NoRecord is p places e = absurd (let z : None ≡ Some places = e in cc)
place_been at place (Recorded clock r) is p places e = omega (arith, is, p)
place_been at place (Full start events) is p places e = omega (arith, is, p)

-- ---- the end

pub watched_all : (tasks : List Task) (story : Story) (devices : List IndAddr) (log : List LogEntry) (before after : Watch) (now : WatcherSeen) → after ≡ now.watch → IsWatched tasks story devices log before now → SinceThen (WatchesSo tasks story devices log) before after
watched_all tasks story devices log Untold after now e w = e ∙ w
watched_all tasks story devices log (Told notices) after now e w = (w.0, e ∙ w.1, record { watches = w.2.watches; shown = w.2.shown })

-- of a run that was never begun
pub none_watched : (tasks : List Task) (story : Story) (devices : List IndAddr) (log : List LogEntry) (before after : Watch) → after ≡ before → log ≡ [] → SinceThen (WatchesSo tasks story devices log) before after
none_watched tasks story devices log Untold after e none = e
none_watched tasks story devices log (Told notices) after e none = ([], e, record { watches = record { entries = sym none; runs = tt; paced = tt }; shown = λ jobs are places told. tt })

-- seen from the run's beginning
pub all_as : (tasks ts : List Task) (story : Story) (devices ds : List IndAddr) (log : List LogEntry) (before first after : Watch) → tasks ≡ ts → devices ≡ ds → before ≡ first → SinceThen (WatchesSo tasks story devices log) before after → SinceThen (WatchesSo ts story ds log) first after
all_as tasks ts story devices ds log before first after t d e w =
    subst (λ (b : Watch). SinceThen (WatchesSo ts story ds log) b after) e (subst (λ (x : List IndAddr). SinceThen (WatchesSo ts story x log) before after) d (subst (λ (x : List Task). SinceThen (WatchesSo x story devices log) before after) t w))
