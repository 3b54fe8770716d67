-- What is told is kept where the log tells one thing more, and where nothing is added to it.
use Rattle.std.proofs.Common.{◌≡◌, ℕ, ◌≤◌, Bool, List, ◌∷◌, Option, Some, None, refl, sym, subst, arith, true, false, [], ◌∙◌}
use Rattle.std.specs.Prelude.{◌||◌}
use Rattle.line_model.specs.declared.fault.HubFault.{HubFault}
use Rattle.line_model.specs.declared.group.GroupTurn.{GroupTurn}
use Rattle.line_model.specs.declared.log.LogEntry.{LogEntry}
use Rattle.line_model.specs.declared.log.LogWhat.{LogWhat}
use Rattle.line_model.specs.Record.{Placed}
use Rattle.line_model.specs.LinkStory.{Story, clock_of, places_in, IsPlace}
use Rattle.line_model.specs.Moments.{moments, time}
use Rattle.line_model.specs.Log.{Job, IsLog, JobUnfinished, TurnUnfinished, has_entry, is_turn}
use Rattle.tunnel_link.specs.Adds.{place_of}
use Rattle.hub_work.specs.declared.answers.Turned.{Turned}
use Rattle.hub_work.specs.declared.answers.Turned.TheVariants as answer
use Rattle.hub_work.specs.declared.closing.Closing.{Closing}
use Rattle.hub_work.specs.declared.work.Work.{Work}
use Rattle.hub_work.specs.Books.{AreJobsOf}
use Rattle.hub_work.specs.Downloaders.{Task, AreJobsWith}
use Rattle.hub_work.specs.Fits.{Fits}
use Rattle.hub_work.specs.Follows.{TellsTruly}
use Rattle.hub_work.specs.Turns.{TurnTells, Adds}
use Rattle.hub_work.specs.Works.{KeepsBooks, SameRun, tasks}
use Rattle.hub_work.proofs.Growing.{AreUpto}
use Rattle.hub_core.specs.Closes.{has_asked}
use Rattle.hub_core.specs.Discipline.{EachSo, Asks, Hastens, TellsAndAsks}
use Rattle.hub_core.specs.Keeps.{IsAllOver, KeepsTold, Keeps}
use Rattle.hub_core.proofs.Calls.{not_none}
use Rattle.hub_core.proofs.Closed.{unfinished_before}
use Rattle.hub_core.proofs.Counting.{place_counts, places_upto}
use Rattle.hub_core.proofs.Telling.{each_logged}

-- one entry more, at this place, or none
pub data Writes (at : ℕ) (old new : List LogEntry) : Type 0 where
  Same : new ≡ old → Writes at old new
  More : (e : LogEntry) → e.at ≡ at → new ≡ e ∷ old → Writes at old new

adds_writes : (at worker : ℕ) (what : LogWhat) (old new : List LogEntry) → Adds at worker what old new → Writes at old new
adds_writes at worker what old new h = More (record { at = at; worker = worker; what = what }) refl h

pub turn_writes : (at worker : ℕ) (turned : Turned) (old new : List LogEntry) → TurnTells at worker turned old new → Writes at old new
turn_writes at worker (answer.Took job) old new h = adds_writes at worker _ old new h
turn_writes at worker answer.Moved old new h = Same h
turn_writes at worker answer.Wait old new h = Same h
turn_writes at worker (answer.Done job) old new h = adds_writes at worker _ old new h
turn_writes at worker (answer.Failed job) old new h = adds_writes at worker _ old new h.1
turn_writes at worker (answer.Refused job) old new h = adds_writes at worker _ old new h.3
turn_writes at worker answer.Later old new h = Same h
turn_writes at worker answer.NoMore old new h = Same h

pub told_writes : (at k : ℕ) (what : LogWhat) (old new : List LogEntry) → Adds at 0 what old new → Writes at old new
told_writes at k what old new h = adds_writes at 0 what old new h

-- ---- of each entry of the record, and of the telegrams

each_on : (P : List LogEntry → List Placed → Placed → Type 0) (n : ℕ) (places : List Placed) → AreUpto n places → (log new : List LogEntry) → Writes n log new → EachSo P log places → EachSo P new places
each_on P n places upto log new (Same e) h = subst (λ (l : List LogEntry). EachSo P l places) (sym e) h
each_on P n places upto log new (More e at is) h = subst (λ (l : List LogEntry). EachSo P l places) (sym is) (each_logged P n e log places upto (subst (λ (k : ℕ). k ≤ e.at) at (omega arith)) h)

older_untold : (k : ℕ) (e : LogEntry) (log : List LogEntry) → has_entry k (e ∷ log) ≡ false → has_entry k log ≡ false
older_untold k e log h = by_test (is_turn k e.what) (has_entry k log) h where
  by_test : (a b : Bool) → (a || b) ≡ false → b ≡ false
  by_test true b e = absurd (cc)
  by_test false b e = e

untold_on : (n : ℕ) (log new : List LogEntry) → Writes n log new → (turns : List GroupTurn) → TurnUnfinished turns new → TurnUnfinished turns log
untold_on n log new (Same e) turns u = subst (λ (l : List LogEntry). TurnUnfinished turns l) e u
untold_on n log new (More e at is) turns u = (u.0, u.1, older_untold u.0 e log (subst (λ (l : List LogEntry). has_entry u.0 l ≡ false) is u.2))

-- ---- by what is told

module _ (jobs : List Job) (w v : Work) (n : ℕ) (places : List Placed) (run : SameRun w v) (upto : AreUpto n places) (books : KeepsBooks n v) (are : AreJobsOf w.reservation.devices jobs) where
  form : IsLog jobs v.telegrams.turns n v.journal.entries
  form = books.written.form jobs (subst (λ d. AreJobsOf d jobs) (sym run.devices) are)

  unfinished_on : (log new : List LogEntry) → Writes n log new → IsLog jobs v.telegrams.turns n new → JobUnfinished jobs new → JobUnfinished jobs log
  unfinished_on log new (Same e) is u = subst (λ (l : List LogEntry). JobUnfinished jobs l) e u
  unfinished_on log new (More e at eq) is u =
      let f : IsLog jobs v.telegrams.turns n (e ∷ log) = subst (λ (l : List LogEntry). IsLog jobs v.telegrams.turns n l) eq is in
      unfinished_before jobs v.telegrams.turns e log f.0.follows (subst (λ (l : List LogEntry). JobUnfinished jobs l) eq u)

  pub tells_written : Writes n w.journal.entries v.journal.entries → TellsTruly jobs places w v → TellsAndAsks jobs w.telegrams.turns w.journal.entries n places → TellsAndAsks jobs v.telegrams.turns v.journal.entries n places
  tells_written writes truly h = record {
    form = form;
    truly = truly.truly h.truly;
    rests = truly.rests h.rests;
    asks = subst (λ (ts : List GroupTurn). EachSo (Asks jobs ts) v.journal.entries places) (sym run.turns) (each_on (Asks jobs w.telegrams.turns) n places upto w.journal.entries v.journal.entries writes h.asks);
  }

  pub written_told : (met : Bool) (f : Option HubFault) → f ≡ None → Writes n w.journal.entries v.journal.entries → TellsTruly jobs places w v → Fits jobs v (time (moments places)) n (moments places) → KeepsTold jobs w met f n places → KeepsTold jobs v met f n places
  written_told met f none writes truly fits k = record {
    books = books;
    tells = tells_written writes truly k.tells;
    runs = λ no. record {
      fits = fits;
      met_one = (k.runs no).met_one;
      no_flood = λ u. (k.runs no).no_flood (unfinished_on w.journal.entries v.journal.entries writes form u);
      right_line = (k.runs no).right_line;
    };
    cause = λ why e. absurd (not_none f why e none);
  }

-- ---- all of it: nothing is done on the link

run_back : (w v : Work) → SameRun w v → (jobs : List Job) → AreJobsWith (tasks v) jobs → AreJobsWith (tasks w) jobs
run_back w v s jobs h = subst (λ (ts : List Task). AreJobsWith ts jobs) s.tasks_are h

pub written : (p at : ℕ) (s : Story) (w v : Work) (met : Bool) (f : Option HubFault) → f ≡ None → at ≡ p → IsPlace at s → SameRun w v → KeepsBooks at v → Writes at w.journal.entries v.journal.entries
    → ((jobs : List Job) (places : List Placed) → places_in s ≡ Some places → Fits jobs w (time (moments places)) at (moments places) → Fits jobs v (time (moments places)) at (moments places) × TellsTruly jobs places w v)
    → Keeps p s w met f → Keeps p s v met f
written p at s w v met f none same is run books writes follows k = record {
  books = subst (λ (n : ℕ). KeepsBooks n v) same books;
  jobs_are = λ jobs of. subst (λ d. AreJobsOf d jobs) (sym run.devices) (k.jobs_are jobs (run_back w v run jobs of));
  closes = λ begun jobs are. all_over jobs (subst (λ ds. AreJobsOf ds jobs) run.devices are) (k.closes (λ e. begun (run.closing ∙ e)) jobs (subst (λ ds. AreJobsOf ds jobs) run.devices are));
  told = λ jobs of places e. by_told jobs (run_back w v run jobs of) places e;
  hastens = λ jobs of places e. hasten jobs (run_back w v run jobs of) places e;
  stays = λ stands asked. k.stays stands (subst (λ (o : Option Closing). has_asked o ≡ false) run.closing asked);
}
  where
    all_over : (jobs : List Job) → AreJobsOf w.reservation.devices jobs → IsAllOver jobs w.telegrams.turns w.journal.entries → IsAllOver jobs v.telegrams.turns v.journal.entries
    all_over jobs are over = record {
      jobs_over = λ u. over.jobs_over (unfinished_on jobs w v at [] run tt books are w.journal.entries v.journal.entries writes (form jobs w v at [] run tt books are) u);
      turns_told = λ u. over.turns_told (untold_on at w.journal.entries v.journal.entries writes w.telegrams.turns (subst (λ (ts : List GroupTurn). TurnUnfinished ts v.journal.entries) run.turns u));
    }

    hasten : (jobs : List Job) → AreJobsWith (tasks w) jobs → (places : List Placed) → places_in s ≡ Some places → EachSo (Hastens (clock_of s) jobs v.telegrams.turns) v.journal.entries places
    hasten jobs back places e =
        let there : at ≡ place_of s = place_counts at s places e is in
        subst (λ (ts : List GroupTurn). EachSo (Hastens (clock_of s) jobs ts) v.journal.entries places) (sym run.turns)
        (each_on (Hastens (clock_of s) jobs w.telegrams.turns) at places (subst (λ (n : ℕ). AreUpto n places) (sym there) (places_upto s places e)) w.journal.entries v.journal.entries writes (k.hastens jobs back places e))

    by_told : (jobs : List Job) → AreJobsWith (tasks w) jobs → (places : List Placed) → places_in s ≡ Some places → KeepsTold jobs v met f (place_of s) places
    by_told jobs back places e =
        let there : at ≡ place_of s = place_counts at s places e is in
        let old : KeepsTold jobs w met f (place_of s) places = k.told jobs back places e in
        let fits : Fits jobs w (time (moments places)) at (moments places) = subst (λ (n : ℕ). Fits jobs w (time (moments places)) n (moments places)) (sym there) (old.runs none).fits in
        let f : Fits jobs v (time (moments places)) at (moments places) × TellsTruly jobs places w v = follows jobs places e fits in
        written_told jobs w v (place_of s) places run (places_upto s places e) (subst (λ (n : ℕ). KeepsBooks n v) there books) (k.jobs_are jobs back) met _ none
        (subst (λ (n : ℕ). Writes n w.journal.entries v.journal.entries) there writes) f.1 (subst (λ (n : ℕ). Fits jobs v (time (moments places)) n (moments places)) there f.0) old
