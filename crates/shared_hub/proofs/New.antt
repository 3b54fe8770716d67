-- What is told of a run that never began, over a link on which nothing was done.
use Rattle.std.proofs.Common.{◌≡◌, ℕ, List, [], length, reverse, Some, None, refl, sym, ap, subst, ◌∙◌, arith}
use Rattle.std.specs.List.{AllByRecursion}
use Rattle.knx_model.specs.declared.address.IndAddr.{IndAddr}
use Rattle.line_model.specs.declared.fault.HubFault.TheVariants.{NoMemory}
use Rattle.line_model.specs.declared.group.GroupTurn.{GroupTurn}
use Rattle.line_model.specs.declared.group.Indication.{Indication}
use Rattle.line_model.specs.declared.log.LogEntry.{LogEntry}
use Rattle.line_model.specs.declared.log.Report.{Report}
use Rattle.line_model.specs.Headline.{IsDisciplined, KeepsFull, Keeps, IsGoodJob}
use Rattle.line_model.specs.Haste.{HastenBy}
use Rattle.line_model.specs.Leaves.{StaysOpen, since_last, LeavesRightly}
use Rattle.line_model.specs.LinkStory.{Story, Untold, Recorded, Full, Clock, Exact, Running, clock_of, IsNewLink, record_in, places_in}
use Rattle.line_model.specs.Log.{Job, IsLog, OneDownloaderPerDevice, TakenInOrder, latest}
use Rattle.line_model.specs.Record.{Placed, entries, placed, counted}
use Rattle.line_law.specs.Safe.{IsSafe, KeepsSafe, EverySafeInterleaving}
use Rattle.hub_work.specs.Downloaders.{Task}
use Rattle.hub_core.specs.Commissioned.{TellsRun, log_of}
use Rattle.hub_core.specs.Promises.{FaultRightIn, HastensIn, IsRightOver, IsSafeOver, DropsIn, LeavesOver}
use Rattle.hub_core.specs.Thorough.{IsThorough, IsThoroughOver}
use Rattle.hub_core.specs.Seats.{IsOfWorkers}
use Rattle.hub_core.specs.Seen.{Seen}
use Rattle.hub_core.proofs.Counting.{some_is}
use Rattle.hub_core.specs.Heard.{HeardIn}
use Rattle.shared_hub.specs.Leaving.{GoesThrough}
use Rattle.shared_hub.proofs.Hearing.{new_hears_none}
use Rattle.shared_hub.proofs.Told.{no_memory}

abbrev disciplined : (jobs : List Job) (turns : List GroupTurn) → IsDisciplined jobs turns 0 [] []
disciplined jobs turns = record { form = tt; alone = tt; truly = tt; renews = tt; sends = tt; writes = tt; asks = record { each = tt; acknowledges = tt } }

new_keeps : (jobs : List Job) (turns : List GroupTurn) (s : Story) → IsNewLink s → Keeps jobs turns s []
new_keeps jobs turns Untold new = tt
new_keeps jobs turns (Recorded clock r) new = subst (λ r. IsDisciplined jobs turns (length r) (counted r) []) (sym new) (disciplined jobs turns)
new_keeps jobs turns (Full start events) new = subst (λ es. KeepsFull jobs turns start es []) (sym new.0) (record { fresh = new.1; legal = tt; disciplined = disciplined jobs turns })

abbrev nothing : (jobs : List Job) (turns : List GroupTurn) → IsSafe jobs turns 0 [] []
nothing jobs turns = record { form = tt; alone = tt; truly = tt; renews = tt; sends = tt; asks = tt }

new_safe : (jobs : List Job) (turns : List GroupTurn) (s : Story) → IsNewLink s → IsSafeOver jobs turns s []
new_safe jobs turns Untold new = tt
new_safe jobs turns (Recorded clock r) new = subst (λ r. IsSafe jobs turns (length r) (counted r) []) (sym new) (nothing jobs turns)
new_safe jobs turns (Full start events) new = subst (λ es. KeepsSafe jobs turns start es []) (sym new.0) (record { fresh = new.1; legal = tt; safe = nothing jobs turns })

abbrev ends_nothing : (jobs : List Job) → IsThorough jobs [] []
ends_nothing jobs = record { ends = tt; begins = tt; parts = tt }

new_thorough : (jobs : List Job) (s : Story) → IsNewLink s → IsThoroughOver jobs s []
new_thorough jobs Untold new = tt
new_thorough jobs (Recorded clock r) new = subst (λ r. IsThorough jobs (counted r) []) (sym new) (ends_nothing jobs)
new_thorough jobs (Full start events) new = subst (λ es. IsThorough jobs (placed start es) []) (sym new.0) (ends_nothing jobs)

no_places : (s : Story) (places : List Placed) → IsNewLink s → places_in s ≡ Some places → places ≡ []
no_places Untold places new e = absurd (let z : None ≡ Some places = e in cc)
no_places (Recorded clock r) places new e = sym (some_is (counted r) places e) ∙ ap counted new
no_places (Full start events) places new e = sym (some_is (placed start events) places e) ∙ ap (placed start) new.0

loses_none : (clock : Clock) (jobs : List Job) (turns : List GroupTurn) → HastenBy clock jobs turns [] []
loses_none Exact jobs turns = (tt, tt)
loses_none Running jobs turns = (tt, tt)

new_hastens : (jobs : List Job) (turns : List GroupTurn) (s : Story) → IsNewLink s → HastensIn jobs turns [] s
new_hastens jobs turns s new places e = subst (HastenBy (clock_of s) jobs turns []) (sym (no_places s places new e)) (loses_none (clock_of s) jobs turns)

-- nothing was sent that asks anything to end
leaves_nothing : (jobs : List Job) (turns : List GroupTurn) → LeavesRightly jobs turns [] []
leaves_nothing jobs turns = record { unfinished = λ n. tt; finished = λ f. record { stays = tt; closes = tt } }

new_leaves : (jobs : List Job) (turns : List GroupTurn) (s : Story) → IsNewLink s → LeavesOver jobs turns s []
new_leaves jobs turns Untold new = tt
new_leaves jobs turns (Recorded clock r) new = subst (λ r. LeavesRightly jobs turns [] (counted r)) (sym new) (leaves_nothing jobs turns)
new_leaves jobs turns (Full start events) new = subst (λ es. LeavesRightly jobs turns [] (placed start es)) (sym new.0) (leaves_nothing jobs turns)

pub new_goes_through : {L : Type 0} (hub : Seen L) (s : Story) → IsNewLink s → hub.closing ≡ None → hub.log ≡ [] → GoesThrough hub s
new_goes_through hub s new unbegun empty = record {
  unbegun = unbegun;
  stays = λ places e. subst (λ (l : List Placed). StaysOpen (entries l)) (sym (no_places s places new e)) tt;
  placed = λ places e. (let none : latest hub.log ≡ 0 = ap latest empty in omega (arith, none));
  punctual = λ all are f places e. subst (λ (l : List Placed). since_last hub.log l ≡ []) (sym (no_places s places new e)) refl;
}

new_right : EverySafeInterleaving → (jobs : List Job) (s : Story) → AllByRecursion IsGoodJob jobs → IsNewLink s → IsRightOver jobs s []
new_right law jobs Untold good new = tt
new_right law jobs (Recorded clock r) good new = tt
new_right law jobs (Full start events) good new = law jobs [] start events [] good (new_safe jobs [] (Full start events) new)

new_drops_none : (s : Story) → IsNewLink s → DropsIn 0 (record_in s)
new_drops_none Untold new = tt
new_drops_none (Recorded clock r) new = subst (λ r. DropsIn 0 (Some r)) (sym new) refl
new_drops_none (Full start events) new = subst (λ es. DropsIn 0 (record_in (Full start es))) (sym new.0) refl

-- want of memory for the hub
module _ (law : EverySafeInterleaving) (workers : ℕ) (tasks : List Task) (devices : List IndAddr) (turns : List GroupTurn) (s : Story) (place : ℕ) (report : Report) where
  pub new_tells : IsNewLink s → report.log ≡ [] → report.heard ≡ [] → report.missed ≡ 0 → report.dropped ≡ 0 → report.fault ≡ Some (NoMemory tt) → TellsRun workers tasks devices turns s place report
  new_tells new none none_heard none_missed none_dropped fault =
      let empty : [] ≡ log_of report = sym (ap reverse none) in
      let faulty : report.fault ≡ None → ⊥ = λ fine. let z : Some (NoMemory tt) ≡ None = sym fault ∙ fine in cc in
      record {
        headline = λ jobs are. subst (λ (l : List LogEntry). Keeps jobs turns s l) empty (new_keeps jobs turns s new);
        safe = λ jobs are. subst (λ (l : List LogEntry). IsSafeOver jobs turns s l) empty (new_safe jobs turns s new);
        thorough = λ jobs are. subst (λ (l : List LogEntry). IsThoroughOver jobs s l) empty (new_thorough jobs s new);
        hastens = λ jobs are. subst (λ (l : List LogEntry). HastensIn jobs turns l s) empty (new_hastens jobs turns s new);
        right = λ jobs are good. subst (λ (l : List LogEntry). IsRightOver jobs s l) empty (new_right law jobs s good new);
        fault = λ jobs are. subst (λ f. FaultRightIn jobs (log_of report) f (record_in s)) (sym fault) (no_memory jobs (log_of report) (record_in s));
        dropped = subst (λ n. DropsIn n (record_in s)) (sym none_dropped) (new_drops_none s new);
        form = λ jobs are. subst (λ (l : List LogEntry). IsLog jobs turns place l) empty tt;
        alone = λ jobs are. subst (λ (l : List LogEntry). OneDownloaderPerDevice jobs l) empty tt;
        in_order = λ jobs are. subst (λ (l : List LogEntry). TakenInOrder jobs l) empty tt;
        leaves = λ jobs are. subst (λ (l : List LogEntry). LeavesOver jobs turns s l) empty (new_leaves jobs turns s new);
        seats = subst (λ (l : List LogEntry). IsOfWorkers workers l) empty tt;
        over = λ fine. absurd (faulty fine);
        told = λ fine. absurd (faulty fine);
        closed = λ fine. absurd (faulty fine);
        heard = subst (λ (l : List Indication). HeardIn report.fault report.missed l (record_in s)) (sym none_heard) (subst (λ (n : ℕ). HeardIn report.fault n [] (record_in s)) (sym none_missed) (new_hears_none report.fault s new));
      }
