-- What a hub keeps holds when it begins, over a link on which nothing was done.
use Rattle.std.proofs.Common.{◌≡◌, ℕ, false, List, [], map, Option, Some, None, refl, sym, ap, subst, ◌∙◌, arith}
use Rattle.line_model.specs.declared.fault.HubFault.{HubFault}
use Rattle.line_model.specs.declared.log.LogEntry.{LogEntry}
use Rattle.line_model.specs.Record.{Placed, entries, placed, counted}
use Rattle.line_model.specs.LinkStory.{Story, Untold, Recorded, Full, clock_of, places_in, IsNewLink}
use Rattle.line_model.specs.Log.{Job, IsLog}
use Rattle.line_model.specs.Told.{ToldTruly}
use Rattle.line_model.specs.Ends.{EndsAtRest}
use Rattle.line_model.specs.Leaves.{StaysOpen}
use Rattle.tunnel_link.specs.Adds.{place_of}
use Rattle.hub_work.specs.declared.job.HubJob.{HubJob}
use Rattle.hub_work.specs.declared.work.Work.{Work}
use Rattle.hub_work.specs.Downloaders.{Task, AreJobsWith, task_of_hub_job}
use Rattle.hub_work.specs.Follows.{BeginsRightly}
use Rattle.hub_work.specs.Works.{KeepsBooks, tasks}
use Rattle.hub_core.specs.Discipline.{EachSo, Hastens, TellsAndAsks}
use Rattle.hub_core.specs.Keeps.{KeepsTold, Keeps}
use Rattle.hub_core.proofs.Calls.{not_none}
use Rattle.hub_core.proofs.Counting.{some_is}

no_places : (s : Story) (places : List Placed) → IsNewLink s → places_in s ≡ Some places → places ≡ []
no_places Untold places new e = absurd (let z : None ≡ Some places = e in cc)
no_places (Recorded clock r) places new e = sym (some_is (counted r) places e) ∙ ap counted new
no_places (Full start events) places new e = sym (some_is (placed start events) places e) ∙ ap (placed start) new.0

-- nothing is told
nothing_told : (jobs : List Job) (w : Work) (n : ℕ) (log : List LogEntry) → log ≡ [] → TellsAndAsks jobs w.telegrams.turns log n []
nothing_told jobs w n log none = record {
  form = subst (λ (l : List LogEntry). IsLog jobs w.telegrams.turns n l) (sym none) tt;
  truly = subst (λ (l : List LogEntry). ToldTruly jobs w.telegrams.turns [] l) (sym none) tt;
  rests = subst (λ (l : List LogEntry). EndsAtRest jobs [] l) (sym none) tt;
  asks = tt;
}

pub begins : (p : ℕ) (s : Story) (w : Work) (f : Option HubFault) (hub_jobs : List HubJob) → f ≡ None → IsNewLink s → ((at : ℕ) → KeepsBooks at w) → w.journal.entries ≡ [] → tasks w ≡ map task_of_hub_job hub_jobs → w.closing ≡ None → BeginsRightly hub_jobs w → Keeps p s w false f
begins p s w f hub_jobs none new books empty are unbegun fits = record {
  books = books p;
  jobs_are = λ jobs of. (fits jobs 0 0 (back jobs of)).devices;
  closes = λ begun. absurd (begun unbegun);
  stays = λ stands isnt places e. subst (λ (l : List Placed). StaysOpen (entries l)) (sym (no_places s places new e)) tt;
  hastens = λ jobs of places e. subst (EachSo (Hastens (clock_of s) jobs w.telegrams.turns) w.journal.entries) (sym (no_places s places new e)) tt;
  told = λ jobs of places e. subst (λ (l : List Placed). KeepsTold jobs w false f (place_of s) l) (sym (no_places s places new e)) (record {
    books = books (place_of s);
    tells = nothing_told jobs w (place_of s) w.journal.entries empty;
    runs = λ no. record { fits = fits jobs 0 (place_of s) (back jobs of); met_one = refl; no_flood = λ u. omega arith; right_line = refl };
    cause = λ why e. absurd (not_none f why e none);
  });
}
  where
    back : (jobs : List Job) → AreJobsWith (tasks w) jobs → AreJobsWith (map task_of_hub_job hub_jobs) jobs
    back jobs of = subst (λ (ts : List Task). AreJobsWith ts jobs) are of
