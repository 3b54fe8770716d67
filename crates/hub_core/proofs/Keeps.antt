-- What a hub keeps is kept where its link goes on and its work leaves its books as they are.
use Rattle.std.proofs.Common.{◌≡◌, ℕ, ◌≤◌, Bool, true, false, List, [], ◌∷◌, Option, Some, None, refl, sym, ap, subst, ◌∙◌, arith}
use Rattle.std.specs.Prelude.{is_some}
use Rattle.line_model.specs.declared.fault.HubFault.{HubFault}
use Rattle.line_model.specs.declared.group.GroupTurn.{GroupTurn}
use Rattle.line_model.specs.declared.log.LogEntry.{LogEntry}
use Rattle.line_model.specs.Record.{Placed, entries}
use Rattle.line_model.specs.Leaves.{StaysOpen}
use Rattle.line_model.specs.LinkStory.{Story, Clock, clock_of, places_in}
use Rattle.line_model.specs.Log.{Job, IsLog, AllOver, TurnUnfinished}
use Rattle.device_reservation.specs.Reservation.{Reservation}
use Rattle.tunnel_link.specs.Adds.{place_of}
use Rattle.tunnel_link.specs.Goes.{GoesOn}
use Rattle.tunnel_link.specs.Rights.{WhereTold}
use Rattle.tunnel_link.proofs.Stories.{same_clock}
use Rattle.hub_work.specs.declared.closing.Closing.{Closing}
use Rattle.hub_work.specs.declared.work.Work.{Work}
use Rattle.hub_work.specs.Books.{AreJobsOf, IsWritten, IsLive, TellsInTurn, jobs_held}
use Rattle.hub_work.specs.Downloaders.{Task, AreJobsWith}
use Rattle.hub_work.specs.Works.{SameBooks, WritesRightly, Lives, TellsRightly, Counts, KeepsBooks, tasks}
use Rattle.hub_core.specs.Closes.{has_asked}
use Rattle.hub_core.specs.Discipline.{EachSo, Hastens, TellsAndAsks}
use Rattle.hub_core.specs.Keeps.{IsAllOver, IsAllDone, KeepsTold, Keeps}
use Rattle.hub_core.specs.Seen.{Seen, SameRun}
use Rattle.hub_core.specs.Taking.{SameWork}
use Rattle.hub_core.proofs.Counting.{told_before}

-- ---- the books

pub of_books : (w v : Work) → SameBooks w v → SameWork w v
of_books w v s = record { reservation = s.reservation; turns = s.turns; told = s.told; held = s.held; journal = s.journal; unfinished = s.unfinished; tasks_are = s.tasks_are; begun = ap is_some s.closing }

-- fields that are the same
module _ (w v : Work) (s : SameWork w v) where
  same_written : (at : ℕ) → WritesRightly at w → WritesRightly at v
  same_written at h =
      subst (λ (r : Reservation). IsWritten r.devices v.telegrams.turns at v.journal.entries) (sym s.reservation)
      (subst (λ (ts : List GroupTurn). IsWritten w.reservation.devices ts at v.journal.entries) (sym s.turns)
      (subst (λ (l : List LogEntry). IsWritten w.reservation.devices w.telegrams.turns at l) (sym (ap (λ j. j.entries) s.journal)) h))

  same_live : Lives w → Lives v
  same_live h =
      subst (λ (r : Reservation). IsLive r (jobs_held v.crew) v.journal.entries) (sym s.reservation)
      (subst (λ (js : List (Option ℕ)). IsLive w.reservation js v.journal.entries) (sym s.held)
      (subst (λ (l : List LogEntry). IsLive w.reservation (jobs_held w.crew) l) (sym (ap (λ j. j.entries) s.journal)) h))

  same_telling : TellsRightly w → TellsRightly v
  same_telling h =
      subst (λ (n : ℕ). TellsInTurn n v.telegrams.turns v.journal.entries) (sym s.told)
      (subst (λ (ts : List GroupTurn). TellsInTurn w.telegrams.told ts v.journal.entries) (sym s.turns)
      (subst (λ (l : List LogEntry). TellsInTurn w.telegrams.told w.telegrams.turns l) (sym (ap (λ j. j.entries) s.journal)) h))

  same_counts : Counts w → Counts v
  same_counts c = record {
    unfinished = rw (s.unfinished, s.reservation) c.unfinished;
    room = rw (s.reservation, s.turns, s.told, s.journal) c.room;
  }

  pub books_same : (at : ℕ) → KeepsBooks at w → KeepsBooks at v
  books_same at k = record { written = same_written at k.written; telling = same_telling k.telling; live = same_live k.live; counts = same_counts k.counts }

later_log : (jobs : List Job) (turns : List GroupTurn) (n m : ℕ) (log : List LogEntry) → n ≤ m → IsLog jobs turns n log → IsLog jobs turns m log
later_log jobs turns n m [] le h = tt
later_log jobs turns n m (e ∷ log) le h = (record { so_far = (let f = h.0.so_far in omega (arith, f, le)); later = h.0.later; follows = h.0.follows }, later_log jobs turns n m log le h.1)

pub books_later : (at later : ℕ) (w : Work) → at ≤ later → KeepsBooks at w → KeepsBooks later w
books_later at later w le k = record {
  written = record {
    form = λ jobs of. later_log jobs w.telegrams.turns at later w.journal.entries le (k.written.form jobs of);
    reserved = k.written.reserved;
    so_far = (let f = k.written.so_far in omega (arith, f, le));
  };
  telling = k.telling;
  live = k.live;
  counts = k.counts;
}

-- ---- what is told and asked

abbrev Tells : List Job → Work → ℕ → List Placed → Type 0
Tells jobs w n places = TellsAndAsks jobs w.telegrams.turns w.journal.entries n places

pub tells_same : (jobs : List Job) (w v : Work) (n : ℕ) (places : List Placed) → v.telegrams.turns ≡ w.telegrams.turns → v.journal.entries ≡ w.journal.entries → Tells jobs w n places → Tells jobs v n places
tells_same jobs w v n places turns logs h =
    subst (λ (ts : List GroupTurn). TellsAndAsks jobs ts v.journal.entries n places) (sym turns)
    (subst (λ (l : List LogEntry). TellsAndAsks jobs w.telegrams.turns l n places) (sym logs) h)

pub same_log : (w v : Work) → SameWork w v → v.journal.entries ≡ w.journal.entries
same_log w v s = ap (λ j. j.entries) s.journal

-- ---- all of it, by what is told

-- a call after which what is told is kept
abbrev pub Tolds : Story → Story → Work → Work → Bool → Bool → Option HubFault → Type 0
Tolds s t w v met after g =
    (jobs : List Job) (old new : List Placed) → AreJobsOf w.reservation.devices jobs → places_in s ≡ Some old → places_in t ≡ Some new → KeepsTold jobs w met None (place_of s) old → KeepsTold jobs v after g (place_of t) new

-- what came promptly and without a loss of time stays so, and what is added to the record comes so
abbrev pub HastensOn : Story → Story → Work → Type 0
HastensOn s t w =
    (jobs : List Job) (old new : List Placed) → AreJobsWith (tasks w) jobs → AreJobsOf w.reservation.devices jobs → places_in s ≡ Some old → places_in t ≡ Some new → IsLog jobs w.telegrams.turns (place_of s) w.journal.entries
    → EachSo (Hastens (clock_of s) jobs w.telegrams.turns) w.journal.entries old → EachSo (Hastens (clock_of s) jobs w.telegrams.turns) w.journal.entries new

-- the open channel wasn't asked to end, in so far as it isn't asked now
abbrev pub IsOpenSoFar : Story → Type 0
IsOpenSoFar s = WhereTold (λ places. StaysOpen (entries places)) s

abbrev pub Opens : Story → Story → Work → Work → Option HubFault → Type 0
Opens s t w v g = g ≡ None → has_asked v.closing ≡ false → (has_asked w.closing ≡ false → IsOpenSoFar s) → IsOpenSoFar t

-- the closing hasn't begun, and doesn't
none_stays : (a b : Option Closing) → is_some b ≡ is_some a → a ≡ None → b ≡ None
none_stays a None e none = refl
none_stays a (Some x) e none = absurd (let z : true ≡ false = e ∙ ap is_some none in cc)

-- the jobs, telegrams and log stay, and no closing begins
pub record Stays (w v : Work) : Type 0 where
  pub tasks_are : tasks v ≡ tasks w
  pub devices : v.reservation.devices ≡ w.reservation.devices
  pub turns : v.telegrams.turns ≡ w.telegrams.turns
  pub logs : v.journal.entries ≡ w.journal.entries
  pub begun : is_some v.closing ≡ is_some w.closing

pub moved : (p q : ℕ) (s t : Story) (w v : Work) (met after : Bool) (f g : Option HubFault) → f ≡ None → Stays w v → KeepsBooks q v → GoesOn s t → Tolds s t w v met after g → HastensOn s t w → Opens s t w v g → Keeps p s w met f → Keeps q t v after g
moved p q s t w v met after f g none stays books goes tolds hastens opens k = record {
  books = books;
  jobs_are = λ jobs of. subst (λ ds. AreJobsOf ds jobs) (sym stays.devices) (k.jobs_are jobs (back jobs of));
  closes = λ begun jobs are.
      subst (λ (ts : List GroupTurn). IsAllOver jobs ts v.journal.entries) (sym stays.turns)
      (subst (λ (l : List LogEntry). IsAllOver jobs w.telegrams.turns l) (sym stays.logs) (k.closes (λ e. begun (none_stays w.closing v.closing stays.begun e)) jobs (subst (λ ds. AreJobsOf ds jobs) stays.devices are)));
  told = λ jobs of new told. by_old jobs (back jobs of) new told (told_before s t new goes told);
  hastens = λ jobs of new told. hasten jobs (back jobs of) new told (told_before s t new goes told);
  stays = λ stands asked. opens stands asked (k.stays none);
}
  where
    back : (jobs : List Job) → AreJobsWith (tasks v) jobs → AreJobsWith (tasks w) jobs
    back jobs of = subst (λ (ts : List Task). AreJobsWith ts jobs) stays.tasks_are of

    by_old : (jobs : List Job) → AreJobsWith (tasks w) jobs → (new : List Placed) → places_in t ≡ Some new → (old : List Placed) × (places_in s ≡ Some old) → KeepsTold jobs v after g (place_of t) new
    by_old jobs of new told was =
        tolds jobs was.0 new (k.jobs_are jobs of) was.1 told (subst (λ (h : Option HubFault). KeepsTold jobs w met h (place_of s) was.0) none (k.told jobs of was.0 was.1))

    hasten : (jobs : List Job) → AreJobsWith (tasks w) jobs → (new : List Placed) → places_in t ≡ Some new → (old : List Placed) × (places_in s ≡ Some old) → EachSo (Hastens (clock_of t) jobs v.telegrams.turns) v.journal.entries new
    hasten jobs of new told was =
        subst (λ (ts : List GroupTurn). EachSo (Hastens (clock_of t) jobs ts) v.journal.entries new) (sym stays.turns)
        (subst (λ (l : List LogEntry). EachSo (Hastens (clock_of t) jobs w.telegrams.turns) l new) (sym stays.logs)
        (subst (λ (c : Clock). EachSo (Hastens c jobs w.telegrams.turns) w.journal.entries new) (sym (same_clock s t goes)) (hastens jobs was.0 new of (k.jobs_are jobs of) was.1 told (k.told jobs of was.0 was.1).tells.form (k.hastens jobs of was.0 was.1))))

pub stays_same : (w v : Work) → SameWork w v → Stays w v
stays_same w v same = record { tasks_are = same.tasks_are; devices = ap (λ r. r.devices) same.reservation; turns = same.turns; logs = same_log w v same; begun = same.begun }

pub moves : (p q : ℕ) (s t : Story) (w v : Work) (met after : Bool) (f g : Option HubFault) → f ≡ None → p ≤ q → SameWork w v → GoesOn s t → Tolds s t w v met after g → HastensOn s t w → Opens s t w v g → Keeps p s w met f → Keeps q t v after g
moves p q s t w v met after f g none le same goes tolds hastens opens k =
    moved p q s t w v met after f g none (stays_same w v same) (books_same w v same q (books_later p q w le k.books)) goes tolds hastens opens k

pub none_inside : {L : Type 0} (a b : Seen L) → a ≡ b → b.fault ≡ None → a.fault ≡ None
none_inside a b e none = ap (λ (s : Seen _). s.fault) e ∙ none

-- all that is over stays so
pub done_stays : {L : Type 0} (a b : Seen L) → SameRun a b → b.log ≡ a.log → IsAllDone a.devices a.turns a.log → IsAllDone b.devices b.turns b.log
done_stays a b run log done =
    subst (λ ds. IsAllDone ds b.turns b.log) (sym run.devices) (subst (λ (ts : List GroupTurn). IsAllDone a.devices ts b.log) (sym run.turns) (subst (λ (l : List LogEntry). IsAllDone a.devices a.turns l) (sym log) done))

pub all_done : {L : Type 0} (a : Seen L) → ((jobs : List Job) → AreJobsOf a.devices jobs → AllOver jobs a.log) → ¬ TurnUnfinished a.turns a.log → IsAllDone a.devices a.turns a.log
all_done a over told jobs are = record { jobs_over = λ u. u.2 (over jobs are u.0 u.1); turns_told = told }
