-- How long the poll of a call lasts: as it should, by what is kept when it begins.
use Rattle.std.proofs.Common.{◌≡◌, ◌↔◌, inl, inr, ℕ, ◌≤◌, Bool, true, false, List, [], ◌∷◌, ◌++◌, map, Option, Some, None, Result, Ok, Err, refl, sym, subst, ap, ◌∙◌, append_assoc}
use Rattle.std.specs.Prelude.{OnOk, ◌||◌, min, Contains}
use Rattle.std.proofs.lemmas.List.{append-nil}
use Rattle.line_model.specs.declared.fault.HubFault.{HubFault}
use Rattle.line_model.specs.declared.group.GroupTurn.{GroupTurn}
use Rattle.line_model.specs.declared.log.LogEntry.{LogEntry}
use Rattle.line_model.specs.Asks.{HasPlace}
use Rattle.line_model.specs.ClientView.{channel}
use Rattle.line_model.specs.Record.{Placed, entries, is_poll}
use Rattle.line_model.specs.LinkStory.{Story, Clock, clock_of, places_in, newest_time}
use Rattle.line_model.specs.Moments.{moments, time}
use Rattle.line_model.specs.Log.{Job}
use Rattle.line_model.specs.Closing as line
use Rattle.line_model.specs.Waiting.{HasWork, PollsSo, LastsUntil, channel_deadlines, longest_poll}
use Rattle.tunnel_link.specs.declared.known.Known.{Known}
use Rattle.tunnel_link.specs.Adds.{place_of, Growing, Acts, Seeks, Leaves, HasActed, Ready}
use Rattle.tunnel_link.specs.Goes.{GoesOn}
use Rattle.tunnel_link.specs.Lasts.{LastsRightly, PollsFor}
use Rattle.tunnel_link.specs.Rights.{WhereTold}
use Rattle.tunnel_link.proofs.Acting.{grows_then}
use Rattle.tunnel_link.proofs.Places.{unmoved}
use Rattle.tunnel_link.proofs.Stories.{same_clock}
use Rattle.hub_work.specs.declared.closing.Closing.{Closing}
use Rattle.hub_work.specs.declared.crew.Held.{Held}
use Rattle.hub_work.specs.declared.job.HubJob.{HubJob}
use Rattle.hub_work.specs.declared.work.Work.{Work}
use Rattle.hub_work.specs.Downloaders.{Task, AreJobsWith}
use Rattle.hub_work.specs.Fits.{Fits}
use Rattle.hub_work.specs.Follows.{StaysFitting}
use Rattle.hub_work.specs.Polls.{PollsRightly, BusyRightly, TellsWork, came_for, closing_so_far}
use Rattle.hub_work.specs.Closes.{Begins}
use Rattle.hub_core.specs.Keeps.{Keeps}
use Rattle.hub_core.specs.Polls.{has_poll, SendsOnly, PollsOnce, Polls, TellsBusy, closing_at, PollsOrNot, PollsInClosing}
use Rattle.hub_core.specs.Seen.{Seen, SameRun, AreJobs, hub_job_of}
use Rattle.hub_core.proofs.Counting.{place_grows}
use Rattle.hub_core.proofs.Following.{newest}
use Rattle.hub_core.proofs.Keeps.{books_later}
use Rattle.hub_core.proofs.View.{seen_tasks}

-- ---- what each call adds

pub grows_as : (P Q : List Placed → List Placed → Type 0) (s t : Story) → ((old added : List Placed) → P old added → Q old added) → Growing P s t → Growing Q s t
grows_as P Q s t to g old e = let x = g old e in record { new = x.new; told = x.told; added = x.added; grown = x.grown; is = to old x.added x.is }

pub none_sent : (s t : Story) → t ≡ s → Growing SendsOnly s t
none_sent s t same old e = unmoved SendsOnly s t old same e refl

pub acts_send : (s t : Story) (acted : Bool) → Growing (Acts (Ok acted)) s t → Growing SendsOnly s t
acts_send s t acted g = grows_as (Acts (Ok acted)) SendsOnly s t (λ old added h. h.1.only_sends) g

pub seeks_send : (s t : Story) (result : Result Bool HubFault) → Growing (Seeks result) s t → OnOk result (Growing SendsOnly s t)
seeks_send s t (Ok true) g = grows_as (Seeks (Ok true)) SendsOnly s t (λ old added h. h.so.0) g
seeks_send s t (Ok false) g = grows_as (Seeks (Ok false)) SendsOnly s t (λ old added h. ap has_poll h.so.0) g
seeks_send s t (Err fault) g = tt

pub seeks_acted : (j k : Known) (s t : Story) (result : Result Bool HubFault) → OnOk result (HasActed j s → Ready k t) → HasActed j s → OnOk result (HasActed k t)
seeks_acted j k s t (Ok sought) ready acted = (ready acted).acted
seeks_acted j k s t (Err fault) ready acted = tt

pub leaves_send : (s t : Story) (asked : Bool) → Growing (Leaves (Ok asked)) s t → Growing SendsOnly s t
leaves_send s t asked g = grows_as (Leaves (Ok asked)) SendsOnly s t (λ old added h. h.so.2) g

any_both : (a b : List Placed) → has_poll a ≡ false → has_poll b ≡ false → has_poll (a ++ b) ≡ false
any_both [] b x y = y
any_both (p ∷ a) b x y = by_head (is_poll p.what.what) (λ e. any_both a b e y) x
  where
    by_head : (t : Bool) → (has_poll a ≡ false → has_poll (a ++ b) ≡ false) → (t || has_poll a) ≡ false → (t || has_poll (a ++ b)) ≡ false
    by_head true rest e = absurd (cc)
    by_head false rest e = rest e

pub sends_two : (a b c : Story) → GoesOn a b → GoesOn b c → Growing SendsOnly a b → Growing SendsOnly b c → Growing SendsOnly a c
sends_two a b c g h f e = grows_then SendsOnly SendsOnly SendsOnly a b c g h (λ old one two x y. any_both two one y x) f e

-- ---- the poll

module _ (p : ℕ) (s t : Story) (w : Work) (met : Bool) (f : Option HubFault) (none : f ≡ None) (keeps : Keeps p s w met f) (goes : GoesOn s t) (law : StaysFitting) (now : ℕ) (then : WhereTold (λ places. now ≡ newest_time (entries places)) s)
    (has_place : Bool) (placed : WhereTold (λ places. (has_place ≡ true) ↔ HasPlace (channel (entries places))) s) (longest : ℕ) (rightly : PollsRightly now has_place w longest) where
  pub polls_so : (clock : Clock) (jobs : List Job) → AreJobs (map hub_job_of w.downloaders) jobs → (old added : List Placed) → places_in s ≡ Some old → (h : LastsRightly clock longest old added)
      → PollsSo jobs w.telegrams.turns w.journal.entries old (place_of t) (newest_time (entries old)) (closing_so_far w.closing) (came_for w.crew) h.wait
  polls_so clock jobs of old added e h =
      let k = keeps.told jobs (subst (λ (ts : List Task). AreJobsWith ts jobs) (seen_tasks w) of) old e in
      let same : now ≡ newest_time (entries old) = then old e in
      let up : place_of s ≤ place_of t = place_grows s t goes in
      let fits : Fits jobs w (time (moments old)) (place_of s) (moments old) = (k.runs none).fits in
      let here : Fits jobs w now (place_of s) (moments old) = subst (λ n. Fits jobs w n (place_of s) (moments old)) (sym (same ∙ newest old)) fits in
      subst (λ n. PollsSo jobs w.telegrams.turns w.journal.entries old (place_of t) n (closing_so_far w.closing) (came_for w.crew) h.wait) same
      (rightly jobs old (place_of t) h.wait (books_later (place_of s) (place_of t) w up k.books) (law jobs w now (place_of s) (place_of t) (moments old) k.books here up) (placed old e)
      (subst (λ n. LastsUntil (min longest longest_poll) (Contains (channel_deadlines (channel (entries old)))) n h.wait) (sym same) h.until))

  one_poll : (jobs : List Job) → AreJobs (map hub_job_of w.downloaders) jobs → (old added : List Placed) → places_in s ≡ Some old → LastsRightly (clock_of s) longest old added → PollsOnce (clock_of t) jobs w.telegrams.turns w.journal.entries w.crew (closing_so_far w.closing) (place_of t) old added
  one_poll jobs of old added e h = record {
    sent = [];
    polled = added;
    parts = sym (append-nil added);
    sends = refl;
    wait = h.wait;
    rightly = polls_so (clock_of s) jobs of old added e h;
    polls = subst (λ (c : Clock). PollsFor c h.wait old added) (sym (same_clock s t goes)) h.polls;
  }

  pub polls_once : Growing (LastsRightly (clock_of s) longest) s t → Polls (map hub_job_of w.downloaders) w.telegrams.turns w.journal.entries w.crew w.closing s t
  polls_once g jobs of old e = let x = g old e in record { new = x.new; told = x.told; added = x.added; grown = x.grown; is = one_poll jobs of old x.added e x.is }

-- ---- whether a worker has work

module _ (p : ℕ) (s : Story) (w : Work) (met : Bool) (f : Option HubFault) (none : f ≡ None) (keeps : Keeps p s w met f) (now : ℕ) (then : WhereTold (λ places. now ≡ newest_time (entries places)) s) (has_place : Bool)
    (placed : WhereTold (λ places. (has_place ≡ true) ↔ HasPlace (channel (entries places))) s) (busy : Bool) (rightly : BusyRightly now has_place w busy) where
  pub busy_told : TellsBusy (map hub_job_of w.downloaders) w.telegrams.turns w.journal.entries w.crew busy s
  busy_told jobs of old e =
      let k = keeps.told jobs (subst (λ (ts : List Task). AreJobsWith ts jobs) (seen_tasks w) of) old e in
      let same : now ≡ newest_time (entries old) = then old e in
      let here : Fits jobs w now (place_of s) (moments old) = subst (λ n. Fits jobs w n (place_of s) (moments old)) (sym (same ∙ newest old)) (k.runs none).fits in
      subst (λ n. TellsWork busy (λ j. HasWork jobs w.telegrams.turns w.journal.entries old (place_of s) n j (came_for w.crew j))) same (rightly jobs old (place_of s) k.books here (placed old e))

-- ---- what was sent before it

sent_first : (clock : Clock) (jobs : List Job) (turns : List GroupTurn) (log : List LogEntry) (crew : List (Option Held)) (closing : Option line.Closing) (at : ℕ) (old one two : List Placed) → SendsOnly old one → PollsOnce clock jobs turns log crew closing at (one ++ old) two
    → PollsOnce clock jobs turns log crew closing at old (two ++ one)
sent_first clock jobs turns log crew closing at old one two s x = record {
  sent = x.sent ++ one;
  polled = x.polled;
  parts = ap (λ (l : List Placed). l ++ one) x.parts ∙ append_assoc x.polled x.sent one;
  sends = any_both x.sent one x.sends s;
  wait = x.wait;
  rightly = subst (λ (l : List Placed). PollsSo jobs turns log l at (newest_time (entries l)) closing (came_for crew) x.wait) (sym (append_assoc x.sent one old)) x.rightly;
  polls = subst (λ (l : List Placed). PollsFor clock x.wait l x.polled) (sym (append_assoc x.sent one old)) x.polls;
}

-- of the hub before the call and before its poll
module _ {L : Type 0} (x y : Seen L) (run : SameRun x y) (log : y.log ≡ x.log) where
  pub jobs_back : (jobs : List Job) → AreJobs x.jobs jobs → AreJobs y.jobs jobs
  jobs_back jobs of = subst (λ (ts : List Task). AreJobsWith ts jobs) (sym run.tasks) of

  once_same : (clock : Clock) (jobs : List Job) (crew : List (Option Held)) (closing : Option line.Closing) (at : ℕ) (old added : List Placed) → y.crew ≡ crew → PollsOnce clock jobs y.turns y.log y.crew closing at old added → PollsOnce clock jobs x.turns x.log crew closing at old added
  once_same clock jobs crew closing at old added same h =
      subst (λ (ts : List GroupTurn). PollsOnce clock jobs ts x.log crew closing at old added) run.turns
      (subst (λ (l : List LogEntry). PollsOnce clock jobs y.turns l crew closing at old added) log (subst (λ (c : List (Option Held)). PollsOnce clock jobs y.turns y.log c closing at old added) same h))

  module _ (a c d : Story) (first : GoesOn a c) (then : GoesOn c d) (sends : Growing SendsOnly a c) where
    pub pumps_once : WhereTold (λ places. (y.crew ≡ x.crew) × (y.closing ≡ x.closing)) a → Polls y.jobs y.turns y.log y.crew y.closing c d → Polls x.jobs x.turns x.log x.crew x.closing a d
    pumps_once still polls jobs of old e =
        let same = still old e in
        grows_then SendsOnly (PollsOnce (clock_of d) jobs y.turns y.log y.crew (closing_so_far y.closing) (place_of d)) (PollsOnce (clock_of d) jobs x.turns x.log x.crew (closing_so_far x.closing) (place_of d)) a c d first then
        (λ before one two s h. subst (λ (o : Option Closing). PollsOnce (clock_of d) jobs x.turns x.log x.crew (closing_so_far o) (place_of d) before (two ++ one)) same.1
        (once_same (clock_of d) jobs x.crew (closing_so_far y.closing) (place_of d) before (two ++ one) same.0 (sent_first (clock_of d) jobs y.turns y.log y.crew (closing_so_far y.closing) (place_of d) before one two s h)))
        sends (polls jobs (jobs_back jobs of)) old e

-- ---- in the closing

so_far_is : (now : ℕ) (a b : Option Closing) → Begins now a b → closing_so_far b ≡ Some (closing_at now a)
so_far_is now None b (d, is, e) = rw is (ap Some e)
so_far_is now (Some c) b is = rw is refl

closing_same : (now later : ℕ) (a b : Option Closing) → Begins now a b → closing_at later b ≡ closing_at now a
closing_same now later None b (d, is, e) = rw is e
closing_same now later (Some c) b is = rw is refl

module _ {L : Type 0} (x y : Seen L) (run : SameRun x y) (log : y.log ≡ x.log) (a c d : Story) (first : GoesOn a c) (then : GoesOn c d) (sends : Growing SendsOnly a c) (crew : WhereTold (λ places. y.crew ≡ x.crew) a)
    (begins : WhereTold (λ places. Begins (newest_time (entries places)) x.closing y.closing) a) where
  pub closes_once : Polls y.jobs y.turns y.log y.crew y.closing c d → PollsInClosing x.jobs x.turns x.log x.crew x.closing a d
  closes_once polls jobs of old e =
      let g = grows_then SendsOnly (PollsOnce (clock_of d) jobs y.turns y.log y.crew (closing_so_far y.closing) (place_of d)) (PollsOnce (clock_of d) jobs x.turns x.log x.crew (closing_so_far y.closing) (place_of d)) a c d first then
      (λ before one two s h. once_same x y run log (clock_of d) jobs x.crew (closing_so_far y.closing) (place_of d) before (two ++ one) (crew old e) (sent_first (clock_of d) jobs y.turns y.log y.crew (closing_so_far y.closing) (place_of d) before one two s h))
      sends (polls jobs (jobs_back x y run log jobs of)) old e in
      record { new = g.new; told = g.told; added = g.added; grown = g.grown; is = inr (subst (λ (o : Option line.Closing). PollsOnce (clock_of d) jobs x.turns x.log x.crew o (place_of d) old g.added) (so_far_is (newest_time (entries old)) x.closing y.closing (begins old e)) g.is) }

  pub goes_once : PollsInClosing y.jobs y.turns y.log y.crew y.closing c d → PollsInClosing x.jobs x.turns x.log x.crew x.closing a d
  goes_once polls jobs of old e =
      let h = polls jobs (jobs_back x y run log jobs of) in
      grows_then (λ before one. SendsOnly before one × (before ≡ old)) (PollsOrNot (clock_of d) jobs y.turns y.log y.crew y.closing (place_of d)) (PollsOrNot (clock_of d) jobs x.turns x.log x.crew x.closing (place_of d)) a c d first then
      (λ before one two s q. either before one two s q) (λ l el. let z = sends l el in record { new = z.new; told = z.told; added = z.added; grown = z.grown; is = (z.is, some_is l old (sym el ∙ e)) }) h old e
    where
      some_is : (l m : List Placed) → Some l ≡ Some m → l ≡ m
      some_is l m q = cc

      either : (before one two : List Placed) → SendsOnly before one × (before ≡ old) → PollsOrNot (clock_of d) jobs y.turns y.log y.crew y.closing (place_of d) (one ++ before) two → PollsOrNot (clock_of d) jobs x.turns x.log x.crew x.closing (place_of d) before (two ++ one)
      either before one two (s, is) (inl none) = inl (any_both two one none s)
      either before one two (s, is) (inr h) =
          let begun : Begins (newest_time (entries before)) x.closing y.closing = subst (λ (l : List Placed). Begins (newest_time (entries l)) x.closing y.closing) (sym is) (begins old e) in
          inr (subst (λ (o : line.Closing). PollsOnce (clock_of d) jobs x.turns x.log x.crew (Some o) (place_of d) before (two ++ one)) (closing_same (newest_time (entries before)) (newest_time (entries (one ++ before))) x.closing y.closing begun)
          (once_same x y run log (clock_of d) jobs x.crew (Some (closing_at (newest_time (entries (one ++ before))) y.closing)) (place_of d) before (two ++ one) (crew old e)
          (sent_first (clock_of d) jobs y.turns y.log y.crew (Some (closing_at (newest_time (entries (one ++ before))) y.closing)) (place_of d) before one two s h)))

-- a step that polls nothing
pub closes_unpolled : (hub_jobs : List HubJob) (turns : List GroupTurn) (log : List LogEntry) (crew : List (Option Held)) (closing : Option Closing) (s t : Story) → Growing SendsOnly s t → PollsInClosing hub_jobs turns log crew closing s t
closes_unpolled hub_jobs turns log crew closing s t g jobs of = grows_as SendsOnly (PollsOrNot (clock_of t) jobs turns log crew closing (place_of t)) s t (λ old added h. inl h) g

-- ---- a run of two calls

pub runs_on : {L : Type 0} (x y z : Seen L) → SameRun x y → SameRun y z → SameRun x z
runs_on x y z f g = record { tasks = g.tasks ∙ f.tasks; devices = g.devices ∙ f.devices; turns = g.turns ∙ f.turns; workers = g.workers ∙ f.workers; missed = g.missed ∙ f.missed }

pub ok_as : {X : Type 0} {P Q : Type 0} (result : Result X HubFault) → (P → Q) → OnOk result P → OnOk result Q
ok_as (Ok x) to h = to h
ok_as (Err fault) to h = tt
