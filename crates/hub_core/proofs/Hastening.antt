-- What came promptly and without a loss of time stays so over each call of the tunnel, and so does the open channel, until it is asked to end.
use Rattle.std.proofs.Common.{◌≡◌, ◌≢◌, ◌↔◌, ℕ, ◌<◌, Bool, true, false, List, [], ◌++◌, Option, Some, None, refl, sym, ap, subst, ◌∙◌, arith}
use Rattle.std.specs.Prelude.{is_some, not, ◌&&◌, Ok, if◌then◌else◌}
use Rattle.std.proofs.lemmas.List.{append_cancel_right}
use Rattle.line_model.specs.declared.fault.HubFault.{HubFault}
use Rattle.line_model.specs.Asks.{HasPlace}
use Rattle.line_model.specs.ClientView.{channel}
use Rattle.line_model.specs.Closing as line
use Rattle.line_model.specs.Haste.{HasSent}
use Rattle.line_model.specs.Leaves.{StaysOpen}
use Rattle.line_model.specs.LinkStory.{Story, clock_of, places_in, newest_time}
use Rattle.line_model.specs.Log.{Job}
use Rattle.line_model.specs.Moments.{moments, time}
use Rattle.line_model.specs.Record.{Placed, entries}
use Rattle.tunnel_link.specs.Adds.{place_of, Grows, Growing, AllPrompt, Leaves, is_told}
use Rattle.tunnel_link.specs.Alone as tunnel
use Rattle.tunnel_link.specs.Alone.{EndsNone, LeavesAlone, SendsOnce}
use Rattle.tunnel_link.specs.declared.came.Loss.{Loss}
use Rattle.tunnel_link.specs.Goes.{GoesOn}
use Rattle.tunnel_link.specs.Paces.{TakesNoTime, BeatsInTime, HasTriesLeft, PollsWithin}
use Rattle.tunnel_link.specs.Rights.{WhereTold}
use Rattle.hub_work.specs.declared.closing.Closing.{Closing}
use Rattle.hub_work.specs.declared.work.Work.{Work}
use Rattle.hub_work.specs.Books.{AreJobsOf}
use Rattle.hub_work.specs.Closes.{closing_of, after_datagram, Begins}
use Rattle.hub_work.specs.Downloaders.{AreJobsWith}
use Rattle.hub_work.specs.Fits.{Fits}
use Rattle.hub_work.specs.Follows.{StaysFitting}
use Rattle.hub_work.specs.Polls.{LastsOnceSent}
use Rattle.hub_work.specs.Works.{tasks}
use Rattle.hub_work.proofs.Growing.{AreAbove}
use Rattle.hub_core.specs.Closes.{ClosesBy, HasListened, has_asked}
use Rattle.hub_core.specs.Discipline.{EachSo, IsPrompt, Hastens}
use Rattle.hub_core.specs.Keeps.{IsAllOver, Runs, Keeps}
use Rattle.hub_core.proofs.Counting.{some_is, told_before}
use Rattle.hub_core.proofs.Following.{newest}
use Rattle.hub_core.proofs.Hastes.{stays_open, all_finished, alone_hastens, seek_hastens, leave_hastens, poll_goes, poll_hastens, each_prompt, each_over}
use Rattle.hub_core.proofs.Keeps.{HastensOn, Opens, books_later}
use Rattle.hub_core.proofs.Requests.{Each}
use Rattle.hub_core.proofs.Telling.{each_added}

-- ---- two things of what a call adds

abbrev Both : (List Placed → List Placed → Type 0) → (List Placed → List Placed → Type 0) → List Placed → List Placed → Type 0
Both P Q old added = P old added × Q old added

both : (P Q : List Placed → List Placed → Type 0) (s t : Story) → Growing P s t → Growing Q s t → Growing (Both P Q) s t
both P Q s t g h old e =
    let x = g old e in
    let y = h old e in
    let same : y.added ≡ x.added = append_cancel_right y.added x.added old (sym y.grown.grow ∙ (some_is y.new x.new (sym y.told ∙ x.told) ∙ x.grown.grow)) in
    record { new = x.new; told = x.told; added = x.added; grown = x.grown; is = (x.is, subst (Q old) same y.is) }

-- ---- by each entry that was added

hastens_by : (s t : Story) (w : Work) (P : List Placed → List Placed → Type 0) → Growing P s t
    → ((jobs : List Job) → AreJobsWith (tasks w) jobs → AreJobsOf w.reservation.devices jobs → (old added : List Placed) → places_in s ≡ Some old → AreAbove (place_of s) added → P old added → Each (Hastens (clock_of s) jobs w.telegrams.turns w.journal.entries) added old)
    → HastensOn s t w
hastens_by s t w P grows each jobs old new with_tasks are es et is h =
    let g : Grows P (place_of s) (place_of t) old t = grows old es in
    let same : g.new ≡ new = some_is g.new new (sym g.told ∙ et) in
    let all : new ≡ g.added ++ old = sym same ∙ g.grown.grow in
    subst (EachSo (Hastens (clock_of s) jobs w.telegrams.turns) w.journal.entries) (sym all)
    (each_added (Hastens (clock_of s) jobs w.telegrams.turns) jobs w.telegrams.turns (place_of s) w.journal.entries g.added old is g.grown.above (each jobs with_tasks are old g.added es g.grown.above g.is) h)

pub hastens_alone : (s t : Story) (w : Work) → Growing (tunnel.Each TakesNoTime) s t → Growing (tunnel.Each LeavesAlone) s t → HastensOn s t w
hastens_alone s t w timeless alone =
    hastens_by s t w (Both (tunnel.Each TakesNoTime) (tunnel.Each LeavesAlone)) (both (tunnel.Each TakesNoTime) (tunnel.Each LeavesAlone) s t timeless alone)
    (λ jobs with_tasks are old added es above h. alone_hastens (clock_of s) jobs w.telegrams.turns w.journal.entries added old h.0 h.1)

pub hastens_seek : (s t : Story) (w : Work) → Growing (tunnel.Each TakesNoTime) s t → Growing (tunnel.Each EndsNone) s t → WhereTold (λ places. StaysOpen (entries places)) s → HastensOn s t w
hastens_seek s t w timeless none unasked =
    hastens_by s t w (Both (tunnel.Each TakesNoTime) (tunnel.Each EndsNone)) (both (tunnel.Each TakesNoTime) (tunnel.Each EndsNone) s t timeless none)
    (λ jobs with_tasks are old added es above h. seek_hastens (clock_of s) jobs w.telegrams.turns w.journal.entries added old h.0 h.1 (unasked old es))

pub hastens_leave : (s t : Story) (w : Work) → Growing (tunnel.Each TakesNoTime) s t → Growing SendsOnce s t → ((jobs : List Job) → AreJobsOf w.reservation.devices jobs → IsAllOver jobs w.telegrams.turns w.journal.entries)
    → WhereTold (λ places. StaysOpen (entries places)) s → HastensOn s t w
hastens_leave s t w timeless once over unasked =
    hastens_by s t w (Both (tunnel.Each TakesNoTime) SendsOnce) (both (tunnel.Each TakesNoTime) SendsOnce s t timeless once)
    (λ jobs with_tasks are old added es above h. leave_hastens (clock_of s) jobs w.telegrams.turns w.journal.entries added old h.0 h.1 (all_finished jobs w.telegrams.turns w.journal.entries (over jobs are)) (unasked old es))

-- ---- a poll

-- it may last only where all was sent that can be
pub sent_before : (p : ℕ) (s : Story) (w : Work) (met : Bool) (f : Option HubFault) → f ≡ None → Keeps p s w met f → StaysFitting → (now : ℕ) → WhereTold (λ places. now ≡ newest_time (entries places)) s
    → (has_place : Bool) → WhereTold (λ places. (has_place ≡ true) ↔ HasPlace (channel (entries places))) s → (longest : ℕ) → LastsOnceSent now has_place w longest
    → (jobs : List Job) → AreJobsWith (tasks w) jobs → (old : List Placed) → places_in s ≡ Some old → (at : ℕ) → place_of s < at → longest ≢ 0 → HasSent jobs w.journal.entries old at
sent_before p s w met f none keeps law now newest_is has_place placed longest sent jobs of old e at lt lasts =
    let k = keeps.told jobs of old e in
    let fits : Fits jobs w (time (moments old)) (place_of s) (moments old) = (k.runs none).fits in
    let here : Fits jobs w now (place_of s) (moments old) = subst (λ n. Fits jobs w n (place_of s) (moments old)) (sym (newest_is old e ∙ newest old)) fits in
    sent jobs old at (books_later (place_of s) at w (omega (arith, lt)) k.books) (law jobs w now (place_of s) at (moments old) k.books here (omega (arith, lt))) (placed old e) (newest_is old e) lasts

-- and there is no cause to end where it begins
pub runs_before : (p : ℕ) (s : Story) (w : Work) (met : Bool) (f : Option HubFault) → f ≡ None → Keeps p s w met f → (jobs : List Job) → AreJobsWith (tasks w) jobs → (old : List Placed) → places_in s ≡ Some old → Runs jobs w met (place_of s) old
runs_before p s w met f none keeps jobs of old e = (keeps.told jobs of old e).runs none

module _ (s t : Story) (w : Work) (met : Bool) (longest : ℕ) (within : Growing (PollsWithin (clock_of s) longest) s t) (beats : Growing (tunnel.Each BeatsInTime) s t) (tries : Growing (tunnel.Each (HasTriesLeft (clock_of s))) s t)
    (alone : Growing (tunnel.Each LeavesAlone) s t) (sent : (jobs : List Job) → AreJobsWith (tasks w) jobs → (old : List Placed) → places_in s ≡ Some old → (at : ℕ) → place_of s < at → longest ≢ 0 → HasSent jobs w.journal.entries old at)
    (runs : (jobs : List Job) → AreJobsWith (tasks w) jobs → (old : List Placed) → places_in s ≡ Some old → Runs jobs w met (place_of s) old) where
  abbrev Quick : List Placed → List Placed → Type 0
  Quick = Both (tunnel.Each BeatsInTime) (Both (tunnel.Each (HasTriesLeft (clock_of s))) (tunnel.Each LeavesAlone))

  abbrev Polled : List Placed → List Placed → Type 0
  Polled = Both (PollsWithin (clock_of s) longest) Quick

  polled : Growing Polled s t
  polled =
      both (PollsWithin (clock_of s) longest) Quick s t within
      (both (tunnel.Each BeatsInTime) (Both (tunnel.Each (HasTriesLeft (clock_of s))) (tunnel.Each LeavesAlone)) s t beats (both (tunnel.Each (HasTriesLeft (clock_of s))) (tunnel.Each LeavesAlone) s t tries alone))

  hastens_so : (jobs : List Job) → AreJobsWith (tasks w) jobs → (old added : List Placed) → places_in s ≡ Some old → AreAbove (place_of s) added → Each (IsPrompt jobs w.telegrams.turns w.journal.entries) added old → Polled old added
      → Each (Hastens (clock_of s) jobs w.telegrams.turns w.journal.entries) added old
  hastens_so jobs with_tasks old added es above prompt h =
      let stands : Runs jobs w met (place_of s) old = runs jobs with_tasks old es in
      poll_hastens (clock_of s) jobs w.telegrams.turns w.journal.entries (place_of s) longest old (sent jobs with_tasks old es) added prompt h.0 above h.1.0 h.1.1.1
      (poll_goes (clock_of s) jobs w.telegrams.turns w.journal.entries old stands.no_flood stands.right_line longest added h.0 h.1.1.0)

  hastens_prompt : Growing AllPrompt s t → HastensOn s t w
  hastens_prompt prompt =
      hastens_by s t w (Both AllPrompt Polled) (both AllPrompt Polled s t prompt polled)
      (λ jobs with_tasks are old added es above h. hastens_so jobs with_tasks old added es above (each_prompt (clock_of s) jobs w.telegrams.turns w.journal.entries added old h.0) h.1)

  hastens_over : ((jobs : List Job) → AreJobsOf w.reservation.devices jobs → IsAllOver jobs w.telegrams.turns w.journal.entries) → HastensOn s t w
  hastens_over over =
      hastens_by s t w Polled polled
      (λ jobs with_tasks are old added es above h. hastens_so jobs with_tasks old added es above (each_over (clock_of s) jobs w.telegrams.turns w.journal.entries added old (over jobs are)) h)

  -- where the closing hasn't begun it is prompt
  pub hastens_poll : (w.closing ≡ None → Growing AllPrompt s t) → ((w.closing ≡ None → ⊥) → (jobs : List Job) → AreJobsOf w.reservation.devices jobs → IsAllOver jobs w.telegrams.turns w.journal.entries) → HastensOn s t w
  hastens_poll prompt over = by_closing w.closing prompt over
    where
      by_closing : (x : Option Closing) → (x ≡ None → Growing AllPrompt s t) → ((x ≡ None → ⊥) → (jobs : List Job) → AreJobsOf w.reservation.devices jobs → IsAllOver jobs w.telegrams.turns w.journal.entries) → HastensOn s t w
      by_closing None prompt over = hastens_prompt (prompt refl)
      by_closing (Some x) prompt over = hastens_over (over (λ e. let z : Some x ≡ None = e in cc))

-- ---- whether the end of the channel was asked for

kind_after : (told got : Bool) (now : ℕ) (s : line.Closing) → not (line.is_listening (if told then line.Leaving now 0 else (if got then after_datagram now s else s))) ≡ false → not (line.is_listening s) ≡ false
kind_after told got now (line.Listening since n) e = refl
kind_after true got now (line.Leaving since n) e = absurd (cc)
kind_after false true now (line.Leaving since n) e = absurd (cc)
kind_after false false now (line.Leaving since n) e = e

pub asked_after : (got : Bool) (loss : Loss) (now : ℕ) (o m : Option Closing) → ClosesBy got loss now o m → has_asked m ≡ false → has_asked o ≡ false
asked_after got loss now None m by e = refl
asked_after got loss now (Some c) m by e =
    kind_after (is_told loss) got now (closing_of c) (subst (λ (s : line.Closing). not (line.is_listening s) ≡ false) by.2 (subst (λ (z : Option Closing). has_asked z ≡ false) by.1 e))

pub asked_begun : (now : ℕ) (o m : Option Closing) → Begins now o m → has_asked m ≡ false → has_asked o ≡ false
asked_begun now None m begins e = refl
asked_begun now (Some c) m begins e = subst (λ (z : Option Closing). has_asked z ≡ false) begins e

pub asked_same : (a b : Option Closing) → b ≡ a → has_asked b ≡ false → has_asked a ≡ false
asked_same a b same e = subst (λ (z : Option Closing). has_asked z ≡ false) same e

pub unbegun_asked : (o : Option Closing) → is_some o ≡ false → has_asked o ≡ false
unbegun_asked None e = refl
unbegun_asked (Some c) e = absurd (cc)

pub listened_asked : (c : Option Closing) (now : ℕ) → HasListened c now → has_asked c ≡ false
listened_asked None now h = absurd h
listened_asked (Some c) now h = by_kind (closing_of c) h
  where
    by_kind : (s : line.Closing) → (line.is_listening s && line.has_waited s now) ≡ true → not (line.is_listening s) ≡ false
    by_kind (line.Listening since n) e = refl
    by_kind (line.Leaving since n) e = absurd (cc)

-- ---- the open channel stays so

pub opens_by : (s t : Story) (w v : Work) (g : Option HubFault) → GoesOn s t → Growing (tunnel.Each EndsNone) s t → (has_asked v.closing ≡ false → has_asked w.closing ≡ false) → Opens s t w v g
opens_by s t w v g goes grows asked stands isnt unasked new et =
    let was = told_before s t new goes et in
    let x = grows was.0 was.1 in
    let is : new ≡ x.added ++ was.0 = sym (some_is x.new new (sym x.told ∙ et)) ∙ x.grown.grow in
    subst (λ (places : List Placed). StaysOpen (entries places)) (sym is) (stays_open x.added was.0 x.is (unasked (asked isnt) was.0 was.1))

-- where there was none to ask, nothing was sent
pub opens_unasked : (s t : Story) (w : Work) (g : Option HubFault) (asked : Bool) → GoesOn s t → Growing (Leaves (Ok asked)) s t → asked ≡ false → Opens s t w w g
opens_unasked s t w g asked goes grows none stands isnt unasked new et =
    let was = told_before s t new goes et in
    let x = grows was.0 was.1 in
    let is : new ≡ x.added ++ was.0 = sym (some_is x.new new (sym x.told ∙ et)) ∙ x.grown.grow in
    let same : x.added ≡ [] = x.is.so.3 none in
    subst (λ (places : List Placed). StaysOpen (entries places)) (sym (is ∙ ap (λ (l : List Placed). l ++ was.0) same)) (unasked isnt was.0 was.1)
