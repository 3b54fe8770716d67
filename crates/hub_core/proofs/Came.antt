-- How much of what came waits for the workers after a call.
use Rattle.std.proofs.Common.{◌≡◌, inl, inr, ℕ, Bool, ◌+◌, ◌<◌, ◌≤◌, List, [], ◌∷◌, ◌++◌, map, Option, Some, None, Result, Ok, Err, refl, sym, ap, subst, ◌∙◌, append_assoc, arith}
use Rattle.std.specs.Prelude.{OnOk}
use Rattle.line_model.specs.declared.fault.HubFault.{HubFault}
use Rattle.line_model.specs.declared.log.LogEntry.{LogEntry}
use Rattle.line_model.specs.ClientView.{Deed, Takes, Loses, Nothing}
use Rattle.line_model.specs.Record.{Placed}
use Rattle.line_model.specs.LinkStory.{Story}
use Rattle.line_model.specs.Log.{Job}
use Rattle.line_model.specs.Moments.{Moment, moments, time, heard_from, confirmation_in}
use Rattle.line_model.specs.Signs.{Every}
use Rattle.line_model.specs.Told.{IsLoss}
use Rattle.line_model.specs.Asks.{moment_of}
use Rattle.line_model.specs.Attempts.{Attempts}
use Rattle.tunnel_link.specs.declared.came.Came.{Came}
use Rattle.tunnel_link.specs.declared.came.Loss.{Loss}
use Rattle.tunnel_link.specs.declared.came.Loss.TheVariants.{Stays, Ended, Told}
use Rattle.tunnel_link.specs.declared.came.What.{What}
use Rattle.tunnel_link.specs.declared.came.What.TheVariants as came
use Rattle.tunnel_link.specs.Adds.{place_of, Growing, moments_on, IsNothing, AllNothing, One, TakesAt, TakesUnread, OrLoses, DoesSo, PollAdds, Acts, Seeks, Leaves}
use Rattle.tunnel_link.specs.Goes.{GoesOn}
use Rattle.tunnel_link.specs.Rights.{WhereTold}
use Rattle.tunnel_link.proofs.Acting.{grows_then, nothing_two}
use Rattle.tunnel_link.proofs.Places.{unmoved}
use Rattle.hub_work.specs.declared.crew.Held.{Held}
use Rattle.hub_work.specs.declared.job.HubJob.{HubJob}
use Rattle.hub_work.specs.declared.work.Work.{Work}
use Rattle.hub_work.specs.Came.{waiting_at, RisesBy, OneEach, comes, all_that_came}
use Rattle.hub_work.specs.CameFor.{IsFor, OfDevice, OfConfirmation, OfLoss, IsForHolder, Counts}
use Rattle.hub_work.specs.Closes.{counted}
use Rattle.hub_work.specs.Downloaders.{Task, AreJobsWith}
use Rattle.hub_work.specs.Fits.{Fits}
use Rattle.hub_work.specs.Follows.{AsideFollows}
use Rattle.hub_work.specs.Works.{KeepsBooks}
use Rattle.hub_work.proofs.Came.{by_more, stays_by}
use Rattle.hub_work.proofs.CameFor.{same_each, where_each, comes_each, each_at_most}
use Rattle.hub_core.specs.Came.{CountsTaken, CountsLoss, CountsIn, ComesSo, Comes}
use Rattle.hub_core.specs.Keeps.{Keeps}
use Rattle.hub_core.specs.Seen.{Seen, SameRun, hub_job_of}
use Rattle.hub_core.specs.Taking.{place_or, Rise}
use Rattle.hub_core.proofs.Counting.{places_ascend}
use Rattle.hub_core.proofs.Ascending.{Ascend}
use Rattle.hub_core.proofs.Following.{rising, rise_parts, asides}
use Rattle.hub_core.proofs.Polls.{grows_as, jobs_back}
use Rattle.hub_core.proofs.Quiet.{FitsThen, aside_fits, nothing_aside}
use Rattle.hub_core.proofs.View.{seen_tasks}

-- ---- nothing, and what isn't read, is for no job

nothing_for : (device : ℕ) (t : Attempts) (what : Deed) → what ≡ Nothing → IsFor device t what → ⊥
nothing_for device t what e (OfDevice x h) = let isnt : None ≡ Some x = sym (ap (heard_from device) e) ∙ h in cc
nothing_for device t what e (OfConfirmation k a x error r f c) = let isnt : None ≡ Some error = sym (ap confirmation_in e) ∙ c in cc
nothing_for device t what e (OfLoss k a r l) = let isnt : Nothing ≡ Loses = sym e ∙ l in cc

unread_for : (device : ℕ) (t : Attempts) (m : Moment) → TakesUnread m → IsFor device t m.what → ⊥
unread_for device t m u (OfDevice x h) = let isnt : None ≡ Some x = sym (ap (heard_from device) u.takes ∙ rw u.unread refl) ∙ h in cc
unread_for device t m u (OfConfirmation k a x error r f c) = let isnt : None ≡ Some error = sym (ap confirmation_in u.takes ∙ rw u.unread refl) ∙ c in cc
unread_for device t m u (OfLoss k a r l) = let isnt : Takes u.octets ≡ Loses = sym u.takes ∙ l in cc

-- ---- one moment among those that are nothing

no_moment : (m : Moment) (newer older : List Moment) → Every IsNothing (newer ++ m ∷ older) → m.what ≡ Nothing
no_moment m [] older h = h.0
no_moment m (x ∷ newer) older h = no_moment m newer older h.1

same_one : (z m : Moment) (xs ys newer older : List Moment) → Every IsNothing xs → Every IsNothing ys → (m.what ≡ Nothing → ⊥) → xs ++ z ∷ ys ≡ newer ++ m ∷ older → (z ≡ m) × (ys ≡ older)
same_one z m [] ys [] older hx hy some e = (cc, cc)
same_one z m [] ys (y ∷ newer) older hx hy some e = let rest : ys ≡ newer ++ m ∷ older = cc in absurd (some (no_moment m newer older (subst (Every IsNothing) rest hy)))
same_one z m (x ∷ xs) ys [] older hx hy some e = let here : x ≡ m = cc in absurd (some (subst (λ (y : Moment). y.what ≡ Nothing) here hx.0))
same_one z m (x ∷ xs) ys (y ∷ newer) older hx hy some e = let rest : xs ++ z ∷ ys ≡ newer ++ m ∷ older = cc in same_one z m xs ys newer older hx.1 hy some rest

-- before those that are nothing
before_nothing : (m : Moment) (a b newer older : List Moment) → Every IsNothing b → (m.what ≡ Nothing → ⊥) → a ++ b ≡ newer ++ m ∷ older → (rest : List Moment) × (a ≡ newer ++ m ∷ rest) × (older ≡ rest ++ b)
before_nothing m [] b newer older hb some e = absurd (some (no_moment m newer older (subst (Every IsNothing) e hb)))
before_nothing m (x ∷ a) b [] older hb some e = let here : x ≡ m = cc in let rest : a ++ b ≡ older = cc in (a, ap (λ y. y ∷ a) here, sym rest)
before_nothing m (x ∷ a) b (y ∷ newer) older hb some e =
    let here : x ≡ y = cc in
    let rest : a ++ b ≡ newer ++ m ∷ older = cc in
    let r = before_nothing m a b newer older hb some rest in
    (r.0, ap (λ z. z ∷ a) here ∙ ap (λ l. y ∷ l) r.1, r.2)

-- ---- how many came

came_append : (a b : List Moment) → all_that_came (a ++ b) ≡ all_that_came a + all_that_came b
came_append [] b = omega arith
came_append (m ∷ a) b = let h = came_append a b in omega (arith, h)

one_came : (P : Moment → Type 0) (l : List Moment) → ((m : Moment) → P m → comes m.what ≡ 1) → One P l → 1 ≤ all_that_came l
one_came P l is o =
    let one : comes o.m.what ≡ 1 = is o.m o.is in
    let all : all_that_came l ≡ all_that_came o.newer + (comes o.m.what + all_that_came o.older) = ap all_that_came o.all ∙ came_append o.newer (o.m ∷ o.older) in
    omega (arith, one, all)

-- ---- a poll, of a work that fits the record

module _ (jobs : List Job) (w : Work) (n : ℕ) (old added : List Placed) (law : AsideFollows) (books : KeepsBooks n w) (fits : Fits jobs w (time (moments old)) n (moments old)) (rise : Rise n (moments_on old added)) where
  none_so : (new : List (Option Held)) → new ≡ w.crew → ((newer older : List Moment) (m : Moment) → moments_on old added ≡ newer ++ m ∷ older → (device : ℕ) (t : Attempts) → IsFor device t m.what → ⊥) → ComesSo jobs w.journal.entries w.crew new old added
  none_so new same none = record {
    at_most = subst (RisesBy (all_that_came (moments_on old added)) w.crew) (sym same) (stays_by w.crew (all_that_came (moments_on old added)));
    one_each = same_each w.crew new same;
    counts = λ place newer older m split i. absurd (none newer older m split i.job.device.raw _ i.is_for);
  }

  nothing_so : (new : List (Option Held)) → new ≡ w.crew → Every IsNothing (moments_on old added) → ComesSo jobs w.journal.entries w.crew new old added
  nothing_so new same h = none_so new same (λ newer older m split device t f. nothing_for device t m.what (no_moment m newer older (subst (Every IsNothing) split h)) f)

  unread_so : (new : List (Option Held)) → new ≡ w.crew → One TakesUnread (moments_on old added) → ComesSo jobs w.journal.entries w.crew new old added
  unread_so new same o = none_so new same (λ newer older m split device t f.
      let its = same_one o.m m o.newer o.older newer older o.newer_nothing o.older_nothing (λ e. nothing_for device t m.what e f) (sym o.all ∙ split) in
      unread_for device t m (subst TakesUnread its.0 o.is) f)

  one_so : (P : Moment → Type 0) (new : List (Option Held)) → OneEach w.crew new → ((m : Moment) → P m → comes m.what ≡ 1) → ((m : Moment) → P m → Counts w new m.what) → One P (moments_on old added) → ComesSo jobs w.journal.entries w.crew new old added
  one_so P new each one told o = record {
    at_most = by_more 1 (all_that_came (moments_on old added)) w.crew new (one_came P (moments_on old added) one o) (each_at_most w.crew new each);
    one_each = each;
    counts = λ place newer older m split i.
        let its = same_one o.m m o.newer o.older newer older o.newer_nothing o.older_nothing (λ e. nothing_for i.job.device.raw _ m.what e i.is_for) (sym o.all ∙ split) in
        there place (subst (λ l. IsForHolder jobs w.journal.entries w.crew place o.m (l ++ moments old)) (sym its.1) (subst (λ x. IsForHolder jobs w.journal.entries w.crew place x (older ++ moments old)) (sym its.0) i));
  }
    where
      parts : Rise o.m.at o.newer × (place_or n o.older < o.m.at) × Rise n o.older
      parts = rise_parts n o.newer o.older o.m (subst (Rise n) o.all rise)

      then : FitsThen jobs w (time (o.older ++ moments old)) (place_or n o.older) (o.older ++ moments old)
      then = asides (FitsThen jobs w) (aside_fits jobs w law) n o.older (moments old) parts.2 (nothing_aside o.older o.older_nothing) (books, fits)

      there : (place : ℕ) → IsForHolder jobs w.journal.entries w.crew place o.m (o.older ++ moments old) → waiting_at new place ≡ counted (waiting_at w.crew place)
      there place i = told o.m o.is jobs (time (o.older ++ moments old)) (place_or n o.older) place o.m (o.older ++ moments old) then.0 then.1 refl parts.1 i

  lost_so : (loss : Loss) (now : ℕ) (new : List (Option Held)) → OrLoses loss (moments_on old added) → CountsLoss loss now w new → ComesSo jobs w.journal.entries w.crew new old added
  lost_so Stays now new h same = nothing_so new same h
  lost_so Ended now new h l = one_so IsLoss new (where_each _ w.crew new (l.0 n books)) (λ m is. ap comes is) (λ m is. subst (Counts w new) (sym is) l.1) h
  lost_so Told now new h l = one_so IsLoss new (where_each _ w.crew new (l.0 n books)) (λ m is. ap comes is) (λ m is. subst (Counts w new) (sym is) l.1) h

  untold_so : (told : Work) (loss : Loss) (now : ℕ) (new : List (Option Held)) → told ≡ w → OrLoses loss (moments_on old added) → CountsLoss loss now told new → ComesSo jobs w.journal.entries w.crew new old added
  untold_so told loss now new same h l = lost_so loss now new h (subst (λ (x : Work). CountsLoss loss now x new) same l)

  stays_so : (told : Work) (loss : Loss) (now : ℕ) (new : List (Option Held)) → loss ≡ Stays → CountsLoss loss now told new → new ≡ told.crew
  stays_so told loss now new stays l = subst (λ (x : Loss). CountsLoss x now told new) stays l

  brings_so : (what : What) (loss : Loss) (then now : ℕ) (told : Work) (new : List (Option Held)) → DoesSo what loss then (moments_on old added) → CountsTaken what w told → CountsLoss loss now told new → ComesSo jobs w.journal.entries w.crew new old added
  brings_so came.Quiet loss then now told new h same l = untold_so told loss now new same h l
  brings_so came.Dropped loss then now told new (inl h) same l = untold_so told loss now new same h l
  brings_so came.Dropped loss then now told new (inr h) same l = unread_so new (stays_so told loss now new h.1 l ∙ ap (λ (x : Work). x.crew) same) h.0
  brings_so came.Tunnel loss then now told new h same l = untold_so told loss now new same h l
  brings_so (came.Up tunnel) loss then now told new h same l = untold_so told loss now new same h.0 l
  brings_so (came.Frame frame) loss then now told new h taken l = subst (λ crew. ComesSo jobs w.journal.entries w.crew crew old added) (sym (stays_so told loss now new h.1 l))
      (one_so (TakesAt frame then) told.crew (comes_each frame w told.crew taken.0) (λ m t. ap comes t.takes) (λ m t. subst (Counts w told.crew) (sym t.takes) (taken.1 t.octets t.reads)) h.0)

pub polls_come : (p : ℕ) (s t : Story) (w v : Work) (met : Bool) (f : Option HubFault) → f ≡ None → Keeps p s w met f → AsideFollows → (c : Came) (now : ℕ) → Growing (PollAdds (Ok c)) s t → CountsIn c now w v → Comes (map hub_job_of w.downloaders) w.journal.entries w.crew v.crew s t
polls_come p s t w v met f none keeps law c now g counts jobs of old e =
    let k = keeps.told jobs (subst (λ (ts : List Task). AreJobsWith ts jobs) (seen_tasks w) of) old e in
    let x = g old e in
    let rise : Rise (place_of s) (moments_on old x.added) = rising (place_of s) x.added old x.grown.above (subst Ascend x.grown.grow (places_ascend t x.new x.told)) in
    record { new = x.new; told = x.told; added = x.added; grown = x.grown; is = brings_so jobs w (place_of s) old x.added law k.books (k.runs none).fits rise c.what c.loss _ now counts.told v.crew x.is.does counts.taken counts.lost }

-- ---- what takes and loses nothing

pub none_comes : (hub_jobs : List HubJob) (log : List LogEntry) (s t : Story) (old new : List (Option Held)) → Growing AllNothing s t → new ≡ old → Comes hub_jobs log old new s t
none_comes hub_jobs log s t old new g same jobs of = grows_as AllNothing (ComesSo jobs log old new) s t (λ before added h. record {
  at_most = subst (RisesBy (all_that_came (moments_on before added)) old) (sym same) (stays_by old (all_that_came (moments_on before added)));
  one_each = same_each old new same;
  counts = λ place newer older m split i. absurd (nothing_for i.job.device.raw _ m.what (no_moment m newer older (subst (Every IsNothing) split h)) i.is_for);
}) g

-- ---- after what was sent

moments_two : (old one two : List Placed) → moments_on old (two ++ one) ≡ moments_on (one ++ old) two ++ moments_on old one
moments_two old one [] = refl
moments_two old one (p ∷ two) = ap (λ (l : List Placed). moment_of l p ∷ moments_on old (two ++ one)) (append_assoc two one old) ∙ ap (λ (l : List Moment). moment_of (two ++ (one ++ old)) p ∷ l) (moments_two old one two)

moments_grow : (one old : List Placed) → moments (one ++ old) ≡ moments_on old one ++ moments old
moments_grow [] old = refl
moments_grow (p ∷ one) old = ap (λ (l : List Moment). moment_of (one ++ old) p ∷ l) (moments_grow one old)

sent_before : (jobs : List Job) (log : List LogEntry) (crew new : List (Option Held)) (before one two : List Placed) → AllNothing before one → ComesSo jobs log crew new (one ++ before) two → ComesSo jobs log crew new before (two ++ one)
sent_before jobs log crew new before one two none h = record {
  at_most = by_more (all_that_came (moments_on (one ++ before) two)) (all_that_came (moments_on before (two ++ one))) crew new
      (let all : all_that_came (moments_on before (two ++ one)) ≡ all_that_came (moments_on (one ++ before) two) + all_that_came (moments_on before one) = ap all_that_came (moments_two before one two) ∙ came_append (moments_on (one ++ before) two) (moments_on before one) in omega (arith, all))
      h.at_most;
  one_each = h.one_each;
  counts = λ place newer older m split i.
      let r = before_nothing m (moments_on (one ++ before) two) (moments_on before one) newer older none (λ e. nothing_for i.job.device.raw _ m.what e i.is_for) (sym (moments_two before one two) ∙ split) in
      let same : older ++ moments before ≡ r.0 ++ moments (one ++ before) = ap (λ l. l ++ moments before) r.2 ∙ (append_assoc r.0 (moments_on before one) (moments before) ∙ ap (λ l. r.0 ++ l) (sym (moments_grow one before))) in
      h.counts place newer r.0 m r.1 (subst (IsForHolder jobs log crew place m) same i);
}

pub comes_after : {L : Type 0} (x y : Seen L) → SameRun x y → y.log ≡ x.log → (new : List (Option Held)) (a c d : Story) → GoesOn a c → GoesOn c d → Growing AllNothing a c → WhereTold (λ places. y.crew ≡ x.crew) a → Comes y.jobs y.log y.crew new c d → Comes x.jobs x.log x.crew new a d
comes_after x y run log new a c d first then sends same poll jobs of old e =
    grows_then AllNothing (ComesSo jobs y.log y.crew new) (ComesSo jobs x.log x.crew new) a c d first then
    (λ before one two s h. subst (λ (l : List LogEntry). ComesSo jobs l x.crew new before (two ++ one)) log (subst (λ (crew : List (Option Held)). ComesSo jobs y.log crew new before (two ++ one)) (same old e) (sent_before jobs y.log y.crew new before one two s h)))
    sends (poll jobs (jobs_back x y run log jobs of)) old e

-- ---- what each call adds

pub none_added : (s t : Story) → t ≡ s → Growing AllNothing s t
none_added s t same old e = unmoved AllNothing s t old same e tt

pub acts_nothing : (s t : Story) (acted : Bool) → Growing (Acts (Ok acted)) s t → Growing AllNothing s t
acts_nothing s t acted g = grows_as (Acts (Ok acted)) AllNothing s t (λ old added h. h.0) g

pub seeks_nothing : (s t : Story) (result : Result Bool HubFault) → Growing (Seeks result) s t → OnOk result (Growing AllNothing s t)
seeks_nothing s t (Ok sought) g = grows_as (Seeks (Ok sought)) AllNothing s t (λ old added h. h.nothing) g
seeks_nothing s t (Err fault) g = tt

pub leaves_nothing : (s t : Story) (asked : Bool) → Growing (Leaves (Ok asked)) s t → Growing AllNothing s t
leaves_nothing s t asked g = grows_as (Leaves (Ok asked)) AllNothing s t (λ old added h. h.nothing) g

pub nothing_both : (a b c : Story) → GoesOn a b → GoesOn b c → Growing AllNothing a b → Growing AllNothing b c → Growing AllNothing a c
nothing_both a b c g h f e = grows_then AllNothing AllNothing AllNothing a b c g h nothing_two f e
