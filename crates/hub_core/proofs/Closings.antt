-- How far the closing is, is nothing to what is kept.
use Rattle.std.proofs.Common.{◌≡◌, ◌≢◌, ℕ, Bool, true, false, List, Option, Some, None, refl, sym, ap, subst}
use Rattle.std.specs.Prelude.{is_some, not}
use Rattle.line_model.specs.declared.fault.HubFault.{HubFault}
use Rattle.line_model.specs.Record.{Placed}
use Rattle.line_model.specs.LinkStory.{Story}
use Rattle.line_model.specs.Moments.{moments, time}
use Rattle.line_model.specs.Log.{Job}
use Rattle.tunnel_link.specs.declared.known.Known.{Known as TunnelKnown}
use Rattle.line_model.specs.Closing as line
use Rattle.hub_work.specs.declared.closing.Closing.{Closing}
use Rattle.hub_work.specs.declared.work.Work.{Work}
use Rattle.hub_work.specs.Books.{AreJobsOf}
use Rattle.hub_work.specs.Closes.{closing_of, Begins, GoesOnAs}
use Rattle.hub_work.specs.Follows.{AsideFollows}
use Rattle.hub_work.specs.Works.{KeepsBooks}
use Rattle.hub_core.specs.Keeps.{IsAllOver, KeepsTold, Keeps}
use Rattle.hub_core.specs.Seen.{SameRun}
use Rattle.hub_core.specs.Closes.{has_asked}
use Rattle.hub_core.specs.Taking.{SameWork, FollowsAll}
use Rattle.hub_core.proofs.Losing.{closing_fits, closing_follows}
use Rattle.hub_core.proofs.Quiet.{Asides, asides_fit}
use Rattle.hub_core.proofs.View.{seen}

books_kept : (w : Work) (x : Option Closing) (at : ℕ) → KeepsBooks at w → KeepsBooks at (record w { closing = x })
books_kept w x at b = record { written = b.written; telling = b.telling; live = b.live; counts = record { unfinished = b.counts.unfinished; room = b.counts.room } }

told_kept : (w : Work) (x : Option Closing) (met : Bool) (f : Option HubFault) (jobs : List Job) (n : ℕ) (places : List Placed) → KeepsTold jobs w met f n places → KeepsTold jobs (record w { closing = x }) met f n places
told_kept w x met f jobs n places k = record {
  books = books_kept w x n k.books;
  tells = k.tells;
  runs = λ no. record { fits = closing_fits jobs w x (time (moments places)) n (moments places) (k.runs no).fits; met_one = (k.runs no).met_one; no_flood = (k.runs no).no_flood; right_line = (k.runs no).right_line };
  cause = k.cause;
}

closing_kept : (p : ℕ) (s : Story) (w : Work) (met : Bool) (f : Option HubFault) (x : Option Closing) → ((jobs : List Job) → AreJobsOf w.reservation.devices jobs → IsAllOver jobs w.telegrams.turns w.journal.entries) → (has_asked x ≡ false → has_asked w.closing ≡ false) → Keeps p s w met f
    → Keeps p s (record w { closing = x }) met f
closing_kept p s w met f x over asked k = record {
  books = books_kept w x p k.books;
  jobs_are = k.jobs_are;
  closes = λ begun jobs are. over jobs are;
  told = λ jobs of places e. told_kept w x met f jobs _ places (k.told jobs of places e);
  hastens = k.hastens;
  stays = λ stands isnt. k.stays stands (asked isnt);
}

-- ---- a work that differs in how far its closing is

pub kept_as : (p : ℕ) (s : Story) (w v : Work) (met : Bool) (f : Option HubFault) → v ≡ record w { closing = v.closing } → ((jobs : List Job) → AreJobsOf w.reservation.devices jobs → IsAllOver jobs w.telegrams.turns w.journal.entries) → (has_asked v.closing ≡ false → has_asked w.closing ≡ false) → Keeps p s w met f → Keeps p s v met f
kept_as p s w v met f rest over asked k = subst (λ (u : Work). Keeps p s u met f) (sym rest) (closing_kept p s w met f v.closing over asked k)

pub same_as : (w v : Work) → v ≡ record w { closing = v.closing } → is_some v.closing ≡ is_some w.closing → SameWork w v
same_as w v rest begun = subst (λ (u : Work). SameWork w u) (sym rest) (record { reservation = refl; turns = refl; told = refl; held = refl; journal = refl; unfinished = refl; tasks_are = refl; begun = begun })

pub asides_fit_as : (w v : Work) (now : ℕ) → v ≡ record w { closing = v.closing } → AsideFollows → FollowsAll Asides now w v
asides_fit_as w v now rest law = subst (λ (u : Work). FollowsAll Asides now w u) (sym rest) (closing_follows Asides now w w v.closing (asides_fit w now law))

pub closing_run : {L : Type 0} (l m : L) (c d : TunnelKnown) (w v : Work) (f g : Option HubFault) (x : ℕ) → v ≡ record w { closing = v.closing } → SameRun (seen l c w f x) (seen m d v g x)
closing_run l m c d w v f g x rest = subst (λ (u : Work). SameRun (seen l c w f x) (seen m d u g x)) (sym rest) (record { tasks = refl; devices = refl; turns = refl; workers = refl; missed = refl })

pub begun_stays : (now : ℕ) (old new : Option Closing) → Begins now old new → old ≢ None → new ≡ old
begun_stays now None new begins begun = absurd (begun refl)
begun_stays now (Some c) new begins begun = begins

-- a closing that has begun, or hasn't, goes on so
pub goes_on_begun : (step : line.Closing → line.Closing) (old new : Option Closing) → GoesOnAs step old new → is_some new ≡ is_some old
goes_on_begun step None new goes = ap is_some goes
goes_on_begun step (Some c) new goes = ap is_some goes.1

-- the gateway was asked to end the channel in a closing that had begun
pub asked_since : (now : ℕ) (old new : Option Closing) → GoesOnAs (λ (s : line.Closing). line.Leaving now 0) old new → old ≢ None → (d : Closing) × (new ≡ Some d) × (closing_of d ≡ line.Leaving now 0)
asked_since now None new asked begun = absurd (begun refl)
asked_since now (Some c) new asked begun = asked

pub has_asked_since : (now : ℕ) (old new : Option Closing) → GoesOnAs (λ (s : line.Closing). line.Leaving now 0) old new → old ≢ None → has_asked new ≡ false → ⊥
has_asked_since now old new asked begun e =
    let is = asked_since now old new asked begun in
    let z : has_asked (Some is.0) ≡ false = subst (λ (o : Option Closing). has_asked o ≡ false) is.1 e in
    let y : true ≡ false = subst (λ (s : line.Closing). not (line.is_listening s) ≡ false) is.2 z in
    cc
