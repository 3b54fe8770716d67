-- The job of a device that is held, and its attempts.
use Rattle.std.proofs.Common.{◌≡◌, ℕ, ◌⊎◌, List, Bool, true, false, not, ◌&&◌, Option, Some, refl, sym}
use Rattle.knx_model.specs.Plans.{Plan}
use Rattle.line_model.specs.declared.log.LogEntry.{LogEntry}
use Rattle.line_model.specs.Attempts.{attempts, attempts_after}
use Rattle.line_model.specs.ClientView.{ClientChannel, Open, or_number}
use Rattle.line_model.specs.Log.{Job, Held, job_of, state_of}
use Rattle.line_model.specs.Moments.{Moment}
use Rattle.line_model.specs.Record.{Entry}
use Rattle.line_model.specs.World.{World}
use Rattle.session_law.specs.World.{World as SessionWorld, Client}
use Rattle.session_law.specs.Events.{Event as SessionEvent, replay, IsLegal}
use Rattle.load_law.specs.Download.{Follows, AsksNothing}
use Rattle.line_law.proofs.Coupled.{Coupled}
use Rattle.line_law.proofs.Entries.{Moves, Outside, Goes, Stays}
use Rattle.line_law.proofs.Entering.{number_stays}
use Rattle.knx_model.specs.declared.connection.TransportFrame.{TransportFrame}
use Rattle.line_model.specs.Moments.{put_to}
use Rattle.line_law.proofs.Attempting.{IsService, AttemptIs}
use Rattle.line_law.proofs.Landing.{PutsSo as PutsAllowed}
use Rattle.line_law.proofs.Logs.{after}

-- ---- the job of a device that is held

pub record HeldJob (jobs : List Job) (log : List LogEntry) (a : ℕ) : Type 0 where
  pub number : ℕ
  pub job : Job
  pub worker : ℕ
  pub since : ℕ
  pub there : job_of jobs number ≡ Some job
  pub of_device : job.device.raw ≡ a
  pub held : state_of number log ≡ Held worker since

abbrev pub HeldPlan : List Job → List LogEntry → ℕ → Plan → Type 0
HeldPlan jobs log a plan = (h : HeldJob jobs log a) × (plan ≡ h.job.plan)

-- its attempts so far
abbrev pub Attempted : ℕ → List Moment → Job → ℕ → Client → Type 0
Attempted a l job since c = AttemptIs a job.plan (attempts job.device job.plan (after since l)) c

abbrev pub AllAttempted : List Job → List LogEntry → ℕ → List Moment → Client → Type 0
AllAttempted jobs log a l c = (h : HeldJob jobs log a) → Attempted a l h.job h.since c

-- and after one more moment
abbrev pub AttemptedOn : ℕ → List Moment → Moment → Job → ℕ → Client → Type 0
AttemptedOn a l m job since c = AttemptIs a job.plan (attempts_after job.device job.plan m (attempts job.device job.plan (after since l))) c

pub record EntryGoes (jobs : List Job) (log : List LogEntry) (a : ℕ) (w : World) (k : List Entry) (l : List Moment) (m : Moment) (s : SessionWorld) : Type 0 where
  pub more : List SessionEvent
  pub legal : IsLegal s more
  pub follows : Follows (HeldPlan jobs log a) s more
  pub coupled : Coupled a w k (replay s more)
  pub attempted : (h : HeldJob jobs log a) → AttemptedOn a l m h.job h.since (replay s more).client
  pub asks : AsksNothing more ⊎ IsService (put_to a m.what)
  pub puts : (h : HeldJob jobs log a) (x : TransportFrame) → put_to a m.what ≡ Some x → PutsAllowed (attempts h.job.device h.job.plan (after h.since l)) m.now x

-- ---- the number of the view

pub moves_number : {c d : ClientChannel} → Moves c d → (number : Option ℕ) → ((n : ℕ) (l : List Entry) → c ≡ Open n l → number ≡ Some n) → or_number d number ≡ number
moves_number (Outside {c} {d} f g o p q) number h = number_stays d number q
moves_number (Goes {c} {l} {more} same last) number h = sym (h c l refl)
moves_number Stays number h = refl

pub its_is : (g b : Bool) → (not g && b) ≡ true → b ≡ true
its_is true b h = absurd (cc)
its_is false b h = h
