-- What a hub does with what a poll brought: its work is told at once of a frame that was taken and of the loss of its channel, at the time that the
-- link told last; and why the run ends after a poll.
use Rattle.std.specs.Prelude.{◌≡◌, ℕ, ◌<◌, ◌≤◌, Bool, true, false, List, [], ◌∷◌, ◌++◌, is_some, Option, Some, None}
use Rattle.knx_model.specs.declared.address.IndAddr.{IndAddr}
use Rattle.line_model.specs.declared.fault.HubFault.{HubFault}
use Rattle.line_model.specs.declared.fault.HubFault.TheVariants.{NoMemory, LinkFailed, GatewayRefused, Flooded, WrongLine}
use Rattle.line_model.specs.declared.group.Indication.{Indication}
use Rattle.line_model.specs.ClientView.{indication_of}
use Rattle.line_model.specs.Moments.{Moment, time}
use Rattle.line_model.specs.Signs.{Every}
use Rattle.line_model.specs.Told.{IsLoss}
use Rattle.line_model.specs.Log.{Job, JobUnfinished}
use Rattle.line_model.specs.Faults.{flood, first_elsewhere}
use Rattle.tunnel_link.specs.declared.came.Came.{Came}
use Rattle.tunnel_link.specs.declared.came.Loss.{Loss}
use Rattle.tunnel_link.specs.declared.came.Loss.TheVariants.{Stays, Ended, Told}
use Rattle.tunnel_link.specs.declared.came.What.{What}
use Rattle.tunnel_link.specs.declared.came.What.TheVariants as came
use Rattle.tunnel_link.specs.Adds.{One, TakesAt, DoesSo}
use Rattle.hub_work.specs.declared.work.Work.{Work}
use Rattle.hub_work.specs.Books.{AreJobsOf, jobs_held}
use Rattle.hub_work.specs.Fits.{Fits}
use Rattle.hub_work.specs.Follows.{IsAside}
use Rattle.hub_work.specs.Works.{KeepsBooks, tasks}

-- ---- the work but for how far its closing is: its jobs, its log and its books stay as they are, and no closing begins

pub record SameWork (old new : Work) : Type 0 where
  pub reservation : new.reservation ≡ old.reservation
  pub turns : new.telegrams.turns ≡ old.telegrams.turns
  pub told : new.telegrams.told ≡ old.telegrams.told
  pub held : jobs_held new.crew ≡ jobs_held old.crew
  pub journal : new.journal ≡ old.journal
  pub unfinished : new.unfinished ≡ old.unfinished
  pub tasks_are : tasks new ≡ tasks old
  pub begun : is_some new.closing ≡ is_some old.closing

-- ---- the moments that a poll added, the newest first

abbrev pub place_or : ℕ → List Moment → ℕ
place_or since [] = since
place_or since (m ∷ l) = m.at

-- each is later than those before it, and the first is after this place
abbrev pub Rise : ℕ → List Moment → Type 0
Rise since [] = Unit {0}
Rise since (m ∷ l) = (place_or since l < m.at) × Rise since l

-- where the work fitted before them it fits with them, where they are so and the last of them was at this time
abbrev pub FollowsAll : (List Moment → Type 0) → ℕ → Work → Work → Type 0
FollowsAll AreSo now old new =
    (jobs : List Job) (at : ℕ) (added l : List Moment) → KeepsBooks at old → Fits jobs old (time l) at l → Rise at added → AreSo added → time (added ++ l) ≡ now → Fits jobs new now (place_or at added) (added ++ l)

-- ---- a loss, and a frame

abbrev pub AsideOrLost : Loss → List Moment → Type 0
AsideOrLost Stays l = Every (λ m. IsAside m.what) l
AsideOrLost Ended l = One IsLoss l
AsideOrLost Told l = One IsLoss l

abbrev pub LosesIn : Loss → ℕ → Work → Work → Type 0
LosesIn loss now old new = FollowsAll (AsideOrLost loss) now old new

abbrev pub DeliversIn : What → ℕ → Work → Work → Type 0
DeliversIn came.Quiet now old new = new ≡ old
DeliversIn came.Dropped now old new = new ≡ old
DeliversIn came.Tunnel now old new = new ≡ old
DeliversIn (came.Up tunnel) now old new = new ≡ old
DeliversIn (came.Frame frame) now old new = FollowsAll (One (TakesAt frame now)) now old new

abbrev pub TakesIn : Came → ℕ → Work → Work → Type 0
TakesIn came now old new = FollowsAll (DoesSo came.what came.loss now) now old new

-- a datagram was got, and one that acts on something
abbrev pub is_got : What → Bool
is_got came.Quiet = false
is_got _ = true

abbrev pub is_taken : What → Bool
is_taken came.Quiet = false
is_taken came.Dropped = false
is_taken _ = true

-- the group telegram that it tells of
abbrev pub HeardIn : What → Option Indication → Type 0
HeardIn came.Quiet heard = heard ≡ None
HeardIn came.Dropped heard = heard ≡ None
HeardIn came.Tunnel heard = heard ≡ None
HeardIn (came.Up tunnel) heard = heard ≡ None
HeardIn (came.Frame frame) heard = heard ≡ indication_of (Some frame)

-- ---- the first channel

pub record IsElsewhere (jobs : List Job) (device tunnel : IndAddr) : Type 0 where
  pub job : Job
  pub first : first_elsewhere jobs (Some tunnel) ≡ Some job
  pub is_its : device ≡ job.device

-- what is told of the tunnel of a channel that came up, where none did before or one did
abbrev pub MeetsOne : Work → Bool → IndAddr → Option HubFault → Type 0
MeetsOne w true tunnel why = why ≡ None
MeetsOne w false tunnel None = (jobs : List Job) → AreJobsOf w.reservation.devices jobs → first_elsewhere jobs (Some tunnel) ≡ None
MeetsOne w false tunnel (Some (NoMemory want)) = ⊥
MeetsOne w false tunnel (Some LinkFailed) = ⊥
MeetsOne w false tunnel (Some (GatewayRefused three)) = ⊥
MeetsOne w false tunnel (Some Flooded) = ⊥
MeetsOne w false tunnel (Some (WrongLine device told)) = (told ≡ tunnel) × ((jobs : List Job) → AreJobsOf w.reservation.devices jobs → IsElsewhere jobs device tunnel)

abbrev pub MeetsSo : Work → Bool → Bool → What → Option HubFault → Type 0
MeetsSo w met after came.Quiet why = (after ≡ met) × (why ≡ None)
MeetsSo w met after came.Dropped why = (after ≡ met) × (why ≡ None)
MeetsSo w met after came.Tunnel why = (after ≡ met) × (why ≡ None)
MeetsSo w met after (came.Up tunnel) why = (after ≡ true) × MeetsOne w met tunnel why
MeetsSo w met after (came.Frame frame) why = (after ≡ met) × (why ≡ None)

-- ---- why the run ends after a poll, when so many datagrams were taken

-- a job is unfinished, by the log
abbrev pub Unfinished : Work → Type 0
Unfinished w = (jobs : List Job) (at : ℕ) → KeepsBooks at w → AreJobsOf w.reservation.devices jobs → JobUnfinished jobs w.journal.entries

abbrev pub NotFlooded : Work → ℕ → Type 0
NotFlooded w taken = (jobs : List Job) (at : ℕ) → KeepsBooks at w → AreJobsOf w.reservation.devices jobs → JobUnfinished jobs w.journal.entries → taken < flood

abbrev pub EndsSo : Work → Bool → Bool → What → ℕ → Option HubFault → Type 0
EndsSo w met after what taken None = MeetsSo w met after what None × NotFlooded w taken
EndsSo w met after what taken (Some (NoMemory want)) = ⊥
EndsSo w met after what taken (Some LinkFailed) = ⊥
EndsSo w met after what taken (Some (GatewayRefused three)) = ⊥
EndsSo w met after what taken (Some Flooded) = MeetsSo w met after what None × (flood ≤ taken) × Unfinished w
EndsSo w met after what taken (Some (WrongLine device tunnel)) = MeetsSo w met after what (Some (WrongLine device tunnel))
