-- How long a poll may last for a hub's work: not at all where a worker has something to do, and else until the nearest deadline of a job that is held,
-- or of the closing. And the same by record and log, whatever link's that is.
use Rattle.std.specs.Prelude.{◌≡◌, ◌≢◌, ◌↔◌, ℕ, min, Bool, true, false, not, ◌&&◌, ◌||◌, ◌==◌, List, [], ◌∷◌, Contains, Option, Some, None, option_map, option_and_then, if◌then◌else◌}
use Rattle.knx_model.specs.Connection.{wait_end}
use Rattle.line_model.specs.Record.{Placed, entries}
use Rattle.line_model.specs.LinkStory.{newest_time}
use Rattle.line_model.specs.ClientView.{channel}
use Rattle.line_model.specs.ChannelLost.{answer_wait}
use Rattle.line_model.specs.Moments.{moments}
use Rattle.line_model.specs.Log.{Job}
use Rattle.line_model.specs.Asks.{HasPlace}
use Rattle.line_model.specs.Closing as line
use Rattle.line_model.specs.Waiting.{HasWork, channel_deadlines, longest_poll, LastsUntil, PollsSo}
use Rattle.line_model.specs.Haste.{HasSent}
use Rattle.download_core.specs.declared.did.Did.{Did}
use Rattle.download_core.specs.declared.did.Did.TheVariants as did
use Rattle.download_core.specs.Attempt.{DownloaderState}
use Rattle.download_core.specs.Calls.{phase_deadline}
use Rattle.download_core.specs.Steps.{next_did}
use Rattle.hub_work.specs.declared.closing.Closing.{Closing}
use Rattle.hub_work.specs.declared.crew.Held.{Held}
use Rattle.hub_work.specs.declared.work.Work.{Work}
use Rattle.hub_work.specs.Books.{held_at}
use Rattle.hub_work.specs.Closes.{closing_of}
use Rattle.hub_work.specs.Downloaders.{states, downloader_of}
use Rattle.hub_work.specs.Fits.{Fits}
use Rattle.hub_work.specs.Works.{KeepsBooks}

-- ---- a worker has something to do: something came that waits for it, or its turn would do something for an attempt that has begun

-- what is next is done, where the place in flight is free or not
abbrev pub does_something : Option Did → Bool → Bool
does_something None has_place = false
does_something (Some did.Wait) has_place = false
does_something (Some (did.Send tpdu)) has_place = has_place
does_something (Some did.Done) has_place = true
does_something (Some (did.Failed signs)) has_place = true
does_something (Some (did.Refused op got expected)) has_place = true

abbrev pub next_of_job : List DownloaderState → ℕ → ℕ → Option Did
next_of_job all now job = option_map (λ (s : DownloaderState). next_did s now) (downloader_of all job)

abbrev pub is_busy : List DownloaderState → ℕ → Bool → Option Held → Bool
is_busy all now has_place None = false
is_busy all now has_place (Some held) = not (held.came == 0) || (held.begun && does_something (next_of_job all now held.job) has_place)

-- the worker at a place, from 0
abbrev pub is_busy_at : Work → ℕ → Bool → ℕ → Bool
is_busy_at w now has_place place = is_busy (states w.downloaders) now has_place (held_at w.crew place)

-- ---- deadlines

abbrev pub deadline_of : List DownloaderState → Option Held → Option ℕ
deadline_of all None = None
deadline_of all (Some held) = option_and_then (λ (s : DownloaderState). phase_deadline s.phase) (downloader_of all held.job)

abbrev pub deadline_at : Work → ℕ → Option ℕ
deadline_at w place = deadline_of (states w.downloaders) (held_at w.crew place)

-- of the closing; a time stays at the last one
abbrev pub closing_end : line.Closing → ℕ
closing_end (line.Listening since n) = wait_end line.listening_wait since
closing_end (line.Leaving since n) = wait_end answer_wait since

abbrev pub end_of_closing : Option Closing → Option ℕ
end_of_closing closing = option_map (λ (c : Closing). closing_end (closing_of c)) closing

pub data IsDue (w : Work) (deadline : ℕ) : Type 0 where
  OfClosing : end_of_closing w.closing ≡ Some deadline → IsDue w deadline
  OfWorker : (place : ℕ) → deadline_at w place ≡ Some deadline → IsDue w deadline

-- ---- one worker's part

abbrev pub LooksOrLasts : Bool → Option ℕ → ℕ → ℕ → Type 0
LooksOrLasts true deadline now wait = wait ≡ 0
LooksOrLasts false deadline now wait = LastsUntil longest_poll (λ time. deadline ≡ Some time) now wait

-- ---- by record and log

-- how much of what came for job k waits for its worker; nothing where no worker holds it
abbrev pub came_for : List (Option Held) → ℕ → ℕ
came_for [] k = 0
came_for (None ∷ crew) k = came_for crew k
came_for (Some held ∷ crew) k = if held.job == k then held.came else came_for crew k

abbrev pub closing_so_far : Option Closing → Option line.Closing
closing_so_far closing = option_map closing_of closing

-- where it is told rightly whether there is a place, a poll of at most so long that doesn't go on past the channel's deadlines lasts as it should
abbrev pub PollsRightly : ℕ → Bool → Work → ℕ → Type 0
PollsRightly now has_place w longest =
    (jobs : List Job) (places : List Placed) (at wait : ℕ) → KeepsBooks at w → Fits jobs w now at (moments places) → (has_place ≡ true) ↔ HasPlace (channel (entries places))
    → LastsUntil (min longest longest_poll) (Contains (channel_deadlines (channel (entries places)))) now wait → PollsSo jobs w.telegrams.turns w.journal.entries places at now (closing_so_far w.closing) (came_for w.crew) wait

-- ---- whether a worker has work

-- it is told that one has, or that none has
abbrev pub TellsWork : Bool → (ℕ → Type 0) → Type 0
TellsWork true Works = (k : ℕ) × Works k
TellsWork false Works = (k : ℕ) → ¬ Works k

-- by record and log, where it is told rightly whether there is a place
abbrev pub BusyRightly : ℕ → Bool → Work → Bool → Type 0
BusyRightly now has_place w busy =
    (jobs : List Job) (places : List Placed) (at : ℕ) → KeepsBooks at w → Fits jobs w now at (moments places) → (has_place ≡ true) ↔ HasPlace (channel (entries places))
    → TellsWork busy (λ k. HasWork jobs w.telegrams.turns w.journal.entries places at now k (came_for w.crew k))

-- where it is told rightly whether there is a place, a poll that may last is made only where each job whose attempt has begun has sent what it can
abbrev pub LastsOnceSent : ℕ → Bool → Work → ℕ → Type 0
LastsOnceSent now has_place w longest =
    (jobs : List Job) (places : List Placed) (at : ℕ) → KeepsBooks at w → Fits jobs w now at (moments places) → (has_place ≡ true) ↔ HasPlace (channel (entries places)) → now ≡ newest_time (entries places) → longest ≢ 0
    → HasSent jobs w.journal.entries places at
