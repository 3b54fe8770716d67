-- How many datagrams come to the client of a calm line: for each request that it puts the acknowledgement and the confirmation, one for each frame of a device,
-- and the connect response. The answers to heartbeats aside. Where no group telegram asks for a value, there are no frames of devices but those of the jobs.
use Rattle.std.specs.Prelude.{ℕ, suc, ◌+◌, ◌*◌, ◌/◌, ◌≤◌, ◌≡◌, ◌≢◌, Bool, true, false, not, ◌&&◌, List, [], ◌∷◌, length, if◌then◌else◌, is_some, Option, Some, None}
use Rattle.std.specs.List.{list_any}
use Rattle.knx_model.specs.declared.config.Image.{Image}
use Rattle.knx_model.specs.declared.frames.cemi.Ldata.{Ldata}
use Rattle.knx_model.specs.declared.plan.Expect.{Expect}
use Rattle.knx_model.specs.declared.plan.Expect.TheVariants.{AckOnly, Is, Note}
use Rattle.knx_model.specs.declared.script.GroupService.{GroupService}
use Rattle.knx_model.specs.declared.script.GroupService.TheVariants.{Read, Write, Response}
use Rattle.knx_model.specs.Plans.{Plan, Over, Asks, Suits}
use Rattle.line_model.specs.declared.group.GroupTurn.{GroupTurn}
use Rattle.line_model.specs.declared.log.LogEntry.{LogEntry}
use Rattle.line_model.specs.ChannelLost.{is_confirmation}
use Rattle.line_model.specs.ClientView.{Deed, Puts, Takes, channel, deed}
use Rattle.line_model.specs.Faults.{datagrams_taken}
use Rattle.line_model.specs.Leaves.{StaysOpen}
use Rattle.line_model.specs.Log.{Job, Held, ends_it, job_of, log_before, state_of}
use Rattle.line_model.specs.Moments.{Moment, between, heard_from, moments, put_frame, put_to}
use Rattle.line_model.specs.Reading.{is_ind, ldata_in}
use Rattle.line_model.specs.Record.{Entry, Placed, entries}
use Rattle.line_model.specs.Told.{is_group}
use Rattle.line_model.specs.World.{World}

-- ---- the requests that the client put in its channel, each once

abbrev pub is_put : Deed → Bool
is_put (Puts octets) = true
is_put _ = false

abbrev pub requests_put : List Entry → ℕ
requests_put [] = 0
requests_put (x ∷ r) = if is_put (deed (channel r) x) then suc (requests_put r) else requests_put r

-- ---- the frames of devices that were taken: all but confirmations

abbrev pub is_of_device : Deed → Bool
is_of_device (Takes octets) = not (is_confirmation (ldata_in octets))
is_of_device _ = false

abbrev pub frames_taken : List Entry → ℕ
frames_taken [] = 0
frames_taken (x ∷ r) = if is_of_device (deed (channel r) x) then suc (frames_taken r) else frames_taken r

-- ---- while the channel isn't asked to end

abbrev pub ComeForRequests : List Entry → Type 0
ComeForRequests r = StaysOpen r → datagrams_taken r ≤ 1 + (2 * requests_put r + frames_taken r)

-- ---- what a plan brings at most

-- the request of a service with its acknowledgement and confirmation, and the T_ACK; with an answer also that, and the T_ACK of it as a request
abbrev pub op_cost : Expect → ℕ
op_cost AckOnly = 3
op_cost (Is wanted) = 6
op_cost Note = 6

-- whatever is answered, so many datagrams
abbrev pub CostsAtMost : Plan → ℕ → Type 0
CostsAtMost Over n = Unit {0}
CostsAtMost (Asks place apdu expect next) n = (m : ℕ) × (m + op_cost expect ≤ n) × ((o : Option (List ℕ)) → Suits apdu expect o → CostsAtMost (next o) m)

-- ---- what a job brings

abbrev pub one_for : Bool → ℕ
one_for true = 1
one_for false = 0

-- two datagrams for each request to the device, and one for each frame of it
abbrev pub brought : ℕ → List Moment → ℕ
brought device [] = 0
brought device (m ∷ l) = (2 * one_for (is_some (put_to device m.what)) + one_for (is_some (heard_from device m.what))) + brought device l

-- each job that is over brought no more than its plan does, and a T_Connect and a T_Disconnect
abbrev pub BringsSo : List Job → List Placed → List LogEntry → LogEntry → Type 0
BringsSo jobs places older e =
    (k worker since cost : ℕ) (job : Job) → ends_it k e.what ≡ true → job_of jobs k ≡ Some job → state_of k older ≡ Held worker since → CostsAtMost job.plan cost → brought job.device.raw (between since e.at (moments places)) ≤ cost + 4

abbrev pub EachBrings : List Job → List Placed → List LogEntry → Type 0
EachBrings jobs places [] = Unit {0}
EachBrings jobs places (e ∷ log) = BringsSo jobs places log e × EachBrings jobs places log

-- ---- when frames of devices come

-- no job of the device is held
abbrev pub NoneHeld : List Job → List LogEntry → ℕ → Type 0
NoneHeld jobs log device = (k worker since : ℕ) (job : Job) → job_of jobs k ≡ Some job → job.device.raw ≡ device → state_of k log ≢ Held worker since

-- a frame of a device of the line is taken only while a job of it is held; so it is while the channel isn't asked to end
abbrev pub HeardSo : List Job → World → List LogEntry → List Placed → Placed → Type 0
HeardSo jobs start log older p =
    StaysOpen (p.what ∷ entries older) → (device : ℕ) → heard_from device (deed (channel (entries older)) p.what) ≢ None → start.devices device ≢ None → ¬ NoneHeld jobs log device

abbrev pub EachHeard : List Job → World → List LogEntry → List Placed → Type 0
EachHeard jobs start log [] = Unit {0}
EachHeard jobs start log (p ∷ older) = HeardSo jobs start (log_before p.at log) older p × EachHeard jobs start log older

-- ---- all of it: where each job brings no more than this

-- the group telegrams that were put
abbrev pub group_requests : List Entry → ℕ
group_requests [] = 0
group_requests (x ∷ r) = if is_group (put_frame (deed (channel r) x)) then suc (group_requests r) else group_requests r

-- the frames that were taken and are no confirmation, but those of devices of the line to one other: group telegrams among them
abbrev pub is_of_line : World → Option Ldata → Bool
is_of_line start None = false
is_of_line start (Some f) = is_ind f.code && not f.group && is_some (start.devices f.source)

abbrev pub is_stranger : World → Deed → Bool
is_stranger start (Takes octets) = not (is_confirmation (ldata_in octets)) && not (is_of_line start (ldata_in octets))
is_stranger start _ = false

abbrev pub strangers : World → List Entry → ℕ
strangers start [] = 0
strangers start (x ∷ r) = if is_stranger start (deed (channel r) x) then suc (strangers start r) else strangers start r

abbrev pub AllCost : List Job → ℕ → Type 0
AllCost jobs cost = (k : ℕ) (job : Job) → job_of jobs k ≡ Some job → CostsAtMost job.plan cost

-- while the channel isn't asked to end
abbrev pub ComeForJobs : List Job → World → List Entry → Type 0
ComeForJobs jobs start r = (cost : ℕ) → AllCost jobs cost → StaysOpen r → datagrams_taken r ≤ 1 + (length jobs * (cost + 4) + (2 * group_requests r + strangers start r))

-- ---- group telegrams that ask for values

abbrev pub reads : GroupService → Bool
reads Read = true
reads (Write value) = false
reads (Response value) = false

abbrev pub some_reads : List GroupTurn → Bool
some_reads turns = list_any (λ (turn : GroupTurn). reads turn.service) turns

-- where none does, no more comes than the jobs bring, and two datagrams for each group telegram; while the channel isn't asked to end
abbrev pub ComeForWrites : List Job → List GroupTurn → List Entry → Type 0
ComeForWrites jobs turns r = (cost : ℕ) → AllCost jobs cost → StaysOpen r → datagrams_taken r ≤ 1 + (length jobs * (cost + 4) + 2 * length turns)

-- ---- what a load and a check bring

-- by the list lengths of an image, all operations but writes of pieces being answered: two begin; a load unloads the application first, has five more for each
-- object, and writes and reads each piece of 12 octets; a check has at most three for each object, and reads each piece
abbrev pub pieces : ℕ → ℕ
pieces octets = (octets + 11) / 12

abbrev pub pieces_of : Image → ℕ
pieces_of image = (pieces (length image.addr) + pieces (length image.assoc)) + (pieces (length image.objs) + pieces (length image.params))

abbrev pub load_cost : Image → ℕ
load_cost image = 138 + 9 * pieces_of image

abbrev pub check_cost : Image → ℕ
check_cost image = 84 + 6 * pieces_of image
