-- Why a run ends without its end, by the record alone (this project's own): three tries in turn to get a channel failed, by a status other than
-- 0 or by 10,000 ms without a response; so many datagrams came that the run is given up as flooded; or, at the first channel, a job's device
-- isn't on the tunnel's line.
use Rattle.std.specs.Prelude.{◌≡◌, ℕ, suc, ◌<◌, ◌/◌, Bool, false, not, ◌&&◌, ◌==◌, List, [], ◌∷◌, length, reverse, if◌then◌else◌, Option, Some, None}
use Rattle.std.specs.List.{find}
use Rattle.knx_model.specs.declared.address.IndAddr.{IndAddr}
use Rattle.line_model.specs.declared.fault.HubFault.{HubFault}
use Rattle.line_model.specs.declared.fault.HubFault.TheVariants.{NoMemory, LinkFailed, GatewayRefused, Flooded, WrongLine}
use Rattle.line_model.specs.declared.fault.Try.{Try}
use Rattle.line_model.specs.declared.fault.Try.TheVariants.{Status, NoAnswer}
use Rattle.line_model.specs.declared.log.LogEntry.{LogEntry}
use Rattle.line_model.specs.Reading.{state_response_in, tunnel_told}
use Rattle.line_model.specs.Record.{Entry, got_in, is_got}
use Rattle.line_model.specs.ChannelLost.{answers_beat, beats, has_lapsed}
use Rattle.line_model.specs.ClientView.{ClientChannel, Sought, RefusedBy, Unanswered, Open, channel}
use Rattle.line_model.specs.Log.{Job, JobUnfinished}

-- ---- how the connect requests since the last channel failed, the newest first

abbrev pub tried : ClientChannel → List Try → List Try
tried (RefusedBy status) tries = Status status ∷ tries
tried Unanswered tries = NoAnswer ∷ tries
tried (Open c l) tries = []
tried _ tries = tries

abbrev pub tries_after : ClientChannel → ClientChannel → List Try → List Try
tries_after (Sought since) after tries = tried after tries
tries_after _ after tries = tries

abbrev pub tries : List Entry → List Try
tries [] = []
tries (x ∷ r) = tries_after (channel r) (channel (x ∷ r)) (tries r)

-- ---- how many datagrams were taken, awaited connection state responses aside; those that are dropped count too, and in a channel that is lost
-- by the time nothing is awaited

abbrev pub answers_heartbeat : ClientChannel → Entry → Bool
answers_heartbeat (Open c l) x = answers_beat c (beats c l) x.now (state_response_in (got_in x.what)) && not (has_lapsed c l x.now)
answers_heartbeat _ x = false

abbrev pub is_counted : List Entry → Entry → Bool
is_counted r x = is_got x.what && not (answers_heartbeat (channel r) x)

abbrev pub datagrams_taken : List Entry → ℕ
datagrams_taken [] = 0
datagrams_taken (x ∷ r) = if is_counted r x then suc (datagrams_taken r) else datagrams_taken r

abbrev pub flood : ℕ
flood = 16777216

-- ---- the tunnel's address that the first channel's response told

abbrev pub opens : ClientChannel → ClientChannel → Entry → Option IndAddr
opens (Sought since) (Open c l) x = tunnel_told (got_in x.what)
opens _ _ x = None

abbrev pub or_newer : Option IndAddr → Option IndAddr → Option IndAddr
or_newer (Some older) newer = Some older
or_newer None newer = newer

abbrev pub first_tunnel : List Entry → Option IndAddr
first_tunnel [] = None
first_tunnel (x ∷ r) = or_newer (first_tunnel r) (opens (channel r) (channel (x ∷ r)) x)

-- the first job whose device isn't on the tunnel's line
abbrev pub is_elsewhere : IndAddr → Job → Bool
is_elsewhere tunnel job = not (job.device.raw / 256 == tunnel.raw / 256)

abbrev pub first_elsewhere : List Job → Option IndAddr → Option Job
first_elsewhere jobs None = None
first_elsewhere jobs (Some tunnel) = find (is_elsewhere tunnel) jobs

-- ---- the causes

pub record IsFlooded (jobs : List Job) (log : List LogEntry) (r : List Entry) : Type 0 where
  pub count : datagrams_taken r ≡ flood
  pub early : JobUnfinished jobs log

pub record IsWrongLine (jobs : List Job) (r : List Entry) (device tunnel : IndAddr) : Type 0 where
  pub told : first_tunnel r ≡ Some tunnel
  pub job : Job
  pub first : first_elsewhere jobs (Some tunnel) ≡ Some job
  pub is_its : device ≡ job.device

-- where there is no fault there is no cause either, those of memory and of the link aside
pub record HasNoCause (jobs : List Job) (log : List LogEntry) (r : List Entry) : Type 0 where
  pub tries_left : length (tries r) < 3
  pub no_flood : JobUnfinished jobs log → datagrams_taken r < flood
  pub right_line : first_elsewhere jobs (first_tunnel r) ≡ None

-- that a fault of the link, or want of its memory, comes exactly where one of its calls failed so, its counts say
abbrev pub HasCause : List Job → List LogEntry → List Entry → HubFault → Type 0
HasCause jobs log r (NoMemory want) = Unit {0}
HasCause jobs log r LinkFailed = Unit {0}
HasCause jobs log r (GatewayRefused three) = tries r ≡ reverse three
HasCause jobs log r Flooded = IsFlooded jobs log r
HasCause jobs log r (WrongLine device tunnel) = IsWrongLine jobs r device tunnel

-- each comes exactly at its cause
abbrev pub FaultRight : List Job → List LogEntry → List Entry → Option HubFault → Type 0
FaultRight jobs log r None = HasNoCause jobs log r
FaultRight jobs log r (Some fault) = HasCause jobs log r fault
