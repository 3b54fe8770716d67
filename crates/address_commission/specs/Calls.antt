-- What a call of the code that gives an address comes to, by its link's record.
use Rattle.std.specs.Prelude.{◌≡◌, ℕ, ◌+◌, ◌-◌, ◌≤◌, false, List, ◌++◌, Result, Ok, Err, OnOk, IfErr}
use Rattle.knx_model.specs.declared.address.IndAddr.{IndAddr}
use Rattle.line_model.specs.declared.fault.HubFault.{HubFault}
use Rattle.line_model.specs.declared.fault.HubFault.TheVariants as hub
use Rattle.line_model.specs.ChannelLost.{answer_wait}
use Rattle.line_model.specs.Closing.{most_datagrams}
use Rattle.line_model.specs.Haste.{KeepsPaces}
use Rattle.line_model.specs.Record.{Placed, entries}
use Rattle.line_model.specs.Moments.{moments}
use Rattle.line_model.specs.Faults.{flood}
use Rattle.address_talk.specs.Rounds.{has_lost, GoesOnFrom}
use Rattle.address_talk.specs.Talk.{TalksRightly}
use Rattle.address_talk.specs.Ends.{AwaitsResponse, LeavesOn, datagrams_in, FailsSo, FailsRightly}
use Rattle.line_model.specs.LinkStory.{Story, Clock, Exact, clock_of, newest_time}
use Rattle.tunnel_link.specs.declared.came.Came.{Came}
use Rattle.tunnel_link.specs.declared.came.What.{What}
use Rattle.tunnel_link.specs.declared.came.What.TheVariants as came
use Rattle.tunnel_link.specs.declared.came.Loss.{Loss}
use Rattle.tunnel_link.specs.declared.came.Loss.TheVariants.{Stays}
use Rattle.address_commission.specs.Exact.{WhereClock}
use Rattle.address_world.specs.declared.asked.Asked.{Asked}
use Rattle.address_commission.specs.Going.{Going, AsksOne}
use Rattle.address_commission.specs.Listening.{Listens}
use Rattle.address_commission.specs.declared.ear.Ear.{Ear}
use Rattle.address_talk.specs.declared.assigned.AssignFault.{AssignFault}
use Rattle.address_talk.specs.declared.assigned.AssignFault.TheVariants.{TunnelLost, LinkFailed, GatewayRefused, Flooded, NoMemory}

-- the fault of the client's end of the tunnel
abbrev pub fault_of : HubFault → AssignFault
fault_of (hub.NoMemory want) = NoMemory want
fault_of hub.LinkFailed = LinkFailed
fault_of (hub.GatewayRefused three) = GatewayRefused three
fault_of hub.Flooded = Flooded
fault_of (hub.WrongLine device tunnel) = Flooded

-- why a poll ends the talk, by how many datagrams were taken and what became of the channel
abbrev pub EndsFor : AssignFault → ℕ → Loss → Type 0
EndsFor TunnelLost taken loss = ¬ (loss ≡ Stays)
EndsFor LinkFailed taken loss = ⊥
EndsFor (GatewayRefused three) taken loss = ⊥
EndsFor Flooded taken loss = flood ≤ taken
EndsFor (NoMemory want) taken loss = ⊥

-- ---- a call of the talk

-- it is told that the client's end of the tunnel failed
abbrev pub ToldAs : {X : Type 0} → Result X HubFault → Result X AssignFault → Type 0
ToldAs (Ok x) result = result ≡ Ok x
ToldAs (Err fault) result = result ≡ Err (fault_of fault)

abbrev pub CausedBy : {X : Type 0} → Result X AssignFault → List Placed → Type 0
CausedBy (Ok x) places = Unit {0}
CausedBy (Err fault) places = FailsSo fault places

-- where it listened before it does afterwards, and P holds of how the places went on; where it failed, its cause is there, and all that was put was rightly put
pub record TalkGoes {X : Type 0} (P : List Placed → List Placed → Type 0) (e f : Ear) (before after : Story) (result : Result X AssignFault) : Type 0 where
  pub listens : (wanted : IndAddr) → WhereClock (Listens wanted e) before → OnOk result (WhereClock (Listens wanted f) after)
  pub moves : (wanted : IndAddr) → WhereClock (Listens wanted e) before → OnOk result (Going P before after)
  pub fails : (wanted : IndAddr) → WhereClock (Listens wanted e) before → IfErr result (λ fault. WhereClock (FailsRightly wanted fault) after)

-- the same of a call that puts a request, whose turn has come: where it listened before it does afterwards, and the newest round is the request's
pub record AsksGoes {X : Type 0} (wanted : IndAddr) (asked : Asked) (e f : Ear) (before after : Story) (result : Result X AssignFault) : Type 0 where
  pub listens : WhereClock (Listens wanted e) before → OnOk result (WhereClock (Listens wanted f) after)
  pub moves : WhereClock (Listens wanted e) before → OnOk result (Going (AsksOne wanted asked) before after)
  pub fails : WhereClock (Listens wanted e) before → IfErr result (λ fault. WhereClock (FailsRightly wanted fault) after)

-- it failed at its cause, and all that was put was rightly put
abbrev pub TalkFails : {X : Type 0} → IndAddr → Story → Result X AssignFault → Type 0
TalkFails wanted after result = IfErr result (λ fault. WhereClock (FailsRightly wanted fault) after)

-- the end of the channel: no request is put
pub record ClosesSo (wanted : IndAddr) (old new : List Placed) : Type 0 where
  pub goes_on : GoesOnFrom old new
  pub rightly : TalksRightly wanted old → TalksRightly wanted new

-- the pace is kept on
abbrev pub PaceKept : List Placed → List Placed → Type 0
PaceKept old new = KeepsPaces (entries old) → KeepsPaces (entries new)

-- ---- while the response is awaited, behind this talk: so many datagrams may still come

pub record LeavesSince (left : ℕ) (talk : List Placed) (clock : Clock) (places : List Placed) : Type 0 where
  pub added : List Placed
  pub all : places ≡ added ++ talk
  pub kept : has_lost (moments places) ≡ false
  pub in_time : clock ≡ Exact → newest_time (entries places) ≤ newest_time (entries talk) + answer_wait
  pub count : datagrams_in added + left ≡ most_datagrams

pub record HasAwaited (talk : List Placed) (clock : Clock) (places : List Placed) : Type 0 where
  pub added : List Placed
  pub all : places ≡ added ++ talk
  pub awaits : AwaitsResponse clock talk added

abbrev pub got_one : What → ℕ
got_one came.Quiet = 0
got_one came.Dropped = 1
got_one came.Tunnel = 1
got_one (came.Up tunnel) = 1
got_one (came.Frame frame) = 1

-- after a poll the channel stays, and so many fewer may come; or it was lost
abbrev pub LeftOn : Came → ℕ → List Placed → Clock → List Placed → Type 0
LeftOn polled left talk clock places = (polled.loss ≡ Stays → LeavesSince (left - got_one polled.what) talk clock places) × ((polled.loss ≡ Stays → ⊥) → HasAwaited talk clock places)

-- the channel is ended
abbrev pub LeavesTo : Story → Story → Type 0
LeavesTo before after = Going (LeavesOn (clock_of after)) before after
