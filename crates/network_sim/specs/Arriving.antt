-- Which datagrams of one sender arrive (UDP over IPv4): all, at the gateway or at clients that are each at their own endpoint; or those alone that
-- are addressed to one endpoint, where a client has left the others. What is said of datagrams going up and of those going down is said once
-- over this.
use Rattle.std.specs.Prelude.{◌≡◌, ℕ, ◌+◌, Bool, true, ◌&&◌, ◌==◌, nat_lt, List, Some, slice_get}
use Rattle.line_model.specs.Deliveries.{is_under_way}
use Rattle.line_model.specs.Fresh.{IsOver}
use Rattle.line_model.specs.Network.{Sent, MayArrive, MayReach, channel_numbers}
use Rattle.line_model.specs.Tunnel.{Mode, Commissions, Serves}
use Rattle.network_sim.specs.declared.place.Reach.{Reach}
use Rattle.network_sim.specs.declared.place.Reach.TheVariants.{Every, To}
use Rattle.network_sim.specs.Window.{is_waiting, came_once}

-- what the gateway sends, in a run and where it serves
abbrev pub reach_down : Mode → ℕ → Reach
reach_down Commissions present = To present
reach_down Serves present = Every

-- a datagram of this age may still arrive, where the gateway has made so many channels
abbrev pub passes : Reach → ℕ → ℕ → Sent → Bool
passes Every made age s = is_under_way made age s
passes (To endpoint) made age s = is_under_way made age s && (s.endpoint == endpoint)

abbrev pub MayCome : Reach → ℕ → List Sent → ℕ → Type 0
MayCome Every made sent age = MayArrive made sent age
MayCome (To endpoint) made sent age = MayReach endpoint made sent age

-- each was delivered, is lost, or can't be delivered any more
abbrev pub AllOver : Reach → ℕ → List Sent → Type 0
AllOver reach made sent = (age : ℕ) (s : Sent) → slice_get sent age ≡ Some s → IsOver (MayCome reach made sent age) s

-- ---- of a datagram that is kept, and so has fewer than 128 younger ones

abbrev pub is_within : Reach → Sent → Bool
is_within Every s = true
is_within (To endpoint) s = s.endpoint == endpoint

abbrev pub can_come : Reach → ℕ → Sent → Bool
can_come reach made s = is_within reach s && nat_lt made (s.made + channel_numbers)

abbrev pub goes_first : Reach → ℕ → Sent → Bool
goes_first reach made s = is_waiting s && can_come reach made s

abbrev pub goes_once_more : Reach → ℕ → Sent → Bool
goes_once_more reach made s = came_once s && can_come reach made s
