-- One turn of the line: a client gets a datagram; or something else happens, which takes no time, be it a torn write and the return of power; or time
-- passes.
use Rattle.std.specs.Prelude.{◌≡◌, ℕ, ◌≤◌, ◌<◌, true, slice_get, length}
use Rattle.line_model.specs.Fresh.{Settled}
use Rattle.line_model.specs.Legal.{MayHappen}
use Rattle.line_model.specs.LinkStory.{is_foreign}
use Rattle.line_model.specs.Network.{OfSent}
use Rattle.line_model.specs.World.{Event, Down, Pass, now}
use Rattle.tunnel_sim.specs.declared.gateway.Letter.{Letter}
use Rattle.bus_sim.specs.declared.turn.Turn.{Turn}
use Rattle.bus_sim.specs.declared.turn.Turn.TheVariants.{Got, Went as HasGone, Passed, Quiet}
use Rattle.bus_sim.specs.Numbers.{IsNumber}
use Rattle.bus_sim.specs.RunNow.{RunState, mode, seen}
use Rattle.bus_sim.specs.Went.{Went, world}

-- a client gets these octets, at this endpoint
pub record Gets (letter : Letter) (old new : RunState) : Type 0 where
  pub age : ℕ
  pub went : Went old (Down age) new
  pub may : MayHappen (mode (seen old)) (world old) (Down age)
  pub got : OfSent (λ s. (s.endpoint ≡ letter.to) × (s.octets ≡ letter.octets)) (slice_get (world old).tunnel.network.down age)
  pub short : length letter.octets ≤ 300
  pub number : IsNumber old.begun.clients letter.to

-- something else happens, at once
pub record HappensOnce (old new : RunState) : Type 0 where
  pub event : Event
  pub went : Went old event new
  pub may : MayHappen (mode (seen old)) (world old) event
  pub foreign : is_foreign event ≡ true
  pub at_once : now (world new) ≡ now (world old)

-- or two such events, with nothing between
pub data Happens (old new : RunState) : Type 0 where
  Once : HappensOnce old new → Happens old new
  Twice : (mid : RunState) → HappensOnce old mid → HappensOnce mid new → Happens old new

-- so many milliseconds pass, since nothing but time can go on
pub record Passes (ms : ℕ) (old new : RunState) : Type 0 where
  pub settled : Settled (mode (seen old)) (world old)
  pub went : Went old (Pass ms) new
  pub may : MayHappen (mode (seen old)) (world old) (Pass ms)

-- and nothing is due when they are over
pub record PassesQuietly (ms : ℕ) (old new : RunState) : Type 0 where
  pub passes : Passes ms old new
  pub ends : Settled (mode (seen old)) (world new)

abbrev pub Turns : Turn → ℕ → RunState → RunState → Type 0
Turns (Got letter) left old new = Gets letter old new
Turns HasGone left old new = Happens old new
Turns (Passed ms) left old new = (0 < ms) × (ms ≤ left) × Passes ms old new
Turns Quiet left old new = PassesQuietly left old new
