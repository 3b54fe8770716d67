-- What is held of a run beside its start and its events: tunnel and units as they are now, how many entries its record has, and how many broadcasts went
-- over the bus; each is what start and events say. And what the type of a run keeps.
use Rattle.std.specs.Prelude.{◌≡◌, ℕ, ◌^◌, ◌<◌, ◌≤◌, length}
use Rattle.line_model.specs.Tunnel.{Tunnel, made}
use Rattle.tunnel_sim.specs.Tunnels.{TunnelNow, IsTunnel}
use Rattle.address_world.specs.AddressLegal.{IsFresh, IsLegal}
use Rattle.address_world.specs.AddressStory.{record_of}
use Rattle.address_sim.specs.declared.units.Units.{Units as HeldUnits}
use Rattle.address_sim.specs.Follows.{FollowsText, broadcasts}
use Rattle.address_sim.specs.Told.{RunNow, start, world}
use Rattle.address_sim.specs.Units.{AreUnits, AreCounted}

pub record Keeps (r : RunNow) : Type 0 where
  pub fresh : IsFresh (start r)
  pub legal : IsLegal (start r) r.events
  pub follows : FollowsText r.begun.losses (start r) r.events

-- endpoints and channels are no more than events
pub record IsNumbered (events : ℕ) (t : Tunnel) : Type 0 where
  pub endpoints : t.present ≤ events
  pub channels : made t ≤ events

pub record IsHeld (r : RunNow) (n : TunnelNow) (held : HeldUnits) (in_record went_over : ℕ) : Type 0 where
  pub tunnel : IsTunnel n (world r).tunnel
  pub units : AreUnits held (world r).units
  pub counted : AreCounted held r.events
  pub entries : in_record ≡ length (record_of (start r) r.events)
  pub broadcast : went_over ≡ broadcasts (start r) r.events
  pub numbered : IsNumbered (length r.events) (world r).tunnel
  pub few : length r.events < 2 ^ 63
  pub keeps : Keeps r
