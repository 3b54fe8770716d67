use Rattle.std.proofs.Common.{◌+◌, refl, arith}
use Rattle.line_model.specs.Record.{Renewed}
use Rattle.tunnel_sim.specs.Tunnels.{tunnel_now}
use Rattle.address_world.specs.AddressWorld.{Renew}
use Rattle.address_sim.specs.Told.{start_of}
use Rattle.address_sim.specs.Turns.{begun_of}
use Rattle.address_sim.proofs.Seen.{no_longer}
use Rattle.address_sim.proofs.Held.{can_count, held_after, one_entry}
use Rattle.address_sim.proofs.run.Run.renew.Goals as goal

pub overflow_add-self : goal.overflow_add-self
overflow_add-self c = omega (arith, c.self.invariant.entries, no_longer (start_of (begun_of c.self.inside.begun)) c.self.inside.events.list, c.self.invariant.few)

pub invariant_of-self-2 : goal.invariant_of-self-2
invariant_of-self-2 c = held_after (begun_of c.self.inside.begun) c.self.inside.events.list c.reserve.new.self.list c.push.new.self.list (tunnel_now c.self.inside.tunnel) (tunnel_now c.renew.new.self) c.self.inside.units c.self.inside.units
    c.self.inside.entries (c.self.inside.entries + 1) c.self.inside.broadcasts c.self.inside.broadcasts Renew c.reserve.ensures.list c.push.ensures.list c.self.invariant c.in_ok-reserve.ensures.few (record {
      tunnel = c.renew.ensures;
      units = c.self.invariant.units;
      counted = c.self.invariant.counted;
      entries = one_entry (start_of (begun_of c.self.inside.begun)) c.self.inside.events.list Renew Renewed c.self.inside.entries (c.self.inside.entries + 1) refl c.self.invariant.entries refl;
      broadcast = c.self.invariant.broadcast;
      may = record { tunnel = tt; units = tt };
      next = tt;
    })

pub renew-requires : goal.renew-requires
renew-requires c = (can_count (tunnel_now c.self.inside.tunnel) _ _ c.self.invariant.tunnel c.self.invariant.numbered c.self.invariant.few).0
