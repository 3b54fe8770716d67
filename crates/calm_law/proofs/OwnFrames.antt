-- On the line no indication to another device than the tunnel comes to the client.
use Rattle.std.proofs.Common.{ℕ, List, [], ◌∷◌, Option, Some, None, subst}
use Rattle.knx_model.specs.declared.address.IndAddr.{IndAddr}
use Rattle.line_model.specs.ClientView.{channel}
use Rattle.line_model.specs.Fresh.{IsFresh}
use Rattle.line_model.specs.Gateway.{Channel, Request}
use Rattle.line_model.specs.Legal.{IsLegal}
use Rattle.line_model.specs.Record.{Entry, record_of}
use Rattle.line_model.specs.Tunnel as tunnel
use Rattle.line_model.specs.Tunnel.{Tunnel, Commissions}
use Rattle.line_model.specs.World.{World, Event, me, tunnel_events, replay}
use Rattle.line_model.proofs.Projection.{runs, records}
use Rattle.line_law.proofs.Arrivals.{Arrives, arrives}
use Rattle.line_law.proofs.OwnAddress.{Reaches, RequestReaches, OutReaches, IsItsTunnel, KnowsOwn, own_taken}
use Rattle.calm_law.proofs.State.{RequestHas, OutHas, NoStrays}
use Rattle.calm_law.proofs.Tally.{AreOwn}

module _ (own : IndAddr) where
  request_reaches : (o : Option Request) (octets : List ℕ) → RequestReaches own o → RequestHas o octets → Reaches own octets
  request_reaches None octets r has = absurd has
  request_reaches (Some q) octets r has = subst (Reaches own) has r

  out_reaches : (o : Option Channel) (octets : List ℕ) → OutReaches own o → OutHas o octets → Reaches own octets
  out_reaches None octets r has = absurd has
  out_reaches (Some c) octets r has = request_reaches c.outstanding octets r has

  pub its_frames : (t : Tunnel) (r : List Entry) → IsItsTunnel own t → KnowsOwn own (channel r) → NoStrays (channel r) t.gateway.channel
  its_frames t r h knows = λ l cemi at has. own_taken own (channel r) 1 l cemi at knows (out_reaches t.gateway.channel cemi h.gateway.out has)

pub own_frames : (start : World) (events : List Event) → IsFresh start → IsLegal Commissions start events → NoStrays (channel (record_of start events)) (replay start events).tunnel.gateway.channel
own_frames start events f l = let a : Arrives (me start) (replay start events) (record_of start events) = arrives start events f l in its_frames (me start) (replay start events).tunnel (record_of start events) a.tunnel a.knows

-- and so of its tunnel
pub all_own : (start : World) (events : List Event) → IsFresh start → IsLegal Commissions start events → AreOwn start.tunnel (tunnel_events start events)
all_own start [] f l = tt
all_own start (e ∷ past) f l = (
  subst (λ (z : List Entry). NoStrays (channel z) (tunnel.replay start.tunnel (tunnel_events start past)).gateway.channel) (records start past)
      (subst (λ (t : Tunnel). NoStrays (channel (record_of start past)) t.gateway.channel) (runs start past) (own_frames start past f l.1)),
  all_own start past f l.1,
)
