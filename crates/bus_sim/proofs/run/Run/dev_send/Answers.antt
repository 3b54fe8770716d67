use Rattle.std.proofs.Common.{[], ◌∷◌, refl, subst, sym}
use Rattle.line_model.specs.World.{AtGateway, DevSend}
use Rattle.tunnel_sim.specs.Tunnels.{at_gateway}
use Rattle.bus_sim.specs.Begun.{start_of}
use Rattle.bus_sim.specs.Counted.{CountsNow, AreCounts}
use Rattle.bus_sim.specs.Went.{IsRight}
use Rattle.bus_sim.proofs.Calls.{sends_one}
use Rattle.bus_sim.proofs.Counting.{counted}
use Rattle.bus_sim.proofs.Holds.{after_own}
use Rattle.bus_sim.proofs.run.Run.dev_send.Goals as goal

pub invariant_of-self-2 : goal.invariant_of-self-2
invariant_of-self-2 c =
    after_own c.self.inside.begun c.self.inside.events.list c.make_room.new.events.list c.push.new.self.list c.self.inside.index c.self.inside.line c.dev_send.new.self c.self.inside.counts c.add.new.self c.self.inside.owed.list c.make_room.new.owed.list c.meet.new.self.list [] (DevSend c.args.device (at_gateway c.at_gateway-at.result) []) refl c.self.invariant c.in_ok-dev_send.ensures.next
    (subst (λ v. IsRight v (DevSend c.args.device (at_gateway c.at_gateway-at.result) [])) (sym c.self.view_is) (subst (λ (x : AtGateway). IsRight c.args.self.now (DevSend c.args.device x [])) (sym c.at_gateway-at.ensures) c.requires))
    c.make_room.ensures.events c.push.ensures.list c.in_ok-make_room.ensures.few c.make_room.ensures.owed c.meet.ensures refl
    (subst (λ (x : CountsNow). AreCounts x (start_of c.self.inside.begun) (DevSend c.args.device (at_gateway c.at_gateway-at.result) [] ∷ c.self.inside.events.list)) (sym c.add.ensures.value)
    (counted c.self.inside.counts (start_of c.self.inside.begun) c.self.inside.events.list (DevSend c.args.device (at_gateway c.at_gateway-at.result) []) c.args.device _ (sends_one _ c.args.device (at_gateway c.at_gateway-at.result)) c.add.ensures.places c.in_ok-make_room.ensures.few c.self.invariant.counted))
    c.add.ensures.line
