use Rattle.std.proofs.Common.{◌≡◌, ℕ, refl, subst, sym, ◌∙◌, arith}
use Rattle.line_model.specs.World.{World, From, step}
use Rattle.line_sim.specs.Line.{IsNow}
use Rattle.bus_sim.specs.declared.clients.Clients.TheVariants.{Any}
use Rattle.bus_sim.specs.Begun.{start_of}
use Rattle.bus_sim.specs.Owing.{LetsClient}
use Rattle.bus_sim.specs.RunNow.{RunState}
use Rattle.bus_sim.proofs.Counting.{uncounted, takes_nothing, writes_nothing}
use Rattle.bus_sim.proofs.Holds.{after_client, run}
use Rattle.bus_sim.proofs.Rights.{from_right}
use Rattle.bus_sim.proofs.run.Run.send_from.Goals as goal

pub invariant_of-self-2 : goal.invariant_of-self-2
invariant_of-self-2 c =
    after_client c.self.inside.begun c.self.inside.events.list c.make_room.new.events.list c.push.new.self.list c.self.inside.index c.self.inside.line c.send_from.new.self c.self.inside.counts c.self.inside.counts c.self.inside.owed.list c.make_room.new.owed.list c.wait.new.self.list (From c.args.endpoint c.args.octets.now) refl (omega (arith, c.ranges.endpoint.fits))
    c.self.invariant (subst (λ (k : ℕ). (w : World) → IsNow c.self.inside.line w → IsNow c.send_from.new.self (step w (From k c.args.octets.now))) c.from.ensures c.send_from.ensures)
    (from_right (run c.self.inside.begun c.self.inside.events.list) c.args.endpoint c.args.octets.now (subst (λ (v : RunState). v.begun.clients ≡ Any) (sym c.self.view_is) c.requires) (subst LetsClient (c.make_room.ensures.owed ∙ c.self.invariant.called) c.wait.ensures.lets)) c.make_room.ensures.events c.push.ensures.list c.in_ok-make_room.ensures.few c.make_room.ensures.owed c.wait.ensures.list refl
    (uncounted c.self.inside.counts (start_of c.self.inside.begun) c.self.inside.events.list (From c.args.endpoint c.args.octets.now) (record { to = λ a. refl; from = λ a. refl; taken = λ a. takes_nothing _; wrote = λ a. writes_nothing _; connect = refl }) c.self.invariant.counted) refl
