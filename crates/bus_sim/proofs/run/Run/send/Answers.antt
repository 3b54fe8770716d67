use Rattle.std.proofs.Common.{◌≡◌, refl, subst, sym, ◌∙◌}
use Rattle.line_model.specs.World.{Send}
use Rattle.bus_sim.specs.declared.clients.Clients.TheVariants.{One}
use Rattle.bus_sim.specs.Begun.{start_of}
use Rattle.bus_sim.specs.Owing.{LetsClient}
use Rattle.bus_sim.specs.RunNow.{RunState}
use Rattle.bus_sim.proofs.Counting.{uncounted, takes_nothing, writes_nothing}
use Rattle.bus_sim.proofs.Holds.{after_client, run}
use Rattle.bus_sim.proofs.Rights.{send_right}
use Rattle.bus_sim.proofs.run.Run.send.Goals as goal

pub invariant_of-self-2 : goal.invariant_of-self-2
invariant_of-self-2 c =
    after_client c.self.inside.begun c.self.inside.events.list c.make_room.new.events.list c.push.new.self.list c.self.inside.index c.self.inside.line c.send.new.self c.self.inside.counts c.self.inside.counts c.self.inside.owed.list c.make_room.new.owed.list c.wait.new.self.list (Send c.args.octets.now) refl tt c.self.invariant c.send.ensures
    (send_right (run c.self.inside.begun c.self.inside.events.list) c.args.octets.now (subst (λ (v : RunState). v.begun.clients ≡ One) (sym c.self.view_is) c.in_ok-drives.ensures.one) (subst LetsClient (c.make_room.ensures.owed ∙ c.self.invariant.called) c.wait.ensures.lets)) c.make_room.ensures.events c.push.ensures.list c.in_ok-make_room.ensures.few c.make_room.ensures.owed c.wait.ensures.list refl
    (uncounted c.self.inside.counts (start_of c.self.inside.begun) c.self.inside.events.list (Send c.args.octets.now) (record { to = λ a. refl; from = λ a. refl; taken = λ a. takes_nothing _; wrote = λ a. writes_nothing _; connect = refl }) c.self.invariant.counted) refl
