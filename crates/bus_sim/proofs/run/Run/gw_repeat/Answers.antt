use Rattle.std.proofs.Common.{◌≡◌, [], refl, subst, sym, ◌∙◌}
use Rattle.line_model.specs.Gateway.{gateway_expired}
use Rattle.line_model.specs.World.{GwRepeat, now, replay}
use Rattle.tunnel_sim.specs.Gateways.{due_of}
use Rattle.tunnel_sim.specs.declared.gateway.Due.TheVariants.{Repeat}
use Rattle.bus_sim.specs.Begun.{start_of}
use Rattle.bus_sim.specs.RunNow.{RunState}
use Rattle.bus_sim.specs.Went.{IsRight, world}
use Rattle.bus_sim.proofs.Counting.{uncounted, takes_nothing, writes_nothing}
use Rattle.bus_sim.proofs.Holds.{after_own}
use Rattle.bus_sim.proofs.run.Run.gw_repeat.Goals as goal

pub invariant_of-self-2 : goal.invariant_of-self-2
invariant_of-self-2 c =
    let due : due_of (gateway_expired (replay (start_of c.self.inside.begun) c.self.inside.events.list).tunnel.gateway (now (replay (start_of c.self.inside.begun) c.self.inside.events.list))) ≡ Repeat
    = subst (λ (v : RunState). due_of (gateway_expired (world v).tunnel.gateway (now (world v))) ≡ Repeat) (sym c.self.view_is) c.requires.due in
    let does : c.gateway_expire.result ≡ Repeat = c.gateway_expire.ensures.answer _ c.self.invariant.pictured ∙ due in
    after_own c.self.inside.begun c.self.inside.events.list c.make_room.new.events.list c.push.new.self.list c.self.inside.index c.self.inside.line c.gateway_expire.new.self c.self.inside.counts c.self.inside.counts c.self.inside.owed.list c.make_room.new.owed.list c.meet.new.self.list [] GwRepeat refl c.self.invariant (c.gateway_expire.ensures.repeats does)
    (subst (λ v. IsRight v GwRepeat) (sym c.self.view_is) c.requires.right) c.make_room.ensures.events c.push.ensures.list c.in_ok-make_room.ensures.few c.make_room.ensures.owed c.meet.ensures refl
    (uncounted c.self.inside.counts (start_of c.self.inside.begun) c.self.inside.events.list (GwRepeat) (record { to = λ a. refl; from = λ a. refl; taken = λ a. takes_nothing _; wrote = λ a. writes_nothing _; connect = refl }) c.self.invariant.counted) refl
