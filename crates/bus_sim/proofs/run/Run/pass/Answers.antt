use Rattle.std.proofs.Common.{◌≡◌, ℕ, ◌+◌, ◌-◌, ◌≤◌, [], refl, subst, sym, ap, ◌∙◌, arith}
use Rattle.std.specs.Prelude.{min}
use Rattle.knx_model.specs.Connection.{last_time}
use Rattle.line_model.specs.World.{World, Pass, now, replay, step}
use Rattle.line_sim.specs.Line.{IsNow}
use Rattle.bus_sim.specs.Begun.{start_of}
use Rattle.bus_sim.specs.RunNow.{RunState}
use Rattle.bus_sim.specs.Went.{IsRight, world}
use Rattle.bus_sim.proofs.Counting.{uncounted, takes_nothing, writes_nothing}
use Rattle.bus_sim.proofs.Holds.{after_own}
use Rattle.bus_sim.proofs.run.Run.pass.Goals as goal

fits : (ms now held passed : ℕ) → now + ms ≤ last_time → now ≡ held → passed ≡ min ms (last_time - held) → passed ≡ ms
fits ms now held passed le same is = omega arith

pub invariant_of-self-2 : goal.invariant_of-self-2
invariant_of-self-2 c =
    let time : now (replay (start_of c.self.inside.begun) c.self.inside.events.list) + c.args.ms ≤ last_time = subst (λ (v : RunState). now (world v) + c.args.ms ≤ last_time) (sym c.self.view_is) c.requires.time in
    let all : c.pass.result ≡ c.args.ms = fits c.args.ms _ _ c.pass.result time c.self.invariant.pictured.tunnel.now (c.pass.ensures.value ∙ ap (λ (k : ℕ). min k (last_time - c.self.inside.line.tunnel.now)) c.from.ensures) in
    after_own c.self.inside.begun c.self.inside.events.list c.make_room.new.events.list c.push.new.self.list c.self.inside.index c.self.inside.line c.pass.new.self c.self.inside.counts c.self.inside.counts c.self.inside.owed.list c.make_room.new.owed.list c.meet.new.self.list [] (Pass c.args.ms) refl c.self.invariant
    (subst (λ (k : ℕ). (w : World) → IsNow c.self.inside.line w → IsNow c.pass.new.self (step w (Pass k))) all c.pass.ensures.next)
    (subst (λ v. IsRight v (Pass c.args.ms)) (sym c.self.view_is) c.requires.right) c.make_room.ensures.events c.push.ensures.list c.in_ok-make_room.ensures.few c.make_room.ensures.owed c.meet.ensures refl
    (uncounted c.self.inside.counts (start_of c.self.inside.begun) c.self.inside.events.list (Pass c.args.ms) (record { to = λ a. refl; from = λ a. refl; taken = λ a. takes_nothing _; wrote = λ a. writes_nothing _; connect = refl }) c.self.invariant.counted) refl
