use Rattle.std.proofs.Common.{◌≡◌, ℕ, Option, Some, None, refl, subst, sym, ap, ◌∙◌}
use Rattle.std.specs.Prelude.{slice_get}
use Rattle.line_model.specs.Lines.{repeats_down}
use Rattle.line_model.specs.Network.{Sent, OfSent}
use Rattle.line_model.specs.Owed.{ReachAgain, owed_if}
use Rattle.line_model.specs.World.{Down, replay}
use Rattle.bus_sim.specs.Begun.{said, start_of}
use Rattle.bus_sim.specs.Numbers.{IsNumber}
use Rattle.bus_sim.specs.RunNow.{RunState}
use Rattle.bus_sim.specs.Went.{IsRight, world}
use Rattle.bus_sim.proofs.Calls.{one_called}
use Rattle.bus_sim.proofs.Counting.{uncounted, takes_nothing, writes_nothing}
use Rattle.bus_sim.proofs.Holds.{after_own}
use Rattle.bus_sim.proofs.Laws.{fewer, counted}
use Rattle.bus_sim.proofs.Numbered.{down_numbered}
use Rattle.bus_sim.proofs.run.Run.down.Goals as goal

pub invariant_of-self-2 : goal.invariant_of-self-2
invariant_of-self-2 c =
    let exact = counted (start_of c.self.inside.begun) c.self.inside.events.list c.self.invariant.keeps.fresh c.self.invariant.few in
    after_own c.self.inside.begun c.self.inside.events.list c.make_room.new.events.list c.push.new.self.list c.self.inside.index c.self.inside.line c.down-octets.new.self c.self.inside.counts c.self.inside.counts c.self.inside.owed.list c.make_room.new.owed.list c.meet.new.self.list _ (Down c.args.age) refl c.self.invariant c.down-octets.ensures.next
    (subst (λ v. IsRight v (Down c.args.age)) (sym c.self.view_is) c.requires.right) c.make_room.ensures.events c.push.ensures.list c.in_ok-make_room.ensures.few c.make_room.ensures.owed c.meet.ensures
    (one_called _ _ (c.reaches_again-first.ensures (said c.self.inside.begun) c.self.invariant.indexed
    ∙ ap (λ (k : ℕ). owed_if (repeats_down (said c.self.inside.begun) k) (ReachAgain k)) (c.number_down.ensures.exact _ c.self.invariant.pictured (fewer _ exact.down))))
    (uncounted c.self.inside.counts (start_of c.self.inside.begun) c.self.inside.events.list (Down c.args.age) (record { to = λ a. refl; from = λ a. refl; taken = λ a. takes_nothing _; wrote = λ a. writes_nothing _; connect = refl }) c.self.invariant.counted) refl

both_of : (P Q : Sent → Type 0) (o : Option Sent) → OfSent P o → OfSent Q o → OfSent (λ s. P s × Q s) o
both_of P Q None h k = h
both_of P Q (Some s) h k = (h, k)

pub returns-clause-got : goal.returns-clause-got
returns-clause-got c = subst (λ (v : RunState). OfSent (λ s. (s.endpoint ≡ c.endpoint_down-to.result) × (s.octets ≡ c.down-octets.result)) (slice_get (world v).tunnel.network.down c.args.age)) c.self.view_is
    (both_of (λ s. s.endpoint ≡ c.endpoint_down-to.result) (λ s. s.octets ≡ c.down-octets.result) (slice_get (replay (start_of c.self.inside.begun) c.self.inside.events.list).tunnel.network.down c.args.age)
    (c.endpoint_down-to.ensures _ c.self.invariant.pictured) (c.down-octets.ensures.got _ c.self.invariant.pictured))

pub returns-clause-number : goal.returns-clause-number
returns-clause-number c = subst (λ (v : RunState). IsNumber v.begun.clients c.endpoint_down-to.result) c.self.view_is
    (down_numbered c.self.inside.begun.clients (replay (start_of c.self.inside.begun) c.self.inside.events.list).tunnel c.args.age c.endpoint_down-to.result c.self.invariant.numbered (c.endpoint_down-to.ensures _ c.self.invariant.pictured))
