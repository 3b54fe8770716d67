use Rattle.std.proofs.Common.{◌≡◌, ℕ, ◌∷◌, length, refl, subst, sym, ap, ◌∙◌, arith, nat_lt, ◌&&◌}
use Rattle.line_model.specs.Lines.{drops, repeats_up}
use Rattle.line_model.specs.Owed.{ChannelCloses, DeliverAgain, owed_if}
use Rattle.line_model.specs.World.{World, Up, replay, step}
use Rattle.line_sim.specs.Line.{IsNow}
use Rattle.bus_sim.specs.Begun.{said, start_of}
use Rattle.bus_sim.specs.Counted.{CountsNow, AreCounts}
use Rattle.bus_sim.specs.Went.{IsRight}
use Rattle.bus_sim.proofs.Calls.{capped_few, two_called}
use Rattle.bus_sim.proofs.Counting.{asked, takes_nothing, writes_nothing}
use Rattle.bus_sim.proofs.Holds.{after_own}
use Rattle.bus_sim.proofs.Laws.{channels, fewer, counted, requests}
use Rattle.bus_sim.proofs.run.Run.up.Goals as goal

pub invariant_of-self-2 : goal.invariant_of-self-2
invariant_of-self-2 c =
    let b = c.self.inside.begun in
    let es = c.self.inside.events.list in
    let w = replay (start_of b) es in
    let fresh = c.self.invariant.keeps.fresh in
    let few = c.in_ok-make_room.ensures.few in
    let exact = counted (start_of b) es fresh c.self.invariant.few in
    let goes : (v : World) → IsNow c.self.inside.line v → IsNow c.up.new.self (step v (Up c.args.age)) = λ v is. c.in_ok-up.ensures.next v is (channels c.self.inside.line (start_of b) es c.self.invariant.pictured fresh c.self.invariant.few) in
    let old : c.acted-before.result ≡ length w.tunnel.gateway.acted = c.acted-before.ensures.simulates w c.self.invariant.pictured ∙ capped_few _ (let h = requests (start_of b) es fresh in omega arith) in
    let new : c.acted.result ≡ length (step w (Up c.args.age)).tunnel.gateway.acted
    = c.acted.ensures.simulates (step w (Up c.args.age)) (goes w c.self.invariant.pictured) ∙ capped_few _ (let h = requests (start_of b) (Up c.args.age ∷ es) fresh in omega arith) in
    after_own c.self.inside.begun c.self.inside.events.list c.make_room.new.events.list c.push.new.self.list c.self.inside.index c.self.inside.line c.up.new.self c.self.inside.counts c.connect_if.new.self c.self.inside.owed.list c.make_room.new.owed.list c.meet.new.self.list _ (Up c.args.age) refl c.self.invariant goes
    (subst (λ v. IsRight v (Up c.args.age)) (sym c.self.view_is) c.requires.right) c.make_room.ensures.events c.push.ensures.list few c.make_room.ensures.owed c.meet.ensures
    (two_called _ _ _ _
    (c.comes_again-first.ensures (said b) c.self.invariant.indexed ∙ ap (λ (k : ℕ). owed_if (repeats_up (said b) k) (DeliverAgain k)) (c.number_up.ensures.exact w c.self.invariant.pictured (fewer _ exact.up)))
    (c.channel_closes-second.ensures (said b) c.self.invariant.indexed ∙ ap (λ (k : ℕ). owed_if (nat_lt k c.acted.result && drops (said b) c.acted.result) ChannelCloses) old
    ∙ ap (λ (k : ℕ). owed_if (nat_lt (length w.tunnel.gateway.acted) k && drops (said b) k) ChannelCloses) new))
    (subst (λ (x : CountsNow). AreCounts x (start_of b) (Up c.args.age ∷ es)) (sym c.connect_if.ensures)
    (asked c.self.inside.counts (start_of b) es (Up c.args.age) c.is_connect-connects.result (λ a. refl) (λ a. refl) (λ a. takes_nothing _) (λ a. writes_nothing _) (sym (c.is_connect-connects.ensures w c.self.invariant.pictured)) few c.self.invariant.counted))
    (ap (λ (x : CountsNow). x.line) c.connect_if.ensures)
