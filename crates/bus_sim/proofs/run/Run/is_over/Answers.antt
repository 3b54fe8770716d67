use Rattle.std.proofs.Common.{◌≡◌, ℕ, ◌↔◌, ◌==◌, ◌&&◌, Bool, true, false, IsTrue, refl, subst, arith}
use Rattle.line_model.specs.Fresh.{HasNothingToSend}
use Rattle.line_model.specs.World.{World, now, replay}
use Rattle.bus_sim.specs.Begun.{start_of}
use Rattle.bus_sim.specs.RunNow.{RunState}
use Rattle.bus_sim.specs.Went.{world}
use Rattle.bus_sim.proofs.run.Run.is_over.Goals as goal

same_number : (a b : ℕ) → (a == b) ≡ true → a ≡ b
same_number a b e = grind arith

as_equal : (a b : ℕ) → a ≡ b → (a == b) ≡ true
as_equal a b e = grind arith

both : (a b : Bool) → (a && b) ≡ true → (a ≡ true) × (b ≡ true)
both true b h = (refl, h)
both false b h = cc

and_both : (a b : Bool) → a ≡ true → b ≡ true → (a && b) ≡ true
and_both true b e h = h
and_both false b e h = cc

over_exactly : (a b : ℕ) (silent : Bool) (P : Type 0) → IsTrue silent ↔ P → IsTrue ((a == b) && silent) ↔ ((a ≡ b) × P)
over_exactly a b silent P is = (
  (λ h. let parts = both (a == b) silent h in (same_number a b parts.0, is.0 parts.1)),
  (λ h. and_both (a == b) silent (as_equal a b h.0) (is.1 h.1)),
)

pub returns : goal.returns
returns c =
    let w : World = replay (start_of c.self.inside.begun) c.self.inside.events.list in
    subst (λ (v : RunState). IsTrue ((c.args.passed == c.args.left) && c.has_nothing_to_send.result) ↔ ((c.args.passed ≡ c.args.left) × HasNothingToSend (world v) (now (world v)))) c.self.view_is
    (over_exactly c.args.passed c.args.left c.has_nothing_to_send.result (HasNothingToSend w (now w)) (c.has_nothing_to_send.ensures w c.self.invariant.pictured))
