use Rattle.std.proofs.Common.{◌≡◌, ◌-◌, ℕ, sym, subst, ◌∙◌}
use Rattle.network_sim.specs.Arriving.{MayCome}
use Rattle.line_sim.proofs.Going.{again_comes, is_age, not_kept}
use Rattle.line_sim.proofs.line.counted.again.Goals as goal

pub returns-in-Some-clause-comes : goal.returns-in-Some-clause-comes
returns-in-Some-clause-comes c =
    let age : c.in-Some.age ≡ c.args.sent.now.count - c.args.number = is_age c.args.sent.now c.args.number c.in-Some.age (sym c.in-Some.is ∙ c.age_of.ensures.value) in
    subst (λ (k : ℕ). MayCome c.args.reach c.args.made c.args.sent.now.kept k) (sym age) (again_comes c.args.reach c.args.made (c.args.sent.now.count - c.args.number) c.args.sent.now.kept (sym c.if-may_go_again.ensures.value))

pub returns-in_default-2-clause-possible : goal.returns-in_default-2-clause-possible
returns-in_default-2-clause-possible c = not_kept c.args.reach c.args.made c.args.sent.now c.args.number (sym c.in_default.is ∙ c.age_of.ensures.value)
