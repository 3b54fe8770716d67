use Rattle.std.proofs.Common.{refl, sym, subst, inl, inr}
use Rattle.tunnel_link.specs.declared.came.Loss.{Loss}
use Rattle.hub_core.specs.Taking.{LosesIn}
use Rattle.hub_core.proofs.Keeps.{of_books}
use Rattle.hub_core.proofs.Losing.{loss_follows}
use Rattle.hub_core.proofs.Quiet.{asides_fit}
use Rattle.hub_core.specs.Came.{CountsLoss}
use Rattle.hub_core.proofs.hub.taking.give_up.Goals as goal

pub returns-in-Stays-clause-fits : goal.returns-in-Stays-clause-fits
returns-in-Stays-clause-fits c =
    subst (λ (x : Loss). LosesIn x c.args.now c.args.work.now c.args.work.now) (sym c.in-Stays.is) (asides_fit c.args.work.now c.args.now c.moments_go_on.ensures.aside)

pub returns-in-Ended-clause-fits : goal.returns-in-Ended-clause-fits
returns-in-Ended-clause-fits c =
    let follows = loss_follows c.args.work.now c.lost.new.self c.args.now (of_books _ _ c.lost.ensures.books) c.moments_go_on.ensures.aside c.lost.ensures.follows in
    elim c.in-Ended.is [
      | inl ended ↦ subst (λ (x : Loss). LosesIn x c.args.now c.args.work.now c.lost.new.self) (sym ended) follows
      | inr told ↦ subst (λ (x : Loss). LosesIn x c.args.now c.args.work.now c.lost.new.self) (sym told) follows
    ]

pub returns-in-Stays-clause-came : goal.returns-in-Stays-clause-came
returns-in-Stays-clause-came c = subst (λ (x : Loss). CountsLoss x c.args.now c.args.work.now c.args.work.now.crew) (sym c.in-Stays.is) refl

pub returns-in-Ended-clause-came : goal.returns-in-Ended-clause-came
returns-in-Ended-clause-came c = elim c.in-Ended.is [
  | inl ended ↦ subst (λ (x : Loss). CountsLoss x c.args.now c.args.work.now c.lost.new.self.crew) (sym ended) (c.lost.ensures.came, c.lost.ensures.counts)
  | inr told ↦ subst (λ (x : Loss). CountsLoss x c.args.now c.args.work.now c.lost.new.self.crew) (sym told) (c.lost.ensures.came, c.lost.ensures.counts)
]
