use Rattle.std.proofs.Common.{◌≡◌, ◌∙◌, ap, refl, None}
use Rattle.discovery_ends.proofs.Told.{given_told, not_given_told, not_told}
use Rattle.discovery_ends.proofs.answerer.AnswererPort.give.Goals as goal

pub returns-in_err-begin-clause-failed : goal.returns-in_err-begin-clause-failed
returns-in_err-begin-clause-failed g c = not_told c.from_residual.result c.args.to c.args.octets.now _ _ (rw c.in_err-begin.ensures.err.1 refl)

pub returns-clause-given : goal.returns-clause-given
returns-clause-given g c =
    let stands : c.self.inside.failed ≡ None = ap (λ a. a.failed) (c.self.view_is ∙ c.in_ok-begin.ensures.ok.0) ∙ c.in_ok-begin.ensures.ok.1 in
    rw (← c.in_ok-begin.ensures.ok.0, ← c.self.view_is)
    (given_told c.give.result c.self.inside.port.own c.give.new.self.own c.self.inside.about c.self.inside.failed c.args.to c.args.octets.now _ _ c.give.ensures.own stands c.self.invariant.answered c.give.ensures.given)

pub returns-clause-failed : goal.returns-clause-failed
returns-clause-failed g c =
    let stands : c.self.inside.failed ≡ None = ap (λ a. a.failed) (c.self.view_is ∙ c.in_ok-begin.ensures.ok.0) ∙ c.in_ok-begin.ensures.ok.1 in
    rw (← c.in_ok-begin.ensures.ok.0, ← c.self.view_is)
    (not_given_told c.give.result c.self.inside.port.own c.give.new.self.own c.self.inside.about c.self.inside.failed c.args.to c.args.octets.now _ _ c.give.ensures.own stands c.self.invariant.answered c.give.ensures.failed)
