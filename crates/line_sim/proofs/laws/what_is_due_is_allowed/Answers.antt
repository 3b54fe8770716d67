use Rattle.line_sim.proofs.Ready.{gateway_closes, gateway_repeats, may_repeat, may_wear}
use Rattle.line_sim.proofs.laws.what_is_due_is_allowed.Goals as goal

pub returns-clause-repeat : goal.returns-clause-repeat
returns-clause-repeat c = may_repeat

pub returns-clause-gateway_repeats : goal.returns-clause-gateway_repeats
returns-clause-gateway_repeats c = gateway_repeats c.what_is_due_happens_in_the_tunnel.ensures.may_repeat

pub returns-clause-gateway_closes : goal.returns-clause-gateway_closes
returns-clause-gateway_closes c = gateway_closes c.what_is_due_happens_in_the_tunnel.ensures.may_close

pub returns-clause-worn : goal.returns-clause-worn
returns-clause-worn c mode n h = may_wear n h
