use Rattle.discovery_ends.proofs.answerer.Answerer.back.Goals as goal

pub returns-clause-answered : goal.returns-clause-answered
returns-clause-answered g c = rw (← c.self.view_is, c.back.ensures) c.self.invariant.answered
