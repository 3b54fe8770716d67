use Rattle.project_check.proofs.rules.Whole.size_differs.Goals as goal

pub returns-then-declared : goal.returns-then-declared
returns-then-declared c = λ catalogue all h. rw c.if-declared.true (c.differs_from_first.ensures catalogue all h)
