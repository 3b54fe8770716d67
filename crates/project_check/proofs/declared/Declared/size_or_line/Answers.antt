use Rattle.project_check.proofs.declared.Declared.size_or_line.Goals as goal

pub returns-in-None : goal.returns-in-None
returns-in-None c = λ catalogue ss h. rw c.in-None.is (c.line_size.ensures catalogue ss h)
