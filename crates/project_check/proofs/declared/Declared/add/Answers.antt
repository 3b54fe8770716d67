use Rattle.project_check.proofs.Steps.{declares_more}
use Rattle.project_check.proofs.declared.Declared.add.Goals as goal

pub returns : goal.returns
returns c = λ catalogue before all named is_named h. declares_more catalogue c.args.self.now _ before c.args.statement.now c.add_group.ensures (λ names. c.add_device.ensures catalogue all names named is_named) c.in_ok-add_size.ensures h
