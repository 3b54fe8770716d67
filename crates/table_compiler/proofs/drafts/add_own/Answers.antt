use Rattle.std.proofs.Common.{sym, ◌∙◌}
use Rattle.table_compiler.proofs.Drafted.{one_more, nothing_more}
use Rattle.table_compiler.proofs.drafts.add_own.Goals as goal

pub returns-in_ok-add : goal.returns-in_ok-add
returns-in_ok-add c = λ ss is. one_more c.args.device c.args.draft.now c.add.new.self ss c.args.statement.now (c.in_ok-add.ensures c.args.device (sym c.names.ensures ∙ c.if-names.true)) is

pub returns-else-names : goal.returns-else-names
returns-else-names c = λ ss is. nothing_more c.args.device c.args.draft.now ss c.args.statement.now (sym c.names.ensures ∙ c.if-names.false) is
