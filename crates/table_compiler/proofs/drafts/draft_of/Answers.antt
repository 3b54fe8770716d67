use Rattle.table_compiler.proofs.drafts.draft_of.Goals as goal

pub loop-statement-init : goal.loop-statement-init
loop-statement-init c = c.new-draft.ensures c.args.device
