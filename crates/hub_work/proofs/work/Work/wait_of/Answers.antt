use Rattle.std.proofs.Common.{sym, ◌∙◌}
use Rattle.hub_work.proofs.Lasting.{busy_part, idle_part}
use Rattle.hub_work.proofs.work.Work.wait_of.Goals as goal

pub returns-then-is_busy_at : goal.returns-then-is_busy_at
returns-then-is_busy_at c = busy_part _ _ c.args.now (sym c.is_busy_at.ensures ∙ c.if-is_busy_at.true)

pub returns : goal.returns
returns c = idle_part _ _ c.deadline_at.result c.args.now c.until.result (sym c.is_busy_at.ensures ∙ c.if-is_busy_at.false) c.deadline_at.ensures c.until.ensures
