use Rattle.std.proofs.Common.{refl, sym, ◌∙◌}
use Rattle.download_core.specs.Calls.{lost}
use Rattle.hub_work.proofs.Moments.{changed_books}
use Rattle.hub_work.specs.Downloaders.{states}
use Rattle.hub_work.proofs.CameFor.{lost_for_nobody, lost_at_rest, lost_running}
use Rattle.hub_work.proofs.work.Work.lost_for.Goals as goal

pub returns-then-ran-clause-books : goal.returns-then-ran-clause-books
returns-then-ran-clause-books c = changed_books c.args.self.now c.lost.new.self c.came_at.new.self c.args.self.now.sender lost c.in-Some.held.job (λ s. refl) c.lost.ensures c.came_at.ensures.held

pub returns-else-ran-clause-books : goal.returns-else-ran-clause-books
returns-else-ran-clause-books c = changed_books c.args.self.now c.lost.new.self c.args.self.now.crew c.args.self.now.sender lost c.in-Some.held.job (λ s. refl) c.lost.ensures refl

pub returns-in_default-clause-came : goal.returns-in_default-clause-came
returns-in_default-clause-came c = lost_for_nobody (states c.args.self.now.downloaders) c.args.now c.args.self.now.crew c.args.place c.in_default.ensures

pub returns-then-ran-clause-came : goal.returns-then-ran-clause-came
returns-then-ran-clause-came c = lost_running (states c.args.self.now.downloaders) c.args.now c.args.self.now.crew c.args.place c.in-Some.held c.came_at.new.self c.in-Some.ensures (sym c.runs-ran.ensures ∙ c.if-ran.true) c.came_at.ensures.came

pub returns-else-ran-clause-came : goal.returns-else-ran-clause-came
returns-else-ran-clause-came c = lost_at_rest (states c.args.self.now.downloaders) c.args.now c.args.self.now.crew c.args.place c.in-Some.held c.in-Some.ensures (sym c.runs-ran.ensures ∙ c.if-ran.false)
