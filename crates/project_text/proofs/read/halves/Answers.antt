use Rattle.project_text.proofs.Parts.{lines_of_halves, feeds_of_half}
use Rattle.project_text.proofs.read.halves.Goals as goal

pub returns-clause-lines : goal.returns-clause-lines
returns-clause-lines c = rw (c.split_at.ensures.front, c.split_at.ensures.back) (lines_of_halves c.args.octets.now _ c.in_ok-at.at (c.in_ok-at.ensures.0.high) (c.in_ok-at.ensures.1))

pub returns-clause-feeds : goal.returns-clause-feeds
returns-clause-feeds c = rw c.split_at.ensures.front (feeds_of_half c.args.octets.now _ c.in_ok-at.at (c.in_ok-at.ensures.0.high) (c.in_ok-at.ensures.1))
