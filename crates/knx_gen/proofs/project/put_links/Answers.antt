use Rattle.std.proofs.Common.{sym}
use Rattle.std.proofs.lemmas.List.{append-nil}
use Rattle.knx_gen.specs.Generated.{link_lines}
use Rattle.knx_gen.proofs.Rounds.{links_more}
use Rattle.knx_gen.proofs.project.put_links.Goals as goal

pub loop-more-init : goal.loop-more-init
unfolding link_lines
loop-more-init c = sym (append-nil c.args.lines.now)

pub loop-more-preserved : goal.loop-more-preserved
loop-more-preserved c = links_more c.args.lines.now _ _ c.args.device c.args.object c.args.first c.loop-more.more c.loop-more.invariant (rw c.one.ensures at c.in_ok-push.ensures.ok)
