use Rattle.std.proofs.Common.{sym, ap, ◌∙◌}
use Rattle.telegram_router.specs.Ends.{first_feed}
use Rattle.shared_hub.proofs.Sites.{begins_so}
use Rattle.shared_hub.proofs.site.Site.new.Goals as goal

pub invariant_of-result : goal.invariant_of-result
invariant_of-result g c = (
  begins_so g.L.Link.story g.L.Link.script g.L.Link.faults c.args.hub c.of-opening.result.value c.args.feed c.of-relay.result.value c.of-opening.ensures (c.requires.feed ∙ ap first_feed (sym c.of-relay.ensures)) c.requires.opening,
  c.requires.watched,
)
