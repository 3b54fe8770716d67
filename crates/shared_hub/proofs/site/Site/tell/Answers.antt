use Rattle.std.proofs.Common.{refl, sym, ap, subst, ◌∙◌}
use Rattle.std.specs.Prelude.{is_some}
use Rattle.shared_hub.specs.Items.{HasTold}
use Rattle.shared_hub.specs.Sites.{items_of}
use Rattle.shared_hub.proofs.Sites.{failed_so, told_so}
use Rattle.shared_hub.proofs.Works.{polls_then, relay_kept}
use Rattle.shared_hub.proofs.site.Site.tell.Goals as goal

pub returns-then-is_some : goal.returns-then-is_some
returns-then-is_some g c = failed_so c.args.self.now (ap is_some (ap (λ s. s.hub.fault) (sym c.self.view_is) ∙ sym c.fault.ensures) ∙ (sym c.is_some.ensures ∙ c.if-is_some.true))

pub returns-in_default : goal.returns-in_default
returns-in_default g c = (refl, subst (λ s. HasTold (items_of s)) c.self.view_is (told_so (record { hub = c.self.inside.hub; feed = c.self.inside.feed; watching = c.self.inside.watching; opening = c.self.inside.opening; relay = c.self.inside.relay; watched = c.self.inside.watched }) c.self.invariant.0.since.run.turns (c.next_group.ensures.all c.in_default.is)))

pub or_polls-requires-clause-of : goal.or_polls-requires-clause-of
or_polls-requires-clause-of g c = relay_kept HasTold 0 c.args.self.now c.send-came.new.self c.send-came.result c.send-came.ensures.steps ∙ c.requires.of

pub returns : goal.returns
returns g c = polls_then HasTold 0 (items_of c.args.self.now) (items_of c.send-came.new.self) (items_of c.or_polls.new.self) c.send-came.result c.or_polls.result c.send-came.ensures.steps c.or_polls.ensures.polls
