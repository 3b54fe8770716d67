use Rattle.std.proofs.Common.{◌≡◌}
use Rattle.shared_hub.specs.Sites.{items_of}
use Rattle.shared_hub.specs.Steps.{IsOn}
use Rattle.shared_hub.proofs.site.Site.step.Given as goal

-- nothing was told yet in this turn, and the hub goes on
abbrev pub invariant-loop : goal.invariant-loop
invariant-loop g l = record { same : items_of l.self ≡ items_of l.initial.self; on : IsOn l.self.hub }
