use Rattle.std.proofs.Common.{◌≡◌}
use Rattle.toml.specs.View.{members_view}
use Rattle.catalogue.specs.Catalogue.{models_after, models_of}
use Rattle.catalogue.proofs.models.models_of.Given as goal

-- the models so far, and then those that are left
abbrev pub invariant-loop-name : goal.invariant-loop-name
invariant-loop-name l = models_after l.models (members_view l.name-iterator) ≡ models_of (members_view l.table.entries)
