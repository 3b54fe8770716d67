use Rattle.std.proofs.Common.{◌≡◌}
use Rattle.toml.specs.View.{members_view}
use Rattle.catalogue.specs.Shapes.{are_keys}
use Rattle.catalogue.proofs.stated.TableKind.has_keys_of.Given as goal

-- all are keys where those that are left are
abbrev pub invariant-loop-key : goal.invariant-loop-key
invariant-loop-key l = are_keys l.self (members_view l.key-iterator) ≡ are_keys l.self (members_view l.table.entries)
