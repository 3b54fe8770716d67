-- An index stands for a script where each of its maps has what the script says of each place and of each connect request.
use Rattle.std.specs.Prelude.{◌≡◌, ℕ}
use Rattle.std.specs.Ordering.{nat_cmp, ordering_then}
use Rattle.std.specs.declared.cmp.Ordering.{Ordering}
use Rattle.std.specs.BTreeMap.{get}
use Rattle.line_model.specs.Lines.{Script, refuses}
use Rattle.script_index.specs.declared.index.ScriptIndex.{ScriptIndex}
use Rattle.script_index.specs.declared.place.Place.{Place}
use Rattle.script_index.specs.Places.{value_at}

-- by kind, then by device, then by number
abbrev pub place_cmp : Place → Place → Ordering
place_cmp a b = ordering_then (nat_cmp a.kind b.kind) (ordering_then (nat_cmp a.device b.device) (nat_cmp a.n b.n))

pub record StandsFor (index : ScriptIndex) (script : Script) : Type 0 where
  pub places : (q : Place) → get place_cmp index.places q ≡ value_at q script
  pub refused : (n : ℕ) → get nat_cmp index.refused n ≡ refuses script n
