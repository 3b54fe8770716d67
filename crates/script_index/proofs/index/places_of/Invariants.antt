use Rattle.std.proofs.Common.{◌≡◌, ◌≤◌, length, drop}
use Rattle.std.specs.BTreeMap.{get}
use Rattle.line_model.specs.Lines.{script_of}
use Rattle.script_index.specs.declared.place.Place.{Place}
use Rattle.script_index.specs.Places.{value_at}
use Rattle.script_index.specs.Stands.{place_cmp}
use Rattle.script_index.proofs.index.places_of.Given as goal

-- the places of the lines from this one on
abbrev pub invariant-loop-at : goal.invariant-loop-at
invariant-loop-at l = record {
  within : l.at ≤ length l.lines;
  said : (q : Place) → get place_cmp l.places q ≡ value_at q (script_of (drop l.at l.lines));
}

abbrev pub decreases-loop-at : goal.decreases-loop-at
decreases-loop-at l = l.at
