use Rattle.std.proofs.Common.{◌≡◌, ℕ, List, false, map, take, bytes_eq, nat_cmp}
use Rattle.std.specs.List.{list_any}
use Rattle.std.specs.BTreeSet.{contains_by}
use Rattle.std.specs.Cmp.Lexicographic.{slice_cmp}
use Rattle.catalogue.specs.Shapes.{repeats, stated_name}
use Rattle.catalogue.proofs.repeats.repeats_name.Given as goal

-- the names so far are seen, and none of them repeats
abbrev pub invariant-loop-parameter : goal.invariant-loop-parameter
invariant-loop-parameter l = record {
  seen : (name : List ℕ) → contains_by (λ k. slice_cmp nat_cmp name k.now) l.seen ≡ list_any (bytes_eq name) (map stated_name (take l.parameter-index l.parameters));
  once : repeats bytes_eq (map stated_name (take l.parameter-index l.parameters)) ≡ false;
}
