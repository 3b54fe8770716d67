use Rattle.std.proofs.Common.{◌≡◌, ℕ, false, map, take, nat_eq}
use Rattle.std.specs.List.{list_any}
use Rattle.std.specs.BTreeSet.{contains}
use Rattle.std.specs.Ordering.{nat_cmp}
use Rattle.knx_model.specs.Models.{number_of}
use Rattle.catalogue.specs.Shapes.{repeats}
use Rattle.catalogue.proofs.repeats.repeats_number.Given as goal

-- the numbers so far are seen, and none of them repeats
abbrev pub invariant-loop-object : goal.invariant-loop-object
invariant-loop-object l = record {
  seen : (n : ℕ) → contains nat_cmp l.seen n ≡ list_any (nat_eq n) (map number_of (take l.object-index l.objects));
  once : repeats nat_eq (map number_of (take l.object-index l.objects)) ≡ false;
}
