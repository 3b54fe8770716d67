-- A table's names ascend, since its map keeps its keys in order.
use Rattle.std.proofs.Common.{◌≡◌, List, [], ◌∷◌, map, String, Global, Less, string_bytes}
use Rattle.std.specs.Map.{keys_of}
use Rattle.std.specs.Cmp.Lexicographic.{slice_cmp}
use Rattle.std.specs.List.{AllByRecursion}
use Rattle.std.specs.List.Sorted.{IsStrictlySortedBy}
use Rattle.std.specs.Ordering.{nat_cmp}
use Rattle.std.specs.String.{string_cmp}
use Rattle.toml.specs.View.{members_view}
use Rattle.toml.specs.declared.value.Value.{Value}
use Rattle.catalogue.specs.FirstRefusal.{entries, NamesAscend}

abbrev Entry : Type 0
Entry = String Global × Value

all_above : (k : String Global) (es : List Entry) → AllByRecursion (λ y. string_cmp k y ≡ Less) (keys_of es) → AllByRecursion (λ y. slice_cmp nat_cmp (string_bytes k) y ≡ Less) (map (λ e. e.0) (entries (members_view es)))
all_above k [] h = tt
all_above k (e ∷ es) h = (h.0, all_above k es h.1)

pub names_ascend : (es : List Entry) → IsStrictlySortedBy string_cmp (keys_of es) → NamesAscend (members_view es)
unfolding IsStrictlySortedBy
names_ascend [] h = tt
names_ascend (e ∷ es) h = (all_above e.0 es h.0, names_ascend es h.1)
