-- The settings that the lines of a device make: each field of its model whose name has a `param` line, with the value of the last.
use Rattle.std.specs.Prelude.{◌≡◌, ℕ, List, Option}
use Rattle.std.specs.Ordering.{nat_cmp}
use Rattle.std.specs.Option.{option_map}
use Rattle.std.specs.List.{filter_map}
use Rattle.std.specs.Borrow.{Bor}
use Rattle.std.specs.BTreeMap.{BTreeMap, get_by}
use Rattle.std.specs.Cmp.Lexicographic.{slice_cmp}
use Rattle.knx_model.specs.declared.address.IndAddr.{IndAddr}
use Rattle.knx_model.specs.declared.catalogue.model.Model.{Model}
use Rattle.knx_model.specs.declared.catalogue.model.ModelField.{ModelField}
use Rattle.knx_model.specs.declared.config.ParamValue.{ParamValue}
use Rattle.knx_model.specs.declared.project.Statement.{Statement}
use Rattle.knx_model.specs.Meaning.{last_value}

abbrev pub valued : ModelField → ℕ → ParamValue
valued f value = record { bit = f.bit; width = f.width; value = value }

abbrev pub setting : IndAddr → List Statement → ModelField → Option ParamValue
setting device ss f = option_map (valued f) (last_value device ss f.name)

abbrev pub settings : Model → IndAddr → List Statement → List ParamValue
settings m device ss = filter_map (setting device ss) m.parameters

-- the value that is kept under a name
abbrev pub value_in : BTreeMap (Bor (List ℕ)) ℕ → List ℕ → Option ℕ
value_in values name = get_by (λ k. slice_cmp nat_cmp name k.now) values

-- the value of the last `param` line of each name
abbrev pub HoldsValues : BTreeMap (Bor (List ℕ)) ℕ → IndAddr → List Statement → Type 0
HoldsValues values device ss = (name : List ℕ) → value_in values name ≡ last_value device ss name
