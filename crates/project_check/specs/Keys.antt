-- The keys and values of maps, in the words of the rules.
use Rattle.std.specs.Prelude.{ℕ, Bool, false, ◌&&◌, ◌||◌, nat_lt, bytes_eq, List, Option, Some, None}
use Rattle.std.specs.Borrow.{Bor}
use Rattle.std.specs.Bool.{nat_eq}
use Rattle.knx_model.specs.declared.catalogue.model.ModelField.{ModelField}
use Rattle.knx_model.specs.declared.project.What.{What}
use Rattle.knx_model.specs.declared.project.What.TheVariants.{Device}
use Rattle.project_check.specs.declared.group_object.GroupObject.{GroupObject}
use Rattle.project_check.specs.declared.models.Range.{Range}
use Rattle.project_check.specs.declared.models.ModelIndex.{ModelIndex}

abbrev pub object_eq : GroupObject → GroupObject → Bool
object_eq a b = nat_eq a.device b.device && nat_eq a.number b.number

abbrev pub range_of : ModelField → Range
range_of f = record { min = f.min; max = f.max }

-- what a borrowed index points to
abbrev pub index_of : Bor ModelIndex → ModelIndex
index_of index = index.now

-- a `device` line names the model
abbrev pub names_model : List ℕ → What → Bool
names_model name (Device device model) = bytes_eq model name
names_model name _ = false

-- a value is below the least or above the greatest of a range that is known
abbrev pub is_outside : Option Range → ℕ → Bool
is_outside None value = false
is_outside (Some range) value = nat_lt value range.min || nat_lt range.max value
