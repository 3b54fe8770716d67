-- What the rules ask of a model, in the words of what is known of it.
use Rattle.std.proofs.Common.{◌≡◌, ℕ, Bool, ◌&&◌, not, List, Option, Some, None, refl, ap, ◌∙◌}
use Rattle.std.specs.Prelude.{is_some, is_none}
use Rattle.std.specs.Option.{option_map}
use Rattle.knx_model.specs.declared.catalogue.model.Model.{Model}
use Rattle.knx_model.specs.declared.catalogue.model.ModelField.{ModelField}
use Rattle.knx_model.specs.declared.catalogue.model.ModelObject.{ModelObject}
use Rattle.knx_model.specs.declared.catalogue.model.NamedModel.{NamedModel}
use Rattle.knx_model.specs.declared.project.Statement.{Statement}
use Rattle.knx_model.specs.Models.{has_object, has_field, object_in, field_in}
use Rattle.knx_model.specs.Rules.{some_line, first_some, declares_object, size_in, size_of, model_of, size_of_object, size_in_model, or_else, asked_of, is_no_object, is_out_of}
use Rattle.project_check.specs.Keys.{range_of, is_outside}
use Rattle.project_check.specs.Knowing.{range_in}
use Rattle.project_check.proofs.Named.{none_not}
use Rattle.project_check.proofs.Steps.{sized}

sized_object : (o : Option ModelObject) → is_some (size_of_object o) ≡ is_some o
sized_object None = refl
sized_object (Some o) = refl

-- a model has an object just where it has a size of it
pub has_sized : (m : Model) (n : ℕ) → is_some (size_in_model (Some m) n) ≡ has_object m n
has_sized m n = sized_object (object_in m.objects n)

missing_in : (o : Option ModelObject) (line : Option ℕ) (b : Bool) → is_some line ≡ b → is_none (or_else (size_of_object o) line) ≡ (not (is_some o) && not b)
missing_in None line b e = none_not line ∙ ap not e
missing_in (Some o) line b e = refl

missing_of : (o : Option Model) (d n : ℕ) (ss : List Statement) → (is_some o && is_none (or_else (size_in_model o n) (first_some (size_in d n) ss))) ≡ asked_of o (is_no_object ss d n)
missing_of None d n ss = refl
missing_of (Some m) d n ss = missing_in (object_in m.objects n) (first_some (size_in d n) ss) (some_line (declares_object d n) ss) (sized d n ss)

-- an object is missing where its device's model is known, and it has no size
pub missing : (catalogue : List NamedModel) (ss : List Statement) (d n : ℕ) → (is_some (model_of catalogue ss d) && is_none (size_of catalogue ss d n)) ≡ asked_of (model_of catalogue ss d) (is_no_object ss d n)
missing catalogue ss d n = missing_of (model_of catalogue ss d) d n ss

unknown_field : (f : Option ModelField) → is_none (option_map range_of f) ≡ not (is_some f)
unknown_field None = refl
unknown_field (Some f) = refl

pub unknown_of : (o : Option Model) (name : List ℕ) → (is_some o && is_none (range_in o name)) ≡ asked_of o (λ m. not (has_field m name))
unknown_of None name = refl
unknown_of (Some m) name = unknown_field (field_in m.parameters name)

outside_field : (f : Option ModelField) (value : ℕ) → is_outside (option_map range_of f) value ≡ is_out_of f value
outside_field None value = refl
outside_field (Some f) value = refl

pub outside_of : (o : Option Model) (name : List ℕ) (value : ℕ) → is_outside (range_in o name) value ≡ asked_of o (λ m. is_out_of (field_in m.parameters name) value)
outside_of None name value = refl
outside_of (Some m) name value = outside_field (field_in m.parameters name) value
