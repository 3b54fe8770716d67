-- What it means that a document is refused for its first fault, and that it has none. A document lists its models, those of a catalogue
-- ascending by the octets of their names, and a model lists its parameters. A document is refused for the first of its models that isn't as it must be; that
-- model for its shape, or else for its first parameter that is out of its ranges or shares a bit with one before it.
use Rattle.std.specs.Prelude.{◌≡◌, ◌≢◌, ◌⊎◌, ℕ, true, false, List, [], ◌∷◌, ◌++◌, map, codes, Some, None}
use Rattle.std.specs.Cmp.Lexicographic.{slice_cmp}
use Rattle.std.specs.List.{Any}
use Rattle.std.specs.List.Sorted.{IsStrictlySortedBy}
use Rattle.std.specs.Ordering.{nat_cmp}
use Rattle.knx_model.specs.declared.catalogue.model.ModelField.{ModelField}
use Rattle.knx_model.specs.declared.catalogue.model.NamedModel.{NamedModel}
use Rattle.knx_model.specs.declared.catalogue.refused.CatRefused.{CatRefused}
use Rattle.knx_model.specs.declared.catalogue.refused.CatRefused.TheVariants.{Shape, Overlap, Range}
use Rattle.knx_model.specs.Models.{AllApart}
use Rattle.knx_model.specs.Numbers.{is_name}
use Rattle.toml.specs.Data.{Data, Members, no_members, member}
use Rattle.catalogue.specs.declared.stated.StatedField.{StatedField}
use Rattle.catalogue.specs.declared.stated.StatedModel.{StatedModel}
use Rattle.catalogue.specs.Catalogue.{field_of, document_of}
use Rattle.catalogue.specs.Shapes.{model_of}
use Rattle.catalogue.specs.Taken.{has_bit}

-- ---- parameters

-- a bit is of both
abbrev pub SharesBit : ModelField → ModelField → Type 0
SharesBit f g = (b : ℕ) × (has_bit b f ≡ true) × (has_bit b g ≡ true)

-- parameters that are all in their ranges, of which no two share a bit, and the field of each
pub record AreSound (params : ℕ) (parameters : List StatedField) (fields : List ModelField) : Type 0 where
  pub ranges : map (field_of params) parameters ≡ map Some fields
  pub apart : AllApart fields

-- a parameter's numbers aren't in their ranges
pub record IsOutOfRange (model : List ℕ) (params : ℕ) (parameter : StatedField) (why : CatRefused) : Type 0 where
  pub numbers : field_of params parameter ≡ None
  pub told : why ≡ Range model parameter.name

-- a parameter in its ranges shares a bit with a field before it
pub record IsOverlapping (model : List ℕ) (params : ℕ) (earlier : List ModelField) (parameter : StatedField) (why : CatRefused) : Type 0 where
  pub field : ModelField
  pub in_range : field_of params parameter ≡ Some field
  pub shared : Any (SharesBit field) earlier
  pub told : why ≡ Overlap model parameter.name

-- the first parameter at fault: those before it are sound
pub record IsFirstAtFault (model : List ℕ) (params : ℕ) (parameters : List StatedField) (why : CatRefused) : Type 0 where
  pub earlier : List StatedField
  pub parameter : StatedField
  pub later : List StatedField
  pub order : parameters ≡ earlier ++ parameter ∷ later
  pub fields : List ModelField
  pub sound : AreSound params earlier fields
  pub fault : IsOutOfRange model params parameter why ⊎ IsOverlapping model params fields parameter why

-- ---- models

-- what stands under a name, which isn't `inline`, has the shape of a model
pub record IsShaped (name : List ℕ) (value : Data) (stated : StatedModel) : Type 0 where
  pub named : is_name name ≡ true
  pub not_inline : name ≢ codes "inline"
  pub states : model_of value ≡ Some stated

-- the model that stands under a name, which breaks no rule
pub record IsModelOf (name : List ℕ) (value : Data) (m : NamedModel) : Type 0 where
  pub stated : StatedModel
  pub shape : IsShaped name value stated
  pub sound : AreSound stated.params stated.parameters m.model.parameters
  pub name_is : m.name ≡ name
  pub params : m.model.params ≡ stated.params
  pub objects : m.model.objects ≡ stated.objects

-- a model isn't of the shape of one
pub record IsMisshapen (name : List ℕ) (value : Data) (why : CatRefused) : Type 0 where
  pub fault : ((is_name name ≡ false) ⊎ (name ≡ codes "inline")) ⊎ (model_of value ≡ None)
  pub told : why ≡ Shape name

-- a model of the shape of one has a parameter at fault
pub record HasFault (name : List ℕ) (value : Data) (why : CatRefused) : Type 0 where
  pub stated : StatedModel
  pub shape : IsShaped name value stated
  pub first : IsFirstAtFault name stated.params stated.parameters why

-- ---- documents

-- the names of a document in its order, each with what stands under it
abbrev pub entries : Members → List (List ℕ × Data)
entries no_members = []
entries (member name value more) = (name, value) ∷ entries more

-- the names ascend by their octets, each above the one before
abbrev pub NamesAscend : Members → Type 0
NamesAscend ms = IsStrictlySortedBy (slice_cmp nat_cmp) (map (λ e. e.0) (entries ms))

-- so do those of the document that octets are, where they are one
abbrev pub ListsAscending : List ℕ → Type 0
ListsAscending octets = (ms : Members) → document_of octets ≡ Some ms → NamesAscend ms

-- what stands under each name is a model that breaks no rule, and these are the models in the same order
abbrev pub AreModelsOf : List (List ℕ × Data) → List NamedModel → Type 0
AreModelsOf [] [] = Unit {0}
AreModelsOf (e ∷ es) (m ∷ ms) = IsModelOf e.0 e.1 m × AreModelsOf es ms
AreModelsOf _ _ = ⊥

-- the first name under which no such model stands: under those before it stand models that break no rule
pub record IsFirstRefused (all : List (List ℕ × Data)) (why : CatRefused) : Type 0 where
  pub earlier : List (List ℕ × Data)
  pub name : List ℕ
  pub value : Data
  pub later : List (List ℕ × Data)
  pub order : all ≡ earlier ++ (name, value) ∷ later
  pub models : List NamedModel
  pub sound : AreModelsOf earlier models
  pub refused : IsMisshapen name value why ⊎ HasFault name value why
