-- The objects of the models that `device` lines name.
use Rattle.std.specs.Prelude.{ℕ, List, length}
use Rattle.knx_model.specs.declared.catalogue.model.NamedModel.{NamedModel}
use Rattle.knx_model.specs.declared.project.What.{What}
use Rattle.knx_model.specs.declared.project.What.TheVariants.{Device}
use Rattle.knx_model.specs.Meaning.{or_inline}
use Rattle.knx_model.specs.Models.{model_named}

-- the number of objects of the model of a name
abbrev pub named_objects : List NamedModel → List ℕ → ℕ
named_objects catalogue name = length (or_inline (model_named catalogue name)).objects

-- the same of the model that a `device` line names
abbrev pub line_objects : List NamedModel → What → ℕ
line_objects catalogue (Device device model) = named_objects catalogue model
line_objects catalogue _ = 0
