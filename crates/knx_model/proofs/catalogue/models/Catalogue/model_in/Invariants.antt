use Rattle.std.proofs.Common.{◌≡◌, drop}
use Rattle.knx_model.specs.Models.{in_catalogue}
use Rattle.knx_model.proofs.catalogue.models.Catalogue.model_in.Given as goal

-- the model of the name is that of the models that are left
abbrev pub invariant-loop-named : goal.invariant-loop-named
invariant-loop-named l = in_catalogue (drop l.named-index l.models) l.name ≡ in_catalogue l.models l.name
