use Rattle.std.proofs.Common.{◌≡◌, ℕ, List, take}
use Rattle.std.specs.Prelude.{bytes_eq}
use Rattle.std.specs.Option.{option_map}
use Rattle.std.specs.HashMap.{get_by}
use Rattle.knx_model.specs.Models.{field_in}
use Rattle.project_check.specs.Keys.{range_of}
use Rattle.project_check.proofs.models.ranges_of.Given as goal

abbrev pub invariant-loop-field : goal.invariant-loop-field
invariant-loop-field l = (name : List ℕ) → get_by (λ key. bytes_eq name key.now) l.ranges ≡ option_map range_of (field_in (take l.field-index l.parameters) name)
