use Rattle.std.proofs.Common.{◌≡◌, ℕ, ◌<◌, None, length, take}
use Rattle.std.specs.Prelude.{slice_index_or}
use Rattle.std.specs.Option.{option_map}
use Rattle.knx_model.specs.Models.{object_in}
use Rattle.project_check.specs.Knowing.{code_of}
use Rattle.project_check.proofs.models.sizes_of.Given as goal

abbrev pub invariant-loop-object : goal.invariant-loop-object
invariant-loop-object l = record {
  whole : length l.sizes ≡ 256;
  each : (n : ℕ) → n < 256 → slice_index_or l.sizes n None ≡ option_map code_of (object_in (take l.object-index l.objects) n);
}
