use Rattle.std.proofs.Common.{◌≡◌, ℕ, ◌<◌, None, length, take}
use Rattle.std.specs.Prelude.{slice_index_or}
use Rattle.std.specs.Option.{option_or}
use Rattle.knx_model.specs.Meaning.{first_group}
use Rattle.table_compiler.proofs.links.sending_groups.Given as goal

abbrev pub invariant-loop-line : goal.invariant-loop-line
invariant-loop-line l = record {
  whole : length l.sending ≡ 256;
  each : (n : ℕ) → n < 256 → slice_index_or l.sending n None ≡ option_or (slice_index_or l.sends n None) (first_group (take l.line-index l.lines) n);
}
