use Rattle.std.proofs.Common.{◌≡◌, ◌*◌, ◌≤◌, take}
use Rattle.std.specs.Prelude.{sum_by}
use Rattle.knx_model.specs.Rules.{count_lines, is_device_line, is_object_line, links_in}
use Rattle.project_check.specs.Counting.{line_objects}
use Rattle.project_check.proofs.counted.totals_of.Given as goal

abbrev pub invariant-loop-statement : goal.invariant-loop-statement
invariant-loop-statement l =
    (l.object_lines ≡ count_lines is_object_line (take l.statement-index l.statements)) × (l.object_lines ≤ l.statement-index)
    × (l.links ≡ sum_by (λ s. links_in s.what) (take l.statement-index l.statements))
    × (l.model_objects ≡ sum_by (λ s. line_objects l.catalogue s.what) (take l.statement-index l.statements))
    × (l.model_objects ≤ 256 * count_lines is_device_line (take l.statement-index l.statements))
