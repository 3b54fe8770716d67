use Rattle.std.proofs.Common.{◌≡◌, ◌++◌, drop}
use Rattle.std.specs.List.{filter_map}
use Rattle.knx_model.specs.declared.script.ScriptLine.{ScriptLine}
use Rattle.call_parts.specs.Turns.{after_jobs, turns_of, while_jobs}
use Rattle.call_parts.proofs.turns.turns_in.Given as goal

-- the telegrams so far, before those of the lines that are left
abbrev pub invariant-loop-line : goal.invariant-loop-line
invariant-loop-line l = l.turns ++ filter_map (λ (line : ScriptLine). while_jobs line.what) (drop l.line-index l.lines) ≡ filter_map (λ (line : ScriptLine). while_jobs line.what) l.lines

abbrev pub invariant-loop-line-2 : goal.invariant-loop-line-2
invariant-loop-line-2 l = l.turns ++ filter_map (λ (line : ScriptLine). after_jobs line.what) (drop l.line-index l.lines) ≡ turns_of l.lines
