use Rattle.std.proofs.Common.{◌≡◌, drop, map, string_bytes}
use Rattle.call_parts.specs.Fronts.{read_all}
use Rattle.call_parts.proofs.options.project_options.Given as goal
use Rattle.call_parts.specs.Options.{project_rows, project_options}

-- what the words so far say, before what the words that are left add to it
abbrev pub invariant-loop-word : goal.invariant-loop-word
invariant-loop-word l = read_all project_rows (map string_bytes (drop l.word-index l.words)) l.options ≡ project_options (map string_bytes l.words)
