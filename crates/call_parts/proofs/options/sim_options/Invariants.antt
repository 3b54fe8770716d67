use Rattle.std.proofs.Common.{◌≡◌, drop, map, string_bytes}
use Rattle.call_parts.specs.Fronts.{read_all}
use Rattle.call_parts.proofs.options.sim_options.Given as goal
use Rattle.call_parts.specs.Options.{run_rows, sim_options}

-- what the words so far say, before what the words that are left add to it
abbrev pub invariant-loop-word : goal.invariant-loop-word
invariant-loop-word l = read_all run_rows (map string_bytes (drop l.word-index l.words)) l.options ≡ sim_options (map string_bytes l.words)
