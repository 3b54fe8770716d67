use Rattle.std.proofs.Common.{◌≡◌, ◌+◌, ◌++◌, length}
use Rattle.std.specs.Vec.Iter.{into_iter_items}
use Rattle.knx_gen.specs.Generated.{numbered_from}
use Rattle.knx_gen.proofs.project.numbered.Given as goal

-- the statements so far, and those of the lines that are left
abbrev pub invariant-loop-what : goal.invariant-loop-what
invariant-loop-what l = record {
  statements : l.statements ++ numbered_from (l.line + 1) (into_iter_items l.what-iterator) ≡ numbered_from 1 l.fn.lines;
  lines : l.line + length (into_iter_items l.what-iterator) ≡ length l.fn.lines;
}
