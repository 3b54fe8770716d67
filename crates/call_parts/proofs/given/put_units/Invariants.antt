use Rattle.std.proofs.Common.{◌≡◌, ◌+◌, ◌++◌, drop}
use Rattle.std.specs.List.{flat_map, enumerate_from}
use Rattle.call_parts.specs.Given.{unit_line, unit_lines}
use Rattle.call_parts.proofs.given.put_units.Given as goal

-- the lines so far and those of the units that are left are all lines
abbrev pub invariant-loop-place : goal.invariant-loop-place
invariant-loop-place l = l.out ++ flat_map (λ p. unit_line p.0 p.1) (enumerate_from (l.place + 1) (drop l.place l.units)) ≡ l.fn.out ++ unit_lines l.units
