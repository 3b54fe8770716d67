use Rattle.std.proofs.Common.{◌≡◌, take}
use Rattle.bus_sim.proofs.beginning.lines_of.Given as goal

abbrev pub invariant-loop-line : goal.invariant-loop-line
invariant-loop-line l = l.made ≡ take l.line-index l.lines
