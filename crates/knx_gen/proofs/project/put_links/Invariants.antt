use Rattle.std.proofs.Common.{◌≡◌, ◌++◌}
use Rattle.knx_gen.specs.Generated.{link_lines}
use Rattle.knx_gen.proofs.project.put_links.Given as goal

-- the links so far
abbrev pub invariant-loop-more : goal.invariant-loop-more
invariant-loop-more l = l.lines ≡ l.fn.lines ++ link_lines l.device l.object l.first l.more
