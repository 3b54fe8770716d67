use Rattle.std.proofs.Common.{length}
use Rattle.script_text.proofs.Reading.{Reads}
use Rattle.script_text.proofs.read.read_script.Given as goal

abbrev pub invariant-loop-text : goal.invariant-loop-text
invariant-loop-text l = Reads l.octets l.lines l.number l.rest

abbrev pub decreases-loop-text : goal.decreases-loop-text
decreases-loop-text l = length l.rest
