use Rattle.std.proofs.Common.{length}
use Rattle.address_text.proofs.Reading.{Reads}
use Rattle.address_text.proofs.read.read_units.Given as goal

abbrev pub invariant-loop-text : goal.invariant-loop-text
invariant-loop-text l = Reads l.octets l.script.units l.script.losses l.number l.rest

abbrev pub decreases-loop-text : goal.decreases-loop-text
decreases-loop-text l = length l.rest
