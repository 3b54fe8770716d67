use Rattle.std.specs.Str.Lines.{lines}
use Rattle.knx_model.proofs.LeastLine.{least, none}
use Rattle.address_text.specs.UnitText.{units_say}
use Rattle.address_text.proofs.laws.least_line.Goals as goal

pub returns-clause-least : goal.returns-clause-least
returns-clause-least c octets = least (units_say (lines octets)) octets

pub returns-clause-none : goal.returns-clause-none
returns-clause-none c octets = none (units_say (lines octets)) octets
