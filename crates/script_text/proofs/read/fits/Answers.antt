use Rattle.knx_model.specs.ScriptText.{script_line, script_says}
use Rattle.knx_model.proofs.LeastLine.{too_long}
use Rattle.script_text.proofs.read.fits.Goals as goal

pub returns-then-octets-clause-longer : goal.returns-then-octets-clause-longer
returns-then-octets-clause-longer c = too_long script_line script_says c.args.octets.now c.if-octets.true
