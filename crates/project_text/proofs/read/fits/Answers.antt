use Rattle.knx_model.specs.Statements.{grammar_of, statement, project_says}
use Rattle.knx_model.proofs.LeastLine.{too_long}
use Rattle.project_text.proofs.read.fits.Goals as goal

pub returns-then-octets-clause-longer : goal.returns-then-octets-clause-longer
returns-then-octets-clause-longer c = too_long statement (project_says (grammar_of c.args.octets.now)) c.args.octets.now c.if-octets.true
