use Rattle.address_text.proofs.Reading.{longer}
use Rattle.address_text.proofs.read.fits.Goals as goal

pub returns-then-octets-clause-longer : goal.returns-then-octets-clause-longer
returns-then-octets-clause-longer c = longer c.args.octets.now c.if-octets.true
