use Rattle.std.proofs.Common.{Ok, Err}
use Rattle.project_text.proofs.Steps.{whole_read, whole_spelled, numbered}
use Rattle.project_text.proofs.read.read_project.Goals as goal

pub returns-in-Err-clause-read : goal.returns-in-Err-clause-read
returns-in-Err-clause-read c = whole_read _ c.args.octets.now (Err c.in-Err.refused) c.in_ok-fits.ensures.fits c.grammar_of-grammar.ensures c.in-Err.ensures

pub returns-in-Ok-clause-read : goal.returns-in-Ok-clause-read
returns-in-Ok-clause-read c = whole_read _ c.args.octets.now (Ok c.in-Ok.statements) c.in_ok-fits.ensures.fits c.grammar_of-grammar.ensures c.in-Ok.ensures

pub invariant_of-result : goal.invariant_of-result
invariant_of-result c = record {
  spelled = whole_spelled _ c.args.octets.now c.in-Ok.statements c.in_ok-fits.ensures.fits c.grammar_of-grammar.ensures c.in-Ok.ensures;
  numbered = numbered _ c.args.octets.now c.in-Ok.statements c.in_ok-fits.ensures.fits c.in-Ok.ensures.read;
}
