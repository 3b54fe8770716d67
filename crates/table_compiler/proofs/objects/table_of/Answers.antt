use Rattle.table_compiler.proofs.ObjectLists.{none_yet, one_more, all_tabled}
use Rattle.table_compiler.proofs.objects.table_of.Goals as goal

pub loop-i-init : goal.loop-i-init
loop-i-init c = none_yet c.args.objects.now

pub loop-i-preserved : goal.loop-i-preserved
loop-i-preserved c = one_more c.args.objects.now c.loop-i.table c.loop-i.i c.from.result c.loop-i-test.true c.loop-i.auto.i c.from.ensures c.loop-i-test.element_fits.fits c.loop-i.invariant

pub returns-clause-each : goal.returns-clause-each
returns-clause-each c = all_tabled c.args.objects.now c.loop-i.table c.loop-i.i c.loop-i-test.false c.loop-i.invariant
