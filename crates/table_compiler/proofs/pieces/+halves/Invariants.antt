use Rattle.std.proofs.Common.{◌+◌, ◌*◌, length}
use Rattle.table_compiler.proofs.pieces.+halves.Given as goal

abbrev pub decreases-images_in_halves : goal.decreases-images_in_halves
decreases-images_in_halves g l = 2 * length l.devices.now

abbrev pub decreases-join+arg2 : goal.decreases-join+arg2
decreases-join+arg2 g l = 2 * length l.front.now + 1

abbrev pub decreases-join+arg3 : goal.decreases-join+arg3
decreases-join+arg3 g l = 2 * length l.back.now + 1
