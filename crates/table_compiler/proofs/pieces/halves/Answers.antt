use Rattle.std.proofs.Common.{◌/◌, length, sym}
use Rattle.std.proofs.lemmas.List.{take-append-drop}
use Rattle.table_compiler.proofs.Zipped.{front_ascends, back_ascends}
use Rattle.table_compiler.proofs.pieces.halves.Goals as goal

pub returns-clause-all : goal.returns-clause-all
returns-clause-all c = rw (c.split_at.ensures.front, c.split_at.ensures.back) (sym (take-append-drop (length c.args.devices.now / 2) c.args.devices.now))

pub returns-clause-front_ascends : goal.returns-clause-front_ascends
returns-clause-front_ascends c = rw c.split_at.ensures.front (front_ascends (length c.args.devices.now / 2) c.args.devices.now c.requires.ascending)

pub returns-clause-back_ascends : goal.returns-clause-back_ascends
returns-clause-back_ascends c = rw c.split_at.ensures.back (back_ascends (length c.args.devices.now / 2) c.args.devices.now c.requires.ascending)
