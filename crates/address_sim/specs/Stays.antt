-- What stays of the simulated bus while it is driven, all that it began with, in the lines of a line's script, for these are what a link says that stays:
-- the tunnel's address first; then each unit, one in programming mode by another line than one that isn't; then what is lost.
use Rattle.std.specs.Prelude.{◌∷◌, ◌++◌, map, if◌then◌else◌}
use Rattle.knx_model.specs.declared.script.ScriptWhat.{ScriptWhat}
use Rattle.knx_model.specs.declared.script.ScriptWhat.TheVariants.{LoseTo, LoseFrom, Off, Standard}
use Rattle.line_model.specs.Lines.{Script}
use Rattle.address_world.specs.declared.unit.Unit.{Unit as BusUnit}
use Rattle.address_world.specs.declared.unit.UnitLoss.{UnitLoss}
use Rattle.address_sim.specs.Told.{Begun}

abbrev pub unit_line : BusUnit → ScriptWhat
unit_line u = if u.prog then Standard u.address else Off u.address

abbrev pub loss_line : UnitLoss → ScriptWhat
loss_line l = if l.answer then LoseFrom (record { raw = l.unit }) l.n else LoseTo (record { raw = l.unit }) l.n

abbrev pub lines_of : Begun → Script
lines_of b = Off b.tunnel ∷ (map unit_line b.units ++ map loss_line b.losses)
