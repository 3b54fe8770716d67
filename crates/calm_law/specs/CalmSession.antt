-- A calm run of a line with one job: the device's descriptor is read in a session that goes through, which ends with a T_Disconnect, and then 1 ms passes.
use Rattle.std.specs.Prelude.{List, [], ◌∷◌}
use Rattle.line_model.specs.declared.log.LogEntry.{LogEntry}
use Rattle.line_model.specs.declared.log.LogWhat.TheVariants.{Done}
use Rattle.line_model.specs.Runs.{ack, tunnelled, whole, told_taken}
use Rattle.line_model.specs.World.{Event, Up, Down, Bus, Pass}

-- the newest event first
abbrev pub calm_session : List Event
calm_session = Pass 1 ∷ Up 0 ∷ ack 5 ∷ Down 0 ∷ Down 1 ∷ Bus [] ∷ Up 0 ∷ tunnelled 1 3 (0x81 ∷ []) ∷ whole

-- the end is told once the T_Disconnect is confirmed
abbrev pub told : List LogEntry
told = record { at = 40; worker = 1; what = Done 1 } ∷ told_taken
