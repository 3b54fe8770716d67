-- The numbers of the program's exit statuses.
use Rattle.std.specs.Prelude.{ℕ}
use Rattle.call_words.specs.declared.status.Status.{Status}
use Rattle.call_words.specs.declared.status.Status.TheVariants as status

-- the exit status of the program
abbrev pub status_number : Status → ℕ
status_number status.Done = 0
status_number status.SomeFailed = 1
status_number status.Usage = 2
status_number status.Project = 3
status_number status.Catalogue = 4
status_number status.Script = 5
status_number status.Read = 6
status_number status.Write = 7
status_number (status.NoMemory want) = 8
status_number status.Link = 9
status_number status.GatewayRefused = 10
status_number status.Flooded = 11
status_number status.WrongLine = 12
status_number status.OpenTurns = 13
status_number status.NothingFound = 14
status_number status.NoUnit = 15
status_number status.Several = 16
status_number status.Taken = 17
status_number status.Unconfirmed = 18
status_number status.TunnelLost = 19
