use Rattle.call_parts.specs.Project.{installation_of}
use Rattle.knx_top.proofs.Calls.Migrates.{told_of}
use Rattle.knx_top.proofs.commands.migrate.told.Goals as goal

pub returns : goal.returns
returns g c = told_of _ (installation_of c.in_ok-read.read) _ _ c.in_ok-read.ensures c.in_ok-sound_in.ensures (c.in_ok-text.ensures c.in_ok-read.read.models)
