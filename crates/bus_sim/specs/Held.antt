-- What is held of a run beside its start and its events: the script's index, the line, the counts, and what the script calls for before anything
-- else; each is what start and events say.
use Rattle.std.specs.Prelude.{◌≡◌, ◌≢◌, ℕ, ◌^◌, ◌<◌, true, List, length, None}
use Rattle.knx_model.specs.ScriptText.{are_script_lines, first_stranger}
use Rattle.line_model.specs.Owed.{Owed}
use Rattle.line_model.specs.StartOf.{line_of}
use Rattle.line_sim.specs.Line.{LineNow, IsNow}
use Rattle.script_index.specs.declared.index.ScriptIndex.{ScriptIndex}
use Rattle.script_index.specs.Stands.{StandsFor}
use Rattle.bus_sim.specs.declared.beginning.Beginning.{Beginning}
use Rattle.bus_sim.specs.Begun.{CanLoad, addresses}
use Rattle.bus_sim.specs.Counted.{CountsNow, AreCounts}
use Rattle.bus_sim.specs.Numbers.{AreNumbered}
use Rattle.bus_sim.specs.RunNow.{RunNow, world, start, script, owed_in, Keeps}

-- what may be loaded: devices of the tunnel's line, and lines of a script that name none but them
pub record IsLoaded (b : Beginning) : Type 0 where
  pub can : CanLoad b.tunnel b.devices
  pub lines : are_script_lines b.script ≡ true
  pub known : first_stranger (addresses b.devices) b.script ≡ None

pub record IsHeld (r : RunNow) (index : ScriptIndex) (line : LineNow) (counts : CountsNow) (owed : List Owed) : Type 0 where
  pub loaded : IsLoaded r.begun
  pub pictured : IsNow line (world r)
  pub indexed : StandsFor index (script r)
  pub counted : AreCounts counts (start r) r.events
  pub on_line : counts.line ≡ line_of r.begun.tunnel.raw
  pub called : owed ≡ owed_in r
  pub placed : (address : ℕ) → line_of address ≢ counts.line → (world r).devices address ≡ None
  pub few : length r.events < 2 ^ 63
  pub keeps : Keeps r
  pub numbered : AreNumbered r.begun.clients (world r).tunnel
