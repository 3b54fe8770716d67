-- A line on which nothing has happened is a new link, whosever its run is.
use Rattle.std.proofs.Common.{◌≡◌, List, []}
use Rattle.line_model.specs.Fresh.{IsFresh}
use Rattle.line_model.specs.LinkStory.{IsNewLink}
use Rattle.line_model.specs.World.{World, Event}
use Rattle.bus_sim.specs.declared.clients.Clients.{Clients}
use Rattle.bus_sim.specs.declared.clients.Clients.TheVariants.{One, Any}
use Rattle.bus_sim.specs.Loaded.{BusNow}
use Rattle.bus_sim.specs.RunNow.{start, story, story_of}

new_story : (clients : Clients) (start : World) (events : List Event) → events ≡ [] → IsFresh start → IsNewLink (story_of clients start events)
new_story One start events nothing fresh = (nothing, fresh)
new_story Any start events nothing fresh = tt

pub new_line : (line : BusNow) → line.run.events ≡ [] → IsFresh (start line.run) → IsNewLink (story line.run)
new_line line nothing fresh = new_story line.run.begun.clients (start line.run) line.run.events nothing fresh
