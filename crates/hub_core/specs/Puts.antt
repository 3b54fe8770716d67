-- What a call that put a request added, where its link tells it: that one request, and nothing else that put, took or lost anything.
use Rattle.std.specs.Prelude.{ℕ, List}
use Rattle.line_model.specs.Record.{Placed}
use Rattle.line_model.specs.LinkStory.{Story}
use Rattle.tunnel_link.specs.Adds.{Growing, PutsIt}

abbrev pub IsOneRequest : List Placed → List Placed → Type 0
IsOneRequest old added = (cemi : List ℕ) × (at : ℕ) × PutsIt cemi at old added

abbrev pub PutsRequest : Story → Story → Type 0
PutsRequest s t = Growing IsOneRequest s t
