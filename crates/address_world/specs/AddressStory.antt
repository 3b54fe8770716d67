-- What a link tells of the world of individual addresses: nothing, or its start and its events, the newest first. Where it tells them, its start is
-- fresh, the events are legal, and the record that it tells as a link is the one that is read off them.
use Rattle.std.specs.Prelude.{◌≡◌, List}
use Rattle.line_model.specs.LinkStory.{Story, Recorded, Exact}
use Rattle.line_model.specs.Record.{Entry, tunnel_record}
use Rattle.address_world.specs.AddressWorld.{AddressWorld, AddressEvent, tunnel_events}
use Rattle.address_world.specs.AddressLegal.{IsFresh, IsLegal}

pub data AddressStory : Type 0 where
  Untold : AddressStory
  Told : AddressWorld → List AddressEvent → AddressStory

abbrev pub record_of : AddressWorld → List AddressEvent → List Entry
record_of start events = tunnel_record start.tunnel (tunnel_events start events)

pub record TellsTruly (start : AddressWorld) (events : List AddressEvent) (story : Story) : Type 0 where
  pub fresh : IsFresh start
  pub legal : IsLegal start events
  pub recorded : story ≡ Recorded Exact (record_of start events)

abbrev pub Agrees : AddressStory → Story → Type 0
Agrees Untold story = Unit {0}
Agrees (Told start events) story = TellsTruly start events story
