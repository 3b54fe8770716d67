-- A site: what contracts see of it, its list, and what its type keeps: all that holds of a hub between any two calls, whoever made them.
use Rattle.std.specs.Prelude.{◌≡◌, List, [], ◌∷◌, ◌++◌, length, map, reverse, Option, Some, None}
use Rattle.std.specs.declared.snapshot.Snapshot.{Snapshot}
use Rattle.atomic_table.specs.Seated.{TableId}
use Rattle.line_model.specs.declared.fault.HubFault.{HubFault}
use Rattle.line_model.specs.declared.outside.fault_counts.FaultCounts.{FaultCounts}
use Rattle.line_model.specs.Lines.{Script}
use Rattle.line_model.specs.LinkStory.{Story, IsNewLink, record_in}
use Rattle.hub_core.specs.Heard.{HeardIn}
use Rattle.hub_core.specs.Seats.{IsOfWorkers}
use Rattle.hub_core.specs.Seen.{Seen}
use Rattle.telegram_router.specs.Ends.{Feeding}
use Rattle.shared_hub.specs.declared.item.Item.{Item}
use Rattle.shared_hub.specs.declared.item.Item.TheVariants.{Origin, Told, Ended}
use Rattle.shared_hub.specs.Leaving.{GoesThrough}
use Rattle.shared_hub.specs.Relays.{GoesOnFrom}
use Rattle.shared_hub.specs.Watchers.{WatcherSeen}

-- the hub, the feed into which all goes that is heard, who watches, the hub as it began, the relay of the feed, and who watched as it began
pub record SiteSeen (L W : Type 0) : Type 0 where
  pub hub : Seen L
  pub feed : Feeding
  pub watching : WatcherSeen
  pub opening : Snapshot (Seen L)
  pub relay : Snapshot TableId
  pub watched : Snapshot W

-- ---- its list: the hub as it began, the relay and who watched then, the entries of the log, the oldest first, and at last why it has ended

abbrev pub ended : {L W : Type 0} → Option HubFault → List (Item L W)
ended None = []
ended (Some why) = Ended why ∷ []

abbrev pub items_of : {L W : Type 0} → SiteSeen L W → List (Item L W)
items_of s = Origin s.opening s.relay s.watched ∷ map Told (reverse s.hub.log) ++ ended s.hub.fault

-- ---- a hub that begins: nothing was done on its link

pub record IsOpening {L : Type 0} (story_of : L → Story) (hub : Seen L) : Type 0 where
  pub link : IsNewLink (story_of hub.link)
  pub log : hub.log ≡ []
  pub fault : hub.fault ≡ None
  pub closing : hub.closing ≡ None
  pub missed : hub.missed ≡ 0

-- ---- what is kept

pub record SiteKeeps {L : Type 0} (story_of : L → Story) (script_of : L → Script) (faults_of : L → FaultCounts) (hub opening : Seen L) (feed : Feeding) (relay : TableId) : Type 0 where
  -- the hub goes on since it began
  pub since : GoesOnFrom story_of script_of faults_of opening hub
  pub begun : opening.fault ≡ None
  -- it doesn't ask the open channel to end, and once all is over nothing came since
  pub through : GoesThrough hub (story_of hub.link)
  -- each entry is of one of its workers, or of the group thread
  pub seats : IsOfWorkers (length opening.crew) hub.log
  -- all that was heard was put into the relay, or is counted as missed
  pub of : feed.router ≡ relay
  pub hears : HeardIn hub.fault hub.missed feed.put (record_in (story_of hub.link))
