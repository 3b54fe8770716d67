-- What a site's list tells, by its items: the hub as it began, the log, whether nothing more is done, and whether a caller has done all that is his: a worker has where
-- each job is taken and he holds none, the group thread has where each telegram is told.
use Rattle.std.specs.Prelude.{◌≡◌, ℕ, Bool, true, false, ◌||◌, List, [], ◌∷◌, reverse, Option, Some, None}
use Rattle.atomic_table.specs.Seated.{TableId}
use Rattle.line_model.specs.declared.log.LogEntry.{LogEntry}
use Rattle.line_model.specs.Log.{Job, TurnUnfinished}
use Rattle.hub_work.specs.Books.{AreJobsOf}
use Rattle.hub_work.specs.Turns as work
use Rattle.hub_core.specs.Seen.{Seen}
use Rattle.shared_hub.specs.declared.item.Item.{Item}
use Rattle.shared_hub.specs.declared.item.Item.TheVariants.{Origin, Told, Ended}

module _ {L W : Type 0} where
  -- the hub as it began
  abbrev pub opening_in : List (Item L W) → Option (Seen L)
  opening_in (Origin hub relay watcher ∷ items) = Some hub.value
  opening_in _ = None

  -- the relay of its feed
  abbrev pub relay_in : List (Item L W) → Option TableId
  relay_in (Origin hub relay watcher ∷ items) = Some relay.value
  relay_in _ = None

  -- who watched as it began
  abbrev pub watcher_in : List (Item L W) → Option W
  watcher_in (Origin hub relay watcher ∷ items) = Some watcher.value
  watcher_in _ = None

  -- the entries of the log, the oldest first
  abbrev pub entries_in : List (Item L W) → List LogEntry
  entries_in [] = []
  entries_in (Told e ∷ items) = e ∷ entries_in items
  entries_in (x ∷ items) = entries_in items

  -- the log as the definitions have it, the newest entry first
  abbrev pub log_in : List (Item L W) → List LogEntry
  log_in items = reverse (entries_in items)

  abbrev pub is_end : Item L W → Bool
  is_end (Ended fault) = true
  is_end _ = false

  -- nothing more is done
  abbrev pub has_ended : List (Item L W) → Bool
  has_ended [] = false
  has_ended (x ∷ items) = is_end x || has_ended items

  -- each job is taken, and the worker holds none
  abbrev pub HasFinished : ℕ → List (Item L W) → Type 0
  HasFinished worker items = (hub : Seen L) → opening_in items ≡ Some hub → (jobs : List Job) → AreJobsOf hub.devices jobs → work.HasFinished worker jobs (log_in items)

  -- each group telegram is told
  abbrev pub HasTold : List (Item L W) → Type 0
  HasTold items = (hub : Seen L) → opening_in items ≡ Some hub → ¬ TurnUnfinished hub.turns (log_in items)

  -- the item is made by this worker, 0 the group thread, or is the end
  abbrev pub IsOf : ℕ → Item L W → Type 0
  IsOf worker (Origin hub relay watcher) = ⊥
  IsOf worker (Told e) = e.worker ≡ worker
  IsOf worker (Ended fault) = Unit {0}
