-- What a turn at a site adds to its list, by what it came to: at most one item, which is an entry of the log that is the caller's, or the end.
use Rattle.std.specs.Prelude.{◌≡◌, ◌⊎◌, ℕ, true, List, [], ◌∷◌, ◌++◌, None}
use Rattle.line_model.specs.declared.fault.HubFault.{HubFault}
use Rattle.line_model.specs.declared.log.LogEntry.{LogEntry}
use Rattle.line_model.specs.declared.log.LogWhat.TheVariants as log
use Rattle.hub_core.specs.declared.answers.GroupDid.{GroupDid}
use Rattle.hub_core.specs.declared.answers.GroupDid.TheVariants as did
use Rattle.hub_work.specs.declared.answers.Turned.{Turned}
use Rattle.hub_work.specs.declared.answers.Turned.TheVariants as answer
use Rattle.hub_core.specs.Left.{IsLeft}
use Rattle.hub_core.specs.Seen.{Seen}
use Rattle.shared_hub.specs.declared.item.Item.{Item}
use Rattle.shared_hub.specs.declared.item.Item.TheVariants.{Told, Ended}
use Rattle.shared_hub.specs.declared.site.Step.{Step}
use Rattle.shared_hub.specs.declared.site.Step.TheVariants.{Took, Moved, Waits, Ready, Failed}
use Rattle.shared_hub.specs.declared.site.Step.TheVariants as step
use Rattle.shared_hub.specs.Items.{has_ended}

module _ {L W : Type 0} where
  -- it has ended, in this turn or before
  abbrev pub HasFailed : List (Item L W) → List (Item L W) → Type 0
  HasFailed old new = ((new ≡ old) ⊎ ((fault : HubFault) × (new ≡ old ++ Ended fault ∷ []))) × (has_ended new ≡ true)

  -- the turn of a worker, 0 the group thread, who has done all that is his where the list is so
  abbrev pub Steps : (List (Item L W) → Type 0) → ℕ → List (Item L W) → List (Item L W) → Step → Type 0
  Steps is_through worker old new (Took job) = (at : ℕ) × (new ≡ old ++ Told (record { at = at; worker = worker; what = log.Took job }) ∷ [])
  Steps is_through worker old new step.Told = (e : LogEntry) × (e.worker ≡ worker) × (new ≡ old ++ Told e ∷ [])
  Steps is_through worker old new Moved = new ≡ old
  Steps is_through worker old new Waits = new ≡ old
  Steps is_through worker old new Ready = (new ≡ old) × is_through old
  Steps is_through worker old new Failed = HasFailed old new

  -- a poll: it adds no entry to the log
  abbrev pub Polls : List (Item L W) → List (Item L W) → Step → Type 0
  Polls old new Moved = new ≡ old
  Polls old new Waits = new ≡ old
  Polls old new Failed = HasFailed old new
  Polls old new _ = ⊥

  -- what a call came to and, where it could do nothing, at most a poll
  abbrev pub OrPolls : Step → List (Item L W) → List (Item L W) → Step → Type 0
  OrPolls Waits old new result = Polls old new result
  OrPolls came old new result = (new ≡ old) × (result ≡ came)

-- ---- whether the hub goes on

-- it has no fault, and something is left for it
abbrev pub IsOn : {L : Type 0} → Seen L → Type 0
IsOn hub = (hub.fault ≡ None) × IsLeft hub

-- after a call that told no entry and not the end
abbrev pub GoesOn : {L : Type 0} → Step → Seen L → Type 0
GoesOn Moved hub = IsOn hub
GoesOn Waits hub = IsOn hub
GoesOn _ hub = Unit {0}

-- ---- what an answer of the hub is to its caller

abbrev pub step_of : Turned → Step
step_of (answer.Took job) = Took job
step_of answer.Moved = Moved
step_of answer.Wait = Waits
step_of (answer.Done job) = step.Told
step_of (answer.Failed job) = step.Told
step_of (answer.Refused job) = step.Told
step_of answer.Later = Waits
step_of answer.NoMore = Ready

abbrev pub step_of_group : GroupDid → Step
step_of_group did.Put = Moved
step_of_group did.Wait = Waits
step_of_group did.Sent = step.Told
step_of_group did.Lost = step.Told
