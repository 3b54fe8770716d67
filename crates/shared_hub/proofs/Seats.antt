-- By whom the entries are made that a turn and a telegram's step add to a log.
use Rattle.std.proofs.Common.{◌≡◌, ℕ, ◌≤◌, List, Result, Ok, Err, IfOk, OnErr, sym, subst, arith}
use Rattle.line_model.specs.declared.fault.HubFault.{HubFault}
use Rattle.line_model.specs.declared.log.LogEntry.{LogEntry}
use Rattle.line_model.specs.declared.log.LogWhat.{LogWhat}
use Rattle.hub_core.specs.declared.answers.GroupDid.{GroupDid}
use Rattle.hub_core.specs.declared.answers.GroupDid.TheVariants as did
use Rattle.hub_work.specs.declared.answers.Turned.{Turned}
use Rattle.hub_work.specs.declared.answers.Turned.TheVariants as turned
use Rattle.hub_work.specs.Turns.{Adds, TurnTells}
use Rattle.hub_core.specs.Telegrams.{GroupTells}
use Rattle.hub_core.specs.Seats.{IsOfWorkers}

module _ (n : ℕ) (old new : List LogEntry) (was : IsOfWorkers n old) where
  same : new ≡ old → IsOfWorkers n new
  same e = subst (IsOfWorkers n) (sym e) was

  adds : (at worker : ℕ) (what : LogWhat) → worker ≤ n → Adds at worker what old new → IsOfWorkers n new
  adds at worker what le h = subst (IsOfWorkers n) (sym h) (le, was)

  pub turn_seats : (result : Result Turned HubFault) (at worker : ℕ) → worker ≤ n → IfOk result (λ (x : Turned). TurnTells at worker x old new) → OnErr result (new ≡ old) → IsOfWorkers n new
  turn_seats (Err fault) at worker le told untold = same untold
  turn_seats (Ok (turned.Took job)) at worker le told untold = adds at worker _ le told
  turn_seats (Ok turned.Moved) at worker le told untold = same told
  turn_seats (Ok turned.Wait) at worker le told untold = same told
  turn_seats (Ok (turned.Done job)) at worker le told untold = adds at worker _ le told
  turn_seats (Ok (turned.Failed job)) at worker le told untold = adds at worker _ le told.1
  turn_seats (Ok (turned.Refused job)) at worker le told untold = adds at worker _ le told.3
  turn_seats (Ok turned.Later) at worker le told untold = same told
  turn_seats (Ok turned.NoMore) at worker le told untold = same told

  pub group_seats : (result : Result GroupDid HubFault) (at k : ℕ) → IfOk result (λ (x : GroupDid). GroupTells at k x old new) → OnErr result (new ≡ old) → IsOfWorkers n new
  group_seats (Err fault) at k told untold = same untold
  group_seats (Ok did.Put) at k told untold = same told
  group_seats (Ok did.Wait) at k told untold = same told
  group_seats (Ok did.Sent) at k told untold = adds at 0 _ (omega arith) told
  group_seats (Ok did.Lost) at k told untold = adds at 0 _ (omega arith) told
