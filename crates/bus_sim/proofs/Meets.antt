-- What the script calls for first is right to happen.
use Rattle.std.proofs.Common.{◌≡◌, ◌≢◌, ℕ, true, is_some, IfSome, Option, Some, None, refl, subst}
use Rattle.line_model.specs.Owed.{Owed, BringAgain, ConnectionCloses, ChannelCloses}
use Rattle.line_model.specs.World.{BusAgain, DevClose, GwClose}
use Rattle.bus_sim.specs.RunNow.{RunNow, Calls, IsRight, Keeps, mode, owed_in, script, start, world}
use Rattle.bus_sim.proofs.OwesAlways.{CanMeet, can_meet, owes}
use Rattle.bus_sim.proofs.Modes.{closes_open, elsewhere}
use Rattle.bus_sim.proofs.CalledFor.{called_possible, called_right, has_last}

pub is_there : {A : Type 0} (o : Option A) → is_some o ≡ true → o ≢ None
is_there None e = cc
is_there (Some x) e = λ none. some_no none
  where
    some_no : Some x ≡ None → ⊥
    some_no e = cc

pub of_some : {A : Type 0} (P : A → Type 0) (o : Option A) (x : A) → o ≡ Some x → IfSome o P → P x
of_some P o x e h = subst (λ o. IfSome o P) e h

can : (r : RunNow) (what : Owed) → Keeps r → Calls r what → CanMeet (world r) what
can r what keeps calls = can_meet (world r) (owed_in r) what calls (owes (mode r) (script r) (start r) r.events keeps.legal keeps.follows)

pub last_right : (r : RunNow) (device : ℕ) → Calls r (BringAgain device) → IsRight r (BusAgain device)
last_right r device calls = called_right r (BringAgain device) (BusAgain device) calls refl (record { tunnel = elsewhere (mode r) (world r).tunnel; devices = has_last ((world r).devices device) (called_possible r (BringAgain device) calls) })

pub connection_right : (r : RunNow) (device : ℕ) → Keeps r → Calls r (ConnectionCloses device) → IsRight r (DevClose device)
connection_right r device keeps calls = called_right r (ConnectionCloses device) (DevClose device) calls refl (record { tunnel = elsewhere (mode r) (world r).tunnel; devices = is_there ((world r).devices device) (can r (ConnectionCloses device) keeps calls) })

pub channel_right : (r : RunNow) → Keeps r → Calls r ChannelCloses → IsRight r GwClose
channel_right r keeps calls = called_right r ChannelCloses GwClose calls refl (record { tunnel = closes_open (mode r) (world r).tunnel (is_there (world r).tunnel.gateway.channel (can r ChannelCloses keeps calls)); devices = tt })
