-- What is right for a run to do next.
use Rattle.std.proofs.Common.{◌≡◌, ℕ, inl, true, ◌&&◌, List, [], ◌∷◌, ap, sym, subst}
use Rattle.line_model.specs.Follows.{IsNext}
use Rattle.line_model.specs.Legal.{MayHappen}
use Rattle.line_model.specs.Owed.{Owed}
use Rattle.line_model.specs.Tunnel as tunnel
use Rattle.line_model.specs.World.{Send, From, Renew}
use Rattle.bus_sim.specs.declared.clients.Clients.TheVariants.{One, Any}
use Rattle.bus_sim.specs.Begun.{mode_of}
use Rattle.bus_sim.specs.Owing.{LetsClient}
use Rattle.bus_sim.specs.RunNow.{RunNow, IsRight, mode, owed_in, script, start, world}

-- clients may do what they do at any moment but between a torn write and the return of power
sent_next : (r : RunNow) (octets : List ℕ) (l : List Owed) → LetsClient l → IsNext (script r) (mode r) (start r) r.events l (Send octets)
sent_next r octets [] lets = tt
sent_next r octets (x ∷ l) lets = inl (ap (λ t. t && true) lets)

from_next : (r : RunNow) (endpoint : ℕ) (octets : List ℕ) (l : List Owed) → LetsClient l → IsNext (script r) (mode r) (start r) r.events l (From endpoint octets)
from_next r endpoint octets [] lets = tt
from_next r endpoint octets (x ∷ l) lets = inl (ap (λ t. t && true) lets)

renewed_next : (r : RunNow) (l : List Owed) → LetsClient l → IsNext (script r) (mode r) (start r) r.events l Renew
renewed_next r [] lets = tt
renewed_next r (x ∷ l) lets = inl (ap (λ t. t && true) lets)

-- one client sends and takes endpoints, any clients send from theirs
pub send_right : (r : RunNow) (octets : List ℕ) → r.begun.clients ≡ One → LetsClient (owed_in r) → IsRight r (Send octets)
send_right r octets one lets =
    let may : MayHappen tunnel.Commissions (world r) (Send octets) = record { tunnel = tt; devices = tt } in
    record { may = subst (λ c. MayHappen (mode_of c) (world r) (Send octets)) (sym one) may; next = sent_next r octets (owed_in r) lets }

pub renew_right : (r : RunNow) → r.begun.clients ≡ One → LetsClient (owed_in r) → IsRight r Renew
renew_right r one lets =
    let may : MayHappen tunnel.Commissions (world r) Renew = record { tunnel = tt; devices = tt } in
    record { may = subst (λ c. MayHappen (mode_of c) (world r) Renew) (sym one) may; next = renewed_next r (owed_in r) lets }

pub from_right : (r : RunNow) (endpoint : ℕ) (octets : List ℕ) → r.begun.clients ≡ Any → LetsClient (owed_in r) → IsRight r (From endpoint octets)
from_right r endpoint octets any lets =
    let may : MayHappen tunnel.Serves (world r) (From endpoint octets) = record { tunnel = tt; devices = tt } in
    record { may = subst (λ c. MayHappen (mode_of c) (world r) (From endpoint octets)) (sym any) may; next = from_next r endpoint octets (owed_in r) lets }
