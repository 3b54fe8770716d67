-- How the logic tells events apart: each is its number among the events, two numbers, and octets or places, of which it is got back. Nothing of this is
-- stored when the program runs.
use Rattle.std.specs.Prelude.{◌≡◌, ℕ, Bool, true, false, List, [], cond, ◌==◌, refl}
use Rattle.std.specs.Coded.{Coded, code_by, coded×, coded_ℕ, coded_bool, coded_list}
use mathlib.Core.Path.{ap}
use Rattle.line_model.specs.World.{AtGateway, Comes, IsLost}
use Rattle.address_world.specs.AddressWorld.{AddressEvent, Send, Renew, Up, UpRefused, Down, LoseUp, LoseDown, Bus, Respond, GwRepeat, GwClose, Pass}

abbrev comes : AtGateway → Bool
comes Comes = true
comes IsLost = false

abbrev at_gateway : Bool → AtGateway
at_gateway true = Comes
at_gateway false = IsLost

pub same : (at : AtGateway) → at_gateway (comes at) ≡ at
same Comes = refl
same IsLost = refl

abbrev Parts : Type 0
Parts = ℕ × (ℕ × (ℕ × (Bool × List ℕ)))

abbrev to_parts : AddressEvent → Parts
to_parts (Send octets) = (0, (0, (0, (false, octets))))
to_parts Renew = (1, (0, (0, (false, []))))
to_parts (Up age) = (2, (age, (0, (false, []))))
to_parts (UpRefused age status) = (3, (age, (status, (false, []))))
to_parts (Down age) = (4, (age, (0, (false, []))))
to_parts (LoseUp age) = (5, (age, (0, (false, []))))
to_parts (LoseDown age) = (6, (age, (0, (false, []))))
to_parts (Bus left_out) = (7, (0, (0, (false, left_out))))
to_parts (Respond place at) = (8, (place, (0, (comes at, []))))
to_parts GwRepeat = (9, (0, (0, (false, []))))
to_parts GwClose = (10, (0, (0, (false, []))))
to_parts (Pass ms) = (11, (ms, (0, (false, []))))

abbrev from_parts : Parts → AddressEvent
from_parts p =
    cond (p.0 == 0) (Send p.1.1.1.1) (cond (p.0 == 1) Renew (cond (p.0 == 2) (Up p.1.0) (cond (p.0 == 3) (UpRefused p.1.0 p.1.1.0)
    (cond (p.0 == 4) (Down p.1.0) (cond (p.0 == 5) (LoseUp p.1.0) (cond (p.0 == 6) (LoseDown p.1.0) (cond (p.0 == 7) (Bus p.1.1.1.1)
    (cond (p.0 == 8) (Respond p.1.0 (at_gateway p.1.1.1.0)) (cond (p.0 == 9) GwRepeat (cond (p.0 == 10) GwClose (Pass p.1.0)))))))))))

pub from_parts-to_parts : (e : AddressEvent) → from_parts (to_parts e) ≡ e
from_parts-to_parts (Send octets) = refl
from_parts-to_parts Renew = refl
from_parts-to_parts (Up age) = refl
from_parts-to_parts (UpRefused age status) = refl
from_parts-to_parts (Down age) = refl
from_parts-to_parts (LoseUp age) = refl
from_parts-to_parts (LoseDown age) = refl
from_parts-to_parts (Bus left_out) = refl
from_parts-to_parts (Respond place at) = ap (Respond place) (same at)
from_parts-to_parts GwRepeat = refl
from_parts-to_parts GwClose = refl
from_parts-to_parts (Pass ms) = refl

abbrev pub event_code : Coded AddressEvent
event_code = code_by Parts (coded× coded_ℕ (coded× coded_ℕ (coded× coded_ℕ (coded× coded_bool (coded_list coded_ℕ))))) to_parts from_parts from_parts-to_parts
