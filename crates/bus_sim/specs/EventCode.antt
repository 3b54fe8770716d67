-- How the logic tells events apart: each is its number among the events, two numbers, a choice, and octets or addresses, of which it is got back.
-- Nothing of this is stored when the program runs.
use Rattle.std.specs.Prelude.{◌≡◌, ℕ, Bool, true, false, List, [], cond, ◌==◌, refl}
use Rattle.std.specs.Coded.{Coded, code_by, coded×, coded_ℕ, coded_bool, coded_list}
use mathlib.Core.Path.{ap}
use Rattle.line_model.specs.World.{AtGateway, Comes, IsLost, Event, Send, From, Renew, Up, UpRefused, Down, LoseUp, LoseDown, Bus, BusTorn, BusWorn, BusAgain, DevSend, DevRepeat, DevClose, GwAgain, GwRepeat, GwClose, Cut, On, Pass}

abbrev comes : AtGateway → Bool
comes Comes = true
comes IsLost = false

abbrev at_gateway : Bool → AtGateway
at_gateway true = Comes
at_gateway false = IsLost

pub same : (at : AtGateway) → at_gateway (comes at) ≡ at
same Comes = refl
same IsLost = refl

abbrev Parts : Type 0
Parts = ℕ × (ℕ × (ℕ × (Bool × List ℕ)))

abbrev to_parts : Event → Parts
to_parts (Send octets) = (0, (0, (0, (false, octets))))
to_parts (From endpoint octets) = (1, (endpoint, (0, (false, octets))))
to_parts Renew = (2, (0, (0, (false, []))))
to_parts (Up age) = (3, (age, (0, (false, []))))
to_parts (UpRefused age status) = (4, (age, (status, (false, []))))
to_parts (Down age) = (5, (age, (0, (false, []))))
to_parts (LoseUp age) = (6, (age, (0, (false, []))))
to_parts (LoseDown age) = (7, (age, (0, (false, []))))
to_parts (Bus lost) = (8, (0, (0, (false, lost))))
to_parts (BusTorn fresh octets) = (9, (0, (0, (fresh, octets))))
to_parts (BusWorn octets) = (10, (0, (0, (false, octets))))
to_parts (BusAgain device) = (11, (device, (0, (false, []))))
to_parts (DevSend device at lost) = (12, (device, (0, (comes at, lost))))
to_parts (DevRepeat device at) = (13, (device, (0, (comes at, []))))
to_parts (DevClose device) = (14, (device, (0, (false, []))))
to_parts GwAgain = (15, (0, (0, (false, []))))
to_parts GwRepeat = (16, (0, (0, (false, []))))
to_parts GwClose = (17, (0, (0, (false, []))))
to_parts (Cut device) = (18, (device, (0, (false, []))))
to_parts (On device) = (19, (device, (0, (false, []))))
to_parts (Pass ms) = (20, (ms, (0, (false, []))))

abbrev from_parts : Parts → Event
from_parts p =
    cond (p.0 == 0) (Send p.1.1.1.1) (cond (p.0 == 1) (From p.1.0 p.1.1.1.1) (cond (p.0 == 2) Renew (cond (p.0 == 3) (Up p.1.0) (cond (p.0 == 4) (UpRefused p.1.0 p.1.1.0)
    (cond (p.0 == 5) (Down p.1.0) (cond (p.0 == 6) (LoseUp p.1.0) (cond (p.0 == 7) (LoseDown p.1.0) (cond (p.0 == 8) (Bus p.1.1.1.1) (cond (p.0 == 9) (BusTorn p.1.1.1.0 p.1.1.1.1)
    (cond (p.0 == 10) (BusWorn p.1.1.1.1) (cond (p.0 == 11) (BusAgain p.1.0) (cond (p.0 == 12) (DevSend p.1.0 (at_gateway p.1.1.1.0) p.1.1.1.1)
    (cond (p.0 == 13) (DevRepeat p.1.0 (at_gateway p.1.1.1.0)) (cond (p.0 == 14) (DevClose p.1.0) (cond (p.0 == 15) GwAgain (cond (p.0 == 16) GwRepeat (cond (p.0 == 17) GwClose
    (cond (p.0 == 18) (Cut p.1.0) (cond (p.0 == 19) (On p.1.0) (Pass p.1.0))))))))))))))))))))

pub from_parts-to_parts : (e : Event) → from_parts (to_parts e) ≡ e
from_parts-to_parts (Send octets) = refl
from_parts-to_parts (From endpoint octets) = refl
from_parts-to_parts Renew = refl
from_parts-to_parts (Up age) = refl
from_parts-to_parts (UpRefused age status) = refl
from_parts-to_parts (Down age) = refl
from_parts-to_parts (LoseUp age) = refl
from_parts-to_parts (LoseDown age) = refl
from_parts-to_parts (Bus lost) = refl
from_parts-to_parts (BusTorn fresh octets) = refl
from_parts-to_parts (BusWorn octets) = refl
from_parts-to_parts (BusAgain device) = refl
from_parts-to_parts (DevSend device at lost) = ap (λ x. DevSend device x lost) (same at)
from_parts-to_parts (DevRepeat device at) = ap (DevRepeat device) (same at)
from_parts-to_parts (DevClose device) = refl
from_parts-to_parts GwAgain = refl
from_parts-to_parts GwRepeat = refl
from_parts-to_parts GwClose = refl
from_parts-to_parts (Cut device) = refl
from_parts-to_parts (On device) = refl
from_parts-to_parts (Pass ms) = refl

abbrev pub event_code : Coded Event
event_code = code_by Parts (coded× coded_ℕ (coded× coded_ℕ (coded× coded_ℕ (coded× coded_bool (coded_list coded_ℕ))))) to_parts from_parts from_parts-to_parts
