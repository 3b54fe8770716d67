-- A moment that brings a connection nothing new: what is known of its session stays.
use Rattle.std.proofs.Common.{◌≡◌, ℕ, Bool, List, ◌∷◌, Option, None, refl, ap}
use Rattle.knx_model.specs.declared.address.IndAddr.{IndAddr}
use Rattle.knx_model.specs.ClientConnection.{ClientEnd, Asked, Up, Asking, Awaiting, Ended as NoConnection, client_stayed}
use Rattle.line_model.specs.Moments.{Moment}
use Rattle.line_model.specs.Signs.{IsntAck, IsntConfirmation, IsStill, is_ignored}
use Rattle.download_core.specs.declared.flight.Flight.{Flight}
use Rattle.download_core.specs.declared.flight.Flight.TheVariants.{Frame}
use Rattle.download_core.specs.InSession.{ConnFits}
use Rattle.download_core.specs.Follows.{IsMoment}
use Rattle.download_core.proofs.Readings.{IsSame, same_by}
use Rattle.download_core.proofs.Sessions.{isnt_ack, up_kept, up_timed, asking_kept, asking_timed, asking_flight, awaiting_kept, awaiting_moved}

-- it isn't the T_ACK of what is outstanding, and doesn't end the silence in which an answer is awaited
abbrev pub Passes : ℕ → ClientEnd → Moment → Type 0
Passes device (Asked to) m = Unit {0}
Passes device (Up s) m = Unit {0}
Passes device (Asking s q) m = IsntAck device s.number m
Passes device (Awaiting s) m = IsStill device s.number m
Passes device NoConnection m = Unit {0}

pub conn_kept : (device : ℕ) (conn : ClientEnd) (flight : Flight) (sent : ℕ) (m : Moment) (l : List Moment) → ConnFits device conn flight sent l → IsSame device m l → Passes device conn m → (flight ≡ Frame → IsntConfirmation m)
    → ConnFits device conn flight sent (m ∷ l)
conn_kept device (Asked to) flight sent m l f e p c = f
conn_kept device (Up s) flight sent m l f e p c = up_kept device s sent m l f e
conn_kept device (Asking s q) flight sent m l f e p c = asking_kept device s q flight sent m l f e p c
conn_kept device (Awaiting s) flight sent m l f e p c = awaiting_kept device s sent m l f e p
conn_kept device NoConnection flight sent m l f e p c = f

-- it is only no such T_ACK
abbrev pub Moves : ℕ → ClientEnd → Moment → Type 0
Moves device (Asked to) m = Unit {0}
Moves device (Up s) m = Unit {0}
Moves device (Asking s q) m = IsntAck device s.number m
Moves device (Awaiting s) m = Unit {0}
Moves device NoConnection m = Unit {0}

pub conn_moved : (device : ℕ) (conn : ClientEnd) (flight : Flight) (sent : ℕ) (m : Moment) (l : List Moment) → ConnFits device conn flight sent l → IsSame device m l → Moves device conn m → (flight ≡ Frame → IsntConfirmation m)
    → ConnFits device (client_stayed conn m.now) flight sent (m ∷ l)
conn_moved device (Asked to) flight sent m l f e p c = f
conn_moved device (Up s) flight sent m l f e p c = up_timed device s sent m.now (m ∷ l) (up_kept device s sent m l f e)
conn_moved device (Asking s q) flight sent m l f e p c = asking_timed device s q flight sent m.now (m ∷ l) (asking_kept device s q flight sent m l f e p c)
conn_moved device (Awaiting s) flight sent m l f e p c = awaiting_moved device s sent m l f e
conn_moved device NoConnection flight sent m l f e p c = f

-- what is in flight isn't a service
pub conn_flight : (device : ℕ) (conn : ClientEnd) (flight other : Flight) (sent : ℕ) (l : List Moment) → (flight ≡ Frame → ⊥) → ConnFits device conn flight sent l → ConnFits device conn other sent l
conn_flight device (Asked to) flight other sent l n f = f
conn_flight device (Up s) flight other sent l n f = f
conn_flight device (Asking s q) flight other sent l n f = asking_flight device s q flight other sent l n f
conn_flight device (Awaiting s) flight other sent l n f = f
conn_flight device NoConnection flight other sent l n f = f

-- ---- nothing of the device

pub idle_same : (device : IndAddr) (c : Option Bool) (m : Moment) (l : List Moment) → IsMoment device None None c m → IsSame device.raw m l
idle_same device c m l w = same_by device None None c m l w refl refl refl refl

pub idle_passes : (device : IndAddr) (conn : ClientEnd) (c : Option Bool) (m : Moment) → IsMoment device None None c m → Passes device.raw conn m
idle_passes device (Asked to) c m w = tt
idle_passes device (Up s) c m w = tt
idle_passes device (Asking s q) c m w = isnt_ack device s.number None None c m w (λ e. cc e)
idle_passes device (Awaiting s) c m w = record { unput = w.put_is; ignored = ap (is_ignored s.number) w.heard_is }
idle_passes device NoConnection c m w = tt

pub idle_conn : (device : IndAddr) (conn : ClientEnd) (flight : Flight) (sent : ℕ) (c : Option Bool) (m : Moment) (l : List Moment) → ConnFits device.raw conn flight sent l → IsMoment device None None c m → (flight ≡ Frame → IsntConfirmation m)
    → ConnFits device.raw conn flight sent (m ∷ l)
idle_conn device conn flight sent c m l f w n = conn_kept device.raw conn flight sent m l f (idle_same device c m l w) (idle_passes device conn c m w) n
