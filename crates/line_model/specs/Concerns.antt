-- What concerns a device: a frame that comes to it, or an event of its own.
use Rattle.std.specs.Prelude.{ℕ, ◌≡◌, ◌≢◌, ◌⊎◌, None}
use Rattle.line_model.specs.Arrives.{arrives}
use Rattle.line_model.specs.World.{World, Event, DevSend, DevRepeat, DevClose, Cut, On}

-- the device itself sends, repeats its answer, closes its connection, loses its power or has power
abbrev pub IsOwn : ℕ → Event → Type 0
IsOwn device (DevSend it gateway left_out) = device ≡ it
IsOwn device (DevRepeat it gateway) = device ≡ it
IsOwn device (DevClose it) = device ≡ it
IsOwn device (Cut it) = device ≡ it
IsOwn device (On it) = device ≡ it
IsOwn device _ = ⊥

abbrev pub Concerns : World → ℕ → Event → Type 0
Concerns w device e = (arrives w device e ≢ None) ⊎ IsOwn device e
