-- Frames that wait, as this crate's code holds them.
use Rattle.std.specs.Prelude.{ℕ, ◌≡◌, false, List, [], ◌∷◌, ◌++◌, Option, Some, None}
use Rattle.knx_model.specs.declared.address.IndAddr.{IndAddr}
use Rattle.knx_model.specs.declared.frames.cemi.Ldata.{Ldata}
use Rattle.knx_model.specs.DeviceConnection.{DeviceEnd, Closed, after_answer, device_answered}
use Rattle.knx_model.specs.DeviceState.{DeviceState}
use Rattle.knx_model.specs.DeviceFrames.{own_frame}

-- with the frame of these octets behind, where there are any
abbrev pub and_frame : List Ldata → IndAddr → IndAddr → Option (List ℕ) → List Ldata
and_frame frames address to None = frames
and_frame frames address to (Some tpdu) = frames ++ own_frame address false to.raw tpdu ∷ []

-- the connection after an answer, and the octets that bring it, where there is one
abbrev pub answered_end : DeviceEnd → Option (List ℕ) → ℕ → DeviceEnd
answered_end e None now = e
answered_end e (Some apdu) now = after_answer e apdu now

abbrev pub answered_frame : DeviceEnd → Option (List ℕ) → Option (List ℕ)
answered_frame e None = None
answered_frame e (Some apdu) = device_answered e apdu

-- it has no connection and nothing to send
pub record IsQuiet (d : DeviceState) : Type 0 where
  pub unconnected : d.connection ≡ Closed
  pub nothing_unsent : d.unsent ≡ []
