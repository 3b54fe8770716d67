-- A device with the frame of an answer behind those that wait.
use Rattle.std.proofs.Common.{◌≡◌, ℕ, List, Option, Some, None, refl}
use Rattle.knx_model.specs.declared.address.IndAddr.{IndAddr}
use Rattle.knx_model.specs.DeviceConnection.{device_answered, after_answer}
use Rattle.knx_model.specs.DeviceState.{DeviceState}
use Rattle.knx_model.specs.DeviceFrames.{queued_if, with_answer}
use Rattle.device_sim.specs.Sending.{and_frame, answered_end, answered_frame}

pub queued_if_is : (d : DeviceState) (to : IndAddr) (tpdu : Option (List ℕ)) → ◌≡◌ {A = DeviceState} (queued_if d to tpdu) (record d { unsent = and_frame d.unsent d.address to tpdu })
queued_if_is d to None = refl
queued_if_is d to (Some tpdu) = refl

pub with_answer_is : (d : DeviceState) (to : IndAddr) (now : ℕ) (answer : Option (List ℕ)) → ◌≡◌ {A = DeviceState} (with_answer d to now answer) (record d { connection = answered_end d.connection answer now; unsent = and_frame d.unsent d.address to (answered_frame d.connection answer) })
with_answer_is d to now None = refl
with_answer_is d to now (Some octets) = queued_if_is (record d { connection = after_answer d.connection octets now }) to (device_answered d.connection octets)
