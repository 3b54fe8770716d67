-- What the script wants of the next datagram and of the next frame.
use Rattle.std.proofs.Common.{◌≡◌, ◌≢◌, ℕ, suc, ◌+◌, ◌-◌, ◌^◌, ◌==◌, Bool, true, false, List, [], ◌∷◌, Option, Some, None, refl, ap, sym, ◌∙◌, arith, if◌then◌else◌}
use Rattle.std.specs.Prelude.{min}
use Rattle.knx_model.specs.ApduReading.{option_map}
use Rattle.knx_model.specs.declared.device.WriteKind.{WriteKind}
use Rattle.knx_model.specs.declared.frames.cemi.Ldata.{Ldata}
use Rattle.knx_model.specs.Device.{Effect}
use Rattle.knx_model.specs.DeviceSending.{first_frame}
use Rattle.knx_model.specs.DeviceState.{DeviceState}
use Rattle.line_model.specs.Counts.{connects_reached, is_connect_at, write_of, writes}
use Rattle.line_model.specs.Deliveries.{carried_to, effect_at, refused_if, torn_if, write_event, written_at}
use Rattle.line_model.specs.Lines.{cuts, loses_to, refuses, wears}
use Rattle.line_model.specs.Owed.{Owed}
use Rattle.line_model.specs.StartOf.{line_of}
use Rattle.line_model.specs.World.{World, Event, Bus, Up, next_frame, on_bus, replay}
use Rattle.line_sim.specs.Line.{LineNow, IsNow, effect_due, effect_on, frame_due, write_at, write_due}
use Rattle.script_index.specs.declared.index.ScriptIndex.{ScriptIndex}
use Rattle.bus_sim.specs.declared.beginning.Beginning.{Beginning}
use Rattle.bus_sim.specs.declared.counts.DeviceCounts.{DeviceCounts}
use Rattle.bus_sim.specs.Begun.{said, start_of}
use Rattle.bus_sim.specs.Choices.{carried, delivered, is_lost_for, written_so}
use Rattle.bus_sim.specs.Counted.{CountsNow, counts_at}
use Rattle.bus_sim.specs.Held.{IsHeld}
use Rattle.bus_sim.specs.RunNow.{RunState}
use Rattle.bus_sim.proofs.Holds.{run}
use Rattle.bus_sim.proofs.Numbers.{connects_known, lost_to, writes_known}

decide : (P : Type 0) (t : Bool) → (t ≡ true → P) → (t ≡ false → P) → P
decide P true this that = this refl
decide P false this that = that refl

same_number : (a b : ℕ) → (a == b) ≡ true → a ≡ b
same_number a b e = grind arith

other_number : (a b : ℕ) → (a == b) ≡ false → a ≢ b
other_number a b e = grind arith

-- the frame that is due, and what it does, as the line has them
pub frame_alike : (n : LineNow) (w : World) → IsNow n w → frame_due n ≡ next_frame w
frame_alike n w is = ap (λ x. option_map (on_bus x) (first_frame n.tunnel.gateway.bus)) (sym is.tunnel.gateway.address) ∙ ap (λ l. option_map (on_bus w.tunnel.gateway.tunnel) (first_frame l)) (sym is.tunnel.gateway.bus)

pub effect_alike : (n : LineNow) (w : World) (frame : Ldata) → IsNow n w → Some frame ≡ next_frame w → effect_due n ≡ effect_at (w.devices frame.destination) frame
effect_alike n w frame is due = ap (effect_on n.devices) (frame_alike n w is ∙ sym due) ∙ ap (λ (d : Option DeviceState). effect_at d frame) (sym (is.devices frame.destination))

pub write_alike : (n : LineNow) (w : World) (frame : Ldata) → IsNow n w → Some frame ≡ next_frame w → write_due n ≡ write_of (w.devices frame.destination) (Some frame)
write_alike n w frame is due = ap (write_at n.devices) (frame_alike n w is ∙ sym due) ∙ ap (λ (d : Option DeviceState). write_of d (Some frame)) (sym (is.devices frame.destination))

-- a device that a frame would write is there
pub writes_there : (o : Option DeviceState) (frame : Ldata) (kind : WriteKind) → Some kind ≡ write_of o (Some frame) → o ≢ None
writes_there None frame kind e none = cc
writes_there (Some d) frame kind e none = cc

module _ (b : Beginning) (es : List Event) (index : ScriptIndex) (n : LineNow) (counts : CountsNow) (o : List Owed) (h : IsHeld (run b es) index n counts o) where
  -- how a connect request is answered
  pub refused_so : (age : ℕ) (status : Option ℕ) (k held : ℕ) (v : RunState) → is_connect_at (replay (start_of b) es).tunnel.network.up age ≡ true → status ≡ refuses (said b) k → k ≡ min (held + 1) (2 ^ 64 - 1) → held ≡ counts.connects
      → record { begun = b; events = es; line = n } ≡ v → refused_if age status ≡ delivered v age
  refused_so age status k held v asks says number is view =
      ap (refused_if age) (says ∙ ap (refuses (said b)) (number ∙ ap (λ (x : ℕ). min (x + 1) (2 ^ 64 - 1)) is ∙ connects_known b es index n counts o h))
      ∙ sym (ap (λ t. if t then refused_if age (refuses (said b) (suc (connects_reached (start_of b) es))) else Up age) asks) ∙ ap (λ (r : RunState). delivered r age) view

  -- whether a frame is lost for its device
  pub lost_so : (device : ℕ) (lost : Bool) (k : ℕ) (c : DeviceCounts) (v : RunState) → lost ≡ loses_to (said b) device k → k ≡ min (c.to + 1) (2 ^ 64 - 1) → c ≡ counts_at counts device → record { begun = b; events = es; line = n } ≡ v → lost ≡ is_lost_for v device
  lost_so device lost k c v says number of_it view =
      says ∙ ap (loses_to (said b) device) (number ∙ ap (λ (x : DeviceCounts). min (x.to + 1) (2 ^ 64 - 1)) of_it) ∙ lost_to b es index n counts o h device ∙ ap (λ (r : RunState). is_lost_for r device) view

  -- a device that is there is on the line
  pub there_on : (a : ℕ) → (replay (start_of b) es).devices a ≢ None → line_of a ≡ line_of b.tunnel.raw
  there_on a there = decide (line_of a ≡ line_of b.tunnel.raw) (line_of a == counts.line) (λ y. same_number _ _ y ∙ h.on_line) (λ x. absurd (there (h.placed a (other_number _ _ x))))

  -- the number of a device's next write
  pub write_number : (device k : ℕ) (c : DeviceCounts) → line_of device ≡ line_of b.tunnel.raw → k ≡ min (c.writes + 1) (2 ^ 64 - 1) → c ≡ counts_at counts device → k ≡ suc (writes device (start_of b) es)
  write_number device k c on number of_it = number ∙ ap (λ (x : DeviceCounts). min (x.writes + 1) (2 ^ 64 - 1)) of_it ∙ writes_known b es index n counts o h device (on ∙ sym h.on_line)

  -- how the next write of a device goes
  pub written_is : (device k : ℕ) (kind : WriteKind) (c : DeviceCounts) (cut : Option ℕ) (worn : Bool) (effect : Effect) (v : RunState) → line_of device ≡ line_of b.tunnel.raw → cut ≡ cuts (said b) device k → worn ≡ wears (said b) device k
      → k ≡ min (c.writes + 1) (2 ^ 64 - 1) → c ≡ counts_at counts device → record { begun = b; events = es; line = n } ≡ v → torn_if cut worn kind effect ≡ written_so v device kind effect
  written_is device k kind c cut worn effect v on cuts_so wears_so number of_it view =
      ap (λ x. torn_if x worn kind effect) cuts_so ∙ ap (λ x. torn_if (cuts (said b) device k) x kind effect) wears_so
      ∙ ap (λ x. torn_if (cuts (said b) device x) (wears (said b) device x) kind effect) (write_number device k c on number of_it) ∙ ap (λ (r : RunState). written_so r device kind effect) view

  -- a frame for one device that isn't lost
  pub carried_is : (frame : Ldata) (kind : Option WriteKind) (e : Event) (v : RunState) → Some frame ≡ next_frame (replay (start_of b) es) → frame.group ≡ false → is_lost_for v frame.destination ≡ false → record { begun = b; events = es; line = n } ≡ v
      → e ≡ write_event (said b) frame.destination (suc (writes frame.destination (start_of b) es)) (write_of ((replay (start_of b) es).devices frame.destination) (Some frame)) (effect_due n) → e ≡ carried v frame
  carried_is frame kind e v due alone kept view is =
      let w : World = replay (start_of b) es in
      let d : ℕ = frame.destination in
      is ∙ ap (write_event (said b) d (suc (writes d (start_of b) es)) (write_of (w.devices d) (Some frame))) (effect_alike n w frame h.pictured due)
      ∙ sym (ap (λ t. if t then Bus (d ∷ []) else written_at (said b) (start_of b) es d frame) (ap (λ (r : RunState). is_lost_for r d) view ∙ kept))
      ∙ sym (ap (λ t. if t then Bus [] else carried_to (said b) (start_of b) es d frame) alone) ∙ ap (λ (r : RunState). carried r frame) view
