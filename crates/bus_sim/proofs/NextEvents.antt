-- What goes next is right to happen.
use Rattle.std.proofs.Common.{◌≡◌, ◌≢◌, ℕ, ◌+◌, ◌^◌, ◌<◌, ◌≤◌, ◌⊎◌, inl, inr, Bool, true, false, is_some, List, [], length, Option, Some, None, IfSome, refl, ap, sym, subst, ◌∙◌, arith}
use Rattle.knx_model.specs.declared.frames.cemi.Ldata.{Ldata}
use Rattle.knx_model.specs.DeviceState.{DeviceState}
use Rattle.knx_model.specs.ScriptText.{are_script_lines}
use Rattle.line_model.specs.Counts.{age_of, number_at}
use Rattle.line_model.specs.Deliveries.{goes_up, goes_down, next_up, next_down, delivery}
use Rattle.line_model.specs.Follows.{IsNextUp, IsNextDown, IsGatewayRepeat, IsGatewayClosing, gateway_due}
use Rattle.line_model.specs.Fresh.{HasNothingToSend, Settled, SettledFor}
use Rattle.line_model.specs.Gateway as gateway
use Rattle.line_model.specs.Gateway.{GatewayExpired}
use Rattle.line_model.specs.Legal.{MayHappen, OfDevice}
use Rattle.line_model.specs.Lines.{loses_up, loses_down}
use Rattle.line_model.specs.Owed.{Owed, DeliverAgain, ReachAgain, passes_again}
use Rattle.line_model.specs.Tunnel.{Mode}
use Rattle.line_model.specs.World.{World, Event, Up, Down, LoseUp, LoseDown, DevSend, DevRepeat, DevClose, GwRepeat, GwClose, Pass, next_frame, now, replay}
use Rattle.knx_model.specs.declared.device.Sending.{Sending}
use Rattle.knx_model.specs.declared.device.Sending.TheVariants.{Repeat, Closing}
use Rattle.knx_model.specs.DeviceSending.{next_sending}
use Rattle.tunnel_sim.specs.declared.gateway.Due.TheVariants as due
use Rattle.tunnel_sim.specs.Gateways.{due_of}
use Rattle.line_sim.specs.Places.{sending_at}
use Rattle.line_sim.specs.Allowed.{Allows}
use Rattle.line_sim.specs.Line.{LineNow, IsNow, AreCounted, frame_due}
use Rattle.network_sim.specs.Window.{CanTell}
use Rattle.script_index.specs.declared.index.ScriptIndex.{ScriptIndex}
use Rattle.bus_sim.specs.declared.beginning.Beginning.{Beginning}
use Rattle.bus_sim.specs.Begun.{mode_in, said, start_of}
use Rattle.bus_sim.specs.Choices.{delivered, carried, heard_so}
use Rattle.bus_sim.specs.Counted.{CountsNow}
use Rattle.bus_sim.specs.Held.{IsHeld}
use Rattle.bus_sim.specs.RunNow.{RunNow, RunState, Calls, NothingCalled, IsRight, mode, script, seen, start, world as world_of}
use Rattle.bus_sim.specs.Went.{world}
use Rattle.bus_sim.proofs.Modes.{down_lost, passes_any, up_lost}
use Rattle.bus_sim.proofs.Laws.{allowed, counted as few_counted, fewer}
use Rattle.bus_sim.proofs.Owings.{can_tell}
use Rattle.bus_sim.proofs.Wants.{frame_alike}
use Rattle.bus_sim.proofs.CalledFor.{no_some, some_no, called_possible, called_right, free_right}
use Rattle.bus_sim.proofs.Delivered.{delivered_may, delivered_place}
use Rattle.bus_sim.proofs.Carriages.{carried_right}

at_first : (now t ms : ℕ) → ms ≤ 1 → t < ms → now ≡ now + t
at_first now t ms one early = omega (arith, one, early)

module _ (b : Beginning) (es : List Event) (index : ScriptIndex) (n : LineNow) (counts : CountsNow) (o : List Owed) (h : IsHeld (record { begun = b; events = es }) index n counts o) where
  abbrev r : RunNow
  r = record { begun = b; events = es }

  abbrev state : RunState
  state = record { begun = b; events = es; line = n }

  exact : AreCounted (replay (start_of b) es)
  exact = few_counted (start_of b) es h.keeps.fresh h.few

  pub again_up_right : (number : ℕ) (result : Option ℕ) (v : RunState) → state ≡ v → Calls (seen v) (DeliverAgain number)
      → IfSome result (λ age. (w : World) → IsNow n w → CanTell number w.tunnel.network.up → age ≡ age_of w.tunnel.network.up number) → IfSome result (λ age. (mode : Mode) → Allows mode n (Up age))
      → IfSome result (λ age. IsRight (seen v) (delivered v age))
  again_up_right number None v view calls aged allows = tt
  again_up_right number (Some age) v view calls aged allows = subst (λ (v : RunState). IsRight (seen v) (delivered v age)) view
      (called_right r (DeliverAgain number) (delivered state age) (subst (λ (v : RunState). Calls (seen v) (DeliverAgain number)) (sym view) calls)
      (ap (delivery (said b) (start_of b) es) (aged (replay (start_of b) es) h.pictured (can_tell number (replay (start_of b) es).tunnel.network.up exact.up)))
      (delivered_may r age h.loaded.lines (allowed (mode_in b) n (replay (start_of b) es) (Up age) h.pictured (allows (mode_in b)))))

  pub again_down_right : (number : ℕ) (result : Option ℕ) (v : RunState) → state ≡ v → Calls (seen v) (ReachAgain number)
      → IfSome result (λ age. (w : World) → IsNow n w → CanTell number w.tunnel.network.down → age ≡ age_of w.tunnel.network.down number) → IfSome result (λ age. Allows (mode_in b) n (Down age))
      → IfSome result (λ age. IsRight (seen v) (Down age))
  again_down_right number None v view calls aged allows = tt
  again_down_right number (Some age) v view calls aged allows = subst (λ (v : RunState). IsRight (seen v) (Down age)) view
      (called_right r (ReachAgain number) (Down age) (subst (λ (v : RunState). Calls (seen v) (ReachAgain number)) (sym view) calls)
      (ap Down (aged (replay (start_of b) es) h.pictured (can_tell number (replay (start_of b) es).tunnel.network.down exact.down)))
      (allowed (mode_in b) n (replay (start_of b) es) (Down age) h.pictured allows))

  -- what is called for is still possible
  pub again_up_there : (number : ℕ) (result : Option ℕ) (v : RunState) → state ≡ v → Calls (seen v) (DeliverAgain number)
      → ((w : World) → IsNow n w → CanTell number w.tunnel.network.up → is_some result ≡ passes_again (goes_up w.tunnel) w.tunnel.network.up number) → is_some result ≡ true
  again_up_there number result v view calls possible =
      possible (replay (start_of b) es) h.pictured (can_tell number (replay (start_of b) es).tunnel.network.up exact.up) ∙ called_possible r (DeliverAgain number) (subst (λ (v : RunState). Calls (seen v) (DeliverAgain number)) (sym view) calls)

  pub again_down_there : (number : ℕ) (result : Option ℕ) (v : RunState) → state ≡ v → Calls (seen v) (ReachAgain number)
      → ((w : World) → IsNow n w → CanTell number w.tunnel.network.down → is_some result ≡ passes_again (goes_down (mode_in b) w.tunnel) w.tunnel.network.down number) → is_some result ≡ true
  again_down_there number result v view calls possible =
      possible (replay (start_of b) es) h.pictured (can_tell number (replay (start_of b) es).tunnel.network.down exact.down) ∙ called_possible r (ReachAgain number) (subst (λ (v : RunState). Calls (seen v) (ReachAgain number)) (sym view) calls)

  -- ---- what goes next

  pub may_down : (result : Option ℕ) (v : RunState) → state ≡ v → IfSome result (λ age. Allows (mode_in b) n (Down age)) → IfSome result (λ age. MayHappen (mode (seen v)) (world v) (Down age))
  may_down None v view allows = tt
  may_down (Some age) v view allows = subst (λ (v : RunState). MayHappen (mode (seen v)) (world v) (Down age)) view (allowed (mode_in b) n (replay (start_of b) es) (Down age) h.pictured allows)

  pub may_up : (result : Option ℕ) (v : RunState) → state ≡ v → IfSome result (λ age. (mode : Mode) → Allows mode n (Up age)) → IfSome result (λ age. MayHappen (mode (seen v)) (world v) (Up age))
  may_up None v view allows = tt
  may_up (Some age) v view allows = subst (λ (v : RunState). MayHappen (mode (seen v)) (world v) (Up age)) view (allowed (mode_in b) n (replay (start_of b) es) (Up age) h.pictured (allows (mode_in b)))

  pub loses_up_is : (age number : ℕ) (lost : Bool) → lost ≡ loses_up (said b) number → ((w : World) → IsNow n w → length w.tunnel.network.up < 2 ^ 64 → number ≡ number_at w.tunnel.network.up age)
      → loses_up (said b) (number_at (replay (start_of b) es).tunnel.network.up age) ≡ lost
  loses_up_is age number lost says is = sym (says ∙ ap (loses_up (said b)) (is (replay (start_of b) es) h.pictured (fewer _ exact.up)))

  pub loses_down_is : (age number : ℕ) (lost : Bool) → lost ≡ loses_down (said b) number → ((w : World) → IsNow n w → length w.tunnel.network.down < 2 ^ 64 → number ≡ number_at w.tunnel.network.down age)
      → loses_down (said b) (number_at (replay (start_of b) es).tunnel.network.down age) ≡ lost
  loses_down_is age number lost says is = sym (says ∙ ap (loses_down (said b)) (is (replay (start_of b) es) h.pictured (fewer _ exact.down)))

  pub up_says : (age number : ℕ) (lost : Bool) (v : RunState) → state ≡ v → lost ≡ loses_up (said b) number → ((w : World) → IsNow n w → length w.tunnel.network.up < 2 ^ 64 → number ≡ number_at w.tunnel.network.up age)
      → loses_up (script (seen v)) (number_at (world v).tunnel.network.up age) ≡ lost
  up_says age number lost v view says is = subst (λ (v : RunState). loses_up (script (seen v)) (number_at (world v).tunnel.network.up age) ≡ lost) view (loses_up_is age number lost says is)

  pub down_says : (age number : ℕ) (lost : Bool) (v : RunState) → state ≡ v → lost ≡ loses_down (said b) number → ((w : World) → IsNow n w → length w.tunnel.network.down < 2 ^ 64 → number ≡ number_at w.tunnel.network.down age)
      → loses_down (script (seen v)) (number_at (world v).tunnel.network.down age) ≡ lost
  down_says age number lost v view says is = subst (λ (v : RunState). loses_down (script (seen v)) (number_at (world v).tunnel.network.down age) ≡ lost) view (loses_down_is age number lost says is)

  pub lines_of : (v : RunState) → state ≡ v → are_script_lines v.begun.script ≡ true
  lines_of v view = subst (λ (v : RunState). are_script_lines v.begun.script ≡ true) view h.loaded.lines

  -- the client's frame goes over the bus so
  pub carried_so_right : (frame : Ldata) (e : RunState → Event) (v : RunState) → state ≡ v → NothingCalled (seen v) → Some frame ≡ next_frame (world v) → e v ≡ carried v frame → Allows (mode_in b) n (e state) → IsRight (seen v) (e v)
  carried_so_right frame e v view free due so allows = subst (λ (v : RunState). IsRight (seen v) (e v)) view
      (carried_right r frame (e state) (subst (λ (v : RunState). NothingCalled (seen v)) (sym view) free) (subst (λ (v : RunState). Some frame ≡ next_frame (world v)) (sym view) due)
      (subst (λ (v : RunState). e v ≡ carried v frame) (sym view) so) (allowed (mode_in b) n (replay (start_of b) es) (e state) h.pictured allows))

  pub next_down_is : (result : Option ℕ) (v : RunState) → state ≡ v → ((w : World) → IsNow n w → result ≡ next_down (mode_in b) w.tunnel) → result ≡ next_down (mode (seen v)) (world v).tunnel
  next_down_is result v view is = subst (λ (v : RunState). result ≡ next_down (mode (seen v)) (world v).tunnel) view (is (replay (start_of b) es) h.pictured)

  pub next_up_is : (result : Option ℕ) (v : RunState) → state ≡ v → ((w : World) → IsNow n w → result ≡ next_up w.tunnel) → result ≡ next_up (world v).tunnel
  next_up_is result v view is = subst (λ (v : RunState). result ≡ next_up (world v).tunnel) view (is (replay (start_of b) es) h.pictured)

  pub sender_is : (result : Option (ℕ × Sending)) (v : RunState) → state ≡ v → IfSome result (λ sender. (w : World) → IsNow n w → sending_at (w.devices sender.0) (now w) ≡ Some sender.1)
      → IfSome result (λ sender. sending_at ((world v).devices sender.0) (now (world v)) ≡ Some sender.1)
  sender_is None v view is = tt
  sender_is (Some sender) v view is = subst (λ (v : RunState). sending_at ((world v).devices sender.0) (now (world v)) ≡ Some sender.1) view (is (replay (start_of b) es) h.pictured)

  -- time passes
  pub pass_right : (ms : ℕ) (v : RunState) → state ≡ v → NothingCalled (seen v) → SettledFor (mode_in b) (replay (start_of b) es) ms → IsRight (seen v) (Pass ms)
  pass_right ms v view free settled = subst (λ (v : RunState). IsRight (seen v) (Pass ms)) view
      (free_right r (Pass ms) (subst (λ (v : RunState). NothingCalled (seen v)) (sym view) free) settled (record { tunnel = passes_any (mode_in b) (replay (start_of b) es).tunnel ms; devices = tt }))

  pub settled_of : (v : RunState) → state ≡ v → Settled (mode (seen v)) (world v) → Settled (mode_in b) (replay (start_of b) es)
  settled_of v view settled = subst (λ (v : RunState). Settled (mode (seen v)) (world v)) (sym view) settled

  pub still_until : (ms at end : ℕ) (v : RunState) → state ≡ v → Settled (mode (seen v)) (world v) → at ≡ now (replay (start_of b) es)
      → ((mode : Mode) (w : World) → IsNow n w → Settled mode w → (ms : ℕ) → now w + ms ≤ end → SettledFor mode w ms) → (ms ≤ 1) ⊎ (at + ms ≤ end) → SettledFor (mode_in b) (replay (start_of b) es) ms
  still_until ms at end v view settled is law (inl one) =
      let w : World = replay (start_of b) es in
      let now_settled : Settled (mode_in b) w = settled_of v view settled in
      record { settled = now_settled; still = λ t early. subst (HasNothingToSend w) (at_first (now w) t ms one early) now_settled.nothing_to_send }
  still_until ms at end v view settled is law (inr until) = law (mode_in b) (replay (start_of b) es) h.pictured (settled_of v view settled) ms (subst (λ k. k + ms ≤ end) is until)

-- the sender's datagram is lost

pub lost_down_right : (r : RunNow) (age : ℕ) → NothingCalled r → IsNextDown (script r) (mode r) (world_of r) age true → MayHappen (mode r) (world_of r) (Down age) → IsRight r (LoseDown age)
lost_down_right r age free next may = free_right r (LoseDown age) free next
    (record { tunnel = down_lost (mode r) (world_of r).tunnel age may.tunnel; devices = tt })

pub got_right : (r : RunNow) (age : ℕ) → NothingCalled r → IsNextDown (script r) (mode r) (world_of r) age false → MayHappen (mode r) (world_of r) (Down age) → IsRight r (Down age)
got_right r age free next may = free_right r (Down age) free next may

pub lost_up_right : (r : RunNow) (age : ℕ) → NothingCalled r → IsNextUp (script r) (world_of r) age true → MayHappen (mode r) (world_of r) (Up age) → IsRight r (LoseUp age)
lost_up_right r age free next may = free_right r (LoseUp age) free next
    (record { tunnel = up_lost (mode r) (world_of r).tunnel age may.tunnel; devices = tt })

pub comes_right : (r : RunNow) (age : ℕ) → are_script_lines r.begun.script ≡ true → NothingCalled r → IsNextUp (script r) (world_of r) age false → MayHappen (mode r) (world_of r) (Up age)
    → IsRight r (delivery (script r) (start r) r.events age)
comes_right r age lines free next may = free_right r (delivery (script r) (start r) r.events age) free (delivered_place r age next) (delivered_may r age lines may)

-- a frame that waits for the bus goes over it
pub goes_over : (n : LineNow) (w : World) (frame : Ldata) → IsNow n w → Some frame ≡ next_frame w → frame_due n ≢ None
goes_over n w frame is due none = some_no (due ∙ sym (frame_alike n w is) ∙ none)

-- ---- what devices and the gateway send

is_due : (o : Option DeviceState) (at : ℕ) (which : Sending) → sending_at o at ≡ Some which → OfDevice (λ d. next_sending d at ≡ Some which) o
is_due None at which e = absurd (no_some e)
is_due (Some d) at which e = e

pub sends_right : (v : RunState) (device : ℕ) → NothingCalled (seen v) → MayHappen (mode (seen v)) (world v) (DevSend device (heard_so v device) []) → IsRight (seen v) (DevSend device (heard_so v device) [])
sends_right v device free may = free_right (seen v) (DevSend device (heard_so v device) []) free (refl, refl) may

pub repeats_right : (v : RunState) (device : ℕ) → NothingCalled (seen v) → sending_at ((world v).devices device) (now (world v)) ≡ Some Repeat → MayHappen (mode (seen v)) (world v) (DevRepeat device (heard_so v device)) → IsRight (seen v) (DevRepeat device (heard_so v device))
repeats_right v device free due may = free_right (seen v) (DevRepeat device (heard_so v device)) free (refl, is_due ((world v).devices device) (now (world v)) Repeat due) may

pub closing_right : (v : RunState) (device : ℕ) → NothingCalled (seen v) → sending_at ((world v).devices device) (now (world v)) ≡ Some Closing → MayHappen (mode (seen v)) (world v) (DevClose device) → IsRight (seen v) (DevClose device)
closing_right v device free due may = free_right (seen v) (DevClose device) free (is_due ((world v).devices device) (now (world v)) Closing due) may

is_repeat : (d : GatewayExpired) → due_of d ≡ due.Repeat → IsGatewayRepeat d
is_repeat gateway.Nothing e = absurd (other e)
  where
    other : due.Nothing ≡ due.Repeat → ⊥
    other e = cc
is_repeat (gateway.Repeat frame) e = tt
is_repeat (gateway.Closing frame) e = absurd (other e)
  where
    other : due.Closed ≡ due.Repeat → ⊥
    other e = cc

is_closing : (d : GatewayExpired) → due_of d ≡ due.Closed → IsGatewayClosing d
is_closing gateway.Nothing e = absurd (other e)
  where
    other : due.Nothing ≡ due.Closed → ⊥
    other e = cc
is_closing (gateway.Repeat frame) e = absurd (other e)
  where
    other : due.Repeat ≡ due.Closed → ⊥
    other e = cc
is_closing (gateway.Closing frame) e = tt

pub gateway_repeats_right : (v : RunState) → NothingCalled (seen v) → due_of (gateway_due (world v).tunnel) ≡ due.Repeat → MayHappen (mode (seen v)) (world v) GwRepeat → IsRight (seen v) GwRepeat
gateway_repeats_right v free e may = free_right (seen v) GwRepeat free (is_repeat (gateway_due (world v).tunnel) e) may

pub gateway_closes_right : (v : RunState) → NothingCalled (seen v) → due_of (gateway_due (world v).tunnel) ≡ due.Closed → MayHappen (mode (seen v)) (world v) GwClose → IsRight (seen v) GwClose
gateway_closes_right v free e may = free_right (seen v) GwClose free (is_closing (gateway_due (world v).tunnel) e) may
