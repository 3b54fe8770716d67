-- What a device or the gateway has to send it may send, and a memory write may be worn.
use Rattle.std.proofs.Common.{◌≡◌, ◌≢◌, ℕ, ◌-◌, Bool, true, false, not, ◌&&◌, List, [], ◌∷◌, Option, Some, None, refl, ap, ◌∙◌, arith, if◌then◌else◌}
use Rattle.std.proofs.lemmas.List.{length-map}
use Rattle.knx_model.specs.declared.connection.DeviceExpired.TheVariants as expired
use Rattle.knx_model.specs.declared.device.Sending.TheVariants.{Repeat}
use Rattle.knx_model.specs.declared.device.WriteKind.TheVariants.{Memory}
use Rattle.knx_model.specs.declared.frames.cemi.Ldata.{Ldata}
use Rattle.knx_model.specs.declared.frames.ip.IpFrame.{IpFrame}
use Rattle.knx_model.specs.Connection.{disconnect, has_passed, idle_wait}
use Rattle.knx_model.specs.Device.{Effect, Nothing, is_write}
use Rattle.knx_model.specs.DeviceConnection.{DeviceEnd, Closed, Idle, Answering, device_expired}
use Rattle.knx_model.specs.DeviceFrames.{AreOctets, MayTake, Worn, complements, connection_took, effect_delivered, effect_of_frame, is_taken, octets_sent, took_of, would_write, worn_octets, write_kind}
use Rattle.knx_model.specs.DeviceSending.{due_sending, next_sending, outstanding_frame, repeat_frame, sending_of}
use Rattle.knx_model.specs.DeviceState.{DeviceState}
use Rattle.line_model.specs.Gateway as gateway
use Rattle.line_model.specs.Gateway.{GatewayExpired, gateway_expired}
use Rattle.line_model.specs.Counts.{write_of}
use Rattle.line_model.specs.Deliveries.{effect_at}
use Rattle.line_model.specs.Legal.{MayHappen, OfDevice, CanRepeat}
use Rattle.line_model.specs.Tunnel as tunnel
use Rattle.line_model.specs.Tunnel.{Tunnel, Mode}
use Rattle.line_model.specs.World.{World, AtGateway, DevRepeat, GwClose, GwRepeat, now, repeat_at}
use Rattle.tunnel_sim.specs.declared.gateway.Due.TheVariants as due
use Rattle.line_sim.specs.Allowed.{MayGoSo}
use Rattle.tunnel_sim.specs.Gateways.{due_of}
use Rattle.line_sim.specs.Line.{LineNow, effect_due, effect_on, frame_due, write_at, write_due}
use Rattle.line_sim.specs.Places.{device_at, sending_at}
use Rattle.line_sim.proofs.Allowing.{hears}

-- ---- an answer that is due again

-- an answer is outstanding where one is due again
outstanding : (d : DeviceState) (at : ℕ) → due_sending (device_expired d.connection at) ≡ Some Repeat → repeat_frame d ≢ None
unfolding device_expired
outstanding d at h = by_end d.connection h
  where
    by_end : (e : DeviceEnd) → due_sending (device_expired e at) ≡ Some Repeat → outstanding_frame d.address e ≢ None
    by_end Closed h = λ none. cc
    by_end (Idle s) h = λ none. by_wait (has_passed idle_wait s.last at) h
      where
        by_wait : (t : Bool) → due_sending (if t then expired.Closed disconnect else expired.Nothing) ≡ Some Repeat → ⊥
        by_wait true h = cc
        by_wait false h = cc
    by_end (Answering s a) h = λ none. cc

pub can_repeat : (d : DeviceState) (at : ℕ) → next_sending d at ≡ Some Repeat → CanRepeat d
can_repeat d at h = by_unsent d.unsent refl h
  where
    by_unsent : (frames : List Ldata) → d.unsent ≡ frames → sending_of frames (device_expired d.connection at) ≡ Some Repeat → CanRepeat d
    by_unsent [] e h = record { nothing_older = e; outstanding = outstanding d at h }
    by_unsent (x ∷ frames) e h = cc

pub may_repeat : (mode : Mode) (w : World) (device : ℕ) (gateway : AtGateway) → sending_at (w.devices device) (now w) ≡ Some Repeat → MayHappen mode w (DevRepeat device gateway)
may_repeat mode w device gateway h = record { tunnel = hears mode w.tunnel gateway (repeat_at w device); devices = by_there (w.devices device) h }
  where
    by_there : (o : Option DeviceState) → sending_at o (now w) ≡ Some Repeat → OfDevice CanRepeat o
    by_there None h = cc
    by_there (Some d) h = can_repeat d (now w) h

-- ---- the gateway, by the law of what it has due

pub gateway_repeats : ((mode : Mode) (t : Tunnel) (frame : IpFrame) → gateway_expired t.gateway t.now ≡ gateway.Repeat frame → tunnel.MayHappen mode t tunnel.Repeat)
    → (mode : Mode) (w : World) → due_of (gateway_expired w.tunnel.gateway (now w)) ≡ due.Repeat → MayHappen mode w GwRepeat
gateway_repeats law mode w h = by_due (gateway_expired w.tunnel.gateway (now w)) refl h
  where
    by_due : (x : GatewayExpired) → gateway_expired w.tunnel.gateway (now w) ≡ x → due_of x ≡ due.Repeat → MayHappen mode w GwRepeat
    by_due gateway.Nothing e h = cc
    by_due (gateway.Repeat frame) e h = record { tunnel = law mode w.tunnel frame e; devices = tt }
    by_due (gateway.Closing frame) e h = cc

pub gateway_closes : ((mode : Mode) (t : Tunnel) (frame : IpFrame) → gateway_expired t.gateway t.now ≡ gateway.Closing frame → tunnel.MayHappen mode t tunnel.Close)
    → (mode : Mode) (w : World) → due_of (gateway_expired w.tunnel.gateway (now w)) ≡ due.Closed → MayHappen mode w GwClose
gateway_closes law mode w h = by_due (gateway_expired w.tunnel.gateway (now w)) refl h
  where
    by_due : (x : GatewayExpired) → gateway_expired w.tunnel.gateway (now w) ≡ x → due_of x ≡ due.Closed → MayHappen mode w GwClose
    by_due gateway.Nothing e h = cc
    by_due (gateway.Repeat frame) e h = cc
    by_due (gateway.Closing frame) e h = record { tunnel = law mode w.tunnel frame e; devices = tt }

-- ---- worn memory

complements_are_octets : (octets : List ℕ) → AreOctets (complements octets)
complements_are_octets [] = tt
complements_are_octets (x ∷ octets) = (omega arith, complements_are_octets octets)

-- only a frame for one device would be a write
write_is_alone : (d : DeviceState) (frame : Ldata) → would_write d frame ≡ Some Memory → frame.group ≡ false
write_is_alone d frame h = by_group frame.group refl
  where
    by_taken : (t : Bool) → (if t && not true then effect_delivered (connection_took d frame) else Nothing) ≡ Nothing
    by_taken true = refl
    by_taken false = refl

    none : (t : Bool) → (if t then write_kind Nothing else None) ≡ None
    none true = refl
    none false = refl

    by_group : (g : Bool) → frame.group ≡ g → frame.group ≡ false
    by_group false e = e
    by_group true e =
        let nothing : effect_of_frame d frame ≡ Nothing = ap (λ (b : Bool). if is_taken (took_of d frame) && not b then effect_delivered (connection_took d frame) else Nothing) e ∙ by_taken (is_taken (took_of d frame)) in
        let no_write : would_write d frame ≡ None = ap (λ (x : Effect). if is_write d.kept x then write_kind x else None) nothing ∙ none (is_write d.kept Nothing) in
        cc

pub may_wear : (n : LineNow) → write_due n ≡ Some Memory → MayGoSo n (Worn (worn_octets (effect_due n))) (frame_due n)
may_wear n h = by_frame (frame_due n) h
  where
    by_device : (frame : Ldata) (o : Option DeviceState) → write_of o (Some frame) ≡ Some Memory → (frame.group ≡ false) × OfDevice (λ d. MayTake d frame (Worn (worn_octets (effect_at o frame)))) o
    by_device frame None h = cc
    by_device frame (Some d) h = (
      write_is_alone d frame h,
      record {
        write = h;
        each = length-map (octets_sent (effect_of_frame d frame)) (λ (octet : ℕ). 255 - octet);
        eight_bits = complements_are_octets (octets_sent (effect_of_frame d frame));
      },
    )

    by_frame : (o : Option Ldata) → write_at n.devices o ≡ Some Memory → MayGoSo n (Worn (worn_octets (effect_on n.devices o))) o
    by_frame None h = cc
    by_frame (Some frame) h = let both = by_device frame (device_at n.devices frame.destination) h in record { alone = both.0; device = both.1 }
