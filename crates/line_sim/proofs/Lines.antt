-- What is held of the line after each event.
use Rattle.std.proofs.Common.{◌≡◌, ℕ, Bool, true, false, not, ◌&&◌, ◌||◌, is_some, nat_lt, List, [], ◌∷◌, Option, Some, None, refl, ap, sym, subst, ◌∙◌, if◌then◌else◌}
use Rattle.knx_model.specs.declared.frames.cemi.Ldata.{Ldata}
use Rattle.knx_model.specs.declared.device.WriteKind.{WriteKind}
use Rattle.knx_model.specs.Device.{Effect, Nothing, is_write, written_front}
use Rattle.knx_model.specs.DeviceState.{DeviceState}
use Rattle.knx_model.specs.DeviceFrames.{Outcome, Torn, Worn, worn_octets, connection_took, effect_delivered, effect_of_frame, is_taken, takes, taken_again, took_of, would_write, write_kind}
use Rattle.knx_model.specs.DeviceSending.{pops, waiting_frame, repeat_frame, repeats}
use Rattle.line_model.specs.Counts.{write_of}
use Rattle.line_model.specs.Deliveries.{effect_at}
use Rattle.line_model.specs.Tunnel as tunnel
use Rattle.line_model.specs.Tunnel.{Tunnel, Carried, Heard, Elsewhere}
use Rattle.line_model.specs.World.{World, AtGateway, Comes, IsLost, Devices, Bus, BusAgain, BusTorn, BusWorn, DevSend, DevRepeat, all_take, carried, changed, confirmation, frame_by, heard, is_among, next_frame, none_if, one_takes, or_before, others_take, step, takes_it, repeat_at, waiting_at}
use Rattle.tunnel_sim.specs.Gateways.{confirmed}
use Rattle.line_sim.specs.Line.{LineNow, IsNow, effect_due, effect_on, frame_due, write_at, write_due}
use Rattle.line_sim.specs.Places.{DevicesNow, AreDevices, ComesTo, device_at, is_taken_by}
use Rattle.tunnel_sim.specs.Tunnels.{TunnelNow, IsTunnel}

-- ---- a frame of the client

-- none goes over the bus
pub bus_nothing : (n m : LineNow) (w : World) (left_out : List ℕ) → None ≡ next_frame w → IsNow n w → ((t : Tunnel) → IsTunnel n.tunnel t → IsTunnel m.tunnel (tunnel.step t Elsewhere)) → m.devices ≡ n.devices → m.echo ≡ n.echo
    → IsNow m (step w (Bus left_out))
bus_nothing n m w left_out none is goes devices echo = record {
  tunnel = subst (λ (f : Option Ldata). IsTunnel m.tunnel (tunnel.step w.tunnel (carried w left_out f))) none (goes w.tunnel is.tunnel);
  devices = subst (λ (f : Option Ldata). AreDevices m.devices (all_take w.tunnel.now left_out f w.devices)) none (subst (λ (d : DevicesNow). AreDevices d w.devices) (sym devices) is.devices);
  echo = subst (λ (f : Option Ldata). none_if f w.echo ≡ m.echo) none (is.echo ∙ sym echo);
}

-- what the confirmation says
confirms : (n : LineNow) (w : World) (left_out : List ℕ) (frame : Ldata) (is_confirmed : Bool) → IsNow n w → is_confirmed ≡ (frame.group || is_taken_by n.devices left_out frame) → confirmed frame is_confirmed ≡ confirmation w left_out frame
confirms n w left_out frame is_confirmed is e =
    ap (confirmed frame) (e ∙ ap (λ (o : Option DeviceState). frame.group || (not (is_among left_out frame.destination) && takes_it frame o)) (sym (is.devices frame.destination)))

pub bus_carries : (n m : LineNow) (w : World) (left_out : List ℕ) (frame : Ldata) (taken : Bool) → Some frame ≡ next_frame w → IsNow n w
    → ((t : Tunnel) → IsTunnel n.tunnel t → IsTunnel m.tunnel (tunnel.step t (Carried (confirmed frame taken)))) → ComesTo n.devices n.tunnel.now left_out frame m.devices → taken ≡ (frame.group || is_taken_by n.devices left_out frame) → m.echo ≡ None
    → IsNow m (step w (Bus left_out))
bus_carries n m w left_out frame taken due is goes comes e echo = record {
  tunnel = subst (λ (f : Option Ldata). IsTunnel m.tunnel (tunnel.step w.tunnel (carried w left_out f))) due
      (subst (λ (con : Ldata). IsTunnel m.tunnel (tunnel.step w.tunnel (Carried con))) (confirms n w left_out frame taken is e) (goes w.tunnel is.tunnel));
  devices = subst (λ (f : Option Ldata). AreDevices m.devices (all_take w.tunnel.now left_out f w.devices)) due
      (subst (λ (k : ℕ). AreDevices m.devices (all_take k left_out (Some frame) w.devices)) (sym is.tunnel.now) (comes w.devices is.devices));
  echo = subst (λ (f : Option Ldata). none_if f w.echo ≡ m.echo) due (sym echo);
}

-- ---- a frame of a device

pub sends_nothing : (n m : LineNow) (w : World) (device : ℕ) (at : AtGateway) (left_out : List ℕ) → None ≡ frame_by waiting_frame (device_at n.devices device) → IsNow n w
    → ((t : Tunnel) → IsTunnel n.tunnel t → IsTunnel m.tunnel (tunnel.step t Elsewhere)) → ((devices : Devices) → AreDevices n.devices devices → AreDevices m.devices (changed device pops devices)) → m.echo ≡ n.echo
    → IsNow m (step w (DevSend device at left_out))
sends_nothing n m w device at left_out none is goes leaves echo =
    let here : None ≡ waiting_at w device = none ∙ ap (frame_by waiting_frame) (sym (is.devices device)) in
    record {
      tunnel = subst (λ (f : Option Ldata). IsTunnel m.tunnel (tunnel.step w.tunnel (heard at f))) here (elsewhere at);
      devices = subst (λ (f : Option Ldata). AreDevices m.devices (changed device pops (others_take w.tunnel.now (device ∷ left_out) f w.devices))) here (leaves w.devices is.devices);
      echo = subst (λ (f : Option Ldata). or_before f w.echo ≡ m.echo) here (is.echo ∙ sym echo);
    }
  where
    elsewhere : (at : AtGateway) → IsTunnel m.tunnel (tunnel.step w.tunnel (heard at None))
    elsewhere Comes = goes w.tunnel is.tunnel
    elsewhere IsLost = goes w.tunnel is.tunnel

pub sends : (n mid m : LineNow) (w : World) (device : ℕ) (at : AtGateway) (left_out : List ℕ) (frame : Ldata) → Some frame ≡ frame_by waiting_frame (device_at n.devices device) → IsNow n w
    → ((t : Tunnel) → IsTunnel n.tunnel t → IsTunnel m.tunnel (tunnel.step t (heard at (Some frame))))
    → ((devices : Devices) → AreDevices n.devices devices → AreDevices mid.devices (others_take n.tunnel.now (device ∷ left_out) (Some frame) devices))
    → ((devices : Devices) → AreDevices mid.devices devices → AreDevices m.devices (changed device pops devices)) → m.echo ≡ Some frame
    → IsNow m (step w (DevSend device at left_out))
sends n mid m w device at left_out frame due is goes comes leaves echo =
    let here : Some frame ≡ waiting_at w device = due ∙ ap (frame_by waiting_frame) (sym (is.devices device)) in
    let others : Devices = others_take w.tunnel.now (device ∷ left_out) (Some frame) w.devices in
    let came : AreDevices mid.devices others = subst (λ (k : ℕ). AreDevices mid.devices (others_take k (device ∷ left_out) (Some frame) w.devices)) (sym is.tunnel.now) (comes w.devices is.devices) in
    record {
      tunnel = subst (λ (f : Option Ldata). IsTunnel m.tunnel (tunnel.step w.tunnel (heard at f))) here (goes w.tunnel is.tunnel);
      devices = subst (λ (f : Option Ldata). AreDevices m.devices (changed device pops (others_take w.tunnel.now (device ∷ left_out) f w.devices))) here (leaves others came);
      echo = subst (λ (f : Option Ldata). or_before f w.echo ≡ m.echo) here (sym echo);
    }

-- room was taken for more frames
pub roomy : (n : TunnelNow) (frames : List Ldata) (t : Tunnel) → frames ≡ n.gateway.waiting → IsTunnel n t → IsTunnel (record n { gateway = record n.gateway { waiting = frames } }) t
roomy n frames t same is = record {
  present = is.present;
  now = is.now;
  up = is.up;
  down = is.down;
  short = is.short;
  gateway = record { address = is.gateway.address; end = is.gateway.end; bus = is.gateway.bus; waiting = is.gateway.waiting ∙ sym same; made = is.gateway.made; acted = is.gateway.acted };
}

-- ---- a device takes again the frame that it got last

pub takes_again : (n m : LineNow) (w : World) (device : ℕ) → IsNow n w → ((t : Tunnel) → IsTunnel n.tunnel t → IsTunnel m.tunnel (tunnel.step t Elsewhere))
    → ((devices : Devices) → AreDevices n.devices devices → AreDevices m.devices (changed device (λ d. taken_again d n.tunnel.now) devices)) → m.echo ≡ n.echo → IsNow m (step w (BusAgain device))
takes_again n m w device is goes takes echo = record {
  tunnel = goes w.tunnel is.tunnel;
  devices = subst (λ (k : ℕ). AreDevices m.devices (changed device (λ d. taken_again d k) w.devices)) (sym is.tunnel.now) (takes w.devices is.devices);
  echo = is.echo ∙ sym echo;
}

-- ---- a device sends its answer again

nothing_heard : (m : TunnelNow) (t : Tunnel) (at : AtGateway) → IsTunnel m (tunnel.step t Elsewhere) → IsTunnel m (tunnel.step t (heard at None))
nothing_heard m t Comes is = is
nothing_heard m t IsLost is = is

pub repeats_so : (n m : LineNow) (w : World) (device : ℕ) (at : AtGateway) (f : Option Ldata) → f ≡ frame_by repeat_frame (device_at n.devices device) → IsNow n w
    → ((t : Tunnel) → IsTunnel n.tunnel t → IsTunnel m.tunnel (tunnel.step t (heard at f))) → ((devices : Devices) → AreDevices n.devices devices → AreDevices m.devices (changed device (λ d. repeats d n.tunnel.now) devices))
    → or_before f n.echo ≡ m.echo → IsNow m (step w (DevRepeat device at))
repeats_so n m w device at f due is goes sends echo =
    let here : f ≡ repeat_at w device = due ∙ ap (frame_by repeat_frame) (sym (is.devices device)) in
    record {
      tunnel = subst (λ (o : Option Ldata). IsTunnel m.tunnel (tunnel.step w.tunnel (heard at o))) here (goes w.tunnel is.tunnel);
      devices = subst (λ (k : ℕ). AreDevices m.devices (changed device (λ d. repeats d k) w.devices)) (sym is.tunnel.now) (sends w.devices is.devices);
      echo = subst (λ (o : Option Ldata). or_before o w.echo ≡ m.echo) here (ap (or_before f) is.echo ∙ echo);
    }

pub repeats_nothing : (n m : LineNow) (w : World) (device : ℕ) (at : AtGateway) → None ≡ frame_by repeat_frame (device_at n.devices device) → IsNow n w
    → ((t : Tunnel) → IsTunnel n.tunnel t → IsTunnel m.tunnel (tunnel.step t Elsewhere)) → ((devices : Devices) → AreDevices n.devices devices → AreDevices m.devices (changed device (λ d. repeats d n.tunnel.now) devices))
    → n.echo ≡ m.echo → IsNow m (step w (DevRepeat device at))
repeats_nothing n m w device at due is goes sends echo = repeats_so n m w device at None due is (λ t held. nothing_heard m.tunnel t at (goes t held)) sends echo

-- ---- a write is torn

either_way : (t : Bool) (o : Option WriteKind) → is_some o ≡ false → is_some (if t then o else o) ≡ false
either_way true o e = e
either_way false o e = e

-- only a frame that the device takes would be a write
write_is_taken : (d : DeviceState) (frame : Ldata) (t : Bool) → is_taken (took_of d frame) ≡ t → is_some (would_write d frame) ≡ true → t ≡ true
write_is_taken d frame true e h = refl
write_is_taken d frame false e h =
    let nothing : effect_of_frame d frame ≡ Nothing = ap (λ (b : Bool). if b && not frame.group then effect_delivered (connection_took d frame) else Nothing) e in
    let none : is_some (would_write d frame) ≡ false = ap (λ (x : Effect). is_some (if is_write d.kept x then write_kind x else None)) nothing ∙ either_way (is_write d.kept Nothing) None refl in
    cc

taken_so : (o : Option DeviceState) (frame : Ldata) → is_some (write_of o (Some frame)) ≡ true → takes_it frame o ≡ true
taken_so None frame h = cc
taken_so (Some d) frame h = write_is_taken d frame (is_taken (took_of d frame)) refl h

or_true : (s : Bool) → (s || true) ≡ true
or_true true = refl
or_true false = refl

-- the write of a frame that is due
of_due : (n : LineNow) (frame : Ldata) (o : Option Ldata) → Some frame ≡ o → is_some (write_at n.devices o) ≡ true → is_some (write_of (device_at n.devices frame.destination) (Some frame)) ≡ true
of_due n frame o e h = subst (λ (x : Option Ldata). is_some (write_at n.devices x) ≡ true) (sym e) h

-- the device that the frame is for has taken it so
record TookSo (m : LineNow) (w : World) (outcome : Outcome) : Type 0 where
  tunnel : IsTunnel m.tunnel (tunnel.step w.tunnel (carried w [] (next_frame w)))
  devices : AreDevices m.devices (one_takes w.tunnel.now outcome (next_frame w) w.devices)
  echo : none_if (next_frame w) w.echo ≡ m.echo

took_so : (n m : LineNow) (w : World) (frame : Ldata) (outcome : Effect → Outcome) → Some frame ≡ next_frame w → Some frame ≡ frame_due n → is_some (write_due n) ≡ true → IsNow n w
    → ((t : Tunnel) → IsTunnel n.tunnel t → IsTunnel m.tunnel (tunnel.step t (Carried (confirmed frame true))))
    → ((devices : Devices) → AreDevices n.devices devices → AreDevices m.devices (one_takes n.tunnel.now (outcome (effect_at (devices frame.destination) frame)) (Some frame) devices))
    → m.echo ≡ None → TookSo m w (outcome (effect_due n))
took_so n m w frame outcome due own write is goes takes echo =
    let taken : takes_it frame (w.devices frame.destination) ≡ true
    = ap (takes_it frame) (is.devices frame.destination) ∙ taken_so (device_at n.devices frame.destination) frame (of_due n frame (frame_due n) own write) in
    let confirms_it : confirmed frame true ≡ confirmation w [] frame = sym (ap (λ (b : Bool). confirmed frame (frame.group || b)) taken ∙ ap (confirmed frame) (or_true frame.group)) in
    let effect : effect_at (w.devices frame.destination) frame ≡ effect_due n = ap (λ (o : Option DeviceState). effect_at o frame) (is.devices frame.destination) ∙ ap (effect_on n.devices) own in
    record {
      tunnel = subst (λ (f : Option Ldata). IsTunnel m.tunnel (tunnel.step w.tunnel (carried w [] f))) due
          (subst (λ (con : Ldata). IsTunnel m.tunnel (tunnel.step w.tunnel (Carried con))) confirms_it (goes w.tunnel is.tunnel));
      devices = subst (λ (f : Option Ldata). AreDevices m.devices (one_takes w.tunnel.now (outcome (effect_due n)) f w.devices)) due
          (subst (λ (x : ℕ). AreDevices m.devices (one_takes x (outcome (effect_due n)) (Some frame) w.devices)) (sym is.tunnel.now)
          (subst (λ (x : Effect). AreDevices m.devices (one_takes n.tunnel.now (outcome x) (Some frame) w.devices)) effect (takes w.devices is.devices)));
      echo = subst (λ (f : Option Ldata). none_if f w.echo ≡ m.echo) due (sym echo);
    }

pub torn : (n m : LineNow) (w : World) (frame : Ldata) (k : ℕ) → Some frame ≡ next_frame w → Some frame ≡ frame_due n → is_some (write_due n) ≡ true → IsNow n w
    → ((t : Tunnel) → IsTunnel n.tunnel t → IsTunnel m.tunnel (tunnel.step t (Carried (confirmed frame true))))
    → ((devices : Devices) → AreDevices n.devices devices → AreDevices m.devices (one_takes n.tunnel.now (Torn (nat_lt 0 k) (written_front (effect_at (devices frame.destination) frame) k)) (Some frame) devices))
    → m.echo ≡ None → IsNow m (step w (BusTorn (nat_lt 0 k) (written_front (effect_due n) k)))
torn n m w frame k due own write is goes takes echo =
    let took : TookSo m w (Torn (nat_lt 0 k) (written_front (effect_due n) k)) = took_so n m w frame (λ e. Torn (nat_lt 0 k) (written_front e k)) due own write is goes takes echo in
    record { tunnel = took.tunnel; devices = took.devices; echo = took.echo }

pub worn : (n m : LineNow) (w : World) (frame : Ldata) → Some frame ≡ next_frame w → Some frame ≡ frame_due n → is_some (write_due n) ≡ true → IsNow n w
    → ((t : Tunnel) → IsTunnel n.tunnel t → IsTunnel m.tunnel (tunnel.step t (Carried (confirmed frame true))))
    → ((devices : Devices) → AreDevices n.devices devices → AreDevices m.devices (one_takes n.tunnel.now (Worn (worn_octets (effect_at (devices frame.destination) frame))) (Some frame) devices))
    → m.echo ≡ None → IsNow m (step w (BusWorn (worn_octets (effect_due n))))
worn n m w frame due own write is goes takes echo =
    let took : TookSo m w (Worn (worn_octets (effect_due n))) = took_so n m w frame (λ e. Worn (worn_octets e)) due own write is goes takes echo in
    record { tunnel = took.tunnel; devices = took.devices; echo = took.echo }
