-- The client's frame goes over the bus: what it is to tunnel, units and counts.
use Rattle.std.proofs.Common.{◌≡◌, ◌≢◌, ℕ, suc, Bool, true, false, not, ◌&&◌, ◌||◌, ◌==◌, List, [], ◌∷◌, Option, Some, None, refl, ap, sym, subst, ◌∙◌, if◌then◌else◌}
use Rattle.knx_model.specs.declared.frames.cemi.Ldata.{Ldata}
use Rattle.knx_model.specs.ApduReading.{option_map}
use Rattle.knx_model.specs.DeviceSending.{first_frame}
use Rattle.line_model.specs.Tunnel as tunnel
use Rattle.line_model.specs.Tunnel.{Tunnel, Commissions, Carried}
use Rattle.line_model.specs.World.{AtGateway, Comes, IsLost, heard, on_bus}
use Rattle.line_model.specs.Follows as follows
use Rattle.tunnel_sim.specs.declared.tunnel.sending.AtGateway.{AtGateway as HeldAtGateway}
use Rattle.tunnel_sim.specs.declared.tunnel.sending.AtGateway.TheVariants as held
use Rattle.tunnel_sim.specs.Tunnels.{TunnelNow, IsTunnel, at_gateway}
use Rattle.address_world.specs.declared.unit.UnitLoss.{UnitLoss}
use Rattle.address_world.specs.AddressWorld.{AddressWorld, AddressEvent, UnitState, Bus, Respond, all_get, broadcast, carried, carried_to, confirmation, gets, gets_broadcast, has_address, me, next_frame, oldest_at, tunnel_event, units_after, replay}
use Rattle.address_world.specs.AddressLegal.{MayHappen}
use Rattle.address_sim.specs.Follows.{IsCarriedSo, are_all, broadcasts, carriage_of, one_more_if}
use Rattle.address_sim.specs.Losses.{without}
use Rattle.address_sim.specs.Told.{is_broadcast}
use Rattle.tunnel_sim.specs.Gateways.{confirmed}

-- ---- a frame that waits

waits : (w : AddressWorld) (frame : Ldata) → next_frame w ≡ Some frame → w.tunnel.gateway.bus ≢ []
waits w frame is empty =
    let none : next_frame w ≡ None = ap (λ (frames : List Ldata). option_map (on_bus (me w)) (first_frame frames)) empty in
    cc

goes_over : (w : AddressWorld) (o : Option Ldata) → (o ≢ None → w.tunnel.gateway.bus ≢ []) → tunnel.MayHappen Commissions w.tunnel (carried w o)
goes_over w None some = tt
goes_over w (Some frame) some = some (λ none. cc)

pub bus_may : (w : AddressWorld) (frame : Ldata) (left_out : List ℕ) → next_frame w ≡ Some frame → MayHappen w (Bus left_out)
bus_may w frame left_out is = record { tunnel = goes_over w (next_frame w) (λ some. waits w frame is); units = λ none. cc }

pub nothing_waits : (w : AddressWorld) → next_frame w ≡ None → w.tunnel.gateway.bus ≡ []
nothing_waits w none = by_bus w.tunnel.gateway.bus none
  where
    by_bus : (frames : List Ldata) → option_map (on_bus (me w)) (first_frame frames) ≡ None → frames ≡ []
    by_bus [] e = refl
    by_bus (frame ∷ frames) e = cc

-- ---- its confirmation

pub carried_on : (w : AddressWorld) (frame : Ldata) (left_out : List ℕ) (is_confirmed : Bool) (n m : TunnelNow) → next_frame w ≡ Some frame → is_confirmed ≡ (frame.group || has_address frame.destination w.units)
    → ((t : Tunnel) → IsTunnel n t → IsTunnel m (tunnel.step t (Carried (confirmed frame is_confirmed)))) → (t : Tunnel) → IsTunnel n t → IsTunnel m (tunnel.step t (tunnel_event w (Bus left_out)))
carried_on w frame left_out is_confirmed n m next is goes t held =
    let confirmation_is : confirmed frame is_confirmed ≡ confirmation w frame = ap (confirmed frame) is in
    let event : Carried (confirmed frame is_confirmed) ≡ tunnel_event w (Bus left_out) = ap Carried confirmation_is ∙ ap (carried w) (sym next) in
    subst (λ (e : tunnel.TunnelEvent). IsTunnel m (tunnel.step t e)) event (goes t held)

parts : (a b : Bool) → (a && b) ≡ true → a ≡ true
parts true b e = refl
parts false b e = cc

-- a broadcast is to a group
pub to_a_group : (w : AddressWorld) (frame : Ldata) → is_broadcast frame ≡ true → true ≡ (frame.group || has_address frame.destination w.units)
to_a_group w frame all = ap (λ (b : Bool). b || has_address frame.destination w.units) (sym (parts frame.group (frame.destination == 0) all))

-- ---- the units

pub all_got : (w : AddressWorld) (frame : Ldata) (left_out : List ℕ) → next_frame w ≡ Some frame → all_get 0 left_out frame w.units ≡ units_after w (Bus left_out)
all_got w frame left_out is = ap (λ (o : Option Ldata). carried_to left_out o w.units) (sym is)

gets_nothing : (frame : Ldata) (u : UnitState) → is_broadcast frame ≡ false → gets_broadcast frame u ≡ u
gets_nothing frame u not = by_mode u.programming
  where
    nothing : broadcast frame ≡ None
    nothing = rw not refl

    by_mode : (b : Bool) → (if b then gets u (broadcast frame) else u) ≡ u
    by_mode true = rw nothing refl
    by_mode false = refl

none_get : (at : ℕ) (frame : Ldata) (units : List UnitState) → is_broadcast frame ≡ false → all_get at [] frame units ≡ units
none_get at frame [] not = refl
none_get at frame (u ∷ units) not = ap (λ (v : UnitState). v ∷ all_get (suc at) [] frame units) (gets_nothing frame u not) ∙ ap (λ (us : List UnitState). u ∷ us) (none_get (suc at) frame units not)

-- one that isn't a broadcast changes no unit
pub none_got : (w : AddressWorld) (frame : Ldata) → next_frame w ≡ Some frame → is_broadcast frame ≡ false → w.units ≡ units_after w (Bus [])
none_got w frame is not = sym (none_get 0 frame w.units not) ∙ all_got w frame [] is

-- ---- the text, and the counts

pub carried_so : (losses : List UnitLoss) (w : AddressWorld) (frame : Ldata) (n : ℕ) (left_out : List ℕ) → next_frame w ≡ Some frame → left_out ≡ carriage_of losses n frame → IsCarriedSo losses n (next_frame w) left_out
carried_so losses w frame n left_out is so = subst (λ (o : Option Ldata). IsCarriedSo losses n o left_out) (sym is) so

pub to_all : (losses : List UnitLoss) (n k : ℕ) (frame : Ldata) → is_broadcast frame ≡ true → n ≡ k → without losses n ≡ carriage_of losses k frame
to_all losses n k frame all same = rw (all, same) refl

pub to_none : (losses : List UnitLoss) (n : ℕ) (frame : Ldata) → is_broadcast frame ≡ false → [] ≡ carriage_of losses n frame
to_none losses n frame not = rw not refl

pub counts : (start : AddressWorld) (past : List AddressEvent) (left_out : List ℕ) (frame : Ldata) (b : Bool) → next_frame (replay start past) ≡ Some frame → is_broadcast frame ≡ b → one_more_if b (broadcasts start past) ≡ broadcasts start (Bus left_out ∷ past)
counts start past left_out frame b is all =
    ap (λ (c : Bool). one_more_if c (broadcasts start past)) (sym all) ∙ ap (λ (o : Option Ldata). one_more_if (are_all o) (broadcasts start past)) (sym is)

-- ---- a response

pub hears_may : (t : Tunnel) (at : AtGateway) (o : Option Ldata) → tunnel.MayHappen Commissions t (heard at o)
hears_may t Comes None = tt
hears_may t Comes (Some frame) = tt
hears_may t IsLost o = tt

pub heard_on : (w : AddressWorld) (place : ℕ) (at : HeldAtGateway) (frame : Ldata) (n m : TunnelNow) → oldest_at place w.units ≡ Some frame → ((t : Tunnel) → IsTunnel n t → IsTunnel m (tunnel.step t (heard (at_gateway at) (Some frame))))
    → (t : Tunnel) → IsTunnel n t → IsTunnel m (tunnel.step t (tunnel_event w (Respond place (at_gateway at))))
heard_on w place at frame n m is goes t held = subst (λ (o : Option Ldata). IsTunnel m (tunnel.step t (heard (at_gateway at) o))) (sym is) (goes t held)

pub respond_may : (w : AddressWorld) (place : ℕ) (at : AtGateway) (frame : Ldata) → oldest_at place w.units ≡ Some frame → MayHappen w (Respond place at)
respond_may w place at frame is = record { tunnel = hears_may w.tunnel at (oldest_at place w.units); units = λ none. cc }

pub heard_so : (lost : Bool) (at : HeldAtGateway) → (not lost ≡ true → at ≡ held.Comes) → (not lost ≡ false → at ≡ held.IsLost) → at_gateway at ≡ follows.at_gateway lost
heard_so false at comes lost = ap at_gateway (comes refl)
heard_so true at comes lost = ap at_gateway (lost refl)

-- ---- room was taken for more frames

pub roomy : (n : TunnelNow) (frames : List Ldata) (t : Tunnel) → frames ≡ n.gateway.waiting → IsTunnel n t → IsTunnel (record n { gateway = record n.gateway { waiting = frames } }) t
roomy n frames t same is = record {
  present = is.present;
  now = is.now;
  up = is.up;
  down = is.down;
  short = is.short;
  gateway = record { address = is.gateway.address; end = is.gateway.end; bus = is.gateway.bus; waiting = is.gateway.waiting ∙ sym same; made = is.gateway.made; acted = is.gateway.acted };
}
