-- How far one event brings what is counted of a tunnel.
use Rattle.std.proofs.Common.{◌≡◌, ℕ, zero, suc, ◌+◌, ◌≤◌, Bool, true, false, List, [], ◌∷◌, length, Option, Some, None, refl, ap, sym, subst, arith}
use Rattle.std.specs.Prelude.{slice_get}
use Rattle.knx_model.specs.declared.frames.cemi.Ldata.{Ldata}
use Rattle.knx_model.specs.declared.frames.ip.IpFrame.{IpFrame}
use Rattle.line_model.specs.Gateway.{Gateway, GatewayTook, Channel, Request, closed, closed_if_open, gateway_took, next_put}
use Rattle.line_model.specs.Network.{Sent, changed_at, gone, once_more}
use Rattle.line_model.specs.Reading.{datagram_in}
use Rattle.line_model.specs.Tunnel as tunnel
use Rattle.line_model.specs.Tunnel.{Tunnel, TunnelEvent, Commissions, Send, From, Renew, Up, UpRefused, Down, LoseUp, LoseDown, Carried, Heard, Repeat, Close, Pass, Elsewhere, after, closes, fresh, made, puts, refuses, repeats, repeats_request, sends_down_if, takes_frame, takes_sent, with_gateway}
use Rattle.tunnel_sim.specs.Gateways.{and_one}
use Rattle.tunnel_sim.proofs.Taking.{Leaves, gateway_leaves}

-- one tunnel is no farther than another and so much
pub record Within (t u : Tunnel) (endpoints channels requests ups downs : ℕ) : Type 0 where
  pub present : u.present ≤ t.present + endpoints
  pub made : length u.gateway.makers ≤ length t.gateway.makers + channels
  pub acted : length u.gateway.acted ≤ length t.gateway.acted + requests
  pub up : length u.network.up ≤ length t.network.up + ups
  pub down : length u.network.down ≤ length t.network.down + downs

farther : (t u v : Tunnel) (p m a x y p' m' a' x' y' : ℕ) → Within t u p m a x y → Within u v p' m' a' x' y' → Within t v (p + p') (m + m') (a + a') (x + x') (y + y')
farther t u v p m a x y p' m' a' x' y' one more =
    record { present = omega (arith, one.present, more.present); made = omega (arith, one.made, more.made); acted = omega (arith, one.acted, more.acted); up = omega (arith, one.up, more.up); down = omega (arith, one.down, more.down) }

-- ---- what the gateway sends

puts_within : (t : Tunnel) (o : Option (Channel × Ldata)) → Within t (puts t o) 0 0 0 0 1
puts_within t None = record { present = omega arith; made = omega arith; acted = omega arith; up = omega arith; down = omega arith }
puts_within t (Some (c, frame)) = record { present = omega arith; made = omega arith; acted = omega arith; up = omega arith; down = omega arith }

sends_within : (t : Tunnel) (to : ℕ) (o : Option IpFrame) → Within t (sends_down_if t to o) 0 0 0 0 1
sends_within t to None = record { present = omega arith; made = omega arith; acted = omega arith; up = omega arith; down = omega arith }
sends_within t to (Some frame) = record { present = omega arith; made = omega arith; acted = omega arith; up = omega arith; down = omega arith }

one_more : (b : Bool) (n : ℕ) → and_one b n ≤ n + 1
one_more true n = omega arith
one_more false n = omega arith

gateway_within : (t : Tunnel) (from : ℕ) (frame : IpFrame) → Within t (with_gateway t (gateway_took t.gateway from t.now frame).after) 0 1 1 0 0
gateway_within t from frame =
    let leaves : Leaves t.gateway from frame (gateway_took t.gateway from t.now frame) = gateway_leaves t.gateway from t.now frame in
    record { present = omega arith; made = subst (λ (n : ℕ). n ≤ length t.gateway.makers + 1) (sym leaves.made) (one_more _ _); acted = subst (λ (n : ℕ). n ≤ length t.gateway.acted + 1) (sym leaves.acted) (one_more _ _); up = omega arith; down = omega arith }

takes_frame_within : (t : Tunnel) (from : ℕ) (o : Option IpFrame) → Within t (takes_frame t from o) 0 1 1 0 1
takes_frame_within t from None = record { present = omega arith; made = omega arith; acted = omega arith; up = omega arith; down = omega arith }
takes_frame_within t from (Some frame) =
    let took : GatewayTook = gateway_took t.gateway from t.now frame in
    farther t (with_gateway t took.after) (sends_down_if (with_gateway t took.after) from took.send) 0 1 1 0 0 0 0 0 0 1 (gateway_within t from frame) (sends_within (with_gateway t took.after) from took.send)

takes_within : (t : Tunnel) (o : Option Sent) → Within t (takes_sent t o) 0 1 1 0 1
takes_within t None = record { present = omega arith; made = omega arith; acted = omega arith; up = omega arith; down = omega arith }
takes_within t (Some s) = takes_frame_within t s.endpoint (datagram_in s.octets)

refuses_within : (t : Tunnel) (status : ℕ) (o : Option Sent) → Within t (refuses t status o) 0 0 0 0 1
refuses_within t status None = record { present = omega arith; made = omega arith; acted = omega arith; up = omega arith; down = omega arith }
refuses_within t status (Some s) = record { present = omega arith; made = omega arith; acted = omega arith; up = omega arith; down = omega arith }

request_within : (t : Tunnel) (c : Channel) (o : Option Request) → Within t (repeats_request t c o) 0 0 0 0 1
request_within t c None = record { present = omega arith; made = omega arith; acted = omega arith; up = omega arith; down = omega arith }
request_within t c (Some r) = record { present = omega arith; made = omega arith; acted = omega arith; up = omega arith; down = omega arith }

repeats_within : (t : Tunnel) (o : Option Channel) → Within t (repeats t o) 0 0 0 0 1
repeats_within t None = record { present = omega arith; made = omega arith; acted = omega arith; up = omega arith; down = omega arith }
repeats_within t (Some c) = request_within t c c.outstanding

closed_makers : (g : Gateway) (o : Option Channel) → length (closed_if_open g o).makers ≡ length g.makers
closed_makers g None = refl
closed_makers g (Some c) = refl

closed_acted : (g : Gateway) (o : Option Channel) → length (closed_if_open g o).acted ≡ length g.acted
closed_acted g None = refl
closed_acted g (Some c) = refl

closes_within : (t : Tunnel) (o : Option Channel) → Within t (closes t o) 0 0 0 0 1
closes_within t None = record { present = omega arith; made = omega arith; acted = omega arith; up = omega arith; down = omega arith }
closes_within t (Some c) =
    let makers : length (closed t.gateway).makers ≡ length t.gateway.makers = closed_makers t.gateway t.gateway.channel in
    let acted : length (closed t.gateway).acted ≡ length t.gateway.acted = closed_acted t.gateway t.gateway.channel in
    record { present = omega arith; made = omega (arith, makers); acted = omega (arith, acted); up = omega arith; down = omega arith }

-- ---- an event

changed_length : (age : ℕ) (change : Sent → Sent) (sent : List Sent) → length (changed_at age change sent) ≡ length sent
changed_length age change [] = refl
changed_length zero change (s ∷ rest) = refl
changed_length (suc age) change (s ∷ rest) = ap suc (changed_length age change rest)

-- datagrams up are changed, and none is added
abbrev with_ups : Tunnel → List Sent → Tunnel
with_ups t up = tunnel.with_up t up

ups_within : (t : Tunnel) (up : List Sent) → length up ≡ length t.network.up → Within t (with_ups t up) 0 0 0 0 0
ups_within t up same = record { present = omega arith; made = omega arith; acted = omega arith; up = omega (arith, same); down = omega arith }

downs_within : (t : Tunnel) (down : List Sent) → length down ≡ length t.network.down → Within t (tunnel.with_down t down) 0 0 0 0 0
downs_within t down same = record { present = omega arith; made = omega arith; acted = omega arith; up = omega arith; down = omega (arith, same) }

-- so much at most
loosely : (t u : Tunnel) (p m a x y p' m' a' x' y' : ℕ) → p ≤ p' → m ≤ m' → a ≤ a' → x ≤ x' → y ≤ y' → Within t u p m a x y → Within t u p' m' a' x' y'
loosely t u p m a x y p' m' a' x' y' hp hm ha hx hy is =
    record { present = omega (arith, is.present, hp); made = omega (arith, is.made, hm); acted = omega (arith, is.acted, ha); up = omega (arith, is.up, hx); down = omega (arith, is.down, hy) }

-- a client at another endpoint than the present one may come from afar
abbrev pub farthest : TunnelEvent → ℕ
farthest (From endpoint octets) = endpoint
farthest _ = 1

event_within : (t : Tunnel) (e : TunnelEvent) → Within t (after t e) (farthest e) 1 1 1 1
event_within t (Send octets) = record { present = omega arith; made = omega arith; acted = omega arith; up = omega arith; down = omega arith }
event_within t (From endpoint octets) = record { present = omega arith; made = omega arith; acted = omega arith; up = omega arith; down = omega arith }
event_within t Renew = record { present = omega arith; made = omega arith; acted = omega arith; up = omega arith; down = omega arith }
event_within t (Up age) =
    let up : List Sent = changed_at age once_more t.network.up in
    loosely t (takes_sent (with_ups t up) (slice_get t.network.up age)) 0 1 1 0 1 1 1 1 1 1 (omega arith) (omega arith) (omega arith) (omega arith) (omega arith)
    (farther t (with_ups t up) (takes_sent (with_ups t up) (slice_get t.network.up age)) 0 0 0 0 0 0 1 1 0 1 (ups_within t up (changed_length age once_more t.network.up)) (takes_within (with_ups t up) (slice_get t.network.up age)))
event_within t (UpRefused age status) =
    let up : List Sent = changed_at age once_more t.network.up in
    loosely t (refuses (with_ups t up) status (slice_get t.network.up age)) 0 0 0 0 1 1 1 1 1 1 (omega arith) (omega arith) (omega arith) (omega arith) (omega arith)
    (farther t (with_ups t up) (refuses (with_ups t up) status (slice_get t.network.up age)) 0 0 0 0 0 0 0 0 0 1 (ups_within t up (changed_length age once_more t.network.up)) (refuses_within (with_ups t up) status (slice_get t.network.up age)))
event_within t (Down age) = loosely t _ 0 0 0 0 0 1 1 1 1 1 (omega arith) (omega arith) (omega arith) (omega arith) (omega arith) (downs_within t _ (changed_length age once_more t.network.down))
event_within t (LoseUp age) = loosely t _ 0 0 0 0 0 1 1 1 1 1 (omega arith) (omega arith) (omega arith) (omega arith) (omega arith) (ups_within t _ (changed_length age gone t.network.up))
event_within t (LoseDown age) = loosely t _ 0 0 0 0 0 1 1 1 1 1 (omega arith) (omega arith) (omega arith) (omega arith) (omega arith) (downs_within t _ (changed_length age gone t.network.down))
event_within t (Carried confirmation) = record { present = omega arith; made = omega arith; acted = omega arith; up = omega arith; down = omega arith }
event_within t (Heard frames) = record { present = omega arith; made = omega arith; acted = omega arith; up = omega arith; down = omega arith }
event_within t Repeat = loosely t (repeats t t.gateway.channel) 0 0 0 0 1 1 1 1 1 1 (omega arith) (omega arith) (omega arith) (omega arith) (omega arith) (repeats_within t t.gateway.channel)
event_within t Close = loosely t (closes t t.gateway.channel) 0 0 0 0 1 1 1 1 1 1 (omega arith) (omega arith) (omega arith) (omega arith) (omega arith) (closes_within t t.gateway.channel)
event_within t (Pass ms) = record { present = omega arith; made = omega arith; acted = omega arith; up = omega arith; down = omega arith }
event_within t Elsewhere = record { present = omega arith; made = omega arith; acted = omega arith; up = omega arith; down = omega arith }

pub step_within : (t : Tunnel) (e : TunnelEvent) → Within t (tunnel.step t e) (farthest e + 0) 1 1 1 2
step_within t e = farther t (after t e) (tunnel.step t e) (farthest e) 1 1 1 1 0 0 0 0 1 (event_within t e) (puts_within (after t e) (next_put (after t e).gateway.channel (after t e).gateway.waiting))

-- the client alone takes an endpoint, and the next one
pub one_on : (t : Tunnel) (e : TunnelEvent) → tunnel.MayHappen Commissions t e → farthest e ≡ 1
one_on t (From endpoint octets) h = absurd h
one_on t e h = refl
