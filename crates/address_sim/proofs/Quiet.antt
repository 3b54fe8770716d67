-- Where all is quiet it stays so while the gateway sends, the client gets datagrams, and time passes.
use Rattle.std.proofs.Common.{◌≡◌, ◌≢◌, ℕ, ◌+◌, ◌-◌, ◌<◌, Bool, true, false, List, [], ◌∷◌, length, Option, Some, None, refl, ap, sym, subst, ◌∙◌, arith, if◌then◌else◌}
use Rattle.knx_model.specs.declared.frames.cemi.Ldata.{Ldata}
use Rattle.knx_model.specs.Connection.{has_passed}
use Rattle.knx_model.specs.declared.frames.ip.IpFrame.TheVariants.{DisconnectRequest}
use Rattle.line_model.specs.Deliveries.{is_under_way, next_up, oldest}
use Rattle.line_model.specs.Follows.{IsGatewayRepeat, IsGatewayClosing}
use Rattle.line_model.specs.Gateway.{Gateway, Channel, Request, GatewayExpired, Nothing, Repeat, Closing, gateway_expired, channel_expired, request_expired, next_put, closed, closed_if_open}
use Rattle.line_model.specs.Tunnel as tunnel
use Rattle.line_model.specs.Tunnel.{Tunnel, Commissions, after, puts, made, repeats, repeats_request, closes}
use Rattle.network_sim.specs.declared.place.Reach.TheVariants.{Every, To}
use Rattle.network_sim.proofs.Over.{all_over}
use Rattle.tunnel_sim.specs.declared.gateway.Due.TheVariants as due
use Rattle.tunnel_sim.specs.Gateways.{due_of}
use Rattle.address_world.specs.AddressWorld.{AddressWorld, Down, GwRepeat, GwClose, Pass, step}
use Rattle.address_law.specs.Calm.{AllSent}
use Rattle.address_sim.specs.Follows.{IsStill}
use Rattle.address_sim.specs.Turns.{IsQuiet, IsCalm}

-- ---- what goes up, and waits for the bus

-- nothing goes up, and nothing waits for the bus
pub record IsEmpty (t : Tunnel) : Type 0 where
  pub up : next_up t ≡ None
  pub bus : t.gateway.bus ≡ []

puts_empty : (t : Tunnel) (o : Option (Channel × Ldata)) → IsEmpty t → IsEmpty (puts t o)
puts_empty t None is = is
puts_empty t (Some (c, frame)) is = record { up = is.up; bus = is.bus }

step_empty : (t : Tunnel) (e : tunnel.TunnelEvent) → IsEmpty (after t e) → IsEmpty (tunnel.step t e)
step_empty t e is = puts_empty (after t e) (next_put (after t e).gateway.channel (after t e).gateway.waiting) is

request_empty : (t : Tunnel) (c : Channel) (o : Option Request) → IsEmpty t → IsEmpty (repeats_request t c o)
request_empty t c None is = is
request_empty t c (Some r) is = record { up = is.up; bus = is.bus }

repeats_empty : (t : Tunnel) (o : Option Channel) → IsEmpty t → IsEmpty (repeats t o)
repeats_empty t None is = is
repeats_empty t (Some c) is = request_empty t c c.outstanding is

closed_so : (g : Gateway) (o : Option Channel) → g.channel ≡ o → g.bus ≡ [] → ((closed g).bus ≡ []) × ((closed g).makers ≡ g.makers)
closed_so g None e empty =
    let same : closed g ≡ closed_if_open g None = ap (closed_if_open g) e in
    (ap (λ (h : Gateway). h.bus) same ∙ empty, ap (λ (h : Gateway). h.makers) same)
closed_so g (Some c) e empty =
    let same : closed g ≡ closed_if_open g (Some c) = ap (closed_if_open g) e in
    (ap (λ (h : Gateway). h.bus) same, ap (λ (h : Gateway). h.makers) same)

closes_empty : (t : Tunnel) (o : Option Channel) → t.gateway.channel ≡ o → IsEmpty t → IsEmpty (closes t o)
closes_empty t None e is = is
closes_empty t (Some c) e is =
    let so = closed_so t.gateway (Some c) e is.bus in
    record {
      up = subst (λ (makers : List ℕ). oldest (λ age s. is_under_way (length makers) age s) 0 t.network.up ≡ None) (sym so.1) is.up;
      bus = so.0;
    }

pub quiet_of : (w v : AddressWorld) → IsQuiet w → (IsEmpty w.tunnel → IsEmpty v.tunnel) → v.units ≡ w.units → IsQuiet v
quiet_of w v quiet goes same =
    let empty : IsEmpty v.tunnel = goes (record { up = quiet.up; bus = quiet.bus }) in
    record { up = empty.up; bus = empty.bus; units = subst AllSent (sym same) quiet.units }

pub down_quiet : (w : AddressWorld) (age : ℕ) → IsQuiet w → IsQuiet (step w (Down age))
down_quiet w age quiet = quiet_of w (step w (Down age)) quiet (λ is. step_empty w.tunnel (tunnel.Down age) (record { up = is.up; bus = is.bus })) refl

pub repeat_quiet : (w : AddressWorld) → IsQuiet w → IsQuiet (step w GwRepeat)
repeat_quiet w quiet = quiet_of w (step w GwRepeat) quiet (λ is. step_empty w.tunnel tunnel.Repeat (repeats_empty w.tunnel w.tunnel.gateway.channel is)) refl

pub close_quiet : (w : AddressWorld) → IsQuiet w → IsQuiet (step w GwClose)
close_quiet w quiet = quiet_of w (step w GwClose) quiet (λ is. step_empty w.tunnel tunnel.Close (closes_empty w.tunnel w.tunnel.gateway.channel refl is)) refl

pub pass_quiet : (w : AddressWorld) (ms : ℕ) → IsQuiet w → IsQuiet (step w (Pass ms))
pass_quiet w ms quiet = quiet_of w (step w (Pass ms)) quiet (λ is. step_empty w.tunnel (tunnel.Pass ms) (record { up = is.up; bus = is.bus })) refl

-- ---- what the gateway has due

pub is_nothing : (x : GatewayExpired) → due_of x ≡ due.Nothing → x ≡ Nothing
is_nothing Nothing h = refl
is_nothing (Repeat frame) h = cc
is_nothing (Closing frame) h = cc

not_yet : (now : ℕ) → has_passed 1000 now now ≡ false
not_yet now = let none : now - now ≡ 0 = omega arith in grind arith

no_put : (c : Channel) (r : Request) (waiting : List Ldata) → next_put (Some (record c { outstanding = Some r })) waiting ≡ None
no_put c r [] = refl
no_put c r (frame ∷ waiting) = refl

abbrev pub Rests : Tunnel → ℕ → Type 0
Rests t now = gateway_expired t.gateway now ≡ Nothing

request_rests : (t : Tunnel) (c : Channel) (r : Request) → has_passed 120000 c.heard t.now ≡ false → Rests (tunnel.puts_next (repeats_request t c (Some r))) t.now
unfolding gateway_expired
request_rests t c r soon =
    let u : Tunnel = repeats_request t c (Some r) in
    let rests : Rests u t.now = rw (soon, not_yet t.now) refl in
    subst (λ (o : Option (Channel × Ldata)). Rests (puts u o) t.now) (sym (no_put c (record r { repeated = true; sent = t.now }) t.gateway.waiting)) rests

-- a request is outstanding, and after it is sent again nothing is due
pub record Repeats (t : Tunnel) : Type 0 where
  pub may : tunnel.MayHappen Commissions t tunnel.Repeat
  pub rests : Rests (tunnel.step t tunnel.Repeat) t.now
  pub due : IsGatewayRepeat (gateway_expired t.gateway t.now)

repeated_so : (t : Tunnel) (o : Option Channel) → t.gateway.channel ≡ o → due_of (channel_expired o t.now) ≡ due.Repeat → tunnel.HasOutstanding o × Rests (tunnel.puts_next (repeats t o)) t.now
repeated_so t None e h = cc
repeated_so t (Some c) e h = by_time (has_passed 120000 c.heard t.now) refl h
  where
    by_request : (q : Option Request) → c.outstanding ≡ q → has_passed 120000 c.heard t.now ≡ false → due_of (request_expired c q t.now) ≡ due.Repeat → (q ≢ None) × Rests (tunnel.puts_next (repeats_request t c q)) t.now
    by_request None is soon h = cc
    by_request (Some r) is soon h = ((λ none. cc), request_rests t c r soon)

    by_time : (b : Bool) → has_passed 120000 c.heard t.now ≡ b → due_of (if b then Closing (DisconnectRequest c.number) else request_expired c c.outstanding t.now) ≡ due.Repeat
        → tunnel.HasOutstanding (Some c) × Rests (tunnel.puts_next (repeats t (Some c))) t.now
    by_time true soon h = cc
    by_time false soon h = by_request c.outstanding refl soon h

is_repeated : (x : GatewayExpired) → due_of x ≡ due.Repeat → IsGatewayRepeat x
is_repeated Nothing h = cc
is_repeated (Repeat frame) h = tt
is_repeated (Closing frame) h = cc

pub repeats_so : (t : Tunnel) → due_of (gateway_expired t.gateway t.now) ≡ due.Repeat → Repeats t
unfolding gateway_expired
repeats_so t h =
    let so = repeated_so t t.gateway.channel refl h in
    record { may = so.0; rests = so.1; due = is_repeated (channel_expired t.gateway.channel t.now) h }

-- a channel is open, and after it is closed nothing is due
pub record Closes (t : Tunnel) : Type 0 where
  pub may : tunnel.MayHappen Commissions t tunnel.Close
  pub rests : Rests (tunnel.step t tunnel.Close) t.now
  pub due : IsGatewayClosing (gateway_expired t.gateway t.now)

closed_rests : (t : Tunnel) (c : Channel) → t.gateway.channel ≡ Some c → Rests (tunnel.puts_next (closes t (Some c))) t.now
unfolding gateway_expired
closed_rests t c e =
    let same : closed t.gateway ≡ closed_if_open t.gateway (Some c) = ap (closed_if_open t.gateway) e in
    subst (λ (h : Gateway). Rests (tunnel.puts_next (tunnel.sends_down (tunnel.with_gateway t h) c.endpoint (DisconnectRequest c.number))) t.now) (sym same) refl

closing_so : (t : Tunnel) (o : Option Channel) → t.gateway.channel ≡ o → due_of (channel_expired o t.now) ≡ due.Closed → tunnel.IsOpen o × Rests (tunnel.puts_next (closes t o)) t.now
closing_so t None e h = cc
closing_so t (Some c) e h = ((λ none. cc), closed_rests t c e)

is_closing : (x : GatewayExpired) → due_of x ≡ due.Closed → IsGatewayClosing x
is_closing Nothing h = cc
is_closing (Repeat frame) h = cc
is_closing (Closing frame) h = tt

pub closes_so : (t : Tunnel) → due_of (gateway_expired t.gateway t.now) ≡ due.Closed → Closes t
unfolding gateway_expired
closes_so t h =
    let so = closing_so t t.gateway.channel refl h in
    record { may = so.0; rests = so.1; due = is_closing (channel_expired t.gateway.channel t.now) h }

-- ---- nothing but time can go on

pub still : (w : AddressWorld) (ms : ℕ) → IsCalm w → ((k : ℕ) → k < ms → gateway_expired w.tunnel.gateway (w.tunnel.now + k) ≡ Nothing) → IsStill w ms
still w ms calm until = record {
  tunnel = record {
    up = all_over Every (made w.tunnel) w.tunnel.network.up calm.quiet.up;
    down = all_over (To w.tunnel.present) (made w.tunnel) w.tunnel.network.down calm.comes;
    bus = calm.quiet.bus;
  };
  gateway = calm.due;
  still = until;
  units = calm.quiet.units;
}
