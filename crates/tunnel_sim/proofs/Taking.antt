-- What a frame of the client leaves of the gateway's queues and counts, told by the channel's endpoint before and after.
use Rattle.std.proofs.Common.{◌≡◌, ℕ, ◌-◌, ◌^◌, ◌<◌, ◌==◌, Bool, true, false, not, ◌&&◌, is_some, List, [], length, Option, Some, None, refl, ap, sym, subst, ◌∙◌, arith, if◌then◌else◌}
use Rattle.knx_model.specs.declared.frames.cemi.Ldata.{Ldata}
use Rattle.knx_model.specs.declared.frames.ip.IpFrame.{IpFrame}
use Rattle.knx_model.specs.declared.frames.ip.IpFrame.TheVariants.{ConnectRequest, ConnectResponse, StateRequest, StateResponse, DisconnectRequest, DisconnectResponse, TunnellingRequest, TunnellingAck}
use Rattle.line_model.specs.declared.gateway_end.GatewayTook.{GatewayTook as Answer}
use Rattle.line_model.specs.Gateway.{Gateway, GatewayTook, Channel, next_number, took, hears, gateway_took, request_took, acknowledged, connects, names, drops, answers, makes, closed_if_open, is_put}
use Rattle.line_model.specs.GatewayEnd.{GatewayEnd, TookAs, endpoint_of}
use Rattle.network_sim.specs.Window.{capped}
use Rattle.tunnel_sim.specs.Gateways.{GatewayNow, IsGateway, CanCount, and_one, is_another, is_left, makes_one, dropped_if, joined}

-- the queues and counts after a frame
pub record Leaves (g : Gateway) (from : ℕ) (frame : IpFrame) (t : GatewayTook) : Type 0 where
  pub tunnel : t.after.tunnel ≡ g.tunnel
  pub bus : t.after.bus ≡ joined (dropped_if (is_left (endpoint_of g.channel) (endpoint_of t.after.channel)) g.bus) t.acted
  pub waiting : t.after.waiting ≡ dropped_if (is_left (endpoint_of g.channel) (endpoint_of t.after.channel)) g.waiting
  pub made : length t.after.makers ≡ and_one (makes_one frame (endpoint_of g.channel) from) (length g.makers)
  pub acted : length t.after.acted ≡ and_one (is_some t.acted) (length g.acted)

-- ---- tests

itself : (n : ℕ) → (n == n) ≡ true
itself n = grind arith

stays : (client : Option ℕ) → is_left client client ≡ false
stays None = refl
stays (Some n) = ap not (itself n)

leaves_if : (g : Gateway) (from : ℕ) (frame : IpFrame) (b : Bool) (t u : GatewayTook) → (b ≡ true → Leaves g from frame t) → (b ≡ false → Leaves g from frame u) → Leaves g from frame (if b then t else u)
leaves_if g from frame true t u this that = this refl
leaves_if g from frame false t u this that = that refl

-- ---- the channel's client stays, and no channel is made

kept : (g : Gateway) (from : ℕ) (frame : IpFrame) (t : GatewayTook) → t.after.tunnel ≡ g.tunnel → t.after.bus ≡ joined g.bus t.acted → t.after.waiting ≡ g.waiting → t.after.makers ≡ g.makers
    → length t.after.acted ≡ and_one (is_some t.acted) (length g.acted) → makes_one frame (endpoint_of g.channel) from ≡ false → endpoint_of t.after.channel ≡ endpoint_of g.channel → Leaves g from frame t
kept g from frame t tunnel bus waiting makers acted none client =
    let left : is_left (endpoint_of g.channel) (endpoint_of t.after.channel) ≡ false = ap (is_left (endpoint_of g.channel)) client ∙ stays (endpoint_of g.channel) in
    record {
      tunnel = tunnel;
      bus = bus ∙ ap (λ (b : Bool). joined (dropped_if b g.bus) t.acted) (sym left);
      waiting = waiting ∙ ap (λ (b : Bool). dropped_if b g.waiting) (sym left);
      made = ap length makers ∙ ap (λ (b : Bool). and_one b (length g.makers)) (sym none);
      acted = acted;
    }

dropped : (g : Gateway) (from : ℕ) (frame : IpFrame) → makes_one frame (endpoint_of g.channel) from ≡ false → Leaves g from frame (drops g)
dropped g from frame none = kept g from frame (drops g) refl refl refl refl refl none refl

answered : (g : Gateway) (from : ℕ) (frame answer : IpFrame) → makes_one frame (endpoint_of g.channel) from ≡ false → Leaves g from frame (answers answer g)
answered g from frame answer none = kept g from frame (answers answer g) refl refl refl refl refl none refl

-- ---- the channel closes

closed_is : (g : Gateway) (c : Channel) → g.channel ≡ Some c → closed_if_open g g.channel ≡ record g { channel = None; bus = []; waiting = [] }
closed_is g c is = ap (closed_if_open g) is

-- ---- a connect request

connected_so : (g : Gateway) (from now : ℕ) (c : Channel) (t : Bool) → (c.endpoint == from) ≡ t → g.channel ≡ Some c → (one other : IpFrame)
    → Leaves g from ConnectRequest (if t then answers one g else answers other (makes (closed_if_open g g.channel) from now))
connected_so g from now c true e is one other = answered g from _ one (ap (λ (o : Option Channel). is_another (endpoint_of o) from) is ∙ ap not e)
connected_so g from now c false e is one other =
    let left : is_left (endpoint_of g.channel) (Some from) ≡ true = ap (λ (o : Option Channel). is_left (endpoint_of o) (Some from)) is ∙ ap not e in
    let makes_it : is_another (endpoint_of g.channel) from ≡ true = ap (λ (o : Option Channel). is_another (endpoint_of o) from) is ∙ ap not e in
    subst (λ (h : Gateway). Leaves g from ConnectRequest (answers other (makes h from now))) (sym (closed_is g c is)) (record {
      tunnel = refl;
      bus = ap (λ (b : Bool). dropped_if b g.bus) (sym left);
      waiting = ap (λ (b : Bool). dropped_if b g.waiting) (sym left);
      made = ap (λ (b : Bool). and_one b (length g.makers)) (sym makes_it);
      acted = refl;
    })

connected : (g : Gateway) (from now : ℕ) (channel : Option Channel) → g.channel ≡ channel → Leaves g from ConnectRequest (connects g from now channel)
connected g from now None is = record {
  tunnel = refl;
  bus = ap (λ (c : Option Channel). dropped_if (is_left (endpoint_of c) (Some from)) g.bus) (sym is);
  waiting = ap (λ (c : Option Channel). dropped_if (is_left (endpoint_of c) (Some from)) g.waiting) (sym is);
  made = ap (λ (c : Option Channel). and_one (is_another (endpoint_of c) from) (length g.makers)) (sym is);
  acted = refl;
}
connected g from now (Some c) is = connected_so g from now c (c.endpoint == from) refl is _ _

-- ---- a disconnect request

closes : (g : Gateway) (from n : ℕ) (answer : IpFrame) (channel : Option Channel) → g.channel ≡ channel → names from n channel ≡ true → Leaves g from (DisconnectRequest n) (answers answer (closed_if_open g g.channel))
closes g from n answer None is e = cc
closes g from n answer (Some c) is e =
    let left : is_left (endpoint_of g.channel) None ≡ true = ap (λ (o : Option Channel). is_left (endpoint_of o) None) is in
    subst (λ (h : Gateway). Leaves g from (DisconnectRequest n) (answers answer h)) (sym (closed_is g c is)) (record {
      tunnel = refl;
      bus = ap (λ (b : Bool). dropped_if b g.bus) (sym left);
      waiting = ap (λ (b : Bool). dropped_if b g.waiting) (sym left);
      made = refl;
      acted = refl;
    })

-- ---- a request and an acknowledgement

requested : (g : Gateway) (from channel number : ℕ) (cemi : List ℕ) (at : Option Channel) → g.channel ≡ at → Leaves g from (TunnellingRequest channel number cemi) (request_took g at number cemi)
requested g from channel number cemi None is = dropped g from _ refl
requested g from channel number cemi (Some c) is = leaves_if g from _ (number == c.expected) _ _
    (λ e. kept g from _ _ refl refl refl refl refl refl (ap endpoint_of (sym is)))
    (λ e. leaves_if g from _ (next_number number == c.expected) _ _ (λ e. answered g from _ _ refl) (λ e. dropped g from _ refl))

settled : (c : Channel) (number status : ℕ) (t : Bool) → (if t then record c { own = next_number c.own; outstanding = None } else c).endpoint ≡ c.endpoint
settled c number status true = refl
settled c number status false = refl

acknowledges : (g : Gateway) (from channel number status : ℕ) (at : Option Channel) → g.channel ≡ at → Leaves g from (TunnellingAck channel number status) (drops (acknowledged g at number status))
acknowledges g from channel number status None is = dropped g from _ refl
acknowledges g from channel number status (Some c) is =
    kept g from _ _ refl refl refl refl refl refl (ap (λ (n : ℕ). Some n) (settled c number status (is_put c.outstanding && (number == c.own) && (status == 0))) ∙ ap endpoint_of (sym is))

-- ---- every frame

took_leaves : (g : Gateway) (from now : ℕ) (frame : IpFrame) → Leaves g from frame (took g from now frame)
took_leaves g from now ConnectRequest = connected g from now g.channel refl
took_leaves g from now (ConnectResponse channel status tunnel) = dropped g from _ refl
took_leaves g from now (StateRequest n) = leaves_if g from _ (names from n g.channel) _ _ (λ e. answered g from _ _ refl) (λ e. dropped g from _ refl)
took_leaves g from now (StateResponse channel status) = dropped g from _ refl
took_leaves g from now (DisconnectRequest n) = leaves_if g from _ (names from n g.channel) _ _ (λ e. closes g from n _ g.channel refl e) (λ e. answered g from _ _ refl)
took_leaves g from now (DisconnectResponse channel status) = dropped g from _ refl
took_leaves g from now (TunnellingRequest n number cemi) = leaves_if g from _ (names from n g.channel) _ _ (λ e. requested g from n number cemi g.channel refl) (λ e. dropped g from _ refl)
took_leaves g from now (TunnellingAck n number status) = leaves_if g from _ (names from n g.channel) _ _ (λ e. acknowledges g from n number status g.channel refl) (λ e. dropped g from _ refl)

-- what was heard is the channel's alone
heard_client : (channel : Option Channel) (from now : ℕ) → endpoint_of (hears channel from now) ≡ endpoint_of channel
heard_client None from now = refl
heard_client (Some c) from now = heard_so c from now (c.endpoint == from)
  where
    heard_so : (c : Channel) (from now : ℕ) (t : Bool) → endpoint_of (if t then Some (record c { heard = now }) else Some c) ≡ Some c.endpoint
    heard_so c from now true = refl
    heard_so c from now false = refl

pub gateway_leaves : (g : Gateway) (from now : ℕ) (frame : IpFrame) → Leaves g from frame (gateway_took g from now frame)
unfolding gateway_took
gateway_leaves g from now frame =
    let leaves : Leaves (record g { channel = hears g.channel from now }) from frame (took (record g { channel = hears g.channel from now }) from now frame) = took_leaves (record g { channel = hears g.channel from now }) from now frame in
    let client : endpoint_of (hears g.channel from now) ≡ endpoint_of g.channel = heard_client g.channel from now in
    let after : GatewayTook = took (record g { channel = hears g.channel from now }) from now frame in
    record {
      tunnel = leaves.tunnel;
      bus = leaves.bus ∙ ap (λ (o : Option ℕ). joined (dropped_if (is_left o (endpoint_of after.after.channel)) g.bus) after.acted) client;
      waiting = leaves.waiting ∙ ap (λ (o : Option ℕ). dropped_if (is_left o (endpoint_of after.after.channel)) g.waiting) client;
      made = leaves.made ∙ ap (λ (o : Option ℕ). and_one (makes_one frame o from) (length g.makers)) client;
      acted = leaves.acted;
    }

-- ---- the picture

-- one more is counted, where that can be
counted_exactly : (b : Bool) (n : ℕ) → n < 2 ^ 64 - 1 → capped (and_one b n) ≡ and_one b n
counted_exactly true n h = omega arith
counted_exactly false n h = omega arith

counted_to : (b : Bool) (n : ℕ) → capped (and_one b n) ≡ capped (and_one b (capped n))
counted_to true n = omega arith
counted_to false n = omega arith

pub takes : (n : GatewayNow) (g : Gateway) (from now : ℕ) (frame : IpFrame) (answer : Answer) (end : GatewayEnd) → IsGateway n g → CanCount n → TookAs (gateway_took g from now frame) answer end
    → IsGateway (record {
      address = n.address;
      end = end;
      bus = joined (dropped_if (is_left (endpoint_of n.end.channel) (endpoint_of end.channel)) n.bus) answer.acted;
      waiting = dropped_if (is_left (endpoint_of n.end.channel) (endpoint_of end.channel)) n.waiting;
      made = capped (and_one (makes_one frame (endpoint_of n.end.channel) from) n.made);
      acted = capped (and_one (is_some answer.acted) n.acted);
    }) (gateway_took g from now frame).after
takes n g from now frame answer end is can took =
    let t : GatewayTook = gateway_took g from now frame in
    let leaves : Leaves g from frame t = gateway_leaves g from now frame in
    let acts : t.acted ≡ answer.acted = sym (ap (λ (a : Answer). a.acted) took.answer) in
    let before : endpoint_of g.channel ≡ endpoint_of n.end.channel = ap (λ (e : GatewayEnd). endpoint_of e.channel) is.end in
    let after : endpoint_of t.after.channel ≡ endpoint_of end.channel = sym (ap (λ (e : GatewayEnd). endpoint_of e.channel) took.after) in
    let left : is_left (endpoint_of g.channel) (endpoint_of t.after.channel) ≡ is_left (endpoint_of n.end.channel) (endpoint_of end.channel)
    = ap (λ (o : Option ℕ). is_left o (endpoint_of t.after.channel)) before ∙ ap (is_left (endpoint_of n.end.channel)) after in
    let room : n.made < 2 ^ 64 - 1 = can in
    record {
      address = leaves.tunnel ∙ is.address;
      end = sym took.after;
      bus = leaves.bus ∙ ap (joined (dropped_if (is_left (endpoint_of g.channel) (endpoint_of t.after.channel)) g.bus)) acts
          ∙ ap (λ (b : Bool). joined (dropped_if b g.bus) answer.acted) left
          ∙ ap (λ (frames : List Ldata). joined (dropped_if (is_left (endpoint_of n.end.channel) (endpoint_of end.channel)) frames) answer.acted) is.bus;
      waiting = leaves.waiting ∙ ap (λ (b : Bool). dropped_if b g.waiting) left ∙ ap (dropped_if (is_left (endpoint_of n.end.channel) (endpoint_of end.channel))) is.waiting;
      made = leaves.made ∙ ap (λ (o : Option ℕ). and_one (makes_one frame o from) (length g.makers)) before ∙ ap (and_one (makes_one frame (endpoint_of n.end.channel) from)) is.made
          ∙ sym (counted_exactly (makes_one frame (endpoint_of n.end.channel) from) n.made room);
      acted = ap capped leaves.acted ∙ ap (λ (o : Option (List ℕ)). capped (and_one (is_some o) (length g.acted))) acts ∙ counted_to (is_some answer.acted) (length g.acted)
          ∙ ap (λ (k : ℕ). capped (and_one (is_some answer.acted) k)) is.acted;
    }
