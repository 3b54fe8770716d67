-- What is held of a tunnel after each part of an event.
use Rattle.std.proofs.Common.{◌≡◌, ℕ, zero, suc, ◌<◌, ◌≤◌, List, [], ◌∷◌, length, drop, Option, Some, None, option_map, refl, ap, sym, subst, ◌∙◌, arith}
use Rattle.knx_model.specs.declared.frames.cemi.Ldata.{Ldata}
use Rattle.knx_model.specs.declared.frames.ip.IpFrame.{IpFrame}
use Rattle.knx_model.specs.declared.frames.ip.IpFrame.TheVariants.{ConnectResponse, DisconnectRequest}
use Rattle.knx_model.specs.Cemi.{Written as cemi_octets}
use Rattle.knx_model.specs.KnxNetIp.{Written}
use Rattle.line_model.specs.Gateway.{Gateway, Channel, GatewayExpired, Nothing, Repeat, Closing, put_after, request_of, gateway_expired, channel_expired, gateway_took, closed, closed_if_open}
use Rattle.line_model.specs.GatewayEnd.{after_due}
use Rattle.line_model.specs.Network.{Sent, new_datagram, changed_at, oldest_age}
use Rattle.line_model.specs.Tunnel.{Tunnel, Repeat as RepeatEvent, Close as CloseEvent, after, answers, puts, closes, refuses, sends_down, sends_down_if, takes_frame, takes_sent, with_gateway}
use Rattle.line_model.specs.Reading.{datagram_in}
use Rattle.tunnel_sim.specs.declared.gateway.Due.TheVariants as due
use Rattle.tunnel_sim.specs.declared.gateway.Expired.TheVariants as expired
use Rattle.tunnel_sim.specs.declared.gateway.Letter.{Letter}
use Rattle.tunnel_sim.specs.Gateways.{GatewayNow, IsGateway, put_gateway, put_letter, letter, told_letter, farewell_letter, due_of}
use Rattle.tunnel_sim.specs.Tunnels.{TunnelNow, IsTunnel, AreShort, arrival_of, from_endpoint}
use Rattle.network_sim.specs.Readable.{readable}
use Rattle.network_sim.specs.Window.{Window, window_of, kept_of}

-- ---- datagrams

pub pushed : (sent : List Sent) (octets : List ℕ) (p q m n : ℕ) (u : Window) → p ≡ q → m ≡ n → window_of (new_datagram octets q n ∷ sent) ≡ u → window_of (new_datagram octets p m ∷ sent) ≡ u
pushed sent octets p q m n u e f h = ap (λ (x : ℕ). window_of (new_datagram octets x m ∷ sent)) e ∙ ap (λ (x : ℕ). window_of (new_datagram octets q x ∷ sent)) f ∙ h

pub short_changed : (age : ℕ) (change : Sent → Sent) (sent : List Sent) → ((s : Sent) → (change s).octets ≡ s.octets) → AreShort sent → AreShort (changed_at age change sent)
short_changed age change [] same short k s e = short k s e
short_changed zero change (x ∷ rest) same short zero s e =
    let is : change x ≡ s = cc in
    let P : List ℕ → Type 0 = λ octets. length octets ≤ 300 in
    subst (λ (y : Sent). P y.octets) is (subst P (sym (same x)) (short zero x refl))
short_changed zero change (x ∷ rest) same short (suc k) s e = short (suc k) s e
short_changed (suc age) change (x ∷ rest) same short zero s e = short zero s e
short_changed (suc age) change (x ∷ rest) same short (suc k) s e = short_changed age change rest same (λ i y is. short (suc i) y is) k s e

-- ---- the gateway alone changes

pub gateway_changes : (n : TunnelNow) (gn : GatewayNow) (t : Tunnel) (g : Gateway) → IsTunnel n t → IsGateway gn g → IsTunnel (record n { gateway = gn }) (with_gateway t g)
gateway_changes n gn t g is held = record { present = is.present; now = is.now; up = is.up; down = is.down; short = is.short; gateway = held }

-- ---- what is posted

-- a letter that is put
pub put_posts : (n m : TunnelNow) (gn : GatewayNow) (l : Letter) (t : Tunnel) (o : Option (Channel × Ldata)) → IsTunnel n t → IsGateway gn (put_gateway t.gateway n.now o) → Some l ≡ put_letter o
    → ((u : Tunnel) (frame : IpFrame) → IsTunnel (record n { gateway = gn }) u → l.octets ≡ Written frame → IsTunnel m (sends_down u l.to frame)) → IsTunnel m (puts t o)
put_posts n m gn l t None is held e post = cc
put_posts n m gn l t (Some (c, frame)) is held e post =
    let same : l ≡ letter c.endpoint (request_of c (cemi_octets frame)) = cc in
    let after_it : ℕ → Gateway = λ k. put_after t.gateway c frame (drop 1 t.gateway.waiting) k in
    let exact : IsGateway gn (after_it t.now) = subst (λ (k : ℕ). IsGateway gn (after_it k)) (sym is.now) held in
    subst (λ (to : ℕ). IsTunnel m (sends_down (with_gateway t (after_it t.now)) to (request_of c (cemi_octets frame)))) (ap (λ (x : Letter). x.to) same)
    (post (with_gateway t (after_it t.now)) (request_of c (cemi_octets frame)) (gateway_changes n gn t (after_it t.now) is exact) (ap (λ (x : Letter). x.octets) same))

-- a letter of closing
pub farewell_posts : (n m : TunnelNow) (gn : GatewayNow) (l : Letter) (t : Tunnel) (o : Option Channel) → IsTunnel n t → IsGateway gn (closed t.gateway) → Some l ≡ farewell_letter o
    → ((u : Tunnel) (frame : IpFrame) → IsTunnel (record n { gateway = gn }) u → l.octets ≡ Written frame → IsTunnel m (sends_down u l.to frame)) → IsTunnel m (closes t o)
farewell_posts n m gn l t None is held e post = cc
farewell_posts n m gn l t (Some c) is held e post =
    let same : l ≡ letter c.endpoint (DisconnectRequest c.number) = cc in
    subst (λ (to : ℕ). IsTunnel m (sends_down (with_gateway t (closed t.gateway)) to (DisconnectRequest c.number))) (ap (λ (x : Letter). x.to) same)
    (post (with_gateway t (closed t.gateway)) (DisconnectRequest c.number) (gateway_changes n gn t (closed t.gateway) is held) (ap (λ (x : Letter). x.octets) same))

-- no letter, no channel
pub no_farewell : (n : TunnelNow) (gn : GatewayNow) (t : Tunnel) (o : Option Channel) → t.gateway.channel ≡ o → IsTunnel n t → IsGateway gn (closed t.gateway) → None ≡ farewell_letter o → IsTunnel (record n { gateway = gn }) (closes t o)
no_farewell n gn t None none is held e = gateway_changes n gn t t.gateway is (subst (λ (h : Gateway). IsGateway gn h) (ap (closed_if_open t.gateway) none) held)
no_farewell n gn t (Some c) none is held e = cc

-- ---- what is due

-- the law of what is due, as the gateway's end has it
abbrev pub Repeats : Type 0
Repeats = (t : Tunnel) (c : Channel) (frame : IpFrame) → t.gateway.channel ≡ Some c → gateway_expired t.gateway t.now ≡ Repeat frame
    → after t RepeatEvent ≡ sends_down (with_gateway t (after_due t.gateway t.now (Repeat frame))) c.endpoint frame

abbrev pub Closes : Type 0
Closes = (t : Tunnel) (c : Channel) (frame : IpFrame) → t.gateway.channel ≡ Some c → gateway_expired t.gateway t.now ≡ Closing frame
    → after t CloseEvent ≡ sends_down (with_gateway t (after_due t.gateway t.now (Closing frame))) c.endpoint frame

pub repeat_posts : (n m : TunnelNow) (gn : GatewayNow) (l : Letter) (t : Tunnel) (o : Option Channel) (d : GatewayExpired) → Repeats → t.gateway.channel ≡ o → gateway_expired t.gateway n.now ≡ d
    → IsTunnel n t → IsGateway gn (after_due t.gateway n.now d) → expired.Repeat l ≡ told_letter o d
    → ((u : Tunnel) (frame : IpFrame) → IsTunnel (record n { gateway = gn }) u → l.octets ≡ Written frame → IsTunnel m (sends_down u l.to frame)) → IsTunnel m (after t RepeatEvent)
repeat_posts n m gn l t None d law channel what is held e post = cc
repeat_posts n m gn l t (Some c) Nothing law channel what is held e post = cc
repeat_posts n m gn l t (Some c) (Closing frame) law channel what is held e post = cc
repeat_posts n m gn l t (Some c) (Repeat frame) law channel what is held e post =
    let same : l ≡ letter c.endpoint frame = cc in
    let g : Gateway = after_due t.gateway t.now (Repeat frame) in
    let exact : IsGateway gn g = subst (λ (k : ℕ). IsGateway gn (after_due t.gateway k (Repeat frame))) (sym is.now) held in
    let posted : IsTunnel m (sends_down (with_gateway t g) c.endpoint frame) = subst (λ (to : ℕ). IsTunnel m (sends_down (with_gateway t g) to frame)) (ap (λ (x : Letter). x.to) same)
    (post (with_gateway t g) frame (gateway_changes n gn t g is exact) (ap (λ (x : Letter). x.octets) same)) in
    subst (λ (u : Tunnel). IsTunnel m u) (sym (law t c frame channel (ap (gateway_expired t.gateway) is.now ∙ what))) posted

pub closing_posts : (n m : TunnelNow) (gn : GatewayNow) (l : Letter) (t : Tunnel) (o : Option Channel) (d : GatewayExpired) → Closes → t.gateway.channel ≡ o → gateway_expired t.gateway n.now ≡ d
    → IsTunnel n t → IsGateway gn (after_due t.gateway n.now d) → expired.Closed l ≡ told_letter o d
    → ((u : Tunnel) (frame : IpFrame) → IsTunnel (record n { gateway = gn }) u → l.octets ≡ Written frame → IsTunnel m (sends_down u l.to frame)) → IsTunnel m (after t CloseEvent)
closing_posts n m gn l t None d law channel what is held e post = cc
closing_posts n m gn l t (Some c) Nothing law channel what is held e post = cc
closing_posts n m gn l t (Some c) (Repeat frame) law channel what is held e post = cc
closing_posts n m gn l t (Some c) (Closing frame) law channel what is held e post =
    let same : l ≡ letter c.endpoint frame = cc in
    let g : Gateway = after_due t.gateway t.now (Closing frame) in
    let posted : IsTunnel m (sends_down (with_gateway t g) c.endpoint frame) = subst (λ (to : ℕ). IsTunnel m (sends_down (with_gateway t g) to frame)) (ap (λ (x : Letter). x.to) same)
    (post (with_gateway t g) frame (gateway_changes n gn t g is held) (ap (λ (x : Letter). x.octets) same)) in
    subst (λ (u : Tunnel). IsTunnel m u) (sym (law t c frame channel (ap (gateway_expired t.gateway) is.now ∙ what))) posted

-- nothing is due where no letter comes
pub nothing_due : (t : Tunnel) (k : ℕ) (o : Option Channel) (d : GatewayExpired) → t.gateway.channel ≡ o → t.now ≡ k → gateway_expired t.gateway k ≡ d → expired.Nothing ≡ told_letter o d → due.Nothing ≡ due_of (gateway_expired t.gateway t.now)
unfolding gateway_expired
nothing_due t k None d channel at what e = sym (ap (λ (x : Option Channel). due_of (channel_expired x t.now)) channel)
nothing_due t k (Some c) Nothing channel at what e = sym (ap (λ (x : ℕ). due_of (gateway_expired t.gateway x)) at ∙ ap due_of what)
nothing_due t k (Some c) (Repeat frame) channel at what e = cc
nothing_due t k (Some c) (Closing frame) channel at what e = cc

-- ---- what arrives

arrives_so : (m : TunnelNow) (t : Tunnel) (s : Sent) (d : Option IpFrame) (from : ℕ) (frame : IpFrame) → Some (from, frame) ≡ from_endpoint s.endpoint d → IsTunnel m (answers t from (gateway_took t.gateway from t.now frame)) → IsTunnel m (takes_frame t s.endpoint d)
arrives_so m t s None from frame e h = cc
arrives_so m t s (Some other) from frame e h =
    let same : (from, frame) ≡ (s.endpoint, other) = cc in
    subst (λ (p : ℕ × IpFrame). IsTunnel m (answers t p.0 (gateway_took t.gateway p.0 t.now p.1))) same h

pub arrives : (m : TunnelNow) (t : Tunnel) (k : ℕ) (o : Option Sent) (from : ℕ) (frame : IpFrame) → Some (from, frame) ≡ arrival_of o → t.now ≡ k → IsTunnel m (answers t from (gateway_took t.gateway from k frame)) → IsTunnel m (takes_sent t o)
arrives m t k None from frame e at h = cc
arrives m t k (Some s) from frame e at h = arrives_so m t s (datagram_in s.octets) from frame e (subst (λ (x : ℕ). IsTunnel m (answers t from (gateway_took t.gateway from x frame))) (sym at) h)

is_no_frame : (m : TunnelNow) (t : Tunnel) (s : Sent) (d : Option IpFrame) → None ≡ from_endpoint s.endpoint d → IsTunnel m t → IsTunnel m (takes_frame t s.endpoint d)
is_no_frame m t s None e h = h
is_no_frame m t s (Some frame) e h = cc

pub arrives_not : (m : TunnelNow) (t : Tunnel) (o : Option Sent) → None ≡ arrival_of o → IsTunnel m t → IsTunnel m (takes_sent t o)
arrives_not m t None e h = h
arrives_not m t (Some s) e h = is_no_frame m t s (datagram_in s.octets) e h

-- ---- an answer

pub answered : (n m : TunnelNow) (octets : List ℕ) (to : ℕ) (t : Tunnel) (o : Option IpFrame) → IsTunnel n t → Some octets ≡ option_map Written o
    → ((u : Tunnel) (frame : IpFrame) → IsTunnel n u → octets ≡ Written frame → IsTunnel m (sends_down u to frame)) → IsTunnel m (sends_down_if t to o)
answered n m octets to t None is e post = cc
answered n m octets to t (Some frame) is e post = let same : octets ≡ Written frame = cc in post t frame is same

-- ---- a refusal

pub refused : (m : TunnelNow) (from status : ℕ) (t : Tunnel) (o : Option Sent) → Some from ≡ option_map (λ (s : Sent). s.endpoint) o
    → IsTunnel m (sends_down t from (ConnectResponse 0 status None)) → IsTunnel m (refuses t status o)
refused m from status t None e h = cc
refused m from status t (Some s) e h =
    let same : from ≡ s.endpoint = cc in
    subst (λ (k : ℕ). IsTunnel m (sends_down t k (ConnectResponse 0 status None))) same h

pub refused_not : (n : TunnelNow) (status : ℕ) (t : Tunnel) (o : Option Sent) → IsTunnel n t → None ≡ option_map (λ (s : Sent). s.endpoint) o → IsTunnel n (refuses t status o)
refused_not n status t None is e = is
refused_not n status t (Some s) is e = cc

-- ---- what is kept of a datagram that arrives

pub young : (age : ℕ) (s : Sent) → (oldest_age ≤ age → Some s ≡ None) → age < oldest_age
young age s older = grind arith

pub arrived : ((octets : List ℕ) → datagram_in (readable octets) ≡ datagram_in octets) → (o : Option Sent) (k : Sent) (endpoint : ℕ) (frame : IpFrame)
    → Some k ≡ option_map kept_of o → endpoint ≡ k.endpoint → Some frame ≡ datagram_in k.octets → Some (endpoint, frame) ≡ arrival_of o
arrived reads None k endpoint frame e at f = cc
arrived reads (Some s) k endpoint frame e at f =
    let same : k ≡ kept_of s = cc in
    let read : Some frame ≡ datagram_in s.octets = f ∙ ap (λ (x : Sent). datagram_in x.octets) same ∙ reads s.octets in
    let to : endpoint ≡ s.endpoint = at ∙ ap (λ (x : Sent). x.endpoint) same in
    ap (λ (x : ℕ). Some (x, frame)) to ∙ ap (from_endpoint s.endpoint) read
