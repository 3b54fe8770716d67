-- The tests by which events are seen to be legal are what legality is said to be.
use Rattle.std.proofs.Common.{◌≡◌, ◌≢◌, ℕ, Bool, true, false, ◌&&◌, ◌==◌, is_some, List, [], ◌∷◌, Option, Some, None}
use Rattle.std.specs.Prelude.{slice_get}
use Rattle.std.proofs.lemmas.Bool.{and_parts, eqb-true}
use Rattle.knx_model.specs.DeviceState.{DeviceState}
use Rattle.line_model.specs.Deliveries.{is_under_way}
use Rattle.line_model.specs.Legal.{OfDevice, MayHappen, DevicesAllow, IsLegal}
use Rattle.line_model.specs.Network.{Sent, IsUnderWay, OfSent}
use Rattle.line_model.specs.Tunnel as tunnel
use Rattle.line_model.specs.Tunnel.{Tunnel, TunnelEvent, Commissions, made}
use Rattle.line_model.specs.World.{World, Event, Send, From, Renew, Up, UpRefused, Down, LoseUp, LoseDown, Bus, BusTorn, BusWorn, BusAgain, DevSend, DevRepeat, DevClose, GwAgain, GwRepeat, GwClose, Cut, On, Pass, next_frame, tunnel_event, replay}
use Rattle.line_model.proofs.UnderWay.{under_way}

is_there : {X : Type 0} → (x : Option X) → is_some x ≡ true → x ≢ None
is_there None e = cc
is_there (Some x) e = λ h. cc

-- ---- datagrams

abbrev pub test_of : (Sent → Bool) → Option Sent → Bool
test_of test None = false
test_of test (Some s) = test s

of_sent : (test : Sent → Bool) (P : Sent → Type 0) → ((s : Sent) → test s ≡ true → P s) → (o : Option Sent) → test_of test o ≡ true → OfSent P o
of_sent test P law None e = cc
of_sent test P law (Some s) e = law s e

abbrev pub passes_here : ℕ → ℕ → ℕ → Sent → Bool
passes_here present made age s = is_under_way made age s && (s.endpoint == present)

passes_to : (present made age : ℕ) (s : Sent) → passes_here present made age s ≡ true → IsUnderWay made age s × (s.endpoint ≡ present)
passes_to present made age s e = let parts = and_parts _ _ e in (under_way made age s parts.0, eqb-true _ _ parts.1)

-- ---- the tunnel's events

abbrev pub waits : {X : Type 0} → List X → Bool
waits [] = false
waits (x ∷ l) = true

waits_is : {X : Type 0} → (l : List X) → waits l ≡ true → l ≢ []
waits_is [] e = cc
waits_is (x ∷ l) e = λ h. cc

abbrev pub may_tunnel : Tunnel → TunnelEvent → Bool
may_tunnel t (tunnel.Send octets) = true
may_tunnel t tunnel.Renew = true
may_tunnel t (tunnel.Up age) = test_of (is_under_way (made t) age) (slice_get t.network.up age)
may_tunnel t (tunnel.Down age) = test_of (passes_here t.present (made t) age) (slice_get t.network.down age)
may_tunnel t (tunnel.LoseUp age) = test_of (λ s. true) (slice_get t.network.up age)
may_tunnel t (tunnel.LoseDown age) = test_of (λ s. true) (slice_get t.network.down age)
may_tunnel t (tunnel.Carried frame) = waits t.gateway.bus
may_tunnel t (tunnel.Heard frames) = true
may_tunnel t tunnel.Close = is_some t.gateway.channel
may_tunnel t (tunnel.Pass ms) = true
may_tunnel t tunnel.Elsewhere = true
may_tunnel t _ = false

may_tunnel_is : (t : Tunnel) (e : TunnelEvent) → may_tunnel t e ≡ true → tunnel.MayHappen Commissions t e
may_tunnel_is t (tunnel.Send octets) h = tt
may_tunnel_is t (tunnel.From endpoint octets) h = cc
may_tunnel_is t tunnel.Renew h = tt
may_tunnel_is t (tunnel.Up age) h = of_sent (is_under_way (made t) age) (IsUnderWay (made t) age) (under_way (made t) age) (slice_get t.network.up age) h
may_tunnel_is t (tunnel.UpRefused age status) h = cc
may_tunnel_is t (tunnel.Down age) h =
    of_sent (passes_here t.present (made t) age) (λ s. IsUnderWay (made t) age s × (s.endpoint ≡ t.present)) (passes_to t.present (made t) age) (slice_get t.network.down age) h
may_tunnel_is t (tunnel.LoseUp age) h = of_sent (λ s. true) (λ s. Unit {0}) (λ s e. tt) (slice_get t.network.up age) h
may_tunnel_is t (tunnel.LoseDown age) h = of_sent (λ s. true) (λ s. Unit {0}) (λ s e. tt) (slice_get t.network.down age) h
may_tunnel_is t (tunnel.Carried frame) h = waits_is t.gateway.bus h
may_tunnel_is t (tunnel.Heard frames) h = tt
may_tunnel_is t tunnel.Repeat h = cc
may_tunnel_is t tunnel.Close h = is_there t.gateway.channel h
may_tunnel_is t (tunnel.Pass ms) h = tt
may_tunnel_is t tunnel.Elsewhere h = tt

-- ---- the devices

abbrev pub device_test : (DeviceState → Bool) → Option DeviceState → Bool
device_test test None = false
device_test test (Some d) = test d

of_device : (test : DeviceState → Bool) (P : DeviceState → Type 0) → ((d : DeviceState) → test d ≡ true → P d) → (o : Option DeviceState) → device_test test o ≡ true → OfDevice P o
of_device test P law None e = cc
of_device test P law (Some d) e = law d e

-- a torn and a worn write are seen by hand
abbrev pub may_devices : World → Event → Bool
may_devices w (Bus left_out) = is_some (next_frame w)
may_devices w (BusTorn fresh octets) = false
may_devices w (BusWorn octets) = false
may_devices w (BusAgain device) = device_test (λ d. is_some d.last) (w.devices device)
may_devices w (DevSend device heard left_out) = device_test (λ d. waits d.unsent) (w.devices device)
may_devices w (DevRepeat device heard) = false
may_devices w (DevClose device) = is_some (w.devices device)
may_devices w GwAgain = is_some w.echo
may_devices w (Cut device) = is_some (w.devices device)
may_devices w (On device) = is_some (w.devices device)
may_devices w _ = true

may_devices_is : (w : World) (e : Event) → may_devices w e ≡ true → DevicesAllow w e
may_devices_is w (Bus left_out) h = is_there (next_frame w) h
may_devices_is w (BusTorn fresh octets) h = cc
may_devices_is w (BusWorn octets) h = cc
may_devices_is w (BusAgain device) h = of_device (λ d. is_some d.last) (λ d. d.last ≢ None) (λ d e. is_there d.last e) (w.devices device) h
may_devices_is w (DevSend device heard left_out) h = of_device (λ d. waits d.unsent) (λ d. d.unsent ≢ []) (λ d e. waits_is d.unsent e) (w.devices device) h
may_devices_is w (DevRepeat device heard) h = cc
may_devices_is w (DevClose device) h = is_there (w.devices device) h
may_devices_is w GwAgain h = is_there w.echo h
may_devices_is w (Cut device) h = is_there (w.devices device) h
may_devices_is w (On device) h = is_there (w.devices device) h
may_devices_is w (Send octets) h = tt
may_devices_is w (From endpoint octets) h = tt
may_devices_is w Renew h = tt
may_devices_is w (Up age) h = tt
may_devices_is w (UpRefused age status) h = tt
may_devices_is w (Down age) h = tt
may_devices_is w (LoseUp age) h = tt
may_devices_is w (LoseDown age) h = tt
may_devices_is w GwRepeat h = tt
may_devices_is w GwClose h = tt
may_devices_is w (Pass ms) h = tt

-- ---- lists of events

abbrev pub may : World → Event → Bool
may w e = may_tunnel w.tunnel (tunnel_event w e) && may_devices w e

abbrev pub are_legal : World → List Event → Bool
are_legal start [] = true
are_legal start (e ∷ events) = may (replay start events) e && are_legal start events

may_is : (w : World) (e : Event) → may w e ≡ true → MayHappen Commissions w e
may_is w e h = let parts = and_parts _ _ h in record { tunnel = may_tunnel_is w.tunnel (tunnel_event w e) parts.0; devices = may_devices_is w e parts.1 }

pub legal_by : (start : World) (events : List Event) → are_legal start events ≡ true → IsLegal Commissions start events
legal_by start [] h = tt
legal_by start (e ∷ events) h = let parts = and_parts _ _ h in (may_is (replay start events) e parts.0, legal_by start events parts.1)
