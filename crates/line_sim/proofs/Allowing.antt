-- What the line as it is held allows may happen in its worlds.
use Rattle.std.proofs.Common.{◌≡◌, ◌≢◌, ℕ, inl, inr, List, [], Option, Some, None, refl, ap, sym, subst, ◌∙◌}
use Rattle.std.specs.Prelude.{slice_get, option_map}
use Rattle.std.proofs.lemmas.Bool.{cases_lt}
use Rattle.knx_model.specs.declared.frames.cemi.Ldata.{Ldata}
use Rattle.knx_model.specs.ApduReading.{option_map as mapped}
use Rattle.knx_model.specs.DeviceState.{DeviceState}
use Rattle.knx_model.specs.DeviceFrames.{Outcome, Torn, Worn, MayTake}
use Rattle.knx_model.specs.DeviceSending.{first_frame}
use Rattle.line_model.specs.GatewayEnd.{GatewayEnd}
use Rattle.line_model.specs.Legal.{MayHappen, OfDevice, CanRepeat, GoesSo}
use Rattle.line_model.specs.Network.{Sent, IsUnderWay, OfSent, MayArrive, MayReach, WasSent}
use Rattle.line_model.specs.Tunnel as tunnel
use Rattle.line_model.specs.Tunnel.{Tunnel, Mode, Commissions, Serves, HasOutstanding, IsConnectRequest, IsOpen, made}
use Rattle.line_model.specs.World.{World, Event, AtGateway, Comes, IsLost, Send, From, Renew, Up, UpRefused, Down, LoseUp, LoseDown, Bus, BusTorn, BusWorn, BusAgain, DevSend, DevRepeat, DevClose, GwAgain, GwRepeat, GwClose, Cut, On, Pass, carried, heard, next_frame, on_bus, repeat_at, waiting_at}
use Rattle.network_sim.specs.Window.{Window, kept_of, window_of}
use Rattle.network_sim.proofs.Longest.{reads_alike}
use Rattle.network_sim.proofs.Windows.{got_kept, kept_length, none_kept}
use Rattle.line_sim.specs.Allowed.{Allows, HasOneClient, HasAnyClient, MayGoSo, MayGetDown}
use Rattle.line_sim.specs.Line.{LineNow, IsNow, frame_due}

-- ---- datagrams

-- what is kept is of a datagram of this age
of_kept : (P : Sent → Type 0) (sent : List Sent) (w : Window) (age : ℕ) → window_of sent ≡ w → ((s : Sent) → P (kept_of s) → P s) → OfSent P (slice_get w.kept age) → OfSent P (slice_get sent age)
of_kept P sent w age same back h = elim (cases_lt age 128) [
  | inl young ↦ by_sent (slice_get sent age) (subst (OfSent P) (got_kept sent age w same young) h)
  | inr old ↦ absurd (subst (OfSent P) (none_kept w.kept age (kept_length sent w same) old) h)
]
  where
    by_sent : (o : Option Sent) → OfSent P (option_map kept_of o) → OfSent P o
    by_sent None p = p
    by_sent (Some s) p = back s p

arrives : (m : ℕ) (sent : List Sent) (w : Window) (age : ℕ) → window_of sent ≡ w → MayArrive m w.kept age → MayArrive m sent age
arrives m sent w age same h = of_kept (IsUnderWay m age) sent w age same (λ s u. record { kept = u.kept; twice = u.twice; young = u.young; soon = u.soon }) h

reaches : (present m : ℕ) (sent : List Sent) (w : Window) (age : ℕ) → window_of sent ≡ w → MayReach present m w.kept age → MayReach present m sent age
reaches present m sent w age same h =
    of_kept (λ s. IsUnderWay m age s × (s.endpoint ≡ present)) sent w age same (λ s p. (record { kept = p.0.kept; twice = p.0.twice; young = p.0.young; soon = p.0.soon }, p.1)) h

was_sent : (sent : List Sent) (w : Window) (age : ℕ) → window_of sent ≡ w → WasSent w.kept age → WasSent sent age
was_sent sent w age same h = of_kept (λ s. Unit {0}) sent w age same (λ s u. u) h

connects : (sent : List Sent) (w : Window) (age : ℕ) → window_of sent ≡ w → OfSent IsConnectRequest (slice_get w.kept age) → OfSent IsConnectRequest (slice_get sent age)
connects sent w age same h = of_kept IsConnectRequest sent w age same (λ s e. sym (reads_alike s.octets) ∙ e) h

-- ---- frames on the bus

due_is_next : (n : LineNow) (w : World) → IsNow n w → frame_due n ≡ next_frame w
due_is_next n w is = ap (λ (frames : List Ldata). mapped (on_bus n.tunnel.gateway.address) (first_frame frames)) (sym is.tunnel.gateway.bus)
    ∙ ap (λ address. mapped (on_bus address) (first_frame w.tunnel.gateway.bus)) (sym is.tunnel.gateway.address)

bus_holds : (mode : Mode) (w : World) (left_out : List ℕ) (o : Option Ldata) → next_frame w ≡ o → tunnel.MayHappen mode w.tunnel (carried w left_out o)
bus_holds Commissions w left_out None e = tt
bus_holds Serves w left_out None e = tt
bus_holds Commissions w left_out (Some frame) e = λ empty. let none : next_frame w ≡ None = ap (λ (frames : List Ldata). mapped (on_bus w.tunnel.gateway.tunnel) (first_frame frames)) empty in cc
bus_holds Serves w left_out (Some frame) e = λ empty. let none : next_frame w ≡ None = ap (λ (frames : List Ldata). mapped (on_bus w.tunnel.gateway.tunnel) (first_frame frames)) empty in cc

goes_so : (n : LineNow) (w : World) (outcome : Outcome) (o : Option Ldata) → IsNow n w → MayGoSo n outcome o → GoesSo w outcome o
goes_so n w outcome None is h = h
goes_so n w outcome (Some frame) is h = record { alone = h.alone; device = subst (OfDevice (λ (d : DeviceState). MayTake d frame outcome)) (sym (is.devices frame.destination)) h.device }

-- ---- the gateway

its_channel : (n : LineNow) (w : World) → IsNow n w → w.tunnel.gateway.channel ≡ n.tunnel.gateway.end.channel
its_channel n w is = ap (λ (e : GatewayEnd). e.channel) is.tunnel.gateway.end

-- whatever the gateway hears it may hear
pub hears : (mode : Mode) (t : Tunnel) (at : AtGateway) (o : Option Ldata) → tunnel.MayHappen mode t (heard at o)
hears Commissions t Comes None = tt
hears Commissions t Comes (Some frame) = tt
hears Commissions t IsLost o = tt
hears Serves t Comes None = tt
hears Serves t Comes (Some frame) = tt
hears Serves t IsLost o = tt

elsewhere : (mode : Mode) (t : Tunnel) → tunnel.MayHappen mode t tunnel.Elsewhere
elsewhere Commissions t = tt
elsewhere Serves t = tt

-- ---- the tunnel's events, in either mode

goes_up : (mode : Mode) (t : Tunnel) (age : ℕ) → MayArrive (made t) t.network.up age → tunnel.MayHappen mode t (tunnel.Up age)
goes_up Commissions t age h = h
goes_up Serves t age h = h

is_refused : (mode : Mode) (t : Tunnel) (age status : ℕ) → MayArrive (made t) t.network.up age → OfSent IsConnectRequest (slice_get t.network.up age) → status ≢ 0 → tunnel.MayHappen mode t (tunnel.UpRefused age status)
is_refused Commissions t age status h r ne = (h, r, ne)
is_refused Serves t age status h r ne = (h, r, ne)

goes_down : (mode : Mode) (n : LineNow) (w : World) (age : ℕ) → IsNow n w → MayGetDown mode n age → tunnel.MayHappen mode w.tunnel (tunnel.Down age)
goes_down Commissions n w age is h =
    subst (λ (m : ℕ). MayReach w.tunnel.present m w.tunnel.network.down age) (sym is.tunnel.gateway.made)
    (subst (λ (p : ℕ). MayReach p n.tunnel.gateway.made w.tunnel.network.down age) (sym is.tunnel.present) (reaches n.tunnel.present n.tunnel.gateway.made w.tunnel.network.down n.tunnel.down age is.tunnel.down h))
goes_down Serves n w age is h =
    subst (λ (m : ℕ). MayArrive m w.tunnel.network.down age) (sym is.tunnel.gateway.made) (arrives n.tunnel.gateway.made w.tunnel.network.down n.tunnel.down age is.tunnel.down h)

comes_up : (n : LineNow) (w : World) (age : ℕ) → IsNow n w → MayArrive n.tunnel.gateway.made n.tunnel.up.kept age → MayArrive (made w.tunnel) w.tunnel.network.up age
comes_up n w age is h = subst (λ (m : ℕ). MayArrive m w.tunnel.network.up age) (sym is.tunnel.gateway.made) (arrives n.tunnel.gateway.made w.tunnel.network.up n.tunnel.up age is.tunnel.up h)

sends : (mode : Mode) (t : Tunnel) (octets : List ℕ) → HasOneClient mode → tunnel.MayHappen mode t (tunnel.Send octets)
sends Commissions t octets h = h
sends Serves t octets h = h

sends_from : (mode : Mode) (t : Tunnel) (endpoint : ℕ) (octets : List ℕ) → HasAnyClient mode → tunnel.MayHappen mode t (tunnel.From endpoint octets)
sends_from Commissions t endpoint octets h = h
sends_from Serves t endpoint octets h = h

renews : (mode : Mode) (t : Tunnel) → HasOneClient mode → tunnel.MayHappen mode t tunnel.Renew
renews Commissions t h = h
renews Serves t h = h

loses_up : (mode : Mode) (t : Tunnel) (age : ℕ) → WasSent t.network.up age → tunnel.MayHappen mode t (tunnel.LoseUp age)
loses_up Commissions t age h = h
loses_up Serves t age h = h

loses_down : (mode : Mode) (t : Tunnel) (age : ℕ) → WasSent t.network.down age → tunnel.MayHappen mode t (tunnel.LoseDown age)
loses_down Commissions t age h = h
loses_down Serves t age h = h

repeats : (mode : Mode) (t : Tunnel) → HasOutstanding t.gateway.channel → tunnel.MayHappen mode t tunnel.Repeat
repeats Commissions t h = h
repeats Serves t h = h

closes : (mode : Mode) (t : Tunnel) → IsOpen t.gateway.channel → tunnel.MayHappen mode t tunnel.Close
closes Commissions t h = h
closes Serves t h = h

passes : (mode : Mode) (t : Tunnel) (ms : ℕ) → tunnel.MayHappen mode t (tunnel.Pass ms)
passes Commissions t ms = tt
passes Serves t ms = tt

-- ---- one row an event

pub may_happen : (mode : Mode) (n : LineNow) (w : World) (e : Event) → IsNow n w → Allows mode n e → MayHappen mode w e
may_happen mode n w (Send octets) is h = record { tunnel = sends mode w.tunnel octets h; devices = tt }
may_happen mode n w (From endpoint octets) is h = record { tunnel = sends_from mode w.tunnel endpoint octets h; devices = tt }
may_happen mode n w Renew is h = record { tunnel = renews mode w.tunnel h; devices = tt }
may_happen mode n w (Up age) is h = record { tunnel = goes_up mode w.tunnel age (comes_up n w age is h); devices = tt }
may_happen mode n w (UpRefused age status) is h =
    record { tunnel = is_refused mode w.tunnel age status (comes_up n w age is h.0) (connects w.tunnel.network.up n.tunnel.up age is.tunnel.up h.1) h.2; devices = tt }
may_happen mode n w (Down age) is h = record { tunnel = goes_down mode n w age is h; devices = tt }
may_happen mode n w (LoseUp age) is h = record { tunnel = loses_up mode w.tunnel age (was_sent w.tunnel.network.up n.tunnel.up age is.tunnel.up h); devices = tt }
may_happen mode n w (LoseDown age) is h = record { tunnel = loses_down mode w.tunnel age (was_sent w.tunnel.network.down n.tunnel.down age is.tunnel.down h); devices = tt }
may_happen mode n w (Bus left_out) is h = record { tunnel = bus_holds mode w left_out (next_frame w) refl; devices = λ none. h (due_is_next n w is ∙ none) }
may_happen mode n w (BusTorn fresh octets) is h =
    record { tunnel = bus_holds mode w [] (next_frame w) refl; devices = goes_so n w (Torn fresh octets) (next_frame w) is (subst (MayGoSo n (Torn fresh octets)) (due_is_next n w is) h) }
may_happen mode n w (BusWorn octets) is h =
    record { tunnel = bus_holds mode w [] (next_frame w) refl; devices = goes_so n w (Worn octets) (next_frame w) is (subst (MayGoSo n (Worn octets)) (due_is_next n w is) h) }
may_happen mode n w (BusAgain device) is h = record { tunnel = elsewhere mode w.tunnel; devices = subst (OfDevice (λ (d : DeviceState). d.last ≢ None)) (sym (is.devices device)) h }
may_happen mode n w (DevSend device gateway left_out) is h =
    record { tunnel = hears mode w.tunnel gateway (waiting_at w device); devices = subst (OfDevice (λ (d : DeviceState). d.unsent ≢ [])) (sym (is.devices device)) h }
may_happen mode n w (DevRepeat device gateway) is h = record { tunnel = hears mode w.tunnel gateway (repeat_at w device); devices = subst (OfDevice CanRepeat) (sym (is.devices device)) h }
may_happen mode n w (DevClose device) is h = record { tunnel = elsewhere mode w.tunnel; devices = λ none. h (sym (is.devices device) ∙ none) }
may_happen mode n w GwAgain is h = record { tunnel = hears mode w.tunnel Comes w.echo; devices = λ none. h (sym is.echo ∙ none) }
may_happen mode n w GwRepeat is h = record { tunnel = repeats mode w.tunnel (subst HasOutstanding (sym (its_channel n w is)) h); devices = tt }
may_happen mode n w GwClose is h = record { tunnel = closes mode w.tunnel (subst IsOpen (sym (its_channel n w is)) h); devices = tt }
may_happen mode n w (Cut device) is h = record { tunnel = elsewhere mode w.tunnel; devices = λ none. h (sym (is.devices device) ∙ none) }
may_happen mode n w (On device) is h = record { tunnel = elsewhere mode w.tunnel; devices = λ none. h (sym (is.devices device) ∙ none) }
may_happen mode n w (Pass ms) is h = record { tunnel = passes mode w.tunnel ms; devices = tt }
