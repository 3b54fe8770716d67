-- What may happen in a tunnel whosever the run is.
use Rattle.std.proofs.Common.{◌≡◌, ◌≢◌, ℕ, Option, Some, None}
use Rattle.std.specs.Prelude.{slice_get}
use Rattle.line_model.specs.Network.{Sent, OfSent, IsUnderWay, MayArrive}
use Rattle.line_model.specs.Tunnel.{Tunnel, Mode, Commissions, Serves, IsConnectRequest, IsOpen, Up, UpRefused, Down, LoseUp, LoseDown, Close, Pass, Elsewhere, MayHappen, made}

pub elsewhere : (mode : Mode) (t : Tunnel) → MayHappen mode t Elsewhere
elsewhere Commissions t = tt
elsewhere Serves t = tt

pub passes_any : (mode : Mode) (t : Tunnel) (ms : ℕ) → MayHappen mode t (Pass ms)
passes_any Commissions t ms = tt
passes_any Serves t ms = tt

pub closes_open : (mode : Mode) (t : Tunnel) → IsOpen t.gateway.channel → MayHappen mode t Close
closes_open Commissions t opened = opened
closes_open Serves t opened = opened

pub up_arrives : (mode : Mode) (t : Tunnel) (age : ℕ) → MayHappen mode t (Up age) → MayArrive (made t) t.network.up age
up_arrives Commissions t age may = may
up_arrives Serves t age may = may

pub up_refused : (mode : Mode) (t : Tunnel) (age status : ℕ) → MayHappen mode t (Up age) → OfSent IsConnectRequest (slice_get t.network.up age) → status ≢ 0 → MayHappen mode t (UpRefused age status)
up_refused Commissions t age status may asks other = (may, asks, other)
up_refused Serves t age status may asks other = (may, asks, other)

pub refused_asks : (mode : Mode) (t : Tunnel) (age status : ℕ) → MayHappen mode t (UpRefused age status) → OfSent IsConnectRequest (slice_get t.network.up age)
refused_asks Commissions t age status may = may.1
refused_asks Serves t age status may = may.1

-- what may arrive was sent
was_sent : (P : Sent → Type 0) (o : Option Sent) → OfSent P o → OfSent (λ s. Unit {0}) o
was_sent P None h = h
was_sent P (Some s) h = tt

pub up_lost : (mode : Mode) (t : Tunnel) (age : ℕ) → MayHappen mode t (Up age) → MayHappen mode t (LoseUp age)
up_lost Commissions t age may = was_sent (IsUnderWay (made t) age) (slice_get t.network.up age) may
up_lost Serves t age may = was_sent (IsUnderWay (made t) age) (slice_get t.network.up age) may

pub down_lost : (mode : Mode) (t : Tunnel) (age : ℕ) → MayHappen mode t (Down age) → MayHappen mode t (LoseDown age)
down_lost Commissions t age may = was_sent (λ s. IsUnderWay (made t) age s × (s.endpoint ≡ t.present)) (slice_get t.network.down age) may
down_lost Serves t age may = was_sent (IsUnderWay (made t) age) (slice_get t.network.down age) may
