-- Datagrams at a socket: those that it was given and those that come to it, where it tells them; and the faults that its errors are.
use Rattle.std.specs.Prelude.{◌≡◌, ◌≢◌, ◌++◌, ℕ, Bool, true, false, List, [], ◌∷◌, take, slice_get, IfSome, Option, Some, None, Result, Ok, Err}
use Rattle.std.specs.declared.io.ErrorKind.{ErrorKind}
use Rattle.std.specs.declared.io.ErrorKind.TheVariants.{OutOfMemory, WouldBlock, TimedOut, Interrupted}
use Rattle.std.specs.List.{AllByRecursion}
use Rattle.std.specs.declared.net.ipv4_addr.Ipv4Addr.{Ipv4Addr}
use Rattle.std.specs.declared.net.ip_addr.IpAddr.TheVariants.{V4}
use Rattle.std.specs.declared.net.socket_addr.SocketAddr.{SocketAddr}
use Rattle.std.specs.Net.Addr.{ipv4_octets}
use Rattle.std.specs.Net.Socket.{socket_ip, socket_port}
use Rattle.knx_model.specs.Outside.{one_more}
use Rattle.line_model.specs.Record.{longest_got}
use Rattle.line_model.specs.declared.outside.link.LinkFault.{LinkFault}
use Rattle.line_model.specs.declared.outside.link.LinkFault.TheVariants as link_fault
use Rattle.line_model.specs.declared.outside.link.Polled.{Polled}
use Rattle.line_model.specs.declared.outside.link.Polled.TheVariants as link_answer
use Rattle.line_model.specs.declared.outside.port.PortFault.{PortFault}
use Rattle.line_model.specs.declared.outside.port.PortFault.TheVariants as port_fault
use Rattle.line_model.specs.declared.outside.port.PortPolled.{PortPolled}
use Rattle.line_model.specs.declared.outside.port.PortPolled.TheVariants as port_answer
use Rattle.knx_edge.specs.declared.socket.Senders.{Senders}
use Rattle.knx_edge.specs.declared.socket.Senders.TheVariants.{Host, Answerable}

-- a datagram, and the address that it goes to or comes from
pub record Datagram : Type 0 where
  pub octets : List ℕ
  pub peer : SocketAddr

-- an IPv4 host and a port number
abbrev pub IsAt : List ℕ → ℕ → SocketAddr → Type 0
IsAt host port address = (ip : Ipv4Addr) × (ipv4_octets ip ≡ host) × (socket_ip address ≡ V4 ip) × (socket_port address ≡ port)

-- ---- what a socket was given, the newest first, and what comes to it, in order

-- it was given none
abbrev pub IsUnused : Option (List Datagram) → Type 0
IsUnused None = Unit {0}
IsUnused (Some sent) = sent ≡ []

-- it was given this datagram
abbrev pub Gives : Datagram → Option (List Datagram) → Option (List Datagram) → Type 0
Gives given None after = after ≡ None
Gives given (Some before) after = after ≡ Some (given ∷ before)

-- the same, to a client that is known
abbrev pub GivesTo : Option SocketAddr → List ℕ → Option (List Datagram) → Option (List Datagram) → Type 0
GivesTo None octets before after = ⊥
GivesTo (Some client) octets before after = Gives (record { octets = octets; peer = client }) before after

-- so many octets of the first that comes, cut off after 512, are in the buffer, with its sender; or none came yet
abbrev pub Brings : Option (ℕ × SocketAddr) → List ℕ → Option (List Datagram) → Option (List Datagram) → Type 0
Brings got into None after = after ≡ None
Brings None into (Some coming) after = after ≡ Some coming
Brings (Some got) into (Some []) after = ⊥
Brings (Some got) into (Some (first ∷ coming)) after = (take got.0 into ≡ take longest_got first.octets) × (got.1 ≡ first.peer) × (after ≡ Some coming)

-- ---- whose datagrams are taken: those of one host, or of everybody who can be answered

abbrev pub IsOf : Senders → SocketAddr → Type 0
IsOf (Host host) from = socket_ip from ≡ host
IsOf Answerable from = socket_port from ≢ 0

-- the first ones that come, be it none, are of others, and are passed over
abbrev pub PassesOver : Senders → Option (List Datagram) → Option (List Datagram) → Type 0
PassesOver senders None after = after ≡ None
PassesOver senders (Some coming) after = (others rest : List Datagram) × (coming ≡ others ++ rest) × AllByRecursion (λ other. IsOf senders other.peer → ⊥) others × (after ≡ Some rest)

-- the first that is theirs is brought, or none came yet
abbrev pub BringsOf : Senders → Option (ℕ × SocketAddr) → List ℕ → Option (List Datagram) → Option (List Datagram) → Type 0
BringsOf senders got into before after = (there : Option (List Datagram)) × PassesOver senders before there × Brings got into there after × IfSome got (λ came. IsOf senders came.1)

-- the same of a link's answer, of the gateway's host alone, and of a port's, which names the sender by its number among the clients
abbrev pub LinkBrings : SocketAddr → Polled → List ℕ → Option (List Datagram) → Option (List Datagram) → Type 0
LinkBrings gateway (link_answer.Got n) into before after = (from : SocketAddr) × BringsOf (Host (socket_ip gateway)) (Some (n, from)) into before after
LinkBrings gateway link_answer.Quiet into before after = BringsOf (Host (socket_ip gateway)) None into before after

abbrev pub PortBrings : PortPolled → List ℕ → List SocketAddr → Option (List Datagram) → Option (List Datagram) → Type 0
PortBrings (port_answer.Got n number) into clients before after = (from : SocketAddr) × (slice_get clients number ≡ Some from) × BringsOf Answerable (Some (n, from)) into before after
PortBrings port_answer.Quiet into clients before after = BringsOf Answerable None into before after

-- each number that named a client names it still
abbrev pub NamesOn : List SocketAddr → List SocketAddr → Type 0
NamesOn old new = (number : ℕ) → IfSome (slice_get old number) (λ client. slice_get new number ≡ Some client)

-- ---- which error is a wait that its time or a signal ended

abbrev pub is_wait_over : ErrorKind → Bool
is_wait_over WouldBlock = true
is_wait_over TimedOut = true
is_wait_over Interrupted = true
is_wait_over _ = false

-- ---- which fault an error is: want of memory is told as itself

abbrev pub link_fault_of : ErrorKind → LinkFault
link_fault_of OutOfMemory = link_fault.NoMemory tt
link_fault_of _ = link_fault.Failed

abbrev pub port_fault_of : ErrorKind → PortFault
port_fault_of OutOfMemory = port_fault.NoMemory tt
port_fault_of _ = port_fault.Failed

-- ---- how many calls of a link were answered: one more, where this one is; at most the greatest number of 64 bits
abbrev pub entries_after : {X : Type 0} → Result X LinkFault → ℕ → ℕ
entries_after (Ok x) done = one_more done
entries_after (Err fault) done = done
