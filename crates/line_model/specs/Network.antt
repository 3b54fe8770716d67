-- The network between the client and its gateway (UDP over IPv4), as datagrams that were sent: each with the endpoint of the client that it
-- comes from or goes to, how often it was delivered, whether it is lost, and how many channels the gateway had made when it was sent. Any
-- datagram may be lost, repeated or late. It isn't delivered more than twice, nor once 128 younger ones of the same sender were sent, nor
-- once 255 channels were made since, when their numbers come again. Each list has its youngest datagram first, and a datagram is named by
-- its age: how many younger ones there are.
use Rattle.std.specs.Prelude.{◌≡◌, ℕ, zero, suc, ◌+◌, ◌<◌, Bool, true, false, List, [], ◌∷◌, Option, Some, None, slice_get}

pub record Sent : Type 0 where
  pub octets : List ℕ
  pub endpoint : ℕ
  pub delivered : ℕ
  pub lost : Bool
  pub made : ℕ

pub record Network : Type 0 where
  pub up : List Sent  -- of the client
  pub down : List Sent  -- of the gateway

abbrev pub nothing_sent : Network
nothing_sent = record { up = []; down = [] }

abbrev pub new_datagram : List ℕ → ℕ → ℕ → Sent
new_datagram octets endpoint made = record { octets = octets; endpoint = endpoint; delivered = 0; lost = false; made = made }

-- ---- what may arrive

abbrev pub most_deliveries : ℕ
most_deliveries = 2

abbrev pub oldest_age : ℕ
oldest_age = 128

abbrev pub channel_numbers : ℕ
channel_numbers = 255

-- a datagram of this age may still arrive, where the gateway has made so many channels
pub record IsUnderWay (made age : ℕ) (s : Sent) : Type 0 where
  pub kept : s.lost ≡ false
  pub twice : s.delivered < most_deliveries
  pub young : age < oldest_age
  pub soon : made < s.made + channel_numbers

-- P of the datagram of an age
abbrev pub OfSent : (Sent → Type 0) → Option Sent → Type 0
OfSent P None = ⊥
OfSent P (Some s) = P s

-- to the gateway
abbrev pub MayArrive : ℕ → List Sent → ℕ → Type 0
MayArrive made sent age = OfSent (IsUnderWay made age) (slice_get sent age)

-- to the client at its present endpoint: what is addressed to one that it has left is never got
abbrev pub MayReach : ℕ → ℕ → List Sent → ℕ → Type 0
MayReach present made sent age = OfSent (λ s. IsUnderWay made age s × (s.endpoint ≡ present)) (slice_get sent age)

-- any datagram that was sent may be lost
abbrev pub WasSent : List Sent → ℕ → Type 0
WasSent sent age = OfSent (λ s. Unit {0}) (slice_get sent age)

-- ---- deliveries and losses

-- the datagram of an age is changed
abbrev pub changed_at : ℕ → (Sent → Sent) → List Sent → List Sent
changed_at age change [] = []
changed_at zero change (s ∷ rest) = change s ∷ rest
changed_at (suc age) change (s ∷ rest) = s ∷ changed_at age change rest

abbrev pub once_more : Sent → Sent
once_more s = record s { delivered = suc s.delivered }

abbrev pub gone : Sent → Sent
gone s = record s { lost = true }
