-- What is kept of all datagrams that one sender sent (UDP over IPv4): how many there are, and the youngest 128, since none arrives once 128
-- younger ones were sent. Of each its octets are kept so far as it is read. What is kept is said of each whole list that it is of.
use Rattle.std.specs.Prelude.{◌≡◌, ℕ, suc, ◌-◌, ◌^◌, ◌<◌, ◌⊎◌, Bool, false, not, ◌&&◌, ◌==◌, nat_lt, List, ◌∷◌, map, take, length, min, if◌then◌else◌, Option, Some, None}
use Rattle.line_model.specs.Counts.{age_of}
use Rattle.line_model.specs.Network.{Sent, oldest_age, most_deliveries, changed_at}
use Rattle.network_sim.specs.Readable.{readable}

-- a number of 64 bits stands still at its greatest
abbrev pub capped : ℕ → ℕ
capped n = min n (2 ^ 64 - 1)

pub record Window : Type 0 where
  pub count : ℕ  -- how many were sent in all; a number of 64 bits, which stands still at its greatest
  pub kept : List Sent  -- the youngest ones, the youngest first

-- ---- what is kept

abbrev pub kept_of : Sent → Sent
kept_of s = record s { octets = readable s.octets }

-- of all that were sent
abbrev pub window_of : List Sent → Window
window_of sent = record { count = capped (length sent); kept = map kept_of (take oldest_age sent) }

-- ---- what a sending and a change do

abbrev pub sent_too : Sent → Window → Window
sent_too s w = record { count = capped (suc w.count); kept = take oldest_age (s ∷ w.kept) }

abbrev pub changed_there : ℕ → (Sent → Sent) → Window → Window
changed_there age change w = record w { kept = changed_at age change w.kept }

-- ---- numbers and ages

-- the age of the datagram of a number, where it is kept
abbrev pub kept_age : Window → ℕ → Option ℕ
kept_age w number = if nat_lt (w.count - number) (length w.kept) then Some (w.count - number) else None

abbrev pub age_while_kept : List Sent → ℕ → Option ℕ
age_while_kept sent number = if nat_lt (age_of sent number) (min oldest_age (length sent)) then Some (age_of sent number) else None

-- a script counts with numbers of 32 bits: none of them tells the two apart
abbrev pub IsAlikeToScripts : ℕ → ℕ → Type 0
IsAlikeToScripts told number = (n : ℕ) → n < 2 ^ 32 → (n == told) ≡ (n == number)

-- a number as a script has it, or any one where as many were sent as can be counted
abbrev pub CanTell : ℕ → List Sent → Type 0
CanTell number sent = (number < 2 ^ 32) ⊎ (length sent < 2 ^ 64)

-- ---- what a datagram has before it

-- a test of the datagram of an age
abbrev pub at_sent : (Sent → Bool) → Option Sent → Bool
at_sent test None = false
at_sent test (Some s) = test s

-- neither delivered nor lost
abbrev pub is_waiting : Sent → Bool
is_waiting s = not s.lost && (s.delivered == 0)

-- delivered once, and not lost
abbrev pub came_once : Sent → Bool
came_once s = not s.lost && (s.delivered == 1)

pub record IsDeliverable (s : Sent) : Type 0 where
  pub kept : s.lost ≡ false
  pub twice : s.delivered < most_deliveries
