-- The link's record: the datagrams that the client sent, where it took a new endpoint, the datagrams that it got, and the quiet waits, in
-- order, each with its time. Over a link that tells its events it is read off them: a quiet wait is where time passes, and a datagram of
-- more than 512 octets is cut off there. The newest entry first, so what was before is the tail. Each entry has its place: how many events
-- there were with it or, where the record alone is told, how many entries.
use Rattle.std.specs.Prelude.{ℕ, Bool, true, false, List, [], ◌∷◌, length, take, map, Option, Some, None, slice_get}
use Rattle.knx_model.specs.declared.frames.ip.IpFrame.{IpFrame}
use Rattle.line_model.specs.Reading.{datagram_in}
use Rattle.line_model.specs.Network.{Sent}
use Rattle.line_model.specs.Tunnel as tunnel
use Rattle.line_model.specs.Tunnel.{Tunnel, TunnelEvent, Send, From, Renew, Up, UpRefused, Down, LoseUp, LoseDown, Carried, Heard, Repeat, Close, Pass, Elsewhere}
use Rattle.line_model.specs.World.{World, Event, tunnel_event, now, replay}

pub data Item : Type 0 where
  Put : List ℕ → Item  -- sent
  Renewed : Item
  Got : List ℕ → Item
  Quiet : Item

pub record Entry : Type 0 where
  pub what : Item
  pub now : ℕ

abbrev pub entry : Item → ℕ → Entry
entry what now = record { what = what; now = now }

-- ---- what an entry is, asked once

abbrev pub put_in : Item → Option IpFrame
put_in (Put octets) = datagram_in octets
put_in _ = None

abbrev pub got_in : Item → Option IpFrame
got_in (Got octets) = datagram_in octets
got_in _ = None

abbrev pub is_renewal : Item → Bool
is_renewal Renewed = true
is_renewal _ = false

abbrev pub is_got : Item → Bool
is_got (Got octets) = true
is_got _ = false

-- time passes in a poll alone
abbrev pub is_poll : Item → Bool
is_poll (Got octets) = true
is_poll Quiet = true
is_poll _ = false

-- ---- the record of events

abbrev pub longest_got : ℕ
longest_got = 512

abbrev pub got : Option Sent → Option Item
got None = None
got (Some s) = Some (Got (take longest_got s.octets))

-- what an event is to the record, of the tunnel before it
abbrev pub item_of : Tunnel → TunnelEvent → Option Item
item_of t (Send octets) = Some (Put octets)
item_of t (From endpoint octets) = Some (Put octets)
item_of t Renew = Some Renewed
item_of t (Down age) = got (slice_get t.network.down age)
item_of t (Pass ms) = Some Quiet
item_of t _ = None

abbrev pub item_at : World → Event → Option Item
item_at w e = item_of w.tunnel (tunnel_event w e)

-- the time of an entry is that after its event
abbrev pub noted : Option Item → ℕ → List Entry → List Entry
noted None now entries = entries
noted (Some what) now entries = entry what now ∷ entries

abbrev pub record_of : World → List Event → List Entry
record_of start [] = []
record_of start (e ∷ events) = noted (item_at (replay start events) e) (now (replay start (e ∷ events))) (record_of start events)

-- the same of the tunnel's events
abbrev pub tunnel_record : Tunnel → List TunnelEvent → List Entry
tunnel_record start [] = []
tunnel_record start (e ∷ events) = noted (item_of (tunnel.replay start events) e) (tunnel.replay start (e ∷ events)).now (tunnel_record start events)

-- ---- the same with places

pub record Placed : Type 0 where
  pub at : ℕ
  pub what : Entry

abbrev pub placed_if : ℕ → ℕ → Option Item → List Placed → List Placed
placed_if at now None places = places
placed_if at now (Some what) places = record { at = at; what = entry what now } ∷ places

-- the place of an entry is the number of events up to it
abbrev pub placed : World → List Event → List Placed
placed start [] = []
placed start (e ∷ events) = placed_if (length (e ∷ events)) (now (replay start (e ∷ events))) (item_at (replay start events) e) (placed start events)

-- where the record alone is told, equal ones each counted
abbrev pub counted : List Entry → List Placed
counted [] = []
counted (x ∷ r) = record { at = length (x ∷ r); what = x } ∷ counted r

-- the entries without their places
abbrev pub entries : List Placed → List Entry
entries places = map (λ (p : Placed). p.what) places
