-- After the gateway has closed the channel that the client asked to end: its response is under way.
use Rattle.std.proofs.Common.{◌≡◌, ℕ, ◌≤◌, ◌⊎◌, List, [], ◌∷◌, length, true, Option, Some, None, refl, subst, inl, inr}
use Rattle.knx_model.specs.declared.frames.ip.IpFrame.{IpFrame}
use Rattle.knx_model.specs.declared.frames.ip.IpFrame.TheVariants.{ConnectRequest, DisconnectRequest}
use Rattle.line_model.specs.Reading.{datagram_in}
use Rattle.line_model.specs.Network.{Sent}
use Rattle.line_model.specs.Tunnel.{Tunnel}
use Rattle.line_model.specs.Record.{Entry}
use Rattle.calm_law.proofs.Ways.{Way, AllCame}
use Rattle.calm_law.proofs.Tokens.{Rise, Ask, Tell, Receipt, Beat, Leave, Fall, Left, joined, pick, ask_of, leave_of, risen, fallen, read_down}
use Rattle.calm_law.proofs.Seen.{Seen, Up}

-- neither opens nor closes a channel
abbrev pub Asks : Option IpFrame → Type 0
Asks (Some ConnectRequest) = Unit {0}
Asks (Some (DisconnectRequest c)) = Unit {0}
Asks _ = ⊥

abbrev pub NoneAsks : List Sent → Type 0
NoneAsks [] = Unit {0}
NoneAsks (s ∷ sent) = ((1 ≤ s.delivered) ⊎ (Asks (datagram_in s.octets) → ⊥)) × NoneAsks sent

pub record Parted (r : List Entry) (t : Tunnel) : Type 0 where
  pub s : Seen
  pub up : Up true r t.present s
  pub shut : t.gateway.channel ≡ None
  pub made : length t.gateway.makers ≤ 1
  pub rising : NoneAsks t.network.up
  pub status : ℕ
  pub older : List Fall
  pub falling : Way Fall read_down fallen (Left status ∷ older) t.network.down
  pub few : length older ≤ 9

-- what the client had sent before
asks_not : (u : Rise) → ask_of u ≡ None → leave_of u ≡ None → Asks (Some (risen u)) → ⊥
asks_not Ask a b h = cc
asks_not (Tell n cemi) a b h = h
asks_not (Receipt n) a b h = h
asks_not Beat a b h = h
asks_not Leave a b h = cc

none_of : (o : Option ℕ) (l : List ℕ) → joined o l ≡ [] → (o ≡ None) × (l ≡ [])
none_of None l h = (refl, h)
none_of (Some y) l h = absurd (cc)

came : (sent : List Sent) → AllCame sent → NoneAsks sent
came [] h = tt
came (s ∷ sent) h = (inl h.0, came sent h.1)

pub none_asks : (ups : List Rise) (sent : List Sent) → Way Rise datagram_in risen ups sent → pick ask_of ups ≡ [] → pick leave_of ups ≡ [] → NoneAsks sent
none_asks [] sent w a b = came sent w
none_asks (u ∷ ups) [] w a b = absurd w
none_asks (u ∷ ups) (s ∷ sent) w a b =
    let x = none_of (ask_of u) (pick ask_of ups) a in
    let y = none_of (leave_of u) (pick leave_of ups) b in
    (inr (λ i. asks_not u x.0 y.0 (subst Asks w.0.reads i)), none_asks ups sent w.1 x.1 y.1)
