-- The invariant: each endpoint's book fits the datagrams that are under way, the channels that were made and what was acted on.
use Rattle.std.proofs.Common.{◌≡◌, ℕ, suc, ◌+◌, ◌-◌, ◌%◌, ◌<◌, ◌≤◌, List, [], ◌∷◌, length, Some, None, cond}
use Rattle.std.specs.Prelude.{Option, take}
use Rattle.knx_model.specs.declared.frames.ip.IpFrame.{IpFrame}
use Rattle.knx_model.specs.declared.frames.ip.IpFrame.TheVariants.{ConnectRequest, ConnectResponse, TunnellingRequest, TunnellingAck}
use Rattle.line_model.specs.Reading.{RequestFrame, request_in, datagram_in}
use Rattle.line_model.specs.Network.{Sent}
use Rattle.line_model.specs.Gateway.{Channel, number_of}
use Rattle.line_model.specs.Record.{Entry, Got, got_in, is_renewal}
use Rattle.line_model.specs.ChannelLost.{own}
use Rattle.line_model.specs.ClientView.{ClientChannel, Fresh, Sought, RefusedBy, Unanswered, Open, Lost, View, unused, after_entry, traffic, view_after}
use Rattle.line_model.specs.Sendings.{last_request}
use Rattle.line_model.specs.ActedOnce.{Has, in_channel, IsPrefix}
use Rattle.tunnel_law.proofs.Inside.{CountedIn, Every}

-- ---- each endpoint's view, with its channel's state when it was left

pub record Book : Type 0 where
  pub view : View
  pub state : ClientChannel

abbrev pub new_book : Book
new_book = record { view = unused; state = Fresh }

abbrev pub book_after : Book → Entry → Book
book_after b x = record { view = view_after b.view (after_entry b.state x) (traffic b.state x); state = after_entry b.state x }

abbrev pub head_after : List Book → Entry → List Book
head_after [] x = []
head_after (b ∷ bs) x = book_after b x ∷ bs

abbrev pub note : List Book → Entry → List Book
note bs x = cond (is_renewal x.what) (new_book ∷ bs) (head_after bs x)

abbrev pub books : List Entry → List Book
books [] = new_book ∷ []
books (x ∷ r) = note (books r) x

-- ---- the client's datagrams

abbrev pub IsAsk : Option IpFrame → Type 0
IsAsk (Some ConnectRequest) = Unit {0}
IsAsk _ = ⊥

abbrev pub IsTell : Option IpFrame → Type 0
IsTell (Some (TunnellingRequest c n p)) = Unit {0}
IsTell _ = ⊥

abbrev pub Joined : Option ℕ → ℕ → Type 0
Joined None c = ⊥
Joined (Some j) c = c ≡ number_of j

-- a request from this endpoint, put at this place
pub record TellOf (e : ℕ) (joined : Option ℕ) (puts : List (List ℕ)) (a : ℕ) (f : Option IpFrame) (from : ℕ) : Type 0 where
  pub channel : ℕ
  pub content : List ℕ
  pub is : f ≡ Some (TunnellingRequest channel (a % 256) content)
  pub sender : from ≡ e
  pub to_joined : Joined joined channel
  pub put : Has puts a content

abbrev pub TellIs : ℕ → Option ℕ → List (List ℕ) → ℕ → Sent → Type 0
TellIs e joined puts a s = TellOf e joined puts a (datagram_in s.octets) s.endpoint

abbrev pub NotTell : ℕ → Sent → Type 0
NotTell e s = IsTell (datagram_in s.octets) → s.endpoint ≡ e → ⊥

abbrev pub AskIs : ℕ → Option ℕ → Sent → Type 0
AskIs e asked s = IsAsk (datagram_in s.octets) → s.endpoint ≡ e → asked ≡ Some s.made

-- the channels of an endpoint were made within 255 of its connect request
abbrev pub InRange : Option ℕ → ℕ → Type 0
InRange None k = ⊥
InRange (Some a) k = (a ≤ k) × (k < a + 255)

pub record Member (makers : List ℕ) (acted : List (ℕ × List ℕ)) (e j : ℕ) (puts : List (List ℕ)) : Type 0 where
  pub maker : Has makers j e
  pub tail : IsPrefix (in_channel j acted) puts
  pub one : length puts ≤ suc (length (in_channel j acted))

abbrev pub JoinedFits : List ℕ → List (ℕ × List ℕ) → ℕ → Option ℕ → List (List ℕ) → Type 0
JoinedFits makers acted e None puts = puts ≡ []
JoinedFits makers acted e (Some j) puts = Member makers acted e j puts

pub record BookFits (up : List Sent) (makers : List ℕ) (acted : List (ℕ × List ℕ)) (e : ℕ) (joined : Option ℕ) (puts : List (List ℕ)) (asked : Option ℕ) : Type 0 where
  pub tells : CountedIn (TellIs e joined puts) (NotTell e) up (length puts)
  pub asks : Every (AskIs e asked) up
  pub range : (k : ℕ) → Has makers k e → InRange asked k
  pub member : JoinedFits makers acted e joined puts
  pub alone : (k : ℕ) → Has makers k e → (joined ≡ Some k → ⊥) → in_channel k acted ≡ []

-- ---- the client's state, with the places that it can't see

-- the content of the request that a datagram is
abbrev pub cemi_in : Option RequestFrame → Option (List ℕ)
cemi_in None = None
cemi_in (Some request) = Some request.cemi

abbrev pub content_in : Option (List ℕ) → Option (List ℕ)
content_in None = None
content_in (Some octets) = cemi_in (request_in (datagram_in octets))

-- that of the request that was put last
abbrev pub last_put : ℕ → List Entry → Option (List ℕ)
last_put c l = content_in (last_request c l)

pub record LastIs (last : Option (List ℕ)) (puts : List (List ℕ)) (done : ℕ) : Type 0 where
  pub newest : List ℕ
  pub older : List (List ℕ)
  pub is : last ≡ Some newest
  pub puts_are : puts ≡ newest ∷ older
  pub count : length older ≡ done

abbrev pub Last : List ℕ → Option (List ℕ) → List (List ℕ) → ℕ → Type 0
Last [] last puts done = length puts ≡ done
Last (t ∷ ts) last puts done = LastIs last puts done

pub record IsUp (acted : List (ℕ × List ℕ)) (joined : Option ℕ) (puts : List (List ℕ)) (c number : ℕ) (sent : List ℕ) (last : Option (List ℕ)) : Type 0 where
  pub place : ℕ
  pub joined_is : joined ≡ Some place
  pub numbered : c ≡ number_of place
  pub done : ℕ
  pub number_is : number ≡ done % 256
  pub told : done ≤ length (in_channel place acted)
  pub last_is : Last sent last puts done

abbrev pub Phase : List (ℕ × List ℕ) → Option ℕ → Option ℕ → List (List ℕ) → ClientChannel → Type 0
Phase acted joined asked puts Fresh = (joined ≡ None) × (asked ≡ None)
Phase acted joined asked puts (Sought since) = joined ≡ None
Phase acted joined asked puts (RefusedBy status) = Unit {0}
Phase acted joined asked puts Unanswered = Unit {0}
Phase acted joined asked puts (Open c l) = IsUp acted joined puts c (own c l).number (own c l).sent (last_put c l)
Phase acted joined asked puts (Lost c) = Unit {0}

abbrev pub Named : Option ℕ → Option ℕ → Type 0
Named None number = number ≡ None
Named (Some j) number = number ≡ Some (number_of j)

pub record Kept (up : List Sent) (makers : List ℕ) (acted : List (ℕ × List ℕ)) (e : ℕ) (number : Option ℕ) (puts : List (List ℕ)) (Is : Option ℕ → Option ℕ → Type 0) : Type 0 where
  pub joined : Option ℕ
  pub asked : Option ℕ
  pub fits : BookFits up makers acted e joined puts asked
  pub named : Named joined number
  pub phase : Is joined asked

abbrev pub BookIs : List Sent → List ℕ → List (ℕ × List ℕ) → ℕ → Book → Type 0
BookIs up makers acted e b = Kept up makers acted e b.view.number b.view.puts (λ joined asked. Phase acted joined asked b.view.puts b.state)

-- ---- the gateway's datagrams

abbrev pub seen : Sent → Option IpFrame
seen s = got_in (Got (take 512 s.octets))

abbrev pub IsAck : Option IpFrame → Type 0
IsAck (Some (TunnellingAck c n s)) = Unit {0}
IsAck _ = ⊥

pub record AckOf (makers : List ℕ) (k a : ℕ) (f : Option IpFrame) (made endpoint : ℕ) : Type 0 where
  pub is : f ≡ Some (TunnellingAck (number_of k) (a % 256) 0)
  pub place : made - 1 ≡ k
  pub maker : Has makers k endpoint

abbrev pub AckIs : List ℕ → ℕ → ℕ → Sent → Type 0
AckIs makers k a s = AckOf makers k a (seen s) s.made s.endpoint

abbrev pub NotAck : ℕ → Sent → Type 0
NotAck k s = IsAck (seen s) → s.made - 1 ≡ k → ⊥

pub record ResponseOf (makers : List ℕ) (c endpoint : ℕ) : Type 0 where
  pub place : ℕ
  pub number : c ≡ number_of place
  pub maker : Has makers place endpoint

abbrev pub ResponseIn : List ℕ → ℕ → Option IpFrame → Type 0
ResponseIn makers endpoint (Some (ConnectResponse c status tunnel)) = status ≡ 0 → ResponseOf makers c endpoint
ResponseIn makers endpoint _ = Unit {0}

abbrev pub ResponseIs : List ℕ → Sent → Type 0
ResponseIs makers s = ResponseIn makers s.endpoint (seen s)

-- ---- the gateway

abbrev pub Serving : List ℕ → List (ℕ × List ℕ) → Option Channel → Type 0
Serving makers acted None = Unit {0}
Serving [] acted (Some c) = ⊥
Serving (owner ∷ rest) acted (Some c) = (c.endpoint ≡ owner) × (c.number ≡ number_of (length rest)) × (c.expected ≡ length (in_channel (length rest) acted) % 256)

abbrev pub SentIs : ℕ → ℕ → Sent → Type 0
SentIs endpoints made s = (s.endpoint < endpoints) × (s.made ≤ made)

pub record Inv (bs : List Book) (present : ℕ) (up down : List Sent) (makers : List ℕ) (channel : Option Channel) (acted : List (ℕ × List ℕ)) : Type 0 where
  pub endpoints : length bs ≡ suc present
  pub sent : Every (SentIs (length bs) (length makers)) up
  pub made : (k e : ℕ) → Has makers k e → e < length bs
  pub unmade : (k : ℕ) → length makers ≤ k → in_channel k acted ≡ []
  pub each : (e : ℕ) (b : Book) → Has bs e b → BookIs up makers acted e b
  pub serving : Serving makers acted channel
  pub acks : (k : ℕ) → CountedIn (AckIs makers k) (NotAck k) down (length (in_channel k acted))
  pub responses : Every (ResponseIs makers) down
