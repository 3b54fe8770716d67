-- What the client's record says of its open channel, number 1, and how each entry changes that.
use Rattle.std.proofs.Common.{◌≡◌, ℕ, List, [], ◌∷◌, Bool, true, false, cond, ◌&&◌, ◌||◌, if◌then◌else◌, Option, Some, None, refl, ◌∙◌, ap}
use Rattle.std.specs.Prelude.{take, is_some}
use Rattle.knx_model.specs.declared.frames.cemi.Ldata.{Ldata}
use Rattle.knx_model.specs.declared.frames.ip.IpFrame.{IpFrame}
use Rattle.line_model.specs.Gateway.{next_number}
use Rattle.line_model.specs.Reading.{datagram_in, request_in, ack_in, state_request_in, state_response_in, disconnect_request_in, disconnect_response_in}
use Rattle.line_model.specs.Record.{Entry, Put, Got, Quiet, entry, put_in, got_in}
use Rattle.line_model.specs.ChannelLost.{Own, own, acknowledged, confirmed, last_frame, frame_in_request, expected, beats, is_none, is_request, acknowledges, confirms, delivers, is_for, answers_beat, has_left, is_given_up, is_unconfirmed, is_dead, tells_bad, is_lost}
use Rattle.line_model.specs.ClientView.{ClientChannel, Open, Lost, after_entry, channel}
use Rattle.line_model.specs.Renews.{last_beat, has_renewed}
use Rattle.line_model.specs.Closing.{asks_to_end, is_open}
use Rattle.line_model.specs.Leaves.{StaysOpen}
use Rattle.calm_law.proofs.Tokens.{read_down}

pub record Seen : Type 0 where
  pub own : Own
  pub acked : Option ℕ  -- when the request put last was acknowledged
  pub confirmed : Bool
  pub last : Option Ldata  -- its frame
  pub expected : ℕ
  pub beats : List ℕ
  pub beat : ℕ  -- when the last heartbeat was sent

abbrev pub seen : List Entry → Seen
seen l = record { own = own 1 l; acked = acknowledged 1 l; confirmed = confirmed 1 l; last = last_frame 1 l; expected = expected 1 l; beats = beats 1 l; beat = last_beat 1 l }

-- after an entry that put one frame and got another
abbrev pub seen_after : Seen → ℕ → Option IpFrame → Option IpFrame → Seen
seen_after s now put got = record {
  own = if is_request 1 (request_in put) then record { number = s.own.number; sent = now ∷ s.own.sent } else (if acknowledges 1 s.own (ack_in got) then record { number = next_number s.own.number; sent = [] } else s.own);
  acked = if is_request 1 (request_in put) && is_none s.own.sent then None else (if acknowledges 1 s.own (ack_in got) then Some now else s.acked);
  confirmed = if is_request 1 (request_in put) && is_none s.own.sent then false else (if confirms 1 s.expected s.last (request_in got) then true else s.confirmed);
  last = if is_request 1 (request_in put) && is_none s.own.sent then frame_in_request (request_in put) else s.last;
  expected = if delivers 1 s.expected (request_in got) then next_number s.expected else s.expected;
  beats = if is_for 1 (state_request_in put) then now ∷ s.beats else (if answers_beat 1 s.beats now (state_response_in got) then [] else s.beats);
  beat = if is_for 1 (state_request_in put) then now else s.beat;
}

pub seen_is : (x y : Entry) (l : List Entry) → seen (x ∷ y ∷ l) ≡ seen_after (seen (y ∷ l)) x.now (put_in x.what) (got_in x.what)
seen_is x y l = refl

-- channel 1 is open, and its entries say this
pub record IsOpen (r : List Entry) (s : Seen) : Type 0 where
  pub first : Entry
  pub rest : List Entry
  pub is : channel r ≡ Open 1 (first ∷ rest)
  pub says : seen (first ∷ rest) ≡ s

-- the client asked for its end
abbrev pub HasLeft : (r : List Entry) (s : Seen) → IsOpen r s → Type 0
HasLeft r s o = has_left 1 (o.first ∷ o.rest) ≡ true

abbrev pub AsksEnd : (leaves : Bool) (r : List Entry) (s : Seen) → IsOpen r s → Type 0
AsksEnd true r s o = HasLeft r s o × (StaysOpen r → ⊥)
AsksEnd false r s o = Unit {0}

-- or didn't
pub record Up (leaves : Bool) (r : List Entry) (present : ℕ) (s : Seen) : Type 0 where
  pub open_ : IsOpen r s
  pub asks : AsksEnd leaves r s open_
  pub renewed : has_renewed r ≡ true
  pub at : present ≡ 1

-- ---- it stays open

-- where nothing was got and no wait has passed
abbrev pub lapsed : Seen → ℕ → Bool
lapsed s now = is_given_up s.own.sent now || is_unconfirmed s.acked s.confirmed now || is_dead s.beats now

abbrev pub ended : Seen → Bool → ℕ → Option IpFrame → Bool
ended s left now frame = is_for 1 (disconnect_request_in frame) || tells_bad 1 s.beats now (state_response_in frame) || (left && is_for 1 (disconnect_response_in frame))

pub neither : (a b : Bool) → a ≡ false → b ≡ false → (a || b) ≡ false
neither a b h g = rw (h, g) refl

pub and_no : (b : Bool) → (b && false) ≡ false
and_no true = refl
and_no false = refl

stays : (b : Bool) (ch : ClientChannel) → b ≡ false → cond b (Lost 1) ch ≡ ch
stays b ch h = rw h refl

-- a datagram that is sent
pub open_put : (r : List Entry) (s : Seen) (octets : List ℕ) (now : ℕ) (f : IpFrame) → datagram_in octets ≡ Some f → IsOpen r s → IsOpen (entry (Put octets) now ∷ r) (seen_after s now (Some f) None)
unfolding after_entry
open_put r s octets now f d o =
    record {
      first = entry (Put octets) now;
      rest = o.first ∷ o.rest;
      is = ap (λ c. after_entry c (entry (Put octets) now)) o.is;
      says = ap (λ p. seen_after (seen (o.first ∷ o.rest)) now p None) d ∙ ap (λ z. seen_after z now (Some f) None) o.says;
    }

-- it isn't lost by a frame that is got
pub not_lost : (r : List Entry) (s : Seen) (octets : List ℕ) (now : ℕ) (f : IpFrame) → read_down octets ≡ Some f → lapsed s now ≡ false → ((left : Bool) → ended s left now (Some f) ≡ false) → (o : IsOpen r s)
    → is_lost 1 (o.first ∷ o.rest) (entry (Got (take 512 octets)) now) ≡ false
not_lost r s octets now f d lap end o =
    let x : Entry = entry (Got (take 512 octets)) now in
    let l : List Entry = o.first ∷ o.rest in
    let no_lapse : lapsed (seen l) now ≡ false = ap (λ z. lapsed z now) o.says ∙ lap in
    let no_end : ended (seen l) (has_left 1 l) now (got_in x.what) ≡ false = ap (λ p. ended (seen l) (has_left 1 l) now p) d ∙ ap (λ z. ended z (has_left 1 l) now (Some f)) o.says ∙ end (has_left 1 l) in
    neither (lapsed (seen l) now) (ended (seen l) (has_left 1 l) now (got_in x.what)) no_lapse no_end

-- a frame that is got
pub open_got : (r : List Entry) (s : Seen) (octets : List ℕ) (now : ℕ) (f : IpFrame) → read_down octets ≡ Some f → lapsed s now ≡ false → ((left : Bool) → ended s left now (Some f) ≡ false) → IsOpen r s
    → IsOpen (entry (Got (take 512 octets)) now ∷ r) (seen_after s now None (Some f))
unfolding after_entry
open_got r s octets now f d lap end o =
    let x : Entry = entry (Got (take 512 octets)) now in
    let l : List Entry = o.first ∷ o.rest in
    record {
      first = x;
      rest = l;
      is = ap (λ c. after_entry c x) o.is ∙ stays (is_lost 1 l x) (Open 1 (x ∷ l)) (not_lost r s octets now f d lap end o);
      says = ap (λ p. seen_after (seen l) now None p) d ∙ ap (λ z. seen_after z now None (Some f)) o.says;
    }

-- a wait
pub open_quiet : (r : List Entry) (s : Seen) (now : ℕ) → lapsed s now ≡ false → IsOpen r s → IsOpen (entry Quiet now ∷ r) s
unfolding after_entry
open_quiet r s now lap o =
    let x : Entry = entry Quiet now in
    let l : List Entry = o.first ∷ o.rest in
    let no_lapse : lapsed (seen l) now ≡ false = ap (λ z. lapsed z now) o.says ∙ lap in
    record {
      first = x;
      rest = l;
      is = ap (λ c. after_entry c x) o.is ∙ stays (is_lost 1 l x) (Open 1 (x ∷ l)) (neither (lapsed (seen l) now) (ended (seen l) (has_left 1 l) now None) no_lapse (and_no (has_left 1 l)));
      says = o.says;
    }

-- ---- that the client asked for its end is not forgotten

pub left_or : (a b : Bool) → b ≡ true → (a || b) ≡ true
left_or true b h = refl
left_or false b h = h

pub asks_on : (leaves : Bool) (r : List Entry) (s s' : Seen) (x : Entry) (o : IsOpen r s) (o' : IsOpen (x ∷ r) s') → o'.first ≡ x → o'.rest ≡ o.first ∷ o.rest → AsksEnd leaves r s o → AsksEnd leaves (x ∷ r) s' o'
asks_on false r s s' x o o' a b h = tt
asks_on true r s s' x o o' a b h = (
  ap (λ (l : List Entry). has_left 1 l) (ap (λ z. z ∷ o'.rest) a ∙ ap (λ l. x ∷ l) b) ∙ left_or (is_for 1 (disconnect_request_in (put_in x.what))) (has_left 1 (o.first ∷ o.rest)) h.0,
  λ z. h.1 z.1,
)

pub up_put : (leaves : Bool) (r : List Entry) (present : ℕ) (s : Seen) (octets : List ℕ) (now : ℕ) (f : IpFrame) → datagram_in octets ≡ Some f → Up leaves r present s → Up leaves (entry (Put octets) now ∷ r) present (seen_after s now (Some f) None)
unfolding open_put
up_put leaves r present s octets now f d u =
    record { open_ = open_put r s octets now f d u.open_; asks = asks_on leaves r s (seen_after s now (Some f) None) (entry (Put octets) now) u.open_ (open_put r s octets now f d u.open_) refl refl u.asks; renewed = u.renewed; at = u.at }

-- by this entry
pub up_leaves : (r : List Entry) (present : ℕ) (s : Seen) (octets : List ℕ) (now : ℕ) (f : IpFrame) → datagram_in octets ≡ Some f → is_for 1 (disconnect_request_in (Some f)) ≡ true → Up false r present s → Up true (entry (Put octets) now ∷ r) present (seen_after s now (Some f) None)
unfolding open_put
up_leaves r present s octets now f d e u =
    let o : IsOpen r s = u.open_ in
    let asks : asks_to_end (entry (Put octets) now) ≡ true = ap (λ p. is_some (disconnect_request_in p)) d ∙ is_there (disconnect_request_in (Some f)) e in
    record {
      open_ = open_put r s octets now f d o;
      asks = (
        ap (λ p. is_for 1 (disconnect_request_in p) || has_left 1 (o.first ∷ o.rest)) d ∙ ap (λ b. b || has_left 1 (o.first ∷ o.rest)) e,
        λ z. (let closed : is_open (channel r) ≡ false = z.0 asks in let there : is_open (channel r) ≡ true = ap is_open o.is in cc),
      );
      renewed = u.renewed;
      at = u.at;
    }
  where
    is_there : (c : Option ℕ) → is_for 1 c ≡ true → is_some c ≡ true
    is_there None h = h
    is_there (Some c) h = refl

pub up_got : (leaves : Bool) (r : List Entry) (present : ℕ) (s : Seen) (octets : List ℕ) (now : ℕ) (f : IpFrame) → read_down octets ≡ Some f → lapsed s now ≡ false → ((left : Bool) → ended s left now (Some f) ≡ false) → Up leaves r present s
    → Up leaves (entry (Got (take 512 octets)) now ∷ r) present (seen_after s now None (Some f))
unfolding open_got
up_got leaves r present s octets now f d lap end u =
    let n : IsOpen (entry (Got (take 512 octets)) now ∷ r) (seen_after s now None (Some f)) = open_got r s octets now f d lap end u.open_ in
    record { open_ = n; asks = asks_on leaves r s (seen_after s now None (Some f)) (entry (Got (take 512 octets)) now) u.open_ n refl refl u.asks; renewed = u.renewed; at = u.at }

pub up_quiet : (leaves : Bool) (r : List Entry) (present : ℕ) (s : Seen) (now : ℕ) → lapsed s now ≡ false → Up leaves r present s → Up leaves (entry Quiet now ∷ r) present s
unfolding open_quiet
up_quiet leaves r present s now lap u =
    let n : IsOpen (entry Quiet now ∷ r) s = open_quiet r s now lap u.open_ in
    record { open_ = n; asks = asks_on leaves r s s (entry Quiet now) u.open_ n refl refl u.asks; renewed = u.renewed; at = u.at }
