-- What the client gets keeps the book of its endpoint.
use Rattle.std.proofs.Common.{◌≡◌, ℕ, suc, ◌+◌, ◌%◌, ◌<◌, ◌≤◌, List, [], ◌∷◌, length, Bool, true, false, cond, Option, Some, None, refl, sym, ◌∙◌, ap, subst, arith}
use Rattle.std.specs.Prelude.{◌==◌}
use Rattle.std.proofs.lemmas.Bool.{eqb-true, and_parts, not-true}
use Rattle.knx_model.specs.declared.frames.ip.IpFrame.{IpFrame}
use Rattle.knx_model.specs.declared.frames.ip.IpFrame.TheVariants.{ConnectRequest, ConnectResponse, StateRequest, StateResponse, DisconnectRequest, DisconnectResponse, TunnellingRequest, TunnellingAck}
use Rattle.knx_model.specs.Connection.{has_passed}
use Rattle.line_model.specs.Reading.{RequestFrame, request_in, ack_in, datagram_in}
use Rattle.line_model.specs.Network.{Sent}
use Rattle.line_model.specs.Gateway.{number_of, next_number}
use Rattle.line_model.specs.Record.{Entry, Got, Quiet, entry}
use Rattle.line_model.specs.ChannelLost.{Own, own, is_none, acknowledges, delivers, is_lost, answer_wait, expected}
use Rattle.line_model.specs.ClientView.{ClientChannel, Fresh, Sought, RefusedBy, Unanswered, Open, Lost, View, Deed, Takes, Loses, Nothing, after_entry, traffic, deed_of, and_puts, or_number, sought_got}
use Rattle.line_model.specs.ActedOnce.{Has, in_channel}
use Rattle.tunnel_law.proofs.Numbers as numbers
use Rattle.tunnel_law.proofs.Inside.{inside_map, tail_length}
use Rattle.tunnel_law.proofs.Fits.{Book, book_after, BookIs, IsAck, TellIs, NotTell, InRange, Member, BookFits, LastIs, IsUp, Phase, Kept, ResponseIn, ResponseOf, last_put}
use Rattle.tunnel_law.proofs.Sends.{named_up}

-- two channels of one endpoint have different numbers
pub same_channel : (asked : Option ℕ) (j k : ℕ) → InRange asked j → InRange asked k → number_of j ≡ number_of k → j ≡ k
same_channel None j k h g e = absurd h
same_channel (Some a) j k h g e =
    let h0 : a ≤ j = h.0 in let h1 : j < a + 255 = h.1 in let g0 : a ≤ k = g.0 in let g1 : k < a + 255 = g.1 in omega arith

-- an acknowledgement that comes
pub record Acked (makers : List ℕ) (acted : List (ℕ × List ℕ)) (e d : ℕ) (g : Option IpFrame) : Type 0 where
  pub mark : ℕ
  pub place : ℕ
  pub is : g ≡ Some (TunnellingAck (number_of mark) (place % 256) 0)
  pub below : place < length (in_channel mark acted)
  pub close : length (in_channel mark acted) ≤ suc (place + d)
  pub maker : Has makers mark e

-- one that counts
pub record Counts (c : ℕ) (o : Own) (g : Option IpFrame) : Type 0 where
  pub status : ℕ
  pub is : g ≡ Some (TunnellingAck c o.number status)
  pub waits : is_none o.sent ≡ false

counts : (c : ℕ) (o : Own) (g : Option IpFrame) → acknowledges c o (ack_in g) ≡ true → Counts c o g
counts c o None h = cc
counts c o (Some ConnectRequest) h = cc
counts c o (Some (ConnectResponse d s t)) h = cc
counts c o (Some (StateRequest d)) h = cc
counts c o (Some (StateResponse d s)) h = cc
counts c o (Some (DisconnectRequest d)) h = cc
counts c o (Some (DisconnectResponse d s)) h = cc
counts c o (Some (TunnellingRequest d n p)) h = cc
counts c o (Some (TunnellingAck d n s)) h =
    let one = and_parts _ _ h in
    let two = and_parts _ _ one.0 in
    let three = and_parts _ _ one.1 in
    let d_is : d ≡ c = eqb-true d c two.0 in
    let n_is : n ≡ o.number = eqb-true n o.number two.1 in
    record { status = s; is = ap (λ z. Some (TunnellingAck z n s)) d_is ∙ ap (λ z. Some (TunnellingAck c z s)) n_is; waits = not-true _ three.1 }

ack_is : (g : Option IpFrame) (c n s : ℕ) → g ≡ Some (TunnellingAck c n s) → IsAck g
ack_is g c n s e = subst IsAck (sym e) tt

module _ (up : List Sent) (makers : List ℕ) (acted : List (ℕ × List ℕ)) (e d : ℕ) (young : d < 128) (g : Option IpFrame) (known : IsAck g → Acked makers acted e d g) where
  acked_up : (joined asked : Option ℕ) (puts : List (List ℕ)) (c number : ℕ) (sent : List ℕ) (last : Option (List ℕ)) → BookFits up makers acted e joined puts asked
      → IsUp acted joined puts c number sent last → Counts c (record { number = number; sent = sent }) g → IsUp acted joined puts c (next_number number) [] last
  acked_up None asked puts c number sent last old u h = absurd (let f : None ≡ Some u.place = u.joined_is in cc)
  acked_up (Some j) asked puts c number [] last old u h = absurd (let f : true ≡ false = h.waits in cc)
  acked_up (Some j) asked puts c number (t ∷ ts) last old u h =
      let a : Acked makers acted e d g = known (ack_is g c number h.status h.is) in
      let m : Member makers acted e j puts = old.member in
      let at : j ≡ u.place = (let f : Some j ≡ Some u.place = u.joined_is in cc) in
      let same : Some (TunnellingAck c number h.status) ≡ Some (TunnellingAck (number_of a.mark) (a.place % 256) 0) = sym h.is ∙ a.is in
      let c_is : c ≡ number_of a.mark = cc in
      let n_is : number ≡ a.place % 256 = cc in
      let j_is : j ≡ a.mark = same_channel asked j a.mark (old.range j m.maker) (old.range a.mark a.maker) (ap number_of at ∙ sym u.numbered ∙ c_is) in
      let li : LastIs last puts u.done = u.last_is in
      let len : length puts ≡ suc u.done = ap (λ l. length l) li.puts_are ∙ ap (λ n. suc n) li.count in
      let count : length (in_channel a.mark acted) ≡ length (in_channel u.place acted) = ap (λ z. length (in_channel z acted)) (sym j_is ∙ at) in
      let below : a.place < length (in_channel a.mark acted) = a.below in
      let close : length (in_channel a.mark acted) ≤ suc (a.place + d) = a.close in
      let le : length (in_channel j acted) ≤ length puts = tail_length (in_channel j acted) puts m.tail in
      let count2 : length (in_channel j acted) ≡ length (in_channel u.place acted) = ap (λ z. length (in_channel z acted)) at in
      let told : u.done ≤ length (in_channel u.place acted) = u.told in
      let p_is : a.place ≡ u.done = numbers.same_number a.place u.done (omega arith) (omega arith) (sym n_is ∙ u.number_is) in
      record {
        place = u.place;
        joined_is = u.joined_is;
        numbered = u.numbered;
        done = suc u.done;
        number_is = ap next_number u.number_is ∙ numbers.next_number u.done;
        told = omega arith;
        last_is = len;
      }

  acked_by : (joined asked : Option ℕ) (puts : List (List ℕ)) (c : ℕ) (o : Own) (last : Option (List ℕ)) → BookFits up makers acted e joined puts asked → IsUp acted joined puts c o.number o.sent last
      → (t : Bool) → acknowledges c o (ack_in g) ≡ t
      → IsUp acted joined puts c (cond t (record { number = next_number o.number; sent = [] }) o).number (cond t (record { number = next_number o.number; sent = [] }) o).sent last
  acked_by joined asked puts c o last old u true h = acked_up joined asked puts c o.number o.sent last old u (counts c o g h)
  acked_by joined asked puts c o last old u false h = u

-- the first response that is got opens the channel
pub join_fits : (up : List Sent) (makers : List ℕ) (acted : List (ℕ × List ℕ)) (e mark : ℕ) (joined asked : Option ℕ) (puts : List (List ℕ)) → BookFits up makers acted e joined puts asked → joined ≡ None → Has makers mark e
    → BookFits up makers acted e (Some mark) puts asked × (puts ≡ [])
join_fits up makers acted e mark (Some j) asked puts old none maker = absurd (cc)
join_fits up makers acted e mark None asked puts old none maker =
    let m : puts ≡ [] = old.member in
    let empty : in_channel mark acted ≡ [] = old.alone mark maker (λ q. cc) in
    let len : length puts ≡ 0 = ap (λ l. length l) m in (
      record {
        tells = inside_map (TellIs e None puts) (TellIs e (Some mark) puts) (NotTell e) (λ a s h. absurd h.to_joined) old.tells;
        asks = old.asks;
        range = old.range;
        member = record { maker = maker; tail = ([], m ∙ sym empty); one = omega arith };
        alone = λ k h other. old.alone k h (λ q. cc);
      },
      m,
    )

abbrev got_deed : ℕ → List Entry → Option IpFrame → Deed
got_deed c l g = deed_of Takes (delivers c (expected c l) (request_in g)) (request_in g)

takes_no_put : (test : Bool) (p : List ℕ) (puts : List (List ℕ)) → and_puts (cond test (Takes p) Nothing) puts ≡ puts
takes_no_put true p puts = refl
takes_no_put false p puts = refl

no_puts : (c : ℕ) (l : List Entry) (g : Option IpFrame) (puts : List (List ℕ)) → and_puts (got_deed c l g) puts ≡ puts
no_puts c l g puts = by_request (delivers c (expected c l) (request_in g)) (request_in g)
  where
    by_request : (test : Bool) (q : Option RequestFrame) → and_puts (deed_of Takes test q) puts ≡ puts
    by_request test None = refl
    by_request test (Some request) = takes_no_put test request.cemi puts

module _ (up : List Sent) (makers : List ℕ) (acted : List (ℕ × List ℕ)) (e d : ℕ) (young : d < 128) (octets : List ℕ) (now : ℕ) where
  abbrev seen : Option IpFrame
  seen = datagram_in octets

  abbrev here : Entry
  here = entry (Got octets) now

  abbrev After : View → ClientChannel → Type 0
  After v state = Kept up makers acted e (or_number state v.number) v.puts (λ joined asked. Phase acted joined asked v.puts state)

  opens : (v : View) (since c : ℕ) → BookIs up makers acted e (record { view = v; state = Sought since }) → ResponseOf makers c e → acknowledges c (record { number = 0; sent = [] }) (ack_in seen) ≡ false → After v (Open c (here ∷ []))
  opens v since c k r plain =
      let j = join_fits up makers acted e r.place k.joined k.asked v.puts k.fits k.phase r.maker in
      let zeroth : Own = record { number = 0; sent = [] } in
      let after : Own = record { number = next_number 0; sent = [] } in
      let P : Bool → Type 0 = λ t. IsUp acted (Some r.place) v.puts c (cond {A = Own} t after zeroth).number (cond {A = Own} t after zeroth).sent None in
      let first : P false = record { place = r.place; joined_is = refl; numbered = r.number; done = 0; number_is = refl; told = omega arith; last_is = ap (λ l. length l) j.1 } in
      record { joined = Some r.place; asked = k.asked; fits = j.0; named = ap (λ z. Some z) r.number; phase = subst P (sym plain) first }

  sought_by : (v : View) (since : ℕ) → BookIs up makers acted e (record { view = v; state = Sought since }) → (f : Option IpFrame) → seen ≡ f → ResponseIn makers e f → After v (sought_got since here f)
  sought_by v since k None is r = k
  sought_by v since k (Some ConnectRequest) is r = k
  sought_by v since k (Some (ConnectResponse c s t)) is r = by_status (s == 0) refl
    where
      by_status : (b : Bool) → (s == 0) ≡ b → After v (cond b (Open c (here ∷ [])) (RefusedBy s))
      by_status true h = opens v since c k (r (eqb-true s 0 h)) (ap (λ (f : Option IpFrame). acknowledges c (record { number = 0; sent = [] }) (ack_in f)) is)
      by_status false h = record { joined = k.joined; asked = k.asked; fits = k.fits; named = k.named; phase = tt }
  sought_by v since k (Some (StateRequest c)) is r = k
  sought_by v since k (Some (StateResponse c s)) is r = k
  sought_by v since k (Some (DisconnectRequest c)) is r = k
  sought_by v since k (Some (DisconnectResponse c s)) is r = k
  sought_by v since k (Some (TunnellingRequest c n p)) is r = k
  sought_by v since k (Some (TunnellingAck c n s)) is r = k

  waits_by : (v : View) (since : ℕ) → BookIs up makers acted e (record { view = v; state = Sought since }) → ResponseIn makers e seen → (b : Bool) → After v (cond b Unanswered (sought_got since here seen))
  waits_by v since k r true = record { joined = k.joined; asked = k.asked; fits = k.fits; named = k.named; phase = tt }
  waits_by v since k r false = sought_by v since k seen refl r

  open_by : (v : View) (c : ℕ) (l : List Entry) → BookIs up makers acted e (record { view = v; state = Open c l }) → (IsAck seen → Acked makers acted e d seen) → (b : Bool)
      → Kept up makers acted e (or_number (cond b (Lost c) (Open c (here ∷ l))) v.number) (and_puts (cond b Loses (got_deed c l seen)) v.puts)
      (λ joined asked. Phase acted joined asked (and_puts (cond b Loses (got_deed c l seen)) v.puts) (cond b (Lost c) (Open c (here ∷ l))))
  open_by v c l k known true = record { joined = k.joined; asked = k.asked; fits = k.fits; named = k.named; phase = tt }
  open_by v c l k known false =
      let P : List (List ℕ) → Type 0 = λ puts. Kept up makers acted e (Some c) puts (λ joined asked. Phase acted joined asked puts (Open c (here ∷ l))) in
      let it : P v.puts = record {
        joined = k.joined;
        asked = k.asked;
        fits = k.fits;
        named = named_up acted k.joined v.puts c (own c l).number (own c l).sent (last_put c l) k.phase;
        phase = acked_by up makers acted e d young seen known k.joined k.asked v.puts c (own c l) (last_put c l) k.fits k.phase (acknowledges c (own c l) (ack_in seen)) refl;
      } in
      subst P (sym (no_puts c l seen v.puts)) it

  take_by : (v : View) (state : ClientChannel) → BookIs up makers acted e (record { view = v; state = state }) → ResponseIn makers e seen → (IsAck seen → Acked makers acted e d seen)
      → BookIs up makers acted e (book_after (record { view = v; state = state }) here)
  unfolding after_entry traffic
  take_by v Fresh k r a = k
  take_by v (Sought since) k r a = waits_by v since k r (has_passed answer_wait since now)
  take_by v (RefusedBy s) k r a = k
  take_by v Unanswered k r a = k
  take_by v (Lost d) k r a = k
  take_by v (Open c l) k r a = open_by v c l k a (is_lost c l here)

pub take_head : (up : List Sent) (makers : List ℕ) (acted : List (ℕ × List ℕ)) (e d : ℕ) → d < 128 → (octets : List ℕ) (now : ℕ) (b : Book) → BookIs up makers acted e b
    → ResponseIn makers e (datagram_in octets) → (IsAck (datagram_in octets) → Acked makers acted e d (datagram_in octets)) → BookIs up makers acted e (book_after b (entry (Got octets) now))
take_head up makers acted e d young octets now b k r a = take_by up makers acted e d young octets now b.view b.state k r a

-- a quiet wait
quiet_by : (up : List Sent) (makers : List ℕ) (acted : List (ℕ × List ℕ)) (e now : ℕ) (v : View) (state : ClientChannel) → BookIs up makers acted e (record { view = v; state = state })
    → BookIs up makers acted e (book_after (record { view = v; state = state }) (entry Quiet now))
unfolding after_entry traffic
quiet_by up makers acted e now v Fresh k = k
quiet_by up makers acted e now v (Sought since) k = by_test (has_passed answer_wait since now)
  where
    by_test : (b : Bool) → Kept up makers acted e (or_number (cond b Unanswered (Sought since)) v.number) v.puts (λ joined asked. Phase acted joined asked v.puts (cond b Unanswered (Sought since)))
    by_test true = record { joined = k.joined; asked = k.asked; fits = k.fits; named = k.named; phase = tt }
    by_test false = k
quiet_by up makers acted e now v (RefusedBy s) k = k
quiet_by up makers acted e now v Unanswered k = k
quiet_by up makers acted e now v (Lost d) k = k
quiet_by up makers acted e now v (Open c l) k = by_test (is_lost c l (entry Quiet now))
  where
    by_test : (b : Bool) → Kept up makers acted e (or_number (cond b (Lost c) (Open c (entry Quiet now ∷ l))) v.number) (and_puts (cond b Loses Nothing) v.puts)
        (λ joined asked. Phase acted joined asked (and_puts (cond b Loses Nothing) v.puts) (cond b (Lost c) (Open c (entry Quiet now ∷ l))))
    by_test true = record { joined = k.joined; asked = k.asked; fits = k.fits; named = k.named; phase = tt }
    by_test false = record { joined = k.joined; asked = k.asked; fits = k.fits; named = named_up acted k.joined v.puts c (own c l).number (own c l).sent (last_put c l) k.phase; phase = k.phase }

pub quiet_head : (up : List Sent) (makers : List ℕ) (acted : List (ℕ × List ℕ)) (e now : ℕ) (b : Book) → BookIs up makers acted e b → BookIs up makers acted e (book_after b (entry Quiet now))
quiet_head up makers acted e now b k = quiet_by up makers acted e now b.view b.state k
