-- Each event of the tunnel keeps the mirror too.
use Rattle.std.proofs.Common.{◌≡◌, ℕ, suc, ◌-◌, ◌%◌, ◌<◌, List, [], ◌∷◌, length, true, false, cond, Option, Some, None, refl, sym, ◌∙◌, ap, subst, arith, inl, inr}
use Rattle.knx_model.specs.declared.frames.cemi.Ldata.{Ldata}
use Rattle.knx_model.specs.declared.frames.ip.IpFrame.TheVariants.{DisconnectRequest, TunnellingRequest}
use Rattle.knx_model.specs.Cemi.{Written as cemi_octets}
use Rattle.knx_model.specs.KnxNetIp.{Written}
use Rattle.line_model.specs.Network.{Sent, new_datagram}
use Rattle.line_model.specs.Gateway.{Channel, Request, number_of, next_put, is_put, closed_if_open, newest_place}
use Rattle.line_model.specs.Tunnel.{Tunnel, with_gateway, sends_down, puts, puts_next, repeats, repeats_request, closes}
use Rattle.line_model.specs.Record.{Put, entry}
use Rattle.line_model.specs.ActedOnce.{Has, in_channel}
use Rattle.tunnel_law.proofs.Read.{disconnect_seen}
use Rattle.tunnel_law.proofs.Inside.{Found, has_at, has_below}
use Rattle.tunnel_law.proofs.Fits.{Book, book_after, IsTell, BookIs, Serving}
use Rattle.tunnel_law.proofs.Takes.{same_channel}
use Rattle.tunnel_law.proofs.Took.{InvT}
use Rattle.tunnel_law.proofs.Mirror.{Gate, GateFor, At, Ends, Dn, Names, dn_other, dn_channel}
use Rattle.tunnel_law.proofs.Puts.{dn_put, dn_repeat}
use Rattle.tunnel_law.proofs.Gets.{other_sent}
use Rattle.tunnel_law.proofs.Books.{EndsOf, put_by}
use Rattle.tunnel_law.proofs.Replies.{DnT, names_of}

-- what the gateway's channel is, by the book of its endpoint
record Gated (makers : List ℕ) (c : Channel) (puts : List (ℕ × List ℕ)) (nm : Names makers c) : Type 0 where
  pub settled : ℕ
  pub gate : Gate c.own c.outstanding settled (in_channel nm.k puts)

gated : (bs : List Book) (t : Tunnel) (c : Channel) → InvT bs t → DnT bs t → t.gateway.channel ≡ Some c → (nm : Names t.gateway.makers c) → Gated t.gateway.makers c t.gateway.puts nm
gated bs t c inv dn is nm =
    let f : Found bs c.endpoint = has_at bs c.endpoint (inv.made nm.k c.endpoint nm.maker) in
    let n : Ends t.network.up t.gateway.makers t.gateway.channel t.gateway.puts c.endpoint f.what.view.number f.what.view.takes f.what.state = dn.ends c.endpoint f.what f.at in
    let a : At t.gateway.makers t.gateway.channel f.what.view.number f.what.view.takes (in_channel nm.k t.gateway.puts) nm.k n.acks = n.each nm.k nm.maker in
    let P : Option Channel → Type 0 = λ o. GateFor t.gateway.makers o nm.k a.settled (in_channel nm.k t.gateway.puts) in
    record { settled = a.settled; gate = subst P is a.gate nm.newest }

open_dn : (bs : List Book) (t : Tunnel) (c : Channel) → DnT bs t → t.gateway.channel ≡ Some c → Dn bs t.network.up t.network.down t.gateway.makers (Some c) t.gateway.puts
open_dn bs t c dn is = let D : Option Channel → Type 0 = λ o. Dn bs t.network.up t.network.down t.gateway.makers o t.gateway.puts in subst D is dn

open_names : (bs : List Book) (t : Tunnel) (c : Channel) → InvT bs t → t.gateway.channel ≡ Some c → Names t.gateway.makers c
open_names bs t c inv is = let S : Option Channel → Type 0 = λ o. Serving t.gateway.makers t.gateway.acted o in names_of t.gateway.makers t.gateway.acted c (subst S is inv.serving)

made_is : (makers : List ℕ) (c : Channel) (nm : Names makers c) → length makers - 1 ≡ nm.k
made_is makers c nm = let h : suc nm.k ≡ length makers = nm.newest in omega arith

place_is : (makers : List ℕ) (c : Channel) (nm : Names makers c) → newest_place makers ≡ nm.k
place_is [] c nm = absurd (let h : suc nm.k ≡ 0 = nm.newest in cc)
place_is (m ∷ makers) c nm = let h : suc nm.k ≡ suc (length makers) = nm.newest in omega arith

put_so : (bs : List Book) (t : Tunnel) (c : Channel) (frame : Ldata) (o : Option Request) → c.outstanding ≡ o → InvT bs t → DnT bs t → t.gateway.channel ≡ Some c → DnT bs (puts t (cond (is_put o) None (Some (c, frame))))
put_so bs t c frame (Some r) out inv dn is = dn
put_so bs t c frame None out inv dn is =
    let nm = open_names bs t c inv is in
    let g = gated bs t c inv dn is nm in
    let P : Option Request → Type 0 = λ x. Gate c.own x g.settled (in_channel nm.k t.gateway.puts) in
    let h : (c.own ≡ g.settled % 256) × (length (in_channel nm.k t.gateway.puts) ≡ g.settled) = subst P out g.gate in
    let r : Request = record { frame = cemi_octets frame; repeated = false; sent = t.now } in
    let at = place_is t.gateway.makers c nm in
    let D : ℕ → Type 0 = λ k. Dn bs t.network.up (new_datagram (Written (TunnellingRequest c.number c.own (cemi_octets frame))) c.endpoint (length t.gateway.makers) ∷ t.network.down) t.gateway.makers (Some (record c { outstanding = Some r })) ((k, cemi_octets frame) ∷ t.gateway.puts) in
    subst D (sym at) (dn_put bs t.network.up t.network.down t.gateway.makers c t.gateway.puts (open_dn bs t c dn is) nm (length t.gateway.makers) (made_is t.gateway.makers c nm) out r (h.0 ∙ ap (λ z. z % 256) (sym h.1)))

next_by : (bs : List Book) (t : Tunnel) → InvT bs t → DnT bs t → (channel : Option Channel) → t.gateway.channel ≡ channel → (frames : List Ldata) → DnT bs (puts t (next_put channel frames))
next_by bs t inv dn None is frames = dn
next_by bs t inv dn (Some c) is [] = dn
next_by bs t inv dn (Some c) is (frame ∷ frames) = put_so bs t c frame c.outstanding refl inv dn is

pub dn_next : (bs : List Book) (t : Tunnel) → InvT bs t → DnT bs t → DnT bs (puts_next t)
dn_next bs t inv dn = next_by bs t inv dn t.gateway.channel refl t.gateway.waiting

repeat_by : (bs : List Book) (t : Tunnel) (c : Channel) (o : Option Request) → c.outstanding ≡ o → InvT bs t → DnT bs t → t.gateway.channel ≡ Some c → DnT bs (repeats_request t c o)
repeat_by bs t c None out inv dn is = dn
repeat_by bs t c (Some r) out inv dn is =
    let nm = open_names bs t c inv is in
    let g = gated bs t c inv dn is nm in
    let P : Option Request → Type 0 = λ x. Gate c.own x g.settled (in_channel nm.k t.gateway.puts) in
    dn_repeat bs t.network.up t.network.down t.gateway.makers c t.gateway.puts (open_dn bs t c dn is) nm (length t.gateway.makers) (made_is t.gateway.makers c nm) r (record { frame = r.frame; repeated = true; sent = t.now }) out refl
    g.settled (subst P out g.gate)

pub dn_repeats : (bs : List Book) (t : Tunnel) → InvT bs t → DnT bs t → (o : Option Channel) → t.gateway.channel ≡ o → DnT bs (repeats t o)
dn_repeats bs t inv dn None is = dn
dn_repeats bs t inv dn (Some c) is = repeat_by bs t c c.outstanding refl inv dn is

pub dn_closes : (bs : List Book) (t : Tunnel) → DnT bs t → (o : Option Channel) → t.gateway.channel ≡ o → DnT bs (closes t o)
dn_closes bs t dn None is = dn
dn_closes bs t dn (Some c) is =
    let P : Option Channel → Type 0 = λ o. DnT bs (sends_down (with_gateway t (closed_if_open t.gateway o)) c.endpoint (DisconnectRequest c.number)) in
    subst P (sym is)
    (dn_other bs t.network.up t.network.down t.gateway.makers None t.gateway.puts
    (dn_channel bs t.network.up t.network.down t.gateway.makers t.gateway.channel None t.gateway.puts dn (λ k n xs h. tt))
    (Written (DisconnectRequest c.number)) c.endpoint (length t.gateway.makers) (λ i. subst IsTell (disconnect_seen c.number) i))

-- what the other half says of an endpoint's channels
pub unique : (up : List Sent) (makers : List ℕ) (acted : List (ℕ × List ℕ)) (e : ℕ) (b : Book) → BookIs up makers acted e b → (j k : ℕ) → Has makers j e → Has makers k e → number_of j ≡ number_of k → j ≡ k
unique up makers acted e b kept j k hj hk same = same_channel kept.asked j k (kept.fits.range j hj) (kept.fits.range k hk) same

-- the client sends
module _ (b : Book) (rest : List Book) (present : ℕ) (up down : List Sent) (makers : List ℕ) (channel : Option Channel) (puts : List (ℕ × List ℕ)) (dn : Dn (b ∷ rest) up down makers channel puts) (ends_at : length rest ≡ present) (octets : List ℕ) (now : ℕ)
    (head : Ends (new_datagram octets present (length makers) ∷ up) makers channel puts (length rest) b.view.number b.view.takes b.state) where
  send_ends : (e : ℕ) (x : Book) → Has (book_after b (entry (Put octets) now) ∷ rest) e x → Ends (new_datagram octets present (length makers) ∷ up) makers channel puts e x.view.number x.view.takes x.state
  send_ends e x (inl q) =
      let up2 : List Sent = new_datagram octets present (length makers) ∷ up in
      let next : EndsOf up2 makers channel puts (length rest) (book_after b (entry (Put octets) now)) = (put_by up2 makers channel puts (length rest) b.view b.state octets now head).0 in
      let P : ℕ → Type 0 = λ a. EndsOf up2 makers channel puts a (book_after b (entry (Put octets) now)) in
      subst (λ y. EndsOf up2 makers channel puts e y) q.1 (subst P (sym q.0) next)
  send_ends e x (inr q) =
      let below : e < length rest = has_below rest e x q in
      other_sent up makers channel puts e x.view.number x.view.takes x.state (new_datagram octets present (length makers)) (dn.ends e x (inr q)) (λ i f. let h : present ≡ e = f in omega arith)

  pub dn_send : Dn (book_after b (entry (Put octets) now) ∷ rest) (new_datagram octets present (length makers) ∷ up) down makers channel puts
  dn_send = record { requests = dn.requests; ends = send_ends; unmade = dn.unmade }
