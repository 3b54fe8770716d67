-- Each event of the tunnel keeps the invariant.
use Rattle.std.proofs.Common.{◌≡◌, ◌≢◌, ℕ, zero, suc, List, [], ◌∷◌, length, Bool, true, false, cond, Option, Some, None, refl, sym, ap, subst}
use Rattle.std.specs.Prelude.{slice_get, take}
use Rattle.knx_model.specs.declared.frames.cemi.Ldata.{Ldata}
use Rattle.knx_model.specs.declared.frames.ip.IpFrame.{IpFrame}
use Rattle.knx_model.specs.declared.frames.ip.IpFrame.TheVariants.{ConnectResponse, DisconnectRequest, TunnellingRequest}
use Rattle.knx_model.specs.Cemi.{Written as cemi_octets}
use Rattle.knx_model.specs.KnxNetIp.{Written}
use Rattle.line_model.specs.Reading.{datagram_in}
use Rattle.line_model.specs.Network.{Sent, IsUnderWay, OfSent, changed_at, once_more}
use Rattle.line_model.specs.Gateway.{Gateway, Channel, Request, next_put, is_put, closed_if_open}
use Rattle.line_model.specs.Tunnel.{Tunnel, TunnelEvent, Send, From, Renew, Up, UpRefused, Down, LoseUp, LoseDown, Carried, Heard, Repeat, Close, Pass, Elsewhere, made, with_gateway, with_up, with_down, sends_down, takes_sent, refuses, puts, puts_next, repeats, repeats_request, closes, after, step, Commissions, MayHappen}
use Rattle.line_model.specs.Record.{Item, Put, Got, Quiet, Entry, entry, got, item_of}
use Rattle.tunnel_law.proofs.Read.{IsOther, request_seen, disconnect_seen, refusal_seen}
use Rattle.tunnel_law.proofs.Fits.{Book, book_after, head_after, note, Serving}
use Rattle.tunnel_law.proofs.Sends.{MaySend}
use Rattle.tunnel_law.proofs.Events.{send_kept, renew_kept, take_kept, quiet_kept, up_changed, down_changed}
use Rattle.tunnel_law.proofs.Makes.{other_down, response_down, channel_kept}
use Rattle.tunnel_law.proofs.Took.{InvT, serving_same, serving_none, took}

changed_get : (f : Sent → Sent) (age : ℕ) (l : List Sent) (s : Sent) → slice_get l age ≡ Some s → slice_get (changed_at age f l) age ≡ Some (f s)
changed_get f age [] s h = cc
changed_get f zero (x ∷ l) s h = (let e : x ≡ s = cc in ap (λ z. Some (f z)) e)
changed_get f (suc age) (x ∷ l) s h = changed_get f age l s h

-- ---- the gateway puts its next frame

put_by : (bs : List Book) (t : Tunnel) (c : Channel) (frame : Ldata) (b : Bool) → InvT bs t → Serving t.gateway.makers t.gateway.acted (Some c) → InvT bs (puts t (cond b None (Some (c, frame))))
put_by bs t c frame true inv h = inv
put_by bs t c frame false inv h =
    let c2 : Channel = record c { outstanding = Some (record { frame = cemi_octets frame; repeated = false; sent = t.now }) } in
    other_down bs t.present t.network.up t.network.down t.gateway.makers (Some c2) t.gateway.acted
    (channel_kept bs t.present t.network.up t.network.down t.gateway.makers t.gateway.channel (Some c2) t.gateway.acted inv (serving_same t.gateway.makers t.gateway.acted c c2 refl refl refl h))
    (Written (TunnellingRequest c.number c.own (cemi_octets frame))) c.endpoint (length t.gateway.makers) (request_seen c.number c.own (cemi_octets frame))

next_by : (bs : List Book) (t : Tunnel) → InvT bs t → (channel : Option Channel) → t.gateway.channel ≡ channel → (frames : List Ldata) → InvT bs (puts t (next_put channel frames))
next_by bs t inv None is frames = inv
next_by bs t inv (Some c) is [] = inv
next_by bs t inv (Some c) is (frame ∷ frames) =
    let P : Option Channel → Type 0 = λ o. Serving t.gateway.makers t.gateway.acted o in
    put_by bs t c frame (is_put c.outstanding) inv (subst P is inv.serving)

pub next_kept : (bs : List Book) (t : Tunnel) → InvT bs t → InvT bs (puts_next t)
next_kept bs t inv = next_by bs t inv t.gateway.channel refl t.gateway.waiting

-- ---- it repeats its request, and closes

repeat_by : (bs : List Book) (t : Tunnel) (c : Channel) (o : Option Request) → InvT bs t → t.gateway.channel ≡ Some c → InvT bs (repeats_request t c o)
repeat_by bs t c None inv is = inv
repeat_by bs t c (Some r) inv is =
    let P : Option Channel → Type 0 = λ x. Serving t.gateway.makers t.gateway.acted x in
    let c2 : Channel = record c { outstanding = Some (record { frame = r.frame; repeated = true; sent = t.now }) } in
    other_down bs t.present t.network.up t.network.down t.gateway.makers (Some c2) t.gateway.acted
    (channel_kept bs t.present t.network.up t.network.down t.gateway.makers t.gateway.channel (Some c2) t.gateway.acted inv (serving_same t.gateway.makers t.gateway.acted c c2 refl refl refl (subst P is inv.serving)))
    (Written (TunnellingRequest c.number c.own r.frame)) c.endpoint (length t.gateway.makers) (request_seen c.number c.own r.frame)

repeat_kept : (bs : List Book) (t : Tunnel) → InvT bs t → (o : Option Channel) → t.gateway.channel ≡ o → InvT bs (repeats t o)
repeat_kept bs t inv None is = inv
repeat_kept bs t inv (Some c) is = repeat_by bs t c c.outstanding inv is

close_kept : (bs : List Book) (t : Tunnel) → InvT bs t → (o : Option Channel) → t.gateway.channel ≡ o → InvT bs (closes t o)
close_kept bs t inv None is = inv
close_kept bs t inv (Some c) is =
    let P : Option Channel → Type 0 = λ o. InvT bs (sends_down (with_gateway t (closed_if_open t.gateway o)) c.endpoint (DisconnectRequest c.number)) in
    subst P (sym is)
    (other_down bs t.present t.network.up t.network.down t.gateway.makers None t.gateway.acted
    (channel_kept bs t.present t.network.up t.network.down t.gateway.makers t.gateway.channel None t.gateway.acted inv (serving_none t.gateway.makers t.gateway.acted))
    (Written (DisconnectRequest c.number)) c.endpoint (length t.gateway.makers) (subst IsOther (sym (disconnect_seen c.number)) tt))

-- ---- datagrams arrive

up_by : (bs : List Book) (t : Tunnel) (age : ℕ) (o : Option Sent) → InvT bs t → slice_get t.network.up age ≡ o → OfSent (IsUnderWay (made t) age) o → InvT bs (takes_sent (with_up t (changed_at age once_more t.network.up)) o)
up_by bs t age None inv at may = absurd may
up_by bs t age (Some s) inv at may =
    let g : Gateway = t.gateway in
    let i : InvT bs (with_up t (changed_at age once_more t.network.up)) = up_changed bs t.present t.network.up t.network.down g.makers g.channel g.acted inv age (λ x. suc x.delivered) (λ x. x.lost) in
    took bs t.present (changed_at age once_more t.network.up) t.network.down g.tunnel g.bus g.waiting g.acted g.puts t.now (once_more s) age may.young (changed_get once_more age t.network.up s at)
    g.makers g.channel i may.soon (datagram_in s.octets) refl

refused_by : (bs : List Book) (t : Tunnel) (age status : ℕ) (o : Option Sent) → InvT bs t → status ≢ 0 → InvT bs (refuses (with_up t (changed_at age once_more t.network.up)) status o)
refused_by bs t age status None inv n = up_changed bs t.present t.network.up t.network.down t.gateway.makers t.gateway.channel t.gateway.acted inv age (λ x. suc x.delivered) (λ x. x.lost)
refused_by bs t age status (Some s) inv n =
    let g : Gateway = t.gateway in
    let i : InvT bs (with_up t (changed_at age once_more t.network.up)) = up_changed bs t.present t.network.up t.network.down g.makers g.channel g.acted inv age (λ x. suc x.delivered) (λ x. x.lost) in
    response_down bs t.present (changed_at age once_more t.network.up) t.network.down g.makers g.channel g.acted i (Written (ConnectResponse 0 status None)) s.endpoint (length g.makers) 0 status None (refusal_seen status n)
    (λ z. absurd (n z))

down_by : (bs : List Book) (t : Tunnel) (age now : ℕ) (o : Option Sent) → InvT bs t → slice_get t.network.down age ≡ o → OfSent (λ s. IsUnderWay (made t) age s × (s.endpoint ≡ t.present)) o
    → (x : Item) → got o ≡ Some x → InvT (note bs (entry x now)) (with_down t (changed_at age once_more t.network.down))
down_by bs t age now None inv at may x is = absurd may
down_by [] t age now (Some s) inv at may x is = absurd (let h : 0 ≡ suc t.present = inv.endpoints in cc)
down_by (b ∷ rest) t age now (Some s) inv at may x is =
    let g : Gateway = t.gateway in
    let x_is : Got (take 512 s.octets) ≡ x = (let h : Some (Got (take 512 s.octets)) ≡ Some x = is in cc) in
    let i : InvT (book_after b (entry (Got (take 512 s.octets)) now) ∷ rest) t = take_kept b rest t.present t.network.up t.network.down g.makers g.channel g.acted inv age now s at may.0.young may.1 in
    let P : Item → Type 0 = λ y. InvT (note (b ∷ rest) (entry y now)) (with_down t (changed_at age once_more t.network.down)) in
    let here : P (Got (take 512 s.octets)) = down_changed (book_after b (entry (Got (take 512 s.octets)) now) ∷ rest) t.present t.network.up t.network.down g.makers g.channel g.acted i age (λ y. suc y.delivered) (λ y. y.lost) in
    subst P x_is here

-- ---- the client sends, renews and waits

abbrev pub MaySendHere : List Book → Entry → Option IpFrame → Type 0
MaySendHere [] x f = ⊥
MaySendHere (b ∷ rest) x f = MaySend x b.state f

send_by : (bs : List Book) (t : Tunnel) (octets : List ℕ) (now : ℕ) → InvT bs t → MaySendHere bs (entry (Put octets) now) (datagram_in octets) → InvT (head_after bs (entry (Put octets) now)) (after t (Send octets))
send_by [] t octets now inv may = absurd may
send_by (b ∷ rest) t octets now inv may = send_kept b rest t.present t.network.up t.network.down t.gateway.makers t.gateway.channel t.gateway.acted inv octets now may

quiet_by : (bs : List Book) (t : Tunnel) (ms now : ℕ) → InvT bs t → InvT (head_after bs (entry Quiet now)) (after t (Pass ms))
quiet_by [] t ms now inv = absurd (let h : 0 ≡ suc t.present = inv.endpoints in cc)
quiet_by (b ∷ rest) t ms now inv = quiet_kept b rest t.present t.network.up t.network.down t.gateway.makers t.gateway.channel t.gateway.acted now inv

-- ---- all of them

abbrev pub noted_in : List Book → Option Item → ℕ → List Book
noted_in bs None now = bs
noted_in bs (Some x) now = note bs (entry x now)

abbrev pub MayDo : List Book → TunnelEvent → ℕ → Type 0
MayDo bs (Send octets) now = MaySendHere bs (entry (Put octets) now) (datagram_in octets)
MayDo bs _ now = Unit {0}

got_by : (bs : List Book) (t : Tunnel) (age now : ℕ) (o : Option Sent) → InvT bs t → slice_get t.network.down age ≡ o → OfSent (λ s. IsUnderWay (made t) age s × (s.endpoint ≡ t.present)) o
    → InvT (noted_in bs (got o) now) (with_down t (changed_at age once_more t.network.down))
got_by bs t age now None inv at may = absurd may
got_by bs t age now (Some s) inv at may = down_by bs t age now (Some s) inv at may (Got (take 512 s.octets)) refl

pub after_kept : (bs : List Book) (t : Tunnel) (e : TunnelEvent) (now : ℕ) → InvT bs t → MayHappen Commissions t e → MayDo bs e now → InvT (noted_in bs (item_of t e) now) (after t e)
after_kept bs t (Send octets) now inv can may = send_by bs t octets now inv may
after_kept bs t (From endpoint octets) now inv can may = absurd can
after_kept bs t Renew now inv can may = renew_kept bs t.present t.network.up t.network.down t.gateway.makers t.gateway.channel t.gateway.acted inv
after_kept bs t (Up age) now inv can may = up_by bs t age (slice_get t.network.up age) inv refl can
after_kept bs t (UpRefused age status) now inv can may = refused_by bs t age status (slice_get t.network.up age) inv can.2
after_kept bs t (Down age) now inv can may = got_by bs t age now (slice_get t.network.down age) inv refl can
after_kept bs t (LoseUp age) now inv can may = up_changed bs t.present t.network.up t.network.down t.gateway.makers t.gateway.channel t.gateway.acted inv age (λ x. x.delivered) (λ x. true)
after_kept bs t (LoseDown age) now inv can may = down_changed bs t.present t.network.up t.network.down t.gateway.makers t.gateway.channel t.gateway.acted inv age (λ x. x.delivered) (λ x. true)
after_kept bs t (Carried confirmation) now inv can may = inv
after_kept bs t (Heard frames) now inv can may = inv
after_kept bs t Repeat now inv can may = repeat_kept bs t inv t.gateway.channel refl
after_kept bs t Close now inv can may = close_kept bs t inv t.gateway.channel refl
after_kept bs t (Pass ms) now inv can may = quiet_by bs t ms now inv
after_kept bs t Elsewhere now inv can may = inv

pub step_kept : (bs : List Book) (t : Tunnel) (e : TunnelEvent) (now : ℕ) → InvT bs t → MayHappen Commissions t e → MayDo bs e now → InvT (noted_in bs (item_of t e) now) (step t e)
step_kept bs t e now inv can may = next_kept (noted_in bs (item_of t e) now) (after t e) (after_kept bs t e now inv can may)
