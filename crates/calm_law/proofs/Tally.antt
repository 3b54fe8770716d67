-- The datagrams that come to the client of a calm tunnel are counted, entry by entry: a request that is put owes its acknowledgement and its confirmation.
use Rattle.std.proofs.Common.{◌≡◌, ℕ, suc, ◌+◌, ◌*◌, ◌≤◌, List, [], ◌∷◌, length, Bool, true, false, not, ◌&&◌, ◌||◌, if◌then◌else◌, Option, Some, None, refl, sym, ◌∙◌, ap, subst, arith, inl, inr}
use Rattle.std.specs.Prelude.{◌==◌}
use Rattle.std.proofs.lemmas.Bool.{eq-eqb}
use Rattle.knx_model.specs.declared.address.IndAddr.{IndAddr}
use Rattle.knx_model.specs.declared.frames.cemi.Ldata.{Ldata}
use Rattle.knx_model.specs.declared.frames.ip.IpFrame.{IpFrame}
use Rattle.knx_model.specs.declared.frames.ip.IpFrame.TheVariants.{ConnectResponse, StateResponse, TunnellingRequest, TunnellingAck}
use Rattle.knx_model.specs.Connection.{has_passed}
use Rattle.line_model.specs.Reading.{datagram_in, ldata_in, is_connect_request, RequestFrame, request_in, ack_in, state_response_in}
use Rattle.line_model.specs.Record.{Entry, Item, Put, Renewed, Got, Quiet, entry, got_in, item_of, noted, tunnel_record}
use Rattle.line_model.specs.Tunnel.{Tunnel, TunnelEvent, Send, From, Renew, Up, UpRefused, Down, LoseUp, LoseDown, Carried, Heard, Repeat, Close, Pass, Elsewhere, Commissions, IsLegal, after, fresh, replay, step}
use Rattle.line_model.specs.ChannelLost.{Own, own, confirmed, last_frame, expected, beats, is_confirmation, is_none, is_request, acknowledges, answers_beat, confirms, delivers, has_lapsed, is_lost}
use Rattle.line_model.specs.ClientView.{ClientChannel, Fresh, Sought, RefusedBy, Unanswered, Open, Lost, Deed, Puts, Takes, Loses, Nothing, after_entry, own_address, as_counted, channel, deed, deed_in, deed_of, or_takes}
use Rattle.line_model.specs.Faults.{answers_heartbeat, datagrams_taken, is_counted}
use Rattle.line_model.specs.Gateway.{Channel, next_number}
use Rattle.line_model.specs.Leaves.{StaysOpen}
use Rattle.line_model.specs.Renews.{MayLeave}
use Rattle.calm_law.specs.CalmCounts.{is_put, requests_put, is_of_device, frames_taken, ComeForRequests}
use Rattle.calm_law.specs.CalmTunnel.{AreCalm, IsCalm, IsKept}
use Rattle.calm_law.proofs.Tokens.{Fall}
use Rattle.calm_law.proofs.Seen.{Seen}
use Rattle.calm_law.proofs.State.{Door, Shut, Knocked, Replied, Ajar, Stage, Rising, Riding, Past, Under, Pulse, Nums, DoorIs, Going, awaited, sent_at, one_if, NoStrays}
use Rattle.calm_law.proofs.Falls.{not_passed}
use Rattle.calm_law.proofs.Sends.{MayDo}
use Rattle.calm_law.proofs.Owning.{not_or}
use Rattle.calm_law.proofs.Joined.{step_now}
use Rattle.calm_law.proofs.Gets.{Kind, Opening, Acked, Brought, Lives, KindSo, lives_kind}
use Rattle.calm_law.proofs.Law.{Inv, Keeps, always, keeps_before, kept_of, may_of}

-- ---- what is owed to the client, and whether its channel is up

abbrev pub pending : ClientChannel → ℕ
pending Fresh = 0
pending (Sought since) = 0
pending (RefusedBy status) = 0
pending Unanswered = 0
pending (Open c l) = length (own c l).sent + awaited (confirmed c l)
pending (Lost c) = 0

abbrev pub is_up : ClientChannel → ℕ
is_up Fresh = 0
is_up (Sought since) = 0
is_up (RefusedBy status) = 0
is_up Unanswered = 0
is_up (Open c l) = 1
is_up (Lost c) = 0

pub record Balance (r : List Entry) : Type 0 where
  pub holds : datagrams_taken r + pending (channel r) ≤ is_up (channel r) + (2 * requests_put r + frames_taken r)

abbrev Weighs : Bool → ClientChannel → Deed → ClientChannel → Type 0
Weighs counted after what before = one_if counted + (pending after + is_up before) ≤ (is_up after + (2 * one_if (is_put what) + one_if (is_of_device what))) + pending before

suc_if : (b : Bool) (n : ℕ) → (if b then suc n else n) ≡ one_if b + n
suc_if true n = omega arith
suc_if false n = omega arith

balance_more : (x : Entry) (r : List Entry) → Balance r → Weighs (is_counted r x) (channel (x ∷ r)) (deed (channel r) x) (channel r) → Balance (x ∷ r)
balance_more x r b w =
    let taken : datagrams_taken (x ∷ r) ≡ one_if (is_counted r x) + datagrams_taken r = suc_if (is_counted r x) (datagrams_taken r) in
    let puts : requests_put (x ∷ r) ≡ one_if (is_put (deed (channel r) x)) + requests_put r = suc_if (is_put (deed (channel r) x)) (requests_put r) in
    let frames : frames_taken (x ∷ r) ≡ one_if (is_of_device (deed (channel r) x)) + frames_taken r = suc_if (is_of_device (deed (channel r) x)) (frames_taken r) in
    let old = b.holds in
    let z : (one_if (is_counted r x) + datagrams_taken r) + pending (channel (x ∷ r)) ≤ is_up (channel (x ∷ r)) + (2 * (one_if (is_put (deed (channel r) x)) + requests_put r) + (one_if (is_of_device (deed (channel r) x)) + frames_taken r)) = omega (arith, old, w) in
    record { holds = omega (arith, z, taken, puts, frames) }

-- ---- one request at most isn't acknowledged

abbrev HasFew : ClientChannel → Type 0
HasFew (Open c l) = length (own c l).sent ≤ 1
HasFew ch = Unit {0}

few_sent : (stage : Stage) (now : ℕ) → length (sent_at stage now) ≤ 1
few_sent (Rising cemi f) now = omega arith
few_sent (Riding f true) now = omega arith
few_sent (Riding f false) now = omega arith
few_sent (Past true) now = omega arith
few_sent (Past false) now = omega arith

few_open : (ch : ClientChannel) (l : List Entry) (o : Own) → ch ≡ Open 1 l → own 1 l ≡ o → length o.sent ≤ 1 → HasFew ch
few_open ch l o is says few = subst HasFew (sym is) (subst (λ (z : Own). length z.sent ≤ 1) (sym says) few)

few_by : (r : List Entry) (door : Door) (stage : Stage) (under : Under) (pulse : Pulse) (m : Nums) (present : ℕ) (downs : List Fall) (now : ℕ) → DoorIs door stage under pulse m r present downs now → HasFew (channel r)
few_by r Shut stage under pulse m present downs now d = subst HasFew (sym d.0) tt
few_by r Knocked stage under pulse m present downs now d = subst HasFew (sym d.0.is) tt
few_by r Replied stage under pulse m present downs now d = subst HasFew (sym d.0.is) tt
few_by r (Ajar leaves) stage under pulse m present downs now d =
    few_open (channel r) (d.open_.first ∷ d.open_.rest) (record { number = m.own; sent = sent_at stage now }) d.open_.is (ap (λ (s : Seen). s.own) d.open_.says) (few_sent stage now)

module _ (E : Option Ldata → List Ldata → Type 0) (r : List Entry) (t : Tunnel) where
  few_of : Inv E r t → StaysOpen r → HasFew (channel r)
  few_of (inl l) stays = let g : Going E r t = l.going in few_by r g.door g.stage g.under g.pulse g.m g.present g.downs g.now g.goes.door_is
  few_of (inr (inl p)) stays = absurd (p.up.asks.1 stays)
  few_of (inr (inr g)) stays = absurd (g.asked stays)

  going_of : Inv E r t → StaysOpen r → Going E r t
  going_of (inl l) stays = l.going
  going_of (inr (inl p)) stays = absurd (p.up.asks.1 stays)
  going_of (inr (inr g)) stays = absurd (g.asked stays)

  -- a new endpoint is taken before a channel is sought alone
  renew_fresh : (now : ℕ) → Going E r t → MayDo r (entry Renewed now) → channel r ≡ Fresh
  renew_fresh now g may = by_door g.door g.goes.door_is where
    by_door : (door : Door) → DoorIs door g.stage g.under g.pulse g.m r g.present g.downs g.now → channel r ≡ Fresh
    by_door Shut d = d.0
    by_door Knocked d = absurd (subst MayLeave d.0.is (may.renews.leaves refl d.0.renewed))
    by_door Replied d = absurd (subst MayLeave d.0.is (may.renews.leaves refl d.0.renewed))
    by_door (Ajar leaves) d = absurd (subst MayLeave d.open_.is (may.renews.leaves refl d.renewed))

-- ---- an entry in which nothing was got

abbrev after_put : ℕ → Own → ℕ → Option RequestFrame → Own
after_put c s now o = if is_request c o then record s { sent = now ∷ s.sent } else s

abbrev put_confirmed : ℕ → Own → Bool → Option RequestFrame → Bool
put_confirmed c s conf o = if is_request c o && is_none s.sent then false else conf

abbrev put_deed : ℕ → Own → Option RequestFrame → Deed
put_deed c s o = or_takes (deed_of Puts (is_request c o && is_none s.sent) o) Nothing

abbrev OpenWeighs : Bool → Own → Bool → Deed → Own → Bool → Type 0
OpenWeighs counted s' conf' what s conf = one_if counted + ((length s'.sent + awaited conf') + 1) ≤ (1 + (2 * one_if (is_put what) + one_if (is_of_device what))) + (length s.sent + awaited conf)

same_weighs : (s : Own) (conf : Bool) → OpenWeighs false s conf Nothing s conf
same_weighs s conf = omega arith

few_awaited : (b : Bool) → awaited b ≤ 1
few_awaited true = omega arith
few_awaited false = omega arith

put_weighs : (c : ℕ) (s : Own) (conf : Bool) (now : ℕ) (o : Option RequestFrame) → length (after_put c s now o).sent ≤ 1 → OpenWeighs false (after_put c s now o) (put_confirmed c s conf o) (put_deed c s o) s conf
put_weighs c s conf now None few = same_weighs s conf
put_weighs c s conf now (Some q) few = by_test (q.channel == c) few where
  sent_by : (sent : List ℕ) → length (now ∷ sent) ≤ 1
      → 0 + ((length (now ∷ sent) + awaited (if is_none sent then false else conf)) + 1) ≤ (1 + (2 * one_if (is_put (or_takes (if is_none sent then Puts q.cemi else Nothing) Nothing)) + one_if (is_of_device (or_takes (if is_none sent then Puts q.cemi else Nothing) Nothing)))) + (length sent + awaited conf)
  sent_by [] few = omega arith
  sent_by (t ∷ ts) few = absurd (let z : suc (suc (length ts)) ≤ 1 = few in omega (arith, z))

  by_test : (b : Bool) → length (if b then (let z : Own = record s { sent = now ∷ s.sent } in z) else s).sent ≤ 1
      → OpenWeighs false (if b then (let z : Own = record s { sent = now ∷ s.sent } in z) else s) (if b && is_none s.sent then false else conf) (or_takes (if b && is_none s.sent then Puts q.cemi else Nothing) Nothing) s conf
  by_test true few = sent_by s.sent few
  by_test false few = same_weighs s conf

-- each request that is put counts
puts_counted : (address : Option IndAddr) (last : Option Ldata) (b : Bool) (o : Option RequestFrame) → as_counted address last (or_takes (deed_of Puts b o) Nothing) ≡ or_takes (deed_of Puts b o) Nothing
puts_counted address last b None = refl
puts_counted address last true (Some q) = refl
puts_counted address last false (Some q) = refl

counted_weighs : (address : Option IndAddr) (last : Option Ldata) (c : ℕ) (s : Own) (conf : Bool) (now : ℕ) (o : Option RequestFrame) → length (after_put c s now o).sent ≤ 1 → OpenWeighs false (after_put c s now o) (put_confirmed c s conf o) (as_counted address last (put_deed c s o)) s conf
counted_weighs address last c s conf now o few = subst (λ d. OpenWeighs false (after_put c s now o) (put_confirmed c s conf o) d s conf) (sym (puts_counted address last (is_request c o && is_none s.sent) o)) (put_weighs c s conf now o few)

none_weighs : (a b : ClientChannel) → pending a ≡ 0 → is_up b ≡ 0 → Weighs false a Nothing b
none_weighs a b p q = omega (arith, p, q)

either_fresh : (b : Bool) (now : ℕ) → Weighs false (if b then Sought now else Fresh) Nothing Fresh
either_fresh true now = omega arith
either_fresh false now = omega arith

put_entry : (ch : ClientChannel) (octets : List ℕ) (now : ℕ) → IsKept ch → HasFew (after_entry ch (entry (Put octets) now)) → Weighs false (after_entry ch (entry (Put octets) now)) (deed ch (entry (Put octets) now)) ch
unfolding after_entry deed
put_entry Fresh octets now kept few = either_fresh (is_connect_request (datagram_in octets)) now
put_entry (Sought since) octets now kept few = omega arith
put_entry (RefusedBy status) octets now kept few = absurd kept
put_entry Unanswered octets now kept few = absurd kept
put_entry (Open c l) octets now kept few = counted_weighs (own_address l) (last_frame c l) c (own c l) (confirmed c l) now (request_in (datagram_in octets)) few
put_entry (Lost c) octets now kept few = absurd kept

quiet_entry : (ch : ClientChannel) (now : ℕ) → IsKept ch → IsKept (after_entry ch (entry Quiet now)) → Weighs false (after_entry ch (entry Quiet now)) (deed ch (entry Quiet now)) ch
unfolding after_entry deed
quiet_entry Fresh now kept still = omega arith
quiet_entry (Sought since) now kept still = by_test (has_passed 10000 since now) where
  by_test : (b : Bool) → Weighs false (if b then Unanswered else Sought since) Nothing (Sought since)
  by_test true = omega arith
  by_test false = omega arith
quiet_entry (RefusedBy status) now kept still = absurd kept
quiet_entry Unanswered now kept still = absurd kept
quiet_entry (Open c l) now kept still = by_test (is_lost c l (entry Quiet now)) still where
  by_test : (b : Bool) → IsKept (if b then Lost c else Open c (entry Quiet now ∷ l)) → Weighs false (if b then Lost c else Open c (entry Quiet now ∷ l)) (if b then Loses else as_counted (own_address l) (last_frame c l) (deed_in c l (entry Quiet now))) (Open c l)
  by_test true k = absurd k
  by_test false k = same_weighs (own c l) (confirmed c l)
quiet_entry (Lost c) now kept still = absurd kept

renewed_entry : (now : ℕ) → Weighs false (after_entry Fresh (entry Renewed now)) (deed Fresh (entry Renewed now)) Fresh
unfolding after_entry deed
renewed_entry now = omega arith

-- ---- an entry in which one was got

or_left : (a b : Bool) → (a || b) ≡ false → a ≡ false
or_left true b h = h
or_left false b h = refl

module _ (octets : List ℕ) (now : ℕ) where
  abbrev x : Entry
  x = entry (Got octets) now

  -- a request of the gateway, which is a confirmation or a frame of a device
  brought_weighs : (s : Own) (conf con : Bool) → (con ≡ true → conf ≡ false) → one_if true + ((length s.sent + awaited (if con then true else conf)) + 1) ≤ (1 + (2 * 0 + one_if (not con))) + (length s.sent + awaited conf)
  brought_weighs s true true f = absurd (let z : true ≡ false = f refl in cc)
  brought_weighs s false true f = omega arith
  brought_weighs s conf false f = omega arith

  first_pending : (tunnel : Option IndAddr) → got_in (Got octets) ≡ Some (ConnectResponse 1 0 tunnel) → length (own 1 (x ∷ [])).sent + awaited (confirmed 1 (x ∷ [])) ≡ 0
  first_pending tunnel d = rw d refl

  opening_weighs : (tunnel : Option IndAddr) → got_in (Got octets) ≡ Some (ConnectResponse 1 0 tunnel) → Weighs true (Open 1 (x ∷ [])) Nothing (Sought now)
  opening_weighs tunnel d = let none = first_pending tunnel d in omega (arith, none)

  -- what the channel is after it
  abbrev OpenAfter : List Entry → Option IpFrame → Type 0
  OpenAfter l g =
      OpenWeighs (not (answers_beat 1 (beats 1 l) now (state_response_in g) && not (has_lapsed 1 l now)))
      (if acknowledges 1 (own 1 l) (ack_in g) then (let z : Own = record { number = next_number (own 1 l).number; sent = [] } in z) else own 1 l)
      (if confirms 1 (expected 1 l) (last_frame 1 l) (request_in g) then true else confirmed 1 l)
      (as_counted (own_address l) (last_frame 1 l) (deed_of Takes (delivers 1 (expected 1 l) (request_in g)) (request_in g))) (own 1 l) (confirmed 1 l)

  open_entry : (l : List Entry) → IsKept (after_entry (Open 1 l) x) → (is_lost 1 l x ≡ false → OpenAfter l (got_in (Got octets))) → Weighs (not (answers_heartbeat (Open 1 l) x)) (after_entry (Open 1 l) x) (deed (Open 1 l) x) (Open 1 l)
  unfolding after_entry deed
  open_entry l still f = by_test (is_lost 1 l x) refl still where
    by_test : (b : Bool) → is_lost 1 l x ≡ b → IsKept (if b then Lost 1 else Open 1 (x ∷ l)) → Weighs (not (answers_heartbeat (Open 1 l) x)) (if b then Lost 1 else Open 1 (x ∷ l)) (if b then Loses else as_counted (own_address l) (last_frame 1 l) (deed_in 1 l x)) (Open 1 l)
    by_test true is k = absurd k
    by_test false is k = f is

  got_kind : (ch : ClientChannel) (out : Option Channel) (f : IpFrame) → NoStrays ch out → Kind now ch out f → got_in (Got octets) ≡ Some f → IsKept (after_entry ch x) → Weighs (not (answers_heartbeat ch x)) (after_entry ch x) (deed ch x) ch
  unfolding after_entry deed
  got_kind ch out f none (Opening tunnel f_is is) reads still =
      let d : got_in (Got octets) ≡ Some (ConnectResponse 1 0 tunnel) = reads ∙ ap (λ z. Some z) f_is in
      subst (λ z. Weighs (not (answers_heartbeat z x)) (after_entry z x) (deed z x) z) (sym is) (rw (not_passed 9999 now, d) (opening_weighs tunnel d))
  got_kind ch out f none (Acked l n f_is is owns) reads still =
      subst (λ z. IsKept (after_entry z x) → Weighs (not (answers_heartbeat z x)) (after_entry z x) (deed z x) z) (sym is)
      (λ k. open_entry l k (λ kept. subst (OpenAfter l) (sym (reads ∙ ap (λ z. Some z) f_is)) (acked (own 1 l) owns))) still
    where
      acked : (s : Own) → s ≡ (let o : Own = record { number = n; sent = now ∷ [] } in o)
          → OpenWeighs true (if acknowledges 1 s (ack_in (Some (TunnellingAck 1 n 0))) then (let z : Own = record { number = next_number s.number; sent = [] } in z) else s) (confirmed 1 l) Nothing s (confirmed 1 l)
      acked s e = subst (λ (s : Own). OpenWeighs true (if acknowledges 1 s (ack_in (Some (TunnellingAck 1 n 0))) then (let z : Own = record { number = next_number s.number; sent = [] } in z) else s) (confirmed 1 l) Nothing s (confirmed 1 l)) (sym e) (rw (eq-eqb n n refl) (omega arith))
  got_kind ch out f none (Brought l n cemi f_is is next con its has) reads still =
      subst (λ z. IsKept (after_entry z x) → Weighs (not (answers_heartbeat z x)) (after_entry z x) (deed z x) z) (sym is)
      (λ k. open_entry l k (λ kept. subst (OpenAfter l) (sym (reads ∙ ap (λ z. Some z) f_is)) (brought (expected 1 l) next))) still
    where
      brought : (e : ℕ) → e ≡ n → OpenWeighs true (own 1 l) (if confirms 1 e (last_frame 1 l) (request_in (Some (TunnellingRequest 1 n cemi))) then true else confirmed 1 l) (as_counted (own_address l) (last_frame 1 l) (deed_of Takes (delivers 1 e (request_in (Some (TunnellingRequest 1 n cemi)))) (request_in (Some (TunnellingRequest 1 n cemi))))) (own 1 l) (confirmed 1 l)
      brought e same = rw (same, eq-eqb n n refl, none l cemi is has, its, not_or (is_confirmation (ldata_in cemi))) (brought_weighs (own 1 l) (confirmed 1 l) (is_confirmation (ldata_in cemi)) con)
  got_kind ch out f none (Lives l f_is is awaits) reads still =
      subst (λ z. IsKept (after_entry z x) → Weighs (not (answers_heartbeat z x)) (after_entry z x) (deed z x) z) (sym is)
      (λ k. open_entry l k (λ kept. subst (OpenAfter l) (sym (reads ∙ ap (λ z. Some z) f_is)) (alive (or_left (has_lapsed 1 l now) _ kept)))) still
    where
      alive : has_lapsed 1 l now ≡ false → OpenWeighs (not (answers_beat 1 (beats 1 l) now (state_response_in (Some (StateResponse 1 0))) && not (has_lapsed 1 l now))) (own 1 l) (confirmed 1 l) Nothing (own 1 l) (confirmed 1 l)
      alive lapses = rw (lapses, awaits, not_passed 9999 now) (same_weighs (own 1 l) (confirmed 1 l))

-- ---- each event

module _ (E : Option Ldata → List Ldata → Type 0) (r : List Entry) (t : Tunnel) (now : ℕ) where
  -- the entry of an event: what it may be
  item_weighs : (item : Item) (t' : Tunnel) → NoStrays (channel r) t.gateway.channel → Inv E r t → Inv E (entry item now ∷ r) t' → StaysOpen (entry item now ∷ r) → MayDo r (entry item now) → ((octets : List ℕ) → item ≡ Got octets → (f : IpFrame) × Kind now (channel r) t.gateway.channel f × (got_in (Got octets) ≡ Some f))
      → Weighs (is_counted r (entry item now)) (channel (entry item now ∷ r)) (deed (channel r) (entry item now)) (channel r)
  item_weighs (Put octets) t' none before after stays may kind = put_entry (channel r) octets now (kept_of E r t before stays.1) (few_of E (entry (Put octets) now ∷ r) t' after stays)
  item_weighs Renewed t' none before after stays may kind =
      subst (λ z. Weighs false (after_entry z (entry Renewed now)) (deed z (entry Renewed now)) z) (sym (renew_fresh E r t now (going_of E r t before stays.1) may)) (renewed_entry now)
  item_weighs (Got octets) t' none before after stays may kind = let k = kind octets refl in got_kind octets now (channel r) t.gateway.channel k.0 none k.1 k.2 (kept_of E (entry (Got octets) now ∷ r) t' after stays)
  item_weighs Quiet t' none before after stays may kind = quiet_entry (channel r) now (kept_of E r t before stays.1) (kept_of E (entry Quiet now ∷ r) t' after stays)

same_got : (a b : List ℕ) → ◌≡◌ {A = Option Item} (Some (Got a)) (Some (Got b)) → a ≡ b
same_got a b e = cc

module _ (E : Option Ldata → List Ldata → Type 0) (r : List Entry) (t : Tunnel) where
  abbrev KindAt : TunnelEvent → Type 0
  KindAt e = (octets : List ℕ) → item_of t e ≡ Some (Got octets) → (f : IpFrame) × Kind t.now (channel r) t.gateway.channel f × (got_in (Got octets) ≡ Some f)

  kind_at : (e : TunnelEvent) → IsCalm t e → Going E r t → KindAt e
  kind_at (Down age) calm g octets is =
      let k : KindSo r t age = lives_kind E r t g age calm in
      let same : k.octets ≡ octets = same_got k.octets octets (sym k.is ∙ is) in
      (k.frame, k.kind, subst (λ o. got_in (Got o) ≡ Some k.frame) same k.reads)
  kind_at (Send o) calm g octets is = absurd (cc)
  kind_at (From endpoint o) calm g octets is = absurd (cc)
  kind_at Renew calm g octets is = absurd (cc)
  kind_at (Up age) calm g octets is = absurd (cc)
  kind_at (UpRefused age status) calm g octets is = absurd (cc)
  kind_at (LoseUp age) calm g octets is = absurd (cc)
  kind_at (LoseDown age) calm g octets is = absurd (cc)
  kind_at (Carried con) calm g octets is = absurd (cc)
  kind_at (Heard frames) calm g octets is = absurd (cc)
  kind_at Repeat calm g octets is = absurd (cc)
  kind_at Close calm g octets is = absurd (cc)
  kind_at (Pass ms) calm g octets is = absurd (cc)
  kind_at Elsewhere calm g octets is = absurd (cc)

  -- the time stands where one is got
  got_now : (e : TunnelEvent) (octets : List ℕ) → item_of t e ≡ Some (Got octets) → (step t e).now ≡ t.now
  got_now (Down age) octets is = step_now t (Down age)
  got_now (Send o) octets is = absurd (cc)
  got_now (From endpoint o) octets is = absurd (cc)
  got_now Renew octets is = absurd (cc)
  got_now (Up age) octets is = absurd (cc)
  got_now (UpRefused age status) octets is = absurd (cc)
  got_now (LoseUp age) octets is = absurd (cc)
  got_now (LoseDown age) octets is = absurd (cc)
  got_now (Carried con) octets is = absurd (cc)
  got_now (Heard frames) octets is = absurd (cc)
  got_now Repeat octets is = absurd (cc)
  got_now Close octets is = absurd (cc)
  got_now (Pass ms) octets is = absurd (cc)
  got_now Elsewhere octets is = absurd (cc)

  pub more : (e : TunnelEvent) → NoStrays (channel r) t.gateway.channel → IsCalm t e → Inv E r t → (o : Option Item) → item_of t e ≡ o → Inv E (noted o (step t e).now r) (step t e) → Keeps (noted o (step t e).now r) → (StaysOpen r → Balance r) → StaysOpen (noted o (step t e).now r) → Balance (noted o (step t e).now r)
  more e none calm before None is after keeps b stays = b stays
  more e none calm before (Some item) is after keeps b stays =
      let n : ℕ = (step t e).now in
      balance_more (entry item n) r (b stays.1)
      (item_weighs E r t n item (step t e) none before after stays (may_of (Some item) n r keeps item refl)
      (λ octets same. (let got_is : item_of t e ≡ Some (Got octets) = is ∙ ap (λ z. Some z) same in
      let k = kind_at e calm (going_of E r t before stays.1) octets got_is in
      (k.0, subst (λ z. Kind z (channel r) t.gateway.channel k.0) (sym (got_now e octets got_is)) k.1, k.2))))

-- no indication to another device comes
abbrev pub AreOwn : Tunnel → List TunnelEvent → Type 0
AreOwn start [] = Unit {0}
AreOwn start (e ∷ events) = NoStrays (channel (tunnel_record start events)) (replay start events).gateway.channel × AreOwn start events

balanced : (me : IndAddr) (events : List TunnelEvent) → AreOwn (fresh me) events → IsLegal Commissions (fresh me) events → AreCalm (fresh me) events → Keeps (tunnel_record (fresh me) events) → StaysOpen (tunnel_record (fresh me) events) → Balance (tunnel_record (fresh me) events)
balanced me [] own l c k = λ stays. record { holds = omega arith }
balanced me (e ∷ events) own l c k =
    let r : List Entry = tunnel_record (fresh me) events in
    let t : Tunnel = replay (fresh me) events in
    let o : Option Item = item_of t e in
    let before : Keeps r = keeps_before o (step t e).now r k in
    more _ r t e own.0 c.0 (always me events l.1 c.1 before) o refl (always me (e ∷ events) l c k) k (balanced me events own.1 l.1 c.1 before)

up_one : (ch : ClientChannel) → is_up ch ≤ 1
up_one Fresh = omega arith
up_one (Sought since) = omega arith
up_one (RefusedBy status) = omega arith
up_one Unanswered = omega arith
up_one (Open c l) = omega arith
up_one (Lost c) = omega arith

pub come_for_requests : (me : IndAddr) (events : List TunnelEvent) → AreOwn (fresh me) events → IsLegal Commissions (fresh me) events → AreCalm (fresh me) events → Keeps (tunnel_record (fresh me) events) → ComeForRequests (tunnel_record (fresh me) events)
come_for_requests me events own l c k = λ stays.
    (let b = (balanced me events own l c k stays).holds in
    let one = up_one (channel (tunnel_record (fresh me) events)) in
    omega (arith, b, one))
