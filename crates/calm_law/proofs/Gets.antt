-- What the client of a calm tunnel gets: the connect response that it seeks, the acknowledgement of its request, the next request of the gateway, which is a
-- confirmation only where one is awaited and then that of the frame put last, and the answer to its heartbeat.
use Rattle.std.proofs.Common.{◌≡◌, ℕ, ◌+◌, List, [], ◌∷◌, ◌++◌, length, Bool, true, false, ◌&&◌, Option, Some, None, refl, sym, ◌∙◌, ap, subst, arith}
use Rattle.std.specs.Prelude.{slice_get, take, ◌==◌}
use Rattle.std.proofs.lemmas.Bool.{eq-eqb}
use Rattle.knx_model.specs.declared.address.IndAddr.{IndAddr}
use Rattle.knx_model.specs.declared.frames.cemi.Ldata.{Ldata}
use Rattle.knx_model.specs.declared.frames.ip.IpFrame.{IpFrame}
use Rattle.knx_model.specs.declared.frames.ip.IpFrame.TheVariants.{ConnectResponse, StateResponse, TunnellingRequest, TunnellingAck}
use Rattle.knx_model.specs.Cemi.{Written as cemi_octets}
use Rattle.line_model.specs.Reading.{ldata_in}
use Rattle.line_model.specs.Gateway.{Channel}
use Rattle.line_model.specs.Network.{Sent}
use Rattle.line_model.specs.Tunnel.{Tunnel, Commissions}
use Rattle.line_model.specs.Record.{Entry, Got, got, got_in}
use Rattle.line_model.specs.ChannelLost.{Own, own, confirmed, last_frame, expected, beats, is_confirmation, is_confirmation_of}
use Rattle.line_model.specs.ClientView.{ClientChannel, Sought, Open, channel}
use Rattle.line_model.specs.Deliveries.{is_under_way, next_down}
use Rattle.calm_law.proofs.Ways.{Way, Took, taken, none_left}
use Rattle.calm_law.proofs.Tokens.{Rise, Fall, Made, Ack, Note, Alive, Left, fallen, read_down, made_of, ack_of, note_of, alive_of, left_of, only_last, not_last}
use Rattle.calm_law.proofs.Seen.{Seen}
use Rattle.calm_law.proofs.Owning.{same_con}
use Rattle.calm_law.proofs.State.{Door, Shut, Knocked, Replied, Ajar, Stage, Rising, Riding, Past, Under, Free, Coming, Owed, Back, Pulse, Calm, Beating, Echo, Nums, Goes, Going, ack_if, acks_at, makers_at, awaited, cons_in, flies, is_con_frame, one_if, channel_at, the_channel, OutHas, tunnel_at}
use Rattle.calm_law.proofs.Falls.{last_same, none_yet}
use Rattle.calm_law.proofs.Rises.{comes, downs_short, one_maker}

pub data Kind (now : ℕ) (ch : ClientChannel) (out : Option Channel) (f : IpFrame) : Type 0 where
  Opening : (tunnel : Option IndAddr) → f ≡ ConnectResponse 1 0 tunnel → ch ≡ Sought now → Kind now ch out f
  Acked : (l : List Entry) (n : ℕ) → f ≡ TunnellingAck 1 n 0 → ch ≡ Open 1 l → own 1 l ≡ (let o : Own = record { number = n; sent = now ∷ [] } in o) → Kind now ch out f
  Brought : (l : List Entry) (n : ℕ) (cemi : List ℕ) → f ≡ TunnellingRequest 1 n cemi → ch ≡ Open 1 l → expected 1 l ≡ n → (is_confirmation (ldata_in cemi) ≡ true → confirmed 1 l ≡ false) → is_confirmation_of (last_frame 1 l) (ldata_in cemi) ≡ is_confirmation (ldata_in cemi) → OutHas out cemi → Kind now ch out f
  Lives : (l : List Entry) → f ≡ StateResponse 1 0 → ch ≡ Open 1 l → beats 1 l ≡ now ∷ [] → Kind now ch out f

module _ (E : Option Ldata → List Ldata → Type 0) (r : List Entry) (present : ℕ) (up down : List Sent) (waiting : List Ldata) (me : IndAddr) (acted puts : List (ℕ × List ℕ)) (now : ℕ) where
  abbrev Here : Door → Stage → Under → Pulse → Nums → List Rise → List Fall → Type 0
  Here door stage under pulse m ups downs = Goes E door stage under pulse m ups downs r present up down waiting now

  abbrev gate : Door → Stage → Under → Nums → Option Channel
  gate door stage under m = channel_at door (the_channel stage under m now)

  past_not : (stage : Stage) → stage ≡ Past false → (n : ℕ) → acks_at n stage ≡ []
  past_not stage e n = ap (acks_at n) e

  ack_here : (door : Door) (stage : Stage) (under : Under) (pulse : Pulse) (m : Nums) (ups : List Rise) (n : ℕ) (before : List Fall) → Here door stage under pulse m ups (before ++ Ack n ∷ []) → Kind now (channel r) (gate door stage under m) (TunnellingAck 1 n 0)
  ack_here door (Rising cemi f) under pulse m ups n before h = absurd (not_last ack_of before (Ack n) n refl h.downs_are.acks_are)
  ack_here door (Riding f false) under pulse m ups n before h = absurd (not_last ack_of before (Ack n) n refl h.downs_are.acks_are)
  ack_here door (Past false) under pulse m ups n before h = absurd (not_last ack_of before (Ack n) n refl h.downs_are.acks_are)
  ack_here Shut (Riding f true) under pulse m ups n before h = absurd (let e : Riding f true ≡ Past false = h.door_is.2.stage_is in cc)
  ack_here Knocked (Riding f true) under pulse m ups n before h = absurd (let e : Riding f true ≡ Past false = h.door_is.1.stage_is in cc)
  ack_here Replied (Riding f true) under pulse m ups n before h = absurd (let e : Riding f true ≡ Past false = h.door_is.1.stage_is in cc)
  ack_here (Ajar leaves) (Riding f true) under pulse m ups n before h =
      let n_is : n ≡ m.own = (only_last ack_of before (Ack n) n m.own refl h.downs_are.acks_are).1 in
      let o = h.door_is.open_ in
      Acked (o.first ∷ o.rest) n refl o.is (ap (λ (s : Seen). s.own) o.says ∙ ap (λ k. let own_ : Own = record { number = k; sent = now ∷ [] } in own_) (sym n_is))
  ack_here Shut (Past true) under pulse m ups n before h = absurd (let e : ack_if 0 true ≡ ack_if 0 false = ap (acks_at 0) h.door_is.2.stage_is in cc)
  ack_here Knocked (Past true) under pulse m ups n before h = absurd (let e : ack_if 0 true ≡ ack_if 0 false = ap (acks_at 0) h.door_is.1.stage_is in cc)
  ack_here Replied (Past true) under pulse m ups n before h = absurd (let e : ack_if 0 true ≡ ack_if 0 false = ap (acks_at 0) h.door_is.1.stage_is in cc)
  ack_here (Ajar leaves) (Past true) under pulse m ups n before h =
      let n_is : n ≡ m.own = (only_last ack_of before (Ack n) n m.own refl h.downs_are.acks_are).1 in
      let o = h.door_is.open_ in
      Acked (o.first ∷ o.rest) n refl o.is (ap (λ (s : Seen). s.own) o.says ∙ ap (λ k. let own_ : Own = record { number = k; sent = now ∷ [] } in own_) (sym n_is))

  -- a confirmation comes only where one is awaited
  awaited_con : (con confirmed : Bool) (f w : ℕ) → awaited confirmed ≡ f + (one_if con + w) → con ≡ true → confirmed ≡ false
  awaited_con true true f w e is = absurd (let c : 0 ≡ f + (1 + w) = e in omega (arith, c))
  awaited_con con false f w e is = refl
  awaited_con false true f w e is = absurd (cc)

  note_here : (door : Door) (stage : Stage) (under : Under) (pulse : Pulse) (m : Nums) (ups : List Rise) (n : ℕ) (cemi : List ℕ) (before : List Fall) → Here door stage under pulse m ups (before ++ Note n cemi ∷ []) → (door ≡ Replied → ⊥) → Kind now (channel r) (gate door stage under m) (TunnellingRequest 1 n cemi)
  note_here door stage Free pulse m ups n cemi before h not = absurd (not_last note_of before (Note n cemi) (n, cemi) refl h.downs_are.notes_are)
  note_here door stage (Owed y) pulse m ups n cemi before h not = absurd (not_last note_of before (Note n cemi) (n, cemi) refl h.downs_are.notes_are)
  note_here door stage (Back y) pulse m ups n cemi before h not = absurd (not_last note_of before (Note n cemi) (n, cemi) refl h.downs_are.notes_are)
  note_here Shut stage (Coming y) pulse m ups n cemi before h not = absurd h.door_is.3
  note_here Knocked stage (Coming y) pulse m ups n cemi before h not = absurd h.door_is.2
  note_here Replied stage (Coming y) pulse m ups n cemi before h not = absurd (not refl)
  note_here (Ajar leaves) stage (Coming y) pulse m ups n cemi before h not =
      let same : ◌≡◌ {A = ℕ × List ℕ} (n, cemi) (m.put, cemi_octets y) = (only_last note_of before (Note n cemi) (n, cemi) (m.put, cemi_octets y) refl h.downs_are.notes_are).1 in
      let n_is : n ≡ m.put = ap (λ z. z.0) same in
      let cemi_is : cemi ≡ cemi_octets y = ap (λ z. z.1) same in
      let o = h.door_is.open_ in
      let conf : confirmed 1 (o.first ∷ o.rest) ≡ m.confirmed = ap (λ (s : Seen). s.confirmed) o.says in
      let its : is_confirmation_of (last_frame 1 (o.first ∷ o.rest)) (ldata_in cemi) ≡ is_confirmation (ldata_in cemi)
      = ap (λ (s : Seen). is_confirmation_of s.last (ldata_in cemi)) o.says ∙ ap (λ z. is_confirmation_of m.last (ldata_in z)) cemi_is ∙ same_con m.last y h.own.1.0 ∙ ap (λ z. is_confirmation (ldata_in z)) (sym cemi_is) in
      Brought (o.first ∷ o.rest) n cemi refl o.is (ap (λ (s : Seen). s.expected) o.says ∙ sym n_is) (λ con. conf ∙ awaited_con (is_con_frame y) m.confirmed (flies stage) (cons_in waiting) h.counts (ap (λ z. is_confirmation (ldata_in z)) (sym cemi_is) ∙ con)) its (sym cemi_is)

  alive_here : (door : Door) (stage : Stage) (under : Under) (pulse : Pulse) (m : Nums) (ups : List Rise) (before : List Fall) → Here door stage under pulse m ups (before ++ Alive ∷ []) → Kind now (channel r) (gate door stage under m) (StateResponse 1 0)
  alive_here door stage under Calm m ups before h = absurd (not_last alive_of before Alive 0 refl h.downs_are.alives_are)
  alive_here door stage under Beating m ups before h = absurd (not_last alive_of before Alive 0 refl h.downs_are.alives_are)
  alive_here Shut stage under Echo m ups before h = absurd (let e : Echo ≡ Calm = h.door_is.2.pulse_is in cc)
  alive_here Knocked stage under Echo m ups before h = absurd (let e : Echo ≡ Calm = h.door_is.1.pulse_is in cc)
  alive_here Replied stage under Echo m ups before h = absurd (let e : Echo ≡ Calm = h.door_is.1.pulse_is in cc)
  alive_here (Ajar leaves) stage under Echo m ups before h = let o = h.door_is.open_ in Lives (o.first ∷ o.rest) refl o.is (ap (λ (s : Seen). s.beats) o.says)

  -- the response is the oldest that is under way
  replied_note : (door : Door) (stage : Stage) (under : Under) (pulse : Pulse) (m : Nums) (ups : List Rise) (n : ℕ) (cemi : List ℕ) (before : List Fall) → Here door stage under pulse m ups (before ++ Note n cemi ∷ []) → door ≡ Replied → ⊥
  replied_note Shut stage under pulse m ups n cemi before h e = cc
  replied_note Knocked stage under pulse m ups n cemi before h e = cc
  replied_note (Ajar leaves) stage under pulse m ups n cemi before h e = cc
  replied_note Replied stage under pulse m ups n cemi before h e =
      let opens = h.door_is.3 in
      let x : made_of (Note n cemi) ≡ made_of (Made opens.tunnel) = ap made_of (last_same before opens.younger (Note n cemi) (Made opens.tunnel) opens.is) in
      cc

  here : (door : Door) (stage : Stage) (under : Under) (pulse : Pulse) (m : Nums) (ups : List Rise) (before : List Fall) (last : Fall) → Here door stage under pulse m ups (before ++ last ∷ []) → Kind now (channel r) (gate door stage under m) (fallen last)
  here Shut stage under pulse m ups before (Made t) h = absurd (not_last made_of before (Made t) 0 refl h.downs_are.mades_are)
  here Knocked stage under pulse m ups before (Made t) h = absurd (not_last made_of before (Made t) 0 refl h.downs_are.mades_are)
  here (Ajar leaves) stage under pulse m ups before (Made t) h = absurd (not_last made_of before (Made t) 0 refl h.downs_are.mades_are)
  here Replied stage under pulse m ups before (Made t) h = Opening t refl h.door_is.0.is
  here door stage under pulse m ups before (Ack n) h = ack_here door stage under pulse m ups n before h
  here door stage under pulse m ups before (Note n cemi) h = note_here door stage under pulse m ups n cemi before h (replied_note door stage under pulse m ups n cemi before h)
  here door stage under pulse m ups before Alive h = alive_here door stage under pulse m ups before h
  here door stage under pulse m ups before (Left status) h = absurd (not_last left_of before (Left status) status refl h.downs_are.lefts_are)

-- ---- the oldest one comes

pub record KindSo (r : List Entry) (t : Tunnel) (age : ℕ) : Type 0 where
  pub octets : List ℕ
  pub is : got (slice_get t.network.down age) ≡ Some (Got octets)
  pub frame : IpFrame
  pub reads : got_in (Got octets) ≡ Some frame
  pub kind : Kind t.now (channel r) t.gateway.channel frame

module _ (E : Option Ldata → List Ldata → Type 0) (r : List Entry) (present : ℕ) (up down : List Sent) (waiting : List Ldata) (me : IndAddr) (acted puts : List (ℕ × List ℕ)) (now : ℕ) where
  abbrev before_it : Door → Stage → Under → Nums → Tunnel
  before_it door stage under m = tunnel_at door stage under m present up down me waiting acted puts now

  abbrev Now : Door → Stage → Under → Pulse → Nums → List Rise → List Fall → Type 0
  Now door stage under pulse m ups downs = Goes E door stage under pulse m ups downs r present up down waiting now

  open_kind : (door : Door) (stage : Stage) (under : Under) (pulse : Pulse) (m : Nums) (ups : List Rise) (downs : List Fall) → present ≡ 1 → Now door stage under pulse m ups downs → (age : ℕ) → next_down Commissions (before_it door stage under m) ≡ Some age → KindSo r (before_it door stage under m) age
  open_kind door stage under pulse m ups downs at1 h age next =
      let few = downs_short E r present up up down waiting me acted puts now door stage under pulse m ups downs h in
      let t : Took Fall read_down fallen downs down 0 age
      = taken Fall read_down fallen (λ a s. is_under_way (length (makers_at door)) a s && (s.endpoint == present))
      (λ a f s young new. passes (is_under_way (length (makers_at door)) a s) s.endpoint (comes read_down (fallen f) (length (makers_at door)) a s (one_maker E r present up up down waiting me acted puts now door) young new) (new.from ∙ sym at1)) downs down 0 age
      (omega (arith, few)) h.falling next in
      let at : age ≡ t.i = (let e : age ≡ 0 + t.i = t.is in omega (arith, e)) in
      let there : slice_get down age ≡ Some t.s = ap (λ a. slice_get down a) at ∙ t.there in
      let h2 : Now door stage under pulse m ups (t.before ++ t.last ∷ []) = subst (λ l. Now door stage under pulse m ups l) t.split h in
      record { octets = take 512 t.s.octets; is = ap got there; frame = fallen t.last; reads = t.new.reads; kind = here E r present up down waiting me acted puts now door stage under pulse m ups t.before t.last h2 }
    where
      passes : (b : Bool) (e : ℕ) → b ≡ true → e ≡ present → (b && (e == present)) ≡ true
      passes b e p q = rw (p, eq-eqb e present q) refl

  pub down_kind : (door : Door) (stage : Stage) (under : Under) (pulse : Pulse) (m : Nums) (ups : List Rise) (downs : List Fall) → Now door stage under pulse m ups downs → (age : ℕ) → next_down Commissions (before_it door stage under m) ≡ Some age → KindSo r (before_it door stage under m) age
  down_kind Shut stage under pulse m ups downs h age next =
      let none : downs ≡ [] = none_yet E E r present up down waiting me acted puts now stage under pulse m ups downs h in
      let way : Way Fall read_down fallen [] down = subst (λ l. Way Fall read_down fallen l down) none h.falling in
      absurd (let e : None ≡ Some age = sym (none_left Fall read_down fallen (λ a s. is_under_way 0 a s && (s.endpoint == present)) down 0 way) ∙ next in cc)
  down_kind Knocked stage under pulse m ups downs h age next = open_kind Knocked stage under pulse m ups downs h.door_is.0.at h age next
  down_kind Replied stage under pulse m ups downs h age next = open_kind Replied stage under pulse m ups downs h.door_is.0.at h age next
  down_kind (Ajar leaves) stage under pulse m ups downs h age next = open_kind (Ajar leaves) stage under pulse m ups downs h.door_is.at h age next

pub lives_kind : (E : Option Ldata → List Ldata → Type 0) (r : List Entry) (t : Tunnel) → Going E r t → (age : ℕ) → next_down Commissions t ≡ Some age → KindSo r t age
lives_kind E r t g age next =
    subst (λ (z : Tunnel). next_down Commissions z ≡ Some age → KindSo r z age) (sym g.is) (λ n. down_kind E r g.present g.up g.down g.waiting g.me g.acted g.puts g.now g.door g.stage g.under g.pulse g.m g.ups g.downs g.goes age n) next
