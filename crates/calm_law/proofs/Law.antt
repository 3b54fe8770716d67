-- The law of the tunnel, by induction over its events.
use Rattle.std.proofs.Common.{◌≡◌, ℕ, zero, suc, ◌+◌, ◌⊎◌, List, [], ◌∷◌, Option, Some, None, refl, sym, ap, subst, arith, inl, inr, true, false, ◌++◌}
use Rattle.std.specs.Prelude.{slice_get}
use Rattle.knx_model.specs.declared.address.IndAddr.{IndAddr}
use Rattle.knx_model.specs.declared.frames.cemi.Ldata.{Ldata}
use Rattle.line_model.specs.Network.{Sent}
use Rattle.line_model.specs.Gateway.{Channel, Nothing, next_put, channel_expired, gateway_expired}
use Rattle.line_model.specs.Tunnel.{Tunnel, TunnelEvent, Send, From, Renew, Up, UpRefused, Down, LoseUp, LoseDown, Carried, Heard, Repeat, Close, Pass, Elsewhere, Commissions, MayHappen, IsLegal, puts, puts_next, after, step, replay, fresh}
use Rattle.line_model.specs.Record.{Entry, Item, Put, Renewed, Quiet, entry, noted, got, item_of, tunnel_record}
use Rattle.line_model.specs.ClientView.{ClientChannel, Open, channel, Fresh, Deed, Puts, Takes, Loses, Nothing as NoDeed, deed}
use Rattle.line_model.specs.Renews.{RenewsRightly, AcknowledgesRightly, MayLeave}
use Rattle.line_model.specs.Sendings.{SendsRightly}
use Rattle.line_model.specs.Follows.{IsGatewayRepeat, IsGatewayClosing}
use Rattle.line_model.specs.Fresh.{TunnelSettled}
use Rattle.line_model.specs.Asks.{HasPlace}
use Rattle.line_model.specs.Haste.{KeepsPaces}
use Rattle.line_model.specs.Undisturbed.{AwaitsNothing}
use Rattle.calm_law.specs.CalmTunnel.{IsCalm, AreCalm, PutsRightly, PassesSo, PassesIdly, IsKept, KeepsItsChannel}
use Rattle.calm_law.proofs.Tokens.{Rise, Fall}
use Rattle.calm_law.proofs.State.{Door, Shut, Knocked, Replied, Ajar, Stage, Past, Under, Free, Pulse, Calm, Nums, DoorIs, Goes, Going, going, Lives, lives, Steps, Strays, rides_over, IsPut, tunnel_at}
use Rattle.calm_law.proofs.Puts.{puts_kept}
use Rattle.calm_law.proofs.Sends.{MayDo, send_kept}
use Rattle.calm_law.proofs.Rises.{up_kept}
use Rattle.calm_law.proofs.Falls.{GotSo, down_kept}
use Rattle.calm_law.proofs.Events.{nothing_due, renew_kept, heard_kept, carried_kept, pass_kept}
use Rattle.calm_law.proofs.Confirmations.{con_reads}
use Rattle.calm_law.proofs.Parts.{Parted}
use Rattle.calm_law.proofs.Ends.{Gone, gone_on, parted_up, parted_put, Part, parted_down, parted_pass}

abbrev pub Inv : (Option Ldata → List Ldata → Type 0) → List Entry → Tunnel → Type 0
Inv E r t = Lives E r t ⊎ (Parted r t ⊎ Gone r)

-- before the gateway puts its next frame
abbrev InvA : (Option Ldata → List Ldata → Type 0) → List Entry → Tunnel → Type 0
InvA E r t = Going E r t ⊎ (Parted r t ⊎ Gone r)

-- what the client may do at an event, at this time
abbrev pub May : List Entry → Option Item → ℕ → Type 0
May r o now = (item : Item) → o ≡ Some item → MayDo r (entry item now)

-- what rides on the tunnel goes on so
abbrev pub RidesOn : (Option Ldata → List Ldata → Type 0) → (Option Ldata → List Ldata → Type 0) → List Entry → Tunnel → TunnelEvent → Type 0
RidesOn E F r t (Send octets) = Steps E F (deed (channel r) (entry (Put octets) t.now))
RidesOn E F r t Renew = channel r ≡ Fresh → Steps E F (deed (channel r) (entry Renewed t.now))
RidesOn E F r t (Down age) = ((item : Item) → got (slice_get t.network.down age) ≡ Some item → Steps E F (deed (channel r) (entry item t.now))) × Strays E F (channel r) t.gateway.channel
RidesOn E F r t (Carried con) = (f : Ldata) (q : List Ldata) → t.gateway.bus ≡ f ∷ [] → E (Some f) q → F None (q ++ con ∷ [])
RidesOn E F r t (Heard frames) = (fly : Option Ldata) (q : List Ldata) → E fly q → F fly (q ++ frames)
RidesOn E F r t (Pass ms) = (q : List Ldata) → (channel r ≡ Fresh) ⊎ ((q ≡ []) × HasPlace (channel r)) → E None q → F None q
RidesOn E F r t _ = (fly : Option Ldata) (q : List Ldata) → E fly q → F fly q

-- ---- while it goes on

abbrev Kept : (Option Ldata → List Ldata → Type 0) → (Option Ldata → List Ldata → Type 0) → List Entry → TunnelEvent → Tunnel → Type 0
Kept E F r e t = MayHappen Commissions t e → IsCalm t e → May r (item_of t e) (after t e).now → RidesOn E F r t e → InvA F (noted (item_of t e) (after t e).now r) (after t e)

no_repeat : (t : Tunnel) → gateway_expired t.gateway t.now ≡ Nothing → IsGatewayRepeat (gateway_expired t.gateway t.now) → ⊥
no_repeat t e h = subst IsGatewayRepeat e h

no_closing : (t : Tunnel) → gateway_expired t.gateway t.now ≡ Nothing → IsGatewayClosing (gateway_expired t.gateway t.now) → ⊥
no_closing t e h = subst IsGatewayClosing e h

module _ (E F : Option Ldata → List Ldata → Type 0) (r : List Entry) (present : ℕ) (up down : List Sent) (waiting : List Ldata) (me : IndAddr) (acted putted : List (ℕ × List ℕ)) (now : ℕ) (door : Door) (stage : Stage) (under : Under) (pulse : Pulse) (m : Nums) (ups : List Rise) (downs : List Fall)
    (h : Goes E door stage under pulse m ups downs r present up down waiting now) where
  abbrev t : Tunnel
  t = tunnel_at door stage under m present up down me waiting acted putted now

  due : gateway_expired t.gateway t.now ≡ Nothing
  unfolding gateway_expired
  due = nothing_due door stage under m now h.heard

  got_case : (age : ℕ) → GotSo F r t age → InvA F (noted (got (slice_get down age)) now r) (after t (Down age))
  got_case age g = let P : Option Item → Type 0 = λ o. InvA F (noted o now r) (after t (Down age)) in subst P (sym g.is) (inl g.going_on)

  at : (ms : ℕ) → TunnelSettled Commissions t → IsPut door under waiting → MayDo r (entry Quiet (now + ms)) → RidesOn E F r t (Pass ms) → InvA F (entry Quiet (now + ms) ∷ r) (after t (Pass ms))
  at ms is put may to = inl (pass_kept E F r present up down waiting me acted putted now ms may to door stage under pulse m ups downs h put is).1

  by_event : IsPut door under waiting → (e : TunnelEvent) → Kept E F r e t
  by_event put (Send octets) can calm may to = inl (send_kept r octets present up down waiting me acted putted now (may (Put octets) refl) E F to door stage under pulse m ups downs h)
  by_event put (From endpoint octets) can calm may to = absurd calm
  by_event put Renew can calm may to = inl (renew_kept E F r present up down waiting me acted putted now door stage under pulse m ups downs h (may Renewed refl) to)
  by_event put (Up age) can calm may to = elim (up_kept E r present up down waiting me acted putted now door stage under pulse m ups downs h age calm) [ inl g ↦ inl (rides_over E F r (after t (Up age)) to g) | inr p ↦ inr (inl p) ]
  by_event put (UpRefused age status) can calm may to = absurd calm
  by_event put (Down age) can calm may to = got_case age (down_kept E F r present up down waiting me acted putted now door stage under pulse m ups downs h age calm may to.0 to.1)
  by_event put (LoseUp age) can calm may to = absurd calm
  by_event put (LoseDown age) can calm may to = absurd calm
  by_event put (Carried con) can calm may to = inl (carried_kept E F r present up down waiting me acted putted now door stage under pulse m ups downs h con calm to (con_reads me))
  by_event put (Heard frames) can calm may to = inl (heard_kept E F r present up down waiting me acted putted now door stage under pulse m ups downs h frames calm to)
  by_event put Repeat can calm may to = absurd (no_repeat t due calm)
  by_event put Close can calm may to = absurd (no_closing t due calm)
  by_event put (Pass ms) can calm may to = at ms calm put (may Quiet refl) to
  by_event put Elsewhere can calm may to = inl (rides_over E F r t to (going E door stage under pulse m ups downs r present up down me waiting acted putted now h))

lives_kept : (E F : Option Ldata → List Ldata → Type 0) (r : List Entry) (t : Tunnel) (e : TunnelEvent) → Lives E r t → Kept E F r e t
lives_kept E F r t e l =
    let g : Going E r t = l.going in
    subst (Kept E F r e) (sym g.is) (by_event E F r g.present g.up g.down g.waiting g.me g.acted g.puts g.now g.door g.stage g.under g.pulse g.m g.ups g.downs g.goes l.put e)

lives_idle : (E : Option Ldata → List Ldata → Type 0) (r : List Entry) (t : Tunnel) (ms : ℕ) → Lives E r t → TunnelSettled Commissions t → MayDo r (entry Quiet (t.now + ms)) → AwaitsNothing (channel r)
lives_idle E r t ms l is may =
    let g : Going E r t = l.going in
    let P : Tunnel → Type 0 = λ z. TunnelSettled Commissions z → MayDo r (entry Quiet (z.now + ms)) → AwaitsNothing (channel r) in
    subst P (sym g.is) (λ s d. (pass_kept E E r g.present g.up g.down g.waiting g.me g.acted g.puts g.now ms d (λ q w e. e) g.door g.stage g.under g.pulse g.m g.ups g.downs g.goes l.put s).0) is may

-- and what rides on it is said with nothing on its way, where a channel is open
pub lives_rides : (E : Option Ldata → List Ldata → Type 0) (r : List Entry) (t : Tunnel) (ms : ℕ) → Lives E r t → TunnelSettled Commissions t → MayDo r (entry Quiet (t.now + ms)) → (channel r ≡ Fresh) ⊎ (E None [] × HasPlace (channel r))
lives_rides E r t ms l is may =
    let g : Going E r t = l.going in
    let F : Option Ldata → List Ldata → Type 0 = λ fly q. (channel r ≡ Fresh) ⊎ (E None [] × HasPlace (channel r)) in
    let P : Tunnel → Type 0 = λ z. TunnelSettled Commissions z → MayDo r (entry Quiet (z.now + ms)) → (channel r ≡ Fresh) ⊎ (E None [] × HasPlace (channel r)) in
    subst P (sym g.is)
    (λ s d. (let n = (pass_kept E F r g.present g.up g.down g.waiting g.me g.acted g.puts g.now ms d (λ q w e. with_it q w e) g.door g.stage g.under g.pulse g.m g.ups g.downs g.goes l.put s).1 in n.goes.rides)) is may
  where
    with_it : (q : List Ldata) → (channel r ≡ Fresh) ⊎ ((q ≡ []) × HasPlace (channel r)) → E None q → (channel r ≡ Fresh) ⊎ (E None [] × HasPlace (channel r))
    with_it q (inl f) e = inl f
    with_it q (inr x) e = inr (subst (λ z. E None z) x.0 e, x.1)

-- ---- after the gateway has closed the channel

part_case : (F : Option Ldata → List Ldata → Type 0) (r : List Entry) (t : Tunnel) (age : ℕ) → Part r t age → InvA F (noted (got (slice_get t.network.down age)) t.now r) (after t (Down age))
part_case F r t age p = let P : Option Item → Type 0 = λ o. InvA F (noted o t.now r) (after t (Down age)) in subst P (sym p.is) (inr p.so)

shut_due : (t : Tunnel) → t.gateway.channel ≡ None → gateway_expired t.gateway t.now ≡ Nothing
unfolding gateway_expired
shut_due t e = ap (λ c. channel_expired c t.now) e

parted_kept : (E F : Option Ldata → List Ldata → Type 0) (r : List Entry) (t : Tunnel) (e : TunnelEvent) → Parted r t → Kept E F r e t
parted_kept E F r t (Send octets) p can calm may to = inr (inl (parted_put r t octets p (may (Put octets) refl)))
parted_kept E F r t (From endpoint octets) p can calm may to = absurd calm
parted_kept E F r t Renew p can calm may to = absurd (let d : MayDo r (entry Renewed t.now) = may Renewed refl in subst MayLeave p.up.open_.is (d.renews.leaves refl p.up.renewed))
parted_kept E F r t (Up age) p can calm may to = inr (inl (parted_up r t age p calm))
parted_kept E F r t (UpRefused age status) p can calm may to = absurd calm
parted_kept E F r t (Down age) p can calm may to = part_case F r t age (parted_down r t age p calm)
parted_kept E F r t (LoseUp age) p can calm may to = absurd calm
parted_kept E F r t (LoseDown age) p can calm may to = absurd calm
parted_kept E F r t (Carried con) p can calm may to = inr (inl (record { s = p.s; up = p.up; shut = p.shut; made = p.made; rising = p.rising; status = p.status; older = p.older; falling = p.falling; few = p.few }))
parted_kept E F r t (Heard frames) p can calm may to = inr (inl (record { s = p.s; up = p.up; shut = p.shut; made = p.made; rising = p.rising; status = p.status; older = p.older; falling = p.falling; few = p.few }))
parted_kept E F r t Repeat p can calm may to = absurd (no_repeat t (shut_due t p.shut) calm)
parted_kept E F r t Close p can calm may to = absurd (no_closing t (shut_due t p.shut) calm)
parted_kept E F r t (Pass ms) p can calm may to = absurd (parted_pass r t p calm)
parted_kept E F r t Elsewhere p can calm may to = inr (inl p)

-- ---- after it is lost

gone_case : (r : List Entry) (o : Option Item) (now : ℕ) → Gone r → May r o now → Gone (noted o now r)
gone_case r None now g may = g
gone_case r (Some item) now g may = gone_on r (entry item now) g (may item refl)

-- ---- each event

after_kept : (E F : Option Ldata → List Ldata → Type 0) (r : List Entry) (t : Tunnel) (e : TunnelEvent) → Inv E r t → Kept E F r e t
after_kept E F r t e (inl l) = lives_kept E F r t e l
after_kept E F r t e (inr (inl p)) = parted_kept E F r t e p
after_kept E F r t e (inr (inr g)) = λ can calm may to. inr (inr (gone_case r (item_of t e) (after t e).now g may))

puts_now : (t : Tunnel) (o : Option (Channel × Ldata)) → (puts t o).now ≡ t.now
puts_now t None = refl
puts_now t (Some x) = refl

shut_puts : (t : Tunnel) → t.gateway.channel ≡ None → puts_next t ≡ t
shut_puts t e = ap (λ c. puts t (next_put c t.gateway.waiting)) e

next_kept : (E : Option Ldata → List Ldata → Type 0) (r : List Entry) (t : Tunnel) → InvA E r t → Inv E r (puts_next t)
next_kept E r t (inl g) = inl (puts_kept E r t g)
next_kept E r t (inr (inl p)) = inr (inl (subst (λ z. Parted r z) (sym (shut_puts t p.shut)) p))
next_kept E r t (inr (inr g)) = inr (inr g)

pub step_kept : (E F : Option Ldata → List Ldata → Type 0) (r : List Entry) (t : Tunnel) (e : TunnelEvent) → Inv E r t → MayHappen Commissions t e → IsCalm t e → May r (item_of t e) (step t e).now → RidesOn E F r t e → Inv F (noted (item_of t e) (step t e).now r) (step t e)
step_kept E F r t e inv can calm may to =
    let same : (step t e).now ≡ (after t e).now = puts_now (after t e) (next_put (after t e).gateway.channel (after t e).gateway.waiting) in
    let there : InvA F (noted (item_of t e) (after t e).now r) (after t e) = after_kept E F r t e inv can calm (subst (λ n. May r (item_of t e) n) same may) to in
    subst (λ n. Inv F (noted (item_of t e) n r) (step t e)) (sym same) (next_kept F (noted (item_of t e) (after t e).now r) (after t e) there)

-- ---- where time passes

pub idle_of : (E : Option Ldata → List Ldata → Type 0) (r : List Entry) (t : Tunnel) (ms : ℕ) → Inv E r t → TunnelSettled Commissions t → MayDo r (entry Quiet (t.now + ms)) → AwaitsNothing (channel r)
idle_of E r t ms (inl l) is may = lives_idle E r t ms l is may
idle_of E r t ms (inr (inl p)) is may = absurd (parted_pass r t p is)
idle_of E r t ms (inr (inr g)) is may = subst AwaitsNothing (sym g.lost) tt

passes_so : (E : Option Ldata → List Ldata → Type 0) (r : List Entry) (t : Tunnel) (e : TunnelEvent) → Inv E r t → IsCalm t e → May r (item_of t e) (after t e).now → PassesSo (channel r) e
passes_so E r t (Send octets) inv calm may = tt
passes_so E r t (From endpoint octets) inv calm may = tt
passes_so E r t Renew inv calm may = tt
passes_so E r t (Up age) inv calm may = tt
passes_so E r t (UpRefused age status) inv calm may = tt
passes_so E r t (Down age) inv calm may = tt
passes_so E r t (LoseUp age) inv calm may = tt
passes_so E r t (LoseDown age) inv calm may = tt
passes_so E r t (Carried con) inv calm may = tt
passes_so E r t (Heard frames) inv calm may = tt
passes_so E r t Repeat inv calm may = tt
passes_so E r t Close inv calm may = tt
passes_so E r t (Pass zero) inv calm may = tt
passes_so E r t (Pass (suc ms)) inv calm may = idle_of E r t (suc ms) inv calm (may Quiet refl)
passes_so E r t Elsewhere inv calm may = tt

-- ---- the channel is kept

kept_open : (c : ClientChannel) (l : List Entry) → c ≡ Open 1 l → IsKept c
kept_open c l e = subst IsKept (sym e) tt

kept_door : (r : List Entry) (door : Door) (stage : Stage) (under : Under) (pulse : Pulse) (m : Nums) (present : ℕ) (downs : List Fall) (now : ℕ) → DoorIs door stage under pulse m r present downs now → IsKept (channel r)
kept_door r Shut stage under pulse m present downs now d = subst IsKept (sym d.0) tt
kept_door r Knocked stage under pulse m present downs now d = subst IsKept (sym d.0.is) tt
kept_door r Replied stage under pulse m present downs now d = subst IsKept (sym d.0.is) tt
kept_door r (Ajar leaves) stage under pulse m present downs now d = kept_open (channel r) (d.open_.first ∷ d.open_.rest) d.open_.is

pub kept_of : (E : Option Ldata → List Ldata → Type 0) (r : List Entry) (t : Tunnel) → Inv E r t → KeepsItsChannel r
kept_of E r t (inl l) stays = let g : Going E r t = l.going in kept_door r g.door g.stage g.under g.pulse g.m g.present g.downs g.now g.goes.door_is
kept_of E r t (inr (inl p)) stays = absurd (p.up.asks.1 stays)
kept_of E r t (inr (inr g)) stays = absurd (g.asked stays)

-- ---- what the client keeps to

pub record Keeps (r : List Entry) : Type 0 where
  pub renews : RenewsRightly r
  pub sends : SendsRightly r
  pub acknowledges : AcknowledgesRightly r
  pub paces : KeepsPaces r
  pub puts : PutsRightly r

pub keeps_before : (o : Option Item) (now : ℕ) (r : List Entry) → Keeps (noted o now r) → Keeps r
keeps_before None now r k = k
keeps_before (Some item) now r k = record { renews = k.renews.1; sends = k.sends.1; acknowledges = k.acknowledges.1; paces = k.paces.1; puts = k.puts.1 }

pub may_of : (o : Option Item) (now : ℕ) (r : List Entry) → Keeps (noted o now r) → May r o now
may_of None now r k item e = absurd (cc)
may_of (Some what) now r k item e =
    let same : what ≡ item = cc in
    let here : MayDo r (entry what now) = record { sends = k.sends.0; renews = k.renews.0; acknowledges = k.acknowledges.0; pace = k.paces.0; puts = k.puts.0 } in
    subst (λ i. MayDo r (entry i now)) same here

-- ---- all events

pub begins : (E : Option Ldata → List Ldata → Type 0) (me : IndAddr) → E None [] → Lives E [] (fresh me)
begins E me none =
    let m : Nums = record { own = 0; put = 0; heard = 0; beat = 0; acked = None; confirmed = true; last = None } in
    lives E Shut (Past false) Free Calm m [] [] [] 0 [] [] me [] [] [] 0
    (record {
      rising = tt;
      falling = tt;
      ups_are = record { asks_are = refl; tells_are = refl; receipts_are = refl; beats_are = refl; leaves_are = refl };
      downs_are = record { mades_are = refl; acks_are = refl; notes_are = refl; alives_are = refl; lefts_are = refl };
      door_is = (refl, inl (refl, refl), record { stage_is = refl; pulse_is = refl; own_is = refl; put_is = refl; acked_is = refl; confirmed_is = refl; last_is = refl; heard_is = refl }, tt);
      owed_is = refl;
      end_is = refl;
      reads = tt;
      counts = refl;
      own = (tt, tt);
      acked = inl refl;
      fits = tt;
      heard = omega arith;
      since = omega arith;
      beat = omega arith;
      pace = record { newest = refl; last = refl; before = omega arith };
      rides = none;
    }) tt

-- where nothing is said of it
abbrev Nobody : Option Ldata → List Ldata → Type 0
Nobody fly q = Unit {0}

nobody_steps : (what : Deed) → Steps Nobody Nobody what
nobody_steps (Puts octets) = λ f q e c h. tt
nobody_steps (Takes octets) = λ fly y q e h. tt
nobody_steps Loses = tt
nobody_steps NoDeed = λ fly q h. tt

nobody_rides : (r : List Entry) (t : Tunnel) (e : TunnelEvent) → RidesOn Nobody Nobody r t e
nobody_rides r t (Send octets) = nobody_steps (deed (channel r) (entry (Put octets) t.now))
nobody_rides r t (From endpoint octets) = λ fly q h. tt
nobody_rides r t Renew = λ fresh. nobody_steps (deed (channel r) (entry Renewed t.now))
nobody_rides r t (Up age) = λ fly q h. tt
nobody_rides r t (UpRefused age status) = λ fly q h. tt
nobody_rides r t (Down age) = (λ item is. nobody_steps (deed (channel r) (entry item t.now)), λ l y is has stray fly q h. tt)
nobody_rides r t (LoseUp age) = λ fly q h. tt
nobody_rides r t (LoseDown age) = λ fly q h. tt
nobody_rides r t (Carried con) = λ f q b h. tt
nobody_rides r t (Heard frames) = λ fly q h. tt
nobody_rides r t Repeat = λ fly q h. tt
nobody_rides r t Close = λ fly q h. tt
nobody_rides r t (Pass ms) = λ q w h. tt
nobody_rides r t Elsewhere = λ fly q h. tt

pub always : (me : IndAddr) (events : List TunnelEvent) → IsLegal Commissions (fresh me) events → AreCalm (fresh me) events → Keeps (tunnel_record (fresh me) events) → Inv Nobody (tunnel_record (fresh me) events) (replay (fresh me) events)
always me [] l c k = inl (begins Nobody me tt)
always me (e ∷ events) l c k =
    let r : List Entry = tunnel_record (fresh me) events in
    let t : Tunnel = replay (fresh me) events in
    let o : Option Item = item_of t e in
    step_kept Nobody Nobody r t e (always me events l.1 c.1 (keeps_before o (step t e).now r k)) l.0 c.0 (may_of o (step t e).now r k) (nobody_rides r t e)

pub idly : (me : IndAddr) (events : List TunnelEvent) → IsLegal Commissions (fresh me) events → AreCalm (fresh me) events → Keeps (tunnel_record (fresh me) events) → PassesIdly (fresh me) events
idly me [] l c k = tt
idly me (e ∷ events) l c k =
    let r : List Entry = tunnel_record (fresh me) events in
    let t : Tunnel = replay (fresh me) events in
    let o : Option Item = item_of t e in
    let before : Keeps r = keeps_before o (step t e).now r k in
    let same : (step t e).now ≡ (after t e).now = puts_now (after t e) (next_put (after t e).gateway.channel (after t e).gateway.waiting) in
    (passes_so Nobody r t e (always me events l.1 c.1 before) c.0 (subst (λ n. May r o n) same (may_of o (step t e).now r k)), idly me events l.1 c.1 before)

pub kept : (me : IndAddr) (events : List TunnelEvent) → IsLegal Commissions (fresh me) events → AreCalm (fresh me) events → Keeps (tunnel_record (fresh me) events) → KeepsItsChannel (tunnel_record (fresh me) events)
kept me events l c k = kept_of Nobody (tunnel_record (fresh me) events) (replay (fresh me) events) (always me events l c k)
