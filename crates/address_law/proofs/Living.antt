-- While the channel isn't asked to end, the tunnel lives and what rides on it is as the rounds say, at every moment of a calm bus.
use Rattle.std.proofs.Common.{◌≡◌, ℕ, zero, suc, inl, inr, List, [], ◌∷◌, length, true, not, Option, Some, None, refl, sym, ◌∙◌, ap, subst, arith}
use Rattle.std.specs.Prelude.{◌||◌}
use Rattle.std.specs.List.{AllByRecursion}
use Rattle.knx_model.specs.declared.address.IndAddr.{IndAddr}
use Rattle.knx_model.specs.declared.frames.cemi.Ldata.{Ldata}
use Rattle.knx_model.specs.ApduReading.{option_map}
use Rattle.knx_model.specs.DeviceSending.{first_frame}
use Rattle.line_model.specs.Leaves.{StaysOpen}
use Rattle.line_model.specs.LinkStory.{newest_time}
use Rattle.line_model.specs.Record.{Item, Entry, entry, item_of, noted}
use Rattle.line_model.specs.ClientView.{channel, deed}
use Rattle.line_model.specs.Tunnel as tunnel
use Rattle.line_model.specs.Tunnel.{Tunnel, TunnelEvent, Commissions}
use Rattle.line_model.specs.World.{AtGateway, Comes as Heard, IsLost, heard, on_bus}
use Rattle.line_law.proofs.Arrivals.{home_reaches}
use Rattle.line_law.proofs.OwnAddress.{ReachesAs, Comes, IsItsTunnel, KnowsOwn, con_reaches, its_step, its_first, item_own, knows_noted}
use Rattle.calm_law.specs.CalmTunnel as calm
use Rattle.calm_law.specs.CalmTunnel.{Confirms, IsIndication}
use Rattle.calm_law.proofs.Joined.{step_now}
use Rattle.calm_law.proofs.Law.{Inv, Keeps, RidesOn, begins, keeps_before, may_of, step_kept}
use Rattle.calm_law.proofs.State.{NoStrays, Going, Lives}
use Rattle.calm_law.proofs.OwnFrames.{its_frames}
use Rattle.address_world.specs.AddressWorld.{AddressWorld, AddressEvent, UnitState, Send, Renew, Up, UpRefused, Down, LoseUp, LoseDown, Bus, Respond, GwRepeat, GwClose, Pass, me, next_frame, carried, has_address, oldest, oldest_at, response, tunnel_event, tunnel_events, units_after, replay}
use Rattle.address_world.specs.AddressLegal.{IsFresh, IsLegal, MayHappen}
use Rattle.address_world.specs.AddressStory.{record_of}
use Rattle.address_law.specs.Calm.{AreCalm, IsCalm}
use Rattle.address_law.proofs.Talks.{TalksSo, DoesSo, talks_before}
use Rattle.address_law.proofs.Units.{AreAs, todo}
use Rattle.address_law.proofs.Riding.{Now, Does, rides_on}

-- ---- an event of a calm bus is one of a calm tunnel

oldest_is : (l : List IndAddr) (y : Ldata) → oldest l ≡ Some y → (s : IndAddr) × (y ≡ response s)
oldest_is [] y e = absurd (cc)
oldest_is (s ∷ l) y e = (s, let z : Some (response s) ≡ Some y = e in cc)

response_at : (at : ℕ) (units : List UnitState) (y : Ldata) → oldest_at at units ≡ Some y → (s : IndAddr) × (y ≡ response s)
response_at at [] y e = absurd (let z : None ≡ Some y = e in cc)
response_at zero (u ∷ units) y e = oldest_is u.unsent y e
response_at (suc at) (u ∷ units) y e = response_at at units y e

module _ (w : AddressWorld) where
  abbrev Carries : List Ldata → TunnelEvent → Type 0
  Carries bus (tunnel.Carried con) = Confirms (me w) bus con
  Carries bus _ = Unit {0}

  carries : (bus : List Ldata) → Carries bus (carried w (option_map (on_bus (me w)) (first_frame bus)))
  carries [] = tt
  carries (frame ∷ frames) = (not ((on_bus (me w) frame).group || has_address (on_bus (me w) frame).destination w.units), refl)

  carried_calm : (o : Option Ldata) → Carries w.tunnel.gateway.bus (carried w o) → calm.IsCalm w.tunnel (carried w o)
  carried_calm None h = tt
  carried_calm (Some frame) h = h

  indication : (s : IndAddr) → IsIndication (response s)
  indication s = record { code = refl; fits = omega arith }

  heard_calm : (at : ℕ) (o : Option Ldata) → oldest_at at w.units ≡ o → calm.IsCalm w.tunnel (heard Heard o)
  heard_calm at None e = tt
  heard_calm at (Some y) e = let is = response_at at w.units y e in (subst IsIndication (sym is.1) (indication is.0), tt)

  event_calm : (e : AddressEvent) → IsCalm w e → calm.IsCalm w.tunnel (tunnel_event w e)
  event_calm (Send octets) c = tt
  event_calm Renew c = tt
  event_calm (Up age) c = c
  event_calm (UpRefused age status) c = absurd c
  event_calm (Down age) c = c
  event_calm (LoseUp age) c = absurd c
  event_calm (LoseDown age) c = absurd c
  event_calm (Bus left_out) c = carried_calm (option_map (on_bus (me w)) (first_frame w.tunnel.gateway.bus)) (carries w.tunnel.gateway.bus)
  event_calm (Respond at gateway) c = subst (λ g. calm.IsCalm w.tunnel (heard g (oldest_at at w.units))) (sym c) (heard_calm at (oldest_at at w.units) refl)
  event_calm GwRepeat c = c
  event_calm GwClose c = c
  event_calm (Pass ms) c = c.tunnel

-- ---- the record, by the worlds

abbrev pub record_at : AddressWorld → List AddressEvent → List Entry
record_at start [] = []
record_at start (e ∷ past) = noted (item_of (replay start past).tunnel (tunnel_event (replay start past) e)) (replay start (e ∷ past)).tunnel.now (record_at start past)

same_tunnel : (start : AddressWorld) (events : List AddressEvent) → (replay start events).tunnel ≡ tunnel.replay start.tunnel (tunnel_events start events)
same_tunnel start [] = refl
same_tunnel start (e ∷ past) = ap (λ t. tunnel.step t (tunnel_event (replay start past) e)) (same_tunnel start past)

pub records : (start : AddressWorld) (events : List AddressEvent) → record_at start events ≡ record_of start events
records start [] = refl
records start (e ∷ past) =
    let te : TunnelEvent = tunnel_event (replay start past) e in
    ap (λ t. noted (item_of t te) (tunnel.step t te).now (record_at start past)) (same_tunnel start past)
    ∙ ap (λ r. noted (item_of (tunnel.replay start.tunnel (tunnel_events start past)) te) (tunnel.step (tunnel.replay start.tunnel (tunnel_events start past)) te).now r) (records start past)

-- ---- all that comes to the client is the tunnel's own: the units send to all alone

module _ (own : IndAddr) where
  carried_comes : (w : AddressWorld) (o : Option Ldata) → Comes own (carried w o)
  carried_comes w None = tt
  carried_comes w (Some f) = con_reaches own f (not (f.group || has_address f.destination w.units))

  heard_comes : (gateway : AtGateway) (o : Option Ldata) → ((f : Ldata) → o ≡ Some f → (s : IndAddr) × (f ≡ response s)) → Comes own (heard gateway o)
  heard_comes Heard None h = tt
  heard_comes Heard (Some f) h = let is = h f refl in (subst (ReachesAs own) (sym is.1) (home_reaches own (response is.0) refl (inl refl)), tt)
  heard_comes IsLost o h = tt

  comes : (w : AddressWorld) (e : AddressEvent) → Comes own (tunnel_event w e)
  comes w (Send octets) = tt
  comes w Renew = tt
  comes w (Up age) = tt
  comes w (UpRefused age status) = tt
  comes w (Down age) = tt
  comes w (LoseUp age) = tt
  comes w (LoseDown age) = tt
  comes w (Bus left_out) = carried_comes w (next_frame w)
  comes w (Respond at gateway) = heard_comes gateway (oldest_at at w.units) (λ f e. response_at at w.units f e)
  comes w GwRepeat = tt
  comes w GwClose = tt
  comes w (Pass ms) = tt

record IsOwn (start : AddressWorld) (events : List AddressEvent) : Type 0 where
  tunnel_is : IsItsTunnel (me start) (replay start events).tunnel
  knows : KnowsOwn (me start) (channel (record_at start events))

own_always : (start : AddressWorld) (events : List AddressEvent) → IsFresh start → IsLegal start events → IsOwn start events
own_always start [] f l = record { tunnel_is = subst (IsItsTunnel (me start)) (sym f.tunnel) (its_first (me start)); knows = tt }
own_always start (e ∷ past) f l =
    let w : AddressWorld = replay start past in
    let o : IsOwn start past = own_always start past f l.1 in
    record {
      tunnel_is = its_step (me start) w.tunnel (tunnel_event w e) l.0.tunnel (comes (me start) w e) o.tunnel_is;
      knows = knows_noted (me start) (item_of w.tunnel (tunnel_event w e)) (replay start (e ∷ past)).tunnel.now (record_at start past) (item_own (me start) w.tunnel (tunnel_event w e) o.tunnel_is) o.knows;
    }

own_frames : (start : AddressWorld) (events : List AddressEvent) → IsFresh start → IsLegal start events → NoStrays (channel (record_at start events)) (replay start events).tunnel.gateway.channel
own_frames start events f l = let o : IsOwn start events = own_always start events f l in its_frames (me start) (replay start events).tunnel (record_at start events) o.tunnel_is o.knows

-- ---- what holds of the record before

pub stays_before : (o : Option Item) (now : ℕ) (r : List Entry) → StaysOpen (noted o now r) → StaysOpen r
stays_before None now r h = h
stays_before (Some what) now r h = h.1

pub newest_of : (E : Option Ldata → List Ldata → Type 0) (r : List Entry) (t : Tunnel) → Lives E r t → newest_time r ≡ t.now
newest_of E r t l = let g : Going E r t = l.going in g.goes.pace.newest ∙ sym (ap (λ (z : Tunnel). z.now) g.is)

only_lives : (E : Option Ldata → List Ldata → Type 0) (r : List Entry) (t : Tunnel) → Inv E r t → StaysOpen r → Lives E r t
only_lives E r t (inl l) stays = l
only_lives E r t (inr (inl p)) stays = absurd (p.up.asks.1 stays)
only_lives E r t (inr (inr g)) stays = absurd (g.asked stays)

does_of : (wanted : IndAddr) (o : Option Item) (now : ℕ) (r : List Entry) → TalksSo wanted (noted o now r) → (item : Item) → o ≡ Some item → DoesSo wanted r (deed (channel r) (entry item now))
does_of wanted None now r h item e = absurd (cc)
does_of wanted (Some what) now r h item e =
    let same : what ≡ item = cc in
    subst (λ i. DoesSo wanted r (deed (channel r) (entry i now))) same h.0

-- ---- all events

-- nothing rides at the beginning, and each unit is as it was
as_itself : (units : List UnitState) → AllByRecursion (λ (u : UnitState). u.unsent ≡ []) units → AreAs units units × (todo units ≡ 0)
as_itself [] h = (tt, refl)
as_itself (u ∷ units) h =
    let rest = as_itself units h.1 in
    let none : length u.unsent ≡ 0 = ap length h.0 in
    let others = rest.1 in
    ((record { address = refl; mode = refl; owes = subst (λ l. AllByRecursion (λ (s : IndAddr). (s ≡ u.address) × (u.programming ≡ true)) l) (sym h.0) tt }, rest.0), omega (arith, none, others))

module _ (wanted : IndAddr) (start : AddressWorld) where
  abbrev pub Alive : List AddressEvent → Type 0
  Alive events = Lives (Now wanted start.units (record_at start events) (replay start events).units) (record_at start events) (replay start events).tunnel

  first : IsFresh start → Alive []
  first f =
      let own = as_itself start.units f.nothing_unsent in
      subst (λ t. Lives (Now wanted start.units [] start.units) [] t) (sym f.tunnel)
      (begins (Now wanted start.units [] start.units) (me start) (record { rides = (refl, (refl, (own.1, own.0))); first = λ e. refl }))

  one_more : (past : List AddressEvent) (e : AddressEvent) → NoStrays (channel (record_at start past)) (replay start past).tunnel.gateway.channel → MayHappen (replay start past) e → IsCalm (replay start past) e → Keeps (record_at start (e ∷ past)) → TalksSo wanted (record_at start (e ∷ past)) → StaysOpen (record_at start (e ∷ past)) → Alive past → Alive (e ∷ past)
  one_more past e own may c keeps talks stays l =
      let w : AddressWorld = replay start past in
      let t : Tunnel = w.tunnel in
      let r : List Entry = record_at start past in
      let te : TunnelEvent = tunnel_event w e in
      let o : Option Item = item_of t te in
      let E : Option Ldata → List Ldata → Type 0 = Now wanted start.units r w.units in
      let F : Option Ldata → List Ldata → Type 0 = Now wanted start.units (record_at start (e ∷ past)) (units_after w e) in
      let same : (tunnel.step t te).now ≡ (tunnel.after t te).now = step_now t te in
      let does : Does wanted start.units w r e = λ item is. does_of wanted o (tunnel.after t te).now r (subst (λ n. TalksSo wanted (noted o n r)) same talks) item is in
      let on : RidesOn E F r t te = subst (λ n. RidesOn E (Now wanted start.units (noted o n r) (units_after w e)) r t te) (sym same) (rides_on wanted start.units w r own (newest_of E r t l) e c may.units does) in
      only_lives F (record_at start (e ∷ past)) (tunnel.step t te) (step_kept E F r t te (inl l) may.tunnel (event_calm w e c) (may_of o (tunnel.step t te).now r keeps) on) stays

  pub alive : (events : List AddressEvent) → IsFresh start → IsLegal start events → AreCalm start events → Keeps (record_at start events) → TalksSo wanted (record_at start events) → StaysOpen (record_at start events) → Alive events
  alive [] f l c k talks stays = first f
  alive (e ∷ past) f l c k talks stays =
      let w : AddressWorld = replay start past in
      let o : Option Item = item_of w.tunnel (tunnel_event w e) in
      let now : ℕ = (replay start (e ∷ past)).tunnel.now in
      one_more past e (own_frames start past f l.1) l.0 c.0 k talks stays
      (alive past f l.1 c.1 (keeps_before o now (record_at start past) k) (talks_before wanted o now (record_at start past) talks) (stays_before o now (record_at start past) stays))

  -- ---- its tunnel is calm

  pub tunnel_calm : (events : List AddressEvent) → AreCalm start events → calm.AreCalm start.tunnel (tunnel_events start events)
  tunnel_calm [] c = tt
  tunnel_calm (e ∷ past) c = (subst (λ t. calm.IsCalm t (tunnel_event (replay start past) e)) (same_tunnel start past) (event_calm (replay start past) e c.0), tunnel_calm past c.1)

  pub tunnel_legal : (events : List AddressEvent) → IsLegal start events → tunnel.IsLegal Commissions start.tunnel (tunnel_events start events)
  tunnel_legal [] l = tt
  tunnel_legal (e ∷ past) l = (subst (λ t. tunnel.MayHappen Commissions t (tunnel_event (replay start past) e)) (same_tunnel start past) l.0.tunnel, tunnel_legal past l.1)
