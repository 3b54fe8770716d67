-- A new endpoint, what comes of the bus, and the time.
use Rattle.std.proofs.Common.{◌≡◌, ℕ, suc, ◌+◌, ◌-◌, ◌<◌, ◌≤◌, List, [], ◌∷◌, ◌++◌, length, Bool, true, false, cond, Option, Some, None, refl, sym, ◌∙◌, ap, subst, arith, inl, inr, leb-false, leb-true, ◌⊎◌}
use Rattle.std.specs.Prelude.{nat_le}
use Rattle.std.specs.List.{AllByRecursion}
use Rattle.knx_model.specs.declared.address.IndAddr.{IndAddr}
use Rattle.knx_model.specs.declared.frames.cemi.Ldata.{Ldata}
use Rattle.knx_model.specs.declared.frames.cemi.LdataCode.TheVariants.{Con, Ind}
use Rattle.knx_model.specs.declared.frames.ip.IpFrame.{IpFrame}
use Rattle.knx_model.specs.declared.frames.ip.IpFrame.TheVariants.{TunnellingAck}
use Rattle.knx_model.specs.Cemi.{Written as cemi_octets}
use Rattle.knx_model.specs.Connection.{has_passed}
use Rattle.line_model.specs.Reading.{datagram_in, ldata_in, is_con}
use Rattle.line_model.specs.Network.{Sent, IsUnderWay, MayArrive, MayReach}
use Rattle.line_model.specs.Gateway.{Nothing, Channel, request_expired, channel_expired}
use Rattle.line_model.specs.Tunnel.{Tunnel, Renew, Carried, Heard, Pass, after, Commissions}
use Rattle.line_model.specs.World.{on_bus}
use Rattle.line_model.specs.Record.{Entry, Renewed, Quiet, entry}
use Rattle.line_model.specs.ChannelLost.{is_confirmation, is_confirmation_of, is_unconfirmed}
use Rattle.line_model.specs.ClientView.{ClientChannel, Fresh, Open, Nothing as NoDeed, deed, after_entry, channel}
use Rattle.line_model.specs.Renews.{MayLeave, IsOwed, last_beat, to_poll_before}
use Rattle.line_model.specs.LinkStory.{newest_time}
use Rattle.line_model.specs.Haste.{is_beat_overdue}
use Rattle.line_model.specs.Asks.{HasPlace}
use Rattle.line_model.specs.Fresh.{TunnelSettled}
use Rattle.line_model.specs.Undisturbed.{AwaitsNothing}
use Rattle.calm_law.specs.CalmTunnel.{Confirms, IsIndication}
use Rattle.calm_law.proofs.Ways.{IsNew, settled}
use Rattle.calm_law.proofs.Tokens.{Rise, Fall, risen, fallen, read_down}
use Rattle.calm_law.proofs.Seen.{Seen, IsOpen, seen, up_quiet, lapsed}
use Rattle.calm_law.proofs.Owning.{own_append, own_none}
use Rattle.calm_law.proofs.State.{Door, Shut, Knocked, Replied, Ajar, Stage, Rising, Riding, Past, Under, Free, Coming, Owed, Back, Pulse, Calm, Beating, Echo, Nums, makers_at, bus_at, channel_at, the_channel, out_at, owed_at, seen_at, is_con_frame, one_if, cons_in, con_under, awaited, AreItsOwn, Fits, AllFit, Paced, flies_of, queue_of, Steps, RenewedSo, Early, IsFree, DoorIs, Goes, Going, going, IsPut, tunnel_at}
use Rattle.calm_law.proofs.Sends.{MayDo, owed_none}
use Rattle.calm_law.proofs.Rises.{one_maker}
use Rattle.calm_law.proofs.Falls.{none_yet}

-- ---- what waits

pub cons_append : (l k : List Ldata) → cons_in (l ++ k) ≡ cons_in l + cons_in k
cons_append [] k = omega arith
cons_append (y ∷ l) k = let h = cons_append l k in omega (arith, h)

fit_append : (l k : List Ldata) → AllFit l → AllFit k → AllFit (l ++ k)
fit_append [] k a b = b
fit_append (y ∷ l) k a b = (a.0, fit_append l k a.1 b)

-- an indication is no confirmation
ind_by : (t u : Bool) (f : Ldata) → is_con f.code ≡ false → is_confirmation (cond t (cond u (Some f) None) None) ≡ false
ind_by true true f h = h
ind_by true false f h = refl
ind_by false u f h = refl

no_con : (y : Ldata) → is_con_frame (record y { code = Ind }) ≡ false
unfolding ldata_in
no_con y = ind_by _ _ _ refl

pub ind_is : (y : Ldata) → y.code ≡ Ind → is_con_frame y ≡ false
ind_is y h = ap (λ c. is_con_frame (record y { code = c })) h ∙ no_con y

no_cons : (l : List Ldata) → AllByRecursion IsIndication l → cons_in l ≡ 0
no_cons [] h = refl
no_cons (y ∷ l) h = let a : is_con_frame y ≡ false = ind_is y h.0.code in let b = no_cons l h.1 in let c : one_if (is_con_frame y) ≡ 0 = ap one_if a in omega (arith, b, c)

all_fit : (l : List Ldata) → AllByRecursion IsIndication l → AllFit l
all_fit [] h = tt
all_fit (y ∷ l) h = (record { some = omega arith; short = (let a : length y.tpdu ≤ 64 = h.0.fits in omega (arith, a)) }, all_fit l h.1)

-- ---- nothing is due at the gateway

near_not : (wait since now : ℕ) → 1 ≤ wait → now < since + wait → has_passed wait since now ≡ false
near_not wait since now some h = by_test (nat_le wait (now - since)) refl where
  by_test : (b : Bool) → nat_le wait (now - since) ≡ b → nat_le wait (now - since) ≡ false
  by_test true e = absurd (let g : wait ≤ now - since = leb-true wait (now - since) e in omega (arith, g, h, some))
  by_test false e = e

not_expired : (c : Channel) (under : Under) (now : ℕ) → request_expired c (out_at under now) now ≡ Nothing
not_expired c Free now = refl
not_expired c (Coming y) now = rw (near_not 1000 now now (omega arith) (omega arith)) refl
not_expired c (Owed y) now = rw (near_not 1000 now now (omega arith) (omega arith)) refl
not_expired c (Back y) now = rw (near_not 1000 now now (omega arith) (omega arith)) refl

channel_not : (stage : Stage) (under : Under) (m : Nums) (now : ℕ) → now ≤ m.heard + 61000 → channel_expired (Some (the_channel stage under m now)) now ≡ Nothing
channel_not stage under m now h = rw (near_not 120000 m.heard now (omega arith) (omega (arith, h))) (not_expired (the_channel stage under m now) under now)

pub nothing_due : (door : Door) (stage : Stage) (under : Under) (m : Nums) (now : ℕ) → now ≤ m.heard + 61000 → channel_expired (channel_at door (the_channel stage under m now)) now ≡ Nothing
nothing_due Shut stage under m now h = refl
nothing_due Knocked stage under m now h = refl
nothing_due Replied stage under m now h = channel_not stage under m now h
nothing_due (Ajar leaves) stage under m now h = channel_not stage under m now h

-- ---- a new endpoint

fresh_deed : (x : Entry) → deed Fresh x ≡ NoDeed
unfolding deed
fresh_deed x = refl

queue_more : (under : Under) (waiting more : List Ldata) → queue_of under waiting ++ more ≡ queue_of under (waiting ++ more)
queue_more Free waiting more = refl
queue_more (Coming y) waiting more = refl
queue_more (Owed y) waiting more = refl
queue_more (Back y) waiting more = refl

renewed_fresh : (r : List Entry) (now : ℕ) → channel (entry Renewed now ∷ r) ≡ Fresh
unfolding after_entry
renewed_fresh r now = refl

fresh_quiet : (r : List Entry) (now : ℕ) → channel r ≡ Fresh → channel (entry Quiet now ∷ r) ≡ Fresh
unfolding after_entry
fresh_quiet r now h = rw h refl

module _ (E F : Option Ldata → List Ldata → Type 0) (r : List Entry) (present : ℕ) (up down : List Sent) (waiting : List Ldata) (me : IndAddr) (acted puts : List (ℕ × List ℕ)) (now : ℕ) where
  abbrev here : Door → Stage → Under → Nums → Tunnel
  here door stage under m = tunnel_at door stage under m present up down me waiting acted puts now

  abbrev Now : Door → Stage → Under → Pulse → Nums → List Rise → List Fall → Type 0
  Now door stage under pulse m ups downs = Goes E door stage under pulse m ups downs r present up down waiting now

  pub renew_kept : (door : Door) (stage : Stage) (under : Under) (pulse : Pulse) (m : Nums) (ups : List Rise) (downs : List Fall) → Now door stage under pulse m ups downs → MayDo r (entry Renewed now) → (channel r ≡ Fresh → Steps E F (deed (channel r) (entry Renewed now))) → Going F (entry Renewed now ∷ r) (after (here door stage under m) Renew)
  renew_kept Knocked stage under pulse m ups downs h may to = absurd (subst MayLeave h.door_is.0.is (may.renews.leaves refl h.door_is.0.renewed))
  renew_kept Replied stage under pulse m ups downs h may to = absurd (subst MayLeave h.door_is.0.is (may.renews.leaves refl h.door_is.0.renewed))
  renew_kept (Ajar leaves) stage under pulse m ups downs h may to = absurd (subst MayLeave h.door_is.open_.is (may.renews.leaves refl h.door_is.renewed))
  renew_kept Shut stage under pulse m ups downs h may to =
      going F Shut stage under pulse m ups downs (entry Renewed now ∷ r) (suc present) up down me waiting acted puts now
      (record {
        rising = h.rising;
        falling = h.falling;
        ups_are = h.ups_are;
        downs_are = h.downs_are;
        door_is = (renewed_fresh r now, inr (refl, at h.door_is.1), h.door_is.2, h.door_is.3);
        owed_is = owed_none (channel r) (channel (entry Renewed now ∷ r)) (entry Renewed now) refl ∙ sym (none under h.door_is.3);
        end_is = refl;
        reads = h.reads;
        counts = h.counts;
        own = h.own;
        acked = h.acked;
        fits = h.fits;
        heard = h.heard;
        since = h.since;
        beat = h.beat;
        pace = record { newest = refl; last = h.pace.last; before = h.pace.before };
        rides = (let s : Steps E F NoDeed = subst (λ z. Steps E F z) (ap (λ c. deed c (entry Renewed now)) h.door_is.0 ∙ fresh_deed (entry Renewed now)) (to h.door_is.0) in s (flies_of stage) (queue_of under waiting) h.rides);
      })
    where
      at : RenewedSo r present → suc present ≡ 1
      at (inl n) = ap (λ z. suc z) n.1
      at (inr y) = absurd (subst MayLeave h.door_is.0 (may.renews.leaves refl y.0))

      none : (u : Under) → IsFree u → owed_at m.put u ≡ None
      none Free f = refl
      none (Coming y) f = absurd f
      none (Owed y) f = absurd f
      none (Back y) f = absurd f

  -- ---- frames of devices

  pub heard_kept : (door : Door) (stage : Stage) (under : Under) (pulse : Pulse) (m : Nums) (ups : List Rise) (downs : List Fall) → Now door stage under pulse m ups downs → (frames : List Ldata) → AllByRecursion IsIndication frames → ((fly : Option Ldata) (q : List Ldata) → E fly q → F fly (q ++ frames))
      → Going F r (after (here door stage under m) (Heard frames))
  heard_kept door stage under pulse m ups downs h frames all to =
      going F door stage under pulse m ups downs r present up down me (waiting ++ frames) acted puts now
      (record {
        rising = h.rising;
        falling = h.falling;
        ups_are = h.ups_are;
        downs_are = h.downs_are;
        door_is = h.door_is;
        owed_is = h.owed_is;
        end_is = h.end_is;
        reads = h.reads;
        counts = (let a = h.counts in let b = cons_append waiting frames in let c = no_cons frames all in omega (arith, a, b, c));
        own = (h.own.0, subst (AreItsOwn m.last) (queue_more under waiting frames) (own_append m.last (queue_of under waiting) frames h.own.1 (own_none m.last frames (no_cons frames all))));
        acked = h.acked;
        fits = fit_append waiting frames h.fits (all_fit frames all);
        heard = h.heard;
        since = h.since;
        beat = h.beat;
        pace = h.pace;
        rides = subst (λ z. F (flies_of stage) z) (queue_more under waiting frames) (to (flies_of stage) (queue_of under waiting) h.rides);
      })

  -- ---- the confirmation of the client's frame

  past_door : (door : Door) (f : Ldata) (b : Bool) (under : Under) (pulse : Pulse) (m : Nums) (downs : List Fall) → DoorIs door (Riding f b) under pulse m r present downs now → DoorIs door (Past b) under pulse m r present downs now
  past_door Shut f b under pulse m downs d = absurd (let e : Riding f b ≡ Past false = d.2.stage_is in cc)
  past_door Knocked f b under pulse m downs d = absurd (let e : Riding f b ≡ Past false = d.1.stage_is in cc)
  past_door Replied f b under pulse m downs d = absurd (let e : Riding f b ≡ Past false = d.1.stage_is in cc)
  past_door (Ajar leaves) f b under pulse m downs d = d

  carried_by : (door : Door) (f : Ldata) (b : Bool) (under : Under) (pulse : Pulse) (m : Nums) (ups : List Rise) (downs : List Fall) → Now door (Riding f b) under pulse m ups downs → (con : Ldata) → is_con_frame con ≡ true → is_confirmation_of (Some f) (ldata_in (cemi_octets con)) ≡ true → Fits con → ((q : List Ldata) → E (Some f) q → F None (q ++ con ∷ []))
      → Going F r (after (here door (Riding f b) under m) (Carried con))
  carried_by door f b under pulse m ups downs h con is its fits to =
      going F door (Past b) under pulse m ups downs r present up down me (waiting ++ con ∷ []) acted puts now
      (record {
        rising = h.rising;
        falling = h.falling;
        ups_are = h.ups_are;
        downs_are = h.downs_are;
        door_is = past_door door f b under pulse m downs h.door_is;
        owed_is = h.owed_is;
        end_is = h.end_is;
        reads = tt;
        counts = (let a : awaited m.confirmed ≡ 1 + (con_under under + cons_in waiting) = h.counts in let c : one_if (is_con_frame con) ≡ 1 = ap one_if is in let d = cons_append waiting (con ∷ []) in omega (arith, a, c, d));
        own = (tt, subst (AreItsOwn m.last) (queue_more under waiting (con ∷ [])) (own_append m.last (queue_of under waiting) (con ∷ []) h.own.1 (λ z. ap (λ o. is_confirmation_of o (ldata_in (cemi_octets con))) h.own.0 ∙ its, tt)));
        acked = h.acked;
        fits = fit_append waiting (con ∷ []) h.fits (fits, tt);
        heard = h.heard;
        since = h.since;
        beat = h.beat;
        pace = h.pace;
        rides = subst (λ z. F None z) (queue_more under waiting (con ∷ [])) (to (queue_of under waiting) h.rides);
      })

  -- its frame read, so its confirmation is read as one
  pub carried_kept : (door : Door) (stage : Stage) (under : Under) (pulse : Pulse) (m : Nums) (ups : List Rise) (downs : List Fall) → Now door stage under pulse m ups downs → (con : Ldata) → Confirms me (bus_at stage) con → ((g : Ldata) (q : List Ldata) → bus_at stage ≡ g ∷ [] → E (Some g) q → F None (q ++ con ∷ []))
      → ((cemi : List ℕ) (f : Ldata) (error : Bool) → ldata_in cemi ≡ Some f → (is_con_frame (record (on_bus me f) { code = Con; error = error }) ≡ true) × (is_confirmation_of (Some f) (ldata_in (cemi_octets (record (on_bus me f) { code = Con; error = error }))) ≡ true) × Fits (record (on_bus me f) { code = Con; error = error }))
      → Going F r (after (here door stage under m) (Carried con))
  carried_kept door (Rising cemi f) under pulse m ups downs h con is to reads = absurd is
  carried_kept door (Past b) under pulse m ups downs h con is to reads = absurd is
  carried_kept door (Riding f b) under pulse m ups downs h con is to reads =
      let it = reads h.reads.0 f is.0 h.reads.1 in
      subst (λ z. Going F r (after (here door (Riding f b) under m) (Carried z))) (sym is.1) (carried_by door f b under pulse m ups downs h (record (on_bus me f) { code = Con; error = is.0 }) it.0 it.1 it.2 (λ q e. subst (λ z. F None (q ++ z ∷ [])) is.1 (to f q refl e)))

  -- ---- time passes

  fresh_idle : (c : ClientChannel) → c ≡ Fresh → AwaitsNothing c
  fresh_idle c e = subst AwaitsNothing (sym e) tt

  open_idle : (s : Seen) (c : ClientChannel) (l : List Entry) → c ≡ Open 1 l → seen l ≡ s → s.own.sent ≡ [] → s.confirmed ≡ true → s.beats ≡ [] → AwaitsNothing c
  open_idle s c l e is a b d =
      subst AwaitsNothing (sym e) (record { acknowledged = ap (λ (z : Seen). z.own.sent) is ∙ a; has_confirmation = ap (λ (z : Seen). z.confirmed) is ∙ b; alive = ap (λ (z : Seen). z.beats) is ∙ d })

  open_place : (s : Seen) (c : ClientChannel) (l : List Entry) → c ≡ Open 1 l → seen l ≡ s → s.own.sent ≡ [] → s.confirmed ≡ true → HasPlace c
  open_place s c l e is a b = subst HasPlace (sym e) (record { acknowledged = ap (λ (z : Seen). z.own.sent) is ∙ a; has_confirmation = ap (λ (z : Seen). z.confirmed) is ∙ b })

  settled_confirmed : (confirmed : Bool) → awaited confirmed ≡ 0 + (0 + 0) → confirmed ≡ true
  settled_confirmed true e = refl
  settled_confirmed false e = absurd (let a : 1 ≡ 0 + (0 + 0) = e in omega (arith, a))

  quiet_lapse : (confirmed : Bool) (acked : Option ℕ) (later : ℕ) → confirmed ≡ true → is_unconfirmed acked confirmed later ≡ false
  quiet_lapse true None later h = refl
  quiet_lapse true (Some since) later h = refl
  quiet_lapse false acked later h = absurd (cc)

  module _ (ms : ℕ) (may : MayDo r (entry Quiet (now + ms))) (to : (q : List Ldata) → (channel r ≡ Fresh) ⊎ ((q ≡ []) × HasPlace (channel r)) → E None q → F None q) where
    abbrev x : Entry
    x = entry Quiet (now + ms)

    abbrev Passed : Door → Stage → Under → Nums → Type 0
    Passed door stage under m = AwaitsNothing (channel r) × Going F (x ∷ r) (after (here door stage under m) (Pass ms))

    paced_quiet : Paced r now → Paced (x ∷ r) (now + ms)
    paced_quiet p = record { newest = refl; last = refl; before = (let a : now + ms ≤ newest_time r + 100 = may.pace.short in let b = p.newest in let c = p.last in omega (arith, a, b, c)) }

    -- the client's last heartbeat is near
    beat_near : (l : List Entry) (beat : ℕ) → channel r ≡ Open 1 l → last_beat 1 l ≡ beat → Paced r now → now + ms ≤ beat + 60200
    beat_near l beat o is p = by_poll (to_poll_before r) refl where
      due : is_beat_overdue (Open 1 l) (to_poll_before r) ≡ false
      due = ap (λ c. is_beat_overdue c (to_poll_before r)) (sym o) ∙ may.pace.beats refl

      short : now + ms ≤ now + 100
      short = let a : now + ms ≤ newest_time r + 100 = may.pace.short in let b = p.newest in omega (arith, a, b)

      by_poll : (polls : List Entry) → to_poll_before r ≡ polls → now + ms ≤ beat + 60200
      by_poll [] e = let a : now ≤ newest_time (to_poll_before r) + 100 = p.before in let b : newest_time (to_poll_before r) ≡ 0 = ap newest_time e in let c = short in omega (arith, a, b, c)
      by_poll (y ∷ old) e =
          let a : now ≤ newest_time (to_poll_before r) + 100 = p.before in
          let b : newest_time (to_poll_before r) ≡ y.now = ap newest_time e in
          let d : has_passed 60000 (last_beat 1 l) y.now ≡ false = ap (λ z. is_beat_overdue (Open 1 l) z) (sym e) ∙ due in
          let g : y.now - last_beat 1 l < 60000 = leb-false 60000 (y.now - last_beat 1 l) d in
          let c = short in
          omega (arith, a, b, g, c, is)

    -- nothing is awaited, and nothing on its way
    idle_kept : (door : Door) (stage : Stage) (under : Under) (pulse : Pulse) (m : Nums) → Now door stage under pulse m [] [] → bus_at stage ≡ [] → IsPut door under waiting → Passed door stage under m
    idle_kept Knocked stage under pulse m h bus put = absurd (let e : [] ≡ 0 ∷ [] = h.ups_are.asks_are in cc)
    idle_kept Replied stage under pulse m h bus put = absurd (let e : [] ≡ 0 ∷ [] = h.downs_are.mades_are in cc)
    idle_kept (Ajar true) stage under pulse m h bus put = absurd (let e : [] ≡ 0 ∷ [] = h.ups_are.leaves_are in cc)
    idle_kept door (Riding f b) under pulse m h bus put = absurd (cc)
    idle_kept door (Rising cemi f) under pulse m h bus put = absurd (let e : ◌≡◌ {A = List (ℕ × List ℕ)} [] ((m.own, cemi) ∷ []) = h.ups_are.tells_are in cc)
    idle_kept door (Past true) under pulse m h bus put = absurd (let e : [] ≡ m.own ∷ [] = h.downs_are.acks_are in cc)
    idle_kept door stage (Coming y) pulse m h bus put = absurd (let e : ◌≡◌ {A = List (ℕ × List ℕ)} [] ((m.put, cemi_octets y) ∷ []) = h.downs_are.notes_are in cc)
    idle_kept door stage (Back y) pulse m h bus put = absurd (let e : [] ≡ m.put ∷ [] = h.ups_are.receipts_are in cc)
    idle_kept door stage (Owed y) pulse m h bus put = absurd (let a : IsOwed (Some (TunnellingAck 1 m.put 0)) x = subst (λ w. IsOwed w x) h.owed_is may.acknowledges in cc)
    idle_kept door stage under Beating m h bus put = absurd (let e : [] ≡ 0 ∷ [] = h.ups_are.beats_are in cc)
    idle_kept door stage under Echo m h bus put = absurd (let e : [] ≡ 0 ∷ [] = h.downs_are.alives_are in cc)
    idle_kept Shut (Past false) Free Calm m h bus put = (
      fresh_idle (channel r) h.door_is.0,
      (let e : Early (Past false) Calm m now = h.door_is.2 in
          let later : Nums = record m { heard = now + ms } in
          going F Shut (Past false) Free Calm later [] [] (x ∷ r) present up down me waiting acted puts (now + ms)
          (record {
            rising = h.rising;
            falling = h.falling;
            ups_are = h.ups_are;
            downs_are = h.downs_are;
            door_is = (fresh_quiet r (now + ms) h.door_is.0, h.door_is.1, record { stage_is = refl; pulse_is = refl; own_is = e.own_is; put_is = e.put_is; acked_is = e.acked_is; confirmed_is = e.confirmed_is; last_is = e.last_is; heard_is = refl }, tt);
            owed_is = owed_none (channel r) (channel (x ∷ r)) x refl;
            end_is = refl;
            reads = tt;
            counts = h.counts;
            own = h.own;
            acked = inl e.confirmed_is;
            fits = h.fits;
            heard = omega arith;
            since = omega arith;
            beat = (let a : m.beat ≤ m.heard = h.beat in let b = h.since in omega (arith, a, b));
            pace = paced_quiet h.pace;
            rides = to waiting (inl h.door_is.0) h.rides;
          })),
    )
    idle_kept (Ajar false) (Past false) Free Calm m h bus put =
        let o : IsOpen r (seen_at (Past false) Free Calm m now) = h.door_is.open_ in
        let none : cons_in waiting ≡ 0 = ap cons_in put in
        let con : m.confirmed ≡ true = settled_confirmed m.confirmed (let a : awaited m.confirmed ≡ 0 + (0 + cons_in waiting) = h.counts in omega (arith, a, none)) in
        let near = beat_near (o.first ∷ o.rest) m.beat o.is (ap (λ (z : Seen). z.beat) o.says) h.pace in
        let lap : lapsed (seen_at (Past false) Free Calm m now) (now + ms) ≡ false = rw (quiet_lapse m.confirmed m.acked (now + ms) con) refl in (
          open_idle (seen_at (Past false) Free Calm m now) (channel r) (o.first ∷ o.rest) o.is o.says refl con refl,
          going F (Ajar false) (Past false) Free Calm m [] [] (x ∷ r) present up down me waiting acted puts (now + ms)
              (record {
                rising = h.rising;
                falling = h.falling;
                ups_are = h.ups_are;
                downs_are = h.downs_are;
                door_is = up_quiet false r present (seen_at (Past false) Free Calm m now) (now + ms) lap h.door_is;
                owed_is = owed_none (channel r) (channel (x ∷ r)) x refl;
                end_is = refl;
                reads = tt;
                counts = h.counts;
                own = h.own;
                acked = inl con;
                fits = h.fits;
                heard = (let a : m.beat ≤ m.heard = h.beat in omega (arith, a, near));
                since = (let a = h.since in omega (arith, a));
                beat = h.beat;
                pace = paced_quiet h.pace;
                rides = to waiting (inr (put, open_place (seen_at (Past false) Free Calm m now) (channel r) (o.first ∷ o.rest) o.is o.says refl con)) h.rides;
              }),
        )

    under_way : (made : ℕ) (read : List ℕ → Option IpFrame) (frame : IpFrame) (s : Sent) → made ≤ 1 → IsNew read frame s → IsUnderWay made 0 s
    under_way made read frame s few new = let u : s.delivered ≡ 0 = new.undelivered in record { kept = new.kept; twice = omega (arith, u); young = omega arith; soon = omega (arith, few) }

    pub pass_kept : (door : Door) (stage : Stage) (under : Under) (pulse : Pulse) (m : Nums) (ups : List Rise) (downs : List Fall) → Now door stage under pulse m ups downs → IsPut door under waiting → TunnelSettled Commissions (here door stage under m) → Passed door stage under m
    pass_kept door stage under pulse m ups downs h put is =
        let few = one_maker E r present up up down waiting me acted puts now door in
        let no_ups : ups ≡ [] = settled Rise datagram_in risen (λ l age. MayArrive (length (makers_at door)) l age) (λ u s l new. under_way (length (makers_at door)) datagram_in (risen u) s few new) ups up h.rising is.up in
        let no_downs : downs ≡ [] = by_door door stage under pulse m ups downs h (λ at.
        settled Fall read_down fallen (λ l age. MayReach present (length (makers_at door)) l age) (λ f s l new. (under_way (length (makers_at door)) read_down (fallen f) s few new, new.from ∙ sym at)) downs down h.falling is.down) in
        let h1 : Now door stage under pulse m [] downs = subst (λ l. Now door stage under pulse m l downs) no_ups h in
        let h2 : Now door stage under pulse m [] [] = subst (λ l. Now door stage under pulse m [] l) no_downs h1 in
        idle_kept door stage under pulse m h2 is.bus put
      where
        by_door : (door : Door) (stage : Stage) (under : Under) (pulse : Pulse) (m : Nums) (ups : List Rise) (downs : List Fall) → Now door stage under pulse m ups downs → (present ≡ 1 → downs ≡ []) → downs ≡ []
        by_door Shut stage under pulse m ups downs h f = none_yet E F r present up down waiting me acted puts now stage under pulse m ups downs h
        by_door Knocked stage under pulse m ups downs h f = f h.door_is.0.at
        by_door Replied stage under pulse m ups downs h f = f h.door_is.0.at
        by_door (Ajar leaves) stage under pulse m ups downs h f = f h.door_is.at
