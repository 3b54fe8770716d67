-- Each event of a calm line keeps tunnel and sessions together: what rides goes on.
use Rattle.std.proofs.Common.{◌≡◌, ◌≢◌, ℕ, suc, ◌≤◌, nat_lt, List, [], ◌∷◌, ◌++◌, Bool, true, false, not, ◌&&◌, ◌||◌, Option, Some, None, refl, sym, ◌∙◌, ap, subst, inl, inr, take}
use Rattle.std.specs.Prelude.{slice_get}
use Rattle.knx_model.specs.declared.address.IndAddr.{IndAddr}
use Rattle.knx_model.specs.declared.device.Took.TheVariants.{Taken}
use Rattle.knx_model.specs.declared.frames.cemi.Ldata.{Ldata}
use Rattle.knx_model.specs.declared.frames.cemi.LdataCode.TheVariants.{Con}
use Rattle.knx_model.specs.ApduReading.{option_map}
use Rattle.knx_model.specs.Cemi.{Written as cemi_octets}
use Rattle.knx_model.specs.DeviceState.{DeviceState}
use Rattle.knx_model.specs.DeviceFrames.{took_of, is_taken}
use Rattle.knx_model.specs.DeviceSending.{first_frame, pops}
use Rattle.knx_model.specs.Device.{HasCapacities}
use Rattle.line_model.specs.declared.group.GroupTurn.{GroupTurn}
use Rattle.line_model.specs.declared.log.LogEntry.{LogEntry}
use Rattle.line_model.specs.Log.{Job, job_of}
use Rattle.line_model.specs.Asks.{IsRightDeed, moment_of}
use Rattle.line_model.specs.Ends.{BeginsSo}
use Rattle.line_model.specs.Haste.{is_wait}
use Rattle.line_model.specs.LinkStory.{newest_time}
use Rattle.line_model.specs.Moments.{Moment, moments}
use Rattle.line_model.specs.Undisturbed.{IsServedJob}
use Rattle.line_model.specs.Reading.{ldata_in}
use Rattle.line_model.specs.Tunnel as tunnel
use Rattle.line_model.specs.Tunnel.{Tunnel, TunnelEvent}
use Rattle.line_model.specs.Network.{Sent}
use Rattle.line_model.specs.Record.{Entry, Item, Put, Renewed, Got, Placed, entry, entries, placed_if, item_of, got, is_renewal, longest_got}
use Rattle.line_model.specs.ClientView.{channel, deed}
use Rattle.line_model.specs.World.{World, all_take, changed, others_take, on_bus, is_among, is_confirmed, takes_it, confirmation, carried}
use Rattle.line_law.proofs.Coupled.{IsFrameOf}
use Rattle.line_law.proofs.ReadBack.{written_in}
use Rattle.calm_law.proofs.State.{NoStrays, Steps, none_strays}
use Rattle.calm_law.proofs.Law.{RidesOn}
use Rattle.calm_law.proofs.Rows.{Devices}
use Rattle.calm_law.proofs.RowsOnBus.{riders_bus, riders_send, one_took}
use Rattle.calm_law.proofs.Held.{HeldJob, AreUpto}
use Rattle.calm_law.proofs.Sessions.{Lands, Whole, entry_steps}
use Rattle.calm_law.proofs.Joined.{fresh_before, up_now, repeat_now, close_now}

module _ (jobs : List Job) (then : ℕ → Devices) (turns : List GroupTurn) (start : World) (served : (k : ℕ) (job : Job) → job_of jobs k ≡ Some job → IsServedJob job) (on_line : (k : ℕ) (job : Job) → job_of jobs k ≡ Some job → start.devices job.device.raw ≢ None) (me : IndAddr) (n : ℕ) (log : List LogEntry) (places : List Placed)
    (upto : AreUpto n (moments places)) (upto_next : AreUpto (suc n) (moments places)) (early : (a : ℕ) (h : HeldJob jobs log a) → h.since ≤ n) where
  abbrev pub r : List Entry
  r = entries places

  abbrev Before : Devices → ℕ → Option Ldata → List Ldata → Type 0
  Before devices now = Whole jobs then me log places devices now

  -- the places after an event of the tunnel
  abbrev pub later : Option Item → ℕ → List Placed
  later o now = placed_if (suc n) now o places

  -- what rides after it
  abbrev pub After : Devices → Tunnel → TunnelEvent → Option Ldata → List Ldata → Type 0
  After devices t e = Whole jobs then me log (later (item_of t e) (tunnel.after t e).now) devices (tunnel.after t e).now

  -- what the client may put
  abbrev pub MayPutSo : Item → ℕ → Type 0
  MayPutSo item now = let m : Moment = moment_of places (record { at = suc n; what = entry item now }) in IsRightDeed jobs turns log places m m.what × BeginsSo jobs log places m

  module _ (devices : Devices) (capable : (a : ℕ) (d : DeviceState) → devices a ≡ Some d → HasCapacities d.kept) (present : (a : ℕ) → start.devices a ≢ None → devices a ≢ None) (t : Tunnel) where
    -- ---- what the client does

    pub send_rides : (octets : List ℕ) → MayPutSo (Put octets) t.now → RidesOn (Before devices t.now) (After devices t (tunnel.Send octets)) r t (tunnel.Send octets)
    send_rides octets asks = entry_steps jobs then turns start served on_line me n log places upto upto_next early devices capable present (entry (Put octets) t.now) t.now refl refl (fresh_before (channel r) (entry (Put octets) t.now) refl) asks.0 asks.1

    pub renew_rides : MayPutSo Renewed t.now → RidesOn (Before devices t.now) (After devices t tunnel.Renew) r t tunnel.Renew
    renew_rides asks = λ fresh. entry_steps jobs then turns start served on_line me n log places upto upto_next early devices capable present (entry Renewed t.now) t.now refl refl (λ e. fresh) asks.0 asks.1

    abbrev IsPlain : Item → Type 0
    IsPlain item = (is_renewal item ≡ false) × (is_wait item ≡ false)

    plain : (o : Option Sent) (item : Item) → got o ≡ Some item → IsPlain item
    plain None item h = absurd (cc)
    plain (Some s) item h = (let e : Got (take longest_got s.octets) ≡ item = cc in subst IsPlain e (refl, refl))

    pub down_rides : (age : ℕ) → NoStrays (channel r) t.gateway.channel → ((item : Item) → got (slice_get t.network.down age) ≡ Some item → MayPutSo item t.now) → RidesOn (Before devices t.now) (After devices t (tunnel.Down age)) r t (tunnel.Down age)
    down_rides age none asks = (
      λ item is.
          (let P : Option Item → Type 0 = λ o. Steps (Before devices t.now) (Whole jobs then me log (later o t.now) devices t.now) (deed (channel r) (entry item t.now)) in
          let p : IsPlain item = plain (slice_get t.network.down age) item is in
          subst P (sym is)
          (entry_steps jobs then turns start served on_line me n log places upto upto_next early devices capable present (entry item t.now) t.now refl (ap (λ b. b && nat_lt (newest_time r) t.now) p.1) (fresh_before (channel r) (entry item t.now) p.0) (asks item is).0 (asks item is).1)),
      none_strays (Before devices t.now) (After devices t (tunnel.Down age)) (channel r) t.gateway.channel none,
    )

  -- ---- what the gateway does

  pub up_rides : (devices : Devices) (t : Tunnel) (age : ℕ) → RidesOn (Before devices t.now) (After devices t (tunnel.Up age)) r t (tunnel.Up age)
  up_rides devices t age = λ fly q h. subst (λ z. Before devices z fly q) (sym (up_now t age)) h

  pub repeat_rides : (devices : Devices) (t : Tunnel) → RidesOn (Before devices t.now) (After devices t tunnel.Repeat) r t tunnel.Repeat
  repeat_rides devices t = λ fly q h. subst (λ z. Before devices z fly q) (sym (repeat_now t)) h

  pub close_rides : (devices : Devices) (t : Tunnel) → RidesOn (Before devices t.now) (After devices t tunnel.Close) r t tunnel.Close
  close_rides devices t = λ fly q h. subst (λ z. Before devices z fly q) (sym (close_now t)) h

  -- ---- a device's frame comes to the gateway

  pub dev_rides : (devices : Devices) (t : Tunnel) (b : ℕ) (f : Ldata) (rest : List Ldata) (sender : DeviceState) → devices b ≡ Some sender → sender.unsent ≡ f ∷ rest → IsFrameOf b f
      → ((fly : Option Ldata) → Lands devices fly → Lands (changed b pops (others_take t.now (b ∷ []) (Some f) devices)) fly)
      → RidesOn (Before devices t.now) (After (changed b pops (others_take t.now (b ∷ []) (Some f) devices)) t (tunnel.Heard (f ∷ []))) r t (tunnel.Heard (f ∷ []))
  dev_rides devices t b f rest sender there unsent own keeps = λ fly q h.
      record {
        plans = h.plans;
        olds = h.olds;
        since = h.since;
        riders = riders_send me h.plans h.olds h.since devices b t.now fly f q rest sender h.riders there unsent own;
        held = h.held;
        free = h.free;
        lands = keeps fly h.lands;
        fresh = h.fresh;
        waited = h.waited;
      }

  -- ---- the client's frame goes over the bus

  confirms_one : (o : Option DeviceState) (f : Ldata) → o ≢ None → ((d : DeviceState) → o ≡ Some d → took_of d f ≡ Taken) → takes_it f o ≡ true
  confirms_one None f there took = absurd (there refl)
  confirms_one (Some d) f there took = ap is_taken (took d refl)

  confirmed_so : (w : World) (f : Ldata) → (g : Bool) → f.group ≡ g → (g ≡ false → takes_it f (w.devices f.destination) ≡ true) → is_confirmed w [] f ≡ true
  confirmed_so w f true at took = rw at refl
  confirmed_so w f false at took = ap (λ b. b || (not (is_among [] f.destination) && takes_it f (w.devices f.destination))) at ∙ took refl

  is_confirmed_one : (w : World) (q : List Ldata) (f : Ldata) → Before w.devices w.tunnel.now (Some f) q → is_confirmed w [] (on_bus me f) ≡ true
  is_confirmed_one w q f h = confirmed_so w (on_bus me f) f.group refl one where
    one : f.group ≡ false → takes_it (on_bus me f) (w.devices f.destination) ≡ true
    one g = elim h.lands.1 [ inl a ↦ absurd (let b : false ≡ true = sym g ∙ a in cc) | inr there ↦ confirms_one (w.devices f.destination) (on_bus me f) there (λ d is. one_took me h.plans h.olds h.since w.devices w.tunnel.now f q d h.riders g is) ]

  lands_over : (w : World) (f : Ldata) (q : List Ldata) → Before w.devices w.tunnel.now (Some f) q
      → Before (all_take w.tunnel.now [] (Some (on_bus me f)) w.devices) w.tunnel.now None (q ++ confirmation w [] (on_bus me f) ∷ [])
  lands_over w f q h =
      let con : Ldata = record (on_bus me f) { code = Con; error = false } in
      let same : confirmation w [] (on_bus me f) ≡ con = ap (λ b. record (on_bus me f) { code = Con; error = not b }) (is_confirmed_one w q f h) in
      let reads : ldata_in (cemi_octets con) ≡ Some con = written_in Con false f.group me.raw f.destination f.tpdu h.lands.0.0 h.lands.0.1 tt in
      let P : Ldata → Type 0 = λ z. Before (all_take w.tunnel.now [] (Some (on_bus me f)) w.devices) w.tunnel.now None (q ++ z ∷ []) in
      subst P (sym same) (record { plans = h.plans; olds = h.olds; since = h.since; riders = riders_bus me h.plans h.olds h.since w.devices w.tunnel.now f q h.riders reads; held = h.held; free = h.free; lands = tt; fresh = h.fresh; waited = h.waited })

  pub bus_rides : (w : World) (b : List Ldata) → w.tunnel.gateway.bus ≡ b → b ≢ []
      → RidesOn (Before w.devices w.tunnel.now) (After (all_take w.tunnel.now [] (option_map (on_bus me) (first_frame b)) w.devices) w.tunnel (carried w [] (option_map (on_bus me) (first_frame b)))) r w.tunnel (carried w [] (option_map (on_bus me) (first_frame b)))
  bus_rides w [] is some = absurd (some refl)
  bus_rides w (f ∷ fs) is some = λ g q bus h.
      (let same : g ≡ f = (let e : g ∷ [] ≡ f ∷ fs = sym bus ∙ is in cc) in
      lands_over w f q (subst (λ z. Before w.devices w.tunnel.now (Some z) q) same h))
