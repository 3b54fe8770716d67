-- Each event of a calm line keeps tunnel and sessions together: the events of the line, each by its name.
use Rattle.std.proofs.Common.{◌≡◌, ◌≢◌, ◌⊎◌, ℕ, suc, ◌+◌, ◌≤◌, false, List, [], ◌∷◌, Option, Some, None, refl, sym, ◌∙◌, ap, subst}
use Rattle.knx_model.specs.declared.device.Sending.TheVariants as sending
use Rattle.knx_model.specs.declared.frames.cemi.Ldata.{Ldata}
use Rattle.knx_model.specs.ApduReading.{option_map}
use Rattle.knx_model.specs.DeviceState.{DeviceState}
use Rattle.knx_model.specs.DeviceSending.{first_frame, pops, repeats, shut, next_sending}
use Rattle.knx_model.specs.Device.{HasCapacities}
use Rattle.line_model.specs.Calm as line
use Rattle.line_model.specs.Tunnel as tunnel
use Rattle.line_model.specs.Tunnel.{Tunnel, TunnelEvent}
use Rattle.line_model.specs.declared.group.GroupTurn.{GroupTurn}
use Rattle.line_model.specs.declared.log.LogEntry.{LogEntry}
use Rattle.line_model.specs.Haste.{has_just_waited, HasSent}
use Rattle.line_model.specs.LinkStory.{newest_time}
use Rattle.line_model.specs.Log.{Job, job_of}
use Rattle.line_model.specs.Moments.{moments}
use Rattle.line_model.specs.Undisturbed.{IsServedJob}
use Rattle.line_model.specs.Record.{Entry, Item, Quiet, Renewed, Put, Placed, entry, entries, item_of}
use Rattle.line_model.specs.ClientView.{Fresh, Nothing, channel, deed}
use Rattle.line_model.specs.Legal.{OfDevice, DevicesAllow}
use Rattle.line_model.specs.World.{World, Event, AtGateway, Comes, Send, From, Renew, Up, UpRefused, Down, LoseUp, LoseDown, Bus, BusTorn, BusWorn, BusAgain, DevSend, DevRepeat, DevClose, GwAgain, GwRepeat, GwClose, Cut, On, Pass, me, on_bus, all_take, changed, others_take, carried, heard, waiting_at, repeat_at, frame_by, next_frame, tunnel_event, devices_after}
use Rattle.line_law.proofs.Coupled.{Owned}
use Rattle.line_law.proofs.Owned.{waiting_owned}
use Rattle.calm_law.proofs.State.{NoStrays}
use Rattle.calm_law.proofs.Law.{RidesOn}
use Rattle.calm_law.proofs.Rows.{Devices}
use Rattle.calm_law.proofs.Held.{HeldJob, AreUpto}
use Rattle.calm_law.proofs.Sessions.{Whole}
use Rattle.calm_law.proofs.JoinedEvents.{After, MayPutSo, send_rides, renew_rides, down_rides, up_rides, repeat_rides, close_rides, dev_rides, bus_rides}
use Rattle.calm_law.proofs.JoinedTime.{pass_rides}
use Rattle.calm_law.proofs.JoinedLine.{none_due, changed_there, others_there, lands_there}

module _ (jobs : List Job) (then : ℕ → Devices) (turns : List GroupTurn) (start : World) (served : (k : ℕ) (job : Job) → job_of jobs k ≡ Some job → IsServedJob job) (on_line : (k : ℕ) (job : Job) → job_of jobs k ≡ Some job → start.devices job.device.raw ≢ None) (n : ℕ) (log : List LogEntry) (places : List Placed)
    (upto : AreUpto n (moments places)) (upto_next : AreUpto (suc n) (moments places)) (early : (a : ℕ) (h : HeldJob jobs log a) → h.since ≤ n) (w : World) where
  abbrev r : List Entry
  r = entries places

  abbrev Before : Option Ldata → List Ldata → Type 0
  Before = Whole jobs then (me w) log places w.devices w.tunnel.now

  abbrev So : Devices → TunnelEvent → Type 0
  So devices e = RidesOn Before (After jobs then turns start served on_line (me w) n log places upto upto_next early devices w.tunnel e) r w.tunnel e

  -- what the client may put, if the event is one of the record
  abbrev pub Asked : Event → Type 0
  Asked e = (item : Item) → item_of w.tunnel (tunnel_event w e) ≡ Some item → MayPutSo jobs then turns start served on_line (me w) n log places upto upto_next early item (tunnel.after w.tunnel (tunnel_event w e)).now

  pub record Times (ms : ℕ) : Type 0 where
    pub nothing : deed (channel r) (entry Quiet (w.tunnel.now + ms)) ≡ Nothing
    pub back : channel (entry Quiet (w.tunnel.now + ms) ∷ r) ≡ Fresh → channel r ≡ Fresh
    pub busy : (ms ≡ 0) ⊎ (has_just_waited r ≡ false → HasSent jobs log places (suc n))

  abbrev pub TimesSo : Event → Type 0
  TimesSo (Pass ms) = Times ms
  TimesSo e = Unit {0}

  abbrev Present : Type 0
  Present = (a : ℕ) → start.devices a ≢ None → w.devices a ≢ None

  -- a device's frame
  sends_at : (b : ℕ) (o : Option DeviceState) → w.devices b ≡ o → Owned w → OfDevice (λ d. d.unsent ≢ []) o → So (changed b pops (others_take w.tunnel.now (b ∷ []) (waiting_at w b) w.devices)) (heard Comes (waiting_at w b))
  sends_at b None is own can = absurd can
  sends_at b (Some d) is own can = by_unsent d.unsent refl where
    by_unsent : (l : List Ldata) → d.unsent ≡ l → So (changed b pops (others_take w.tunnel.now (b ∷ []) (waiting_at w b) w.devices)) (heard Comes (waiting_at w b))
    by_unsent [] e = absurd (can e)
    by_unsent (f ∷ rest) e =
        let frame : waiting_at w b ≡ Some f = ap (λ z. frame_by (λ (x : DeviceState). first_frame x.unsent) z) is ∙ ap first_frame e in
        let P : Option Ldata → Type 0 = λ o. So (changed b pops (others_take w.tunnel.now (b ∷ []) o w.devices)) (heard Comes o) in
        subst P (sym frame)
        (dev_rides jobs then turns start served on_line (me w) n log places upto upto_next early w.devices w.tunnel b f rest d is e (waiting_owned w b f own frame)
        (lands_there w.devices (changed b pops (others_take w.tunnel.now (b ∷ []) (Some f) w.devices)) (λ a h. changed_there b pops (others_take w.tunnel.now (b ∷ []) (Some f) w.devices) a (others_there w.tunnel.now (b ∷ []) (Some f) w.devices a h))))

  -- no device repeats or closes
  repeats_at : (b : ℕ) (devices : Devices) (o : Option Ldata) → OfDevice (λ d. next_sending d w.tunnel.now ≡ Some sending.Repeat) (w.devices b) → So devices (heard Comes o)
  repeats_at b devices None due = λ fly q h. absurd (none_due jobs then (me w) log places w.devices w.tunnel.now fly q h b sending.Repeat (λ c. cc) due)
  repeats_at b devices (Some f) due = λ fly q h. absurd (none_due jobs then (me w) log places w.devices w.tunnel.now fly q h b sending.Repeat (λ c. cc) due)

  closes_at : (b : ℕ) (devices : Devices) → OfDevice (λ d. next_sending d w.tunnel.now ≡ Some sending.Closing) (w.devices b) → So devices tunnel.Elsewhere
  closes_at b devices due = λ fly q h. absurd (none_due jobs then (me w) log places w.devices w.tunnel.now fly q h b sending.Closing (λ c. cc) due)

  goes_over : (b : List Ldata) → option_map (on_bus (me w)) (first_frame b) ≢ None → b ≢ []
  goes_over b h e = h (ap (λ z. option_map (on_bus (me w)) (first_frame z)) e)

  abbrev pub Capable : Type 0
  Capable = (a : ℕ) (d : DeviceState) → w.devices a ≡ Some d → HasCapacities d.kept

  pub rides : Capable → NoStrays (channel r) w.tunnel.gateway.channel → newest_time r ≡ w.tunnel.now → (e : Event) → Owned w → line.IsCalm w e → DevicesAllow w e → Asked e → TimesSo e → Present → So (devices_after w e) (tunnel_event w e)
  rides capable none newest (Send octets) own calm can asks times present = send_rides jobs then turns start served on_line (me w) n log places upto upto_next early w.devices capable present w.tunnel octets (asks (Put octets) refl)
  rides capable none newest (From endpoint octets) own calm can asks times present = absurd calm
  rides capable none newest Renew own calm can asks times present = renew_rides jobs then turns start served on_line (me w) n log places upto upto_next early w.devices capable present w.tunnel (asks Renewed refl)
  rides capable none newest (Up age) own calm can asks times present = up_rides jobs then turns start served on_line (me w) n log places upto upto_next early w.devices w.tunnel age
  rides capable none newest (UpRefused age status) own calm can asks times present = absurd calm
  rides capable none newest (Down age) own calm can asks times present = down_rides jobs then turns start served on_line (me w) n log places upto upto_next early w.devices capable present w.tunnel age none asks
  rides capable none newest (LoseUp age) own calm can asks times present = absurd calm
  rides capable none newest (LoseDown age) own calm can asks times present = absurd calm
  rides capable none newest (Bus left_out) own calm can asks times present =
      let P : List ℕ → Type 0 = λ l. So (all_take w.tunnel.now l (next_frame w) w.devices) (carried w l (next_frame w)) in
      subst P (sym calm) (bus_rides jobs then turns start served on_line (me w) n log places upto upto_next early w w.tunnel.gateway.bus refl (goes_over w.tunnel.gateway.bus can))
  rides capable none newest (BusTorn fresh octets) own calm can asks times present = absurd calm
  rides capable none newest (BusWorn octets) own calm can asks times present = absurd calm
  rides capable none newest (BusAgain device) own calm can asks times present = absurd calm
  rides capable none newest (DevSend device gateway left_out) own calm can asks times present =
      let P : AtGateway → Type 0 = λ g. So (changed device pops (others_take w.tunnel.now (device ∷ []) (waiting_at w device) w.devices)) (heard g (waiting_at w device)) in
      let Q : List ℕ → Type 0 = λ l. So (changed device pops (others_take w.tunnel.now (device ∷ l) (waiting_at w device) w.devices)) (heard gateway (waiting_at w device)) in
      subst Q (sym calm.1) (subst P (sym calm.0) (sends_at device (w.devices device) refl own can))
  rides capable none newest (DevRepeat device gateway) own calm can asks times present =
      let P : AtGateway → Type 0 = λ g. So (changed device (λ d. repeats d w.tunnel.now) w.devices) (heard g (repeat_at w device)) in
      subst P (sym calm.0) (repeats_at device (changed device (λ d. repeats d w.tunnel.now) w.devices) (repeat_at w device) calm.1)
  rides capable none newest (DevClose device) own calm can asks times present = closes_at device (changed device shut w.devices) calm
  rides capable none newest GwAgain own calm can asks times present = absurd calm
  rides capable none newest GwRepeat own calm can asks times present = repeat_rides jobs then turns start served on_line (me w) n log places upto upto_next early w.devices w.tunnel
  rides capable none newest GwClose own calm can asks times present = close_rides jobs then turns start served on_line (me w) n log places upto upto_next early w.devices w.tunnel
  rides capable none newest (Cut device) own calm can asks times present = absurd calm
  rides capable none newest (On device) own calm can asks times present = absurd calm
  rides capable none newest (Pass ms) own calm can asks times present =
      pass_rides jobs then start on_line (me w) n log places upto_next early w.devices present w.tunnel newest ms times.nothing times.back (λ a d is. calm.settled.nothing_to_send.devices a d is) times.busy
