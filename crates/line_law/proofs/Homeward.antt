-- What devices send to one receiver they send to the tunnel: whom they answer is the one whose frames they take, and the client's frames alone are for
-- one device.
use Rattle.std.proofs.Common.{◌≡◌, ℕ, ◌⊎◌, List, [], ◌∷◌, Bool, true, false, cond, Option, Some, None, refl, sym, ◌∙◌, ap, subst, inl, inr, if◌then◌else◌}
use Rattle.std.specs.Prelude.{◌==◌}
use Rattle.knx_model.specs.declared.address.IndAddr.{IndAddr}
use Rattle.knx_model.specs.declared.config.Image.{Image}
use Rattle.knx_model.specs.declared.connection.DeviceTook.{DeviceTook}
use Rattle.knx_model.specs.declared.connection.DeviceTook.TheVariants as took
use Rattle.knx_model.specs.declared.device.Took.{Took}
use Rattle.knx_model.specs.declared.device.Took.TheVariants.{NotMine, TooLong, Taken, Off}
use Rattle.knx_model.specs.declared.frames.cemi.Ldata.{Ldata}
use Rattle.knx_model.specs.declared.frames.value.Value.{Value}
use Rattle.knx_model.specs.declared.script.GroupService.{GroupService}
use Rattle.knx_model.specs.declared.script.GroupService.TheVariants.{Read, Write, Response}
use Rattle.knx_model.specs.Acts.{answerer}
use Rattle.knx_model.specs.ApduReading.{service_in, option_map}
use Rattle.knx_model.specs.Connection.{Session, is_with}
use Rattle.knx_model.specs.DeviceConnection.{DeviceEnd, Closed, Idle, Answering, device_after, device_answered, after_answer, device_repeated, device_left, partner_of}
use Rattle.knx_model.specs.Device.{NonVolatile, runs, effect_in, answer_in}
use Rattle.knx_model.specs.DeviceState.{DeviceState, cut, switched_on, moved, value_of}
use Rattle.knx_model.specs.DeviceFrames.{Outcome, Whole, Torn, Worn, own_frame, queued, queued_to, queued_if, with_answer, acted, sender, connection_took, kept_after, taken_alone, taken_group, telegram_taken, answered_by, with_response, group_service, after_frame, after_outcome, takes_so, takes, took_of, taken_again, taken_last}
use Rattle.knx_model.specs.DeviceSending.{first_frame, waiting_frame, pops, outstanding_frame, repeat_frame, repeats, shut_from, shut}
use Rattle.line_model.specs.Fresh.{IsFresh, IsAtRest}
use Rattle.line_model.specs.World.{World, Event, Bus, BusTorn, BusWorn, BusAgain, DevSend, DevRepeat, DevClose, Cut, On, Devices, me, on_bus, changed, all_take, one_takes, others_take, devices_after, echo_after, frame_by, waiting_at, repeat_at, next_frame, is_among, or_before, none_if, now, step}
use Rattle.tunnel_law.proofs.Inside.{Every}
use Rattle.line_law.proofs.Owned.{every_append, own_dropped, mapped, chosen}

module _ (own : IndAddr) where
  -- a frame to a group, or to the tunnel
  abbrev pub IsHome : Ldata → Type 0
  IsHome f = (f.group ≡ true) ⊎ (f.destination ≡ own.raw)

  -- a frame to a group, or of the tunnel
  abbrev pub IsOfTunnel : Ldata → Type 0
  IsOfTunnel f = (f.group ≡ true) ⊎ (sender f ≡ own)

  abbrev pub HasPartner : DeviceEnd → Type 0
  HasPartner Closed = Unit {0}
  HasPartner (Idle s) = s.partner ≡ own
  HasPartner (Answering s a) = s.partner ≡ own

  abbrev pub HomeIf : Option Ldata → Type 0
  HomeIf None = Unit {0}
  HomeIf (Some f) = IsHome f

  abbrev pub OfTunnelIf : Option Ldata → Type 0
  OfTunnelIf None = Unit {0}
  OfTunnelIf (Some f) = IsOfTunnel f

  pub record AnswersHome (d : DeviceState) : Type 0 where
    pub partner : HasPartner d.connection
    pub frames : Every IsHome d.unsent
    pub last : OfTunnelIf d.last

  -- ---- a frame joins the unsent ones

  more : (d : DeviceState) (f : Ldata) → AnswersHome d → IsHome f → AnswersHome (queued d f)
  more d f h home = record { partner = h.partner; frames = every_append IsHome d.unsent (f ∷ []) h.frames (home, tt); last = h.last }

  more_to : (d : DeviceState) (to : IndAddr) (tpdu : List ℕ) → to ≡ own → AnswersHome d → AnswersHome (queued_to d to tpdu)
  more_to d to tpdu e h = more d (own_frame d.address false to.raw tpdu) h (inr (ap (λ (z : IndAddr). z.raw) e))

  more_if : (d : DeviceState) (to : IndAddr) (o : Option (List ℕ)) → to ≡ own → AnswersHome d → AnswersHome (queued_if d to o)
  more_if d to None e h = h
  more_if d to (Some tpdu) e h = more_to d to tpdu e h

  -- ---- the connection

  answering : (e : DeviceEnd) (octets : List ℕ) (t : ℕ) → HasPartner e → HasPartner (after_answer e octets t)
  unfolding after_answer
  answering Closed octets t h = tt
  answering (Idle s) octets t h = h
  answering (Answering s a) octets t h = h

  left_by : (s : Session) (e : DeviceEnd) (b : Bool) → HasPartner e → HasPartner (if b then Closed else e)
  left_by s e true h = tt
  left_by s e false h = h

  left : (e : DeviceEnd) (from : IndAddr) → HasPartner e → HasPartner (device_left e from)
  left Closed from h = tt
  left (Idle s) from h = left_by s (Idle s) (is_with s from) h
  left (Answering s a) from h = left_by s (Answering s a) (is_with s from) h

  taking : (e : DeviceEnd) (from : IndAddr) (t : ℕ) (k : DeviceTook) → from ≡ own → HasPartner e → HasPartner (device_after e from t k)
  unfolding device_after
  taking e from t took.Dropped is h = h
  taking e from t took.Connected is h = is
  taking Closed from t (took.Apdu apdu ack) is h = h
  taking (Idle s) from t (took.Apdu apdu ack) is h = h
  taking (Answering s a) from t (took.Apdu apdu ack) is h = h
  taking Closed from t (took.Again ack) is h = h
  taking (Idle s) from t (took.Again ack) is h = h
  taking (Answering s a) from t (took.Again ack) is h = h
  taking Closed from t (took.Nak nak) is h = h
  taking (Idle s) from t (took.Nak nak) is h = h
  taking (Answering s a) from t (took.Nak nak) is h = h
  taking Closed from t took.Acked is h = h
  taking (Idle s) from t took.Acked is h = h
  taking (Answering s a) from t took.Acked is h = h
  taking e from t (took.Closed answer) is h = left e from h

  repeating : (e : DeviceEnd) (t : ℕ) → HasPartner e → HasPartner (device_repeated e t)
  repeating Closed t h = tt
  repeating (Idle s) t h = h
  repeating (Answering s a) t h = h

  -- ---- a frame for it alone

  answered : (d : DeviceState) (to : IndAddr) (t : ℕ) (o : Option (List ℕ)) → to ≡ own → AnswersHome d → AnswersHome (with_answer d to t o)
  answered d to t None e h = h
  answered d to t (Some octets) e h =
      more_if (record d { connection = after_answer d.connection octets t }) to (device_answered d.connection octets) e (record { partner = answering d.connection octets t h.partner; frames = h.frames; last = h.last })

  has_moved : (d : DeviceState) (kept : NonVolatile) → AnswersHome d → AnswersHome (moved d kept)
  has_moved d kept h = record { partner = h.partner; frames = h.frames; last = h.last }

  acting : (d : DeviceState) (from : IndAddr) (t : ℕ) (outcome : Outcome) (k : DeviceTook) → from ≡ own → AnswersHome d → AnswersHome (acted d from t outcome k)
  acting d from t outcome took.Dropped e h = h
  acting d from t outcome took.Connected e h = record { partner = h.partner; frames = tt; last = h.last }
  acting d from t outcome (took.Apdu apdu ack) e h =
      let q : DeviceState = queued_to d from ack in
      answered (moved q (kept_after q.kept (effect_in apdu) outcome)) from t (answer_in q.frames q.kept apdu) e (has_moved q (kept_after q.kept (effect_in apdu) outcome) (more_to d from ack e h))
  acting d from t outcome (took.Again ack) e h = more_to d from ack e h
  acting d from t outcome (took.Nak nak) e h = more_to d from nak e h
  acting d from t outcome took.Acked e h = h
  acting d from t outcome (took.Closed answer) e h = more_if d from answer e h

  -- ---- a group telegram

  responded : (d : DeviceState) (group : ℕ) (o : Option Value) → AnswersHome d → AnswersHome (with_response d group o)
  responded d group None h = h
  responded d group (Some value) h = more d (own_frame d.address true group _) h (inl refl)

  asked : (d : DeviceState) (group : ℕ) (o : Option ℕ) → AnswersHome d → AnswersHome (answered_by d group o)
  asked d group None h = h
  asked d group (Some n) h = responded d group (value_of d n) h

  told : (d : DeviceState) (group : ℕ) (image : Option Image) (service : Option GroupService) → AnswersHome d → AnswersHome (telegram_taken d group image service)
  told d group None service h = h
  told d group (Some image) None h = h
  told d group (Some image) (Some Read) h = asked d group (answerer image group Read) h
  told d group (Some image) (Some (Write value)) h = record { partner = h.partner; frames = h.frames; last = h.last }
  told d group (Some image) (Some (Response value)) h = record { partner = h.partner; frames = h.frames; last = h.last }

  -- ---- a frame comes over the bus

  sent_alone : (f : Ldata) → f.group ≡ false → IsOfTunnel f → sender f ≡ own
  sent_alone f e (inl g) = absurd (let z : true ≡ false = sym g ∙ e in cc)
  sent_alone f e (inr s) = s

  got : (d : DeviceState) (f : Ldata) (t : ℕ) (outcome : Outcome) (group : Bool) → f.group ≡ group → IsOfTunnel f → AnswersHome d → AnswersHome (record (cond {A = DeviceState} group (taken_group d f) (taken_alone d f t outcome)) { last = Some f })
  got d f t outcome true e of h =
      let g : AnswersHome (taken_group d f) = told d f.destination (runs d.kept) (group_service (service_in f.tpdu)) h in
      record { partner = g.partner; frames = g.frames; last = of }
  got d f t outcome false e of h =
      let from : sender f ≡ own = sent_alone f e of in
      let g : AnswersHome (taken_alone d f t outcome)
      = acting (record d { connection = device_after d.connection (sender f) t (connection_took d f) }) (sender f) t outcome (connection_took d f) from
      (record { partner = taking d.connection (sender f) t (connection_took d f) from h.partner; frames = h.frames; last = h.last }) in
      record { partner = g.partner; frames = g.frames; last = of }

  ended : (d : DeviceState) (outcome : Outcome) → AnswersHome d → AnswersHome (after_outcome d outcome)
  ended d Whole h = h
  ended d (Torn fresh octets) h = record { partner = tt; frames = tt; last = tt }
  ended d (Worn octets) h = h

  got_so : (d : DeviceState) (f : Ldata) (t : ℕ) (outcome : Outcome) (k : Took) → IsOfTunnel f → AnswersHome d → AnswersHome (takes_so d f t outcome k)
  got_so d f t outcome Taken of h = ended (after_frame d f t outcome) outcome (got d f t outcome f.group refl of h)
  got_so d f t outcome NotMine of h = h
  got_so d f t outcome TooLong of h = h
  got_so d f t outcome Off of h = h

  gets : (d : DeviceState) (f : Ldata) (t : ℕ) (outcome : Outcome) → IsOfTunnel f → AnswersHome d → AnswersHome (takes d f t outcome)
  gets d f t outcome of h = got_so d f t outcome (took_of d f) of h

  gets_last : (d : DeviceState) (t : ℕ) (o : Option Ldata) → OfTunnelIf o → AnswersHome d → AnswersHome (taken_last d t o)
  gets_last d t None of h = h
  gets_last d t (Some f) of h = gets d f t Whole of h

  -- ---- what else it does

  pops_home : (d : DeviceState) → AnswersHome d → AnswersHome (pops d)
  pops_home d h = record { partner = h.partner; frames = own_dropped IsHome d.unsent h.frames; last = h.last }

  repeats_home : (d : DeviceState) (t : ℕ) → AnswersHome d → AnswersHome (repeats d t)
  repeats_home d t h = record { partner = repeating d.connection t h.partner; frames = h.frames; last = h.last }

  shut_by : (d : DeviceState) (e : DeviceEnd) → HasPartner e → AnswersHome d → AnswersHome (shut_from d (partner_of e))
  shut_by d Closed p h = h
  shut_by d (Idle s) p h = more_to (record d { connection = Closed }) s.partner _ p (record { partner = tt; frames = h.frames; last = h.last })
  shut_by d (Answering s a) p h = more_to (record d { connection = Closed }) s.partner _ p (record { partner = tt; frames = h.frames; last = h.last })

  cut_home : (d : DeviceState) → AnswersHome d → AnswersHome (cut d)
  cut_home d h = record { partner = tt; frames = tt; last = tt }

  on_by : (d e : DeviceState) (t : Bool) → AnswersHome d → AnswersHome e → AnswersHome (cond {A = DeviceState} t d e)
  on_by d e true h g = h
  on_by d e false h g = g

  on_home : (d : DeviceState) → AnswersHome d → AnswersHome (switched_on d)
  on_home d h = on_by d _ d.power h (record { partner = tt; frames = tt; last = tt })

  -- ---- all devices of the line

  abbrev AllHome : Devices → Type 0
  AllHome devices = (b : ℕ) (d : DeviceState) → devices b ≡ Some d → AnswersHome d

  changed_home : (device : ℕ) (f : DeviceState → DeviceState) (devices : Devices) → ((d : DeviceState) → AnswersHome d → AnswersHome (f d)) → AllHome devices → AllHome (changed device f devices)
  changed_home device f devices k h b d e = chosen AnswersHome (b == device) (option_map f (devices b)) (devices b) (mapped AnswersHome f (devices b) (λ x q. k x (h b x q))) (h b) d e

  all_home : (t : ℕ) (left_out : List ℕ) (o : Option Ldata) (devices : Devices) → OfTunnelIf o → AllHome devices → AllHome (all_take t left_out o devices)
  all_home t left_out None devices of h b d e = h b d e
  all_home t left_out (Some f) devices of h b d e =
      chosen AnswersHome (is_among left_out b) (devices b) (option_map (λ (x : DeviceState). takes x f t Whole) (devices b)) (h b) (mapped AnswersHome (λ x. takes x f t Whole) (devices b) (λ x q. gets x f t Whole of (h b x q))) d e

  one_home : (t : ℕ) (outcome : Outcome) (o : Option Ldata) (devices : Devices) → OfTunnelIf o → AllHome devices → AllHome (one_takes t outcome o devices)
  one_home t outcome None devices of h = h
  one_home t outcome (Some f) devices of h = changed_home f.destination (λ d. takes d f t outcome) devices (λ d q. gets d f t outcome of q) h

  others_home : (t : ℕ) (left_out : List ℕ) (o : Option Ldata) (devices : Devices) → AllHome devices → AllHome (others_take t left_out o devices)
  others_home t left_out None devices h = h
  others_home t left_out (Some f) devices h = by_group f.group refl where
    by_group : (g : Bool) → f.group ≡ g → AllHome (cond {A = Devices} g (all_take t left_out (Some f) devices) devices)
    by_group true e = all_home t left_out (Some f) devices (inl e) h
    by_group false e = h

  -- the client's frame has the tunnel's address as its source
  next_by : (bus : List Ldata) → OfTunnelIf (option_map (on_bus own) (first_frame bus))
  next_by [] = tt
  next_by (f ∷ bus) = inr refl

  next_of : (w : World) → me w ≡ own → OfTunnelIf (next_frame w)
  next_of w is = subst (λ a. OfTunnelIf (option_map (on_bus a) (first_frame w.tunnel.gateway.bus))) (sym is) (next_by w.tunnel.gateway.bus)

  devices_home : (w : World) (e : Event) → me w ≡ own → AllHome w.devices → AllHome (devices_after w e)
  devices_home w (Bus left_out) is h = all_home (now w) left_out (next_frame w) w.devices (next_of w is) h
  devices_home w (BusTorn fresh octets) is h = one_home (now w) (Torn fresh octets) (next_frame w) w.devices (next_of w is) h
  devices_home w (BusWorn octets) is h = one_home (now w) (Worn octets) (next_frame w) w.devices (next_of w is) h
  devices_home w (BusAgain device) is h = changed_home device (λ d. taken_again d (now w)) w.devices (λ d q. gets_last d (now w) d.last q.last q) h
  devices_home w (DevSend device gateway left_out) is h = changed_home device pops _ pops_home (others_home (now w) (device ∷ left_out) (waiting_at w device) w.devices h)
  devices_home w (DevRepeat device gateway) is h = changed_home device (λ d. repeats d (now w)) w.devices (λ d q. repeats_home d (now w) q) h
  devices_home w (DevClose device) is h = changed_home device shut w.devices (λ d q. shut_by d d.connection q.partner q) h
  devices_home w (Cut device) is h = changed_home device cut w.devices cut_home h
  devices_home w (On device) is h = changed_home device switched_on w.devices on_home h
  devices_home w _ is h = h

  -- ---- the frames that they send

  first_home : (l : List Ldata) (f : Ldata) → Every IsHome l → first_frame l ≡ Some f → IsHome f
  first_home [] f h e = absurd (cc)
  first_home (x ∷ l) f h e = let same : x ≡ f = cc in subst IsHome same h.0

  sends_home : (o : Option DeviceState) (f : Ldata) → ((d : DeviceState) → o ≡ Some d → AnswersHome d) → frame_by waiting_frame o ≡ Some f → IsHome f
  sends_home None f h e = absurd (cc)
  sends_home (Some d) f h e = first_home d.unsent f (h d refl).frames e

  outstanding_home : (address : IndAddr) (e : DeviceEnd) (f : Ldata) → HasPartner e → outstanding_frame address e ≡ Some f → IsHome f
  outstanding_home address Closed f p e = absurd (cc)
  outstanding_home address (Idle s) f p e = absurd (cc)
  outstanding_home address (Answering s a) f p e = let same : own_frame address false s.partner.raw a.frame ≡ f = cc in subst IsHome same (inr (ap (λ (z : IndAddr). z.raw) p))

  again_home : (o : Option DeviceState) (f : Ldata) → ((d : DeviceState) → o ≡ Some d → AnswersHome d) → frame_by repeat_frame o ≡ Some f → IsHome f
  again_home None f h e = absurd (cc)
  again_home (Some d) f h e = outstanding_home d.address d.connection f (h d refl).partner e

  pub record Homeward (w : World) : Type 0 where
    pub devices : AllHome w.devices
    pub echo : HomeIf w.echo

  pub waiting_home : (w : World) (b : ℕ) (f : Ldata) → Homeward w → waiting_at w b ≡ Some f → IsHome f
  waiting_home w b f h e = sends_home (w.devices b) f (h.devices b) e

  pub repeat_home : (w : World) (b : ℕ) (f : Ldata) → Homeward w → repeat_at w b ≡ Some f → IsHome f
  repeat_home w b f h e = again_home (w.devices b) f (h.devices b) e

  echo_none : (o p : Option Ldata) → HomeIf p → HomeIf (none_if o p)
  echo_none None p h = h
  echo_none (Some f) p h = tt

  echo_before : (o p : Option Ldata) → ((f : Ldata) → o ≡ Some f → IsHome f) → HomeIf p → HomeIf (or_before o p)
  echo_before None p h g = g
  echo_before (Some f) p h g = h f refl

  echo_home : (w : World) (e : Event) → Homeward w → HomeIf (echo_after w e)
  echo_home w (Bus left_out) h = echo_none (next_frame w) w.echo h.echo
  echo_home w (BusTorn fresh octets) h = echo_none (next_frame w) w.echo h.echo
  echo_home w (BusWorn octets) h = echo_none (next_frame w) w.echo h.echo
  echo_home w (DevSend device gateway left_out) h = echo_before (waiting_at w device) w.echo (λ f e. waiting_home w device f h e) h.echo
  echo_home w (DevRepeat device gateway) h = echo_before (repeat_at w device) w.echo (λ f e. repeat_home w device f h e) h.echo
  echo_home w _ h = h.echo

  pub homeward_step : (w : World) (e : Event) → me w ≡ own → Homeward w → Homeward (step w e)
  homeward_step w e is h = record { devices = devices_home w e is h.devices; echo = echo_home w e h }

  pub homeward_first : (w : World) → IsFresh w → Homeward w
  homeward_first w f =
      record {
        devices = λ b d e. (let rest : IsAtRest b d = f.devices b d e in
            record { partner = subst HasPartner (sym rest.unconnected) tt; frames = subst (Every IsHome) (sym rest.nothing_unsent) tt; last = subst OfTunnelIf (sym rest.nothing_got) tt });
        echo = subst HomeIf (sym f.echo) tt;
      }
