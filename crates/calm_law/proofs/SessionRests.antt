-- One device of a calm line: what changes nothing of its session, that nothing becomes due, and where nothing is on its way.
use Rattle.std.proofs.Common.{◌≡◌, ℕ, List, [], ◌∷◌, Bool, true, false, Option, Some, None, refl, ◌∙◌, ap, inl, inr, append-nil}
use Rattle.std.specs.Prelude.{◌==◌}
use Rattle.knx_model.specs.declared.address.IndAddr.{IndAddr}
use Rattle.knx_model.specs.declared.config.Image.{Image}
use Rattle.knx_model.specs.declared.connection.DeviceExpired.TheVariants as expired
use Rattle.knx_model.specs.declared.connection.TransportFrame.TheVariants.{Ack}
use Rattle.knx_model.specs.declared.device.Took.{Took}
use Rattle.knx_model.specs.declared.device.Took.TheVariants.{NotMine, TooLong, Taken, Off}
use Rattle.knx_model.specs.declared.frames.cemi.Ldata.{Ldata}
use Rattle.knx_model.specs.declared.frames.tpdu.Tpdu.TheVariants as tpdus
use Rattle.knx_model.specs.declared.frames.value.Value.{Value}
use Rattle.knx_model.specs.declared.script.GroupService.{GroupService}
use Rattle.knx_model.specs.declared.script.GroupService.TheVariants.{Read, Write, Response}
use Rattle.knx_model.specs.Acts.{answerer}
use Rattle.knx_model.specs.Apdu.{Written}
use Rattle.knx_model.specs.ApduReading.{service_in}
use Rattle.knx_model.specs.ClientConnection.{Up, client_sent}
use Rattle.knx_model.specs.Connection.{numbered_data, next_number}
use Rattle.knx_model.specs.Device.{runs}
use Rattle.knx_model.specs.DeviceConnection.{Closed, Idle, device_expired}
use Rattle.knx_model.specs.DeviceState.{DeviceState, value_of}
use Rattle.knx_model.specs.DeviceFrames.{Whole, own_frame, took_of, takes, takes_so, taken_group, telegram_taken, telegram_acted, answered_by, with_response, group_service, response_octets}
use Rattle.knx_model.specs.Plans.{Plan, Over, Asks}
use Rattle.line_model.specs.Waiting.{ToAcknowledge, ToAsk, ToDisconnect, NextIsSending}
use Rattle.calm_law.proofs.Falls.{not_passed}
use Rattle.calm_law.proofs.Phases.{Item, Told, Heard, items_of, Phase, Rests, Opens, Ready, Sends, Served, Awaits, Owes, Acks, Leaves, fly_at, stream_at, answer_items, attempts_at, answering_at, connection_at, client_at, device_at}
use Rattle.calm_law.proofs.SessionPuts.{NothingFlies}
use Rattle.calm_law.proofs.SessionBus.{items_append}

-- ---- a group telegram

-- nothing of a session differs
pub record SameSession (d n : DeviceState) : Type 0 where
  pub connection : n.connection ≡ d.connection
  pub kept : n.kept ≡ d.kept
  pub frames : n.frames ≡ d.frames
  pub power : n.power ≡ d.power
  pub address : n.address ≡ d.address
  pub items : items_of n.unsent ≡ items_of d.unsent

itself : (d : DeviceState) → SameSession d d
itself d = record { connection = refl; kept = refl; frames = refl; power = refl; address = refl; items = refl }

response_same : (d : DeviceState) (group : ℕ) (o : Option Value) → SameSession d (with_response d group o)
response_same d group None = itself d
response_same d group (Some value) =
    record { connection = refl; kept = refl; frames = refl; power = refl; address = refl; items = items_append d.unsent (own_frame d.address true group (response_octets value) ∷ []) ∙ append-nil (items_of d.unsent) }

answered_same : (d : DeviceState) (group : ℕ) (o : Option ℕ) → SameSession d (answered_by d group o)
answered_same d group None = itself d
answered_same d group (Some o) = response_same d group (value_of d o)

acted_same : (d : DeviceState) (image : Image) (group : ℕ) (service : GroupService) → SameSession d (telegram_acted d image group service)
acted_same d image group Read = answered_same d group (answerer image group Read)
acted_same d image group (Write value) = record { connection = refl; kept = refl; frames = refl; power = refl; address = refl; items = refl }
acted_same d image group (Response value) = record { connection = refl; kept = refl; frames = refl; power = refl; address = refl; items = refl }

telegram_same : (d : DeviceState) (group : ℕ) (image : Option Image) (service : Option GroupService) → SameSession d (telegram_taken d group image service)
telegram_same d group None service = itself d
telegram_same d group (Some image) None = itself d
telegram_same d group (Some image) (Some service) = acted_same d image group service

group_same : (d : DeviceState) (f : Ldata) (now : ℕ) (t : Took) → f.group ≡ true → SameSession d (takes_so d f now Whole t)
group_same d f now NotMine g = itself d
group_same d f now TooLong g = itself d
group_same d f now Off g = itself d
group_same d f now Taken g =
    let s : SameSession d (taken_group d f) = telegram_same d f.destination (runs d.kept) (group_service (service_in f.tpdu)) in
    rw g (record { connection = s.connection; kept = s.kept; frames = s.frames; power = s.power; address = s.address; items = s.items })

pub group_taken : (d : DeviceState) (f : Ldata) (now : ℕ) → f.group ≡ true → SameSession d (takes d f now Whole)
group_taken d f now g = group_same d f now (took_of d f) g

-- a frame for another device
not_mine : (d : DeviceState) (f : Ldata) (now : ℕ) → (power : Bool) → d.power ≡ power → f.group ≡ false → (f.destination == d.address.raw) ≡ false → takes d f now Whole ≡ d
not_mine d f now true p g h = (let t : took_of d f ≡ NotMine = rw (p, g, h) refl in ap (takes_so d f now Whole) t)
not_mine d f now false p g h = (let t : took_of d f ≡ Off = rw p refl in ap (takes_so d f now Whole) t)

pub other_taken : (d : DeviceState) (f : Ldata) (now : ℕ) → f.group ≡ false → (f.destination == d.address.raw) ≡ false → takes d f now Whole ≡ d
other_taken d f now g h = not_mine d f now d.power refl g h

module _ (me device : IndAddr) (plan : Plan) (n e now : ℕ) where
  -- ---- no wait of the device has passed

  idle_not : (a b : ℕ) → device_expired (Idle (device_at me a b now)) now ≡ expired.Nothing
  unfolding device_expired
  idle_not a b = rw (not_passed 5999 now) refl

  answering_not : (a b : ℕ) (o : Option (List ℕ)) → device_expired (answering_at me device plan a b now o) now ≡ expired.Nothing
  unfolding device_expired
  answering_not a b None = rw (not_passed 5999 now) refl
  answering_not a b (Some v) = rw (not_passed 5999 now) (rw (not_passed 2999 now) refl)

  closed_not : device_expired Closed now ≡ expired.Nothing
  unfolding device_expired
  closed_not = refl

  pub nothing_due : (phase : Phase) → device_expired (connection_at me device plan n e now phase) now ≡ expired.Nothing
  nothing_due Rests = closed_not
  nothing_due (Opens true) = closed_not
  nothing_due (Opens false) = idle_not 0 0
  nothing_due (Ready left closing) = idle_not n e
  nothing_due (Sends place apdu expect next) = idle_not n e
  nothing_due (Served told place apdu expect next o) = answering_not (next_number n) e o
  nothing_due (Awaits place apdu expect next v) = answering_not n e (Some v)
  nothing_due (Owes left closing v m) = answering_not n m (Some v)
  nothing_due (Acks true left closing v m) = answering_not n m (Some v)
  nothing_due (Acks false left closing v m) = idle_not n e
  nothing_due (Leaves true left) = idle_not n e
  nothing_due (Leaves false left) = closed_not

  -- ---- where nothing is on its way, the client has something to send, or no attempt runs

  sent_up : (apdu : List ℕ) → client_sent (Up (client_at device n e now)) apdu ≡ Some (numbered_data n apdu)
  unfolding client_sent
  sent_up apdu = refl

  ready_sends : (k : ℕ) (left : Plan) (closing : Bool) → NextIsSending (attempts_at me device plan k n e now (Ready left closing)) now
  ready_sends k left true = (refl, ToDisconnect (inl (record { acknowledged = refl; owes_nothing = refl; which = inl refl })))
  ready_sends k Over false = (refl, ToDisconnect (inl (record { acknowledged = refl; owes_nothing = refl; which = inr (record { session = client_at device n e now; up = refl; all = refl }) })))
  ready_sends k (Asks place apdu expect next) false =
      (refl, ToAsk apdu (numbered_data n apdu) (record { owes_nothing = refl; which = inl (record { session = client_at device n e now; up = refl; goes_on = refl; place = place; expect = expect; next = next; head = refl; as_sent = sent_up apdu }) }))

  owes_sends : (k : ℕ) (left : Plan) (closing : Bool) (v : List ℕ) (m : ℕ) → NextIsSending (attempts_at me device plan k n e now (Owes left closing v m)) now
  owes_sends k left closing v m = (refl, ToAcknowledge (Written (tpdus.Ack m)) ([], refl))

  pub rests : (k : ℕ) (phase : Phase) → fly_at n phase ≡ None → stream_at n e phase ≡ [] → (NextIsSending (attempts_at me device plan k n e now phase) now → ⊥) → phase ≡ Rests
  rests k Rests f s not_sending = refl
  rests k (Opens true) f s not_sending = absurd (cc)
  rests k (Opens false) f s not_sending = absurd (cc)
  rests k (Ready left closing) f s not_sending = absurd (not_sending (ready_sends k left closing))
  rests k (Sends place apdu expect next) f s not_sending = absurd (cc)
  rests k (Served true place apdu expect next o) f s not_sending = absurd (cc)
  rests k (Served false place apdu expect next o) f s not_sending = absurd (cc)
  rests k (Awaits place apdu expect next v) f s not_sending = absurd (cc)
  rests k (Owes left closing v m) f s not_sending = absurd (not_sending (owes_sends k left closing v m))
  rests k (Acks true left closing v m) f s not_sending = absurd (cc)
  rests k (Acks false left closing v m) f s not_sending = absurd (cc)
  rests k (Leaves true left) f s not_sending = absurd (cc)
  rests k (Leaves false left) f s not_sending = absurd (cc)

  -- and while a frame of the client is not confirmed it is on its way, or its confirmation is
  pub flies_or_told : (k : ℕ) (phase : Phase) → fly_at n phase ≡ None → ((rest : List Item) → stream_at n e phase ≡ Told ∷ rest → ⊥) → NothingFlies (attempts_at me device plan k n e now phase)
  flies_or_told k Rests f s = tt
  flies_or_told k (Opens true) f s = absurd (cc)
  flies_or_told k (Opens false) f s = absurd (s [] refl)
  flies_or_told k (Ready left closing) f s = refl
  flies_or_told k (Sends place apdu expect next) f s = absurd (cc)
  flies_or_told k (Served true place apdu expect next o) f s = absurd (s (Heard (Ack n) ∷ answer_items e o) refl)
  flies_or_told k (Served false place apdu expect next o) f s = refl
  flies_or_told k (Awaits place apdu expect next v) f s = refl
  flies_or_told k (Owes left closing v m) f s = refl
  flies_or_told k (Acks true left closing v m) f s = absurd (cc)
  flies_or_told k (Acks false left closing v m) f s = absurd (s [] refl)
  flies_or_told k (Leaves true left) f s = absurd (cc)
  flies_or_told k (Leaves false left) f s = absurd (s [] refl)
