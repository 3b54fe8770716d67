-- What the device's end delivers, sends again and waits for.
use Rattle.std.proofs.Common.{◌≡◌, ◌≢◌, ℕ, ◌-◌, ◌<◌, ◌≤◌, List, refl, ap, sym, ◌∙◌, arith}
use Rattle.std.proofs.lemmas.Grind.{common_steps}
use Rattle.knx_model.specs.declared.address.IndAddr.{IndAddr}
use Rattle.knx_model.specs.declared.frames.tpdu.Tpdu.TheVariants as tpdu
use Rattle.knx_model.specs.declared.connection.TransportFrame.{TransportFrame}
use Rattle.knx_model.specs.declared.connection.TransportFrame.TheVariants.{Connect, Disconnect, Ack, Nak, Numbered, Other}
use Rattle.knx_model.specs.declared.connection.DeviceTook.TheVariants as took
use Rattle.knx_model.specs.declared.connection.DeviceExpired.TheVariants as expired
use Rattle.knx_model.specs.Apdu.{Written}
use Rattle.knx_model.specs.Connection.{Session, advanced}
use Rattle.knx_model.specs.DeviceConnection.{DeviceEnd, Closed, Idle, Answering, Outstanding, device_took, device_after, device_expired, device_deadline}
use Rattle.knx_model.specs.ConnectionLaws.{Delivers, Repeats, Reached}

pub delivered : (e : DeviceEnd) (from : IndAddr) (frame : TransportFrame) (apdu ack : List ℕ) → device_took e from frame ≡ took.Apdu apdu ack → Delivers e from frame apdu ack
unfolding device_took
delivered Closed from frame apdu ack h = grind (arith, common_steps)
delivered (Idle s) from (Numbered number octets) apdu ack h = record {
  session = s;
  idle = refl;
  partner = grind (arith, common_steps);
  expected = grind (arith, common_steps);
  acknowledged = grind (arith, common_steps);
}
delivered (Idle s) from Connect apdu ack h = grind (arith, common_steps)
delivered (Idle s) from Disconnect apdu ack h = grind (arith, common_steps)
delivered (Idle s) from (Ack number) apdu ack h = grind (arith, common_steps)
delivered (Idle s) from (Nak number) apdu ack h = grind (arith, common_steps)
delivered (Idle s) from Other apdu ack h = grind (arith, common_steps)
delivered (Answering s a) from Connect apdu ack h = grind (arith, common_steps)
delivered (Answering s a) from Disconnect apdu ack h = grind (arith, common_steps)
delivered (Answering s a) from (Ack number) apdu ack h = grind (arith, common_steps)
delivered (Answering s a) from (Nak number) apdu ack h = grind (arith, common_steps)
delivered (Answering s a) from (Numbered number octets) apdu ack h = grind (arith, common_steps)
delivered (Answering s a) from Other apdu ack h = grind (arith, common_steps)

idle_delivers : (s : Session) (from : IndAddr) (apdu ack : List ℕ) → s.partner.raw ≡ from.raw → ack ≡ Written (tpdu.Ack s.expected) → device_took (Idle s) from (Numbered s.expected apdu) ≡ took.Apdu apdu ack
unfolding device_took
idle_delivers s from apdu ack p a = grind (arith, common_steps)

pub delivers : (e : DeviceEnd) (from : IndAddr) (frame : TransportFrame) (apdu ack : List ℕ) → Delivers e from frame apdu ack → device_took e from frame ≡ took.Apdu apdu ack
delivers e from frame apdu ack h = rw h.idle (rw h.expected (idle_delivers h.session from apdu ack h.partner h.acknowledged))

again_took : (s : Session) (from : IndAddr) (number now : ℕ) (other : List ℕ) → number < 16 → s.partner.raw ≡ from.raw → number ≡ s.expected → device_took (Idle (advanced s now)) from (Numbered number other) ≡ took.Again (Written (tpdu.Ack number))
unfolding device_took
again_took s from number now other n p e = grind (arith, common_steps)

number_is : (s : Session) (number : ℕ) (apdu other : List ℕ) → Numbered number apdu ≡ Numbered s.expected other → number ≡ s.expected
number_is s number apdu other e = cc

went : (e : DeviceEnd) (s : Session) (from : IndAddr) (now : ℕ) (apdu ack : List ℕ) → e ≡ Idle s → device_after e from now (took.Apdu apdu ack) ≡ Idle (advanced s now)
unfolding device_after
went e s from now apdu ack h = rw h refl

pub once : (e : DeviceEnd) (from : IndAddr) (number now : ℕ) (apdu other ack : List ℕ) → number < 16 → device_took e from (Numbered number apdu) ≡ took.Apdu apdu ack → device_took (device_after e from now (took.Apdu apdu ack)) from (Numbered number other) ≡ took.Again ack
once e from number now apdu other ack n h =
    let d = delivered e from (Numbered number apdu) apdu ack h in
    let same : number ≡ d.session.expected = number_is d.session number apdu apdu d.expected in
    rw (went e d.session from now apdu ack d.idle) (again_took d.session from number now other n d.partner same ∙ ap (λ (k : ℕ). took.Again (Written (tpdu.Ack k))) same ∙ ap (λ (x : List ℕ). took.Again x) (sym d.acknowledged))

pub nak_ignored : (e : DeviceEnd) (from : IndAddr) (number : ℕ) → device_took e from (Nak number) ≡ took.Dropped
unfolding device_took
nak_ignored Closed from number = refl
nak_ignored (Idle s) from number = grind (arith, common_steps)
nak_ignored (Answering s a) from number = grind (arith, common_steps)

pub repeats : (e : DeviceEnd) (now : ℕ) (frame : List ℕ) → device_expired e now ≡ expired.Repeat frame → Repeats e now frame
unfolding device_expired
repeats Closed now frame h = grind (arith, common_steps)
repeats (Idle s) now frame h = grind (arith, common_steps)
repeats (Answering s a) now frame h = record {
  session = s;
  answer = a;
  answering = refl;
  same = grind (arith, common_steps);
  fewer = grind (arith, common_steps);
  waited = grind (arith, common_steps);
  recent = grind (arith, common_steps);
}

answering_repeats : (s : Session) (a : Outstanding) (now : ℕ) → a.repeats < 3 → 3000 ≤ now - a.sent → now - s.last < 6000 → device_expired (Answering s a) now ≡ expired.Repeat a.frame
unfolding device_expired
answering_repeats s a now r w o = grind (arith, common_steps)

pub repeated : (e : DeviceEnd) (now : ℕ) (frame : List ℕ) → Repeats e now frame → device_expired e now ≡ expired.Repeat frame
repeated e now frame h = rw h.answering (answering_repeats h.session h.answer now h.fewer h.waited h.recent ∙ ap (λ (x : List ℕ). expired.Repeat x) (sym h.same))

pub due : (e : DeviceEnd) (now : ℕ) → now < 0xFFFFFFFFFFFFFFFF → Reached (device_deadline e) now → device_expired e now ≢ expired.Nothing
unfolding device_expired device_deadline
due Closed now l h = absurd h
due (Idle s) now l h = λ q. grind (arith, common_steps)
due (Answering s a) now l h = λ q. grind (arith, common_steps)

idle_reached : (s : Session) (now : ℕ) → now < 0xFFFFFFFFFFFFFFFF → device_expired (Idle s) now ≢ expired.Nothing → Reached (device_deadline (Idle s)) now
unfolding device_expired device_deadline
idle_reached s now l h = grind (arith, common_steps)

answering_reached : (s : Session) (a : Outstanding) (now : ℕ) → now < 0xFFFFFFFFFFFFFFFF → device_expired (Answering s a) now ≢ expired.Nothing → Reached (device_deadline (Answering s a)) now
unfolding device_expired device_deadline
answering_reached s a now l h = grind (arith, common_steps)

pub reached : (e : DeviceEnd) (now : ℕ) → now < 0xFFFFFFFFFFFFFFFF → device_expired e now ≢ expired.Nothing → Reached (device_deadline e) now
unfolding device_expired device_deadline
reached Closed now l h = absurd (h refl)
reached (Idle s) now l h = idle_reached s now l h
reached (Answering s a) now l h = answering_reached s a now l h
