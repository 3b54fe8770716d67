-- What a frame leaves of a device whatever it was: the parts that no frame changes, and what is kept.
use Rattle.std.proofs.Common.{ℕ, ◌≡◌, List, [], Bool, true, false, not, ◌&&◌, Option, Some, None, refl, sym, ap, ◌∙◌, if◌then◌else◌}
use Rattle.knx_model.specs.declared.address.IndAddr.{IndAddr}
use Rattle.knx_model.specs.declared.config.Image.{Image}
use Rattle.knx_model.specs.declared.connection.DeviceTook.{DeviceTook}
use Rattle.knx_model.specs.declared.connection.DeviceTook.TheVariants as took
use Rattle.knx_model.specs.declared.device.FrameSupport.{FrameSupport}
use Rattle.knx_model.specs.declared.device.Took.{Took}
use Rattle.knx_model.specs.declared.device.Took.TheVariants.{NotMine, TooLong, Taken, Off}
use Rattle.knx_model.specs.declared.frames.cemi.Ldata.{Ldata}
use Rattle.knx_model.specs.declared.frames.value.Value.{Value}
use Rattle.knx_model.specs.declared.script.GroupService.{GroupService}
use Rattle.knx_model.specs.declared.script.GroupService.TheVariants.{Read, Write, Response}
use Rattle.knx_model.specs.Acts.{answerer}
use Rattle.knx_model.specs.ApduReading.{service_in}
use Rattle.knx_model.specs.DeviceConnection.{Closed, device_after}
use Rattle.knx_model.specs.Device.{NonVolatile, Nothing, runs, effect_in, answer_in}
use Rattle.knx_model.specs.DeviceState.{DeviceState, moved, cut, zero_values, value_of}
use Rattle.knx_model.specs.DeviceFrames.{Outcome, Whole, Torn, Worn, took_of, takes, takes_so, after_outcome, after_frame, taken_alone, taken_group, acted, queued_to, connection_took, sender, is_taken, effect_delivered, effect_of_frame, kept_after, group_service, telegram_acted, telegram_taken, answered_by, with_response}
use Rattle.device_sim.specs.Sending.{and_frame, answered_end, answered_frame}
use Rattle.device_sim.proofs.Answered.{queued_if_is, with_answer_is}

-- ---- frames that aren't taken

unchanged : (d : DeviceState) (frame : Ldata) (now : ℕ) (outcome : Outcome) (t : Took) → ¬ (t ≡ Taken) → takes_so d frame now outcome t ≡ d
unchanged d frame now outcome Taken h = absurd (h refl)
unchanged d frame now outcome NotMine h = refl
unchanged d frame now outcome TooLong h = refl
unchanged d frame now outcome Off h = refl

-- what isn't taken changes nothing
pub not_taken : (d : DeviceState) (frame : Ldata) (now : ℕ) (outcome : Outcome) → ¬ (took_of d frame ≡ Taken) → takes d frame now outcome ≡ d
not_taken d frame now outcome h = unchanged d frame now outcome (took_of d frame) h

-- ---- group telegrams

-- all but values and unsent frames stays
abbrev pub Keeps : DeviceState → DeviceState → Type 0
Keeps d e = ◌≡◌ {A = DeviceState} e (record d { values = e.values; unsent = e.unsent })

responds : (d : DeviceState) (group : ℕ) (value : Option Value) → Keeps d (with_response d group value)
responds d group None = refl
responds d group (Some value) = refl

answers : (d : DeviceState) (group : ℕ) (object : Option ℕ) → Keeps d (answered_by d group object)
answers d group None = refl
answers d group (Some o) = responds d group (value_of d o)

acts : (d : DeviceState) (image : Image) (group : ℕ) (service : GroupService) → Keeps d (telegram_acted d image group service)
acts d image group Read = answers d group (answerer image group Read)
acts d image group (Write value) = refl
acts d image group (Response value) = refl

acts_if : (d : DeviceState) (group : ℕ) (image : Option Image) (service : Option GroupService) → Keeps d (telegram_taken d group image service)
acts_if d group None service = refl
acts_if d group (Some image) None = refl
acts_if d group (Some image) (Some service) = acts d image group service

pub group_keeps : (d : DeviceState) (frame : Ldata) → Keeps d (taken_group d frame)
group_keeps d frame = acts_if d frame.destination (runs d.kept) (group_service (service_in frame.tpdu))

pub after_group : (d : DeviceState) (frame : Ldata) (now : ℕ) (outcome : Outcome) → frame.group ≡ true → after_frame d frame now outcome ≡ record (taken_group d frame) { last = Some frame }
after_group d frame now outcome h = rw h refl

pub after_alone : (d : DeviceState) (frame : Ldata) (now : ℕ) (outcome : Outcome) → frame.group ≡ false → after_frame d frame now outcome ≡ record (taken_alone d frame now outcome) { last = Some frame }
after_alone d frame now outcome h = rw h refl

-- ---- frames for it alone

-- address, frame support and power stay, and this is kept
pub record Fixed (d e : DeviceState) (content : NonVolatile) : Type 0 where
  pub address : ◌≡◌ {A = IndAddr} e.address d.address
  pub frames : ◌≡◌ {A = FrameSupport} e.frames d.frames
  pub power : e.power ≡ d.power
  pub kept : ◌≡◌ {A = NonVolatile} e.kept content

nothing : (kept : NonVolatile) (outcome : Outcome) → kept_after kept Nothing outcome ≡ kept
nothing kept Whole = refl
nothing kept (Torn fresh octets) = refl
nothing kept (Worn octets) = refl

still : (d e : DeviceState) (outcome : Outcome) → e.address ≡ d.address → e.frames ≡ d.frames → e.power ≡ d.power → ◌≡◌ {A = NonVolatile} e.kept d.kept → Fixed d e (kept_after d.kept Nothing outcome)
still d e outcome a f p k = record { address = a; frames = f; power = p; kept = k ∙ sym (nothing d.kept outcome) }

queued_still : (d : DeviceState) (from : IndAddr) (outcome : Outcome) (tpdu : Option (List ℕ)) (e : DeviceState) → ◌≡◌ {A = DeviceState} e (record d { unsent = and_frame d.unsent d.address from tpdu }) → Fixed d e (kept_after d.kept Nothing outcome)
queued_still d from outcome tpdu e h = still d e outcome (ap (λ (x : DeviceState). x.address) h) (ap (λ (x : DeviceState). x.frames) h) (ap (λ (x : DeviceState). x.power) h) (ap (λ (x : DeviceState). x.kept) h)

served_fixed : (d m : DeviceState) (from : IndAddr) (now : ℕ) (answer : Option (List ℕ)) (e : DeviceState) → m.address ≡ d.address → m.frames ≡ d.frames → m.power ≡ d.power
    → ◌≡◌ {A = DeviceState} e (record m { connection = answered_end m.connection answer now; unsent = and_frame m.unsent m.address from (answered_frame m.connection answer) }) → Fixed d e m.kept
served_fixed d m from now answer e a f p h = record {
  address = ap (λ (x : DeviceState). x.address) h ∙ a;
  frames = ap (λ (x : DeviceState). x.frames) h ∙ f;
  power = ap (λ (x : DeviceState). x.power) h ∙ p;
  kept = ap (λ (x : DeviceState). x.kept) h;
}

acted_fixed : (d : DeviceState) (from : IndAddr) (now : ℕ) (outcome : Outcome) (answer : DeviceTook) → Fixed d (acted d from now outcome answer) (kept_after d.kept (effect_delivered answer) outcome)
acted_fixed d from now outcome took.Dropped = still d d outcome refl refl refl refl
acted_fixed d from now outcome took.Connected = still d (acted d from now outcome took.Connected) outcome refl refl refl refl
acted_fixed d from now outcome (took.Apdu apdu ack) =
    let m : DeviceState = moved (queued_to d from ack) (kept_after d.kept (effect_in apdu) outcome) in
    served_fixed d m from now (answer_in d.frames d.kept apdu) (acted d from now outcome (took.Apdu apdu ack)) refl refl refl (with_answer_is m from now (answer_in d.frames d.kept apdu))
acted_fixed d from now outcome (took.Again ack) = queued_still d from outcome (Some ack) (queued_to d from ack) refl
acted_fixed d from now outcome (took.Nak nak) = queued_still d from outcome (Some nak) (queued_to d from nak) refl
acted_fixed d from now outcome took.Acked = still d d outcome refl refl refl refl
acted_fixed d from now outcome (took.Closed answer) = queued_still d from outcome answer (acted d from now outcome (took.Closed answer)) (queued_if_is d from answer)

pub alone_fixed : (d : DeviceState) (frame : Ldata) (now : ℕ) (outcome : Outcome) → Fixed d (taken_alone d frame now outcome) (kept_after d.kept (effect_delivered (connection_took d frame)) outcome)
alone_fixed d frame now outcome =
    let e : DeviceState = record d { connection = device_after d.connection (sender frame) now (connection_took d frame) } in
    let h : Fixed e (acted e (sender frame) now outcome (connection_took d frame)) (kept_after d.kept (effect_delivered (connection_took d frame)) outcome) = acted_fixed e (sender frame) now outcome (connection_took d frame) in
    record { address = h.address; frames = h.frames; power = h.power; kept = h.kept }

-- ---- what is kept

outcome_kept : (d : DeviceState) (outcome : Outcome) → ◌≡◌ {A = NonVolatile} (after_outcome d outcome).kept d.kept
outcome_kept d Whole = refl
outcome_kept d (Torn fresh octets) = refl
outcome_kept d (Worn octets) = refl

either_kept : (d : DeviceState) (frame : Ldata) (now : ℕ) (outcome : Outcome) (g : Bool) → ◌≡◌ {A = NonVolatile} (if g then taken_group d frame else taken_alone d frame now outcome).kept (kept_after d.kept (if not g then effect_delivered (connection_took d frame) else Nothing) outcome)
either_kept d frame now outcome true = ap (λ (x : DeviceState). x.kept) (group_keeps d frame) ∙ sym (nothing d.kept outcome)
either_kept d frame now outcome false = (alone_fixed d frame now outcome).kept

kept_so : (d : DeviceState) (frame : Ldata) (now : ℕ) (outcome : Outcome) (t : Took) → ◌≡◌ {A = NonVolatile} (takes_so d frame now outcome t).kept (kept_after d.kept (if is_taken t && not frame.group then effect_delivered (connection_took d frame) else Nothing) outcome)
kept_so d frame now outcome Taken = outcome_kept (after_frame d frame now outcome) outcome ∙ either_kept d frame now outcome frame.group
kept_so d frame now outcome NotMine = sym (nothing d.kept outcome)
kept_so d frame now outcome TooLong = sym (nothing d.kept outcome)
kept_so d frame now outcome Off = sym (nothing d.kept outcome)

-- what is kept is what the frame's service leaves of it
pub kept_is : (d : DeviceState) (frame : Ldata) (now : ℕ) (outcome : Outcome) → ◌≡◌ {A = NonVolatile} (takes d frame now outcome).kept (kept_after d.kept (effect_of_frame d frame) outcome)
kept_is d frame now outcome = kept_so d frame now outcome (took_of d frame)

pub effect_of_nothing : (kept : NonVolatile) (outcome : Outcome) → ◌≡◌ {A = NonVolatile} (kept_after kept Nothing outcome) kept
effect_of_nothing kept outcome = nothing kept outcome

-- ---- a cut

abbrev cut_of : IndAddr → FrameSupport → NonVolatile → DeviceState
cut_of address frames kept = record { address = address; frames = frames; kept = kept; power = false; connection = Closed; values = zero_values; unsent = []; last = None }

pub cut_is : (d e : DeviceState) (kept : NonVolatile) → Fixed d e kept → cut e ≡ cut (record d { kept = kept })
cut_is d e kept h =
    ap (λ (a : IndAddr). cut_of a e.frames e.kept) h.address ∙ (ap (λ (f : FrameSupport). cut_of d.address f e.kept) h.frames ∙ ap (λ (k : NonVolatile). cut_of d.address d.frames k) h.kept)
