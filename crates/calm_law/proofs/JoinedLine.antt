-- Each event of a calm line keeps tunnel and sessions together: all events of the line.
use Rattle.std.proofs.Common.{◌≡◌, ◌≢◌, ℕ, List, [], ◌∷◌, Bool, true, false, cond, Option, Some, None, refl, sym, ◌∙◌, ap, inl, inr}
use Rattle.std.specs.Prelude.{◌==◌}
use Rattle.knx_model.specs.declared.address.IndAddr.{IndAddr}
use Rattle.knx_model.specs.declared.connection.DeviceExpired.TheVariants as expired
use Rattle.knx_model.specs.declared.device.Sending.{Sending}
use Rattle.knx_model.specs.declared.device.Sending.TheVariants as sending
use Rattle.knx_model.specs.declared.frames.cemi.Ldata.{Ldata}
use Rattle.knx_model.specs.ApduReading.{option_map}
use Rattle.knx_model.specs.DeviceConnection.{device_expired}
use Rattle.knx_model.specs.DeviceState.{DeviceState}
use Rattle.knx_model.specs.DeviceFrames.{Whole as Intact, takes}
use Rattle.knx_model.specs.DeviceSending.{next_sending, sending_of}
use Rattle.line_model.specs.declared.log.LogEntry.{LogEntry}
use Rattle.line_model.specs.Log.{Job}
use Rattle.line_model.specs.Record.{Placed}
use Rattle.line_model.specs.Legal.{OfDevice}
use Rattle.line_model.specs.World.{changed, others_take, all_take, is_among}
use Rattle.calm_law.proofs.SessionRests.{nothing_due}
use Rattle.calm_law.proofs.Rows.{Devices}
use Rattle.calm_law.proofs.Sessions.{Whole, Lands}

-- ---- a device has nothing to repeat and none to close

waits_alone : (l : List Ldata) → (which : Sending) → which ≢ sending.Waiting → sending_of l expired.Nothing ≢ Some which
waits_alone [] which apart e = cc
waits_alone (f ∷ l) which apart e = (let s : sending.Waiting ≡ which = cc in apart (sym s))

module _ (jobs : List Job) (then : ℕ → Devices) (me : IndAddr) (log : List LogEntry) (places : List Placed) (devices : Devices) (now : ℕ) (fly : Option Ldata) (q : List Ldata) (h : Whole jobs then me log places devices now fly q) where
  sends_alone : (a : ℕ) (d : DeviceState) → devices a ≡ Some d → (which : Sending) → which ≢ sending.Waiting → next_sending d now ≢ Some which
  sends_alone a d is which apart e =
      let row = h.riders.rows a d is in
      let due : device_expired d.connection now ≡ expired.Nothing = ap (λ z. device_expired z now) row.line.connection_is ∙ nothing_due me d.address (h.plans a) row.n row.e now row.phase in
      waits_alone d.unsent which apart (ap (λ z. sending_of d.unsent z) (sym due) ∙ e)

  pub none_due : (a : ℕ) (which : Sending) → which ≢ sending.Waiting → OfDevice (λ d. next_sending d now ≡ Some which) (devices a) → ⊥
  none_due a which apart = by_device (devices a) refl where
    by_device : (o : Option DeviceState) → devices a ≡ o → OfDevice (λ d. next_sending d now ≡ Some which) o → ⊥
    by_device None is due = due
    by_device (Some d) is due = sends_alone a d is which apart due

-- ---- the devices stay on the line

there_if : (b : Bool) (x y : Option DeviceState) → x ≢ None → y ≢ None → (cond b x y) ≢ None
there_if true x y hx hy = hx
there_if false x y hx hy = hy

there_of : (b : Bool) (x y : Devices) (a : ℕ) → x a ≢ None → y a ≢ None → (cond b x y) a ≢ None
there_of true x y a hx hy = hx
there_of false x y a hx hy = hy

mapped_there : (f : DeviceState → DeviceState) (o : Option DeviceState) → o ≢ None → option_map f o ≢ None
mapped_there f None h e = h refl
mapped_there f (Some d) h e = cc

pub changed_there : (b : ℕ) (f : DeviceState → DeviceState) (devices : Devices) (a : ℕ) → devices a ≢ None → changed b f devices a ≢ None
changed_there b f devices a h = there_if (a == b) (option_map f (devices a)) (devices a) (mapped_there f (devices a) h) h

pub all_there : (now : ℕ) (out : List ℕ) (o : Option Ldata) (devices : Devices) (a : ℕ) → devices a ≢ None → all_take now out o devices a ≢ None
all_there now out None devices a h = h
all_there now out (Some f) devices a h = there_if (is_among out a) (devices a) (option_map (λ d. takes d f now Intact) (devices a)) h (mapped_there (λ d. takes d f now Intact) (devices a) h)

pub others_there : (now : ℕ) (out : List ℕ) (o : Option Ldata) (devices : Devices) (a : ℕ) → devices a ≢ None → others_take now out o devices a ≢ None
others_there now out None devices a h = h
others_there now out (Some f) devices a h = there_of f.group (all_take now out (Some f) devices) devices a (all_there now out (Some f) devices a h) h

pub lands_there : (devices n : Devices) → ((a : ℕ) → devices a ≢ None → n a ≢ None) → (fly : Option Ldata) → Lands devices fly → Lands n fly
lands_there devices n there None h = tt
lands_there devices n there (Some f) h = (h.0, elim h.1 [ inl g ↦ inl g | inr d ↦ inr (there f.destination d) ])
