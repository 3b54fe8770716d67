-- At every moment a load can end done.
use Rattle.std.proofs.Common.{◌≡◌, ℕ, List, [], ◌∷◌, Bool, true, false, cond, refl, inl}
use Rattle.std.proofs.lemmas.Bool.{eq-eqb}
use Rattle.knx_model.specs.declared.address.IndAddr.{IndAddr}
use Rattle.knx_model.specs.declared.config.Image.{Image}
use Rattle.knx_model.specs.declared.connection.DeviceTook.TheVariants as took
use Rattle.knx_model.specs.declared.connection.TransportFrame.TheVariants.{Connect}
use Rattle.knx_model.specs.Connection.{is_with}
use Rattle.knx_model.specs.Device.{Fits, HasCapacities}
use Rattle.knx_model.specs.DeviceConnection.{DeviceEnd, Closed, Idle, Answering, device_took}
use Rattle.knx_model.specs.DeviceState.{DeviceState}
use Rattle.knx_model.specs.GoodPlan.{OldStoppedOrImage}
use Rattle.knx_model.specs.LoadPlan.{load_plan}
use Rattle.session_law.specs.World.{World, fresh}
use Rattle.session_law.specs.Events.{Event, On, step, replay, IsLegal, AtEveryMoment}
use Rattle.session_law.proofs.Books.{Books, empty, books}
use Rattle.session_law.proofs.Seen.{ConnIs}
use Rattle.session_law.proofs.Steps.{WorldInv, step_kept, fresh_inv, always}
use Rattle.download_plan.proofs.Plans.{load_sendable, plan_answers}
use Rattle.load_law.specs.Download.{Follows, CanEndDone, IsLoadOrCheck}
use Rattle.load_law.proofs.Follows.{LoadInv, load_always, fresh_load}
use Rattle.load_law.proofs.Short.{load_fits}
use Rattle.load_law.proofs.Ends.{then_done, from_here}
use Rattle.load_law.proofs.Jobs.{RunsIt, jobs_good}

-- a device takes its partner's T_Connect
connects : (me : IndAddr) (e : DeviceEnd) (ds gs : List (List ℕ)) → ConnIs me e ds gs → device_took e (record { raw = me.raw }) Connect ≡ took.Connected
unfolding device_took
connects me Closed ds gs h = refl
connects me (Idle t) ds gs h = let same : is_with t (record { raw = me.raw }) ≡ true = eq-eqb t.partner.raw me.raw h.0 in rw same refl
connects me (Answering t a) ds [] h = absurd h
connects me (Answering t a) ds (v ∷ gs) h = let same : is_with t (record { raw = me.raw }) ≡ true = eq-eqb t.partner.raw me.raw h.0 in rw same refl

-- and has power, and keeps what it keeps, once it is switched on
power_by : (d e : DeviceState) (b : Bool) → d.power ≡ b → e.power ≡ true → ◌≡◌ {A = Bool} (cond {A = DeviceState} b d e).power true
power_by d e true h k = h
power_by d e false h k = k

kept_by : (d e : DeviceState) (b : Bool) → HasCapacities d.kept → HasCapacities e.kept → HasCapacities (cond {A = DeviceState} b d e).kept
kept_by d e true h k = h
kept_by d e false h k = k

from_moment : (image : Image) (w : World) (b : Books) → Fits image → WorldInv w b → HasCapacities w.device.kept → CanEndDone (IsLoadOrCheck image) (load_plan image) w
from_moment image w b fits h has =
    let n : World = step w On in
    let inv : WorldInv n b = step_kept w b On tt h in
    let power : n.device.power ≡ true = power_by w.device _ w.device.power refl refl in
    let kept : HasCapacities n.device.kept = kept_by w.device _ w.device.power has has in
    let e = from_here (IsLoadOrCheck image) (load_plan image) n (inl refl) (load_sendable image) power (connects n.me n.device.connection b.delivered b.given inv.inv.side.connection) (plan_answers image fits n.device.frames n.device.kept kept)
    (load_fits n.device.frames image n.device.kept) in
    let all = then_done (IsLoadOrCheck image) (load_plan image) w _ (On ∷ []) (tt, tt) (tt, tt) e in
    record { events = _; legal = all.legal; follows = all.follows; done = all.done }

pub can_always : (image : Image) (me : IndAddr) (d : DeviceState) (events : List Event) → Fits image → HasCapacities d.kept → IsLegal (fresh me d) events → Follows (IsLoadOrCheck image) (fresh me d) events
    → AtEveryMoment (λ past. CanEndDone (IsLoadOrCheck image) (load_plan image) (replay (fresh me d) past)) events
can_always image me d [] fits has legal follows = from_moment image (fresh me d) empty fits (fresh_inv me d) has
can_always image me d (e ∷ events) fits has legal follows =
    let l : LoadInv (IsLoadOrCheck image) HasCapacities (OldStoppedOrImage d.kept image) (RunsIt image) d.frames (jobs_good image d.kept fits) (replay (fresh me d) (e ∷ events)) (books (fresh me d) (e ∷ events))
    = load_always (IsLoadOrCheck image) HasCapacities (OldStoppedOrImage d.kept image) (RunsIt image) d.frames (jobs_good image d.kept fits) (fresh me d) (e ∷ events) (fresh_inv me d) (fresh_load (IsLoadOrCheck image) HasCapacities (OldStoppedOrImage d.kept image) (RunsIt image) d.frames (jobs_good image d.kept fits) me d refl (inl refl) has) legal follows in
    (from_moment image (replay (fresh me d) (e ∷ events)) (books (fresh me d) (e ∷ events)) fits (always (fresh me d) (e ∷ events) (fresh_inv me d) legal) l.holds, can_always image me d events fits has legal.1 follows.1)
