-- Each event of a calm line keeps tunnel and sessions together: at the beginning, and after each event.
use Rattle.std.proofs.Common.{◌≡◌, ◌≢◌, ℕ, suc, ◌≤◌, List, [], Option, Some, None, refl, sym, ap, subst, arith, inl}
use Rattle.knx_model.specs.declared.address.IndAddr.{IndAddr}
use Rattle.knx_model.specs.declared.frames.cemi.Ldata.{Ldata}
use Rattle.knx_model.specs.DeviceState.{DeviceState}
use Rattle.knx_model.specs.Plans.{Over}
use Rattle.line_model.specs.ClientView.{channel}
use Rattle.line_model.specs.declared.group.GroupTurn.{GroupTurn}
use Rattle.line_model.specs.declared.log.LogEntry.{LogEntry}
use Rattle.line_model.specs.Calm as line
use Rattle.line_model.specs.Fresh.{IsFresh}
use Rattle.line_model.specs.LinkStory.{newest_time}
use Rattle.line_model.specs.Log.{Job, Untaken, Held, job_of}
use Rattle.line_model.specs.Moments.{moments}
use Rattle.line_model.specs.Tunnel as tunnel
use Rattle.line_model.specs.Tunnel.{Tunnel, TunnelEvent, Commissions, fresh}
use Rattle.line_model.specs.Record.{Item, Placed, entries, noted, placed_if, item_of}
use Rattle.line_model.specs.Legal.{MayHappen}
use Rattle.line_model.specs.Undisturbed.{IsServedJob}
use Rattle.line_model.specs.World.{World, Event, me, step, tunnel_event, devices_after}
use Rattle.line_law.proofs.Coupled.{Owned}
use Rattle.calm_law.proofs.Short.{SendsShort}
use Rattle.calm_law.specs.CalmJobs.{HavePower}
use Rattle.calm_law.proofs.Law.{Inv, May, step_kept, begins}
use Rattle.calm_law.proofs.OnLine.{event_calm}
use Rattle.calm_law.proofs.Moves.{step_same}
use Rattle.calm_law.proofs.Phases.{Rests, items_of}
use Rattle.calm_law.proofs.Rows.{Devices, Row, Willing}
use Rattle.calm_law.proofs.Spending.{nothing_spent}
use Rattle.calm_law.proofs.Held.{HeldJob, AreUpto}
use Rattle.calm_law.proofs.Sessions.{Whole}
use Rattle.calm_law.proofs.Joined.{step_now}
use Rattle.calm_law.proofs.State.{NoStrays}
use Rattle.calm_law.proofs.JoinedSteps.{Asked, TimesSo, Capable, rides}

-- the entries of places, where one more may be added
pub entries_if : (at now : ℕ) (o : Option Item) (places : List Placed) → entries (placed_if at now o places) ≡ noted o now (entries places)
entries_if at now None places = refl
entries_if at now (Some what) places = refl

module _ (jobs : List Job) (then : ℕ → Devices) where
  -- tunnel and sessions of a world, with record and log
  abbrev pub Goes : World → List LogEntry → List Placed → Type 0
  Goes w log places = Inv (Whole jobs then (me w) log places w.devices w.tunnel.now) (entries places) w.tunnel

  -- ---- at the beginning no job is held

  none_held : (a : ℕ) → HeldJob jobs [] a → ⊥
  none_held a h = let e : Untaken ≡ Held h.worker h.since = h.held in cc

  row_first : (start : World) → IsFresh start → HavePower start → (a : ℕ) (d : DeviceState) → start.devices a ≡ Some d → Row (me start) a Over None [] None [] d 0
  row_first start f power a d is =
      let rest = f.devices a d is in
      record {
        k = 0;
        n = 0;
        e = 0;
        phase = Rests;
        flies = refl;
        line = record { attempts_are = refl; stream_is = ap items_of rest.nothing_unsent; connection_is = rest.unconnected; good = tt; numbers = (omega (arith), omega (arith)) };
        books = nothing_spent (Willing Over None) a Over 0 0 (inl (refl, refl));
        wants = λ zero w. tt;
        address = rest.named;
        power = power a d is;
      }

  whole_first : (start : World) → IsFresh start → HavePower start → Whole jobs then (me start) [] [] start.devices 0 None []
  whole_first start f power =
      record {
        plans = λ a. Over;
        olds = λ a. None;
        since = λ a. [];
        riders = record { rows = row_first start f power; told = tt; one = omega (arith) };
        held = λ a h. absurd (none_held a h);
        free = λ a none. tt;
        lands = tt;
        fresh = λ e a. refl;
        waited = λ e a h. refl;
      }

  pub goes_first : (start : World) → IsFresh start → HavePower start → Goes start [] []
  goes_first start f power =
      let P : Tunnel → Type 0 = λ t. Inv (Whole jobs then (me start) [] [] start.devices t.now) [] t in
      subst P (sym f.tunnel) (inl (begins (Whole jobs then (me start) [] [] start.devices 0) (me start) (whole_first start f power)))

-- ---- after an event

module _ (jobs : List Job) (then : ℕ → Devices) (turns : List GroupTurn) (start : World) (served : (k : ℕ) (job : Job) → job_of jobs k ≡ Some job → IsServedJob job) (on_line : (k : ℕ) (job : Job) → job_of jobs k ≡ Some job → start.devices job.device.raw ≢ None) (n : ℕ) (log : List LogEntry) (places : List Placed)
    (upto : AreUpto n (moments places)) (upto_next : AreUpto (suc n) (moments places)) (early : (a : ℕ) (h : HeldJob jobs log a) → h.since ≤ n) (w : World) (e : Event) where
  abbrev te : TunnelEvent
  te = tunnel_event w e

  abbrev o : Option Item
  o = item_of w.tunnel te

  pub goes_on : Goes jobs then w log places → Capable jobs then turns start served on_line n log places upto upto_next early w → NoStrays (channel (entries places)) w.tunnel.gateway.channel → newest_time (entries places) ≡ w.tunnel.now → Owned w → line.IsCalm w e → SendsShort w e → MayHappen Commissions w e → May (entries places) o (step w e).tunnel.now
      → Asked jobs then turns start served on_line n log places upto upto_next early w e → TimesSo jobs then turns start served on_line n log places upto upto_next early w e → ((a : ℕ) → start.devices a ≢ None → w.devices a ≢ None) → Goes jobs then (step w e) log (placed_if (suc n) (step w e).tunnel.now o places)
  goes_on inv capable none newest own calm short can may asks times present =
      let t : Tunnel = w.tunnel in
      let now : ℕ = (tunnel.step t te).now in
      let F : IndAddr → ℕ → Option Ldata → List Ldata → Type 0 = λ m x. Whole jobs then m log (placed_if (suc n) x o places) (devices_after w e) x in
      let there : Inv (F (me w) (tunnel.after t te).now) (noted o now (entries places)) (tunnel.step t te)
      = step_kept (Whole jobs then (me w) log places w.devices t.now) (F (me w) (tunnel.after t te).now) (entries places) t te inv can.tunnel (event_calm w e own calm short) may
      (rides jobs then turns start served on_line n log places upto upto_next early w capable none newest e own calm can.devices asks times present) in
      let here : Inv (F (me w) now) (noted o now (entries places)) (tunnel.step t te) = subst (λ x. Inv (F (me w) x) (noted o now (entries places)) (tunnel.step t te)) (sym (step_now t te)) there in
      subst (λ x. Inv (F (me (step w e)) now) x (tunnel.step t te)) (sym (entries_if (suc n) now o places)) (subst (λ m. Inv (F m now) (noted o now (entries places)) (tunnel.step t te)) (sym (step_same t te)) here)
