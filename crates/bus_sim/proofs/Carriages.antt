-- How a frame of the client goes over the bus.
use Rattle.std.proofs.Common.{◌≡◌, ℕ, suc, Bool, true, false, List, [], ◌∷◌, Option, Some, None, ap, sym, subst, if◌then◌else◌}
use Rattle.knx_model.specs.declared.device.WriteKind.{WriteKind}
use Rattle.knx_model.specs.declared.device.WriteKind.TheVariants.{Memory, Load}
use Rattle.knx_model.specs.declared.frames.cemi.Ldata.{Ldata}
use Rattle.knx_model.specs.ApduReading.{option_map as mapped}
use Rattle.knx_model.specs.Device.{Effect}
use Rattle.line_model.specs.Counts.{frames_to, writes, write_of}
use Rattle.line_model.specs.Deliveries.{carriage, carriage_of, carried_to, written_at, write_event, torn_if, worn_if, effect_at}
use Rattle.line_model.specs.Follows.{IsInPlace}
use Rattle.line_model.specs.Legal.{MayHappen}
use Rattle.line_model.specs.Lines.{Script, loses_to, cuts, wears}
use Rattle.line_model.specs.World.{World, Event, Bus, BusTorn, BusWorn, next_frame, replay}
use Rattle.bus_sim.specs.RunNow.{RunNow, NothingCalled, IsRight, mode, script, start, world as world_of}
use Rattle.bus_sim.proofs.CalledFor.{free_right}

-- ---- how a frame goes over the bus

pub of_carriage : (P : Event → Type 0) (s : Script) (start : World) (past : List Event) (frame : Ldata) → ((l : List ℕ) → P (Bus l)) → ((fresh : Bool) (o : List ℕ) → P (BusTorn fresh o)) → ((o : List ℕ) → P (BusWorn o)) → P (carriage_of s start past frame)
of_carriage P s start past frame bus torn worn = by_group frame.group
  where
    by_worn : (t : Bool) (kind : WriteKind) (effect : Effect) → P (worn_if t kind effect)
    by_worn true Memory effect = worn _
    by_worn true Load effect = bus []
    by_worn false kind effect = bus []

    by_cut : (o : Option ℕ) (t : Bool) (kind : WriteKind) (effect : Effect) → P (torn_if o t kind effect)
    by_cut (Some k) t kind effect = torn _ _
    by_cut None t kind effect = by_worn t kind effect

    by_write : (o : Option WriteKind) (device n : ℕ) (effect : Effect) → P (write_event s device n o effect)
    by_write None device n effect = bus []
    by_write (Some kind) device n effect = by_cut (cuts s device n) (wears s device n) kind effect

    by_loss : (t : Bool) → P (if t then Bus (frame.destination ∷ []) else written_at s start past frame.destination frame)
    by_loss true = bus _
    by_loss false = by_write (write_of ((replay start past).devices frame.destination) (Some frame)) frame.destination (suc (writes frame.destination start past)) (effect_at ((replay start past).devices frame.destination) frame)

    by_group : (t : Bool) → P (if t then Bus [] else carried_to s start past frame.destination frame)
    by_group true = bus []
    by_group false = by_loss (loses_to s frame.destination (suc (frames_to frame.destination start past)))

pub carried_right : (r : RunNow) (frame : Ldata) (e : Event) → NothingCalled r → Some frame ≡ next_frame (world_of r) → e ≡ carriage_of (script r) (start r) r.events frame → MayHappen (mode r) (world_of r) e → IsRight r e
carried_right r frame e free due so may = free_right r e free (subst (λ x. IsInPlace (script r) (mode r) (start r) r.events x) (sym so) place) may
  where
    place : IsInPlace (script r) (mode r) (start r) r.events (carriage_of (script r) (start r) r.events frame)
    place = of_carriage (λ x. carriage (script r) (start r) r.events ≡ Some x → IsInPlace (script r) (mode r) (start r) r.events x) (script r) (start r) r.events frame
        (λ l so. so) (λ fresh o so. so) (λ o so. so) (ap (mapped (carriage_of (script r) (start r) r.events)) (sym due))
