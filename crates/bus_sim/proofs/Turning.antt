-- What a turn is to a poll: something happened, or time passed.
use Rattle.std.proofs.Common.{◌≡◌, ℕ, ◌<◌, true, Bool, List, ◌∷◌, Some, Result, Ok, Err, OnOk, refl, ap, sym, subst, ◌∙◌, arith}
use Rattle.std.specs.Prelude.{nat_lt}
use Rattle.knx_model.specs.declared.frames.cemi.Ldata.{Ldata}
use Rattle.line_model.specs.Deliveries.{delivery, carriage_of}
use Rattle.line_model.specs.Legal.{MayHappen}
use Rattle.line_model.specs.LinkStory.{is_foreign, GoesOn, Same, More}
use Rattle.line_model.specs.World.{Event, Bus, BusTorn, BusWorn, On, Pass, next_frame, now, replay}
use Rattle.bus_sim.specs.declared.clients.Clients.TheVariants.{One}
use Rattle.bus_sim.specs.Begun.{mode_of, start_of}
use Rattle.bus_sim.specs.Choices.{delivered, carried}
use Rattle.bus_sim.specs.Polls.{GoesOnFrom}
use Rattle.bus_sim.specs.RunNow.{RunNow, RunState, IsRight, mode, script, seen, start, world as world_of}
use Rattle.bus_sim.specs.Turns.{Happens, HappensOnce, Once, Passes, Twice}
use Rattle.bus_sim.specs.Went.{Carries, Went, world}
use Rattle.bus_sim.proofs.Grows.{is_still, timeless}
use Rattle.bus_sim.proofs.Delivered.{of_delivery}
use Rattle.bus_sim.proofs.Carriages.{of_carriage}
use Rattle.bus_sim.proofs.Powers.{may_return}

-- ---- what happened

happens_once : (old new : RunState) (e : Event) → Went old e new → MayHappen (mode (seen old)) (world old) e → is_foreign e ≡ true → is_still e ≡ true → HappensOnce old new
happens_once old new e went may foreign still = record {
  event = e;
  went = went;
  may = may;
  foreign = foreign;
  at_once = ap (λ (r : RunNow). now (world_of r)) went ∙ timeless (world old) e still;
}

pub happens : (old new : RunState) (e : Event) → Went old e new → IsRight (seen old) e → is_foreign e ≡ true → is_still e ≡ true → Happens old new
happens old new e went right foreign still = Once (happens_once old new e went right.may foreign still)

-- a torn write, and power returns
torn_happens : (old new : RunState) (frame : Ldata) (fresh : Bool) (octets : List ℕ) → Some frame ≡ next_frame (world old) → Carries frame old (BusTorn fresh octets) new → IsRight (seen old) (BusTorn fresh octets) → Happens old new
torn_happens old new frame fresh octets due carries right =
    let mid : RunState = record { begun = old.begun; events = BusTorn fresh octets ∷ old.events; line = old.line } in
    Twice mid (happens_once old mid (BusTorn fresh octets) refl right.may refl refl) (happens_once mid new (On frame.destination) carries (may_return (mode (seen old)) (world old) frame fresh octets due right.may) refl refl)

pub delivery_happens : (old new : RunState) (age : ℕ) → Went old (delivery (script (seen old)) (start (seen old)) (seen old).events age) new → IsRight (seen old) (delivery (script (seen old)) (start (seen old)) (seen old).events age) → Happens old new
delivery_happens old new age went right = happens old new _ went right
    (of_delivery (λ e. is_foreign e ≡ true) (script (seen old)) (start (seen old)) (seen old).events age refl (λ s. refl))
    (of_delivery (λ e. is_still e ≡ true) (script (seen old)) (start (seen old)) (seen old).events age refl (λ s. refl))

pub carriage_happens : (old new : RunState) (frame : Ldata) → Some frame ≡ next_frame (world old) → Carries frame old (carriage_of (script (seen old)) (start (seen old)) (seen old).events frame) new → IsRight (seen old) (carriage_of (script (seen old)) (start (seen old)) (seen old).events frame)
    → Happens old new
carriage_happens old new frame due = of_carriage (λ e. Carries frame old e new → IsRight (seen old) e → Happens old new) (script (seen old)) (start (seen old)) (seen old).events frame
    (λ left_out went right. happens old new (Bus left_out) went right refl refl) (λ fresh octets carries right. torn_happens old new frame fresh octets due carries right) (λ octets went right. happens old new (BusWorn octets) went right refl refl)

-- ---- a poll goes on

goes_to : (old mid new : RunState) (e : Event) → old.begun.clients ≡ One → GoesOnFrom old mid → Went mid e new → MayHappen (mode (seen mid)) (world mid) e → is_foreign e ≡ true → GoesOnFrom old new
goes_to old mid new e one before went may foreign = record {
  same = ap (λ (r : RunNow). r.begun) went ∙ before.same;
  goes = subst (λ l. GoesOn (start (seen old)) (seen old).events l) (sym (ap (λ (r : RunNow). r.events) went))
      (More e foreign (subst (λ c. MayHappen (mode_of c) (replay (start_of old.begun) mid.events) e) one
      (subst (λ b. MayHappen (mode_of b.clients) (replay (start_of b) mid.events) e) before.same may)) before.goes);
}

goes_once : (old mid new : RunState) → old.begun.clients ≡ One → GoesOnFrom old mid → HappensOnce mid new → GoesOnFrom old new
goes_once old mid new one before h = goes_to old mid new h.event one before h.went h.may h.foreign

pub goes_more : (old mid new : RunState) → old.begun.clients ≡ One → GoesOnFrom old mid → Happens mid new → GoesOnFrom old new
goes_more old mid new one before (Once h) = goes_once old mid new one before h
goes_more old mid new one before (Twice between h k) = goes_once old between new one (goes_once old mid between one before h) k

pub happens_at_once : (old new : RunState) → Happens old new → now (world new) ≡ now (world old)
happens_at_once old new (Once h) = h.at_once
happens_at_once old new (Twice mid h k) = k.at_once ∙ h.at_once

some_time : (ms : ℕ) → 0 < ms → nat_lt 0 ms ≡ true
some_time ms some = grind arith

pub goes_past : (old mid new : RunState) (ms : ℕ) → old.begun.clients ≡ One → GoesOnFrom old mid → 0 < ms → Passes ms mid new → GoesOnFrom old new
goes_past old mid new ms one before some h = goes_to old mid new (Pass ms) one before h.went h.may (some_time ms some)

pub goes_same : (old new : RunState) → seen new ≡ seen old → GoesOnFrom old new
goes_same old new same = record { same = ap (λ (r : RunNow). r.begun) same; goes = subst (λ l. GoesOn (start (seen old)) old.events l) (sym (ap (λ (r : RunNow). r.events) same)) Same }

-- ---- where a call went well

pub ok_happens : {E : Type 0} (result : Result (Unit {0}) E) (old new : RunState) (e : Event) → OnOk result (Went old e new) → IsRight (seen old) e → is_foreign e ≡ true → is_still e ≡ true → OnOk result (Happens old new)
ok_happens (Ok x) old new e went right foreign still = happens old new e went right foreign still
ok_happens (Err x) old new e went right foreign still = tt

pub ok_delivered : {E : Type 0} (result : Result (Unit {0}) E) (old new : RunState) (age : ℕ) → OnOk result (Went old (delivered old age) new) → IsRight (seen old) (delivered old age) → OnOk result (Happens old new)
ok_delivered (Ok x) old new age went right = delivery_happens old new age went right
ok_delivered (Err x) old new age went right = tt

pub ok_carried : {E : Type 0} (result : Result (Unit {0}) E) (old new : RunState) (frame : Ldata) → Some frame ≡ next_frame (world old) → OnOk result (Carries frame old (carried old frame) new) → OnOk result (IsRight (seen old) (carried old frame)) → OnOk result (Happens old new)
ok_carried (Ok x) old new frame due carries right = carriage_happens old new frame due carries right
ok_carried (Err x) old new frame due carries right = tt
