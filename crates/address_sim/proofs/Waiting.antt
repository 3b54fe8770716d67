-- A wait, step by step: what holds where nothing but time can go on, and for how many events there is room.
use Rattle.std.proofs.Common.{◌≡◌, ◌≢◌, ℕ, ◌+◌, ◌-◌, ◌≤◌, Bool, true, false, [], length, List, Some, None, refl, ap, sym, subst, arith}
use Rattle.line_model.specs.Deliveries.{next_up}
use Rattle.line_model.specs.Record.{Quiet}
use Rattle.address_world.specs.AddressWorld.{AddressWorld, Pass}
use Rattle.address_law.specs.Calm.{AllSent}
use Rattle.address_sim.specs.Told.{RunNow, world as world_of}
use Rattle.address_sim.specs.Turns.{RunState, seen, world, now, Stays, Happens, Gets, GoesUnseen, HasRoom, SameRecord, EndedSo, IsCalm, NothingComes, NothingDue}
use Rattle.address_sim.proofs.Polling.{AddsOne, WaitsSo, ends_got, ends_quiet, from_same, gets_one, no_waits, passes_one, same_stays, unseen_same, waits_more, waits_same}

-- ---- room

pub less_room : (n m : ℕ) (r : RunState) → m ≤ n → HasRoom n r → HasRoom m r
less_room n m r le room = record { room = omega (arith, room.room, le); few = omega (arith, room.few, le) }

pub stays_room : (n : ℕ) (old new : RunState) → Stays old new → new.room ≡ old.room → HasRoom n old → HasRoom n new
stays_room n old new stays same room =
    let as_many : length new.events ≡ length old.events = ap (λ (r : RunNow). length r.events) stays in
    record { room = omega (arith, room.room, same); few = omega (arith, room.few, as_many) }

-- ---- the same world

pub same_world : (old new : RunState) → Stays old new → world new ≡ world old
same_world old new stays = ap world_of stays

pub carried : (P : AddressWorld → Type 0) (old new : RunState) → Stays old new → P (world old) → P (world new)
carried P old new stays p = subst P (sym (same_world old new stays)) p

-- ---- where all that can happen at once has happened

pub got_at_once : (octets : List ℕ) (old mid new : RunState) → SameRecord (seen old) (seen mid) → Gets octets mid new → (wait : ℕ) → EndedSo (Some octets) wait (seen old) (seen new)
got_at_once octets old mid new same gets wait =
    from_same (Some octets) wait (seen old) (seen mid) (seen new) same (ends_got octets (seen mid) (seen mid) (seen new) wait wait (no_waits (seen mid) wait) (gets_one octets mid new gets) gets.short)

-- each of these was asked in turn, and nothing happened in between
pub calm_after : (a b c d e : RunState) → Stays a b → NothingComes (world a) → Stays b c → AllSent (world b).units → Stays c d → next_up (world c).tunnel ≡ None → Stays d e → (world d).tunnel.gateway.bus ≡ [] → NothingDue (world e) → IsCalm (world e)
calm_after a b c d e ab comes bc sent cd up de bus due = record {
  quiet = record {
    up = carried (λ w. next_up w.tunnel ≡ None) d e de (carried (λ w. next_up w.tunnel ≡ None) c d cd up);
    bus = carried (λ w. w.tunnel.gateway.bus ≡ []) d e de bus;
    units = carried (λ w. AllSent w.units) d e de (carried (λ w. AllSent w.units) c d cd (carried (λ w. AllSent w.units) b c bc sent));
  };
  comes = carried NothingComes d e de (carried NothingComes c d cd (carried NothingComes b c bc (carried NothingComes a b ab comes)));
  due = due;
}

-- ---- a wait

pub expired_same : (b : Bool) (old new : RunState) → (b ≡ true → GoesUnseen old new) → (b ≡ false → Stays old new) → SameRecord (seen old) (seen new)
expired_same true old new did none = unseen_same old new (did refl)
expired_same false old new did none = same_stays (seen old) (seen new) (none refl)

-- the whole of what is left passed
pub wait_over : (old mid new : RunState) (left ms wait : ℕ) → WaitsSo (seen old) (seen mid) left wait → ms ≤ left → left - ms ≡ 0 → Happens mid (Pass ms) new → EndedSo None wait (seen old) (seen new)
wait_over old mid new left ms wait before few none happens =
    let all : ms ≡ left = omega (arith, few, none) in
    ends_quiet (seen old) (seen mid) (seen new) left wait before (subst (λ (n : ℕ). AddsOne Quiet (now mid + n) (seen mid) (seen new)) all (passes_one ms mid new happens))

-- a part of it passed, and the gateway did what it had due
pub part_over : (old mid passed new : RunState) (left ms wait : ℕ) (b : Bool) → WaitsSo (seen old) (seen mid) left wait → 1 ≤ ms → ms ≤ left → Happens mid (Pass ms) passed → (b ≡ true → GoesUnseen passed new) → (b ≡ false → Stays passed new)
    → WaitsSo (seen old) (seen new) (left - ms) wait
part_over old mid passed new left ms wait b before some few happens did none =
    waits_same (seen old) (seen passed) (seen new) (left - ms) wait (waits_more (seen old) (seen mid) (seen passed) left ms wait before (passes_one ms mid passed happens) some few) (expired_same b passed new did none)

pub some_left : (left ms : ℕ) → (1 ≤ left → 1 ≤ ms) → left - ms ≢ 0 → 1 ≤ ms
some_left left ms some more = some (omega (arith, more))
