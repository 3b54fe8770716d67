use Rattle.std.proofs.Common.{◌≡◌, ◌<◌, ◌≤◌, ℕ, List, [], Some, length}
use Rattle.knx_model.specs.declared.frames.cemi.Ldata.{Ldata}
use Rattle.address_world.specs.AddressWorld.{AddressEvent, UnitState, broadcast}
use Rattle.address_sim.specs.Losses.{without}
use Rattle.address_sim.specs.Units.{AreCounted, state_at}
use Rattle.address_sim.proofs.Places.{got_at}
use Rattle.address_sim.proofs.units.Units.get_all.Given as goal

-- the units before this place got it, and the others are as they were
abbrev pub invariant-loop-place : goal.invariant-loop-place
invariant-loop-place l = record {
  end : l.place-end ≡ length l.fn.self.units.items;
  len : length l.self.units.items ≡ length l.fn.self.units.items;
  before : (p : ℕ) (frame : Ldata) (u : UnitState) → p < l.place → l.service ≡ broadcast frame → state_at l.fn.self p ≡ Some u → u.unsent ≡ [] → state_at l.self p ≡ Some (got_at (without l.losses l.n) frame p u);
  behind : (p : ℕ) → l.place ≤ p → state_at l.self p ≡ state_at l.fn.self p;
  counted : (events : List AddressEvent) → AreCounted l.fn.self events → AreCounted l.self events;
}
