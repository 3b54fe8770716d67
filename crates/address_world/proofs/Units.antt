-- What a frame on the bus keeps of the units.
use Rattle.std.proofs.Common.{◌≡◌, ℕ, zero, suc, inl, inr, List, [], ◌∷◌, Bool, true, false, cond, Option, refl, sym, ◌∙◌}
use Rattle.knx_model.specs.declared.address.IndAddr.{IndAddr}
use Rattle.knx_model.specs.declared.frames.cemi.Ldata.{Ldata}
use Rattle.knx_model.specs.declared.frames.tpdu.Apdu.{Apdu}
use Rattle.line_model.specs.World.{is_among}
use Rattle.address_world.specs.AddressWorld.{UnitState, broadcast, gets, gets_broadcast, all_get, changed, sends}
use Rattle.address_world.specs.Keeps.{KeepsUnit, KeepsUnits}
use Rattle.address_world.proofs.Frames.{Asks}

module _ (wanted : IndAddr) where
  pub keeps_all : (units : List UnitState) → KeepsUnits wanted units units
  keeps_all [] = tt
  keeps_all (u ∷ units) = (record { mode = refl; address = inl refl }, keeps_all units)

  gets_keeps : (s u : UnitState) (o : Option Apdu) → Asks wanted o → u.programming ≡ true → KeepsUnit wanted s u → KeepsUnit wanted s (gets u o)
  gets_keeps s u o (inl e) p h = rw e h
  gets_keeps s u o (inr (inl e)) p h = rw e (record { mode = h.mode; address = h.address })
  gets_keeps s u o (inr (inr e)) p h = rw e (record { mode = h.mode; address = inr (sym h.mode ∙ p, refl) })

  if_programming : (s u : UnitState) (o : Option Apdu) → Asks wanted o → (b : Bool) → u.programming ≡ b → KeepsUnit wanted s u → KeepsUnit wanted s (cond b (gets u o) u)
  if_programming s u o is true p h = gets_keeps s u o is p h
  if_programming s u o is false p h = h

  unless_left_out : (s u v : UnitState) (b : Bool) → KeepsUnit wanted s u → KeepsUnit wanted s v → KeepsUnit wanted s (cond b u v)
  unless_left_out s u v true h g = h
  unless_left_out s u v false h g = g

  pub all_keep : (at : ℕ) (left_out : List ℕ) (frame : Ldata) → Asks wanted (broadcast frame) → (start now : List UnitState) → KeepsUnits wanted start now → KeepsUnits wanted start (all_get at left_out frame now)
  all_keep at left_out frame is [] [] h = tt
  all_keep at left_out frame is [] (n ∷ now) h = absurd h
  all_keep at left_out frame is (s ∷ start) [] h = absurd h
  all_keep at left_out frame is (s ∷ start) (n ∷ now) h = (
    unless_left_out s n (gets_broadcast frame n) (is_among left_out at) h.0 (if_programming s n (broadcast frame) is n.programming refl h.0),
    all_keep (suc at) left_out frame is start now h.1,
  )

  pub sends_keeps : (at : ℕ) (start now : List UnitState) → KeepsUnits wanted start now → KeepsUnits wanted start (changed at sends now)
  sends_keeps at [] [] h = tt
  sends_keeps at [] (n ∷ now) h = absurd h
  sends_keeps at (s ∷ start) [] h = absurd h
  sends_keeps zero (s ∷ start) (n ∷ now) h = (record { mode = h.0.mode; address = h.0.address }, h.1)
  sends_keeps (suc at) (s ∷ start) (n ∷ now) h = (h.0, sends_keeps at start now h.1)
