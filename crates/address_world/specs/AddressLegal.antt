-- How the world of individual addresses begins, and which events may happen in it: no channel, nothing sent, no frame that waits and no response that
-- isn't sent; datagrams as the network allows, a frame of the client only where one waits, and a response only where the unit has one.
use Rattle.std.specs.Prelude.{◌≡◌, ◌≢◌, [], List, ◌∷◌, None}
use Rattle.std.specs.List.{AllByRecursion}
use Rattle.line_model.specs.Tunnel as tunnel
use Rattle.line_model.specs.Tunnel.{Commissions, fresh}
use Rattle.address_world.specs.AddressWorld.{AddressWorld, AddressEvent, UnitState, Bus, Respond, me, next_frame, oldest_at, tunnel_event, replay}

pub record IsFresh (w : AddressWorld) : Type 0 where
  pub tunnel : w.tunnel ≡ fresh (me w)
  pub nothing_unsent : AllByRecursion (λ (u : UnitState). u.unsent ≡ []) w.units

abbrev pub UnitsAllow : AddressWorld → AddressEvent → Type 0
UnitsAllow w (Bus left_out) = next_frame w ≢ None
UnitsAllow w (Respond at gateway) = oldest_at at w.units ≢ None
UnitsAllow w _ = Unit {0}

pub record MayHappen (w : AddressWorld) (e : AddressEvent) : Type 0 where
  pub tunnel : tunnel.MayHappen Commissions w.tunnel (tunnel_event w e)
  pub units : UnitsAllow w e

abbrev pub IsLegal : AddressWorld → List AddressEvent → Type 0
IsLegal start [] = Unit {0}
IsLegal start (e ∷ events) = MayHappen (replay start events) e × IsLegal start events

-- P of each beginning of the events
abbrev pub AtEveryMoment : (List AddressEvent → Type 0) → List AddressEvent → Type 0
AtEveryMoment P [] = P []
AtEveryMoment P (e ∷ events) = P (e ∷ events) × AtEveryMoment P events
