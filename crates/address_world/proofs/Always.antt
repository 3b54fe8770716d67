-- Whatever holds of the units before a frame of the client goes over the bus, and before a unit responds, and also holds afterwards, holds at every moment: so
-- each unit has its address, or is in programming mode and has the wanted one.
use Rattle.std.proofs.Common.{ℕ, List, [], ◌∷◌, ◌++◌, Option, Some, None, sym, subst}
use Rattle.knx_model.specs.declared.address.IndAddr.{IndAddr}
use Rattle.knx_model.specs.declared.frames.cemi.Ldata.{Ldata}
use Rattle.knx_model.specs.ApduReading.{option_map}
use Rattle.knx_model.specs.DeviceSending.{first_frame}
use Rattle.line_model.specs.Record.{Item, Entry, noted, item_of}
use Rattle.line_model.specs.Tunnel as tunnel
use Rattle.line_model.specs.Tunnel.{Tunnel}
use Rattle.line_model.specs.World.{AtGateway, Comes, IsLost, heard, on_bus}
use Rattle.address_world.specs.AddressWorld.{AddressWorld, AddressEvent, Send, Renew, Up, UpRefused, Down, LoseUp, LoseDown, Bus, Respond, GwRepeat, GwClose, Pass, UnitState, me, next_frame, broadcast, carried, carried_to, changed, all_get, oldest_at, sends, tunnel_event, tunnel_events, units_after, step, replay}
use Rattle.address_world.specs.AddressLegal.{IsFresh}
use Rattle.address_world.specs.AddressStory.{record_of}
use Rattle.address_world.specs.Keeps.{IsAsked, PutsOnly, KeepsUnits, AlwaysKeepsUnits}
use Rattle.address_world.proofs.Frames.{Asks, frame_asks}
use Rattle.address_world.proofs.Gateways.{Every, Only, TunnelAsks, SendsOurs, step_asks}
use Rattle.address_world.proofs.Requests.{AllSend, all_send_of}
use Rattle.address_world.proofs.Units.{keeps_all, all_keep, sends_keeps}

-- a frame of the kind P goes over the bus, lost for some; and a unit responds
pub record Keeping (P : Ldata → Type 0) (K : List UnitState → Type 0) : Type 0 where
  pub carries : (address : IndAddr) (left_out : List ℕ) (f : Ldata) (units : List UnitState) → P f → K units → K (all_get 0 left_out (on_bus address f) units)
  pub responds : (at : ℕ) (units : List UnitState) → K units → K (changed at sends units)

module _ (P : Ldata → Type 0) (K : List UnitState → Type 0) (keeping : Keeping P K) where
  pub record Inv (w : AddressWorld) : Type 0 where
    pub tunnel : TunnelAsks P w.tunnel
    pub units : K w.units

  -- ---- what an event sends

  abbrev Sends : AddressEvent → Type 0
  Sends (Send octets) = Only P octets
  Sends e = Unit {0}

  carried_sends : (w : AddressWorld) (o : Option Ldata) → SendsOurs P (carried w o)
  carried_sends w None = tt
  carried_sends w (Some frame) = tt

  heard_sends : (gateway : AtGateway) (o : Option Ldata) → SendsOurs P (heard gateway o)
  heard_sends Comes None = tt
  heard_sends Comes (Some frame) = tt
  heard_sends IsLost o = tt

  event_sends : (w : AddressWorld) (e : AddressEvent) → Sends e → SendsOurs P (tunnel_event w e)
  event_sends w (Send octets) is = is
  event_sends w Renew is = tt
  event_sends w (Up age) is = tt
  event_sends w (UpRefused age status) is = tt
  event_sends w (Down age) is = tt
  event_sends w (LoseUp age) is = tt
  event_sends w (LoseDown age) is = tt
  event_sends w (Bus left_out) is = carried_sends w (next_frame w)
  event_sends w (Respond at gateway) is = heard_sends gateway (oldest_at at w.units)
  event_sends w GwRepeat is = tt
  event_sends w GwClose is = tt
  event_sends w (Pass ms) is = tt

  -- ---- the units

  first_carried : (address : IndAddr) (left_out : List ℕ) (bus : List Ldata) (units : List UnitState) → Every P bus → K units → K (carried_to left_out (option_map (on_bus address) (first_frame bus)) units)
  first_carried address left_out [] units h k = k
  first_carried address left_out (f ∷ bus) units h k = keeping.carries address left_out f units h.0 k

  units_keep : (w : AddressWorld) (e : AddressEvent) → Inv w → K (units_after w e)
  units_keep w (Send octets) h = h.units
  units_keep w Renew h = h.units
  units_keep w (Up age) h = h.units
  units_keep w (UpRefused age status) h = h.units
  units_keep w (Down age) h = h.units
  units_keep w (LoseUp age) h = h.units
  units_keep w (LoseDown age) h = h.units
  units_keep w (Bus left_out) h = first_carried (me w) left_out w.tunnel.gateway.bus w.units h.tunnel.bus h.units
  units_keep w (Respond at gateway) h = keeping.responds at w.units h.units
  units_keep w GwRepeat h = h.units
  units_keep w GwClose h = h.units
  units_keep w (Pass ms) h = h.units

  step_keeps : (w : AddressWorld) (e : AddressEvent) → Sends e → Inv w → Inv (step w e)
  step_keeps w e is h = record { tunnel = step_asks P w.tunnel (tunnel_event w e) (event_sends w e is) h.tunnel; units = units_keep w e h }

  -- ---- the record

  rest_of : (o : Option Item) (now : ℕ) (r : List Entry) → AllSend P (noted o now r) → AllSend P r
  rest_of None now r h = h
  rest_of (Some what) now r h = h.1

  sends_of : (t : Tunnel) (w : AddressWorld) (e : AddressEvent) (now : ℕ) (r : List Entry) → AllSend P (noted (item_of t (tunnel_event w e)) now r) → Sends e
  sends_of t w (Send octets) now r h = h.0
  sends_of t w Renew now r h = tt
  sends_of t w (Up age) now r h = tt
  sends_of t w (UpRefused age status) now r h = tt
  sends_of t w (Down age) now r h = tt
  sends_of t w (LoseUp age) now r h = tt
  sends_of t w (LoseDown age) now r h = tt
  sends_of t w (Bus left_out) now r h = tt
  sends_of t w (Respond at gateway) now r h = tt
  sends_of t w GwRepeat now r h = tt
  sends_of t w GwClose now r h = tt
  sends_of t w (Pass ms) now r h = tt

  -- ---- over all events

  begins : (start : AddressWorld) → IsFresh start → K start.units → Inv start
  begins start f k = record { tunnel = subst (λ (t : Tunnel). TunnelAsks P t) (sym f.tunnel) (record { up = tt; bus = tt }); units = k }

  before : (start : AddressWorld) (e : AddressEvent) (events : List AddressEvent) → AllSend P (record_of start (e ∷ events)) → AllSend P (record_of start events)
  before start e events h =
      rest_of (item_of (tunnel.replay start.tunnel (tunnel_events start events)) (tunnel_event (replay start events) e)) (tunnel.replay start.tunnel (tunnel_events start (e ∷ events))).now (record_of start events) h

  one_more : (start : AddressWorld) (e : AddressEvent) (events : List AddressEvent) → AllSend P (record_of start (e ∷ events)) → Inv (replay start events) → Inv (replay start (e ∷ events))
  one_more start e events h i =
      step_keeps (replay start events) e (sends_of (tunnel.replay start.tunnel (tunnel_events start events)) (replay start events) e (tunnel.replay start.tunnel (tunnel_events start (e ∷ events))).now (record_of start events) h) i

  pub holds : (start : AddressWorld) (events : List AddressEvent) → IsFresh start → AllSend P (record_of start events) → K start.units → Inv (replay start events)
  holds start [] f h k = begins start f k
  holds start (e ∷ events) f h k = one_more start e events h (holds start events f (before start e events h) k)

-- ---- the wanted address

module _ (wanted : IndAddr) where
  asked_asks : (address : IndAddr) (f : Ldata) → IsAsked wanted f → Asks wanted (broadcast (on_bus address f))
  asked_asks address f h = subst (λ z. Asks wanted (broadcast (on_bus address z))) (sym h.1) (frame_asks wanted address h.0)

  pub keeps_units : (start : List UnitState) → Keeping (IsAsked wanted) (KeepsUnits wanted start)
  keeps_units start = record {
    carries = λ address left_out f units is k. all_keep wanted 0 left_out (on_bus address f) (asked_asks address f is) start units k;
    responds = λ at units k. sends_keeps wanted at start units k;
  }

  kept : (start : AddressWorld) (events : List AddressEvent) → IsFresh start → AllSend (IsAsked wanted) (record_of start events) → KeepsUnits wanted start.units (replay start events).units
  kept start events f h = (holds (IsAsked wanted) (KeepsUnits wanted start.units) (keeps_units start.units) start events f h (keeps_all wanted start.units)).units

  always_kept : (start : AddressWorld) (events : List AddressEvent) → IsFresh start → AllSend (IsAsked wanted) (record_of start events) → AlwaysKeepsUnits wanted start events
  always_kept start [] f h = kept start [] f h
  always_kept start (e ∷ events) f h = (kept start (e ∷ events) f h, always_kept start events f (before (IsAsked wanted) (KeepsUnits wanted start.units) (keeps_units start.units) start e events h))

  pub always : (start : AddressWorld) (events : List AddressEvent) → IsFresh start → PutsOnly wanted (record_of start events) → AlwaysKeepsUnits wanted start events
  always start events f h = always_kept start events f (all_send_of wanted (record_of start events) h)

  -- and from each moment on
  since : (start : AddressWorld) (past later : List AddressEvent) → IsFresh start → AllSend (IsAsked wanted) (record_of start (later ++ past)) → Inv (IsAsked wanted) (KeepsUnits wanted (replay start past).units) (keeps_units (replay start past).units) (replay start (later ++ past))
  since start past [] f h =
      record { tunnel = (holds (IsAsked wanted) (KeepsUnits wanted start.units) (keeps_units start.units) start past f h (keeps_all wanted start.units)).tunnel; units = keeps_all wanted (replay start past).units }
  since start past (e ∷ later) f h =
      let K : List UnitState → Type 0 = KeepsUnits wanted (replay start past).units in
      one_more (IsAsked wanted) K (keeps_units (replay start past).units) start e (later ++ past) h
      (since start past later f (before (IsAsked wanted) K (keeps_units (replay start past).units) start e (later ++ past) h))

  pub kept_since : (start : AddressWorld) (past later : List AddressEvent) → IsFresh start → PutsOnly wanted (record_of start (later ++ past)) → KeepsUnits wanted (replay start past).units (replay start (later ++ past)).units
  kept_since start past later f h = (since start past later f (all_send_of wanted (record_of start (later ++ past)) h)).units
