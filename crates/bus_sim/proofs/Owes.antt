-- What the script calls for after an event can happen: the device that it names is there, and the channel that it closes is open.
use Rattle.std.proofs.Common.{◌≡◌, ◌⊎◌, inl, inr, ℕ, Bool, true, false, ◌&&◌, List, [], ◌∷◌, ◌++◌, is_some, Option, Some, None, refl, subst, ◌∙◌, if◌then◌else◌}
use Rattle.std.specs.Prelude.{nat_lt}
use Rattle.std.specs.List.{AllByRecursion, filter}
use Rattle.knx_model.specs.declared.frames.cemi.Ldata.{Ldata}
use Rattle.knx_model.specs.DeviceFrames.{Outcome}
use Rattle.knx_model.specs.DeviceState.{DeviceState}
use Rattle.line_model.specs.Arrives.{arrives}
use Rattle.line_model.specs.Counts.{number_at, takes_alone, takes_one, frames_taken, requests_acted}
use Rattle.line_model.specs.Legal.{MayHappen, OfDevice, GoesSo}
use Rattle.line_model.specs.Lines.{Script, closes, drops, repeats_up}
use Rattle.line_model.specs.Owed.{Owed, DeliverAgain, ReachAgain, BringAgain, PowerReturns, ConnectionCloses, ChannelCloses, owed_if, owed_of_carried, owed_of_frame, power_returns, frame_again, connection_closes, caused}
use Rattle.line_model.specs.Tunnel.{Mode}
use Rattle.line_model.specs.World.{World, Event, Up, UpRefused, Down, Bus, BusTorn, BusWorn, BusAgain, next_frame, replay, step}
use Rattle.bus_sim.proofs.Presence.{presence}
use Rattle.bus_sim.proofs.Modes.{up_arrives}
use Rattle.bus_sim.proofs.ActsOnce.{WasActedOn, HasChannel, up_acts}

-- ---- what is called for at devices, and what at the tunnel

abbrev pub IsThere : World → ℕ → Type 0
IsThere w device = is_some (w.devices device) ≡ true

abbrev pub AtDevice : World → Owed → Type 0
AtDevice w (DeliverAgain number) = ⊥
AtDevice w (ReachAgain number) = Unit {0}
AtDevice w (BringAgain device) = Unit {0}
AtDevice w (PowerReturns device) = Unit {0}
AtDevice w (ConnectionCloses device) = IsThere w device
AtDevice w ChannelCloses = ⊥

-- a request that comes again before the channel closes was acted on
pub data AtTunnel (w : World) : List Owed → Type 0 where
  Nothing : AtTunnel w []
  Again : (number : ℕ) → AtTunnel w (DeliverAgain number ∷ [])
  Closes : HasChannel w → AtTunnel w (ChannelCloses ∷ [])
  AgainCloses : (number : ℕ) → WasActedOn w number → HasChannel w → AtTunnel w (DeliverAgain number ∷ ChannelCloses ∷ [])
  ClosesAgain : (number : ℕ) → HasChannel w → AtTunnel w (ChannelCloses ∷ DeliverAgain number ∷ [])

abbrev IsTunnels : List Owed → Type 0
IsTunnels [] = Unit {0}
IsTunnels (DeliverAgain number ∷ rest) = Unit {0}
IsTunnels (ChannelCloses ∷ rest) = Unit {0}
IsTunnels (what ∷ rest) = ⊥

pub tunnels : (w : World) (l : List Owed) → AtTunnel w l → IsTunnels l
tunnels w l Nothing = tt
tunnels w l (Again number) = tt
tunnels w l (Closes opened) = tt
tunnels w l (AgainCloses number acted opened) = tt
tunnels w l (ClosesAgain number opened) = tt

abbrev pub Owes : World → List Owed → Type 0
Owes w l = AllByRecursion (AtDevice w) l ⊎ AtTunnel w l

-- ---- what isn't possible any more is dropped

some_left : (P : Owed → Type 0) (test : Owed → Bool) (l : List Owed) → AllByRecursion P l → AllByRecursion P (filter test l)
some_left P test [] h = tt
some_left P test (x ∷ l) h = by_test (test x) (some_left P test l h.1)
  where
    by_test : (t : Bool) → AllByRecursion P (filter test l) → AllByRecursion P (if t then x ∷ filter test l else filter test l)
    by_test true rest = (h.0, rest)
    by_test false rest = rest

tunnel_left : (w : World) (test : Owed → Bool) (l : List Owed) → AtTunnel w l → AtTunnel w (filter test l)
tunnel_left w test l Nothing = Nothing
tunnel_left w test l (Again number) = by_test (test (DeliverAgain number))
  where
    by_test : (t : Bool) → AtTunnel w (if t then DeliverAgain number ∷ [] else [])
    by_test true = Again number
    by_test false = Nothing
tunnel_left w test l (Closes opened) = by_test (test ChannelCloses)
  where
    by_test : (t : Bool) → AtTunnel w (if t then ChannelCloses ∷ [] else [])
    by_test true = Closes opened
    by_test false = Nothing
tunnel_left w test l (AgainCloses number acted opened) = by_tests (test (DeliverAgain number)) (test ChannelCloses)
  where
    by_tests : (s t : Bool) → AtTunnel w (if s then DeliverAgain number ∷ (if t then ChannelCloses ∷ [] else []) else (if t then ChannelCloses ∷ [] else []))
    by_tests true true = AgainCloses number acted opened
    by_tests true false = Again number
    by_tests false true = Closes opened
    by_tests false false = Nothing
tunnel_left w test l (ClosesAgain number opened) = by_tests (test ChannelCloses) (test (DeliverAgain number))
  where
    by_tests : (s t : Bool) → AtTunnel w (if s then ChannelCloses ∷ (if t then DeliverAgain number ∷ [] else []) else (if t then DeliverAgain number ∷ [] else []))
    by_tests true true = ClosesAgain number opened
    by_tests true false = Closes opened
    by_tests false true = Again number
    by_tests false false = Nothing

pub owes_left : (w : World) (test : Owed → Bool) (l : List Owed) → Owes w l → Owes w (filter test l)
owes_left w test l (inl h) = inl (some_left (AtDevice w) test l h)
owes_left w test l (inr h) = inr (tunnel_left w test l h)

-- ---- lists

pub joined : (P : Owed → Type 0) (l k : List Owed) → AllByRecursion P l → AllByRecursion P k → AllByRecursion P (l ++ k)
joined P [] k h j = j
joined P (x ∷ l) k h j = (h.0, joined P l k h.1 j)

if_owed : (P : Owed → Type 0) (t : Bool) (what : Owed) → (t ≡ true → P what) → AllByRecursion P (owed_if t what)
if_owed P true what h = (h refl, tt)
if_owed P false what h = tt

pub first_true : (s t : Bool) → (s && t) ≡ true → s ≡ true
first_true true t e = refl
first_true false t e = cc

-- ---- what events call for at devices

at_stays : (w : World) (e : Event) (what : Owed) → AtDevice w what → AtDevice (step w e) what
at_stays w e (DeliverAgain number) h = absurd h
at_stays w e (ReachAgain number) h = tt
at_stays w e (BringAgain device) h = tt
at_stays w e (PowerReturns device) h = tt
at_stays w e (ConnectionCloses device) h = presence w e device ∙ h
at_stays w e ChannelCloses h = absurd h

pub all_stay : (w : World) (e : Event) (l : List Owed) → AllByRecursion (AtDevice w) l → AllByRecursion (AtDevice (step w e)) l
all_stay w e [] h = tt
all_stay w e (x ∷ l) h = (at_stays w e x h.0, all_stay w e l h.1)

takes_there : (o : Option DeviceState) (f : Option Ldata) → takes_alone o f ≡ true → is_some o ≡ true
takes_there None f e = cc
takes_there (Some d) f e = refl

of_device : (P : DeviceState → Type 0) (o : Option DeviceState) → OfDevice P o → is_some o ≡ true
of_device P None h = absurd h
of_device P (Some d) h = refl

pub goes_there : (w : World) (outcome : Outcome) (o : Option Ldata) (frame : Ldata) → GoesSo w outcome o → o ≡ Some frame → IsThere w frame.destination
goes_there w outcome None frame h e = absurd h
goes_there w outcome (Some f) frame h e = let same : f ≡ frame = cc in subst (λ (x : Ldata). IsThere w x.destination) same (of_device _ (w.devices f.destination) h.device)

abbrev pub is_up : Event → Bool
is_up (Up age) = true
is_up (UpRefused age status) = true
is_up _ = false

module _ (mode : Mode) (script : Script) (start : World) (past : List Event) where
  closes_there : (e : Event) (device : ℕ) → AllByRecursion (AtDevice (step (replay start past) e)) (connection_closes script start past e device)
  closes_there e device = if_owed _ (takes_one device (replay start past) e && closes script device (frames_taken device start (e ∷ past))) (ConnectionCloses device)
      (λ so. presence (replay start past) e device ∙ takes_there ((replay start past).devices device) (arrives (replay start past) device e) (first_true _ _ so))

  frame_there : (e : Event) (frame : Ldata) → AllByRecursion (AtDevice (step (replay start past) e)) (power_returns e frame.destination) → AllByRecursion (AtDevice (step (replay start past) e)) (owed_of_frame script start past e frame)
  frame_there e frame power = by_group frame.group
    where
      by_group : (g : Bool) → AllByRecursion (AtDevice (step (replay start past) e)) (if g then [] else power_returns e frame.destination ++ frame_again script start past e frame.destination ++ connection_closes script start past e frame.destination)
      by_group true = tt
      by_group false = joined _ _ _ (joined _ _ _ power (if_owed _ _ (BringAgain frame.destination) (λ so. tt))) (closes_there e frame.destination)

  carried_there : (e : Event) (o : Option Ldata) → ((frame : Ldata) → o ≡ Some frame → AllByRecursion (AtDevice (step (replay start past) e)) (power_returns e frame.destination))
      → AllByRecursion (AtDevice (step (replay start past) e)) (owed_of_carried script start past e o)
  carried_there e None power = tt
  carried_there e (Some frame) power = frame_there e frame (power frame refl)

  pub at_devices : (e : Event) → MayHappen mode (replay start past) e → is_up e ≡ false → AllByRecursion (AtDevice (step (replay start past) e)) (caused script start past e)
  at_devices (Up age) may up = cc
  at_devices (UpRefused age status) may up = cc
  at_devices (Down age) may up = if_owed _ _ _ (λ so. tt)
  at_devices (Bus left_out) may up = carried_there (Bus left_out) (next_frame (replay start past)) (λ frame is. tt)
  at_devices (BusTorn fresh octets) may up = carried_there (BusTorn fresh octets) (next_frame (replay start past)) (λ frame is. (tt, tt))
  at_devices (BusWorn octets) may up = carried_there (BusWorn octets) (next_frame (replay start past)) (λ frame is. tt)
  at_devices (BusAgain device) may up = closes_there (BusAgain device) device
  at_devices e may up = tt

  -- ---- and at the tunnel

  pub up_calls : (age : ℕ) → MayHappen mode (replay start past) (Up age) → AtTunnel (step (replay start past) (Up age)) (caused script start past (Up age))
  up_calls age may = by_tests (repeats_up script number) (nat_lt (requests_acted start past) (requests_acted start (Up age ∷ past)) && drops script (requests_acted start (Up age ∷ past)))
      (λ so. up_acts (replay start past) age (up_arrives mode (replay start past).tunnel age may.tunnel) (first_true _ _ so))
    where
      number : ℕ
      number = number_at (replay start past).tunnel.network.up age

      by_tests : (s t : Bool) → (t ≡ true → WasActedOn (step (replay start past) (Up age)) (number_at (replay start past).tunnel.network.up age) × HasChannel (step (replay start past) (Up age)))
          → AtTunnel (step (replay start past) (Up age)) (owed_if s (DeliverAgain (number_at (replay start past).tunnel.network.up age)) ++ owed_if t ChannelCloses)
      by_tests true true h = AgainCloses _ (h refl).0 (h refl).1
      by_tests true false h = Again _
      by_tests false true h = Closes (h refl).1
      by_tests false false h = Nothing

  pub refused_calls : (age status : ℕ) → AtTunnel (step (replay start past) (UpRefused age status)) (caused script start past (UpRefused age status))
  refused_calls age status = by_test (repeats_up script (number_at (replay start past).tunnel.network.up age))
    where
      by_test : (t : Bool) → AtTunnel (step (replay start past) (UpRefused age status)) (owed_if t (DeliverAgain (number_at (replay start past).tunnel.network.up age)))
      by_test true = Again _
      by_test false = Nothing

  pub calls : (e : Event) → MayHappen mode (replay start past) e → Owes (step (replay start past) e) (caused script start past e)
  calls (Up age) may = inr (up_calls age may)
  calls (UpRefused age status) may = inr (refused_calls age status)
  calls e may = inl (at_devices e may refl)
