-- What the script calls for can happen, whatever happened before.
use Rattle.std.proofs.Common.{◌≡◌, inl, inr, ℕ, Bool, true, false, ◌&&◌, List, [], ◌∷◌, ◌++◌, drop, Some, refl, sym, subst, if◌then◌else◌}
use Rattle.std.specs.Prelude.{slice_get, nat_lt}
use Rattle.std.specs.List.{AllByRecursion}
use Rattle.line_model.specs.Counts.{age_of, number_at, requests_acted}
use Rattle.line_model.specs.Follows.{Follows, IsNext}
use Rattle.line_model.specs.Legal.{MayHappen, IsLegal}
use Rattle.line_model.specs.Lines.{Script, drops, repeats_up}
use Rattle.line_model.specs.Network.{OfSent}
use Rattle.line_model.specs.Owed.{Owed, DeliverAgain, ReachAgain, BringAgain, PowerReturns, ConnectionCloses, ChannelCloses, owed, owed_if, caused, left_after, is_clients, is_possible, met, waits}
use Rattle.line_model.specs.Tunnel.{Mode, IsConnectRequest}
use Rattle.line_model.specs.World.{World, Event, Send, From, Renew, Up, UpRefused, Down, BusAgain, DevClose, GwClose, On, replay, step}
use Rattle.bus_sim.specs.Owing.{first_of}
use Rattle.bus_sim.proofs.Owings.{and_nothing}
use Rattle.bus_sim.proofs.ActsOnce.{IsRepeated, HasChannel, up_repeats, acted_come, acted_sent, acted_renewed, open_come, open_sent, open_renewed, never_connects}
use Rattle.bus_sim.proofs.Modes.{refused_asks}
use Rattle.bus_sim.proofs.Delivered.{of_delivery}
use Rattle.bus_sim.proofs.Owes.{AtTunnel, IsThere, AtDevice, Nothing, Again, Closes, AgainCloses, ClosesAgain, tunnels, Owes, owes_left, joined, first_true, all_stay, is_up, at_devices, up_calls, refused_calls, calls}

module _ (mode : Mode) (script : Script) (start : World) (past : List Event) where
  none_left : (t : Bool) → ◌≡◌ {A = List Owed} (if t then [] else drop 1 []) []
  none_left true = refl
  none_left false = refl

  -- what the client does leaves what is called for
  stays_sent : (octets : List ℕ) (l : List Owed) → Owes (replay start past) l → Owes (step (replay start past) (Send octets)) l
  stays_sent octets l (inl h) = inl (all_stay (replay start past) (Send octets) l h)
  stays_sent octets l (inr Nothing) = inr Nothing
  stays_sent octets l (inr (Again number)) = inr (Again number)
  stays_sent octets l (inr (Closes opened)) = inr (Closes (open_sent (replay start past) octets opened))
  stays_sent octets l (inr (AgainCloses number acted opened)) = inr (AgainCloses number (acted_sent (replay start past) octets number acted) (open_sent (replay start past) octets opened))
  stays_sent octets l (inr (ClosesAgain number opened)) = inr (ClosesAgain number (open_sent (replay start past) octets opened))

  stays_come : (endpoint : ℕ) (octets : List ℕ) (l : List Owed) → Owes (replay start past) l → Owes (step (replay start past) (From endpoint octets)) l
  stays_come endpoint octets l (inl h) = inl (all_stay (replay start past) (From endpoint octets) l h)
  stays_come endpoint octets l (inr Nothing) = inr Nothing
  stays_come endpoint octets l (inr (Again number)) = inr (Again number)
  stays_come endpoint octets l (inr (Closes opened)) = inr (Closes (open_come (replay start past) endpoint octets opened))
  stays_come endpoint octets l (inr (AgainCloses number acted opened)) = inr (AgainCloses number (acted_come (replay start past) endpoint octets number acted) (open_come (replay start past) endpoint octets opened))
  stays_come endpoint octets l (inr (ClosesAgain number opened)) = inr (ClosesAgain number (open_come (replay start past) endpoint octets opened))

  stays_renewed : (l : List Owed) → Owes (replay start past) l → Owes (step (replay start past) Renew) l
  stays_renewed l (inl h) = inl (all_stay (replay start past) Renew l h)
  stays_renewed l (inr Nothing) = inr Nothing
  stays_renewed l (inr (Again number)) = inr (Again number)
  stays_renewed l (inr (Closes opened)) = inr (Closes (open_renewed (replay start past) opened))
  stays_renewed l (inr (AgainCloses number acted opened)) = inr (AgainCloses number (acted_renewed (replay start past) number acted) (open_renewed (replay start past) opened))
  stays_renewed l (inr (ClosesAgain number opened)) = inr (ClosesAgain number (open_renewed (replay start past) opened))

  client_calls : (e : Event) (l : List Owed) → MayHappen mode (replay start past) e → is_clients e ≡ true → Owes (replay start past) l → Owes (step (replay start past) e) (left_after e l ++ caused script start past e)
  client_calls (Send octets) l may client h = subst (Owes (step (replay start past) (Send octets))) (sym (and_nothing l)) (stays_sent octets l h)
  client_calls (From endpoint octets) l may client h = subst (Owes (step (replay start past) (From endpoint octets))) (sym (and_nothing l)) (stays_come endpoint octets l h)
  client_calls Renew l may client h = subst (Owes (step (replay start past) Renew)) (sym (and_nothing l)) (stays_renewed l h)
  client_calls e l may client h = cc

  second_true : (s t : Bool) → (s && t) ≡ true → t ≡ true
  second_true true t e = e
  second_true false t e = cc

  -- ---- what is called for is met

  device_met : (e : Event) (rest : List Owed) → MayHappen mode (replay start past) e → is_up e ≡ false → AllByRecursion (AtDevice (replay start past)) rest → Owes (step (replay start past) e) (rest ++ caused script start past e)
  device_met e rest may up h = inl (joined _ rest _ (all_stay (replay start past) e rest h) (at_devices mode script start past e may up))

  -- a request that comes again doesn't close the channel, and is acted on no more
  again_met : (number age : ℕ) (rest : List Owed) → MayHappen mode (replay start past) (Up age) → age ≡ age_of (replay start past).tunnel.network.up number → Owes (replay start past) (DeliverAgain number ∷ rest)
      → Owes (step (replay start past) (Up age)) (rest ++ caused script start past (Up age))
  again_met number age rest may aged (inl h) = absurd h.0
  again_met number age rest may aged (inr (Again n)) = inr (up_calls mode script start past age may)
  again_met number age rest may aged (inr (AgainCloses n acted opened)) =
      inr (by_test (repeats_up script (number_at (replay start past).tunnel.network.up age)) (nat_lt (requests_acted start past) (requests_acted start (Up age ∷ past)) && drops script (requests_acted start (Up age ∷ past)))
      (λ so. repeats.0 (first_true _ _ so)))
    where
      repeats : (nat_lt (requests_acted start past) (requests_acted start (Up age ∷ past)) ≡ true → ⊥) × HasChannel (step (replay start past) (Up age))
      repeats = up_repeats (replay start past) age (subst (λ k. IsRepeated (replay start past).tunnel (slice_get (replay start past).tunnel.network.up k)) (sym aged) acted.octets)

      by_test : (s t : Bool) → (t ≡ true → ⊥) → AtTunnel (step (replay start past) (Up age)) (ChannelCloses ∷ (owed_if s (DeliverAgain (number_at (replay start past).tunnel.network.up age)) ++ owed_if t ChannelCloses))
      by_test s true h = absurd (h refl)
      by_test true false h = ClosesAgain _ repeats.1
      by_test false false h = Closes repeats.1

  refused_met : (number age status : ℕ) (rest : List Owed) → MayHappen mode (replay start past) (UpRefused age status) → age ≡ age_of (replay start past).tunnel.network.up number → Owes (replay start past) (DeliverAgain number ∷ rest)
      → Owes (step (replay start past) (UpRefused age status)) (rest ++ caused script start past (UpRefused age status))
  refused_met number age status rest may aged (inl h) = absurd h.0
  refused_met number age status rest may aged (inr (Again n)) = inr (refused_calls mode script start past age status)
  refused_met number age status rest may aged (inr (AgainCloses n acted opened)) =
      absurd (never_connects (replay start past) (slice_get (replay start past).tunnel.network.up (age_of (replay start past).tunnel.network.up number)) acted.octets
      (subst (λ k. OfSent IsConnectRequest (slice_get (replay start past).tunnel.network.up k)) aged (refused_asks mode (replay start past).tunnel age status may.tunnel)))

  closing_met : (rest : List Owed) → Owes (replay start past) (ChannelCloses ∷ rest) → Owes (step (replay start past) GwClose) (rest ++ [])
  closing_met rest (inl h) = absurd h.0
  closing_met rest (inr (Closes opened)) = inr Nothing
  closing_met rest (inr (ClosesAgain number opened)) = inr (Again number)

  met_calls : (what : Owed) (rest : List Owed) → MayHappen mode (replay start past) (met script start past what) → Owes (replay start past) (what ∷ rest)
      → Owes (step (replay start past) (met script start past what)) (left_after (met script start past what) (what ∷ rest) ++ caused script start past (met script start past what))
  met_calls (DeliverAgain number) rest may h =
      of_delivery (λ e. MayHappen mode (replay start past) e → Owes (step (replay start past) e) (left_after e (DeliverAgain number ∷ rest) ++ caused script start past e)) script start past _
      (λ can. again_met number _ rest can refl h) (λ status can. refused_met number _ status rest can refl h) may
  met_calls (ReachAgain number) rest may (inl h) = device_met (Down _) rest may refl h.1
  met_calls (ReachAgain number) rest may (inr h) = absurd (tunnels (replay start past) _ h)
  met_calls (BringAgain device) rest may (inl h) = device_met (BusAgain device) rest may refl h.1
  met_calls (BringAgain device) rest may (inr h) = absurd (tunnels (replay start past) _ h)
  met_calls (PowerReturns device) rest may (inl h) = device_met (On device) rest may refl h.1
  met_calls (PowerReturns device) rest may (inr h) = absurd (tunnels (replay start past) _ h)
  met_calls (ConnectionCloses device) rest may (inl h) = device_met (DevClose device) rest may refl h.1
  met_calls (ConnectionCloses device) rest may (inr h) = absurd (tunnels (replay start past) _ h)
  met_calls ChannelCloses rest may h = closing_met rest h

  event_calls : (e : Event) (l : List Owed) → MayHappen mode (replay start past) e → IsNext script mode start past l e → Owes (replay start past) l → Owes (step (replay start past) e) (left_after e l ++ caused script start past e)
  event_calls e [] may next h = subst (λ k. Owes (step (replay start past) e) (k ++ caused script start past e)) (sym (none_left (is_clients e))) (calls mode script start past e may)
  event_calls e (what ∷ rest) may (inl client) h = client_calls e (what ∷ rest) may (second_true (waits what) (is_clients e) client) h
  event_calls e (what ∷ rest) may (inr same) h = subst (λ x. Owes (step (replay start past) x) (left_after x (what ∷ rest) ++ caused script start past x)) (sym same)
      (met_calls what rest (subst (MayHappen mode (replay start past)) same may) h)

pub owes : (mode : Mode) (script : Script) (start : World) (events : List Event) → IsLegal mode start events → Follows script mode start events → Owes (replay start events) (owed script mode start events)
owes mode script start [] legal follows = inr Nothing
owes mode script start (e ∷ past) legal follows = owes_left (replay start (e ∷ past)) (is_possible mode (replay start (e ∷ past))) (left_after e (owed script mode start past) ++ caused script start past e)
    (event_calls mode script start past e (owed script mode start past) legal.0 follows.0 (owes mode script start past legal.1 follows.1))

-- ---- what comes first can be met

abbrev pub CanMeet : World → Owed → Type 0
CanMeet w (ConnectionCloses device) = IsThere w device
CanMeet w ChannelCloses = HasChannel w
CanMeet w what = Unit {0}

first_can : (w : World) (what : Owed) (rest : List Owed) → Owes w (what ∷ rest) → CanMeet w what
first_can w (DeliverAgain number) rest h = tt
first_can w (ReachAgain number) rest h = tt
first_can w (BringAgain device) rest h = tt
first_can w (PowerReturns device) rest h = tt
first_can w (ConnectionCloses device) rest (inl h) = h.0
first_can w (ConnectionCloses device) rest (inr h) = absurd (tunnels w _ h)
first_can w ChannelCloses rest (inl h) = absurd h.0
first_can w ChannelCloses rest (inr (Closes opened)) = opened
first_can w ChannelCloses rest (inr (ClosesAgain number opened)) = opened

pub can_meet : (w : World) (l : List Owed) (what : Owed) → first_of l ≡ Some what → Owes w l → CanMeet w what
can_meet w [] what e h = cc
can_meet w (first ∷ rest) what e h = let same : first ≡ what = cc in subst (CanMeet w) same (first_can w first rest h)
