-- A calm event may happen where it has something to carry.
use Rattle.std.proofs.Common.{◌≡◌, ◌≢◌, ℕ, suc, ◌+◌, List, [], ◌∷◌, Bool, true, false, ◌&&◌, Option, Some, None, refl, sym, ◌∙◌, ap, subst, arith}
use Rattle.std.specs.Prelude.{◌==◌, slice_get}
use Rattle.std.proofs.lemmas.Bool.{and_parts, eqb-true}
use Rattle.knx_model.specs.declared.frames.cemi.Ldata.{Ldata}
use Rattle.knx_model.specs.ApduReading.{option_map}
use Rattle.knx_model.specs.DeviceSending.{first_frame}
use Rattle.knx_model.specs.DeviceState.{DeviceState}
use Rattle.line_model.specs.Calm.{IsCalm, AreCalm}
use Rattle.line_model.specs.Deliveries.{is_under_way, or_here, oldest}
use Rattle.line_model.specs.Legal.{OfDevice, MayHappen, IsLegal}
use Rattle.line_model.specs.Network.{Sent, IsUnderWay, OfSent}
use Rattle.line_model.specs.Tunnel as tunnel
use Rattle.line_model.specs.Tunnel.{TunnelEvent, Commissions, made}
use Rattle.line_model.specs.World.{World, Event, AtGateway, Comes, IsLost, Send, From, Renew, Up, UpRefused, Down, LoseUp, LoseDown, Bus, BusTorn, BusWorn, BusAgain, DevSend, DevRepeat, DevClose, GwAgain, GwRepeat, GwClose, Cut, On, Pass, me, on_bus, next_frame, carried, heard, waiting_at, replay}
use Rattle.line_model.proofs.UnderWay.{under_way}

-- ---- the oldest datagram that passes a test

record Chosen (test : ℕ → Sent → Bool) (sent : List Sent) (start age : ℕ) : Type 0 where
  i : ℕ
  is : age ≡ start + i
  s : Sent
  there : slice_get sent i ≡ Some s
  passes : test age s ≡ true

chosen : (test : ℕ → Sent → Bool) (sent : List Sent) (start age : ℕ) → oldest test start sent ≡ Some age → Chosen test sent start age
chosen test [] start age e = absurd (cc)
chosen test (s ∷ sent) start age e = by_rest (λ q. chosen test sent (suc start) age q) (oldest test (suc start) sent) refl e where
  here : (b : Bool) → (test start s && (s.delivered == 0)) ≡ b → or_here b start None ≡ Some age → Chosen test (s ∷ sent) start age
  here true t g =
      let at : start ≡ age = (let k : Some start ≡ Some age = g in cc) in
      record { i = 0; is = omega (arith, at); s = s; there = refl; passes = ap (λ n. test n s) (sym at) ∙ (and_parts (test start s) (s.delivered == 0) t).0 }
  here false t g = absurd (cc)

  by_rest : (oldest test (suc start) sent ≡ Some age → Chosen test sent (suc start) age) → (o : Option ℕ) → oldest test (suc start) sent ≡ o → or_here (test start s && (s.delivered == 0)) start o ≡ Some age → Chosen test (s ∷ sent) start age
  by_rest f (Some older) q g =
      let same : older ≡ age = (let k : Some older ≡ Some age = g in cc) in
      let n : Chosen test sent (suc start) age = f (q ∙ ap (λ z. Some z) same) in
      record { i = suc n.i; is = (let h : age ≡ suc start + n.i = n.is in omega (arith, h)); s = n.s; there = n.there; passes = n.passes }
  by_rest f None q g = here (test start s && (s.delivered == 0)) refl g

of_sent : (P : Sent → Type 0) (test : ℕ → Sent → Bool) (sent : List Sent) (age : ℕ) → ((s : Sent) → test age s ≡ true → P s) → Chosen test sent 0 age → OfSent P (slice_get sent age)
of_sent P test sent age f c =
    let at : age ≡ c.i = (let h : age ≡ 0 + c.i = c.is in omega (arith, h)) in
    subst (OfSent P) (sym (ap (λ n. slice_get sent n) at ∙ c.there)) (f c.s c.passes)

-- ---- what there is to carry

abbrev pub waits : {X : Type 0} → List X → Bool
waits [] = false
waits (x ∷ l) = true

abbrev pub device_waits : Option DeviceState → Bool
device_waits None = false
device_waits (Some d) = waits d.unsent

abbrev pub carries : World → Event → Bool
carries w (Bus left_out) = waits w.tunnel.gateway.bus
carries w (DevSend device gateway left_out) = device_waits (w.devices device)
carries w (DevRepeat device gateway) = false
carries w (DevClose device) = false
carries w GwRepeat = false
carries w GwClose = false
carries w e = true

waits_some : {X : Type 0} → (l : List X) → waits l ≡ true → l ≢ []
waits_some [] h e = cc
waits_some (x ∷ l) h e = cc

device_some : (o : Option DeviceState) → device_waits o ≡ true → OfDevice (λ d. d.unsent ≢ []) o
device_some None h = cc
device_some (Some d) h = waits_some d.unsent h

goes_over : (address : Rattle.knx_model.specs.declared.address.IndAddr.IndAddr) (bus : List Ldata) → waits bus ≡ true → option_map (on_bus address) (first_frame bus) ≢ None
goes_over address [] h e = cc
goes_over address (f ∷ fs) h e = cc

may_carry : (w : World) (left_out : List ℕ) (o : Option Ldata) → w.tunnel.gateway.bus ≢ [] → tunnel.MayHappen Commissions w.tunnel (carried w left_out o)
may_carry w left_out None h = tt
may_carry w left_out (Some f) h = h

may_hear : (w : World) (g : AtGateway) (o : Option Ldata) → tunnel.MayHappen Commissions w.tunnel (heard g o)
may_hear w Comes None = tt
may_hear w Comes (Some f) = tt
may_hear w IsLost o = tt

-- ---- each event

may : (w : World) (e : Event) → IsCalm w e → carries w e ≡ true → MayHappen Commissions w e
may w (Send octets) c h = record { tunnel = tt; devices = tt }
may w (From endpoint octets) c h = absurd c
may w Renew c h = record { tunnel = tt; devices = tt }
may w (Up age) c h =
    record {
      tunnel = of_sent (IsUnderWay (made w.tunnel) age) (λ n s. is_under_way (made w.tunnel) n s) w.tunnel.network.up age (under_way (made w.tunnel) age) (chosen (λ n s. is_under_way (made w.tunnel) n s) w.tunnel.network.up 0 age c);
      devices = tt;
    }
may w (UpRefused age status) c h = absurd c
may w (Down age) c h =
    let test : ℕ → Sent → Bool = λ n s. is_under_way (made w.tunnel) n s && (s.endpoint == w.tunnel.present) in
    record {
      tunnel = of_sent (λ s. IsUnderWay (made w.tunnel) age s × (s.endpoint ≡ w.tunnel.present)) test w.tunnel.network.down age
          (λ s t. (let p = and_parts (is_under_way (made w.tunnel) age s) (s.endpoint == w.tunnel.present) t in (under_way (made w.tunnel) age s p.0, eqb-true s.endpoint w.tunnel.present p.1))) (chosen test w.tunnel.network.down 0 age c);
      devices = tt;
    }
may w (LoseUp age) c h = absurd c
may w (LoseDown age) c h = absurd c
may w (Bus left_out) c h = record { tunnel = may_carry w left_out (next_frame w) (waits_some w.tunnel.gateway.bus h); devices = goes_over (me w) w.tunnel.gateway.bus h }
may w (BusTorn fresh octets) c h = absurd c
may w (BusWorn octets) c h = absurd c
may w (BusAgain device) c h = absurd c
may w (DevSend device gateway left_out) c h = record { tunnel = may_hear w gateway (waiting_at w device); devices = device_some (w.devices device) h }
may w (DevRepeat device gateway) c h = absurd (cc)
may w (DevClose device) c h = absurd (cc)
may w GwAgain c h = absurd c
may w GwRepeat c h = absurd (cc)
may w GwClose c h = absurd (cc)
may w (Cut device) c h = absurd c
may w (On device) c h = absurd c
may w (Pass ms) c h = record { tunnel = tt; devices = tt }

abbrev pub all_carry : World → List Event → Bool
all_carry start [] = true
all_carry start (e ∷ events) = carries (replay start events) e && all_carry start events

pub calm_legal : (start : World) (events : List Event) → AreCalm start events → all_carry start events ≡ true → IsLegal Commissions start events
calm_legal start [] c h = tt
calm_legal start (e ∷ events) c h = let p = and_parts (carries (replay start events) e) (all_carry start events) h in (may (replay start events) e c.0 p.0, calm_legal start events c.1 p.1)
