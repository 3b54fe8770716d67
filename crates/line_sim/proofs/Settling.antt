-- When nothing but time can go on.
use Rattle.std.proofs.Common.{◌≡◌, ℕ, ◌↔◌, Bool, true, false, ◌&&◌, IsTrue, List, [], ◌∷◌, Option, Some, None, refl, ap, sym, ◌∙◌}
use Rattle.std.specs.Prelude.{IfNone, IfSome}
use Rattle.knx_model.specs.declared.device.Sending.{Sending}
use Rattle.knx_model.specs.DeviceState.{DeviceState}
use Rattle.knx_model.specs.declared.frames.cemi.Ldata.{Ldata}
use Rattle.knx_model.specs.ApduReading.{option_map}
use Rattle.knx_model.specs.DeviceSending.{first_frame, next_sending}
use Rattle.line_model.specs.Deliveries.{next_down, next_up}
use Rattle.line_model.specs.Fresh.{HasNothingToSend, Settled}
use Rattle.line_model.specs.Gateway.{GatewayExpired, Nothing, Repeat, Closing, gateway_expired}
use Rattle.line_model.specs.Tunnel.{Mode, Commissions, Serves, made}
use Rattle.line_model.specs.World.{World, next_frame, now, on_bus}
use Rattle.network_sim.specs.declared.place.Reach.TheVariants.{Every, To}
use Rattle.network_sim.specs.Arriving.{AllOver}
use Rattle.network_sim.proofs.Over.{all_over}
use Rattle.tunnel_sim.specs.declared.gateway.Due.{Due}
use Rattle.tunnel_sim.specs.declared.gateway.Due.TheVariants as due
use Rattle.tunnel_sim.specs.Gateways.{due_of}
use Rattle.line_sim.specs.Places.{sending_at}

-- ---- tests

both_true : (a b : Bool) → IsTrue (a && b) → IsTrue a × IsTrue b
both_true true true h = (refl, refl)
both_true true false h = cc
both_true false b h = cc

and_true : (a b : Bool) → IsTrue a → IsTrue b → IsTrue (a && b)
and_true true true p q = refl
and_true true false p q = q
and_true false b p q = p

-- ---- what is to be sent

pub all_silent : (w : World) → ((a : ℕ) → sending_at (w.devices a) (now w) ≡ None) → (a : ℕ) (d : DeviceState) → w.devices a ≡ Some d → next_sending d (now w) ≡ None
all_silent w none a d there = ap (λ (o : Option DeviceState). sending_at o (now w)) (sym there) ∙ none a

pub is_nothing : (x : GatewayExpired) → due_of x ≡ due.Nothing → x ≡ Nothing
is_nothing Nothing h = refl
is_nothing (Repeat frame) h = cc
is_nothing (Closing frame) h = cc

sends_none : (w : World) (a : ℕ) (what : Sending) (o : Option DeviceState) → w.devices a ≡ o → sending_at o (now w) ≡ Some what → HasNothingToSend w (now w) → ⊥
sends_none w a what None there h nothing = cc
sends_none w a what (Some d) there h nothing = let none : next_sending d (now w) ≡ None = nothing.devices a d there in cc

pub nobody : (w : World) (r : Option (ℕ × Sending)) → IfSome r (λ s. sending_at (w.devices s.0) (now w) ≡ Some s.1) → HasNothingToSend w (now w) → r ≡ None
nobody w None found nothing = refl
nobody w (Some s) found nothing = absurd (sends_none w s.0 s.1 (w.devices s.0) refl found nothing)

where_none : {P : Type 0} (r : Option (ℕ × Sending)) → IfNone r P → r ≡ None → P
where_none None p e = p
where_none (Some s) p e = cc

pub nothing_exactly : (w : World) (r : Option (ℕ × Sending)) (d : Due) (is_none is_nothing_due : Bool) → IfSome r (λ s. sending_at (w.devices s.0) (now w) ≡ Some s.1) → IfNone r ((a : ℕ) → sending_at (w.devices a) (now w) ≡ None)
    → d ≡ due_of (gateway_expired w.tunnel.gateway (now w)) → IsTrue is_none ↔ (r ≡ None) → IsTrue is_nothing_due ↔ (d ≡ due.Nothing) → IsTrue (is_none && is_nothing_due) ↔ HasNothingToSend w (now w)
nothing_exactly w r d is_none is_nothing_due found none is one other = (
  (λ h. let both = both_true is_none is_nothing_due h in record {
    devices = all_silent w (where_none r none (one.0 both.0));
    gateway = is_nothing (gateway_expired w.tunnel.gateway (now w)) (sym is ∙ other.0 both.1);
  }),
  (λ nothing. and_true is_none is_nothing_due (one.1 (nobody w r found nothing)) (other.1 (is ∙ ap due_of nothing.gateway))),
)

pub for_world : (P : World → ℕ × Sending → Type 0) (Q : World → Type 0) (r : Option (ℕ × Sending)) (w : World) → IfSome r (λ s. (v : World) → Q v → P v s) → Q w → IfSome r (P w)
for_world P Q None w h q = tt
for_world P Q (Some s) w h q = h w q

pub none_for_world : (P Q : World → Type 0) (r : Option (ℕ × Sending)) (w : World) → IfNone r ((v : World) → Q v → P v) → Q w → IfNone r (P w)
none_for_world P Q None w h q = h w q
none_for_world P Q (Some s) w h q = tt

-- ---- settled

pub settled_exactly : (w : World) (up down bus silent : Bool) → IsTrue up ↔ AllOver Every (made w.tunnel) w.tunnel.network.up → IsTrue down ↔ AllOver (To w.tunnel.present) (made w.tunnel) w.tunnel.network.down
    → IsTrue bus ↔ (w.tunnel.gateway.bus ≡ []) → IsTrue silent ↔ HasNothingToSend w (now w) → IsTrue ((up && down) && (bus && silent)) ↔ Settled Commissions w
settled_exactly w up down bus silent of_up of_down of_bus of_silent = (
  (λ h. let halves = both_true (up && down) (bus && silent) h in let over = both_true up down halves.0 in let still = both_true bus silent halves.1 in record {
    tunnel = record { up = of_up.0 over.0; down = of_down.0 over.1; bus = of_bus.0 still.0 };
    nothing_to_send = of_silent.0 still.1;
  }),
  (λ s. and_true (up && down) (bus && silent) (and_true up down (of_up.1 s.tunnel.up) (of_down.1 s.tunnel.down)) (and_true bus silent (of_bus.1 s.tunnel.bus) (of_silent.1 s.nothing_to_send))),
)

no_frame : (w : World) → next_frame w ≡ None → w.tunnel.gateway.bus ≡ []
no_frame w h = by_bus w.tunnel.gateway.bus h
  where
    by_bus : (frames : List Ldata) → option_map (on_bus w.tunnel.gateway.tunnel) (first_frame frames) ≡ None → frames ≡ []
    by_bus [] e = refl
    by_bus (frame ∷ frames) e = cc

pub bus_free : (w : World) (r : Option Ldata) (b : Bool) → r ≡ next_frame w → IsTrue b ↔ (r ≡ None) → IsTrue b ↔ (w.tunnel.gateway.bus ≡ [])
bus_free w r b is none = ((λ h. no_frame w (sym is ∙ none.0 h)), (λ empty. none.1 (is ∙ ap (λ (frames : List Ldata). option_map (on_bus w.tunnel.gateway.tunnel) (first_frame frames)) empty)))

pub is_settled : (mode : Mode) (w : World) → next_up w.tunnel ≡ None → next_down mode w.tunnel ≡ None → next_frame w ≡ None → ((a : ℕ) → sending_at (w.devices a) (now w) ≡ None)
    → due_of (gateway_expired w.tunnel.gateway (now w)) ≡ due.Nothing → Settled mode w
is_settled Commissions w up down bus silent nothing = record {
  tunnel = record {
    up = all_over Every (made w.tunnel) w.tunnel.network.up up;
    down = all_over (To w.tunnel.present) (made w.tunnel) w.tunnel.network.down down;
    bus = no_frame w bus;
  };
  nothing_to_send = record { devices = all_silent w silent; gateway = is_nothing (gateway_expired w.tunnel.gateway (now w)) nothing };
}
is_settled Serves w up down bus silent nothing = record {
  tunnel = record {
    up = all_over Every (made w.tunnel) w.tunnel.network.up up;
    down = all_over Every (made w.tunnel) w.tunnel.network.down down;
    bus = no_frame w bus;
  };
  nothing_to_send = record { devices = all_silent w silent; gateway = is_nothing (gateway_expired w.tunnel.gateway (now w)) nothing };
}
