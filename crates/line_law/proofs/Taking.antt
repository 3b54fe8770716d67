-- The gateway takes a datagram, sends of itself, and closes: the client has nothing of it yet.
use Rattle.std.proofs.Common.{◌≡◌, ℕ, List, ◌∷◌, length, Bool, true, false, cond, Option, Some, None, refl, sym, ap, subst}
use Rattle.std.specs.Prelude.{◌==◌}
use Rattle.knx_model.specs.declared.frames.ip.IpFrame.{IpFrame}
use Rattle.knx_model.specs.declared.frames.ip.IpFrame.TheVariants.{ConnectRequest, ConnectResponse, StateRequest, StateResponse, DisconnectRequest, DisconnectResponse, TunnellingRequest, TunnellingAck}
use Rattle.line_model.specs.Gateway.{Channel, Gateway, GatewayTook, took, names, closed, closed_if_open, connects, makes, new_channel, number_of, request_took, acts_on, settles, acknowledged, next_number, answers as replies, drops as ignores}
use Rattle.line_model.specs.Record.{Entry}
use Rattle.line_model.specs.World.{World}
use Rattle.session_law.specs.World.{World as SessionWorld}
use Rattle.line_law.proofs.Coupled.{Coupled, Goes}
use Rattle.line_law.proofs.OnBus.{goes_none}
use Rattle.line_law.proofs.Gates.{made_gate, IsNew, makes_kept}
use Rattle.line_law.proofs.GateCloses.{gate_world, SameOpen, with_channel, channel_kept, shut_gate, shut_kept}
use Rattle.line_law.proofs.Acting.{UpOnce, acts_kept}

-- ---- events of the session stay where the line's world changes elsewhere

pub goes_on : (a : ℕ) (w n : World) (r k : List Entry) (s : SessionWorld) → ((z : SessionWorld) → Coupled a w r z → Coupled a n k z) → Goes a w r s → Goes a n k s
goes_on a w n r k s f h = record { more = h.more; legal = h.legal; silent = h.silent; coupled = f _ h.coupled }

-- ---- its channel is closed

close_by : (a : ℕ) (w : World) (r : List Entry) (s : SessionWorld) (o : Option Channel) → w.tunnel.gateway.channel ≡ o → Coupled a w r s → Goes a (gate_world w (closed_if_open w.tunnel.gateway o)) r s
close_by a w r s None is h = goes_none a w r s h
close_by a w r s (Some c) is h = shut_kept a w r s h

pub close_kept : (a : ℕ) (w : World) (r : List Entry) (s : SessionWorld) → Coupled a w r s → Goes a (gate_world w (closed w.tunnel.gateway)) r s
close_kept a w r s h = close_by a w r s w.tunnel.gateway.channel refl h

-- ---- what it takes

abbrev request_by : Gateway → Channel → ℕ → List ℕ → Bool → Bool → GatewayTook
request_by g c number frame b d =
    cond {A = GatewayTook} b (record { send = Some (TunnellingAck c.number number 0); acted = Some frame; after = acts_on g c frame })
    (cond {A = GatewayTook} d (replies (TunnellingAck c.number number 0) g) (ignores g))

module _ (a : ℕ) (w : World) (r : List Entry) (s : SessionWorld) (from t : ℕ) (h : Coupled a w r s) where
  abbrev g : Gateway
  g = w.tunnel.gateway

  abbrev To : Gateway → Type 0
  To n = Goes a (gate_world w n) r s

  connects_by : (o : Option Channel) → w.tunnel.gateway.channel ≡ o → ((connects w.tunnel.gateway from t o).after.makers ≡ from ∷ w.tunnel.gateway.makers → IsNew w.tunnel.gateway.makers r from) → To (connects w.tunnel.gateway from t o).after
  connects_by None is new = goes_none a (gate_world w (makes w.tunnel.gateway from t)) r s (makes_kept a w r s (new_channel from (number_of _) t) from is (new refl) h)
  connects_by (Some c) is new = by_endpoint (c.endpoint == from) new where
    made : To (shut_gate w.tunnel.gateway) → IsNew w.tunnel.gateway.makers r from → To (made_gate (shut_gate w.tunnel.gateway) (new_channel from (number_of (length w.tunnel.gateway.makers)) t) from)
    made k n =
        goes_on a (gate_world w (shut_gate w.tunnel.gateway)) (gate_world w (made_gate (shut_gate w.tunnel.gateway) (new_channel from (number_of (length w.tunnel.gateway.makers)) t) from)) r r s
        (λ z q. makes_kept a (gate_world w (shut_gate w.tunnel.gateway)) r z (new_channel from (number_of (length w.tunnel.gateway.makers)) t) from refl n q) k

    shut : closed w.tunnel.gateway ≡ shut_gate w.tunnel.gateway
    shut = ap (closed_if_open w.tunnel.gateway) is

    by_endpoint : (b : Bool) → ((cond {A = GatewayTook} b (replies (ConnectResponse c.number 0 (Some w.tunnel.gateway.tunnel)) w.tunnel.gateway) (replies (ConnectResponse (number_of (length w.tunnel.gateway.makers)) 0 (Some w.tunnel.gateway.tunnel)) (makes (closed w.tunnel.gateway) from t))).after.makers ≡ from ∷ w.tunnel.gateway.makers → IsNew w.tunnel.gateway.makers r from)
        → To (cond {A = GatewayTook} b (replies (ConnectResponse c.number 0 (Some w.tunnel.gateway.tunnel)) w.tunnel.gateway) (replies (ConnectResponse (number_of (length w.tunnel.gateway.makers)) 0 (Some w.tunnel.gateway.tunnel)) (makes (closed w.tunnel.gateway) from t))).after
    by_endpoint true n = goes_none a w r s h
    by_endpoint false n =
        let makers : (closed w.tunnel.gateway).makers ≡ w.tunnel.gateway.makers = ap (λ (z : Gateway). z.makers) shut in
        let P : Gateway → Type 0 = λ z. To (record z { channel = Some (new_channel from (number_of (length z.makers)) t); makers = from ∷ z.makers }) in
        subst P (sym shut) (made (shut_kept a w r s h) (n (ap (λ z. from ∷ z) makers)))

  acted_by : (o : Option Channel) (number : ℕ) (frame : List ℕ) → w.tunnel.gateway.channel ≡ o → UpOnce (request_took w.tunnel.gateway o number frame).after r → To (request_took w.tunnel.gateway o number frame).after
  acted_by None number frame is once = goes_none a w r s h
  acted_by (Some c) number frame is once = by_number (number == c.expected) (next_number number == c.expected) once where
    by_number : (b d : Bool) → UpOnce (request_by w.tunnel.gateway c number frame b d).after r → To (request_by w.tunnel.gateway c number frame b d).after
    by_number true d k = goes_none a (gate_world w (acts_on w.tunnel.gateway c frame)) r s (acts_kept a w r s c (record c { expected = next_number c.expected }) frame is k h)
    by_number false true k = goes_none a w r s h
    by_number false false k = goes_none a w r s h

  settled_by : (o : Option Channel) (number status : ℕ) → w.tunnel.gateway.channel ≡ o → To (acknowledged w.tunnel.gateway o number status)
  settled_by None number status is = goes_none a w r s h
  settled_by (Some c) number status is =
      let same : SameOpen w.tunnel.gateway.channel (Some (settles c number status)) = subst (λ z. SameOpen z (Some (settles c number status))) (sym is) tt in
      goes_none a (gate_world w (with_channel w.tunnel.gateway (Some (settles c number status)))) r s (channel_kept a w r s (Some (settles c number status)) same h)

  either : (b : Bool) (x y : GatewayTook) → To x.after → To y.after → To (cond {A = GatewayTook} b x y).after
  either true x y p q = p
  either false x y p q = q

  pub took_kept : (frame : IpFrame) → ((took w.tunnel.gateway from t frame).after.makers ≡ from ∷ w.tunnel.gateway.makers → IsNew w.tunnel.gateway.makers r from) → UpOnce (took w.tunnel.gateway from t frame).after r → To (took w.tunnel.gateway from t frame).after
  took_kept ConnectRequest new once = connects_by w.tunnel.gateway.channel refl new
  took_kept (ConnectResponse c status tunnel) new once = goes_none a w r s h
  took_kept (StateRequest c) new once = either (names from c w.tunnel.gateway.channel) _ _ (goes_none a w r s h) (goes_none a w r s h)
  took_kept (StateResponse c status) new once = goes_none a w r s h
  took_kept (DisconnectRequest c) new once = either (names from c w.tunnel.gateway.channel) _ _ (close_kept a w r s h) (goes_none a w r s h)
  took_kept (DisconnectResponse c status) new once = goes_none a w r s h
  took_kept (TunnellingRequest c number frame) new once = by_name (names from c w.tunnel.gateway.channel) once where
    by_name : (b : Bool) → UpOnce (cond {A = GatewayTook} b (request_took w.tunnel.gateway w.tunnel.gateway.channel number frame) (ignores w.tunnel.gateway)).after r
        → To (cond {A = GatewayTook} b (request_took w.tunnel.gateway w.tunnel.gateway.channel number frame) (ignores w.tunnel.gateway)).after
    by_name true k = acted_by w.tunnel.gateway.channel number frame refl k
    by_name false k = goes_none a w r s h
  took_kept (TunnellingAck c number status) new once = either (names from c w.tunnel.gateway.channel) _ _ (settled_by w.tunnel.gateway.channel number status refl) (goes_none a w r s h)
