-- A minute passes over a settled line, and a heartbeat is sent and answered.
use Rattle.std.proofs.Common.{◌≡◌, ℕ, zero, suc, ◌+◌, ◌<◌, ◌≤◌, Bool, true, false, ◌==◌, List, [], ◌∷◌, Some, None, refl, ap, arith, inl, if◌then◌else◌}
use Rattle.std.specs.List.{list_all}
use Rattle.std.specs.Prelude.{nat_le, slice_get}
use Rattle.std.proofs.lemmas.Bool.{and_parts, leb-true}
use Rattle.knx_model.specs.ApduReading.{apdu_in, tpdu_in, service_in}
use Rattle.knx_model.specs.Connection.{frame_in, has_passed}
use Rattle.knx_model.specs.Device.{NonVolatile}
use Rattle.knx_model.specs.DeviceConnection.{device_took, device_after, device_answered, after_answer, device_expired}
use Rattle.knx_model.specs.DeviceSending.{next_sending}
use Rattle.knx_model.specs.DeviceState.{device_with}
use Rattle.line_model.specs.ClientView.{after_entry, deed}
use Rattle.line_model.specs.Follows.{Follows}
use Rattle.line_model.specs.Fresh.{HasNothingToSend, Settled, SettledFor}
use Rattle.line_model.specs.Gateway.{GatewayExpired, Nothing, gateway_took, gateway_expired, client_wait}
use Rattle.line_model.specs.Network.{Sent}
use Rattle.line_model.specs.Reading.{datagram_in, ldata_in}
use Rattle.line_model.specs.Record.{record_of}
use Rattle.line_model.specs.Runs.{device, begin, up, quiet_minute, beat_answered}
use Rattle.line_model.specs.Sendings.{SendsRightly}
use Rattle.line_model.specs.Tunnel.{Commissions}
use Rattle.line_model.specs.World.{replay}
use Rattle.line_model.proofs.Begins.{of_each}

-- each datagram was delivered
delivered_of : (l : List Sent) (age : ℕ) (s : Sent) → list_all (λ (x : Sent). nat_le 1 x.delivered) l ≡ true → slice_get l age ≡ Some s → 1 ≤ s.delivered
delivered_of [] age s h e = cc
delivered_of (x ∷ l) zero s h e = let same : x ≡ s = cc in let d : 1 ≤ x.delivered = leb-true _ _ (and_parts (nat_le 1 x.delivered) (list_all (λ (y : Sent). nat_le 1 y.delivered) l) h).0 in let n : x.delivered ≡ s.delivered = ap (λ (y : Sent). y.delivered) same in omega arith
delivered_of (x ∷ l) (suc age) s h e = delivered_of l age s (and_parts (nat_le 1 x.delivered) (list_all (λ (y : Sent). nat_le 1 y.delivered) l) h).1 e

early : (t : ℕ) → t < 60000 → has_passed client_wait 0 (0 + t) ≡ false
early t h = grind arith

chosen : (b : Bool) (x : GatewayExpired) → b ≡ false → (if b then x else Nothing) ≡ Nothing
chosen true x e = cc
chosen false x e = refl

nothing_at : (kept : NonVolatile) (t : ℕ) → t < 60000 → HasNothingToSend (replay (begin kept) up) (0 + t)
unfolding datagram_in ldata_in gateway_took frame_in device_took device_after device_answered after_answer apdu_in tpdu_in service_in device_expired gateway_expired
nothing_at kept t h = record {
  devices = λ a d e. of_each (λ x. next_sending x (0 + t) ≡ None) (device_with device kept) d (a == 0x1105) (λ i. refl) e;
  gateway = chosen (has_passed client_wait 0 (0 + t)) _ (early t h);
}

settled : (kept : NonVolatile) → Settled Commissions (replay (begin kept) up)
unfolding datagram_in ldata_in gateway_took frame_in device_took device_after device_answered after_answer apdu_in tpdu_in service_in
settled kept = record {
  tunnel = record {
    up = λ age s e. inl (delivered_of (replay (begin kept) up).tunnel.network.up age s refl e);
    down = λ age s e. inl (delivered_of (replay (begin kept) up).tunnel.network.down age s refl e);
    bus = refl;
  };
  nothing_to_send = nothing_at kept 0 (omega arith);
}

settled_for : (kept : NonVolatile) → SettledFor Commissions (replay (begin kept) up) 60000
unfolding datagram_in ldata_in gateway_took frame_in device_took device_after device_answered after_answer apdu_in tpdu_in service_in
settled_for kept = record { settled = settled kept; still = nothing_at kept }

pub passes : (kept : NonVolatile) → Follows [] Commissions (begin kept) quiet_minute
unfolding datagram_in ldata_in gateway_took frame_in device_took device_after device_answered after_answer apdu_in tpdu_in service_in
passes kept = (settled_for kept, (record { next = refl; says = refl }, (record { next = record { next = refl; says = refl }; so = refl }, (tt, (tt, tt)))))

pub beats : (kept : NonVolatile) → SendsRightly (record_of (begin kept) beat_answered)
unfolding datagram_in ldata_in gateway_took frame_in device_took device_after device_answered after_answer apdu_in tpdu_in service_in after_entry deed
beats kept = (tt, (record { in_it = refl; due = refl }, (tt, (tt, (tt, (tt, tt))))))
