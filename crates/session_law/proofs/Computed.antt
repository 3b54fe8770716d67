-- Runs that compute.
use Rattle.std.proofs.Common.{◌≡◌, ℕ, List, [], ◌∷◌, ◌++◌, true, refl, arith}
use Rattle.knx_model.specs.ApduReading.{apdu_in, tpdu_in, service_in}
use Rattle.knx_model.specs.Connection.{frame_in}
use Rattle.knx_model.specs.ClientConnection.{Up, client_confirmed, after_confirmed, client_sent, after_send, client_took, client_after, client_expired, after_overdue}
use Rattle.knx_model.specs.DeviceConnection.{device_took, device_after, device_answered, after_answer}
use Rattle.knx_model.specs.Device.{NonVolatile}
use Rattle.session_law.specs.Events.{replay, IsLegal}
use Rattle.session_law.specs.Promises.{InOrder}
use Rattle.session_law.specs.Runs.{start, lossy, descriptor_read, descriptor_response, writes, unconfirmed, hasty}

pub lossy_legal : (kept : NonVolatile) → IsLegal (start kept) lossy
unfolding frame_in device_took device_after device_answered after_answer client_confirmed after_confirmed client_sent after_send client_took client_after client_expired after_overdue apdu_in tpdu_in service_in
lossy_legal kept = (tt, (tt, (tt, (tt, (tt, (refl, (tt, (tt, (refl, (tt, (tt, (refl, (tt, (tt, (tt, (refl, (tt, (tt, (tt, (tt, (tt, (tt, (tt, ((refl, (omega arith, omega arith, omega arith)), (tt, (tt, ((refl, refl), (tt, (tt, ((refl, refl), (tt, tt)))))))))))))))))))))))))))))))

pub lossy_delivered : (kept : NonVolatile) → (replay (start kept) lossy).delivered ≡ descriptor_read ∷ []
unfolding frame_in device_took device_after device_answered after_answer client_confirmed after_confirmed client_sent after_send client_took client_after client_expired after_overdue apdu_in tpdu_in service_in
lossy_delivered kept = refl

pub lossy_accepted : (kept : NonVolatile) → (replay (start kept) lossy).client.accepted ≡ descriptor_response ∷ []
unfolding frame_in device_took device_after device_answered after_answer client_confirmed after_confirmed client_sent after_send client_took client_after client_expired after_overdue apdu_in tpdu_in service_in
lossy_accepted kept = refl

pub lossy_end : (kept : NonVolatile) → (replay (start kept) lossy).client.end ≡ Up (record { partner = record { raw = 0x1105 }; expected = 1; number = 1; last = 3000 })
unfolding frame_in device_took device_after device_answered after_answer client_confirmed after_confirmed client_sent after_send client_took client_after client_expired after_overdue apdu_in tpdu_in service_in
lossy_end kept = refl

pub before_legal : (kept : NonVolatile) → IsLegal (start kept) unconfirmed
unfolding frame_in device_took device_after device_answered after_answer client_confirmed after_confirmed client_sent after_send client_took client_after apdu_in tpdu_in service_in
before_legal kept = (tt, ((refl, (omega arith, omega arith, omega arith)), (tt, (tt, ((refl, refl), (tt, tt))))))

pub before_pending : (kept : NonVolatile) → (replay (start kept) unconfirmed).client.pending ≡ true
unfolding frame_in device_took device_after device_answered after_answer client_confirmed after_confirmed client_sent after_send client_took client_after apdu_in tpdu_in service_in
before_pending kept = refl

isnt_end : (newer : List (List ℕ)) (y : List ℕ) → ◌≡◌ {A = List (List ℕ)} [] (newer ++ y ∷ []) → ⊥
isnt_end [] y e = cc
isnt_end (z ∷ newer) y e = cc

isnt_first : (newer : List (List ℕ)) (x y : List ℕ) → (x ≡ y → ⊥) → ◌≡◌ {A = List (List ℕ)} (y ∷ x ∷ []) (newer ++ y ∷ []) → ⊥
isnt_first [] x y ne e = cc
isnt_first (z ∷ []) x y ne e = ne (let g : ◌≡◌ {A = List (List ℕ)} (x ∷ []) (y ∷ []) = cc in cc)
isnt_first (z ∷ u ∷ newer) x y ne e = isnt_end newer y (let g : ◌≡◌ {A = List (List ℕ)} [] (newer ++ y ∷ []) = cc in g)

two_isnt_three : writes 2 ≡ writes 3 → ⊥
two_isnt_three e = cc

pub not_ordered : (kept : NonVolatile) → InOrder (replay (start kept) hasty) → ⊥
unfolding frame_in device_took device_after device_answered after_answer client_confirmed after_confirmed client_sent after_send client_took client_after apdu_in tpdu_in service_in
not_ordered kept h = isnt_first h.delivered.0 (writes 2) (writes 3) two_isnt_three h.delivered.1
