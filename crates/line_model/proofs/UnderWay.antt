-- A datagram that is under way, by its tests.
use Rattle.std.proofs.Common.{◌≡◌, ℕ, true}
use Rattle.std.proofs.lemmas.Bool.{not-true, ltb-true, and_parts}
use Rattle.line_model.specs.Deliveries.{is_under_way}
use Rattle.line_model.specs.Network.{Sent, IsUnderWay}

pub under_way : (made age : ℕ) (s : Sent) → is_under_way made age s ≡ true → IsUnderWay made age s
under_way made age s e =
    let one = and_parts _ _ e in
    let two = and_parts _ _ one.0 in
    let three = and_parts _ _ two.0 in
    record { kept = not-true s.lost three.0; twice = ltb-true _ _ three.1; young = ltb-true _ _ two.1; soon = ltb-true _ _ one.1 }
