-- The octets of a frame are read as this frame.
use Rattle.std.proofs.Common.{◌≡◌, ℕ, ◌+◌, ◌<◌, ◌≤◌, List, [], ◌∷◌, length, refl, arith}
use Rattle.std.proofs.lemmas.Grind.{common_steps}
use Rattle.knx_model.specs.declared.frames.tpdu.Tpdu.TheVariants as tpdu
use Rattle.knx_model.specs.declared.connection.TransportFrame.TheVariants.{Connect, Disconnect, Ack, Nak, Numbered}
use Rattle.knx_model.specs.Apdu.{Written, most_octets}
use Rattle.knx_model.specs.Connection.{frame_in, numbered_data, IsApdu, disconnect}

data_read : (number first : ℕ) (rest : List ℕ) → number < 16 → first < 4 → 1 ≤ length rest → 1 + length rest ≤ most_octets → frame_in (numbered_data number (first ∷ rest)) ≡ Numbered number (first ∷ rest)
unfolding frame_in
data_read number first [] n f l m = absurd (omega arith)
data_read number first (second ∷ rest) n f l m = grind (arith, common_steps)

pub numbered_read : (number : ℕ) (apdu : List ℕ) → number < 16 → IsApdu apdu → frame_in (numbered_data number apdu) ≡ Numbered number apdu
numbered_read number [] n h = absurd h
numbered_read number (first ∷ rest) n h = data_read number first rest n h.0 h.1 h.2

pub connect_read : frame_in (Written tpdu.Connect) ≡ Connect
unfolding frame_in
connect_read = refl

pub disconnect_read : frame_in disconnect ≡ Disconnect
unfolding frame_in
disconnect_read = refl

pub ack_read : (number : ℕ) → number < 16 → frame_in (Written (tpdu.Ack number)) ≡ Ack number
unfolding frame_in
ack_read number n = grind (arith, common_steps)

pub nak_read : (number : ℕ) → number < 16 → frame_in (Written (tpdu.Nak number)) ≡ Nak number
unfolding frame_in
nak_read number n = grind (arith, common_steps)
