-- The octets of a frame are read as this frame.
use Rattle.std.proofs.Common.{◌≡◌, ℕ, ◌+◌, ◌*◌, ◌/◌, ◌<◌, ◌≤◌, ◌⊎◌, inl, List, [], ◌∷◌, length, refl, ap, Some, arith}
use Rattle.std.proofs.lemmas.Grind.{common_steps}
use Rattle.knx_model.specs.declared.frames.tpdu.Apdu.{Apdu}
use Rattle.knx_model.specs.declared.frames.tpdu.Tpdu.{Tpdu}
use Rattle.knx_model.specs.declared.frames.tpdu.Tpdu.TheVariants as tpdu
use Rattle.knx_model.specs.declared.connection.TransportFrame.{TransportFrame}
use Rattle.knx_model.specs.declared.connection.TransportFrame.TheVariants.{Connect, Disconnect, Ack, Nak, Numbered, Other}
use Rattle.knx_model.specs.Apdu.{ReadsControl, Written, apdu_code}
use Rattle.knx_model.specs.ApduReading.{apdu_octets}
use Rattle.knx_model.specs.Connection.{frame_in, control_frame, numbered_data, IsApdu}
use Rattle.knx_model.specs.ConnectionLaws.{Carries}
use Rattle.apdu_frames.proofs.Function.{control_from}

one_read : (first : ℕ) (frame : Tpdu) → ReadsControl first frame → frame_in (first ∷ []) ≡ control_frame (Some frame)
unfolding frame_in
one_read first frame h = ap control_frame (control_from first frame h)

data_read : (number first : ℕ) (rest : List ℕ) → number < 16 → first < 4 → 1 ≤ length rest → 1 + length rest ≤ 64 → frame_in (numbered_data number (first ∷ rest)) ≡ Numbered number (first ∷ rest)
unfolding frame_in
data_read number first [] n f l m = absurd (omega arith)
data_read number first (second ∷ rest) n f l m = grind (arith, common_steps)

numbered_read : (number : ℕ) (apdu : List ℕ) → number < 16 → IsApdu apdu → frame_in (numbered_data number apdu) ≡ Numbered number apdu
numbered_read number [] n h = absurd h
numbered_read number (first ∷ rest) n h = data_read number first rest n h.0 h.1 h.2

pub frame_read : (octets : List ℕ) (frame : TransportFrame) → Carries octets frame → frame_in octets ≡ frame
frame_read [] Connect h = absurd h
frame_read [] Disconnect h = absurd h
frame_read [] (Ack number) h = absurd h
frame_read [] (Nak number) h = absurd h
frame_read (first ∷ []) Connect h = one_read first tpdu.Connect h
frame_read (first ∷ []) Disconnect h = one_read first tpdu.Disconnect h
frame_read (first ∷ []) (Ack number) h = one_read first (tpdu.Ack number) h
frame_read (first ∷ []) (Nak number) h = one_read first (tpdu.Nak number) h
frame_read (first ∷ second ∷ rest) Connect h = absurd h
frame_read (first ∷ second ∷ rest) Disconnect h = absurd h
frame_read (first ∷ second ∷ rest) (Ack number) h = absurd h
frame_read (first ∷ second ∷ rest) (Nak number) h = absurd h
frame_read octets (Numbered number apdu) h = rw h.2 (numbered_read number apdu h.0 h.1)
frame_read octets Other h = absurd h

control_carries : (first : ℕ) → (frame_in (first ∷ []) ≡ Other) ⊎ Carries (first ∷ []) (frame_in (first ∷ []))
unfolding frame_in
control_carries first = grind (arith, common_steps)

data_carries : (first second : ℕ) (rest : List ℕ) → (frame_in (first ∷ second ∷ rest) ≡ Other) ⊎ Carries (first ∷ second ∷ rest) (frame_in (first ∷ second ∷ rest))
unfolding frame_in
data_carries first second rest = grind (arith, common_steps)

nothing_read : frame_in [] ≡ Other
unfolding frame_in
nothing_read = refl

pub carried : (octets : List ℕ) → (frame_in octets ≡ Other) ⊎ Carries octets (frame_in octets)
carried [] = inl nothing_read
carried (first ∷ []) = control_carries first
carried (first ∷ second ∷ rest) = data_carries first second rest

pub grammatical : (number : ℕ) (apdu : Apdu) → numbered_data number (apdu_octets apdu) ≡ Written (tpdu.Numbered number apdu)
grammatical number apdu = let e : 0x40 + 4 * number + (4 * 0 + apdu_code apdu / 256) ≡ 4 * (0x10 + number) + apdu_code apdu / 256 = omega arith in grind (arith, common_steps)
