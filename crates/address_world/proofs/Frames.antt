-- The four frames that are put, and what a broadcast of each asks.
use Rattle.std.proofs.Common.{◌≡◌, ℕ, ◌+◌, ◌*◌, ◌/◌, ◌%◌, ◌⊎◌, inl, inr, Option, Some, None, refl, ap, arith}
use Rattle.knx_model.specs.declared.address.IndAddr.{IndAddr}
use Rattle.knx_model.specs.declared.frames.tpdu.Apdu.{Apdu}
use Rattle.knx_model.specs.declared.frames.tpdu.Apdu.TheVariants.{AddressWrite, AddressRead}
use Rattle.knx_model.specs.ApduReading.{apdu_in, tpdu_in, service_in, apdu_octets}
use Rattle.line_model.specs.World.{on_bus}
use Rattle.address_world.specs.AddressWorld.{broadcast}
use Rattle.address_world.specs.declared.asked.Asked.{Asked}
use Rattle.address_world.specs.declared.asked.Asked.TheVariants.{Read, Connect, Disconnect, Write}
use Rattle.address_world.specs.Keeps.{frame_of}

-- what such a frame asks of all
abbrev pub Asks : IndAddr → Option Apdu → Type 0
Asks wanted o = (o ≡ None) ⊎ ((o ≡ Some AddressRead) ⊎ (o ≡ Some (AddressWrite wanted)))

read_asks : service_in (apdu_octets AddressRead) ≡ Some AddressRead
unfolding service_in tpdu_in apdu_in
read_asks = refl

joined : (n : ℕ) → 256 * (n / 256) + n % 256 ≡ n
joined n = omega arith

write_asks : (wanted : IndAddr) → service_in (apdu_octets (AddressWrite wanted)) ≡ Some (AddressWrite wanted)
unfolding service_in tpdu_in apdu_in
write_asks wanted = ap (λ raw. Some (AddressWrite (record { raw = raw }))) (joined wanted.raw)

pub frame_asks : (wanted me : IndAddr) (asked : Asked) → Asks wanted (broadcast (on_bus me (frame_of wanted asked)))
frame_asks wanted me Read = inr (inl read_asks)
frame_asks wanted me Connect = inl refl
frame_asks wanted me Disconnect = inl refl
frame_asks wanted me Write = inr (inr (write_asks wanted))
