-- What an effect writes are octets.
use Rattle.std.proofs.Common.{ℕ, zero, suc, ◌<◌, List, [], ◌∷◌, take, replicate}
use Rattle.knx_model.specs.DeviceFrames.{AreOctets}

pub front_octets : (k : ℕ) (octets : List ℕ) → AreOctets octets → AreOctets (take k octets)
front_octets zero octets are = tt
front_octets (suc k) [] are = tt
front_octets (suc k) (x ∷ octets) are = (are.0, front_octets k octets are.1)

filled : (n fill : ℕ) → fill < 256 → AreOctets (replicate n fill)
filled zero fill h = tt
filled (suc n) fill h = (h, filled n fill h)

pub filled_octets : (k n fill : ℕ) → fill < 256 → AreOctets (take k (replicate n fill))
filled_octets k n fill h = front_octets k (replicate n fill) (filled n fill h)
