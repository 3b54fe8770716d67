-- Blank devices of the line.
use Rattle.std.proofs.Common.{◌≡◌, ℕ, ◌+◌, ◌/◌, ◌<◌, ◌≤◌, List, [], ◌∷◌, ◌++◌, Option, None, arith}
use Rattle.knx_model.specs.declared.address.IndAddr.{IndAddr}
use Rattle.knx_model.specs.declared.config.Image.{Image}
use Rattle.bus_sim.specs.Begun.{CanBegin, CanLoad}
use Rattle.line_model.specs.StartOf.{default_tunnel}

pub one_more : (devices : List (IndAddr × Option Image)) (d : IndAddr × Option Image) → CanLoad default_tunnel devices → CanBegin default_tunnel d → CanLoad default_tunnel (devices ++ d ∷ [])
one_more [] d h can = (can, tt)
one_more (x ∷ devices) d h can = (h.0, one_more devices d h.1 can)

pub blank_can : (device : ℕ) → device < 255 → CanBegin default_tunnel (record { raw = 0x1100 + device + 1 }, None)
blank_can device few = record { line = on_line device few; image = tt }
  where
    on_line : (device : ℕ) → device < 255 → (0x1100 + device + 1) / 256 ≡ 0x11FF / 256
    on_line device few = omega (arith, few)
