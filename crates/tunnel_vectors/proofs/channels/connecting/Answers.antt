use Rattle.std.proofs.Common.{◌∷◌, [], refl, arith}
use Rattle.line_model.specs.Runs.{to_device}
use Rattle.tunnel_vectors.proofs.channels.connecting.Goals as goal

pub returns : goal.returns
returns c = record {
  some = omega arith;
  fits = omega arith;
  is = record { frame = to_device (0x80 ∷ []); asks = refl; sound = refl; unnamed = refl; is = refl };
}
