use Rattle.std.proofs.Common.{arith, refl}
use Rattle.std.proofs.lemmas.Grind.{common_steps}
use Rattle.line_frames.specs.Requests.{request_with}
use Rattle.line_frames.proofs.requests.request.Goals as goal

pub returns-clause-cemi : goal.returns-clause-cemi
returns-clause-cemi c = record {
  some = grind (arith, common_steps);
  fits = grind (arith, common_steps);
  is = record { frame = request_with c.args.group c.args.destination c.args.tpdu; asks = refl; sound = refl; unnamed = refl; is = c.encode.ensures.written };
}

pub returns-clause-reads : goal.returns-clause-reads
returns-clause-reads c = (c.frames_are_read.ensures.frames _ _).1 c.encode.ensures.reads
