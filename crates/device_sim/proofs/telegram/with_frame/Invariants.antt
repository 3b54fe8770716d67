use Rattle.std.proofs.Common.{◌≡◌, take}
use Rattle.device_sim.proofs.telegram.with_frame.Given as goal

abbrev pub invariant-loop-place : goal.invariant-loop-place
invariant-loop-place l = l.all.items ≡ take l.place l.frames.items
