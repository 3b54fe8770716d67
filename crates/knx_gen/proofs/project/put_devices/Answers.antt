use Rattle.std.proofs.Common.{refl, sym}
use Rattle.std.proofs.lemmas.List.{append-nil}
use Rattle.knx_gen.specs.Draws.{state_at}
use Rattle.knx_gen.specs.Generated.{all_device_lines}
use Rattle.knx_gen.proofs.Rounds.{eight_drawn, devices_more}
use Rattle.knx_gen.proofs.project.put_devices.Goals as goal

pub loop-before-init : goal.loop-before-init
unfolding all_device_lines state_at
loop-before-init c = record { lines = sym (append-nil c.args.lines.now); state = refl }

pub loop-before-preserved : goal.loop-before-preserved
loop-before-preserved c = record {
  lines = devices_more c.args.lines.now _ _ c.args.start c.loop-before.numbers.state c.loop-before.before c.loop-before.invariant.lines c.loop-before.invariant.state
      (rw c.device_at.ensures at c.in_ok-put_device.ensures.lines);
  state = eight_drawn c.args.start c.loop-before.numbers.state c.put_device.new.numbers.state c.loop-before.before c.loop-before.invariant.state c.in_ok-put_device.ensures.state;
}
