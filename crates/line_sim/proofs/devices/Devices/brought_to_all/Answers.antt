use Rattle.std.proofs.Common.{ap, ◌∙◌, ℕ, ◌+◌, length, option_to_list}
use Rattle.std.proofs.lemmas.List.{length_push}
use Rattle.line_sim.proofs.Coming.{brought_more}
use Rattle.line_sim.proofs.devices.Devices.brought_to_all.Goals as goal

pub loop-part-preserved : goal.loop-part-preserved
loop-part-preserved c = record {
  count = ap length c.in_ok-push.ensures.items ∙ length_push c.loop-part.brought.items c.in_ok-brought_at.field-0 ∙ ap (λ (n : ℕ). n + 1) c.loop-part.invariant.count;
  each = brought_more c.args.self.now (option_to_list c.args.without) c.args.frame.now c.loop-part.part c.loop-part.brought.items c.push.new.self.items c.in_ok-brought_at.field-0 c.in_ok-push.ensures.items c.loop-part.invariant.count c.loop-part.invariant.each c.in_ok-brought_at.ensures;
}
