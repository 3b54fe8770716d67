use Rattle.std.proofs.Common.{◌≤◌, length, refl, sym, ◌∙◌, arith}
use Rattle.std.proofs.lemmas.List.{take_all}
use Rattle.line_sim.proofs.Coming.{behind_more, last_left}
use Rattle.line_sim.proofs.devices.Devices.bring_to_all.Goals as goal

pub loop-part-init : goal.loop-part-init
loop-part-init c = record {
  line = refl;
  left = sym (take_all 256 c.args.brought.items (omega (arith, c.requires)));
  before = λ k h. refl;
  behind = λ k h lt. absurd (omega (arith, h, lt));
}

pub loop-part-preserved-in-Some : goal.loop-part-preserved-in-Some
loop-part-preserved-in-Some c =
    let within : c.loop-part.part ≤ length c.args.brought.items = omega (arith, c.requires) in
    let last = last_left c.args.brought.items c.loop-part.left.items c.pop.new.self.items c.loop-part.part c.in-Some.one c.loop-part-test.true within c.loop-part.invariant.left c.in-Some.ensures.items in
    record {
      line = c.bring_at.ensures.line ∙ c.loop-part.invariant.line;
      left = last.0;
      before = λ k h. c.bring_at.ensures.others k (omega (arith, h)) ∙ c.loop-part.invariant.before k (omega (arith, h));
      behind = behind_more c.args.self.now.places c.loop-part.self.places c.bring_at.new.self.places c.args.frame.now c.args.brought.items c.loop-part.part c.in-Some.one c.loop-part-test.true last.1 c.loop-part.invariant.before
          c.loop-part.invariant.behind c.bring_at.ensures.here c.bring_at.ensures.others;
    }
