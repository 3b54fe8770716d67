use Rattle.std.proofs.Common.{◌∙◌, [], ◌∷◌, ap, arith, get_or, length, length-append, ◌+◌}
use Rattle.std.proofs.lemmas.List.Elements.{All-push}
use Rattle.knx_model.specs.declared.address.IndAddr.{IndAddr}
use Rattle.table_compiler.specs.Drafts.{IsDraft}
use Rattle.table_compiler.proofs.drafts.no_lines.Goals as goal

pub loop-device-init : goal.loop-device-init
loop-device-init c = record {
  whole = ap length c.new-drafts.ensures.items;
  empty = rw c.new-drafts.ensures.items (λ k d lt. absurd (omega arith));
}

pub loop-device-preserved : goal.loop-device-preserved
loop-device-preserved c = record {
  whole = ap length c.in_ok-push.ensures.items ∙ length-append c.loop-device.drafts.items (c.new.result ∷ []) ∙ ap (λ n. n + 1) c.loop-device.invariant.whole;
  empty = rw c.in_ok-push.ensures.items (All-push (λ draft. (device : IndAddr) → IsDraft device draft []) c.loop-device.drafts.items c.new.result c.loop-device.invariant.empty c.new.ensures);
}

pub returns : goal.returns
returns c = record {
  whole = omega (arith, c.loop-device.invariant.whole, c.loop-device-test.false, c.loop-device.auto._device-index-end);
  each = λ k device draft lt. c.loop-device.invariant.empty k draft (omega (arith, lt, c.loop-device.invariant.whole, c.loop-device-test.false)) (get_or c.args.devices.now k device);
}
