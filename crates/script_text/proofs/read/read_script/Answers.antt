use Rattle.std.proofs.Common.{◌≡◌, Err, sym, ap, ◌∙◌}
use Rattle.knx_model.specs.declared.refusal.Refused.{Refused}
use Rattle.knx_model.specs.declared.refusal.Why.TheVariants.{NoMemory}
use Rattle.script_text.proofs.Reading.{one_more, refused, whole, numbered}
use Rattle.script_text.proofs.read.read_script.Goals as goal

pub returns-in-Err-clause-read : goal.returns-in-Err-clause-read
returns-in-Err-clause-read c = λ other.
    let known : ¬ (c.in-Err.why ≡ NoMemory tt) = λ q. other (c.refused_at.ensures.why ∙ q) in
    refused c.args.octets.now c.loop-text.rest.now c.in-Some.text.now c.in-Some.after.now _ _ c.in-Err.why c.loop-text.invariant c.in-Some.ensures.first c.in-Err.ensures.read ∙ ap (λ (x : Refused). Err x) (sym (c.refused_at.ensures.line known))

pub loop-text-preserved : goal.loop-text-preserved
loop-text-preserved c = rw (c.in_default-add.ensures.added) (one_more c.args.octets.now c.loop-text.rest.now c.in-Some.text.now c.in-Some.after.now _ _ c.in-Ok.said c.loop-text.invariant c.in-Some.ensures.first c.in-Some.ensures.less c.in-Ok.ensures.read (rw c.in_default-add.ensures.added at (c.in_default-add.ensures.spelled c.loop-text.invariant.spelled)))

pub invariant_of-result : goal.invariant_of-result
invariant_of-result c = record {
  spelled = c.loop-text.invariant.spelled;
  numbered = numbered c.args.octets.now c.loop-text.rest.now _ _ c.loop-text.invariant c.in_default.ensures.first;
}

pub returns-clause-read : goal.returns-clause-read
returns-clause-read c = whole c.args.octets.now c.loop-text.rest.now _ _ c.loop-text.invariant c.in_default.ensures.first
