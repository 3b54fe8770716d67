use Rattle.std.proofs.Common.{◌≡◌, Err, sym, ap, ◌∙◌}
use Rattle.knx_model.specs.declared.refusal.Refused.{Refused}
use Rattle.knx_model.specs.declared.refusal.Why.TheVariants.{NoMemory}
use Rattle.project_text.proofs.Steps.{begins, line_is_text, goes_on, is_refused, all_read}
use Rattle.project_text.proofs.read.read_lines.Goals as goal

pub line_in-requires : goal.line_in-requires
line_in-requires c = line_is_text _ _ c.args.first c.args.octets.now c.loop-text.rest.now c.in-Some.text.now c.in-Some.after.now _ _ c.loop-text.invariant c.in-Some.ensures.first

pub loop-text-preserved : goal.loop-text-preserved
loop-text-preserved c = goes_on _ _ c.args.first c.args.octets.now c.loop-text.rest.now c.in-Some.text.now c.in-Some.after.now _ _ _ c.loop-text.invariant c.in-Some.ensures.first c.in-Some.ensures.less c.in_default-line_in.ensures.read (c.in_default-line_in.ensures.spelled c.loop-text.invariant.spelled)

pub loop-text-init : goal.loop-text-init
loop-text-init c = begins _ _ c.args.first c.args.octets.now _ c.in_ok-statements.ensures.none c.requires c.has_plain_lines-is_plain.ensures.text

pub returns-in-Err : goal.returns-in-Err
returns-in-Err c =
    record {
      read = λ other.
          let known : ¬ (c.in-Err.why ≡ NoMemory tt) = λ q. other (c.refused_at.ensures.why ∙ q) in
          is_refused _ _ c.args.first c.args.octets.now c.loop-text.rest.now c.in-Some.text.now c.in-Some.after.now _ _ c.in-Err.why c.loop-text.invariant c.in-Some.ensures.first (c.in-Err.ensures.read known) ∙ ap (λ (x : Refused). Err x) (sym (c.refused_at.ensures.line known));
      memory = λ q. c.refused_at.ensures.memory (sym c.refused_at.ensures.why ∙ q);
      spelled = tt;
    }

pub returns : goal.returns
returns c =
    record {
      read = all_read _ _ c.args.first c.args.octets.now c.loop-text.rest.now _ _ c.loop-text.invariant c.in_default.ensures.first;
      memory = tt;
      spelled = c.loop-text.invariant.spelled;
    }
