use Rattle.std.proofs.Common.{◌≡◌, true, length, sym, ap, subst, arith}
use Rattle.knx_model.specs.Statements.{are_spellable, are_numbered}
use Rattle.knx_gen.specs.Generated.{project_lines, generated}
use Rattle.knx_gen.proofs.Counted.{length_lines}
use Rattle.knx_gen.proofs.Rounds.{project_whole, statements_whole}
use Rattle.knx_gen.proofs.Spelled.{generated_spelled, generated_numbered}
use Rattle.knx_gen.proofs.project.project_from.Goals as goal

pub numbered-requires : goal.numbered-requires
numbered-requires c =
    let whole : c.put_devices.new.lines ≡ project_lines c.args.n c.args.start = project_whole _ _ _ c.args.n c.args.start c.new-lines.ensures c.in_ok-put_groups.ensures c.in_ok-put_devices.ensures in
    omega (arith, ap length whole, length_lines c.args.n c.args.start, c.requires)

pub invariant_of-result : goal.invariant_of-result
invariant_of-result c =
    let whole : c.put_devices.new.lines ≡ project_lines c.args.n c.args.start = project_whole _ _ _ c.args.n c.args.start c.new-lines.ensures c.in_ok-put_groups.ensures c.in_ok-put_devices.ensures in
    let is : c.in_ok-statements.statements ≡ generated c.args.n c.args.start = statements_whole _ _ c.args.n c.args.start whole c.in_ok-statements.ensures in
    record {
      spelled = subst (λ ss. are_spellable ss ≡ true) (sym is) (generated_spelled c.args.n c.args.start c.requires);
      numbered = subst (λ ss. are_numbered 0 ss ≡ true) (sym is) (generated_numbered c.args.n c.args.start);
    }

pub returns : goal.returns
returns c =
    let whole : c.put_devices.new.lines ≡ project_lines c.args.n c.args.start = project_whole _ _ _ c.args.n c.args.start c.new-lines.ensures c.in_ok-put_groups.ensures c.in_ok-put_devices.ensures in
    statements_whole _ _ c.args.n c.args.start whole c.in_ok-statements.ensures
