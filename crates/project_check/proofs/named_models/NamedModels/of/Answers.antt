use Rattle.std.proofs.Common.{◌<◌, ◌||◌, length, take, sym, ap, ◌∙◌}
use Rattle.std.proofs.lemmas.List.{take_more}
use Rattle.project_check.specs.Keys.{names_model}
use Rattle.project_check.proofs.Steps.{some_more}
use Rattle.project_check.proofs.named_models.NamedModels.of.Goals as goal

pub loop-statement-init : goal.loop-statement-init
loop-statement-init c = c.new-named.ensures c.args.catalogue.now

pub loop-statement-preserved : goal.loop-statement-preserved
loop-statement-preserved c =
    let ss = c.args.statements.now in
    let i = c.loop-statement.statement-index in
    let s = c.statement-item.result in
    let lt : i < length ss = c.loop-statement-test.true in
    rw (take_more ss i s lt, ← c.statement-item.is) (record {
      present = λ name. c.in_ok-add_model.ensures.present name ∙ ap (λ b. b || names_model name s.what) (c.loop-statement.invariant.present name) ∙ sym (some_more (names_model name) (take i ss) s);
      right = c.in_ok-add_model.ensures.right c.loop-statement.invariant.right;
    })
