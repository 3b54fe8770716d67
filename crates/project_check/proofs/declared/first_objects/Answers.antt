use Rattle.std.proofs.Common.{◌<◌, ◌≤◌, List, length, take, ap, ◌∙◌}
use Rattle.std.specs.Option.{option_map}
use Rattle.std.proofs.lemmas.List.{take_all}
use Rattle.knx_model.specs.declared.project.Statement.{Statement}
use Rattle.knx_model.specs.Rules.{first_some, linked_in}
use Rattle.project_check.specs.Knowing.{known_at}
use Rattle.project_check.proofs.Sized.{linked_more}
use Rattle.project_check.proofs.declared.first_objects.Goals as goal

pub loop-statement-init : goal.loop-statement-init
loop-statement-init c = λ catalogue h g value is. c.in_ok-objects.ensures g value is

pub loop-statement-preserved : goal.loop-statement-preserved
loop-statement-preserved c = λ catalogue h g value is.
    let ss = c.args.statements.now in
    let i = c.loop-statement.statement-index in
    let s = c.statement-item.result in
    let lt : i < length ss = c.loop-statement-test.true in
    c.add_first_object.ensures catalogue ss h (λ a. option_map (known_at catalogue ss) (first_some (linked_in a) (take i ss))) (c.loop-statement.invariant catalogue h) g value is
    ∙ linked_more catalogue ss g ss i s lt c.statement-item.is

pub returns : goal.returns
returns c = λ catalogue h g value is.
    let ss = c.args.statements.now in
    let i = c.loop-statement.statement-index in
    let le : length ss ≤ i = c.loop-statement-test.false in
    c.loop-statement.invariant catalogue h g value is ∙ ap (λ (xs : List Statement). option_map (known_at catalogue ss) (first_some (linked_in g) xs)) (take_all i ss le)
