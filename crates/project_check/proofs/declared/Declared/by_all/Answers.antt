use Rattle.std.proofs.Common.{◌<◌, ◌≤◌, List, length, take, subst}
use Rattle.std.proofs.lemmas.List.{take_more, take_all}
use Rattle.knx_model.specs.declared.project.Statement.{Statement}
use Rattle.project_check.specs.Knowing.{Declares}
use Rattle.project_check.proofs.Named.{stands_named}
use Rattle.project_check.proofs.declared.Declared.by_all.Goals as goal

pub loop-statement-init : goal.loop-statement-init
loop-statement-init c = λ catalogue named. c.in_ok-declared.ensures catalogue

pub loop-statement-preserved : goal.loop-statement-preserved
loop-statement-preserved c = λ catalogue named.
    let ss = c.args.statements.now in
    let i = c.loop-statement.statement-index in
    let s = c.statement-item.result in
    let lt : i < length ss = c.loop-statement-test.true in
    rw (take_more ss i s lt, ← c.statement-item.is) (c.in_ok-add.ensures catalogue (take i ss) ss named (stands_named ss i s lt c.statement-item.is) (c.loop-statement.invariant catalogue named))

pub returns : goal.returns
returns c = λ catalogue named.
    let ss = c.args.statements.now in
    let i = c.loop-statement.statement-index in
    let le : length ss ≤ i = c.loop-statement-test.false in
    subst (λ (xs : List Statement). Declares catalogue c.loop-statement.declared xs) (take_all i ss le) (c.loop-statement.invariant catalogue named)
