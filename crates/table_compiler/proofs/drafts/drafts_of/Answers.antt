use Rattle.std.proofs.Common.{◌≡◌, ◌∙◌, ◌++◌, ◌+◌, ◌∷◌, [], sym, ap, subst, arith, take, drop, length, List}
use Rattle.std.proofs.lemmas.List.{take_more}
use Rattle.knx_model.specs.declared.project.Statement.{Statement}
use Rattle.table_compiler.specs.Drafts.{AreDrafts}
use Rattle.table_compiler.specs.declared.drafts.Draft.{Draft}
use Rattle.table_compiler.proofs.Drafted.{written_back}
use Rattle.table_compiler.proofs.drafts.drafts_of.Goals as goal

pub loop-statement-preserved : goal.loop-statement-preserved
loop-statement-preserved c =
    let devices = c.args.devices.now in
    let ss = c.args.statements.now in
    let i = c.loop-statement.statement-index in
    let new = c.add.new.drafts in
    let long : length new ≡ c.loop-statement.drafts.len = omega (arith, c.in_ok-add.ensures.whole, c.loop-statement.invariant.whole, c.loop-statement.drafts.ok) in
    let more : take (i + 1) ss ≡ take i ss ++ c.statement-item.result ∷ [] = take_more ss i c.statement-item.result c.loop-statement-test.true ∙ ap (λ (s : Statement). take i ss ++ s ∷ []) (sym c.statement-item.is) in
    subst (λ (ds : List Draft). AreDrafts devices ds (take (i + 1) ss)) (sym (written_back c.loop-statement.drafts.len new (drop (length new) c.loop-statement.drafts.items) long))
    (subst (λ (ss : List Statement). AreDrafts devices new ss) (sym more) (c.in_ok-add.ensures.added (take i ss) (subst (λ (ds : List Draft). AreDrafts devices ds (take i ss)) (sym c.deref_mut.ensures.value) c.loop-statement.invariant)))
