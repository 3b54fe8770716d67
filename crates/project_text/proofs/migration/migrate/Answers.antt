use Rattle.std.proofs.Common.{◌≡◌, List, true, ap, sym, subst, ◌∙◌}
use Rattle.knx_model.specs.declared.project.Statement.{Statement}
use Rattle.knx_model.specs.Statements.{are_spelled, version_of}
use Rattle.project_text.specs.Migrated.{migrated}
use Rattle.project_text.proofs.MigratedAgain.{spelled_in, made_spellable, made_numbered, made_twice, made_read, made_means}
use Rattle.project_text.proofs.MigratedSound.{made_sound}
use Rattle.project_text.proofs.migration.migrate.Goals as goal

pub made-requires : goal.made-requires
made-requires c =
    let version = version_of c.args.project.now.statements in
    (version, subst (λ (ss : List Statement). are_spelled version ss ≡ true) (sym c.as_slice.ensures) (spelled_in c.args.project.now.statements c.args.project.now.spelled))

pub invariant_of-result : goal.invariant_of-result
invariant_of-result c =
    let is = c.in_ok-statements.ensures ∙ ap migrated c.as_slice.ensures in
    record {
      spelled = made_spellable c.args.project.now.statements c.in_ok-statements.statements is c.args.project.now.spelled;
      numbered = made_numbered c.args.project.now.statements c.in_ok-statements.statements is;
    }

pub returns-clause-value : goal.returns-clause-value
returns-clause-value c = c.in_ok-statements.ensures ∙ ap migrated c.as_slice.ensures

pub returns-clause-same : goal.returns-clause-same
returns-clause-same c = made_means c.args.project.now.statements c.in_ok-statements.statements (c.in_ok-statements.ensures ∙ ap migrated c.as_slice.ensures) c.args.project.now.spelled

pub returns-clause-twice : goal.returns-clause-twice
returns-clause-twice c = made_twice c.args.project.now.statements c.in_ok-statements.statements (c.in_ok-statements.ensures ∙ ap migrated c.as_slice.ensures)

pub returns-clause-again : goal.returns-clause-again
returns-clause-again c = made_read c.args.project.now.statements c.in_ok-statements.statements (c.in_ok-statements.ensures ∙ ap migrated c.as_slice.ensures) c.args.project.now.spelled

pub returns-clause-sound : goal.returns-clause-sound
returns-clause-sound c = made_sound c.args.project.now.statements c.in_ok-statements.statements (c.in_ok-statements.ensures ∙ ap migrated c.as_slice.ensures)
