use Rattle.std.proofs.Common.{List, [], ◌∷◌, map, ap, ◌∙◌}
use Rattle.knx_model.specs.declared.project.Statement.{Statement}
use Rattle.knx_model.specs.declared.project.What.TheVariants.{Version}
use Rattle.project_text.specs.Migrated.{numbered_after}
use Rattle.project_text.specs.Sending.{kept_send}
use Rattle.project_text.proofs.MigratedAgain.{whole_made}
use Rattle.project_text.proofs.SendsKept.{are_places, sends_made}
use Rattle.project_text.proofs.migration.made.Goals as goal

pub put_sends-requires : goal.put_sends-requires
put_sends-requires c = are_places c.requires.0 c.in_ok-first.first c.args.statements.now c.requires.1 c.in_ok-first.ensures

pub returns : goal.returns
returns c =
    let places = are_places c.requires.0 c.in_ok-first.first c.args.statements.now c.requires.1 c.in_ok-first.ensures in
    whole_made c.args.statements.now (map (kept_send c.in_ok-last.last) c.in_ok-first.first.entries) c.put.new.out c.put_all_kept.new.out c.put_sends.new.out
    (c.in_ok-put.ensures ∙ ap (λ (out : List Statement). numbered_after out (Version ∷ [])) c.new-out.ensures)
    c.in_ok-put_all_kept.ensures c.in_ok-put_sends.ensures.made
    (sends_made c.in_ok-first.first c.in_ok-last.last c.args.statements.now c.in_ok-put_sends.ensures.ordered places c.in_ok-first.ensures c.in_ok-last.ensures)
