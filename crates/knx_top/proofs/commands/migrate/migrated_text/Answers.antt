use Rattle.knx_top.proofs.Calls.Migrates.{text_of_made}
use Rattle.knx_top.proofs.commands.migrate.migrated_text.Goals as goal

pub returns : goal.returns
returns c = λ catalogue none.
    text_of_made c.args.project.now.statements c.in_ok-made.made.statements c.in_ok-text.text catalogue c.in_ok-made.ensures.value (λ device. c.in_ok-made.ensures.same catalogue device) (c.in_ok-made.ensures.sound catalogue none)
    c.in_ok-made.ensures.twice c.in_ok-made.ensures.again c.in_ok-text.ensures.text
