use Rattle.std.proofs.Common.{◌≡◌, sym, refl, ap, ◌∙◌}
use Rattle.knx_model.specs.Counts.{counts_of}
use Rattle.knx_model.specs.Rules.{first_broken}
use Rattle.call_words.specs.declared.input_file.InputFile.TheVariants as file
use Rattle.call_parts.specs.Judged.{installed}
use Rattle.knx_top.specs.commands.big.{made}
use Rattle.knx_top.proofs.Calls.Migrates.{judged_sound}
use Rattle.knx_top.proofs.commands.big.judge.Goals as goal

pub returns-clause-counts : goal.returns-clause-counts
returns-clause-counts g c =
    let given = installed c.empty-models.result c.in_ok-project.project.statements in
    let read : given ≡ made c.args.numbers.now = rw (← c.numbers.view_is, c.empty-models.ensures, c.in_ok-project.ensures) refl in
    let checked : c.in_ok-new.new ≡ made c.args.numbers.now = sym (judged_sound file.New (first_broken given.catalogue given.statements) given c.in_ok-new.new c.in_ok-new.ensures).1 ∙ read in
    c.counts.ensures.value ∙ ap counts_of checked
