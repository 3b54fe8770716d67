use Rattle.std.proofs.Common.{sym, ◌∙◌}
use Rattle.knx_model.specs.Words.{is_plain_octet}
use Rattle.knx_model.proofs.Plain.{plain_lines, fold_is_all}
use Rattle.knx_model.proofs.words.line.has_plain_lines.Goals as goal

pub returns-clause-exactly : goal.returns-clause-exactly
returns-clause-exactly c = c.are_plain_octets.ensures ∙ fold_is_all is_plain_octet c.args.octets.now

pub returns-clause-text : goal.returns-clause-text
returns-clause-text c = λ yes. plain_lines c.args.octets.now (sym c.are_plain_octets.ensures ∙ yes)
