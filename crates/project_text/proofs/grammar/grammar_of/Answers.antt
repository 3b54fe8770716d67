use Rattle.std.proofs.Common.{sym, ap, ◌∙◌}
use Rattle.knx_model.specs.Words.{words}
use Rattle.project_text.proofs.FirstLine.{looks_on, found, not_found}
use Rattle.project_text.proofs.grammar.grammar_of.Goals as goal

pub returns-in-Some-first_word : goal.returns-in-Some-first_word
returns-in-Some-first_word c =
    found c.args.octets.now c.loop-text.rest.now c.in-Some.text.now c.in-Some.after.now c.in-Some-first_word.keyword.now (words c.in-Some-first_word.words.now) c.loop-text.first c.version_told.result
    c.loop-text.invariant c.in-Some.ensures.first (ap words (sym c.without_comment.ensures) ∙ c.in-Some-first_word.ensures) c.version_told.ensures

pub loop-text-preserved : goal.loop-text-preserved
loop-text-preserved c =
    looks_on c.args.octets.now c.loop-text.rest.now c.in-Some.text.now c.in-Some.after.now c.loop-text.first c.loop-text.invariant c.in-Some.ensures.first c.in-Some.ensures.less
    (ap words (sym c.without_comment.ensures) ∙ c.in_default-first_word.ensures)

pub returns : goal.returns
returns c = not_found c.args.octets.now c.loop-text.rest.now c.loop-text.first c.loop-text.invariant c.in_default.ensures.first
