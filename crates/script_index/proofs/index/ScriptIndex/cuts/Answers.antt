use Rattle.std.proofs.Common.{◌∙◌, ap}
use Rattle.script_index.specs.Places.{value_at}
use Rattle.script_index.proofs.Says.{cut}
use Rattle.script_index.proofs.index.ScriptIndex.cuts.Goals as goal

pub returns : goal.returns
returns c = λ script stands.
    c.copied.ensures ∙ c.get.ensures.value ∙ stands.places c.new.result ∙ ap (λ place. value_at place script) c.new.ensures ∙ cut c.args.device.raw c.args.n script
