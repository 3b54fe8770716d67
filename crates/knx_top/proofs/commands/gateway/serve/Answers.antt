use Rattle.std.proofs.Common.{sym, ap, ◌∙◌}
use Rattle.knx_top.proofs.Answered.{none_taken}
use Rattle.knx_top.proofs.ServedRuns.{serving}
use Rattle.call_parts.specs.Identity.{about_gateway, own_endpoint}
use Rattle.knx_top.specs.commands.gateway.{end_of_serving}
use Rattle.knx_top.proofs.commands.gateway.serve.Goals as goal

pub new-door-requires-clause-none : goal.new-door-requires-clause-none
new-door-requires-clause-none g c = none_taken _ c.requires.new

pub returns-clause-serving : goal.returns-clause-serving
returns-clause-serving g c = λ s is at most.
    serving s c.args.names.turns c.serve-served.result c.args.ready.line _ _ _ _ _ _ _ _ _ _ _ _ _ _ _ is.begins most
    (c.own_endpoint.ensures ∙ ap own_endpoint (sym at)) (c.about_gateway.ensures ∙ ap about_gateway is.tunnel)
    c.requires.new c.requires.unfailed c.requires.sound
    (rw c.new-door.ensures at c.serve-served.ensures.served) (rw c.new-door.ensures at c.serve-served.ensures.broken) (rw c.new-door.ensures at c.serve-served.ensures.counts) c.serve-served.ensures.start c.serve-served.ensures.script
    c.keeps.ensures.fresh c.keeps.ensures.legal c.keeps.ensures.follows (rw c.back.ensures.port at c.back.ensures.answered) (rw c.back.ensures.port at c.back.ensures.broke) (rw c.back.ensures.port at c.back.ensures.refused) (rw c.back.ensures.port at c.shut.ensures.told) (rw c.back.ensures.port at c.shut.ensures.counts) (c.end_of_serving.ensures ∙ ap (end_of_serving c.args.names.turns) (rw c.failed.ensures at c.unless_failed-ended.ensures))
