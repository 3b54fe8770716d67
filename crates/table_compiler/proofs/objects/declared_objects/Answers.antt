use Rattle.std.proofs.Common.{rules, tests}
use Rattle.std.proofs.lemmas.Iterator.{items_from_collect, YieldsList-from_slice, YieldsList-from_map}
use Rattle.std.proofs.lemmas.Iterator.Consumers.{YieldsList-at, YieldsList-from_chain, YieldsList-from_copied}
use Rattle.knx_model.specs.Meaning.{model_object}
use Rattle.table_compiler.proofs.objects.declared_objects.Goals as goal

pub returns : goal.returns
returns c = items_from_collect _ c.collect.ensures.ran (YieldsList-from_chain
    (YieldsList-at c.chain.ensures.first (YieldsList-from_map _ model_object (YieldsList-from_slice c.args.model.now.objects cc) c.map.ensures.closure (λ x r q k. search (rules, tests))))
    (YieldsList-at c.chain.ensures.second (YieldsList-from_copied (YieldsList-from_slice c.args.lines.now cc)))
    (cc) (cc))
