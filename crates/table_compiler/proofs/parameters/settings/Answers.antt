use Rattle.std.proofs.Common.{◌≡◌, rules, tests}
use Rattle.std.proofs.lemmas.Iterator.{items_from_collect, YieldsList-from_slice}
use Rattle.std.proofs.lemmas.Iterator.Consumers.{YieldsList-from_filter_map}
use Rattle.table_compiler.specs.Settings.{HoldsValues, setting, settings}
use Rattle.table_compiler.proofs.Compiled.{ok_always}
use Rattle.table_compiler.proofs.parameters.settings.Goals as goal

pub returns : goal.returns
returns c = ok_always (λ device ss. HoldsValues c.args.values.now device ss) (λ found device ss. found.items ≡ settings c.args.model.now device ss) c.collect.result (λ device ss holds.
    items_from_collect _ c.collect.ensures.ran (YieldsList-from_filter_map _ (setting device ss) (YieldsList-from_slice c.args.model.now.parameters cc) c.filter_map.ensures.closure (λ x r q k. search (rules, tests, holds))))
