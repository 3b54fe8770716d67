use Rattle.std.proofs.Common.{Ok, ◌≡◌, length, ap, ◌∙◌}
use Rattle.std.proofs.lemmas.Iterator.{items_from_collect}
use Rattle.std.proofs.lemmas.Iterator.Adapters.{YieldsList-from_skip, YieldsList-from_vec}
use Rattle.std.specs.Iterator.Adapters.{skip_source}
use Rattle.std.specs.declared.alloc.AllocError.{AllocError}
use Rattle.std.specs.Vec.Iter.{into_iter_items, into_iter_len}
use Rattle.knx_edge.proofs.words.words_in.Goals as goal

pub returns : goal.returns
returns c =
    let source = c.skip.ensures.source in
    let all : into_iter_len (skip_source c.skip.result) ≡ length (into_iter_items c.args.args) =
    ap into_iter_len source ∙ c.args.args.rest.ok.0 in
    items_from_collect {E = AllocError} (Ok c.in_ok-collect.field-0) c.in_ok-collect.ensures.ran
    (YieldsList-from_skip {s = c.skip.result} 1 (YieldsList-from_vec {s = skip_source c.skip.result} (into_iter_items c.args.args) (ap into_iter_items source) all) c.skip.ensures.count)
