use Rattle.std.proofs.Common.{◌∙◌, rules}
use Rattle.std.proofs.lemmas.List.Sorted.{answers_always}
use Rattle.project_check.specs.declared.links.LinkLine.{LinkLine}
use Rattle.project_check.proofs.Searched.{found_is}
use Rattle.project_check.proofs.links.is_linked.Goals as goal

pub returns : goal.returns
returns c = λ ss are.
    c.is_ok.ensures.value ∙ found_is c.args.links.now ss c.args.link c.binary_search_by_key.result c.binary_search_by_key.ensures.bound (c.binary_search_by_key.ensures.position (λ (line : LinkLine). line.link) (answers_always _ _ _ (λ f a r g h. search rules))) are
