use Rattle.std.proofs.Common.{◌≡◌, ◌∙◌, ◌++◌, ap, map, IfOk, rules, tests}
use Rattle.std.proofs.lemmas.Iterator.{items_from_collect, YieldsList-from_slice, YieldsList-from_map}
use Rattle.knx_model.specs.Meaning.{flagged, flagged_objects, model_object, declared_objects}
use Rattle.table_compiler.specs.Drafts.{IsDraft}
use Rattle.table_compiler.proofs.Compiled.{if_ok, ok_always}
use Rattle.table_compiler.proofs.objects.flagged_objects.Goals as goal

pub returns : goal.returns
returns c = ok_always (λ device ss. IsDraft device c.args.draft.now ss) (λ found device ss. found.items ≡ flagged_objects c.args.model.now device ss) c.collect.result (λ device ss is.
    let lines : c.as_slice.result.now ≡ c.args.draft.now.objects.items = c.as_slice.ensures.value in
    let declared : c.deref.result.now ≡ declared_objects c.args.model.now device ss =
    c.deref.ensures.value ∙ c.in_ok-declared_objects.ensures ∙ (λ i. map model_object c.args.model.now.objects ++ (lines ∙ is.objects) i) in
    let last = is.flags in
    let found : IfOk c.collect.result (λ found. found.items ≡ map (flagged device ss) c.deref.result.now) =
    items_from_collect _ c.collect.ensures.ran (YieldsList-from_map _ (flagged device ss) (YieldsList-from_slice c.deref.result.now cc) c.map.ensures.closure (λ x r q k. search (rules, tests, last))) in
    if_ok {P = λ found. found.items ≡ map (flagged device ss) c.deref.result.now} c.collect.result (λ found e. e ∙ ap (map (flagged device ss)) declared) found)
