use Rattle.std.proofs.Common.{◌∙◌, Some, sym, ap, cond}
use Rattle.std.specs.BTreeMap.{get}
use Rattle.line_model.specs.Lines.{or_later}
use Rattle.script_index.specs.Places.{same_place, value_in}
use Rattle.script_index.specs.Stands.{place_cmp}
use Rattle.script_index.proofs.Entered.{is_there, entered}
use Rattle.script_index.proofs.index.enter_place.Goals as goal

pub returns-in_ok-insert-in-Some : goal.returns-in_ok-insert-in-Some
returns-in_ok-insert-in-Some c = λ q.
    c.in_ok-insert-in-Some.ensures.updates.0 q
    ∙ ap (λ b. cond b (Some c.in-Some.value) (get place_cmp c.args.places.now q)) (is_there c.in-Some.place q)
    ∙ entered (same_place c.in-Some.place q) c.in-Some.value (get place_cmp c.args.places.now q)
    ∙ ap (λ said. or_later (value_in q said) (get place_cmp c.args.places.now q)) (sym c.in-Some.is)
