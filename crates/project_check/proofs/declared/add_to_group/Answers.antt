use Rattle.std.proofs.Common.{◌≡◌, cond, eqb, Some, None, sym, ap, ◌∙◌}
use Rattle.std.specs.Option.{option_or}
use Rattle.project_check.specs.declared.known.KnownObject.{KnownObject}
use Rattle.project_check.proofs.Named.{put_first, none_of, same_at}
use Rattle.project_check.proofs.Tables.{holds_put}
use Rattle.project_check.proofs.declared.add_to_group.Goals as goal

pub returns-then-is_none : goal.returns-then-is_none
returns-then-is_none c = λ catalogue ss h f held a value is.
    let mine = c.args.group in
    let b = eqb mine a in
    let empty : f mine ≡ None = sym (held mine c.get.result c.get.ensures) ∙ none_of c.get.result c.if-is_none.ensures in
    holds_put c.args.first_objects.now c.set.new.self f mine (Some c.known_object.result) c.set.ensures held a value is
    ∙ put_first b (f a) c.known_object.result (λ same. same_at f mine a same empty)
    ∙ ap (λ (z : KnownObject). option_or (f a) (cond b (Some z) None)) (c.known_object.ensures catalogue ss h)
