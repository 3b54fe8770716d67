use Rattle.std.proofs.lemmas.Option.{get_or_from_slice_get}
use Rattle.table_compiler.proofs.Drafted.{line_added, line_passed}
use Rattle.table_compiler.proofs.drafts.add.Goals as goal

pub returns-in_ok-add-clause-added : goal.returns-in_ok-add-clause-added
returns-in_ok-add-clause-added c = λ ss are.
    let found = c.in-Some.ensures.some in
    line_added c.args.devices.now c.args.drafts.now c.in-Some.place found.0 c.args.statement.now c.index-drafts-place.result c.add.new.self ss c.requires.ascending found.1 (λ d. get_or_from_slice_get c.args.devices.now c.in-Some.place found.0 d found.2) found.3
    (c.in_ok-add.ensures found.0 found.3) are

pub returns-in_default-clause-added : goal.returns-in_default-clause-added
returns-in_default-clause-added c = λ ss are. line_passed c.args.devices.now c.args.drafts.now c.args.statement.now ss c.in_default.ensures.none are
