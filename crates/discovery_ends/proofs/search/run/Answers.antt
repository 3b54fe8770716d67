use Rattle.std.proofs.Common.{rules, ◌≡◌, [], refl}
use Rattle.discovery_ends.specs.declared.listening.Listened.TheVariants as listened
use Rattle.discovery_ends.proofs.Rounds.{first_failed, over_at, quiet_at, taken_none}
use Rattle.discovery_ends.proofs.search.run.Goals as goal

pub returns-in-Err-clause-so : goal.returns-in-Err-clause-so
returns-in-Err-clause-so g c =
    λ none clock r told. first_failed clock c.args.finder.now.inquiry r c.in-Err.fault (g.L.Link.story c.round.new.link) c.args.finder.now.found c.round.new.finder.found none
    (c.in-Err.ensures.so clock r [] told (taken_none c.args.finder.now.inquiry c.args.finder.now.found none) refl)

pub returns-in-Ok-Over-clause-so : goal.returns-in-Ok-Over-clause-so
returns-in-Ok-Over-clause-so g c =
    let is : c.in-Ok-Over.field-0 ≡ listened.Over = search rules in
    λ none clock r told. over_at clock c.in-Ok-Over.field-0 is c.args.finder.now.inquiry r (g.L.Link.story c.round.new.link) c.args.finder.now.found c.round.new.finder.found
    (c.in-Ok-Over.ensures.so clock r [] told (taken_none c.args.finder.now.inquiry c.args.finder.now.found none) refl)

pub returns-in-Ok-Quiet-clause-so : goal.returns-in-Ok-Quiet-clause-so
returns-in-Ok-Quiet-clause-so g c =
    let is : c.in-Ok-Quiet.field-0 ≡ listened.Quiet c.in-Ok-Quiet.left = search rules in
    λ none clock r told. quiet_at clock c.in-Ok-Quiet.field-0 c.in-Ok-Quiet.left is c.args.finder.now.inquiry c.round.new.finder.inquiry c.in-Ok-Quiet.ensures.inquiry r (g.L.Link.story c.round.new.link) (g.L.Link.story c.again.new.link) c.args.finder.now.found c.round.new.finder.found c.again.new.finder.found c.again.result
    (c.in-Ok-Quiet.ensures.so clock r [] told (taken_none c.args.finder.now.inquiry c.args.finder.now.found none) refl) c.again.ensures.so
