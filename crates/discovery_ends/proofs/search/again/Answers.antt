use Rattle.std.proofs.Common.{rules, ◌≡◌, ◌≢◌, []}
use Rattle.discovery_ends.proofs.Rounds.{some_found, second_failed, second_went}
use Rattle.discovery_ends.proofs.search.again.Goals as goal

pub returns-then-not-is_none-clause-so : goal.returns-then-not-is_none-clause-so
returns-then-not-is_none-clause-so g c =
    let some : c.args.finder.now.found ≢ [] = search rules in
    λ clock r between first told round quiet t n. some_found clock c.args.finder.now.inquiry r between first round quiet (g.L.Link.story c.args.link.now) c.args.finder.now.found told t some

pub returns-in-Err-clause-so : goal.returns-in-Err-clause-so
returns-in-Err-clause-so g c =
    let none : c.args.finder.now.found ≡ [] = search rules in
    λ clock r between first told round quiet t n. second_failed clock c.args.finder.now.inquiry r between first round quiet c.in-Err.fault (g.L.Link.story c.round.new.link) c.args.finder.now.found c.round.new.finder.found none t (c.in-Err.ensures.so clock between first told t n)

pub returns-in-Ok-clause-so : goal.returns-in-Ok-clause-so
returns-in-Ok-clause-so g c =
    let none : c.args.finder.now.found ≡ [] = search rules in
    λ clock r between first told round quiet t n. second_went clock c.args.finder.now.inquiry r between first round quiet c.in-Ok.field-0 (g.L.Link.story c.round.new.link) c.args.finder.now.found c.round.new.finder.found none t (c.in-Ok.ensures.so clock between first told t n)
