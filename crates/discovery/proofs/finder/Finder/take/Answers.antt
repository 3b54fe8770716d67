use Rattle.std.proofs.Common.{◌≡◌, ◌<◌, ◌∷◌, [], ◌++◌, length, arith, rules, Contains}
use Rattle.std.proofs.lemmas.Grind.{common_steps}
use Rattle.discovery.specs.Finding.{most_found}
use Rattle.discovery.proofs.Adding.{adds_new, adds_again}
use Rattle.discovery.proofs.finder.Finder.take.Goals as goal

pub returns-then-has-clause-adds : goal.returns-then-has-clause-adds
returns-then-has-clause-adds c =
    let has : Contains c.self.inside.found.items c.in-Some.about = search rules in
    rw (← c.self.view_is) (adds_again c.self.inside.inquiry c.args.octets.now c.in-Some.about c.in-Some.ensures.some c.self.inside.found.items has)

pub returns-clause-adds : goal.returns-clause-adds
returns-clause-adds c =
    let few : length c.self.inside.found.items < most_found = search rules in
    let new : ¬ Contains c.self.inside.found.items c.in-Some.about = search rules in
    let pushed : c.push.new.self.items ≡ c.self.inside.found.items ++ c.in-Some.about ∷ [] = grind (arith, common_steps) in
    rw (← c.self.view_is) (adds_new c.self.inside.inquiry c.args.octets.now c.in-Some.about c.in-Some.ensures.some c.self.inside.found.items c.push.new.self.items few new pushed)
