use Rattle.std.proofs.Common.{◌≤◌, take, sym, ◌∙◌, arith}
use Rattle.std.proofs.lemmas.List.{length-take}
use Rattle.project_check.proofs.Named.{stands_named}
use Rattle.project_check.proofs.Judged.{starts, in_text, repeats_there, before_part, is_broken, goes_on, none_broken}
use Rattle.project_check.proofs.parts.first_between.Goals as goal

pub loop-place-init : goal.loop-place-init
loop-place-init c = λ catalogue declares none. starts catalogue c.args.statements.now _ c.args.whole.now c.in_ok-earlier.ensures declares

pub loop-place-preserved-then-place-from : goal.loop-place-preserved-then-place-from
loop-place-preserved-then-place-from c = λ catalogue declares none.
    let ss = c.args.statements.now in
    let i = c.loop-place.place in
    let s = c.statement-item.result in
    let there = in_text ss c.args.to i s c.loop-place-test.true c.statement-item.is in
    let kept = before_part catalogue ss c.args.from i s c.if-place-from.true (omega (arith, c.requires)) there.2 none in
    goes_on catalogue ss c.loop-place.earlier c.add.new.self c.args.whole.now i s there.1 there.2 (c.loop-place.invariant catalogue declares none) kept c.in_ok-repeated.ensures.added

pub returns-in-Some : goal.returns-in-Some
returns-in-Some c = λ catalogue declares none.
    let ss = c.args.statements.now in
    let i = c.loop-place.place in
    let s = c.statement-item.result in
    let there = in_text ss c.args.to i s c.loop-place-test.true c.statement-item.is in
    let to = c.loop-place.invariant catalogue declares none in
    let repeats = repeats_there catalogue ss c.loop-place.earlier c.args.whole.now i s there.1 there.2 to in
    let rule = c.first_rule.ensures catalogue (take i ss) ss declares (stands_named ss i s there.1 there.2) (c.in_ok-repeated.ensures.repeated (take i ss) to.earlier_is) repeats in
    is_broken catalogue ss c.args.from c.args.to i s c.in-Some.why (omega (arith, c.if-place-from.false)) there.0 there.1 there.2 to.none_is (sym c.in-Some.is ∙ rule)

pub loop-place-preserved : goal.loop-place-preserved
loop-place-preserved c = λ catalogue declares none.
    let ss = c.args.statements.now in
    let i = c.loop-place.place in
    let s = c.statement-item.result in
    let there = in_text ss c.args.to i s c.loop-place-test.true c.statement-item.is in
    let to = c.loop-place.invariant catalogue declares none in
    let repeats = repeats_there catalogue ss c.loop-place.earlier c.args.whole.now i s there.1 there.2 to in
    let rule = c.first_rule.ensures catalogue (take i ss) ss declares (stands_named ss i s there.1 there.2) (c.in_ok-repeated.ensures.repeated (take i ss) to.earlier_is) repeats in
    goes_on catalogue ss c.loop-place.earlier c.add.new.self c.args.whole.now i s there.1 there.2 to (sym c.in_default.is ∙ rule) c.in_ok-repeated.ensures.added

pub returns : goal.returns
returns c = λ catalogue declares none.
    let ss = c.args.statements.now in
    let past : c.args.to ≤ c.loop-place.place = omega (arith, c.loop-place-test.false, length-take c.args.to ss, c.requires) in
    none_broken catalogue ss c.args.from c.args.to c.loop-place.place c.requires.0 c.requires.1 past (c.loop-place.invariant catalogue declares none).none_is
