use Rattle.std.proofs.Common.{◌<◌, ◌^◌, refl, arith}
use Rattle.line_sim.proofs.Bits.{first_is, none_behind}
use Rattle.line_sim.proofs.parts.first_bit.Goals as goal

pub returns-then-rest-eq0-clause-none : goal.returns-then-rest-eq0-clause-none
returns-then-rest-eq0-clause-none c = none_behind c.args.word c.args.from c.requires c.if-rest-eq0.true

pub returns-else-rest-eq0-clause-found : goal.returns-else-rest-eq0-clause-found
returns-else-rest-eq0-clause-found c = let small : c.args.word < 2 ^ 64 = omega arith in (first_is c.args.word c.args.from _ c.requires small c.if-rest-eq0.false refl).found

pub returns-else-rest-eq0-clause-within : goal.returns-else-rest-eq0-clause-within
returns-else-rest-eq0-clause-within c =
    let small : c.args.word < 2 ^ 64 = omega arith in
    let is = first_is c.args.word c.args.from _ c.requires small c.if-rest-eq0.false refl in (is.after, is.within)

pub returns-else-rest-eq0-clause-none_between : goal.returns-else-rest-eq0-clause-none_between
returns-else-rest-eq0-clause-none_between c = let small : c.args.word < 2 ^ 64 = omega arith in (first_is c.args.word c.args.from _ c.requires small c.if-rest-eq0.false refl).none_between
