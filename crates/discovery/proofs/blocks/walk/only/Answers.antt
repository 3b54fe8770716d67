use Rattle.std.proofs.Common.{◌≡◌, ◌≢◌, [], arith}
use Rattle.std.proofs.lemmas.Grind.{common_steps}
use Rattle.discovery.specs.Sorts.{sort_of}
use Rattle.discovery.proofs.Walking.{breaks_off, further, ends_neither, if_none}
use Rattle.discovery.proofs.blocks.walk.only.Goals as goal

pub returns-in_err-block-clause-none : goal.returns-in_err-block-clause-none
returns-in_err-block-clause-none c =
    let some : c.loop-rest.rest.now ≢ [] = grind (arith, common_steps) in
    if_none c.from_residual.result _ (breaks_off (sort_of c.args.sort) c.args.octets.now c.loop-rest.rest.now c.loop-rest.found c.loop-rest.invariant some c.in_err-block.ensures.none)

pub loop-rest-preserved : goal.loop-rest-preserved
loop-rest-preserved c =
    further (sort_of c.args.sort) c.args.octets.now c.loop-rest.rest.now c.in_ok-block.block.behind.now c.loop-rest.found c.with_block-found.result (record { kind = c.in_ok-block.block.kind; content = c.in_ok-block.block.content.now }) c.loop-rest.invariant c.in_ok-block.ensures.some c.with_block-found.ensures

pub returns-in-Nothing : goal.returns-in-Nothing
returns-in-Nothing c =
    let empty : c.loop-rest.rest.now ≡ [] = grind (arith, common_steps) in
    record { some = tt; few = tt; none = ends_neither (sort_of c.args.sort) c.args.octets.now c.loop-rest.rest.now c.loop-rest.found empty c.in-Nothing.is c.loop-rest.invariant }
