use Rattle.discovery.proofs.Telling.{information_length, no_families, no_pairs}
use Rattle.discovery.proofs.Walking.{if_none}
use Rattle.discovery.proofs.blocks.about_in.Goals as goal

pub returns-in_err-families-clause-none : goal.returns-in_err-families-clause-none
returns-in_err-families-clause-none c = if_none c.from_residual-in_err-families.result _ (no_families c.args.octets.now c.in_err-families.ensures.none)

pub returns-in_err-families-2-clause-none : goal.returns-in_err-families-2-clause-none
returns-in_err-families-2-clause-none c =
    if_none c.from_residual-in_err-families-2.result _ (no_pairs c.args.octets.now c.in_ok-families.families.now c.in_ok-families.ensures.some c.in_err-families-2.ensures.none)

pub read-requires-2 : goal.read-requires-2
read-requires-2 c = information_length c.args.octets.now c.in_ok-content.content.now c.in_ok-content.ensures.some
