use Rattle.std.proofs.Common.{◌≡◌, ◌∙◌, sym, refl, Some, arith}
use Rattle.std.specs.Prelude.{slice_get}
use Rattle.std.proofs.lemmas.Option.{slice_get_within}
use Rattle.knx_model.specs.Acts.{addresses, pairs, is_pair_of, is_object_number}
use Rattle.device_tables.proofs.Counting.{any_more, all_taken, shared}
use Rattle.device_tables.proofs.Sorting.{table_few}
use Rattle.device_tables.proofs.index.collect.Goals as goal

pub put-requires : goal.put-requires
put-requires c =
    let here : slice_get (pairs c.args.assoc.now) c.loop-pair.at ≡ Some c.in-Some.pair = sym c.pair_at.ensures.pair ∙ c.in-Some.is in
    omega (arith, table_few c.args.assoc.now c.loop-pair.at c.in-Some.pair here, c.loop-pair.invariant.few, c.loop-pair.invariant.room, c.requires.room, c.requires.len)

pub loop-pair-smaller : goal.loop-pair-smaller
loop-pair-smaller c =
    let here : slice_get (pairs c.args.assoc.now) c.loop-pair.at ≡ Some c.in-Some.pair = sym c.pair_at.ensures.pair ∙ c.in-Some.is in
    omega (arith, slice_get_within (pairs c.args.assoc.now) c.loop-pair.at c.in-Some.pair here)

pub loop-pair-preserved : goal.loop-pair-preserved
loop-pair-preserved c =
    let here : slice_get (pairs c.args.assoc.now) c.loop-pair.at ≡ Some c.in-Some.pair = sym c.pair_at.ensures.pair ∙ c.in-Some.is in
    record {
      within = omega (arith, slice_get_within (pairs c.args.assoc.now) c.loop-pair.at c.in-Some.pair here);
      few = omega (arith, c.put.ensures.len, c.loop-pair.invariant.few);
      room = omega (arith, c.put.ensures.capacity, c.loop-pair.invariant.room);
      noted = λ group object. c.put.ensures.pairs group object ∙ rw (c.loop-pair.invariant.noted group object, any_more (is_pair_of (addresses c.args.addr.now) group object) (pairs c.args.assoc.now) c.loop-pair.at c.in-Some.pair here) (shared (is_object_number object) _ _);
    }

pub returns-clause-exactly : goal.returns-clause-exactly
returns-clause-exactly c = λ group object. c.loop-pair.invariant.noted group object ∙ rw (all_taken (pairs c.args.assoc.now) c.loop-pair.at (sym c.pair_at.ensures.pair ∙ c.in_default.is)) refl
