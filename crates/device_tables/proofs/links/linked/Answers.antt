use Rattle.std.proofs.Common.{◌≡◌, ◌∙◌, sym, refl, Some, arith}
use Rattle.std.specs.Prelude.{slice_get}
use Rattle.std.proofs.lemmas.Option.{slice_get_within}
use Rattle.knx_model.specs.Acts.{addresses, pairs, is_pair_of, is_object_number}
use Rattle.device_tables.proofs.Counting.{any_more, all_taken, shared}
use Rattle.device_tables.proofs.links.linked.Goals as goal

pub loop-pair-preserved : goal.loop-pair-preserved
loop-pair-preserved c =
    let here : slice_get (pairs c.args.assoc.now) c.loop-pair.at ≡ Some c.in-Some.pair = sym c.pair_at.ensures.pair ∙ c.in-Some.is in
    record {
      within = omega (arith, slice_get_within (pairs c.args.assoc.now) c.loop-pair.at c.in-Some.pair here);
      noted = λ o. c.note.ensures o ∙ rw (c.loop-pair.invariant.noted o, any_more (is_pair_of (addresses c.args.addr.now) c.args.group.raw o) (pairs c.args.assoc.now) c.loop-pair.at c.in-Some.pair here) (shared (is_object_number o) _ _);
    }

pub returns : goal.returns
returns c = λ o. c.loop-pair.invariant.noted o ∙ rw (all_taken (pairs c.args.assoc.now) c.loop-pair.at (sym c.pair_at.ensures.pair ∙ c.in_default.is)) refl
