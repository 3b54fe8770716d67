use Rattle.project_text.specs.Sending.{kept_send}
use Rattle.project_text.proofs.Appending.{sends_step}
use Rattle.project_text.proofs.SendsKept.{places_head, places_rest}
use Rattle.project_text.proofs.migration.put_sends.Goals as goal

pub put_send-requires : goal.put_send-requires
put_send-requires c = places_head (c.in-Some.place.now, c.in-Some.group.now) c.next.new.self c.loop-place.place-iterator c.in-Some.ensures.steps c.loop-place.invariant.places

pub loop-place-preserved : goal.loop-place-preserved
loop-place-preserved c = record {
  made = sends_step (kept_send c.args.last.now) c.loop-place.out c.put_send.new.out c.args.out.now (c.in-Some.place.now, c.in-Some.group.now) c.next.new.self c.loop-place.place-iterator c.args.first.now.entries c.in-Some.ensures.steps c.loop-place.invariant.made c.in_ok-put_send.ensures;
  places = places_rest (c.in-Some.place.now, c.in-Some.group.now) c.next.new.self c.loop-place.place-iterator c.in-Some.ensures.steps c.loop-place.invariant.places;
}
