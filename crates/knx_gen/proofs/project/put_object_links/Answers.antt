use Rattle.std.proofs.Common.{◌≡◌, ◌+◌, refl, sym}
use Rattle.std.proofs.lemmas.List.{append-nil}
use Rattle.knx_gen.specs.Draws.{state_at}
use Rattle.knx_gen.specs.Generated.{object_links}
use Rattle.knx_gen.proofs.Rounds.{one_drawn, object_links_more}
use Rattle.knx_gen.proofs.project.put_object_links.Goals as goal

pub loop-place-init : goal.loop-place-init
unfolding object_links state_at
loop-place-init c = record { lines = sym (append-nil c.args.lines.now); state = refl }

pub loop-place-preserved : goal.loop-place-preserved
loop-place-preserved c =
    let drawn : c.draw.new.self.state ≡ state_at c.args.numbers.now.state (c.loop-place.place + 1)
    = one_drawn c.args.numbers.now.state c.loop-place.numbers.state c.draw.new.self.state c.loop-place.place c.loop-place.invariant.state c.draw.ensures.state in
    record {
      lines = object_links_more c.args.lines.now _ _ c.args.numbers.now.state c.draw.new.self.state c.draw.result c.args.device c.loop-place.place c.loop-place.invariant.lines drawn c.draw.ensures.value c.in_ok-put_links.ensures;
      state = drawn;
    }
