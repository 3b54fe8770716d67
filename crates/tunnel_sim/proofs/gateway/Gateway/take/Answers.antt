use Rattle.tunnel_sim.proofs.Taking.{takes}
use Rattle.tunnel_sim.proofs.gateway.Gateway.take.Goals as goal

pub returns-clause-next : goal.returns-clause-next
returns-clause-next c g is can =
    let after = takes _ g c.args.from c.args.now c.args.frame.now c.take-took.result c.take-took.new.self is can (c.take-took.ensures.simulates g is.end) in
    let joins = c.join.ensures in
    let drops = c.drop_if.ensures.items in
    let drops_too = c.drop_if-2.ensures.items in
    let reserves = c.reserve.ensures.items in
    let left = c.is_left-left.ensures in
    let before = c.endpoint-before.ensures in
    let then = c.endpoint.ensures in
    let makes = c.is_new_client.ensures in
    let count = c.counted-self.ensures in
    let acts = c.is_some.ensures in
    let count_too = c.counted-self-2.ensures in
    record {
      address = after.address;
      end = after.end;
      bus = let bus = after.bus in cc;
      waiting = let waiting = after.waiting in cc;
      made = let made = after.made in cc;
      acted = let acted = after.acted in cc;
    }
