use Rattle.std.proofs.Common.{refl}
use Rattle.line_model.specs.Tunnel.{after, Repeat, Close}
use Rattle.line_model.specs.Gateway.{gateway_expired}
use Rattle.tunnel_sim.proofs.Tunnels.{repeat_posts, closing_posts, nothing_due}
use Rattle.tunnel_sim.proofs.tunnel.Tunnel.expire.Goals as goal

pub returns-in-Nothing-clause-answer : goal.returns-in-Nothing-clause-answer
returns-in-Nothing-clause-answer c t is = nothing_due t _ t.gateway.channel _ refl is.now refl (c.in-Nothing.ensures.answer t.gateway is.gateway)

pub returns-in-Repeat-clause-repeats : goal.returns-in-Repeat-clause-repeats
returns-in-Repeat-clause-repeats c e t is = c.put_next.ensures (after t Repeat) (repeat_posts _ _ _ _ t t.gateway.channel (gateway_expired t.gateway _) c.what_is_due_happens_in_the_tunnel.ensures.repeats refl refl is
    (c.expire.ensures.next t.gateway is.gateway) (c.in-Repeat.ensures.answer t.gateway is.gateway) c.post.ensures)

pub returns-in-Closed-clause-closes : goal.returns-in-Closed-clause-closes
returns-in-Closed-clause-closes c e t is = c.put_next-in-Closed.ensures (after t Close) (closing_posts _ _ _ _ t t.gateway.channel (gateway_expired t.gateway _) c.what_is_due_happens_in_the_tunnel.ensures.closes refl refl is
    (c.expire.ensures.next t.gateway is.gateway) (c.in-Closed.ensures.answer t.gateway is.gateway) c.post-in-Closed.ensures)
