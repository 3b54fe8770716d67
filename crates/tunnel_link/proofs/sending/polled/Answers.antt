use Rattle.std.proofs.Common.{rules, take, refl}
use Rattle.line_model.specs.Record.{Got}
use Rattle.tunnel_link.proofs.Results.{polled_got}
use Rattle.tunnel_link.proofs.sending.polled.Goals as goal

pub returns-in-Ok-Got-clause-so : goal.returns-in-Ok-Got-clause-so
returns-in-Ok-Got-clause-so g c = record {
  what = Got (take c.in-Ok-Got.len c.poll.new.into);
  poll = refl;
  now = c.now-now.result;
  polls = polled_got _ c.in-Ok-Got.len _ _ _ _ _ _ c.in-Ok-Got.ensures.polled (search rules) c.now-now.ensures.value;
  time = c.now-now.ensures.told;
  known = c.got.ensures.next;
  is = c.got.ensures.answer;
}
