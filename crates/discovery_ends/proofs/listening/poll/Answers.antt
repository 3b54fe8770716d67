use Rattle.std.proofs.Common.{take, refl, rules}
use Rattle.discovery_ends.proofs.Polling.{polled_came, polled_quiet, polled_nothing, got_so, quiet_so}
use Rattle.discovery_ends.proofs.listening.poll.Goals as goal

pub returns-in-Err-clause-so : goal.returns-in-Err-clause-so
returns-in-Err-clause-so g c = λ clock r a. (polled_nothing clock (g.L.Link.story c.args.link.now) (g.L.Link.story c.poll.new.self) r a c.in-Err.ensures.polled, refl)

pub returns-in-Ok-Got-clause-so : goal.returns-in-Ok-Got-clause-so
returns-in-Ok-Got-clause-so g c = λ clock r a. record {
  octets = take c.in-Ok-Got.len c.poll.new.into;
  came = polled_came clock (take c.in-Ok-Got.len c.poll.new.into) (g.L.Link.clock c.poll.new.self) (g.L.Link.story c.args.link.now) (g.L.Link.story c.poll.new.self) r a
      (got_so _ c.in-Ok-Got.len c.poll.new.into _ _ _ _ (search rules) c.in-Ok-Got.ensures.polled);
  finds = c.take.ensures.finds;
}

pub returns-in-Ok-Quiet-clause-so : goal.returns-in-Ok-Quiet-clause-so
returns-in-Ok-Quiet-clause-so g c =
    λ clock r a. (let q = polled_quiet clock (g.L.Link.clock c.poll.new.self) (g.L.Link.story c.args.link.now) (g.L.Link.story c.poll.new.self) r a (quiet_so _ c.poll.new.into _ _ _ _ (search rules) c.in-Ok-Quiet.ensures.polled) in
    record { none = q.0; quiet = q.1; same = refl })
