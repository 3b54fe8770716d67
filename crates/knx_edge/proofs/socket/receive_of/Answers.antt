use Rattle.knx_edge.proofs.Senders.{none, more, quiet}
use Rattle.knx_edge.proofs.socket.receive_of.Goals as goal

pub loop-init : goal.loop-init
loop-init g c = none c.args.senders _

pub returns-in-Some-clause-brings : goal.returns-in-Some-clause-brings
returns-in-Some-clause-brings g c = (g.S.Datagrams.coming c.loop.socket, c.loop.invariant, rw c.in-Some.is at c.in_ok-count.ensures.brings, c.has.ensures.0 c.if-has.true)

pub returns-in-None-clause-brings : goal.returns-in-None-clause-brings
returns-in-None-clause-brings g c = (g.S.Datagrams.coming c.loop.socket, c.loop.invariant, rw c.in-None.is at c.in_ok-count.ensures.brings, tt)

pub returns-in-None-left_of-clause-brings : goal.returns-in-None-left_of-clause-brings
returns-in-None-left_of-clause-brings g c = (
  g.S.Datagrams.coming c.receive.new.self,
  more c.args.senders c.in-Some.count c.in-Some.from _ _ _ _ c.loop.invariant (rw c.in-Some.is at c.in_ok-count.ensures.brings) (λ its. let said = c.has.ensures.1 its in cc),
  quiet c.receive.new.into _,
  tt,
)

pub loop-preserved : goal.loop-preserved
loop-preserved g c = more c.args.senders c.in-Some.count c.in-Some.from _ _ _ _ c.loop.invariant (rw c.in-Some.is at c.in_ok-count.ensures.brings) (λ its. let said = c.has.ensures.1 its in cc)

pub returns-clause-brings : goal.returns-clause-brings
returns-clause-brings g c = (g.S.Datagrams.coming c.loop.socket, c.loop.invariant, quiet c.loop.into _, tt)
