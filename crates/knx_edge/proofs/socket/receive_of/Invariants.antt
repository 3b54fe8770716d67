use Rattle.knx_edge.specs.Datagrams.{PassesOver}
use Rattle.knx_edge.proofs.socket.receive_of.Given as goal

abbrev pub invariant-loop : goal.invariant-loop
invariant-loop g l = PassesOver l.senders (g.S.Datagrams.coming l.fn.socket) (g.S.Datagrams.coming l.socket)
