use Rattle.std.proofs.Common.{None, ap, subst, sym}
use Rattle.knx_edge.specs.Datagrams.{Brings}
use Rattle.knx_edge.specs.declared.socket.Senders.TheVariants.{Answerable}
use Rattle.knx_edge.proofs.Senders.{none, quiet}
use Rattle.knx_edge.proofs.port.UdpPort.first.Goals as goal

pub returns-in-None-clause-brings : goal.returns-in-None-clause-brings
returns-in-None-clause-brings g c =
    let before = g.S.Datagrams.coming c.args.self.now.socket in
    (before, none Answerable before, subst (λ s. Brings None c.args.into.now before (g.S.Datagrams.coming s)) (sym (ap (λ p. p.socket) c.left.ensures)) (quiet c.args.into.now before), tt)
