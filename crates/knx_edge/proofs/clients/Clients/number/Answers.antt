use Rattle.std.proofs.Common.{◌≡◌, sym, subst}
use Rattle.std.proofs.lemmas.Result.{IfOk-weaker}
use Rattle.std.specs.contracts.net.socket_addr.SocketAddrPartialEq.TheImpl.{ghosts}
use Rattle.knx_edge.proofs.Next.{NextOf, next_of}
use Rattle.knx_edge.proofs.clients.Clients.number.Goals as goal

pub returns-clause-next : goal.returns-clause-next
returns-clause-next c =
    let next : NextOf c.args.self.now c.args.address c.in_ok-at.at c.insert_full.new.self.keys = next_of ghosts.eq c.self.inside.addresses.keys c.args.self.now c.args.address c.in_ok-at.at c.insert_full.new.self.keys c.self.view_is c.in_ok-at.ensures.index c.in_ok-at.ensures.keys in
    IfOk-weaker c.number_of.result (λ number. number ≡ c.in_ok-at.at) _ (λ number is. subst (λ n. NextOf c.args.self.now c.args.address n c.insert_full.new.self.keys) (sym is) next) c.number_of.ensures.number
