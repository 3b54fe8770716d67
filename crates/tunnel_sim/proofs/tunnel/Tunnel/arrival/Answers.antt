use Rattle.std.proofs.Common.{slice_get, ap, ◌∙◌}
use Rattle.line_model.specs.Reading.{datagram_in}
use Rattle.tunnel_sim.proofs.Tunnels.{arrived, young}
use Rattle.tunnel_sim.proofs.tunnel.Tunnel.arrival.Goals as goal

pub returns : goal.returns
returns c t is = arrived c.what_is_kept_reads_alike.ensures.reads (slice_get t.network.up c.args.age) c.in_ok-sending.sending.now c.endpoint.result c.in_ok-datagram_in.field-0
    (c.in_ok-sending.ensures.simulates t.network.up is.up (young c.args.age c.in_ok-sending.sending.now c.in_ok-sending.ensures.older)) c.endpoint.ensures (c.in_ok-datagram_in.ensures.value ∙ ap datagram_in c.octets.ensures.value)
