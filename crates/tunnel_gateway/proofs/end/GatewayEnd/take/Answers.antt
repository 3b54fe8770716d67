-- The end acts on the frame after its datagram was heard.
use Rattle.line_model.specs.GatewayEnd.{TookAs, end_took}
use Rattle.tunnel_gateway.proofs.Alike.{end_acts, gateway_acts}
use Rattle.tunnel_gateway.proofs.end.GatewayEnd.take.Goals as goal

pub returns : goal.returns
returns c =
    let acts : TookAs (end_took c.args.self.now c.args.from c.args.now c.args.frame.now) c.act.result c.act.new.self = end_acts _ _ _ _ _ _ _ c.hear.ensures.channel c.act.ensures in
    record {
      answer = acts.answer;
      next = acts.after;
      simulates = λ g same. gateway_acts g _ _ _ _ _ _ same acts;
    }
