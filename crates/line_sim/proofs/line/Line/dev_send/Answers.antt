use Rattle.std.proofs.Common.{◌≡◌, [], Some, refl, subst}
use Rattle.knx_model.specs.declared.frames.cemi.Ldata.{Ldata}
use Rattle.line_model.specs.Tunnel as tunnel
use Rattle.line_model.specs.World.{World, DevSend, heard, step}
use Rattle.line_sim.specs.Line.{LineNow, IsNow}
use Rattle.tunnel_sim.specs.Tunnels.{IsTunnel, at_gateway, tunnel_now}
use Rattle.line_sim.proofs.Lines.{sends_nothing, sends, roomy}
use Rattle.line_sim.proofs.line.Line.dev_send.Goals as goal

pub returns-in_default-clause-next : goal.returns-in_default-clause-next
returns-in_default-clause-next c =
    let old : LineNow = record { tunnel = tunnel_now c.self.inside.tunnel; devices = c.self.inside.devices; echo = c.self.inside.echo } in
    let seen : old ≡ c.args.self.now = let h = c.self.view_is in cc in
    let new : LineNow = record { tunnel = tunnel_now c.elsewhere.new.self; devices = c.send_waiting.new.self; echo = c.self.inside.echo } in
    subst (λ (n : LineNow). (w : World) → IsNow n w → IsNow new (step w (DevSend c.args.device (at_gateway c.args.at) []))) seen
    (λ w is. sends_nothing old new w c.args.device (at_gateway c.args.at) [] c.in_default.ensures is (λ t held. c.elsewhere.ensures t (roomy old.tunnel _ t c.reserve.ensures.items held)) c.send_waiting.ensures.next refl)

pub returns-clause-next : goal.returns-clause-next
returns-clause-next c =
    let old : LineNow = record { tunnel = tunnel_now c.self.inside.tunnel; devices = c.self.inside.devices; echo = c.self.inside.echo } in
    let seen : old ≡ c.args.self.now = let h = c.self.view_is in cc in
    let mid : LineNow = record { tunnel = tunnel_now c.self.inside.tunnel; devices = c.to_others.new.devices; echo = c.self.inside.echo } in
    let new : LineNow = record { tunnel = tunnel_now c.hear.new.self; devices = c.send_waiting-self-inside.new.self; echo = Some c.in-Some.frame } in
    subst (λ (n : LineNow). (w : World) → IsNow n w → IsNow new (step w (DevSend c.args.device (at_gateway c.args.at) []))) seen
    (λ w is. sends old mid new w c.args.device (at_gateway c.args.at) [] c.in-Some.frame c.in-Some.ensures is
    (λ t held. subst (λ (f : Ldata). IsTunnel new.tunnel (tunnel.step t (heard (at_gateway c.args.at) (Some f)))) c.copied.ensures (c.hear.ensures t (roomy old.tunnel _ t c.reserve.ensures.items held)))
    c.in_ok-to_others.ensures.next c.send_waiting-self-inside.ensures.next refl)
