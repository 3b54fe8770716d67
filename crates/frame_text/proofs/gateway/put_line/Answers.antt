use Rattle.std.proofs.Common.{◌≡◌, ◌++◌, codes, rules}
use Rattle.frame_text.specs.GatewayText.{find_words}
use Rattle.frame_text.specs.Spaced.{spaced}
use Rattle.frame_text.proofs.Lines.{line_put}
use Rattle.frame_text.proofs.gateway.put_line.Goals as goal

pub returns : goal.returns
returns c =
    let first : c.append.new.self ≡ c.args.out.now ++ codes "ip" = search rules in
    let words : c.put_service.new.out ≡ c.append.new.self ++ spaced (find_words c.args.frame.now) = search rules in
    line_put c.push.result (codes "ip") (find_words c.args.frame.now) c.args.out.now c.append.new.self c.put_service.new.out c.push.new.self first words c.push.ensures.ok
