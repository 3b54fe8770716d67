use Rattle.std.proofs.Common.{◌≡◌, ◌++◌, codes, rules}
use Rattle.frame_text.specs.GatewayText.{about_words}
use Rattle.frame_text.specs.Spaced.{spaced}
use Rattle.frame_text.proofs.Lines.{line_put}
use Rattle.frame_text.proofs.gateway.put_found.Goals as goal

pub returns : goal.returns
returns c =
    let first : c.append.new.self ≡ c.args.out.now ++ codes "found" = search rules in
    let words : c.put_about.new.out ≡ c.append.new.self ++ spaced (about_words c.args.about.now) = search rules in
    line_put c.push.result (codes "found") (about_words c.args.about.now) c.args.out.now c.append.new.self c.put_about.new.out c.push.new.self first words c.push.ensures.ok
