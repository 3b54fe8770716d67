use Rattle.std.proofs.Common.{◌∷◌, [], codes}
use Rattle.frame_text.specs.GatewayText.{family_words, name_text}
use Rattle.frame_text.proofs.GatewayLines.{both_put}
use Rattle.frame_text.proofs.gateway.put_services.Goals as goal

pub returns : goal.returns
returns c =
    both_put c.put_named.result (codes "families" ∷ family_words c.args.about.now.families) (codes "name" ∷ name_text c.args.about.now.name ∷ []) c.args.out.now _ _ c.in_ok-put_all_families.ensures c.put_named.ensures
