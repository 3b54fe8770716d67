-- The links of a device in one line more.
use Rattle.std.proofs.Common.{◌≡◌, List, [], ◌∷◌, ◌++◌, ap, ◌∙◌}
use Rattle.std.proofs.lemmas.List.{append-nil}
use Rattle.std.proofs.lemmas.Grind.{flat_map-append}
use Rattle.knx_model.specs.declared.address.IndAddr.{IndAddr}
use Rattle.knx_model.specs.declared.project.Statement.{Statement}
use Rattle.knx_model.specs.Meaning.{links_said, link_lines}

pub links_more : (device : IndAddr) (ss : List Statement) (s : Statement) → link_lines device (ss ++ s ∷ []) ≡ link_lines device ss ++ links_said device s.what
links_more device ss s = flat_map-append (λ (t : Statement). links_said device t.what) ss (s ∷ []) ∙ ap (λ ls. link_lines device ss ++ ls) (append-nil (links_said device s.what))
