use Rattle.std.proofs.Common.{sym, ◌∙◌}
use Rattle.device_tables.proofs.Agreement.{linked_exactly, some_link, from_link}
use Rattle.device_tables.proofs.laws.linked_exactly.Goals as goal

pub returns : goal.returns
returns c = λ config image s r group object from to. (
  λ linked. some_link group object config.links (sym (linked_exactly config image s r group object from to) ∙ linked),
  λ link. linked_exactly config image s r group object from to ∙ from_link group object config.links link.0 link.1 link.2 link.3,
)
