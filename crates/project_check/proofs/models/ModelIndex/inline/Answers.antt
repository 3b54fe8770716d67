use Rattle.std.proofs.Common.{rules, None}
use Rattle.std.proofs.lemmas.List.{get_or-replicate}
use Rattle.project_check.proofs.models.ModelIndex.inline.Goals as goal

pub returns : goal.returns
returns c = record { sizes = λ n lt. get_or-replicate 256 n None None lt; ranges = λ name. search rules }
