use Rattle.std.proofs.Common.{None, refl, rules}
use Rattle.std.proofs.lemmas.List.{get_or-replicate}
use Rattle.table_compiler.proofs.drafts.Draft.new.Goals as goal

pub returns : goal.returns
returns c = λ device. record {
  model = refl;
  objects = search rules;
  flags = λ n lt. get_or-replicate 256 n None None lt;
  links = search rules;
  sends = λ n lt. get_or-replicate 256 n None None lt;
  values = λ name. search rules;
}
