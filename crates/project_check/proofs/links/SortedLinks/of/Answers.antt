use Rattle.std.proofs.Common.{List, length, refl, subst}
use Rattle.project_check.specs.Links.{link_lines, IsLeastRepeat}
use Rattle.project_check.specs.declared.links.LinkLine.{LinkLine}
use Rattle.project_check.proofs.Linked.{first_found}
use Rattle.project_check.proofs.Ordered.{ascending}
use Rattle.project_check.proofs.links.SortedLinks.of.Goals as goal

pub returns : goal.returns
returns c = λ ss are. record {
  links = are;
  first_repeat = first_found (link_lines ss) c.args.links.items ss _ refl are.all (ascending _ are.sorted) (subst (λ (ys : List LinkLine). IsLeastRepeat ys c.least_repeat-first_repeat.result (length ys)) c.as_slice.ensures.value c.least_repeat-first_repeat.ensures);
}
