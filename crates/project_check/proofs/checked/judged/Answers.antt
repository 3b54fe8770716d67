use Rattle.project_check.proofs.Judged.{found_of_all}
use Rattle.project_check.proofs.checked.judged.Goals as goal

pub returns-clause-found : goal.returns-clause-found
returns-clause-found c =
    let catalogue = c.args.catalogue.now in
    let ss = c.args.statements.now in
    let gathered = c.in_ok-gathered.ensures catalogue c.in_ok-models.ensures in
    let declares = c.of-whole.ensures catalogue ss gathered c.in_ok-links.ensures in
    found_of_all c.of-whole.result catalogue ss declares _ c.in_ok-found.ensures
