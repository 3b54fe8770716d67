use Rattle.std.proofs.Common.{arith}
use Rattle.project_check.proofs.Catalogued.{model_sound, few_of_model}
use Rattle.project_check.proofs.counted.named_objects.Goals as goal

pub overflow_cast-result : goal.overflow_cast-result
overflow_cast-result c =
    let m = c.in-Some.model.now in
    omega (arith, c.len.ensures, few_of_model m (model_sound c.args.catalogue.now c.args.name.now m c.in-Some.ensures.sound c.in-Some.ensures.some))

pub returns-in-Some-clause-few : goal.returns-in-Some-clause-few
returns-in-Some-clause-few c =
    let m = c.in-Some.model.now in
    omega (arith, c.len.ensures, few_of_model m (model_sound c.args.catalogue.now c.args.name.now m c.in-Some.ensures.sound c.in-Some.ensures.some))
