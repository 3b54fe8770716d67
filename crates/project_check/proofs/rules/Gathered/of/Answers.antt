use Rattle.project_check.proofs.rules.Gathered.of.Goals as goal

pub returns : goal.returns
returns c = λ catalogue named.
    let declared = c.in_ok-declared.ensures catalogue named in
    record {
      models = named;
      declared = declared;
      first_objects = c.in_ok-first_objects.ensures catalogue declared;
    }
