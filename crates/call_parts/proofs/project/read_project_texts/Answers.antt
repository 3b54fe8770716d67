use Rattle.std.proofs.Common.{◌∙◌}
use Rattle.call_parts.proofs.Counts.{read_still}
use Rattle.call_parts.specs.Project.{project_words_of}
use Rattle.call_parts.proofs.Projects.{project_rose}
use Rattle.call_parts.proofs.project.read_project_texts.Goals as goal

pub returns-clause-read : goal.returns-clause-read
returns-clause-read g c = record {
  catalogue = c.read_named-catalogue.ensures.read;
  project = read_still _ _ _ _ _ c.read_named-catalogue.ensures.stays c.read_after-project.ensures.read;
}

pub returns-clause-counts : goal.returns-clause-counts
returns-clause-counts g c =
    project_rose _ (project_words_of c.args.names) (record { catalogue = c.read_named-catalogue.result; project = c.read_after-project.result }) _ _ _
    (record {
      catalogue = c.read_named-catalogue.ensures.read;
      project = read_still _ _ _ _ _ c.read_named-catalogue.ensures.stays c.read_after-project.ensures.read;
    })
    c.read_named-catalogue.ensures.counts c.read_after-project.ensures.counts

pub returns-clause-stays : goal.returns-clause-stays
returns-clause-stays g c = λ other. c.read_after-project.ensures.stays other ∙ c.read_named-catalogue.ensures.stays other
