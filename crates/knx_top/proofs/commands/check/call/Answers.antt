use Rattle.call_parts.specs.Ending.{end_told}
use Rattle.knx_top.specs.commands.check.{IsCountsText}
use Rattle.call_parts.specs.Project.{project_words_of}
use Rattle.call_parts.proofs.Projects.{tells_so}
use Rattle.knx_top.proofs.commands.check.call.Goals as goal

pub returns-clause-told : goal.returns-clause-told
returns-clause-told g c = rw c.told-2.ensures
    (tells_so IsCountsText (project_words_of c.args.names) _ _ c.read_project_texts-texts.result (end_told c.told.result) c.read_project_texts-texts.ensures.read c.read_project_texts-texts.ensures.counts c.told.ensures)
