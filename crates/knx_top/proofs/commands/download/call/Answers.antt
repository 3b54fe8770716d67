use Rattle.call_parts.specs.Ending.{report_in}
use Rattle.knx_top.specs.commands.download.{download_words_of}
use Rattle.knx_top.proofs.Watches.{download_read}
use Rattle.call_parts.specs.Project.{project_words_of}
use Rattle.knx_top.proofs.Calls.Downloads.{runs_dialled}
use Rattle.knx_top.proofs.commands.download.call.Goals as goal

pub returns-clause-told : goal.returns-clause-told
returns-clause-told g c =
    runs_dialled (download_words_of c.args.names.now) (project_words_of c.project.result) _ _ _ _ c.read_project_texts-texts.result c.download.result
    c.project.ensures c.read_project_texts-texts.ensures.read c.read_project_texts-texts.ensures.counts c.download.ensures.dials

pub returns-clause-watched : goal.returns-clause-watched
returns-clause-watched g c =
    download_read (g.F.Files.now c.args.files.now).file (download_words_of c.args.names.now) (project_words_of c.project.result) c.read_project_texts-texts.result _ _ c.project.ensures c.read_project_texts-texts.ensures.read (report_in c.download.result) c.download.ensures.watched
