use Rattle.report_text.proofs.Lists.{four_more}
use Rattle.report_text.proofs.project.put_image.Goals as goal

pub returns : goal.returns
returns c = four_more c.put_list-4.result _ _ _ _ _ _ _ _ _ c.in_ok-put_list.ensures c.in_ok-put_list-2.ensures c.in_ok-put_list-3.ensures c.put_list-4.ensures
