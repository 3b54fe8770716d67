use Rattle.std.proofs.Common.{codes}
use Rattle.frame_text.specs.FrameText.{tpdu_words}
use Rattle.frame_text.proofs.Lines.{line_put}
use Rattle.frame_text.proofs.tpdu.put_line.Goals as goal

pub returns : goal.returns
returns c = line_put c.push.result (codes "tpdu") (tpdu_words c.args.frame.now) c.args.out.now _ _ _ c.in_ok-append.ensures.ok c.in_ok-put_form.ensures c.push.ensures.ok
