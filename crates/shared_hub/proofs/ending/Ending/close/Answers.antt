use Rattle.std.proofs.Common.{◌≡◌, reverse, sym, ap, subst, ◌∙◌}
use Rattle.std.proofs.lemmas.List.{reverse-reverse}
use Rattle.line_model.specs.Log.{TurnUnfinished}
use Rattle.shared_hub.proofs.ending.Ending.close.Goals as goal

pub returns-clause-tells : goal.returns-clause-tells
returns-clause-tells g c = λ workers seats.
    let log_is : reverse c.close-link.result.log ≡ c.args.self.hub.log = ap reverse c.close-link.ensures.log ∙ reverse-reverse c.args.self.hub.log in
    let link_is : c.close-link.result.link ≡ c.args.self.hub.link = c.close-link.ensures.link in
    record {
      headline = λ jobs are. rw (log_is, link_is) (c.keeps.ensures.headline jobs are);
      safe = λ jobs are. rw (log_is, link_is) (c.keeps.ensures.safe jobs are);
      thorough = λ jobs are. rw (log_is, link_is) (c.keeps.ensures.thorough jobs are);
      hastens = λ jobs are. rw (log_is, link_is) (c.keeps.ensures.hastens jobs are);
      right = λ jobs are good. rw (log_is, link_is) (c.keeps.ensures.right jobs are good);
      fault = λ jobs are. rw (log_is, c.requires.fault, link_is) (c.keeps.ensures.fault jobs are);
      dropped = rw link_is c.close-link.ensures.dropped;
      form = λ jobs are. rw (log_is, link_is) (c.keeps.ensures.form jobs are);
      alone = λ jobs are. rw log_is (c.keeps.ensures.alone jobs are);
      in_order = λ jobs are. rw log_is (c.keeps.ensures.in_order jobs are);
      leaves = λ jobs are. rw (log_is, link_is) (c.requires.leaves jobs are);
      seats = rw log_is seats;
      heard = rw (c.requires.fault, c.close-link.ensures.missed, c.into_list.ensures, link_is) c.requires.heard;
      over = λ fine jobs are. rw log_is ((c.requires.done fine).jobs jobs are);
      told = λ fine. subst (λ l. TurnUnfinished c.args.self.hub.turns l → ⊥) (sym log_is) (c.requires.done fine).telegrams;
      closed = λ fine. rw (log_is, link_is) (c.requires.closed fine);
    }

pub returns-clause-counts : goal.returns-clause-counts
returns-clause-counts g c = λ before was. rw (c.requires.fault, c.close-link.ensures.link) was

pub returns-clause-log : goal.returns-clause-log
returns-clause-log g c = ap reverse c.close-link.ensures.log ∙ reverse-reverse c.args.self.hub.log
