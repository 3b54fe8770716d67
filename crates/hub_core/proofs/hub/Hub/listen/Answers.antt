use Rattle.std.proofs.Common.{sym, subst, ◌∙◌}
use Rattle.hub_core.specs.Closes.{Resumes}
use Rattle.hub_core.specs.Hears.{HearsSo, heard_at_end}
use Rattle.hub_core.specs.Pumps.{AddsSo}
use Rattle.hub_core.proofs.Endings.{resumes_stays}
use Rattle.tunnel_link.specs.Adds.{Growing}
use Rattle.hub_core.specs.Leaving.{ClosesOn, WaitsOn}
use Rattle.hub_core.proofs.Leaving.{closes_alone}
use Rattle.hub_core.specs.Polls.{Polls}
use Rattle.hub_core.specs.Came.{Comes}
use Rattle.hub_core.proofs.Since.{since_again, still_since}
use Rattle.hub_core.proofs.Hears.{failed_few}
use Rattle.hub_core.proofs.hub.Hub.listen.Goals as goal

pub returns-in_err-polled-clause-since : goal.returns-in_err-polled-clause-since
returns-in_err-polled-clause-since g c = c.poll.ensures.since

pub returns-clause-since : goal.returns-clause-since
returns-clause-since g c = since_again c.poll.ensures.since (still_since c.is_over-is_over.ensures.link (c.is_over-is_over.ensures.stands ∙ sym c.in_ok-polled.ensures.stands) c.is_over-is_over.ensures.run)

pub returns-clause-heard : goal.returns-clause-heard
returns-clause-heard g c =
    subst (λ l. HearsSo (heard_at_end c.finished.result) (g.L.Link.story c.args.self.now.link) (g.L.Link.story l)) (sym c.is_over-is_over.ensures.link)
    (subst (λ o. HearsSo o (g.L.Link.story c.args.self.now.link) (g.L.Link.story c.poll.new.self.link)) (sym c.finished.ensures.heard) c.in_ok-polled.ensures.heard)

pub returns-clause-resumes : goal.returns-clause-resumes
returns-clause-resumes g c =
    subst (λ l. AddsSo (Resumes c.args.self.now.closing c.is_over-is_over.new.self.closing) (g.L.Link.story c.args.self.now.link) (g.L.Link.story l)) (sym c.is_over-is_over.ensures.link)
    (resumes_stays c.args.self.now.closing c.poll.new.self.closing c.is_over-is_over.new.self.closing (g.L.Link.story c.args.self.now.link) (g.L.Link.story c.poll.new.self.link) c.in_ok-polled.ensures.resumes c.is_over-is_over.ensures.begins)

pub returns-in_err-polled-clause-rightly : goal.returns-in_err-polled-clause-rightly
returns-in_err-polled-clause-rightly g c = closes_alone c.args.self.now.closing _ _ c.poll.ensures.alone

pub returns-clause-rightly : goal.returns-clause-rightly
returns-clause-rightly g c =
    subst (λ l. Growing (ClosesOn c.args.self.now.closing) (g.L.Link.story c.args.self.now.link) (g.L.Link.story l)) (sym c.is_over-is_over.ensures.link) (closes_alone c.args.self.now.closing _ _ c.poll.ensures.alone)

pub returns-clause-polls : goal.returns-clause-polls
returns-clause-polls g c =
    subst (λ l. Polls c.args.self.now.jobs c.args.self.now.turns c.args.self.now.log c.args.self.now.crew c.args.self.now.closing (g.L.Link.story c.args.self.now.link) (g.L.Link.story l)) (sym c.is_over-is_over.ensures.link) c.in_ok-polled.ensures.polls

pub returns-clause-came : goal.returns-clause-came
returns-clause-came g c =
    subst (λ l. Comes c.args.self.now.jobs c.args.self.now.log c.args.self.now.crew c.is_over-is_over.new.self.crew (g.L.Link.story c.args.self.now.link) (g.L.Link.story l)) (sym c.is_over-is_over.ensures.link)
    (subst (λ w. Comes c.args.self.now.jobs c.args.self.now.log c.args.self.now.crew w (g.L.Link.story c.args.self.now.link) (g.L.Link.story c.poll.new.self.link)) (sym c.is_over-is_over.ensures.crew) c.in_ok-polled.ensures.came)

pub returns-clause-waits : goal.returns-clause-waits
returns-clause-waits g c =
    subst (λ l. Growing (WaitsOn c.args.self.now.closing) (g.L.Link.story c.args.self.now.link) (g.L.Link.story l)) (sym c.is_over-is_over.ensures.link) (c.in_ok-polled.ensures.waits c.requires.waits)

pub returns-in_err-polled-clause-few : goal.returns-in_err-polled-clause-few
returns-in_err-polled-clause-few g c = failed_few _ _ _ (c.in_err-polled.ensures.few)
