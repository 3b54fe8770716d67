use Rattle.std.proofs.Common.{Bool, subst, ◌∙◌}
use Rattle.tunnel_link.proofs.Stories.{goes_again}
use Rattle.hub_core.proofs.Hears.{hears_all, few_still, few_then, failed_few}
use Rattle.hub_core.specs.Pumps.{AddsSo, Does, is_left_now}
use Rattle.hub_core.proofs.Pumping.{pumps_so}
use Rattle.tunnel_link.specs.Alone.{EndsNone}
use Rattle.tunnel_link.proofs.Alone.{both_each}
use Rattle.hub_core.proofs.Leaving.{ends_none_of}
use Rattle.hub_core.proofs.Polls.{pumps_once, sends_two, runs_on}
use Rattle.hub_core.proofs.Came.{comes_after, nothing_both}
use Rattle.hub_core.proofs.Since.{since_again, since_itself}
use Rattle.hub_core.proofs.hub.Hub.pump.Goals as goal

pub returns-in-Some-clause-since : goal.returns-in-Some-clause-since
returns-in-Some-clause-since g c = since_itself

pub returns-in_err-acted-clause-since : goal.returns-in_err-acted-clause-since
returns-in_err-acted-clause-since g c =
    c.act.ensures.since

pub returns-in_err-sought-clause-since : goal.returns-in_err-sought-clause-since
returns-in_err-sought-clause-since g c =
    since_again c.act.ensures.since c.seek.ensures.since

pub returns-in_err-polled-clause-since : goal.returns-in_err-polled-clause-since
returns-in_err-polled-clause-since g c =
    since_again (since_again c.act.ensures.since c.seek.ensures.since) c.poll.ensures.since

pub returns-clause-since : goal.returns-clause-since
returns-clause-since g c =
    since_again (since_again c.act.ensures.since c.seek.ensures.since) c.poll.ensures.since

pub returns-clause-heard : goal.returns-clause-heard
returns-clause-heard g c =
    hears_all _ (g.L.Link.story c.act.new.self.link) (g.L.Link.story c.seek.new.self.link) _ c.pumped.result c.in_ok-polled.polled.heard c.pumped.ensures.heard c.seek.ensures.since.grows c.poll.ensures.since.grows c.in_ok-acted.ensures.heard c.in_ok-sought.ensures.heard c.in_ok-polled.ensures.heard

pub returns-clause-says : goal.returns-clause-says
returns-clause-says g c =
    pumps_so _ c.in_ok-acted.acted c.in_ok-sought.sought c.in_ok-polled.polled.moved c.pumped.result _ (g.L.Link.story c.act.new.self.link) (g.L.Link.story c.seek.new.self.link) _ c.seek.ensures.since.grows c.poll.ensures.since.grows c.in_ok-acted.ensures.does
    (subst (λ (b : Bool). AddsSo (Does (is_left_now b) c.in_ok-sought.sought) (g.L.Link.story c.act.new.self.link) (g.L.Link.story c.seek.new.self.link)) c.in_ok-acted.ensures.begun c.in_ok-sought.ensures.does) c.in_ok-polled.ensures.moves c.pumped.ensures.answers
    (hears_all _ (g.L.Link.story c.act.new.self.link) (g.L.Link.story c.seek.new.self.link) _ c.pumped.result c.in_ok-polled.polled.heard c.pumped.ensures.heard c.seek.ensures.since.grows c.poll.ensures.since.grows c.in_ok-acted.ensures.heard c.in_ok-sought.ensures.heard c.in_ok-polled.ensures.heard)

pub returns-in_err-acted-clause-ends_none : goal.returns-in_err-acted-clause-ends_none
returns-in_err-acted-clause-ends_none g c = ends_none_of _ _ c.act.ensures.alone

pub returns-in_err-sought-clause-ends_none : goal.returns-in_err-sought-clause-ends_none
returns-in_err-sought-clause-ends_none g c = both_each EndsNone _ _ _ c.act.ensures.since.grows c.seek.ensures.since.grows (ends_none_of _ _ c.act.ensures.alone) c.seek.ensures.ends_none

pub returns-in_err-polled-clause-ends_none : goal.returns-in_err-polled-clause-ends_none
returns-in_err-polled-clause-ends_none g c = both_each EndsNone _ _ _ (goes_again _ _ _ c.act.ensures.since.grows c.seek.ensures.since.grows) c.poll.ensures.since.grows (both_each EndsNone _ _ _ c.act.ensures.since.grows c.seek.ensures.since.grows (ends_none_of _ _ c.act.ensures.alone) c.seek.ensures.ends_none) (ends_none_of _ _ c.poll.ensures.alone)

pub returns-clause-ends_none : goal.returns-clause-ends_none
returns-clause-ends_none g c = both_each EndsNone _ _ _ (goes_again _ _ _ c.act.ensures.since.grows c.seek.ensures.since.grows) c.poll.ensures.since.grows (both_each EndsNone _ _ _ c.act.ensures.since.grows c.seek.ensures.since.grows (ends_none_of _ _ c.act.ensures.alone) c.seek.ensures.ends_none) (ends_none_of _ _ c.poll.ensures.alone)

pub returns-clause-polls : goal.returns-clause-polls
returns-clause-polls g c =
    pumps_once c.args.self.now c.seek.new.self (runs_on c.args.self.now c.act.new.self c.seek.new.self c.act.ensures.since.run c.seek.ensures.since.run) (c.seek.ensures.log ∙ c.act.ensures.log) (g.L.Link.story c.args.self.now.link) (g.L.Link.story c.seek.new.self.link) (g.L.Link.story c.poll.new.self.link)
    (goes_again _ _ _ c.act.ensures.since.grows c.seek.ensures.since.grows) c.poll.ensures.since.grows (sends_two _ (g.L.Link.story c.act.new.self.link) _ c.act.ensures.since.grows c.seek.ensures.since.grows c.in_ok-acted.ensures.sends c.in_ok-sought.ensures.sends)
    (λ old e. (c.seek.ensures.crew ∙ (c.in_ok-acted.ensures.still old e).0, c.seek.ensures.closing ∙ (c.in_ok-acted.ensures.still old e).1)) c.in_ok-polled.ensures.polls

pub returns-clause-came : goal.returns-clause-came
returns-clause-came g c =
    comes_after c.args.self.now c.seek.new.self (runs_on c.args.self.now c.act.new.self c.seek.new.self c.act.ensures.since.run c.seek.ensures.since.run) (c.seek.ensures.log ∙ c.act.ensures.log) c.poll.new.self.crew
    (g.L.Link.story c.args.self.now.link) (g.L.Link.story c.seek.new.self.link) (g.L.Link.story c.poll.new.self.link) (goes_again _ _ _ c.act.ensures.since.grows c.seek.ensures.since.grows) c.poll.ensures.since.grows
    (nothing_both _ (g.L.Link.story c.act.new.self.link) _ c.act.ensures.since.grows c.seek.ensures.since.grows c.in_ok-acted.ensures.nothing c.in_ok-sought.ensures.nothing)
    (λ old e. c.seek.ensures.crew ∙ (c.in_ok-acted.ensures.still old e).0) c.in_ok-polled.ensures.came

pub returns-in_err-acted-clause-few : goal.returns-in_err-acted-clause-few
returns-in_err-acted-clause-few g c = failed_few _ _ _ (c.in_err-acted.ensures.few)

pub returns-in_err-sought-clause-few : goal.returns-in_err-sought-clause-few
returns-in_err-sought-clause-few g c = failed_few _ _ _ (few_then _ (g.L.Link.story c.act.new.self.link) _ c.seek.ensures.since.grows c.in_ok-acted.ensures.heard c.in_err-sought.ensures.few)

pub returns-in_err-polled-clause-few : goal.returns-in_err-polled-clause-few
returns-in_err-polled-clause-few g c = failed_few _ _ _ (few_then _ (g.L.Link.story c.act.new.self.link) _ (goes_again _ _ _ c.seek.ensures.since.grows c.poll.ensures.since.grows) c.in_ok-acted.ensures.heard (few_then _ (g.L.Link.story c.seek.new.self.link) _ c.poll.ensures.since.grows c.in_ok-sought.ensures.heard c.in_err-polled.ensures.few))

pub returns-in-Some-clause-few : goal.returns-in-Some-clause-few
returns-in-Some-clause-few g c = few_still _
