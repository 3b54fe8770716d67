use Rattle.hub_core.proofs.Hears.{hears_after, few_after, few_still, failed_few}
use Rattle.std.proofs.Common.{◌≡◌, None, sym, subst}
use Rattle.hub_work.specs.Closes.{Begins}
use Rattle.hub_core.specs.Closes.{Closes, Resumes}
use Rattle.hub_core.specs.Pumps.{AddsSo}
use Rattle.hub_core.proofs.Endings.{closes_now, closes_all, goes_after}
use Rattle.line_model.specs.LinkStory.{newest_time}
use Rattle.line_model.specs.Record.{entries}
use Rattle.tunnel_link.specs.Adds.{AllNothing, Growing}
use Rattle.tunnel_link.specs.Rights.{WhereTold}
use Rattle.hub_core.specs.Leaving.{ClosesOn, WaitsOn}
use Rattle.line_model.specs.Closing as line
use Rattle.tunnel_link.specs.Alone.{Each, LeavesAlone}
use Rattle.hub_core.proofs.Leaving.{alone_right, on_none, closes_alone, on_with}
use Rattle.hub_core.proofs.InTime.{sends_right}
use Rattle.std.proofs.Common.{◌∙◌, ap}
use Rattle.hub_core.proofs.Polls.{goes_once, closes_unpolled, none_sent, runs_on, ok_as}
use Rattle.hub_core.specs.Polls.{SendsOnly}
use Rattle.hub_core.proofs.Came.{comes_after, none_comes, none_added}
use Rattle.hub_core.proofs.Since.{since_again, since_itself, still_since}
use Rattle.hub_core.proofs.hub.Hub.finish.Goals as goal

pub returns-in-Some-clause-since : goal.returns-in-Some-clause-since
returns-in-Some-clause-since g c = since_itself

pub returns-then-is_over-clause-since : goal.returns-then-is_over-clause-since
returns-then-is_over-clause-since g c =
    let none : c.args.self.now.fault ≡ None = ap (λ v. v.fault) (sym c.self.view_is) ∙ (sym c.fault.ensures ∙ c.in_default.is) in
    still_since c.is_over.ensures.link (c.is_over.ensures.stands ∙ sym none) c.is_over.ensures.run

pub returns-in_err-act-clause-since : goal.returns-in_err-act-clause-since
returns-in_err-act-clause-since g c =
    let none : c.args.self.now.fault ≡ None = ap (λ v. v.fault) (sym c.self.view_is) ∙ (sym c.fault.ensures ∙ c.in_default.is) in
    since_again (still_since c.is_over.ensures.link (c.is_over.ensures.stands ∙ sym none) c.is_over.ensures.run) c.act.ensures.since

pub returns-clause-since : goal.returns-clause-since
returns-clause-since g c =
    let none : c.args.self.now.fault ≡ None = ap (λ v. v.fault) (sym c.self.view_is) ∙ (sym c.fault.ensures ∙ c.in_default.is) in
    since_again (since_again (still_since c.is_over.ensures.link (c.is_over.ensures.stands ∙ sym none) c.is_over.ensures.run) c.act.ensures.since) c.goes_on.ensures.since

pub returns-clause-heard : goal.returns-clause-heard
returns-clause-heard g c = rw (← c.is_over.ensures.link) (hears_after _ (g.L.Link.story c.act.new.self.link) _ c.goes_on.result c.goes_on.ensures.since.grows c.in_ok-act.ensures.heard c.goes_on.ensures.heard)

pub returns-then-is_over-clause-closes : goal.returns-then-is_over-clause-closes
returns-then-is_over-clause-closes g c =
    subst (λ l. AddsSo (Closes c.args.self.now.closing c.is_over.new.self.closing) (g.L.Link.story c.args.self.now.link) (g.L.Link.story l)) (sym c.is_over.ensures.link) (closes_now _ _ _ c.is_over.ensures.begins)

pub returns-clause-closes : goal.returns-clause-closes
returns-clause-closes g c =
    closes_all c.goes_on.result c.args.self.now.closing c.is_over.new.self.closing c.act.new.self.closing c.goes_on.new.self.closing (g.L.Link.story c.args.self.now.link) (g.L.Link.story c.act.new.self.link) (g.L.Link.story c.goes_on.new.self.link) c.is_over.ensures.begins
    (subst (λ l. AddsSo (Resumes c.is_over.new.self.closing c.act.new.self.closing) (g.L.Link.story l) (g.L.Link.story c.act.new.self.link)) c.is_over.ensures.link c.in_ok-act.ensures.resumes) c.goes_on.ensures.since.grows c.goes_on.ensures.closes

pub returns-clause-goes : goal.returns-clause-goes
returns-clause-goes g c =
    goes_after c.goes_on.result (Resumes c.is_over.new.self.closing c.act.new.self.closing) (g.L.Link.story c.args.self.now.link) (g.L.Link.story c.act.new.self.link) (g.L.Link.story c.goes_on.new.self.link) c.goes_on.ensures.since.grows
    (subst (λ l. AddsSo (Resumes c.is_over.new.self.closing c.act.new.self.closing) (g.L.Link.story l) (g.L.Link.story c.act.new.self.link)) c.is_over.ensures.link c.in_ok-act.ensures.resumes) c.goes_on.ensures.goes

pub returns-then-is_over-clause-rightly : goal.returns-then-is_over-clause-rightly
returns-then-is_over-clause-rightly g c =
    subst (λ l. Growing (ClosesOn c.args.self.now.closing) (g.L.Link.story c.args.self.now.link) (g.L.Link.story l)) (sym c.is_over.ensures.link) (on_none line.ClosesSo c.args.self.now.closing (g.L.Link.story c.args.self.now.link))

pub returns-in_err-act-clause-rightly : goal.returns-in_err-act-clause-rightly
returns-in_err-act-clause-rightly g c =
    subst (λ l. Growing (ClosesOn c.args.self.now.closing) (g.L.Link.story l) (g.L.Link.story c.act.new.self.link)) c.is_over.ensures.link (closes_alone c.args.self.now.closing _ _ c.act.ensures.alone)

pub returns-clause-rightly : goal.returns-clause-rightly
returns-clause-rightly g c =
    subst (λ l. Growing (ClosesOn c.args.self.now.closing) (g.L.Link.story l) (g.L.Link.story c.goes_on.new.self.link)) c.is_over.ensures.link
    (on_with line.ClosesSo (Each LeavesAlone) alone_right c.args.self.now.closing c.is_over.new.self.closing c.act.new.self.closing (g.L.Link.story c.is_over.new.self.link) (g.L.Link.story c.act.new.self.link) (g.L.Link.story c.goes_on.new.self.link) c.act.ensures.since.grows c.goes_on.ensures.since.grows
    (subst (λ l. WhereTold (λ places. Begins (newest_time (entries places)) c.args.self.now.closing c.is_over.new.self.closing) (g.L.Link.story l)) (sym c.is_over.ensures.link) c.is_over.ensures.begins)
    c.act.ensures.alone c.in_ok-act.ensures.resumes c.goes_on.ensures.rightly)

pub returns-then-is_over-clause-polls : goal.returns-then-is_over-clause-polls
returns-then-is_over-clause-polls g c = closes_unpolled c.args.self.now.jobs c.args.self.now.turns c.args.self.now.log c.args.self.now.crew c.args.self.now.closing (g.L.Link.story c.args.self.now.link) (g.L.Link.story c.is_over.new.self.link) (none_sent (g.L.Link.story c.args.self.now.link) (g.L.Link.story c.is_over.new.self.link) (ap (λ l. g.L.Link.story l) c.is_over.ensures.link))

pub returns-clause-polls : goal.returns-clause-polls
returns-clause-polls g c =
    ok_as c.goes_on.result (goes_once c.args.self.now c.act.new.self (runs_on c.args.self.now c.is_over.new.self c.act.new.self c.is_over.ensures.run c.act.ensures.since.run) (c.act.ensures.log ∙ c.is_over.ensures.log)
    (g.L.Link.story c.args.self.now.link) (g.L.Link.story c.act.new.self.link) (g.L.Link.story c.goes_on.new.self.link) (rw (← c.is_over.ensures.link) c.act.ensures.since.grows) c.goes_on.ensures.since.grows
    (subst (λ l. Growing SendsOnly (g.L.Link.story l) (g.L.Link.story c.act.new.self.link)) c.is_over.ensures.link c.in_ok-act.ensures.sends)
    (λ old e. (c.in_ok-act.ensures.still old (rw c.is_over.ensures.link e)).0 ∙ c.is_over.ensures.crew)
    (λ old e. rw (c.in_ok-act.ensures.still old (rw c.is_over.ensures.link e)).1 (c.is_over.ensures.begins old e))) c.goes_on.ensures.polls

pub returns-then-is_over-clause-came : goal.returns-then-is_over-clause-came
returns-then-is_over-clause-came g c =
    none_comes c.args.self.now.jobs c.args.self.now.log (g.L.Link.story c.args.self.now.link) (g.L.Link.story c.is_over.new.self.link) c.args.self.now.crew c.is_over.new.self.crew
    (none_added (g.L.Link.story c.args.self.now.link) (g.L.Link.story c.is_over.new.self.link) (ap (λ l. g.L.Link.story l) c.is_over.ensures.link)) c.is_over.ensures.crew

pub returns-clause-came : goal.returns-clause-came
returns-clause-came g c =
    ok_as c.goes_on.result (comes_after c.args.self.now c.act.new.self (runs_on c.args.self.now c.is_over.new.self c.act.new.self c.is_over.ensures.run c.act.ensures.since.run) (c.act.ensures.log ∙ c.is_over.ensures.log) c.goes_on.new.self.crew
    (g.L.Link.story c.args.self.now.link) (g.L.Link.story c.act.new.self.link) (g.L.Link.story c.goes_on.new.self.link) (rw (← c.is_over.ensures.link) c.act.ensures.since.grows) c.goes_on.ensures.since.grows
    (subst (λ l. Growing AllNothing (g.L.Link.story l) (g.L.Link.story c.act.new.self.link)) c.is_over.ensures.link c.in_ok-act.ensures.nothing)
    (λ old e. (c.in_ok-act.ensures.still old (rw c.is_over.ensures.link e)).0 ∙ c.is_over.ensures.crew)) c.goes_on.ensures.came

pub returns-then-is_over-clause-waits : goal.returns-then-is_over-clause-waits
returns-then-is_over-clause-waits g c =
    subst (λ l. Growing (WaitsOn c.args.self.now.closing) (g.L.Link.story c.args.self.now.link) (g.L.Link.story l)) (sym c.is_over.ensures.link) (on_none line.WaitsSo c.args.self.now.closing (g.L.Link.story c.args.self.now.link))

pub returns-clause-waits : goal.returns-clause-waits
returns-clause-waits g c =
    ok_as c.goes_on.result (λ h. subst (λ l. Growing (WaitsOn c.args.self.now.closing) (g.L.Link.story l) (g.L.Link.story c.goes_on.new.self.link)) c.is_over.ensures.link
    (on_with line.WaitsSo SendsOnly sends_right c.args.self.now.closing c.is_over.new.self.closing c.act.new.self.closing (g.L.Link.story c.is_over.new.self.link) (g.L.Link.story c.act.new.self.link) (g.L.Link.story c.goes_on.new.self.link) c.act.ensures.since.grows c.goes_on.ensures.since.grows
    (subst (λ l. WhereTold (λ places. Begins (newest_time (entries places)) c.args.self.now.closing c.is_over.new.self.closing) (g.L.Link.story l)) (sym c.is_over.ensures.link) c.is_over.ensures.begins)
    c.in_ok-act.ensures.sends c.in_ok-act.ensures.resumes h)) c.goes_on.ensures.waits

pub returns-in_err-act-clause-few : goal.returns-in_err-act-clause-few
returns-in_err-act-clause-few g c = rw (← c.is_over.ensures.link) (failed_few _ _ _ c.in_err-act.ensures.few)

pub returns-clause-few : goal.returns-clause-few
returns-clause-few g c = rw (← c.is_over.ensures.link) (few_after _ (g.L.Link.story c.act.new.self.link) _ c.goes_on.result c.goes_on.ensures.since.grows c.in_ok-act.ensures.heard c.goes_on.ensures.few)

pub returns-in-Some-clause-few : goal.returns-in-Some-clause-few
returns-in-Some-clause-few g c = few_still _
