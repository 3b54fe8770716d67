use Rattle.std.proofs.Common.{◌≡◌, Some, false, refl, sym, subst}
use Rattle.std.specs.Prelude.{OnOk, ◌&&◌}
use Rattle.hub_core.specs.Closes.{Resumes}
use Rattle.hub_core.specs.Pumps.{AddsSo}
use Rattle.hub_core.proofs.Endings.{closes_ok}
use Rattle.line_model.specs.LinkStory.{places_in, newest_time}
use Rattle.line_model.specs.Record.{entries}
use Rattle.tunnel_link.specs.Adds.{AllNothing, Growing}
use Rattle.tunnel_link.specs.Rights.{WhereTold}
use Rattle.hub_core.specs.Leaving.{ClosesOn, WaitsOn}
use Rattle.line_model.specs.Closing as line
use Rattle.hub_core.proofs.Leaving.{on_begun}
use Rattle.hub_work.specs.Closes.{closing_of, Begins}
use Rattle.hub_core.proofs.InTime.{begun_waits, waits_sending}
use Rattle.tunnel_link.proofs.Stories.{stays}
use Rattle.hub_core.specs.Polls.{SendsOnly, Polls}
use Rattle.hub_core.proofs.Polls.{closes_once, closes_unpolled, none_sent, ok_as}
use Rattle.std.proofs.Common.{◌∙◌}
use Rattle.hub_core.specs.Came.{Comes}
use Rattle.hub_core.proofs.Came.{comes_after, none_comes, none_added}
use Rattle.hub_core.proofs.Since.{since_again, still_since}
use Rattle.hub_core.proofs.hub.Hub.goes_on.Goals as goal

pub listen-requires-clause-waits : goal.listen-requires-clause-waits
listen-requires-clause-waits g c = λ places e.
    let was : places_in (g.L.Link.story c.args.self.now.link) ≡ Some places = subst (λ l. places_in (g.L.Link.story l) ≡ Some places) c.closing.ensures.link e in
    let now : c.now-now.result ≡ newest_time (entries places) = c.now-now.ensures.newest places (subst (λ v. places_in (g.L.Link.story v.link) ≡ Some places) (sym c.self.view_is) was) in
    begun_waits c.closing.result c.args.self.now.closing c.closing.new.self.closing (newest_time (entries places)) c.closing.ensures.is (c.closing.ensures.begins places was)
    (subst (λ n. (line.is_listening (closing_of c.closing.result) && line.has_waited (closing_of c.closing.result) n) ≡ false) now (sym c.asks.ensures ∙ c.if-asks.false)) (c.requires.awaits places was)

pub returns-then-asks-clause-since : goal.returns-then-asks-clause-since
returns-then-asks-clause-since g c = since_again (still_since c.closing.ensures.link (c.closing.ensures.stands ∙ sym c.requires.stands) c.closing.ensures.run) c.leave.ensures.since

pub returns-else-asks-clause-since : goal.returns-else-asks-clause-since
returns-else-asks-clause-since g c = since_again (still_since c.closing.ensures.link (c.closing.ensures.stands ∙ sym c.requires.stands) c.closing.ensures.run) c.listen.ensures.since

pub returns-then-asks-clause-closes : goal.returns-then-asks-clause-closes
returns-then-asks-clause-closes g c =
    closes_ok c.leave.result c.args.self.now.closing c.closing.new.self.closing c.leave.new.self.closing (g.L.Link.story c.args.self.now.link) (g.L.Link.story c.leave.new.self.link) c.closing.ensures.begins
    (subst (λ l. OnOk c.leave.result (AddsSo (Resumes c.closing.new.self.closing c.leave.new.self.closing) (g.L.Link.story l) (g.L.Link.story c.leave.new.self.link))) c.closing.ensures.link c.leave.ensures.resumes)

pub returns-else-asks-clause-closes : goal.returns-else-asks-clause-closes
returns-else-asks-clause-closes g c =
    closes_ok c.listen.result c.args.self.now.closing c.closing.new.self.closing c.listen.new.self.closing (g.L.Link.story c.args.self.now.link) (g.L.Link.story c.listen.new.self.link) c.closing.ensures.begins
    (subst (λ l. OnOk c.listen.result (AddsSo (Resumes c.closing.new.self.closing c.listen.new.self.closing) (g.L.Link.story l) (g.L.Link.story c.listen.new.self.link))) c.closing.ensures.link c.listen.ensures.resumes)

pub returns-then-asks-clause-rightly : goal.returns-then-asks-clause-rightly
returns-then-asks-clause-rightly g c =
    subst (λ l. Growing (ClosesOn c.args.self.now.closing) (g.L.Link.story l) (g.L.Link.story c.leave.new.self.link)) c.closing.ensures.link
    (on_begun line.ClosesSo c.args.self.now.closing c.closing.new.self.closing (g.L.Link.story c.closing.new.self.link) (g.L.Link.story c.leave.new.self.link) (subst (λ l. WhereTold (λ places. Begins (newest_time (entries places)) c.args.self.now.closing c.closing.new.self.closing) (g.L.Link.story l)) (sym c.closing.ensures.link) c.closing.ensures.begins) c.leave.ensures.rightly)

pub returns-else-asks-clause-rightly : goal.returns-else-asks-clause-rightly
returns-else-asks-clause-rightly g c =
    subst (λ l. Growing (ClosesOn c.args.self.now.closing) (g.L.Link.story l) (g.L.Link.story c.listen.new.self.link)) c.closing.ensures.link
    (on_begun line.ClosesSo c.args.self.now.closing c.closing.new.self.closing (g.L.Link.story c.closing.new.self.link) (g.L.Link.story c.listen.new.self.link) (subst (λ l. WhereTold (λ places. Begins (newest_time (entries places)) c.args.self.now.closing c.closing.new.self.closing) (g.L.Link.story l)) (sym c.closing.ensures.link) c.closing.ensures.begins) c.listen.ensures.rightly)

pub returns-then-asks-clause-polls : goal.returns-then-asks-clause-polls
returns-then-asks-clause-polls g c =
    ok_as c.leave.result (λ h. closes_unpolled c.args.self.now.jobs c.args.self.now.turns c.args.self.now.log c.args.self.now.crew c.args.self.now.closing (g.L.Link.story c.args.self.now.link) (g.L.Link.story c.leave.new.self.link) (subst (λ l. Growing SendsOnly (g.L.Link.story l) (g.L.Link.story c.leave.new.self.link)) c.closing.ensures.link h)) c.leave.ensures.sends

pub returns-else-asks-clause-polls : goal.returns-else-asks-clause-polls
returns-else-asks-clause-polls g c =
    ok_as c.listen.result (λ h. closes_once c.args.self.now c.closing.new.self c.closing.ensures.run c.closing.ensures.log (g.L.Link.story c.args.self.now.link) (g.L.Link.story c.args.self.now.link) (g.L.Link.story c.listen.new.self.link)
    (stays (g.L.Link.story c.args.self.now.link) (g.L.Link.story c.args.self.now.link) refl).on (rw (← c.closing.ensures.link) c.listen.ensures.since.grows) (none_sent (g.L.Link.story c.args.self.now.link) (g.L.Link.story c.args.self.now.link) refl) (λ old e. c.closing.ensures.crew) c.closing.ensures.begins
    (subst (λ l. Polls c.closing.new.self.jobs c.closing.new.self.turns c.closing.new.self.log c.closing.new.self.crew c.closing.new.self.closing (g.L.Link.story l) (g.L.Link.story c.listen.new.self.link)) c.closing.ensures.link h)) c.listen.ensures.polls

pub returns-then-asks-clause-came : goal.returns-then-asks-clause-came
returns-then-asks-clause-came g c =
    ok_as c.leave.result (λ h. none_comes c.args.self.now.jobs c.args.self.now.log (g.L.Link.story c.args.self.now.link) (g.L.Link.story c.leave.new.self.link) c.args.self.now.crew c.leave.new.self.crew
    (subst (λ l. Growing AllNothing (g.L.Link.story l) (g.L.Link.story c.leave.new.self.link)) c.closing.ensures.link h) (c.leave.ensures.crew ∙ c.closing.ensures.crew)) c.leave.ensures.nothing

pub returns-else-asks-clause-came : goal.returns-else-asks-clause-came
returns-else-asks-clause-came g c =
    ok_as c.listen.result (λ h. comes_after c.args.self.now c.closing.new.self c.closing.ensures.run c.closing.ensures.log c.listen.new.self.crew (g.L.Link.story c.args.self.now.link) (g.L.Link.story c.args.self.now.link) (g.L.Link.story c.listen.new.self.link)
    (stays (g.L.Link.story c.args.self.now.link) (g.L.Link.story c.args.self.now.link) refl).on (rw (← c.closing.ensures.link) c.listen.ensures.since.grows) (none_added (g.L.Link.story c.args.self.now.link) (g.L.Link.story c.args.self.now.link) refl) (λ old e. c.closing.ensures.crew)
    (subst (λ l. Comes c.closing.new.self.jobs c.closing.new.self.log c.closing.new.self.crew c.listen.new.self.crew (g.L.Link.story l) (g.L.Link.story c.listen.new.self.link)) c.closing.ensures.link h)) c.listen.ensures.came

pub returns-then-asks-clause-waits : goal.returns-then-asks-clause-waits
returns-then-asks-clause-waits g c =
    ok_as c.leave.result (λ h. subst (λ l. Growing (WaitsOn c.args.self.now.closing) (g.L.Link.story l) (g.L.Link.story c.leave.new.self.link)) c.closing.ensures.link
    (on_begun line.WaitsSo c.args.self.now.closing c.closing.new.self.closing (g.L.Link.story c.closing.new.self.link) (g.L.Link.story c.leave.new.self.link) (subst (λ l. WhereTold (λ places. Begins (newest_time (entries places)) c.args.self.now.closing c.closing.new.self.closing) (g.L.Link.story l)) (sym c.closing.ensures.link) c.closing.ensures.begins) (waits_sending c.closing.new.self.closing (g.L.Link.story c.closing.new.self.link) (g.L.Link.story c.leave.new.self.link) h))) c.leave.ensures.sends

pub returns-else-asks-clause-waits : goal.returns-else-asks-clause-waits
returns-else-asks-clause-waits g c =
    ok_as c.listen.result (λ h. subst (λ l. Growing (WaitsOn c.args.self.now.closing) (g.L.Link.story l) (g.L.Link.story c.listen.new.self.link)) c.closing.ensures.link
    (on_begun line.WaitsSo c.args.self.now.closing c.closing.new.self.closing (g.L.Link.story c.closing.new.self.link) (g.L.Link.story c.listen.new.self.link) (subst (λ l. WhereTold (λ places. Begins (newest_time (entries places)) c.args.self.now.closing c.closing.new.self.closing) (g.L.Link.story l)) (sym c.closing.ensures.link) c.closing.ensures.begins) h)) c.listen.ensures.waits
