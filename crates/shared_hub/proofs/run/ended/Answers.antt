use Rattle.std.proofs.Common.{◌≡◌, None, sym, subst, ap, ◌∙◌}
use Rattle.hub_core.specs.Left.{AllDone}
use Rattle.shared_hub.specs.Sites.{SiteKeeps}
use Rattle.shared_hub.proofs.Running.{ends_hearing, ends_so}
use Rattle.hub_core.specs.Commissioned.{log_of}
use Rattle.hub_core.specs.Seen.{tasks_seen}
use Rattle.tunnel_link.specs.Goes.{GoesOn}
use Rattle.shared_hub.proofs.Still.{done_still, through_still}
use Rattle.shared_hub.proofs.Watched.{watched_all, watched_still}
use Rattle.shared_hub.proofs.run.ended.Goals as goal

pub close-heard-requires-clause-feed_of : goal.close-heard-requires-clause-feed_of
close-heard-requires-clause-feed_of g c =
    let keeps : SiteKeeps g.L.Link.story g.L.Link.script g.L.Link.faults c.apart-hub.result.hub c.args.site.opening.value c.apart-hub.result.feed c.args.site.relay.value = rw (c.apart-hub.ensures.hub, c.apart-hub.ensures.feed) c.apart-hub.ensures.keeps in
    keeps.of ∙ c.requires.feed

pub end-link-requires-clause-done : goal.end-link-requires-clause-done
end-link-requires-clause-done g c = λ none.
    let stands : c.apart-hub.result.hub.fault ≡ None = sym c.close-heard.ensures.hub.fault ∙ (sym c.fault-ended.ensures ∙ none) in
    done_still c.apart-hub.result.hub c.close-heard.new.hub c.close-heard.ensures.hub (subst (λ h. AllDone h) (sym c.apart-hub.ensures.hub) (c.requires.done (sym (ap (λ h. h.fault) c.apart-hub.ensures.hub) ∙ stands)))

pub end-link-requires-clause-through : goal.end-link-requires-clause-through
end-link-requires-clause-through g c =
    let keeps : SiteKeeps g.L.Link.story g.L.Link.script g.L.Link.faults c.apart-hub.result.hub c.args.site.opening.value c.apart-hub.result.feed c.args.site.relay.value = rw (c.apart-hub.ensures.hub, c.apart-hub.ensures.feed) c.apart-hub.ensures.keeps in
    through_still c.apart-hub.result.hub c.close-heard.new.hub c.close-heard.ensures.hub g.L.Link.story keeps.through

pub end-link-requires-clause-heard : goal.end-link-requires-clause-heard
end-link-requires-clause-heard g c =
    let keeps : SiteKeeps g.L.Link.story g.L.Link.script g.L.Link.faults c.apart-hub.result.hub c.args.site.opening.value c.apart-hub.result.feed c.args.site.relay.value = rw (c.apart-hub.ensures.hub, c.apart-hub.ensures.feed) c.apart-hub.ensures.keeps in
    ends_hearing g.L.Link.story g.L.Link.place g.L.Link.script g.L.Link.faults c.apart-hub.result.hub c.close-heard.new.hub _ _ _ keeps c.close-heard.ensures.hub _ c.close-heard.ensures.heard

pub returns-clause-runs : goal.returns-clause-runs
returns-clause-runs g c =
    let keeps : SiteKeeps g.L.Link.story g.L.Link.script g.L.Link.faults c.apart-hub.result.hub c.args.site.opening.value c.apart-hub.result.feed c.args.site.relay.value = rw (c.apart-hub.ensures.hub, c.apart-hub.ensures.feed) c.apart-hub.ensures.keeps in
    ends_so g.L.Link.story g.L.Link.place g.L.Link.script g.L.Link.faults c.apart-hub.result.hub c.close-heard.new.hub _ _ _ keeps c.close-heard.ensures.hub _ _ c.end-link.ensures.grows c.end-link.ensures.script c.end-link.ensures.tells c.end-link.ensures.counts

pub returns-clause-watched : goal.returns-clause-watched
returns-clause-watched g c =
    let log : log_of c.end-link.result.1 ≡ c.args.site.hub.log = c.end-link.ensures.log ∙ (c.close-heard.ensures.hub.log ∙ ap (λ h. h.log) c.apart-hub.ensures.hub) in
    let tasks : tasks_seen c.args.site.opening.value.jobs ≡ tasks_seen c.args.site.hub.jobs = sym c.apart-hub.ensures.keeps.since.run.tasks in
    let goes : GoesOn (g.L.Link.story c.args.site.hub.link) (g.L.Link.story c.end-link.result.0) = subst (λ l. GoesOn (g.L.Link.story l) (g.L.Link.story c.end-link.result.0)) (c.close-heard.ensures.hub.link ∙ ap (λ h. h.link) c.apart-hub.ensures.hub) c.end-link.ensures.grows in
    watched_all _ _ c.args.site.opening.value.devices (log_of c.end-link.result.1) _ _ c.args.site.watching (c.into_watcher.ensures ∙ ap (λ w. w.watch) c.apart-hub.ensures.watching)
    (watched_still _ _ _ _ _ _ _ _ _ _ tasks goes (sym c.apart-hub.ensures.keeps.since.run.devices) log c.apart-hub.ensures.watches)
