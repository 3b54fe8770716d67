use Rattle.std.proofs.Common.{◌≡◌, None, refl, reverse, sym, subst, ap, ◌∙◌}
use Rattle.std.specs.Prelude.{length}
use Rattle.std.proofs.lemmas.List.{length-replicate}
use Rattle.shared_hub.proofs.Running.{leads_first, runs_not, site_done, same_opening, same_relay, same_watched}
use Rattle.hub_core.specs.Seen.{tasks_seen}
use Rattle.tunnel_link.specs.Goes.{GoesOn}
use Rattle.tunnel_link.proofs.Stories.{stays}
use Rattle.hub_core.specs.Commissioned.{log_of}
use Rattle.shared_hub.proofs.Watched.{all_as, watched_all, watched_still}
use Rattle.shared_hub.proofs.run.run.Goals as goal

pub all_done-site-requires-clause-leads : goal.all_done-site-requires-clause-leads
all_done-site-requires-clause-leads g c κs within = leads_first c.args.workers _ c.new.result c.args.hub c.in-Ok.seat.seen (ap (λ s. s.seen) c.in-Ok.ensures.seat ∙ c.in-Ok.ensures.opening) c.new.ensures.opening c.new.ensures.relay c.requires.crew

pub ended-requires-clause-done : goal.ended-requires-clause-done
ended-requires-clause-done g c = λ fine.
    let same : c.all_done-site.result.0.opening.value ≡ c.new.result.opening.value = same_opening c.new.result c.all_done-site.result.0 c.in-Ok.cell.opening c.in-Ok.ensures.opening c.all_done-site.ensures.opening in
    let many : length c.all_done-site.result.0.opening.value.crew ≡ c.args.workers = ap (λ h. length h.crew) (same ∙ c.new.ensures.opening) ∙ (ap length c.requires.crew ∙ length-replicate c.args.workers None) in
    site_done g.L.Link.story g.L.Link.script g.L.Link.faults c.args.workers _ c.all_done-site.result.0 c.keeps.ensures.keeps many c.requires.some_worker c.keeps.ensures.form c.all_done-site.ensures.done c.all_done-site.ensures.told fine

pub ended-requires-clause-feed : goal.ended-requires-clause-feed
ended-requires-clause-feed g c = same_relay c.new.result c.all_done-site.result.0 c.in-Ok.cell.opening c.in-Ok.ensures.opening c.all_done-site.ensures.opening ∙ c.new.ensures.relay

pub returns-in-Ok-clause-watched : goal.returns-in-Ok-clause-watched
returns-in-Ok-clause-watched g c =
    let same : c.all_done-site.result.0.opening.value ≡ c.new.result.opening.value = same_opening c.new.result c.all_done-site.result.0 c.in-Ok.cell.opening c.in-Ok.ensures.opening c.all_done-site.ensures.opening in
    let watched : c.all_done-site.result.0.watched.value ≡ c.new.result.watched.value = same_watched c.new.result c.all_done-site.result.0 c.in-Ok.cell.opening c.in-Ok.ensures.opening c.all_done-site.ensures.opening in
    all_as _ _ _ _ _ _ _ _ _ (ap (λ h. tasks_seen h.jobs) (same ∙ c.new.ensures.opening)) (ap (λ h. h.devices) (same ∙ c.new.ensures.opening)) (ap g.W.Watcher.watch (watched ∙ ap (λ w. w.value) c.new.ensures.watched)) c.ended.ensures.watched

-- there was no memory for its cell

pub returns-clause-runs : goal.returns-clause-runs
returns-clause-runs g c =
    let same : c.given_up-link.result.0 ≡ c.args.hub.link = c.given_up-link.ensures.link ∙ (ap (λ s. s.hub.link) c.in-Err.ensures.refused ∙ ap (λ h. h.link) c.new.ensures.hub) in
    runs_not g.L.Link.story g.L.Link.place g.L.Link.script g.L.Link.faults c.args.hub c.given_up-link.result.0 c.nothing_done.result c.every_safe_interleaving.ensures c.requires.opening.link same
    c.nothing_done.ensures.log c.nothing_done.ensures.heard c.nothing_done.ensures.missed c.nothing_done.ensures.dropped c.nothing_done.ensures.fault

pub returns-clause-watched : goal.returns-clause-watched
returns-clause-watched g c =
    let none : log_of c.nothing_done.result ≡ c.in-Err.site.hub.log = ap reverse c.nothing_done.ensures.log ∙ sym (ap (λ s. s.hub.log) c.in-Err.ensures.refused ∙ (ap (λ h. h.log) c.new.ensures.hub ∙ c.requires.opening.log)) in
    let goes : GoesOn (g.L.Link.story c.in-Err.site.hub.link) (g.L.Link.story c.given_up-link.result.0) = subst (λ l. GoesOn (g.L.Link.story c.in-Err.site.hub.link) (g.L.Link.story l)) (sym c.given_up-link.ensures.link) (stays (g.L.Link.story c.in-Err.site.hub.link) (g.L.Link.story c.in-Err.site.hub.link) refl).on in
    all_as _ _ _ _ _ _ _ _ _ (ap (λ s. tasks_seen s.hub.jobs) c.in-Err.ensures.refused ∙ ap (λ h. tasks_seen h.jobs) c.new.ensures.hub) (ap (λ s. s.hub.devices) c.in-Err.ensures.refused ∙ ap (λ h. h.devices) c.new.ensures.hub)
    (ap (λ s. g.W.Watcher.watch s.watched.value) c.in-Err.ensures.refused ∙ ap (λ w. g.W.Watcher.watch w.value) c.new.ensures.watched)
    (watched_all _ _ c.in-Err.site.hub.devices (log_of c.nothing_done.result) _ _ c.in-Err.site.watching c.given_up-link.ensures.watcher (watched_still _ _ _ _ _ _ _ _ _ _ refl goes refl none c.given_up-link.ensures.watches))
