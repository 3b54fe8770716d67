use Rattle.std.proofs.Common.{◌≡◌, ◌⊎◌, inr, None, refl, reverse, sym, subst, ap, ◌∙◌}
use Rattle.std.specs.Prelude.{length}
use Rattle.std.proofs.lemmas.List.{length-replicate}
use Rattle.line_model.specs.LinkStory.{IsNewLink}
use Rattle.line_model.specs.Polled.{after_fault}
use Rattle.tunnel_link.specs.Goes.{GoesOn}
use Rattle.tunnel_link.proofs.Stories.{stays}
use Rattle.hub_core.specs.Commissioned.{WantsAtFirst}
use Rattle.shared_hub.proofs.New.{new_tells}
use Rattle.shared_hub.proofs.Running.{opens_so, told_by}
use Rattle.shared_hub.proofs.Told.{told_for}
use Rattle.shared_hub.proofs.Watched.{all_as, none_watched}
use Rattle.shared_hub.proofs.run.commission.Goals as goal

pub run-requires-clause-opening : goal.run-requires-clause-opening
run-requires-clause-opening g c κs within = opens_so g.L.Link.story c.in-Ok.hub (subst (λ l. IsNewLink (g.L.Link.story l)) (sym c.in-Ok.ensures.link) c.requires.new) c.in-Ok.ensures.log c.in-Ok.ensures.fault c.in-Ok.ensures.unbegun c.in-Ok.ensures.missed

pub returns-in-Ok-clause-commissioned : goal.returns-in-Ok-clause-commissioned
returns-in-Ok-clause-commissioned g c =
    let link_is : c.in-Ok.hub.link ≡ c.args.link = c.in-Ok.ensures.link in
    let many : length c.in-Ok.hub.crew ≡ c.args.workers = ap length c.in-Ok.ensures.crew ∙ length-replicate c.args.workers None in
    record {
      grows = subst (λ l. GoesOn (g.L.Link.story l) (g.L.Link.story c.run.result.0)) link_is c.run.ensures.runs.grows;
      script = c.run.ensures.runs.script ∙ ap g.L.Link.script link_is;
      counts = subst (λ l. (g.L.Link.faults c.run.result.0 ≡ after_fault c.run.result.1.fault (g.L.Link.faults l)) ⊎ (WantsAtFirst c.run.result.1 × (c.run.result.0 ≡ l))) link_is c.run.ensures.runs.counts;
      tells = told_by _ _ many _ _ _ _ _ (told_for (length c.in-Ok.hub.crew) _ _ _ _ _ _ _ _ _ c.in-Ok.ensures.jobs c.in-Ok.ensures.devices c.in-Ok.ensures.turns c.run.ensures.runs.tells);
    }

pub returns-in-Err-clause-commissioned : goal.returns-in-Err-clause-commissioned
returns-in-Err-clause-commissioned g c =
    let link_is : c.in-Err.link ≡ c.args.link = c.in-Err.ensures.handed_back in
    record {
      grows = subst (λ l. GoesOn (g.L.Link.story c.args.link) (g.L.Link.story l)) (sym link_is) (stays (g.L.Link.story c.args.link) (g.L.Link.story c.args.link) refl).on;
      script = ap g.L.Link.script link_is;
      counts = inr (record { wants = c.nothing_done.ensures.fault; log = c.nothing_done.ensures.log; heard = c.nothing_done.ensures.heard; missed = c.nothing_done.ensures.missed; dropped = c.nothing_done.ensures.dropped }, link_is);
      tells = new_tells c.every_safe_interleaving.ensures c.args.workers _ _ _ (g.L.Link.story c.in-Err.link) _ c.nothing_done.result (subst (λ l. IsNewLink (g.L.Link.story l)) (sym link_is) c.requires.new) c.nothing_done.ensures.log c.nothing_done.ensures.heard c.nothing_done.ensures.missed c.nothing_done.ensures.dropped c.nothing_done.ensures.fault;
    }

pub run-requires-clause-watched : goal.run-requires-clause-watched
run-requires-clause-watched g c κs within = rw (c.in-Ok.ensures.log, c.of-watched.ensures) c.in-Ok.ensures.watched

pub returns-in-Ok-clause-watched : goal.returns-in-Ok-clause-watched
returns-in-Ok-clause-watched g c = all_as _ _ _ _ _ _ _ _ _ c.in-Ok.ensures.jobs c.in-Ok.ensures.devices (ap g.W.Watcher.watch c.of-watched.ensures) c.run.ensures.watched

pub returns-in-Err-clause-watched : goal.returns-in-Err-clause-watched
returns-in-Err-clause-watched g c = none_watched _ _ _ _ _ _ c.in-Err.ensures.watcher (ap reverse c.nothing_done.ensures.log)
