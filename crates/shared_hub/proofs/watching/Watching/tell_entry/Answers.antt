use Rattle.std.proofs.Common.{refl, sym, subst}
use Rattle.shared_hub.specs.Watchers.{IsWatchedAt}
use Rattle.shared_hub.proofs.Watched.{entry_is, entry_watched}
use Rattle.shared_hub.proofs.watching.Watching.tell_entry.Goals as goal

pub returns-in-Some : goal.returns-in-Some
returns-in-Some g c = λ log before logs w.
    subst (λ l. IsWatchedAt g.L.Link.story c.args.hub.now l before (record { watch = g.W.Watcher.watch c.entry.new.self; told = c.self.inside.told.items })) (sym (entry_is c.args.came log c.args.hub.now.log c.in-Some.entry.now c.in-Took.is logs c.in-Some.ensures.some))
    (entry_watched _ _ _ log c.in-Some.entry.now before _ _ c.entry.ensures refl (subst (λ s. IsWatchedAt g.L.Link.story c.args.hub.now log before s) (sym c.self.view_is) w))
