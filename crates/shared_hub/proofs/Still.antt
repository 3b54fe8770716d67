-- A hub of which no more changes than how many indications it counts as missed stays as it is in all else; and hubs that go on, whatever they count as missed.
use Rattle.std.proofs.Common.{◌≡◌, length, refl, sym, ap, subst}
use Rattle.line_model.specs.declared.outside.fault_counts.FaultCounts.{FaultCounts}
use Rattle.line_model.specs.Lines.{Script}
use Rattle.line_model.specs.LinkStory.{Story}
use Rattle.hub_core.specs.Left.{AllDone}
use Rattle.hub_core.specs.Seen.{Seen, tasks_seen}
use Rattle.hub_core.specs.Since.{Since}
use Rattle.hub_core.proofs.Since.{since_again, still_since}
use Rattle.shared_hub.specs.Leaving.{ClosesSo, GoesThrough, KnowsHowFar}
use Rattle.shared_hub.specs.Relays.{GoesOnFrom, SameButMissed}

module _ {L : Type 0} (old new : Seen L) (s : SameButMissed old new) where
  is_still : new ≡ record old { known = new.known; missed = new.missed }
  is_still i = record { link = s.link i; known = new.known; jobs = s.jobs i; devices = s.devices i; crew = s.crew i; turns = s.turns i; log = s.log i; fault = s.fault i; closing = s.closing i; missed = new.missed }

  pub done_still : AllDone old → AllDone new
  done_still done = subst (λ (h : Seen L). AllDone h) (sym is_still) (record { jobs = done.jobs; telegrams = done.telegrams })

  module _ (story_of : L → Story) where
    pub through_still : GoesThrough old (story_of old.link) → GoesThrough new (story_of new.link)
    through_still g = subst (λ (h : Seen L). GoesThrough h (story_of h.link)) (sym is_still) (record { unbegun = g.unbegun; stays = g.stays; placed = g.placed; punctual = g.punctual })

    pub closes_still : ClosesSo old (story_of old.link) → ClosesSo new (story_of new.link)
    closes_still c = subst (λ (h : Seen L). ClosesSo h (story_of h.link)) (sym is_still) (record { placed = c.placed; parts = c.parts; closes = c.closes })

    pub far_still : KnowsHowFar old (story_of old.link) → KnowsHowFar new (story_of new.link)
    far_still k = subst (λ (h : Seen L). KnowsHowFar h (story_of h.link)) (sym is_still) k

module _ {L : Type 0} (story_of : L → Story) (script_of : L → Script) (faults_of : L → FaultCounts) where
  -- a call of the hub, and what only counts
  pub called : {old new : Seen L} → Since story_of script_of faults_of old new → GoesOnFrom story_of script_of faults_of old new
  called s = record { grows = s.grows; script = s.script; run = record { tasks = s.run.tasks; devices = s.run.devices; turns = s.run.turns; workers = s.run.workers; missed = refl }; counts = s.counts }

  pub counted : {old new : Seen L} → SameButMissed old new → GoesOnFrom story_of script_of faults_of old new
  counted {old = old} {new = new} s =
      still_since {story_of = story_of} {script_of = script_of} {faults_of = faults_of} {old = old} {new = record new { missed = old.missed }} s.link s.fault (record { tasks = ap tasks_seen s.jobs; devices = s.devices; turns = s.turns; workers = ap length s.crew; missed = refl })

  -- one after the other
  pub going : (a b c : Seen L) → GoesOnFrom story_of script_of faults_of a b → GoesOnFrom story_of script_of faults_of b c → GoesOnFrom story_of script_of faults_of a c
  going a b c first then = since_again {story_of = story_of} {script_of = script_of} {faults_of = faults_of} {a = a} {b = record b { missed = a.missed }} {c = record c { missed = a.missed }} first
      (record { grows = then.grows; script = then.script; run = record { tasks = then.run.tasks; devices = then.run.devices; turns = then.run.turns; workers = then.run.workers; missed = refl }; counts = then.counts })
