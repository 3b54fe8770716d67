-- How a hub went on since it was so, over any number of its calls: its link's story goes on and the script stays, the run stays, and the link's counts tell
-- its fault: one call of the link failed, or found no memory, exactly where that is why nothing more is done.
use Rattle.std.specs.Prelude.{◌≡◌}
use Rattle.line_model.specs.declared.outside.fault_counts.FaultCounts.{FaultCounts}
use Rattle.line_model.specs.Lines.{Script}
use Rattle.line_model.specs.LinkStory.{Story}
use Rattle.line_model.specs.Polled.{after_fault}
use Rattle.tunnel_link.specs.Goes.{GoesOn}
use Rattle.hub_core.specs.Seen.{Seen, SameRun}

-- where the counts are those before, and the one of its fault, they are so later too
abbrev pub CountsOn : {L : Type 0} → (L → FaultCounts) → Seen L → Seen L → Type 0
CountsOn faults_of old new = (before : FaultCounts) → faults_of old.link ≡ after_fault old.fault before → faults_of new.link ≡ after_fault new.fault before

pub record Since {L : Type 0} (story_of : L → Story) (script_of : L → Script) (faults_of : L → FaultCounts) (old new : Seen L) : Type 0 where
  pub grows : GoesOn (story_of old.link) (story_of new.link)
  pub script : script_of new.link ≡ script_of old.link
  pub run : SameRun old new
  pub counts : CountsOn faults_of old new
