-- A dialer of one link as contracts see it: the link that it has to hand out and the call of it that fails, the one that came back and the port that did, the host
-- and the port number that it was given last, and its counts.
use Rattle.std.specs.Prelude.{ℕ, Option, None, Some}
use Rattle.line_model.specs.declared.outside.fault_counts.FaultCounts.{FaultCounts}
use Rattle.line_model.specs.Dialled.{Address}
use Rattle.line_model.specs.LinkStory.{Story, Untold}
use Rattle.line_fixed.specs.declared.port.FixedPort.{FixedPort}

pub record OneLine (L : Type 0) : Type 0 where
  pub line : Option L
  pub fails_at : ℕ
  pub line_back : Option L
  pub port_back : Option FixedPort
  pub given : Option Address
  pub dials : ℕ
  pub counts : FaultCounts

-- what came back told last; nothing, where nothing came back yet
abbrev pub line_told : {L : Type 0} → (L → Story) → Option L → Story
line_told story None = Untold
line_told story (Some line) = story line
