-- A dialer of fixed data as contracts see it: the link and the port that it has to hand out, those that came back last, the host and the
-- port number that it was given last, and its counts.
use Rattle.std.specs.Prelude.{◌≡◌, ℕ, [], Option, None, Some}
use Rattle.line_model.specs.declared.outside.fault_counts.FaultCounts.{FaultCounts}
use Rattle.line_model.specs.Dialled.{Address}
use Rattle.line_model.specs.LinkStory as of_link
use Rattle.line_model.specs.Polled.{none_failed}
use Rattle.line_model.specs.PortStory as of_port
use Rattle.line_fixed.specs.declared.link.FixedLink.{FixedLink}
use Rattle.line_fixed.specs.declared.port.FixedPort.{FixedPort}
use Rattle.line_fixed.specs.declared.dialer.Address as kept
use Rattle.line_fixed.specs.Fixed.{clock_by}

pub record Dialling : Type 0 where
  pub link : Option FixedLink
  pub port : Option FixedPort
  pub link_back : Option FixedLink
  pub port_back : Option FixedPort
  pub given : Option Address
  pub dials : ℕ
  pub counts : FaultCounts

abbrev pub address_of : kept.Address → Address
address_of address = record { host = address.host; port = address.port }

-- nothing was done on a link, nor at a port, and no call of it failed
abbrev pub IsUnusedLink : FixedLink → Type 0
IsUnusedLink link = (link.entries ≡ []) × (link.faults ≡ none_failed)

abbrev pub IsUnusedPort : FixedPort → Type 0
IsUnusedPort port = (port.items ≡ []) × (port.faults ≡ 0)

-- what came back told last; nothing, where nothing came back yet
abbrev pub link_told : Option FixedLink → of_link.Story
link_told None = of_link.Untold
link_told (Some link) = of_link.Recorded (clock_by link.lasting) link.entries

abbrev pub port_told : Option FixedPort → of_port.PortStory
port_told None = of_port.Untold
port_told (Some port) = of_port.Recorded port.items
