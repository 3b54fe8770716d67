-- What a dialer tells: the host and the port number that it was given last; and how it counts: each call of its own that failed, and those of what comes back.
use Rattle.std.specs.Prelude.{◌≡◌, ℕ, zero, suc, List, Option, Some, None, Result, Ok, Err}
use Rattle.knx_model.specs.Outside.{one_more}
use Rattle.line_model.specs.declared.outside.dialer.DialFailed.{DialFailed}
use Rattle.line_model.specs.declared.outside.fault_counts.FaultCounts.{FaultCounts}
use Rattle.line_model.specs.LinkStory.{Story}
use Rattle.line_model.specs.Polled.{one_failed}
use Rattle.line_model.specs.PortStory.{PortStory}

pub record Address : Type 0 where
  pub host : List ℕ
  pub port : ℕ

-- what a dialer tells: how many calls failed and how many found no memory, those of what came back among them; how many calls of `dial` and `bind` there were; the
-- host and the port number that the last of them was given, where it tells them; and what the link and the port that came back last told
pub record DialerNow : Type 0 where
  pub counts : FaultCounts
  pub dials : ℕ
  pub given : Option Address
  pub link_back : Story
  pub port_back : PortStory

-- a dialer that tells what it was given tells just this
abbrev pub Tells : List ℕ → ℕ → Option Address → Type 0
Tells host port None = Unit {0}
Tells host port (Some address) = address ≡ record { host = host; port = port }

-- ---- its counts

-- after a call of `dial` or `bind` that answered so
abbrev pub after_dial : {X : Type 0} → Result X DialFailed → FaultCounts → FaultCounts
after_dial (Ok x) counts = counts
after_dial (Err failed) counts = one_failed counts

-- a count takes in that of what came back, one by one
abbrev pub taking_back : ℕ → ℕ → ℕ
taking_back zero count = count
taking_back (suc faults) count = one_more (taking_back faults count)

-- once a link with these counts came back
abbrev pub with_link : FaultCounts → FaultCounts → FaultCounts
with_link link counts = record { failed = taking_back link.failed counts.failed; wanting = taking_back link.wanting counts.wanting }

-- once a port came back of which so many calls failed
abbrev pub with_port : ℕ → FaultCounts → FaultCounts
with_port faults counts = record counts { failed = taking_back faults counts.failed }

-- ---- nothing was opened

-- one call of `dial` or `bind`, with just this host and port number, failed: nothing was opened, and so nothing was handed back
pub record FailsToOpen (at : Address) (before after : DialerNow) : Type 0 where
  pub given : Tells at.host at.port after.given
  pub once : after.dials ≡ one_more before.dials
  pub counts : after.counts ≡ one_failed before.counts
  pub link_back : after.link_back ≡ before.link_back
  pub port_back : after.port_back ≡ before.port_back
