-- Looking for gateways at a host: a link is dialled, searched over and handed back, and what is told is told of what that link told last.
use Rattle.std.specs.Prelude.{◌≡◌, List, Result, Ok, Err}
use Rattle.knx_model.specs.declared.no_memory.NoMemory.{NoMemory}
use Rattle.knx_model.specs.Outside.{one_more}
use Rattle.line_model.specs.declared.outside.link.LinkFault.{LinkFault}
use Rattle.line_model.specs.Dialled.{Address, DialerNow, FailsToOpen, Tells}
use Rattle.line_model.specs.Polled.{after_call}
use Rattle.discovery.specs.declared.about.About.{About}
use Rattle.discovery.specs.declared.inquiry.Inquiry.{Inquiry}
use Rattle.discovery_ends.specs.declared.looking.Looked.{Looked}
use Rattle.discovery_ends.specs.declared.looking.Looked.TheVariants as looked
use Rattle.discovery_ends.specs.Searching.{SearchesNew}

-- A link was dialled by one call of `dial`, searched over and handed back. A fault of the search is told exactly where a call of the link failed, or found no memory,
-- and the dialer counts it.
pub record LookedOver (at : Address) (inquiry : Inquiry) (before after : DialerNow) (found : List About) (ended : Result (Unit {0}) LinkFault) : Type 0 where
  pub given : Tells at.host at.port after.given
  pub once : after.dials ≡ one_more before.dials
  -- the link that was handed back was new but for the search
  pub searches : SearchesNew inquiry after.link_back found ended
  pub counts : after.counts ≡ after_call ended before.counts

-- for want of memory nothing is dialled
abbrev pub Looks : Result Looked NoMemory → Address → Inquiry → DialerNow → DialerNow → Type 0
Looks (Ok looked.NotReached) at inquiry before after = FailsToOpen at before after
Looks (Ok (looked.Over findings)) at inquiry before after = (findings.finder.inquiry ≡ inquiry) × LookedOver at inquiry before after findings.finder.found findings.ended
Looks (Err want) at inquiry before after = after ≡ before
