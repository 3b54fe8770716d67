-- A run over a dialled link, by what the link told last when it was handed back.
use Rattle.std.specs.Prelude.{List, ◌≡◌, ◌⊎◌}
use Rattle.line_model.specs.Dialled.{DialerNow}
use Rattle.line_model.specs.Log.{Job}
use Rattle.hub_core.specs.Commissioned.{WantsAtFirst}
use Rattle.line_model.specs.LinkStory.{Full, IsNewLink, Recorded, Story, Untold}
use Rattle.knx_model.specs.Meaning.{Installation}
use Rattle.line_model.specs.declared.log.LogEntry.{LogEntry}
use Rattle.line_model.specs.OldStoppedOrNew.{MeansWhereDone, OldStoppedOrNew, RunsMeaning}
use Rattle.line_model.specs.declared.log.Report.{Report}
use Rattle.line_model.specs.Polled.{after_fault}

-- of a link that tells its events: at every moment each device has its starting content, or is stopped, or runs what the project says, and done is told
-- only where that runs
abbrev pub MeansOver : Installation → List Job → Story → List LogEntry → Type 0
MeansOver project jobs Untold log = Unit {0}
MeansOver project jobs (Recorded clock r) log = Unit {0}
MeansOver project jobs (Full start events) log = OldStoppedOrNew (RunsMeaning project) jobs start events log × MeansWhereDone project jobs start events log

-- That the link failed, or had no memory, is told exactly where one call of the dialled link did so, and the dialer counts it once the link is back. No other call
-- failed. Or there was no memory before the first turn, and nothing was done on the link.
abbrev pub CountsDialled : Report → DialerNow → DialerNow → Type 0
CountsDialled report before after = (after.counts ≡ after_fault report.fault before.counts) ⊎ (WantsAtFirst report × IsNewLink after.link_back × (after.counts ≡ before.counts))
