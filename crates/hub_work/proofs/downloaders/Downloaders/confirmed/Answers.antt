use Rattle.std.proofs.Common.{sym}
use Rattle.download_core.specs.Keeps.{state_of}
use Rattle.hub_work.proofs.Changed.{changed_by, changed_none}
use Rattle.hub_work.proofs.downloaders.Downloaders.confirmed.Goals as goal

pub returns-in-Some : goal.returns-in-Some
returns-in-Some c = changed_by state_of _ c.args.job c.in-Some.index c.self.inside.all.items _ c.index_mut.result.now c.confirmed.new.self (sym c.self.view_is) c.in-Some.ensures.some c.index_mut.ensures.value c.confirmed.ensures

pub returns-in_default : goal.returns-in_default
returns-in_default c = changed_none _ c.args.job _ (c.index_of.ensures.none c.in_default.is)
