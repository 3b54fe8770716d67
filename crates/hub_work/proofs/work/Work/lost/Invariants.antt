use Rattle.std.proofs.Common.{◌≡◌}
use Rattle.hub_work.specs.declared.work.Sender.TheVariants.{Nobody}
use Rattle.hub_work.specs.Crew.{holdings}
use Rattle.hub_work.specs.Downloaders.{states}
use Rattle.hub_work.specs.Telegrams.{after_loss}
use Rattle.hub_work.specs.Works.{SameBooks}
use Rattle.hub_work.proofs.CameFor.{LeavesOthers, RisenSoFar}
use Rattle.hub_work.proofs.Lost.{LostSoFar}
use Rattle.hub_work.proofs.work.Work.lost.Given as goal

abbrev pub invariant-loop-place : goal.invariant-loop-place
invariant-loop-place l = record {
  books : SameBooks l.fn.self l.self;
  held : holdings l.self.crew ≡ holdings l.fn.self.crew;
  sender : l.self.sender ≡ Nobody;
  telegrams : l.self.telegrams ≡ record l.fn.self.telegrams { stage = after_loss l.fn.self.telegrams.stage };
  others : LeavesOthers l.place l.fn.self l.self;
  came : RisenSoFar l.place l.now l.fn.self l.self;
  so_far : LostSoFar (holdings l.fn.self.crew) l.place (states l.fn.self.downloaders) (states l.self.downloaders);
}
