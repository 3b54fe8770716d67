use Rattle.std.proofs.Common.{sym, subst, ◌∙◌, ◌+◌, List}
use Rattle.download_core.specs.Attempt.{DownloaderState}
use Rattle.hub_work.specs.Crew.{holdings}
use Rattle.hub_work.specs.Downloaders.{states}
use Rattle.hub_work.proofs.CameFor.{leaves_others, one_more_came, all_came}
use Rattle.hub_work.proofs.Counted.{loss_counts}
use Rattle.hub_work.proofs.Lost.{LostSoFar, one_more_lost, loss_follows}
use Rattle.hub_work.proofs.Moments.{books_again}
use Rattle.hub_work.proofs.work.Work.lost.Goals as goal

pub loop-place-preserved : goal.loop-place-preserved
loop-place-preserved c = record {
  books = books_again c.args.self.now c.loop-place.self c.lost_for.new.self c.loop-place.invariant.books c.lost_for.ensures.books;
  held = c.lost_for.ensures.held ∙ c.loop-place.invariant.held;
  sender = c.lost_for.ensures.sender ∙ c.loop-place.invariant.sender;
  telegrams = c.lost_for.ensures.telegrams ∙ c.loop-place.invariant.telegrams;
  others = leaves_others c.loop-place.place c.args.self.now c.loop-place.self c.lost_for.new.self c.loop-place.invariant.held c.loop-place.invariant.others c.lost_for.ensures.lost;
  came = one_more_came c.loop-place.place c.args.self.now c.loop-place.self c.lost_for.new.self c.loop-place.invariant.held c.loop-place.invariant.others c.args.now c.loop-place.invariant.came c.lost_for.ensures.came;
  so_far = subst (λ (all : List DownloaderState). LostSoFar (holdings c.args.self.now.crew) (c.loop-place.place + 1) (states c.args.self.now.downloaders) all) (sym c.lost_for.ensures.lost)
      (one_more_lost (holdings c.args.self.now.crew) c.loop-place.place (states c.args.self.now.downloaders) (states c.loop-place.self.downloaders) c.loop-place.invariant.so_far c.loop-place.self.crew c.loop-place.invariant.held);
}

pub returns-clause-follows : goal.returns-clause-follows
returns-clause-follows c then = loss_follows c.of_a_downloader.ensures c.args.self.now c.loop-place.self then c.loop-place.place c.len-place-end.result c.len-place-end.ensures c.loop-place-test.false c.loop-place.invariant.books c.loop-place.invariant.held c.loop-place.invariant.sender c.loop-place.invariant.telegrams c.loop-place.invariant.so_far

pub returns-clause-came : goal.returns-clause-came
returns-clause-came c = all_came c.args.now c.loop-place.place c.len-place-end.result c.args.self.now c.loop-place.self c.len-place-end.ensures c.loop-place-test.false c.loop-place.invariant.came

pub returns-clause-counts : goal.returns-clause-counts
returns-clause-counts c = loss_counts c.of_a_downloader.ensures c.args.self.now c.loop-place.self.crew c.args.now (returns-clause-came c)
