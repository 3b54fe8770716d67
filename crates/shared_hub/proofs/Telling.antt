-- That all stays done where the log stays.
use Rattle.std.proofs.Common.{◌≡◌, subst}
use Rattle.hub_work.specs.Books.{AreJobsOf}
use Rattle.hub_core.specs.Left.{AllDone}
use Rattle.hub_core.specs.Seen.{Seen}

pub stays_done : {L : Type 0} (old new : Seen L) → new.devices ≡ old.devices → new.turns ≡ old.turns → new.log ≡ old.log → AllDone old → AllDone new
stays_done old new devices turns log done = record {
  jobs = λ all are. rw log (done.jobs all (subst (λ ds. AreJobsOf ds all) devices are));
  telegrams = rw (log, turns) done.telegrams;
}
