use Rattle.call_parts.proofs.FewJobs.{plans_few}
use Rattle.knx_top.proofs.GoodJobs.{all_good}
use Rattle.knx_top.proofs.commands.sim.judge.order_of.Goals as goal

pub returns-clause-prepared : goal.returns-clause-prepared
returns-clause-prepared g c =
    let planned = rw c.as_slice.ensures at c.in_ok-plans.ensures.plans in
    record {
      jobs = c.in_ok-jobs.ensures.are;
      few = plans_few c.args.new.now _ c.in_ok-jobs.jobs planned (c.in_ok-jobs.ensures.few c.requires);
      plans = planned;
      good = all_good c.args.new.now _ c.in_ok-jobs.jobs planned;
      turns = c.in_ok-turns.ensures.are;
      few_turns = c.in_ok-turns.ensures.few;
      sendable = c.in_ok-turns.ensures.sendable;
      devices = c.in_ok-plans.ensures.devices;
    }
