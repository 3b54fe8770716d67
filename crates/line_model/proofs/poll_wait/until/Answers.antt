use Rattle.std.proofs.Common.{rules, arith}
use Rattle.line_model.specs.Waiting.{AtDeadline, AtLastTime}
use Rattle.line_model.proofs.Deadlines.{same_deadline, other_deadline}
use Rattle.line_model.proofs.poll_wait.until.Goals.{in-Some, in_default, in_default-via-in-Some+else-now-time, in_default-via-in_default}
use Rattle.line_model.proofs.poll_wait.until.Goals as goal

pub returns-then-left-from : goal.returns-then-left-from
returns-then-left-from c = elim c.match-deadline.branch [
  | in-Some w ↦ record {
    at_most = (let less = c.if-left-from.true in let from = c.from.ensures in omega (arith, less, from));
    in_range = search rules;
    no_longer = λ t is lt. same_deadline c.args.deadline w.in-Some.time t c.args.now c.match-deadline.left w.in-Some.is is (let left = w.left-is in let first = w.if-now-time.true in omega (arith, left, first));
    as_long = AtDeadline w.in-Some.time w.in-Some.is w.if-now-time.true (let left = w.left-is in let lt = w.if-now-time.true in omega (arith, left, lt));
  }
  | in_default w ↦ record {
    at_most = (let less = c.if-left-from.true in let from = c.from.ensures in omega (arith, less, from));
    in_range = (let left = w.left-is in let most = c.ranges.now.fits in omega (arith, left, most));
    no_longer = λ t is lt. elim w.in_default.branch [
      | in_default-via-in-Some+else-now-time v ↦ absurd (other_deadline c.args.deadline v.in-Some.time t c.args.now v.in-Some.is is v.if-now-time.false lt)
      | in_default-via-in_default v ↦ search rules
    ];
    as_long = AtLastTime (let left = w.left-is in let most = c.ranges.now.fits in omega (arith, left, most));
  }
]
