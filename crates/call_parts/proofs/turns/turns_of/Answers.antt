use Rattle.call_parts.proofs.Sendable.{few_turns, turns_in_range}
use Rattle.call_parts.proofs.turns.turns_of.Goals as goal

pub returns-clause-few : goal.returns-clause-few
returns-clause-few c = rw (c.in_ok-turns.ensures, c.as_slice.ensures) (few_turns c.args.script.now.lines c.args.script.now.spelled c.args.script.now.numbered)

pub returns-clause-sendable : goal.returns-clause-sendable
returns-clause-sendable c = rw (c.in_ok-turns.ensures, c.as_slice.ensures) (turns_in_range c.args.script.now.lines c.args.script.now.spelled)
