use Rattle.line_model.proofs.runs.the_other_lines_have_their_events.Goals as goal
use Rattle.line_model.proofs.Scripts.{loses_up, refuses, repeats_down, confirms_twice, drops_channel, closes_after, loses_from}

pub returns-clause-loses_up : goal.returns-clause-loses_up
returns-clause-loses_up c = loses_up

pub returns-clause-refuses : goal.returns-clause-refuses
returns-clause-refuses c = refuses

pub returns-clause-repeats_down : goal.returns-clause-repeats_down
returns-clause-repeats_down c = repeats_down

pub returns-clause-drops_channel : goal.returns-clause-drops_channel
returns-clause-drops_channel c = drops_channel

pub returns-clause-closes : goal.returns-clause-closes
returns-clause-closes c = closes_after

pub returns-clause-loses_from : goal.returns-clause-loses_from
returns-clause-loses_from c = loses_from

pub returns-clause-repeats_between_sendings : goal.returns-clause-repeats_between_sendings
returns-clause-repeats_between_sendings c = confirms_twice
