use Rattle.line_model.proofs.laws.a_channel_is_lost_in_its_ways.Goals as goal
use Rattle.line_model.proofs.Lapses.{lost_so}

pub returns : goal.returns
returns c = lost_so
