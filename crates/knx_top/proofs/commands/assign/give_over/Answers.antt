use Rattle.knx_top.proofs.Calls.Assigns.{taken_back}
use Rattle.knx_top.proofs.commands.assign.give_over.Goals as goal

pub returns-clause-tells : goal.returns-clause-tells
returns-clause-tells g c = (
  c.assign-link.result.1,
  rw (c.hang.ensures.told, c.back.ensures) (record {
    ends = c.assign-link.ensures.ends;
    channel = c.assign-link.ensures.channel;
    puts = c.assign-link.ensures.puts;
    counts = taken_back c.args.wanted c.assign-link.result.1 _ _ _ _ _ (rw c.new.ensures c.requires.sound) (rw c.back.ensures at c.hang.ensures.counts) c.assign-link.ensures.counts;
  }),
  rw (c.new-2.ensures) at c.of.ensures,
)
