use Rattle.network_sim.proofs.Longest.{reads_alike, whole, readable_fits, whole_written}
use Rattle.network_sim.proofs.laws.what_is_kept_reads_alike.Goals as goal

pub returns-clause-reads : goal.returns-clause-reads
returns-clause-reads c = reads_alike

pub returns-clause-whole : goal.returns-clause-whole
returns-clause-whole c = whole

pub returns-clause-fits : goal.returns-clause-fits
returns-clause-fits c = readable_fits

pub returns-clause-written : goal.returns-clause-written
returns-clause-written c = whole_written
