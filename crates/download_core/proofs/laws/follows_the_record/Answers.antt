use Rattle.download_core.proofs.Record.{aside_follows, confirmed_follows, others_follow, heard_follows, lost_follows}
use Rattle.download_core.proofs.SentRecord.{sends_rightly, sent_follows}
use Rattle.download_core.proofs.laws.follows_the_record.Goals as goal

pub returns-clause-aside : goal.returns-clause-aside
returns-clause-aside c = aside_follows

pub returns-clause-confirmed : goal.returns-clause-confirmed
returns-clause-confirmed c = confirmed_follows

pub returns-clause-others : goal.returns-clause-others
returns-clause-others c = others_follow

pub returns-clause-heard : goal.returns-clause-heard
returns-clause-heard c = heard_follows

pub returns-clause-lost : goal.returns-clause-lost
returns-clause-lost c = lost_follows

pub returns-clause-sends : goal.returns-clause-sends
returns-clause-sends c = sends_rightly

pub returns-clause-sent : goal.returns-clause-sent
returns-clause-sent c = sent_follows
