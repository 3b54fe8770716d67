use Rattle.tunnel_channel.proofs.Current.{polls_are_current, sendings_stay_current}
use Rattle.tunnel_channel.proofs.laws.records_come_to_their_time.Goals as goal

pub returns-clause-polls : goal.returns-clause-polls
returns-clause-polls c = polls_are_current

pub returns-clause-sendings : goal.returns-clause-sendings
returns-clause-sendings c = sendings_stay_current
