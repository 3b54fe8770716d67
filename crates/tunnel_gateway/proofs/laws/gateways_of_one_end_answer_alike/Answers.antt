use Rattle.tunnel_gateway.proofs.Alike.{answer_alike, next_alike}
use Rattle.tunnel_gateway.proofs.laws.gateways_of_one_end_answer_alike.Goals as goal

pub returns-clause-answer : goal.returns-clause-answer
returns-clause-answer c = answer_alike

pub returns-clause-next : goal.returns-clause-next
returns-clause-next c = next_alike
