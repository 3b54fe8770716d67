use Rattle.knx_model.specs.Connection.{frame_in}
use Rattle.knx_model.specs.ClientConnection.{client_took}
use Rattle.download_core.specs.JobPlans.{job_left}
use Rattle.download_core.proofs.Numbers.{heard_keeps}
use Rattle.download_core.proofs.run.Run.heard.Goals as goal

pub answered-requires : goal.answered-requires
answered-requires c = heard_keeps (job_left c.args.plan.now) c.args.self c.take.new.self c.args.now (client_took c.args.self.conn (frame_in c.args.tpdu.now)) c.requires c.take.ensures.next

pub returns-in-Dropped-clause-keeps : goal.returns-in-Dropped-clause-keeps
returns-in-Dropped-clause-keeps c = heard_keeps (job_left c.args.plan.now) c.args.self c.take.new.self c.args.now (client_took c.args.self.conn (frame_in c.args.tpdu.now)) c.requires c.take.ensures.next

pub returns-in-Answer-clause-keeps : goal.returns-in-Answer-clause-keeps
returns-in-Answer-clause-keeps c = c.owing.ensures.keeps (job_left c.answered.new.plan) c.answered.ensures.keeps

pub returns-in-Again-clause-keeps : goal.returns-in-Again-clause-keeps
returns-in-Again-clause-keeps c =
    c.owing-in-Again.ensures.keeps (job_left c.args.plan.now)
    (heard_keeps (job_left c.args.plan.now) c.args.self c.take.new.self c.args.now (client_took c.args.self.conn (frame_in c.args.tpdu.now)) c.requires c.take.ensures.next)
