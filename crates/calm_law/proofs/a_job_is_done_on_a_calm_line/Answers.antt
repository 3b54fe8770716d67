use Rattle.calm_law.proofs.a_job_is_done_on_a_calm_line.Goals as goal
use Rattle.calm_law.proofs.ExampleJob as job

pub returns-clause-served : goal.returns-clause-served
returns-clause-served c = job.served

pub returns-clause-devices : goal.returns-clause-devices
returns-clause-devices c = job.devices

pub returns-clause-power : goal.returns-clause-power
returns-clause-power c = job.power

pub returns-clause-client : goal.returns-clause-client
returns-clause-client c = job.client

pub returns-clause-calm : goal.returns-clause-calm
returns-clause-calm c = job.calm

pub returns-clause-values : goal.returns-clause-values
returns-clause-values c = job.values
