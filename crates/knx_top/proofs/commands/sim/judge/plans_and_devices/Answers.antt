use Rattle.knx_top.proofs.commands.sim.judge.plans_and_devices.Goals as goal

pub returns-clause-devices : goal.returns-clause-devices
returns-clause-devices g c = rw (c.as_slice-2.ensures, c.in_ok-bus.ensures) at c.in_ok-devices.ensures
