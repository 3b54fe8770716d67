use Rattle.line_model.proofs.laws.devices_begin_as_the_script_says.Goals as goal
use Rattle.line_model.proofs.Scripts.{power_is, frames_are, kept_is, loaded_is}

pub returns-clause-power : goal.returns-clause-power
returns-clause-power c = power_is

pub returns-clause-frames : goal.returns-clause-frames
returns-clause-frames c = frames_are

pub returns-clause-kept : goal.returns-clause-kept
returns-clause-kept c = kept_is

pub returns-clause-loaded : goal.returns-clause-loaded
returns-clause-loaded c = loaded_is
