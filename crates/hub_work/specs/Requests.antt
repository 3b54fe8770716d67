-- Which group telegrams can be sent (ISO/IEC 14543-3-1, application layer).
use Rattle.knx_model.specs.DeviceFrames.{IsServiceInRange}
use Rattle.line_model.specs.declared.group.GroupTurn.{GroupTurn}

abbrev pub IsTurnInRange : GroupTurn → Type 0
IsTurnInRange turn = IsServiceInRange turn.service
