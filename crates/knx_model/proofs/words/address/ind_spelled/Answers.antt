use Rattle.knx_model.proofs.Spells.{device_to, device_from}
use Rattle.knx_model.proofs.words.address.ind_spelled.Goals as goal

pub returns : goal.returns
returns c = λ word d. (device_to word d, device_from word d)
