use Rattle.std.proofs.Common.{arith}
use Rattle.knx_model.specs.Numbers.{is_name_octet}
use Rattle.knx_model.proofs.Plain.{fold_is_all}
use Rattle.knx_model.proofs.words.name.is_name_in.Goals as goal

pub returns-then-word-le32 : goal.returns-then-word-le32
returns-then-word-le32 c = grind (arith, fold_is_all is_name_octet c.args.word.now)
