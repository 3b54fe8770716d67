use Rattle.knx_model.specs.Acts.{may_answer, is_linked_in, object_in_table}
use Rattle.device_tables.proofs.Lowest.{found_is_lowest, none_passes}
use Rattle.device_tables.proofs.laws.the_lowest_answers.Goals as goal

pub returns-clause-lowest : goal.returns-clause-lowest
returns-clause-lowest c = λ image group o e. found_is_lowest (may_answer (is_linked_in image.addr image.assoc group) (object_in_table image.objs)) o e

pub returns-clause-none : goal.returns-clause-none
returns-clause-none c = λ image group e o from to. none_passes (may_answer (is_linked_in image.addr image.assoc group) (object_in_table image.objs)) e o from to
