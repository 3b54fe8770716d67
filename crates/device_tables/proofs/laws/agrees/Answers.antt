use Rattle.knx_model.specs.Acts.{accepts, can_answer, is_linked, is_linked_in, object_of_number, object_in_table}
use Rattle.device_tables.proofs.Agreement.{acts_alike, same_lowest}
use Rattle.device_tables.proofs.laws.agrees.Goals as goal

pub returns-clause-written : goal.returns-clause-written
returns-clause-written c = λ config image s r group object service. acts_alike config image s r group object (accepts service)

pub returns-clause-answers : goal.returns-clause-answers
returns-clause-answers c = λ config image s r group service.
    same_lowest (is_linked_in image.addr image.assoc group) (is_linked config group) (object_in_table image.objs) (object_of_number config.objects) (λ o. acts_alike config image s r group o can_answer) service
