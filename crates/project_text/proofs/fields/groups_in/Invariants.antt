use Rattle.std.proofs.Common.{length}
use Rattle.knx_model.specs.Words.{words}
use Rattle.project_text.proofs.LinkGroups.{GroupsTo}
use Rattle.project_text.proofs.fields.groups_in.Given as goal

abbrev pub invariant-loop-word : goal.invariant-loop-word
invariant-loop-word l = GroupsTo l.version (words l.all) (words l.rest) l.groups

abbrev pub decreases-loop-word : goal.decreases-loop-word
decreases-loop-word l = length (words l.rest)
