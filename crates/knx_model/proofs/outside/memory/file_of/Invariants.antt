use Rattle.std.proofs.Common.{◌≡◌, drop}
use Rattle.knx_model.specs.Memory.{content_of}
use Rattle.knx_model.proofs.outside.memory.file_of.Given as goal

-- what is told of the name is told by the files that are left
abbrev pub invariant-loop-file : goal.invariant-loop-file
invariant-loop-file l = content_of (drop l.file-index l.files) l.name ≡ content_of l.files l.name
