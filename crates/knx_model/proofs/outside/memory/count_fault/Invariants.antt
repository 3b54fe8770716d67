use Rattle.std.proofs.Common.{◌≡◌, ◌++◌, take, drop}
use Rattle.knx_model.specs.Memory.{with_fault}
use Rattle.knx_model.proofs.outside.memory.count_fault.Given as goal

-- no file so far has the name, and none has changed
abbrev pub invariant-loop-file : goal.invariant-loop-file
invariant-loop-file l = record {
  same : l.files ≡ l.fn.files;
  front : with_fault l.name l.files ≡ take l.file-index l.files ++ with_fault l.name (drop l.file-index l.files);
}
