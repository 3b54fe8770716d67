use Rattle.std.proofs.Common.{◌≡◌, List, ◌++◌, length, take, drop, arith}
use Rattle.std.proofs.lemmas.Grind.{common_steps}
use Rattle.knx_model.specs.declared.outside.memory.MemoryFile.{MemoryFile}
use Rattle.knx_model.specs.Memory.{content_of, with_fault}
use Rattle.knx_model.specs.Outside.{Holds}
use Rattle.knx_model.proofs.Faults.{rose_in, others_in, told_in}
use Rattle.knx_model.proofs.outside.memory.MemoryFilesFiles.read.Goals as goal

pub returns-then-contains-clause-failed : goal.returns-then-contains-clause-failed
returns-then-contains-clause-failed c =
    let files : List MemoryFile = c.args.self.now.files.items in
    let new : List MemoryFile = take c.args.self.now.files.len (c.count_fault.new.files ++ drop (length c.count_fault.new.files) files) in
    let is : new ≡ with_fault c.args.name.now files = grind (arith, common_steps) in
    let there : content_of files c.args.name.now ≡ Holds c.in-Some.file.now.content = cc c.in-Some.ensures in
    λ _. rose_in files new c.args.name.now c.in-Some.file.now.content is there

pub returns-then-contains-clause-others : goal.returns-then-contains-clause-others
returns-then-contains-clause-others c =
    let files : List MemoryFile = c.args.self.now.files.items in
    let new : List MemoryFile = take c.args.self.now.files.len (c.count_fault.new.files ++ drop (length c.count_fault.new.files) files) in
    let is : new ≡ with_fault c.args.name.now files = grind (arith, common_steps) in
    λ other apart. others_in files new c.args.name.now other is apart

pub returns-then-contains-clause-stays : goal.returns-then-contains-clause-stays
returns-then-contains-clause-stays c =
    let files : List MemoryFile = c.args.self.now.files.items in
    let new : List MemoryFile = take c.args.self.now.files.len (c.count_fault.new.files ++ drop (length c.count_fault.new.files) files) in
    let is : new ≡ with_fault c.args.name.now files = grind (arith, common_steps) in
    λ other. told_in files new c.args.name.now other is
