use Rattle.std.proofs.Common.{take}
use Rattle.std.specs.List.{AllZip}
use Rattle.table_compiler.specs.Images.{IsImageOfDraft}
use Rattle.table_compiler.proofs.pieces.compile_drafts.Given as goal

-- the drafts so far have these images
abbrev pub invariant-loop-draft : goal.invariant-loop-draft
invariant-loop-draft l = AllZip (IsImageOfDraft l.catalogue) (take l.draft-index l.drafts) l.images.items
