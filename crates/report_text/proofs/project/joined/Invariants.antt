use Rattle.std.proofs.Common.{◌≡◌, ◌++◌, drop}
use Rattle.std.specs.List.{flat_map}
use Rattle.report_text.proofs.project.joined.Given as goal

-- what stands there and the texts that are left are all texts
abbrev pub invariant-loop-text : goal.invariant-loop-text
invariant-loop-text l = l.out ++ flat_map (λ each. each) (drop l.text-index l.texts) ≡ flat_map (λ each. each) l.fn.texts
