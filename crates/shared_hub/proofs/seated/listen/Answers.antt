use Rattle.std.proofs.Common.{refl, ◌∙◌}
use Rattle.shared_hub.proofs.seated.listen.Goals as goal

pub loop-init : goal.loop-init
loop-init g c = record { next = tt; finite = tt; of = refl }

pub collect-requires : goal.collect-requires
collect-requires g c = record { of = c.loop.invariant.of ∙ c.requires.of }

pub loop-preserved : goal.loop-preserved
loop-preserved g c = record { next = tt; finite = tt; of = c.collect.ensures.of ∙ c.loop.invariant.of }

pub returns-then-has_rung_last : goal.returns-then-has_rung_last
returns-then-has_rung_last g c = record { of = c.collect.ensures.of ∙ c.loop.invariant.of }
