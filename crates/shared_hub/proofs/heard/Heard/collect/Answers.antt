use Rattle.std.proofs.Common.{refl, ◌∙◌}
use Rattle.shared_hub.proofs.heard.Heard.collect.Goals as goal

pub loop-init : goal.loop-init
loop-init g c = record { next = tt; finite = tt; of = refl; pushed = refl; all = c.requires.all }

pub keep_next-requires : goal.keep_next-requires
keep_next-requires g c = record { of = c.loop.invariant.of ∙ c.requires.of; all = c.loop.invariant.all }

pub loop-preserved : goal.loop-preserved
loop-preserved g c = record { next = tt; finite = tt; of = c.keep_next.ensures.of ∙ c.loop.invariant.of; pushed = c.keep_next.ensures.pushed ∙ c.loop.invariant.pushed; all = c.keep_next.ensures.all }

pub returns-then-not-keep_next-clause-of : goal.returns-then-not-keep_next-clause-of
returns-then-not-keep_next-clause-of g c = c.keep_next.ensures.of ∙ c.loop.invariant.of

pub returns-then-not-keep_next-clause-pushed : goal.returns-then-not-keep_next-clause-pushed
returns-then-not-keep_next-clause-pushed g c = c.keep_next.ensures.pushed ∙ c.loop.invariant.pushed

pub returns-then-not-keep_next-clause-all : goal.returns-then-not-keep_next-clause-all
returns-then-not-keep_next-clause-all g c = c.keep_next.ensures.all

pub returns-then-not-keep_next-clause-stops : goal.returns-then-not-keep_next-clause-stops
returns-then-not-keep_next-clause-stops g c = c.keep_next.ensures.stops c.if-not-keep_next.true
