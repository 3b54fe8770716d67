-- A poll that did nothing.
use Rattle.std.proofs.Common.{ℕ, refl, arith}
use Rattle.line_model.specs.LinkStory.{Story, Untold, Recorded, Full, PollsNothing, Same}

pub polls_nothing : (wait : ℕ) (story : Story) → PollsNothing wait story story
polls_nothing wait Untold = refl
polls_nothing wait (Recorded clock r) = refl
polls_nothing wait (Full start events) = (events, refl, record { foreign = Same; in_time = omega arith })
