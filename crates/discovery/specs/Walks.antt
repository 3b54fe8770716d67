-- What was found of one sort on the way along the blocks, by the contents of those that were passed.
use Rattle.std.specs.Prelude.{◌≡◌, ℕ, ◌≤◌, List, [], ◌∷◌, length}
use Rattle.discovery.specs.declared.blocks.walk.Found.{Found}
use Rattle.discovery.specs.declared.blocks.walk.Found.TheVariants.{Nothing, One, Several}

abbrev pub IsFound : List (List ℕ) → Found → Type 0
IsFound passed Nothing = passed ≡ []
IsFound passed (One content) = (passed ≡ content.now ∷ []) × (length content.now ≤ 253)
IsFound passed Several = 2 ≤ length passed
