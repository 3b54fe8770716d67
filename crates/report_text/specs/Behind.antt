-- Words that stand behind others on a line, each behind a space.
use Rattle.std.specs.Prelude.{ℕ, List, [], ◌∷◌, Option, Some, None}
use Rattle.std.specs.List.{flat_map}

abbrev pub behind : List (List ℕ) → List ℕ
behind words = flat_map (λ (word : List ℕ). 32 ∷ word) words

-- none where there are none
abbrev pub behind_if : Option (List (List ℕ)) → List ℕ
behind_if None = []
behind_if (Some words) = behind words
