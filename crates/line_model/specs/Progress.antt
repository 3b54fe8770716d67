-- How far a plan has gone by the answers that were taken: after so many of its operations, whose answers were these in turn, each as it was
-- wanted, this plan is left. And which operation was the last of them, and which answer isn't the wanted one.
use Rattle.std.specs.Prelude.{◌≡◌, ◌≢◌, ℕ, zero, suc, Bool, false, bytes_eq, List, [], ◌∷◌, Some, None}
use Rattle.knx_model.specs.declared.plan.Expect.TheVariants.{AckOnly, Is, Note}
use Rattle.knx_model.specs.Plans.{Plan, Over, Asks, Suits, is_fitting}

-- an operation without answer takes none of them
abbrev pub Reaches : Plan → ℕ → List (List ℕ) → Plan → Type 0
Reaches plan zero [] left = plan ≡ left
Reaches plan zero (got ∷ answers) left = ⊥
Reaches Over (suc k) answers left = ⊥
Reaches (Asks place apdu AckOnly next) (suc k) answers left = Reaches (next None) k answers left
Reaches (Asks place apdu expect next) (suc k) [] left = ⊥
Reaches (Asks place apdu expect next) (suc k) (got ∷ answers) left = Suits apdu expect (Some got) × Reaches (next (Some got)) k answers left

-- the number of the last of so many operations, with these answers in turn; the given one where they are none
abbrev pub last_of : ℕ → Plan → ℕ → List (List ℕ) → ℕ
last_of op plan zero answers = op
last_of op Over (suc k) answers = op
last_of op (Asks place apdu AckOnly next) (suc k) answers = last_of place (next None) k answers
last_of op (Asks place apdu expect next) (suc k) [] = place
last_of op (Asks place apdu expect next) (suc k) (got ∷ answers) = last_of place (next (Some got)) k answers

-- an answer is the wanted one of the operation at the plan's head
abbrev pub suits : Plan → List ℕ → Bool
suits Over got = false
suits (Asks place apdu AckOnly next) got = false
suits (Asks place apdu (Is wanted) next) got = bytes_eq got wanted
suits (Asks place apdu Note next) got = is_fitting apdu got

-- the plan's head is operation `op` and wants an answer, and this isn't it; what was wanted is empty where any answer of the fitting service was
abbrev pub Differs : Plan → ℕ → List ℕ → List ℕ → Type 0
Differs Over op got wanted = ⊥
Differs (Asks place apdu AckOnly next) op got wanted = ⊥
Differs (Asks place apdu (Is expected) next) op got wanted = (wanted ≡ expected) × (got ≢ expected) × (op ≡ place)
Differs (Asks place apdu Note next) op got wanted = (wanted ≡ []) × (is_fitting apdu got ≡ false) × (op ≡ place)
