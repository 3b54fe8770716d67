-- A position in a plan whose second operation tells the size of the pieces: the plan that is left from an operation on.
use Rattle.std.specs.Prelude.{ℕ, zero, suc, ◌+◌, List, length, drop}
use Rattle.knx_model.specs.declared.config.Image.{Image}
use Rattle.knx_model.specs.declared.plan.PieceSize.{PieceSize}
use Rattle.knx_model.specs.Plans.{Plan}
use Rattle.knx_model.specs.Operations.{Operation, listed}
use Rattle.knx_model.specs.LoadPlan.{opened, noting, load_operations, check_operations}

-- an image, and the size of pieces that was noted last; 12 octets before
pub record Listening : Type 0 where
  pub image : Image
  pub size : PieceSize

-- the whole plan from operation 0 on, whatever was noted before; from operation 2 on pieces have the size that was noted
abbrev pub left_of : (PieceSize → List Operation) → PieceSize → ℕ → Plan
left_of operations size zero = opened operations
left_of operations size (suc zero) = noting operations
left_of operations size (suc (suc k)) = listed (suc (suc k)) (drop k (operations size))

unfoldable pub load_left : Listening → ℕ → Plan
load_left p k = left_of (load_operations p.image) p.size k

unfoldable pub check_left : Listening → ℕ → Plan
check_left p k = left_of (check_operations p.image) p.size k

-- how many operations there are
unfoldable pub load_count : Listening → ℕ
load_count p = 2 + length (load_operations p.image p.size)

unfoldable pub check_count : Listening → ℕ
check_count p = 2 + length (check_operations p.image p.size)
