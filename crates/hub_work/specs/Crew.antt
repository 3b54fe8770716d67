-- What each worker holds, whatever came for it: a job, its device, and whether an attempt of it has begun.
use Rattle.std.specs.Prelude.{ℕ, zero, suc, Bool, true, List, [], ◌∷◌, map, Option, Some, None}
use Rattle.knx_model.specs.declared.address.IndAddr.{IndAddr}
use Rattle.hub_work.specs.declared.crew.Held.{Held}

pub record Holding : Type 0 where
  pub job : ℕ
  pub device : IndAddr
  pub begun : Bool

abbrev pub holding_in : Option Held → Option Holding
holding_in None = None
holding_in (Some held) = Some (record { job = held.job; device = held.device; begun = held.begun })

-- of each worker, by its place from 0
abbrev pub holdings : List (Option Held) → List (Option Holding)
holdings crew = map holding_in crew

-- an attempt of the job of the worker at a place has sent its T_Connect
abbrev pub begun_in : Option Holding → Option Holding
begun_in None = None
begun_in (Some h) = Some (record h { begun = true })

abbrev pub after_begun : ℕ → List (Option Holding) → List (Option Holding)
after_begun place [] = []
after_begun zero (h ∷ held) = begun_in h ∷ held
after_begun (suc place) (h ∷ held) = h ∷ after_begun place held
