-- What is told heard of a run: the group indications that its link's record shows taken, the oldest first and in their order, but those that were missed
-- since there was no room for them. The first 4,096 are never missed.
use Rattle.std.specs.Prelude.{◌≡◌, ◌⊎◌, ℕ, ◌-◌, ◌^◌, min, List, [], ◌∷◌, ◌++◌, length, take, reverse, Option, Some, None}
use Rattle.line_model.specs.declared.fault.HubFault.{HubFault}
use Rattle.line_model.specs.declared.group.Indication.{Indication}
use Rattle.line_model.specs.Record.{Entry}
use Rattle.line_model.specs.ClientView.{indications}

-- a list with some of its items left out, in their order
abbrev pub IsPartOf : {A : Type 0} → List A → List A → Type 0
IsPartOf part [] = part ≡ []
IsPartOf part (x ∷ all) = IsPartOf part all ⊎ ((rest : List _) × (part ≡ x ∷ rest) × IsPartOf rest all)

-- what is told heard of what was taken
pub record LeftOut (missed : ℕ) (heard taken : List Indication) : Type 0 where
  pub in_order : IsPartOf heard taken
  -- so many are left out: a number of 64 bits, which stands still at its greatest
  pub counted : missed ≡ min (length taken - length heard) (2 ^ 64 - 1)
  pub first : take 4096 heard ≡ take 4096 taken

-- of a run that ended so: after a fault the last one may be left out besides, since the call that took it may have answered the fault
abbrev pub HeardOf : Option HubFault → ℕ → List Indication → List Indication → Type 0
HeardOf None missed heard taken = LeftOut missed heard taken
HeardOf (Some fault) missed heard taken = LeftOut missed heard taken ⊎ ((before : List Indication) × (last : Indication) × (taken ≡ before ++ last ∷ []) × LeftOut missed heard before)

-- by the record, where it is told
abbrev pub HeardIn : Option HubFault → ℕ → List Indication → Option (List Entry) → Type 0
HeardIn fault missed heard None = Unit {0}
HeardIn fault missed heard (Some r) = HeardOf fault missed heard (reverse (indications r))
