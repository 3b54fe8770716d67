-- The lines of the units' text in the language's own words: which words spell which line.
use Rattle.std.specs.Prelude.{◌≡◌, ℕ, true, false, codes, List, [], ◌∷◌, Some}
use Rattle.knx_model.specs.declared.address.IndAddr.{IndAddr}
use Rattle.knx_model.specs.ScriptText.{count_value}
use Rattle.address_text.specs.declared.line.UnitLine.{UnitLine}
use Rattle.address_text.specs.declared.line.UnitLine.TheVariants.{OfUnit, OfLoss}
use Rattle.address_text.specs.UnitAddress.{unit_address}

pub data SpellsUnitLine : List (List ℕ) → UnitLine → Type 0 where
  SpellsProg : (word : List ℕ) (address : IndAddr) → unit_address word ≡ Some address → SpellsUnitLine (codes "unit" ∷ word ∷ codes "prog" ∷ []) (OfUnit (record { address = address; prog = true }))
  SpellsOff : (word : List ℕ) (address : IndAddr) → unit_address word ≡ Some address → SpellsUnitLine (codes "unit" ∷ word ∷ codes "off" ∷ []) (OfUnit (record { address = address; prog = false }))
  SpellsLoseRead : (of number : List ℕ) (unit n : ℕ) → count_value of ≡ Some unit → count_value number ≡ Some n → SpellsUnitLine (codes "lose" ∷ codes "read" ∷ of ∷ number ∷ []) (OfLoss (record { answer = false; unit = unit; n = n }))
  SpellsLoseAnswer : (of number : List ℕ) (unit n : ℕ) → count_value of ≡ Some unit → count_value number ≡ Some n → SpellsUnitLine (codes "lose" ∷ codes "answer" ∷ of ∷ number ∷ []) (OfLoss (record { answer = true; unit = unit; n = n }))
