-- The text of a simulated bus of units (this project's own): the line that each unit and each loss is written as, and what a whole text reads as. A
-- text has at most 255 units: the line of the 256th is refused.
use Rattle.std.specs.Prelude.{ℕ, ◌&&◌, Bool, true, false, nat_lt, bytes_eq, codes, count_by, List, [], ◌∷◌, take, Option, Some, None, Result, Ok, Err, if◌then◌else◌}
use Rattle.std.specs.List.{filter_map}
use Rattle.std.specs.Str.Lines.{lines}
use Rattle.knx_model.specs.declared.refusal.Refused.{Refused}
use Rattle.knx_model.specs.declared.refusal.Why.{Why}
use Rattle.knx_model.specs.declared.refusal.Why.TheVariants.{UnknownWord, BadAddress, BadNumber, MissingWord, TooMany}
use Rattle.knx_model.specs.Answers.{◌>>=◌}
use Rattle.knx_model.specs.LeastLine.{line_text, text_reading}
use Rattle.knx_model.specs.ScriptText.{count_value}
use Rattle.knx_model.specs.Statements.{field, ended}
use Rattle.knx_model.specs.Words.{words}
use Rattle.address_world.specs.declared.unit.Unit.{Unit as BusUnit}
use Rattle.address_world.specs.declared.unit.UnitLoss.{UnitLoss}
use Rattle.address_text.specs.declared.line.UnitLine.{UnitLine}
use Rattle.address_text.specs.declared.line.UnitLine.TheVariants.{OfUnit, OfLoss}
use Rattle.address_text.specs.UnitAddress.{unit_address}

-- ---- the words after the first one

-- whether a unit is in programming mode: `prog` or `off`
abbrev pub mode_value : List ℕ → Option Bool
mode_value word = if bytes_eq word (codes "prog") then Some true else (if bytes_eq word (codes "off") then Some false else None)

-- unit A.L.D MODE
unfoldable pub unit_says : List (List ℕ) → Result UnitLine Why
unit_says ws = do
  address ← field unit_address BadAddress ws
  prog ← field mode_value UnknownWord address.1
  ended (OfUnit (record { address = address.0; prog = prog.0 })) prog.1

-- lose read K N, lose answer K N
unfoldable pub loss_says : Bool → List (List ℕ) → Result UnitLine Why
loss_says answer ws = do
  unit ← field count_value BadNumber ws
  n ← field count_value BadNumber unit.1
  ended (OfLoss (record { answer = answer; unit = unit.0; n = n.0 })) n.1

unfoldable pub lose_says : List (List ℕ) → Result UnitLine Why
lose_says [] = Err MissingWord
lose_says (w ∷ ws) = if bytes_eq w (codes "read") then loss_says false ws else (if bytes_eq w (codes "answer") then loss_says true ws else Err UnknownWord)

-- ---- the lines

unfoldable pub after_word_says : List ℕ → List (List ℕ) → Result UnitLine Why
after_word_says w ws = if bytes_eq w (codes "unit") then unit_says ws else (if bytes_eq w (codes "lose") then lose_says ws else Err UnknownWord)

-- a line without words says nothing
unfoldable pub unit_words_say : List (List ℕ) → Result (Option UnitLine) Why
unit_words_say [] = Ok None
unit_words_say (w ∷ ws) = after_word_says w ws >>= λ what. Ok (Some what)

unfoldable pub unit_line_says : List ℕ → Result (Option UnitLine) Why
unit_line_says line = line_text line >>= λ text. unit_words_say (words text)

-- ---- the whole text

abbrev pub is_unit : Option UnitLine → Bool
is_unit (Some (OfUnit unit)) = true
is_unit _ = false

abbrev pub says_unit : Result (Option UnitLine) Why → Bool
says_unit (Ok said) = is_unit said
says_unit (Err why) = false

-- how many units stand in the first so many lines
abbrev pub units_up_to : ℕ → List (List ℕ) → ℕ
units_up_to n ls = count_by (λ line. says_unit (unit_line_says line)) (take n ls)

-- what the line of this number says, among these lines
abbrev pub has_room : ℕ → Option UnitLine → Result (Option UnitLine) Why
has_room units said = if is_unit said && nat_lt 255 units then Err (TooMany 255) else Ok said

unfoldable pub units_say : List (List ℕ) → ℕ → List ℕ → Result (Option UnitLine) Why
units_say ls n line = unit_line_says line >>= has_room (units_up_to n ls)

abbrev pub unit_of : UnitLine → Option BusUnit
unit_of (OfUnit unit) = Some unit
unit_of (OfLoss loss) = None

abbrev pub loss_of : UnitLine → Option UnitLoss
loss_of (OfUnit unit) = None
loss_of (OfLoss loss) = Some loss

-- the units and the losses, each in the order of their lines
abbrev pub units_in : List UnitLine → List BusUnit
units_in said = filter_map unit_of said

abbrev pub losses_in : List UnitLine → List UnitLoss
losses_in said = filter_map loss_of said

abbrev pub unit_line : ℕ → UnitLine → UnitLine
unit_line n what = what

abbrev pub unit_reading : List ℕ → Result (List BusUnit × List UnitLoss) Refused
unit_reading octets = text_reading unit_line (units_say (lines octets)) octets >>= λ said. Ok (units_in said, losses_in said)
