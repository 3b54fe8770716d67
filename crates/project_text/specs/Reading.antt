-- What the reader of projects adds line by line, beside what a line says, and what it reads of a part of a text. Want of memory is no
-- reading of the text.
use Rattle.std.specs.Prelude.{◌≡◌, ℕ, List, [], ◌∷◌, ◌++◌, Option, Some, None, Result, Ok, Err, IfOk, IfErr, IsTrue}
use Rattle.std.specs.Str.Lines.{lines}
use Rattle.knx_model.specs.Answers.{AnswersUnless}
use Rattle.knx_model.specs.declared.project.Grammar.{Grammar}
use Rattle.knx_model.specs.declared.project.Statement.{Statement}
use Rattle.knx_model.specs.declared.project.What.{What}
use Rattle.knx_model.specs.declared.refusal.Refused.{Refused}
use Rattle.knx_model.specs.declared.refusal.Why.{Why}
use Rattle.knx_model.specs.declared.refusal.Why.TheVariants.{NoMemory}
use Rattle.knx_model.specs.LeastLine.{first_refusal_or, refused_from, said_from}
use Rattle.knx_model.specs.Statements.{are_spelled, project_says, statement}

-- the statements with that of a line more, if it says one; or the rule that the line breaks
abbrev pub with_line : List Statement → ℕ → Result (Option What) Why → Result (List Statement) Why
with_line before n (Ok None) = Ok before
with_line before n (Ok (Some what)) = Ok (before ++ statement n what ∷ [])
with_line before n (Err why) = Err why

-- the list became what was read, and a refusal is what was read, unless memory ran out
abbrev pub Added : Result (Unit {0}) Why → List Statement → Result (List Statement) Why → Type 0
Added result statements read = AnswersUnless (λ why. why ≡ NoMemory tt) (λ done. statements) result read

-- what lines of a text of this grammar read as that are numbered from n
abbrev pub lines_say : Grammar → ℕ → List (List ℕ) → Result (List Statement) Refused
lines_say g n ls = first_refusal_or (refused_from (project_says g) n ls) (said_from statement (project_says g) n ls)

-- the part of a text whose first line has number n was read
pub record IsRead (g : Grammar) (n : ℕ) (octets : List ℕ) (result : Result (List Statement) Refused) : Type 0 where
  pub read : AnswersUnless (λ e. e.why ≡ NoMemory tt) (λ said. said) result (lines_say g n (lines octets))
  pub memory : IfErr result (λ e. e.why ≡ NoMemory tt → e.line ≡ 0)
  pub spelled : IfOk result (λ said. IsTrue (are_spelled g.version said))

-- what two parts of a text were read as, one behind the other: the first refusal, or all statements unless memory ran out
abbrev pub IsJoined : Result (List Statement) Refused → Result (List Statement) Refused → Result (List Statement) Refused → Type 0
IsJoined (Err e) later result = result ≡ Err e
IsJoined (Ok said) (Err e) result = result ≡ Err e
IsJoined (Ok said) (Ok later) result = IfOk result (λ all. all ≡ said ++ later) × IfErr result (λ e. e ≡ record { line = 0; why = NoMemory tt })
