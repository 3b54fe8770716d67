-- What a text of lines reads as. Each line says something, nothing, or the first rule that it breaks; a text is refused at the least
-- line that breaks a rule, and else it reads as what its lines say, each with its number. Lines are numbered from 1. A line reader
-- tells of each line, by its number and its octets, what it says.
use Rattle.std.specs.Prelude.{◌≡◌, ℕ, ◌+◌, ◌-◌, ◌<◌, slice_get, IsOk, Bool, true, ◌&&◌, not, nat_lt, List, [], ◌∷◌, length, Option, Some, None, Result, Ok, Err, if◌then◌else◌}
use Rattle.std.specs.List.{filter_map, enumerate_from}
use Rattle.std.specs.Str.Lines.{lines}
use Rattle.knx_model.specs.declared.refusal.Refused.{Refused}
use Rattle.knx_model.specs.declared.refusal.Why.{Why}
use Rattle.knx_model.specs.declared.refusal.Why.TheVariants.{NotText, LongLine, TooMany}
use Rattle.knx_model.specs.Words.{is_text, without_comment}

-- ---- a line

-- the part of a line that has its words. A line is text, and has at most 512 octets without its end
abbrev pub line_text : List ℕ → Result (List ℕ) Why
line_text line =
    if not (is_text line) then Err NotText
    else (if nat_lt 512 (length line) then Err LongLine
    else Ok (without_comment line))

-- what a line says, with its number
abbrev pub said_in_line : {W S : Type 0} → (ℕ → W → S) → ℕ → Result (Option W) Why → Option S
said_in_line numbered n (Ok (Some what)) = Some (numbered n what)
said_in_line numbered n (Ok None) = None
said_in_line numbered n (Err why) = None

-- a line that breaks a rule
abbrev pub refused_in_line : {W : Type 0} → ℕ → Result (Option W) Why → Option Refused
refused_in_line n (Ok said) = None
refused_in_line n (Err why) = Some (record { line = n; why = why })

-- ---- the whole text

-- what the lines say that are numbered from n
unfoldable pub said_from : {W S : Type 0} → (ℕ → W → S) → (ℕ → List ℕ → Result (Option W) Why) → ℕ → List (List ℕ) → List S
said_from numbered says n ls = filter_map (λ p. said_in_line numbered p.0 (says p.0 p.1)) (enumerate_from n ls)

-- the lines that break a rule, the least first
unfoldable pub refused_from : {W : Type 0} → (ℕ → List ℕ → Result (Option W) Why) → ℕ → List (List ℕ) → List Refused
refused_from says n ls = filter_map (λ p. refused_in_line p.0 (says p.0 p.1)) (enumerate_from n ls)

-- the first refusal, where there is one
abbrev pub first_refused : List Refused → Option Refused
first_refused [] = None
first_refused (r ∷ rs) = Some r

-- the first refusal, or what is read where there is none
abbrev pub first_refusal_or : {S : Type 0} → List Refused → List S → Result (List S) Refused
first_refusal_or [] said = Ok said
first_refusal_or (r ∷ rs) said = Err r

-- what a text reads as; a text has at most 4,194,304 octets
unfoldable pub text_reading : {W S : Type 0} → (ℕ → W → S) → (ℕ → List ℕ → Result (Option W) Why) → List ℕ → Result (List S) Refused
text_reading numbered says octets =
    if nat_lt 4194304 (length octets) then Err (record { line = 0; why = TooMany 4194304 })
    else first_refusal_or (refused_from says 1 (lines octets)) (said_from numbered says 1 (lines octets))

-- ---- the same in the language's own words

-- the line of this number breaks the rule, and no line before it breaks any
pub record IsLeastRefused {W : Type 0} (says : ℕ → List ℕ → Result (Option W) Why) (octets : List ℕ) (r : Refused) : Type 0 where
  pub text : List ℕ
  pub from_1 : 0 < r.line
  pub there : slice_get (lines octets) (r.line - 1) ≡ Some text
  pub breaks : says r.line text ≡ Err r.why
  pub before : (k : ℕ) (earlier : List ℕ) → k + 1 < r.line → slice_get (lines octets) k ≡ Some earlier → IsOk (says (k + 1) earlier)

-- no line breaks a rule
abbrev pub AllLinesSay : {W : Type 0} → (ℕ → List ℕ → Result (Option W) Why) → List ℕ → Type 0
AllLinesSay says octets = (k : ℕ) (text : List ℕ) → slice_get (lines octets) k ≡ Some text → IsOk (says (k + 1) text)

-- each line is above the one before, and the first above n
abbrev pub lines_ascend : {S : Type 0} → (S → ℕ) → ℕ → List S → Bool
lines_ascend line n [] = true
lines_ascend line n (s ∷ ss) = nat_lt n (line s) && lines_ascend line (line s) ss
