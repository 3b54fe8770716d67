-- The project text: what a line says, and what a whole text reads as. A line says a statement, nothing, or the first rule that it
-- breaks; a text is refused at the least line that breaks a rule. The version of the text decides which statements there are, and how
-- groups are written. The language is this project's own.
use Rattle.std.specs.Prelude.{ℕ, zero, suc, ◌+◌, ◌%◌, Bool, true, false, ◌&&◌, ◌||◌, not, ◌==◌, nat_lt, nat_le, bytes_eq, codes, List, [], ◌∷◌, length, drop, Option, Some, None, Result, Ok, Err, if◌then◌else◌}
use Rattle.std.specs.List.{list_all}
use Rattle.std.specs.Str.Lines.{lines}
use Rattle.knx_model.specs.declared.address.GroupAddr.{GroupAddr}
use Rattle.knx_model.specs.declared.address.IndAddr.{IndAddr}
use Rattle.knx_model.specs.declared.project.Grammar.{Grammar}
use Rattle.knx_model.specs.declared.project.Statement.{Statement}
use Rattle.knx_model.specs.declared.project.TextVersion.{TextVersion}
use Rattle.knx_model.specs.declared.project.TextVersion.TheVariants.{One, Two}
use Rattle.knx_model.specs.declared.project.What.{What}
use Rattle.knx_model.specs.declared.project.What.TheVariants.{Version, Title, Group, Device, Object, Link, Send, Flags, Param}
use Rattle.knx_model.specs.declared.refusal.Refused.{Refused}
use Rattle.knx_model.specs.declared.refusal.Why.{Why}
use Rattle.knx_model.specs.declared.refusal.Why.TheVariants.{UnknownWord, BadAddress, BadNumber, BadName, MissingWord, ExtraWord, BadVersion}
use Rattle.knx_model.specs.Answers.{◌>>=◌}
use Rattle.knx_model.specs.LeastLine.{line_text, lines_ascend, text_reading}
use Rattle.knx_model.specs.Words.{words, without_comment}
use Rattle.knx_model.specs.Numbers.{number_value, is_name}
use Rattle.knx_model.specs.Addresses.{group_by, ind_value}
use Rattle.knx_model.specs.Flags.{flags_value}
use Rattle.knx_model.specs.Sizes.{size_value}

-- ---- words in their places

-- a word in its place, and the words after it
abbrev pub placed : {A : Type 0} → Option A → Why → List (List ℕ) → Result (A × List (List ℕ)) Why
placed None why ws = Err why
placed (Some x) why ws = Ok (x, ws)

abbrev pub field : {A : Type 0} → (List ℕ → Option A) → Why → List (List ℕ) → Result (A × List (List ℕ)) Why
field read why [] = Err MissingWord
field read why (w ∷ ws) = placed (read w) why ws

-- no word is left
abbrev pub ended : {A : Type 0} → A → List (List ℕ) → Result A Why
ended x [] = Ok x
ended x (w ∷ ws) = Err ExtraWord

-- the number of an object, 1 to 255
abbrev pub from_1_to_255 : Option ℕ → Option ℕ
from_1_to_255 None = None
from_1_to_255 (Some n) = if (n == 0) || nat_lt 255 n then None else Some n

abbrev pub object_value : List ℕ → Option ℕ
object_value word = from_1_to_255 (number_value word)

abbrev pub name_value : List ℕ → Option (List ℕ)
name_value word = if is_name word then Some word else None

-- a number is 2
abbrev pub is_2 : Option ℕ → Bool
is_2 None = false
is_2 (Some n) = n == 2

-- a line has words
abbrev pub has_words : List ℕ → Bool
has_words line = nat_lt 0 (length (words (without_comment line)))

-- how many groups a `link` line may have
abbrev pub most_groups : TextVersion → ℕ
most_groups One = 1
most_groups Two = 32

-- a word's group, which must be there
abbrev pub read_group : Option GroupAddr → Result GroupAddr Why
read_group None = Err BadAddress
read_group (Some group) = Ok group

-- the groups of the words, at most `most` of them
unfoldable pub up_to_groups : TextVersion → ℕ → List (List ℕ) → Result (List GroupAddr) Why
up_to_groups version most [] = Ok []
up_to_groups version zero (w ∷ ws) = Err ExtraWord
up_to_groups version (suc most) (w ∷ ws) = do
  group ← read_group (group_by version w)
  others ← up_to_groups version most ws
  Ok (group ∷ others)

-- the same where one is needed
abbrev pub some_groups : TextVersion → List (List ℕ) → Result (List GroupAddr) Why
some_groups version [] = Err MissingWord
some_groups version (w ∷ ws) = up_to_groups version (most_groups version) (w ∷ ws)

-- ---- statements

-- version 2, in the first line with words
unfoldable pub version_says : Bool → List (List ℕ) → Result What Why
version_says is_first ws = do
  number ← field number_value BadNumber ws
  version ← ended Version number.1
  if is_first && (number.0 == 2) then Ok version else Err BadVersion

-- project NAME
unfoldable pub title_says : List (List ℕ) → Result What Why
title_says ws = do
  name ← field name_value BadName ws
  ended (Title name.0) name.1

-- ga GA NAME
unfoldable pub ga_says : TextVersion → List (List ℕ) → Result What Why
ga_says version ws = do
  group ← field (group_by version) BadAddress ws
  name ← field name_value BadName group.1
  ended (Group group.0 name.0) name.1

-- device IA MODEL
unfoldable pub device_says : List (List ℕ) → Result What Why
device_says ws = do
  device ← field ind_value BadAddress ws
  model ← field name_value BadName device.1
  ended (Device device.0 model.0) model.1

-- object IA N SIZE FLAGS
unfoldable pub object_says : List (List ℕ) → Result What Why
object_says ws = do
  device ← field ind_value BadAddress ws
  n ← field object_value BadNumber device.1
  size ← field size_value BadNumber n.1
  flags ← field flags_value BadName size.1
  ended (Object device.0 n.0 size.0 flags.0) flags.1

-- link IA N GA, with as many groups as the version lets it have
unfoldable pub link_says : TextVersion → List (List ℕ) → Result What Why
link_says version ws = do
  device ← field ind_value BadAddress ws
  object ← field object_value BadNumber device.1
  groups ← some_groups version object.1
  Ok (Link device.0 object.0 groups)

-- send IA N GA, from version 2 on
unfoldable pub send_says : TextVersion → List (List ℕ) → Result What Why
send_says One ws = Err UnknownWord
send_says Two ws = do
  device ← field ind_value BadAddress ws
  object ← field object_value BadNumber device.1
  group ← field (group_by Two) BadAddress object.1
  ended (Send device.0 object.0 group.0) group.1

-- flags IA N FLAGS
unfoldable pub flags_says : List (List ℕ) → Result What Why
flags_says ws = do
  device ← field ind_value BadAddress ws
  object ← field object_value BadNumber device.1
  flags ← field flags_value BadName object.1
  ended (Flags device.0 object.0 flags.0) flags.1

-- param IA NAME VALUE
unfoldable pub param_says : List (List ℕ) → Result What Why
param_says ws = do
  device ← field ind_value BadAddress ws
  name ← field name_value BadName device.1
  value ← field number_value BadNumber name.1
  ended (Param device.0 name.0 value.0) value.1

abbrev pub some_what : Result What Why → Result (Option What) Why
some_what (Ok x) = Ok (Some x)
some_what (Err why) = Err why

-- what the words of a line say, in a text of this version; whether the line is the first one with words
unfoldable pub words_say : TextVersion → Bool → List (List ℕ) → Result (Option What) Why
words_say version is_first [] = Ok None
words_say version is_first (w ∷ ws) =
    if bytes_eq w (codes "project") then some_what (title_says ws)
    else (if bytes_eq w (codes "ga") then some_what (ga_says version ws)
    else (if bytes_eq w (codes "device") then some_what (device_says ws)
    else (if bytes_eq w (codes "object") then some_what (object_says ws)
    else (if bytes_eq w (codes "link") then some_what (link_says version ws)
    else (if bytes_eq w (codes "flags") then some_what (flags_says ws)
    else (if bytes_eq w (codes "param") then some_what (param_says ws)
    else (if bytes_eq w (codes "send") then some_what (send_says version ws)
    else (if bytes_eq w (codes "version") then some_what (version_says is_first ws)
    else Err UnknownWord))))))))

-- what a line says
unfoldable pub line_says : TextVersion → Bool → List ℕ → Result (Option What) Why
line_says version is_first line = line_text line >>= λ text. words_say version is_first (words text)

-- ---- the whole text

abbrev pub statement : ℕ → What → Statement
statement n what = record { line = n; what = what }

-- words of a line tell version 2
abbrev pub version_told : List (List ℕ) → TextVersion
version_told (keyword ∷ number ∷ []) = if bytes_eq keyword (codes "version") && is_2 (number_value number) then Two else One
version_told _ = One

-- of lines that are numbered from n, the number of the first one with words, and the version that it tells
unfoldable pub grammar_from : ℕ → List (List ℕ) → Grammar
grammar_from n [] = record { version = One; first = n }
grammar_from n (line ∷ later) =
    if has_words line then record { version = version_told (words (without_comment line)); first = n }
    else grammar_from (n + 1) later

-- how the lines of a text are read
abbrev pub grammar_of : List ℕ → Grammar
grammar_of octets = grammar_from 1 (lines octets)

-- what the line of this number says
abbrev pub project_says : Grammar → ℕ → List ℕ → Result (Option What) Why
project_says grammar n line = line_says grammar.version (n == grammar.first) line

-- the statements of all lines, or the refusal of the least line that breaks a rule
abbrev pub reading : List ℕ → Result (List Statement) Refused
reading octets = text_reading statement (project_says (grammar_of octets)) octets

-- ---- statements that can be spelled in the version of their text, and lines that ascend

abbrev pub is_group : GroupAddr → Bool
is_group g = nat_lt 0 g.raw && nat_lt g.raw 65536

abbrev pub is_device : IndAddr → Bool
is_device d = nat_lt d.raw 65536 && nat_lt 0 (d.raw % 256) && nat_lt (d.raw % 256) 255

abbrev pub is_object : ℕ → Bool
is_object n = nat_lt 0 n && nat_lt n 256

abbrev pub are_groups : TextVersion → List GroupAddr → Bool
are_groups version groups = nat_lt 0 (length groups) && nat_le (length groups) (most_groups version) && list_all is_group groups

abbrev pub is_version_2 : TextVersion → Bool
is_version_2 One = false
is_version_2 Two = true

abbrev pub is_spellable : TextVersion → What → Bool
is_spellable version Version = true
is_spellable version (Title name) = is_name name
is_spellable version (Group group name) = is_group group && is_name name
is_spellable version (Device device model) = is_device device && is_name model
is_spellable version (Object device n size flags) = is_device device && is_object n && nat_lt size 15 && nat_lt flags 256 && (flags % 4 == 3)
is_spellable version (Link device object groups) = is_device device && is_object object && are_groups version groups
is_spellable version (Send device object group) = is_version_2 version && (is_device device && is_object object && is_group group)
is_spellable version (Flags device object flags) = is_device device && is_object object && nat_lt flags 256 && (flags % 4 == 3)
is_spellable version (Param device name value) = is_device device && is_name name && nat_lt value 4294967296

abbrev pub are_spelled : TextVersion → List Statement → Bool
are_spelled version ss = list_all (λ s. is_spellable version s.what) ss

abbrev pub is_version : What → Bool
is_version Version = true
is_version _ = false

-- statements are of version 2 exactly where the first one tells it
abbrev pub version_of : List Statement → TextVersion
version_of [] = One
version_of (s ∷ ss) = if is_version s.what then Two else One

-- each can be spelled in their version, and no later one tells a version
abbrev pub are_spellable : List Statement → Bool
are_spellable ss = are_spelled (version_of ss) ss && list_all (λ s. not (is_version s.what)) (drop 1 ss)

-- each line is above the one before, and the first above n
abbrev pub are_numbered : ℕ → List Statement → Bool
are_numbered n ss = lines_ascend (λ s. s.line) n ss
