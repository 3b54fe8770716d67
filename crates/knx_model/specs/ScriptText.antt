-- The script of a run: the line that each disturbance and each group telegram is written as, what a whole script reads as, and the
-- devices that its lines name. The language is this project's own.
use Rattle.std.specs.Prelude.{◌≡◌, ℕ, ◌+◌, ◌*◌, ◌<◌, slice_get, Bool, true, false, ◌&&◌, ◌==◌, nat_lt, nat_le, bytes_eq, codes, List, [], ◌∷◌, length, Option, Some, None, Result, Ok, Err, if◌then◌else◌}
use Rattle.std.specs.Char.{digit_value}
use Rattle.std.specs.List.{list_all, list_any, filter_map}
use Rattle.knx_model.specs.declared.address.GroupAddr.{GroupAddr}
use Rattle.knx_model.specs.declared.address.IndAddr.{IndAddr}
use Rattle.knx_model.specs.declared.frames.value.Value.{Value}
use Rattle.knx_model.specs.declared.frames.value.Value.TheVariants.{Short, Long}
use Rattle.knx_model.specs.declared.script.GroupService.{GroupService}
use Rattle.knx_model.specs.declared.script.GroupService.TheVariants.{Read, Write, Response}
use Rattle.knx_model.specs.declared.script.ScriptLine.{ScriptLine}
use Rattle.knx_model.specs.declared.script.ScriptWhat.{ScriptWhat}
use Rattle.knx_model.specs.declared.script.ScriptWhat.TheVariants.{LoseUp, LoseDown, RepeatUp, RepeatDown, LoseTo, LoseFrom, RepeatTo, Cut, Worn, CloseAfter, Refuse, DropChannel, Off, Standard, Group}
use Rattle.knx_model.specs.declared.refusal.Refused.{Refused}
use Rattle.knx_model.specs.declared.refusal.Why.{Why}
use Rattle.knx_model.specs.declared.refusal.Why.TheVariants.{UnknownWord, BadAddress, BadNumber, MissingWord, TooMany, NoDevice}
use Rattle.knx_model.specs.Words.{words}
use Rattle.knx_model.specs.Numbers.{is_digit, number_value}
use Rattle.knx_model.specs.Addresses.{group_value, ind_value}
use Rattle.knx_model.specs.Values.{value_value}
use Rattle.knx_model.specs.Answers.{◌>>=◌}
use Rattle.knx_model.specs.Statements.{field, ended, is_group, is_device}
use Rattle.knx_model.specs.LeastLine.{line_text, text_reading, lines_ascend, first_refused}

-- ---- words

abbrev pub not_0 : Option ℕ → Option ℕ
not_0 None = None
not_0 (Some n) = if n == 0 then None else Some n

-- N, a number of at least 1
abbrev pub count_value : List ℕ → Option ℕ
count_value word = not_0 (number_value word)

-- HH, two hexadecimal digits from 01 to FF
abbrev pub status_value : List ℕ → Option ℕ
status_value (high ∷ below ∷ []) = not_0 (if is_digit 16 high && is_digit 16 below then Some (digit_value high * 16 + digit_value below) else None)
status_value _ = None

abbrev pub written : Option Value → Option GroupService
written None = None
written (Some value) = Some (Write value)

-- V, `read` or the value that is written
unfoldable pub service_value : List ℕ → Option GroupService
service_value word = if bytes_eq word (codes "read") then Some Read else written (value_value word)

-- ---- the words after those that name the line

-- N
unfoldable pub n_says : List (List ℕ) → Result ℕ Why
n_says ws = do
  n ← field count_value BadNumber ws
  ended n.0 n.1

-- D N
unfoldable pub device_n_says : List (List ℕ) → Result (IndAddr × ℕ) Why
device_n_says ws = do
  device ← field ind_value BadAddress ws
  n ← field count_value BadNumber device.1
  ended (device.0, n.0) n.1

-- GA V
unfoldable pub telegram_says : Bool → List (List ℕ) → Result ScriptWhat Why
telegram_says after ws = do
  group ← field group_value BadAddress ws
  service ← field service_value BadNumber group.1
  ended (Group after group.0 service.0) service.1

-- ---- the lines

-- lose up N
abbrev pub lose_up_says : List (List ℕ) → Result ScriptWhat Why
lose_up_says ws = n_says ws >>= λ n. Ok (LoseUp n)

-- lose down N
abbrev pub lose_down_says : List (List ℕ) → Result ScriptWhat Why
lose_down_says ws = n_says ws >>= λ n. Ok (LoseDown n)

-- lose to D N
abbrev pub lose_to_says : List (List ℕ) → Result ScriptWhat Why
lose_to_says ws = device_n_says ws >>= λ x. Ok (LoseTo x.0 x.1)

-- lose from D N
abbrev pub lose_from_says : List (List ℕ) → Result ScriptWhat Why
lose_from_says ws = device_n_says ws >>= λ x. Ok (LoseFrom x.0 x.1)

-- repeat up N
abbrev pub repeat_up_says : List (List ℕ) → Result ScriptWhat Why
repeat_up_says ws = n_says ws >>= λ n. Ok (RepeatUp n)

-- repeat down N
abbrev pub repeat_down_says : List (List ℕ) → Result ScriptWhat Why
repeat_down_says ws = n_says ws >>= λ n. Ok (RepeatDown n)

-- repeat to D N
abbrev pub repeat_to_says : List (List ℕ) → Result ScriptWhat Why
repeat_to_says ws = device_n_says ws >>= λ x. Ok (RepeatTo x.0 x.1)

-- cut D N K
unfoldable pub cut_says : List (List ℕ) → Result ScriptWhat Why
cut_says ws = do
  device ← field ind_value BadAddress ws
  n ← field count_value BadNumber device.1
  k ← field number_value BadNumber n.1
  ended (Cut device.0 n.0 k.0) k.1

-- worn D N
abbrev pub worn_says : List (List ℕ) → Result ScriptWhat Why
worn_says ws = device_n_says ws >>= λ x. Ok (Worn x.0 x.1)

-- close D N
abbrev pub close_says : List (List ℕ) → Result ScriptWhat Why
close_says ws = device_n_says ws >>= λ x. Ok (CloseAfter x.0 x.1)

-- refuse N HH
unfoldable pub refuse_says : List (List ℕ) → Result ScriptWhat Why
refuse_says ws = do
  n ← field count_value BadNumber ws
  status ← field status_value BadNumber n.1
  ended (Refuse n.0 status.0) status.1

-- drop channel N
abbrev pub drop_channel_says : List (List ℕ) → Result ScriptWhat Why
drop_channel_says ws = n_says ws >>= λ n. Ok (DropChannel n)

-- off D
unfoldable pub off_says : List (List ℕ) → Result ScriptWhat Why
off_says ws = do
  device ← field ind_value BadAddress ws
  ended (Off device.0) device.1

-- standard D
unfoldable pub standard_says : List (List ℕ) → Result ScriptWhat Why
standard_says ws = do
  device ← field ind_value BadAddress ws
  ended (Standard device.0) device.1

-- group GA V
abbrev pub group_says : List (List ℕ) → Result ScriptWhat Why
group_says ws = telegram_says false ws

-- then group GA V
abbrev pub then_group_says : List (List ℕ) → Result ScriptWhat Why
then_group_says ws = telegram_says true ws

-- ---- which line it is

-- the line whose second word is the next one
unfoldable pub lose_says : List (List ℕ) → Result ScriptWhat Why
lose_says [] = Err MissingWord
lose_says (w ∷ ws) =
    if bytes_eq w (codes "up") then lose_up_says ws
    else (if bytes_eq w (codes "down") then lose_down_says ws
    else (if bytes_eq w (codes "to") then lose_to_says ws
    else (if bytes_eq w (codes "from") then lose_from_says ws
    else Err UnknownWord)))

unfoldable pub repeat_says : List (List ℕ) → Result ScriptWhat Why
repeat_says [] = Err MissingWord
repeat_says (w ∷ ws) =
    if bytes_eq w (codes "up") then repeat_up_says ws
    else (if bytes_eq w (codes "down") then repeat_down_says ws
    else (if bytes_eq w (codes "to") then repeat_to_says ws
    else Err UnknownWord))

unfoldable pub drop_says : List (List ℕ) → Result ScriptWhat Why
drop_says [] = Err MissingWord
drop_says (w ∷ ws) = if bytes_eq w (codes "channel") then drop_channel_says ws else Err UnknownWord

unfoldable pub then_says : List (List ℕ) → Result ScriptWhat Why
then_says [] = Err MissingWord
then_says (w ∷ ws) = if bytes_eq w (codes "group") then then_group_says ws else Err UnknownWord

-- the words after the first one
unfoldable pub after_word_says : List ℕ → List (List ℕ) → Result ScriptWhat Why
after_word_says w ws =
    if bytes_eq w (codes "lose") then lose_says ws
    else (if bytes_eq w (codes "repeat") then repeat_says ws
    else (if bytes_eq w (codes "cut") then cut_says ws
    else (if bytes_eq w (codes "worn") then worn_says ws
    else (if bytes_eq w (codes "close") then close_says ws
    else (if bytes_eq w (codes "refuse") then refuse_says ws
    else (if bytes_eq w (codes "drop") then drop_says ws
    else (if bytes_eq w (codes "off") then off_says ws
    else (if bytes_eq w (codes "standard") then standard_says ws
    else (if bytes_eq w (codes "group") then group_says ws
    else (if bytes_eq w (codes "then") then then_says ws
    else Err UnknownWord))))))))))

-- a line without words says nothing
unfoldable pub script_words_say : List (List ℕ) → Result (Option ScriptWhat) Why
script_words_say [] = Ok None
script_words_say (w ∷ ws) = after_word_says w ws >>= λ what. Ok (Some what)

unfoldable pub script_line_says : List ℕ → Result (Option ScriptWhat) Why
script_line_says line = line_text line >>= λ text. script_words_say (words text)

-- ---- the whole script

-- what the line of this number says. A script has at most 65,536 lines
unfoldable pub script_says : ℕ → List ℕ → Result (Option ScriptWhat) Why
script_says n line = if nat_lt 65536 n then Err (TooMany 65536) else script_line_says line

abbrev pub script_line : ℕ → ScriptWhat → ScriptLine
script_line n what = record { line = n; what = what }

abbrev pub script_reading : List ℕ → Result (List ScriptLine) Refused
script_reading octets = text_reading script_line script_says octets

-- ---- lines that can be spelled

-- a number that can be spelled, and isn't 0
abbrev pub is_count : ℕ → Bool
is_count n = nat_lt 0 n && nat_lt n 4294967296

abbrev pub is_service : GroupService → Bool
is_service Read = true
is_service (Write (Short octet)) = nat_lt octet 64
is_service (Write (Long octets)) = nat_lt 0 (length octets) && nat_lt (length octets) 15
is_service (Response value) = false

abbrev pub is_script_what : ScriptWhat → Bool
is_script_what (LoseUp n) = is_count n
is_script_what (LoseDown n) = is_count n
is_script_what (RepeatUp n) = is_count n
is_script_what (RepeatDown n) = is_count n
is_script_what (LoseTo device n) = is_device device && is_count n
is_script_what (LoseFrom device n) = is_device device && is_count n
is_script_what (RepeatTo device n) = is_device device && is_count n
is_script_what (Cut device n k) = is_device device && is_count n && nat_lt k 4294967296
is_script_what (Worn device n) = is_device device && is_count n
is_script_what (CloseAfter device n) = is_device device && is_count n
is_script_what (Refuse n status) = is_count n && nat_lt 0 status && nat_lt status 256
is_script_what (DropChannel n) = is_count n
is_script_what (Off device) = is_device device
is_script_what (Standard device) = is_device device
is_script_what (Group after group service) = is_group group && is_service service

-- a line of a script that has at most 65,536
abbrev pub is_script_line : ScriptLine → Bool
is_script_line l = is_script_what l.what && nat_le l.line 65536

abbrev pub are_script_lines : List ScriptLine → Bool
are_script_lines ls = list_all is_script_line ls

abbrev pub script_lines_ascend : List ScriptLine → Bool
script_lines_ascend ls = lines_ascend (λ l. l.line) 0 ls

-- ---- the devices that lines name

-- the device that a line names
abbrev pub device_named : ScriptWhat → Option IndAddr
device_named (LoseTo device n) = Some device
device_named (LoseFrom device n) = Some device
device_named (RepeatTo device n) = Some device
device_named (Cut device n k) = Some device
device_named (Worn device n) = Some device
device_named (CloseAfter device n) = Some device
device_named (Off device) = Some device
device_named (Standard device) = Some device
device_named _ = None

abbrev pub is_listed : List IndAddr → IndAddr → Bool
is_listed devices device = list_any (λ d. d.raw == device.raw) devices

abbrev pub refused_unless_listed : List IndAddr → ℕ → Option IndAddr → Option Refused
refused_unless_listed devices line None = None
refused_unless_listed devices line (Some device) = if is_listed devices device then None else Some (record { line = line; why = NoDevice })

-- the lines that name a device which isn't listed
unfoldable pub strangers : List IndAddr → List ScriptLine → List Refused
strangers devices ls = filter_map (λ l. refused_unless_listed devices l.line (device_named l.what)) ls

-- the first line that names a device which isn't listed
abbrev pub first_stranger : List IndAddr → List ScriptLine → Option Refused
first_stranger devices ls = first_refused (strangers devices ls)

-- ---- the same in the language's own words

-- the words spell the line
pub data SpellsLine : List (List ℕ) → ScriptWhat → Type 0 where
  SpellsLoseUp : (number : List ℕ) (n : ℕ) → count_value number ≡ Some n → SpellsLine (codes "lose" ∷ codes "up" ∷ number ∷ []) (LoseUp n)
  SpellsLoseDown : (number : List ℕ) (n : ℕ) → count_value number ≡ Some n → SpellsLine (codes "lose" ∷ codes "down" ∷ number ∷ []) (LoseDown n)
  SpellsLoseTo : (address number : List ℕ) (d : IndAddr) (n : ℕ) → ind_value address ≡ Some d → count_value number ≡ Some n → SpellsLine (codes "lose" ∷ codes "to" ∷ address ∷ number ∷ []) (LoseTo d n)
  SpellsLoseFrom : (address number : List ℕ) (d : IndAddr) (n : ℕ) → ind_value address ≡ Some d → count_value number ≡ Some n → SpellsLine (codes "lose" ∷ codes "from" ∷ address ∷ number ∷ []) (LoseFrom d n)
  SpellsRepeatUp : (number : List ℕ) (n : ℕ) → count_value number ≡ Some n → SpellsLine (codes "repeat" ∷ codes "up" ∷ number ∷ []) (RepeatUp n)
  SpellsRepeatDown : (number : List ℕ) (n : ℕ) → count_value number ≡ Some n → SpellsLine (codes "repeat" ∷ codes "down" ∷ number ∷ []) (RepeatDown n)
  SpellsRepeatTo : (address number : List ℕ) (d : IndAddr) (n : ℕ) → ind_value address ≡ Some d → count_value number ≡ Some n → SpellsLine (codes "repeat" ∷ codes "to" ∷ address ∷ number ∷ []) (RepeatTo d n)
  SpellsCut : (address number kept : List ℕ) (d : IndAddr) (n k : ℕ) → ind_value address ≡ Some d → count_value number ≡ Some n → number_value kept ≡ Some k → SpellsLine (codes "cut" ∷ address ∷ number ∷ kept ∷ []) (Cut d n k)
  SpellsWorn : (address number : List ℕ) (d : IndAddr) (n : ℕ) → ind_value address ≡ Some d → count_value number ≡ Some n → SpellsLine (codes "worn" ∷ address ∷ number ∷ []) (Worn d n)
  SpellsClose : (address number : List ℕ) (d : IndAddr) (n : ℕ) → ind_value address ≡ Some d → count_value number ≡ Some n → SpellsLine (codes "close" ∷ address ∷ number ∷ []) (CloseAfter d n)
  SpellsRefuse : (number digits : List ℕ) (n status : ℕ) → count_value number ≡ Some n → status_value digits ≡ Some status → SpellsLine (codes "refuse" ∷ number ∷ digits ∷ []) (Refuse n status)
  SpellsDrop : (number : List ℕ) (n : ℕ) → count_value number ≡ Some n → SpellsLine (codes "drop" ∷ codes "channel" ∷ number ∷ []) (DropChannel n)
  SpellsOff : (address : List ℕ) (d : IndAddr) → ind_value address ≡ Some d → SpellsLine (codes "off" ∷ address ∷ []) (Off d)
  SpellsStandard : (address : List ℕ) (d : IndAddr) → ind_value address ≡ Some d → SpellsLine (codes "standard" ∷ address ∷ []) (Standard d)
  SpellsGroup : (address value : List ℕ) (g : GroupAddr) (service : GroupService) → group_value address ≡ Some g → service_value value ≡ Some service → SpellsLine (codes "group" ∷ address ∷ value ∷ []) (Group false g service)
  SpellsThenGroup : (address value : List ℕ) (g : GroupAddr) (service : GroupService) → group_value address ≡ Some g → service_value value ≡ Some service → SpellsLine (codes "then" ∷ codes "group" ∷ address ∷ value ∷ []) (Group true g service)

-- a line that names a device which isn't listed
pub record IsStranger (devices : List IndAddr) (l : ScriptLine) : Type 0 where
  pub device : IndAddr
  pub named : device_named l.what ≡ Some device
  pub unlisted : is_listed devices device ≡ false

-- the refusal is of a line that names such a device, and no line before it names one
pub record IsFirstStranger (devices : List IndAddr) (ls : List ScriptLine) (r : Refused) : Type 0 where
  pub at : ℕ
  pub here : ScriptLine
  pub there : slice_get ls at ≡ Some here
  pub stranger : IsStranger devices here
  pub refused : r ≡ record { line = here.line; why = NoDevice }
  pub before : (k : ℕ) (earlier : ScriptLine) → k < at → slice_get ls k ≡ Some earlier → ¬ IsStranger devices earlier
