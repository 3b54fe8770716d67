-- What the lines of a script say of each place (this project's own): which datagram and which frame is lost or repeated, which write is cut or
-- worn, which connect request is refused, when a connection or the channel closes, and which devices have no power or are standard ones. Where
-- two lines name one place, losing goes before repeating and a cut before worn memory; of two equal ones the earlier line holds.
use Rattle.std.specs.Prelude.{ℕ, Bool, false, ◌&&◌, ◌==◌, List, [], ◌∷◌, map, if◌then◌else◌, Option, Some, None}
use Rattle.std.specs.List.{list_any}
use Rattle.knx_model.specs.declared.script.ScriptLine.{ScriptLine}
use Rattle.knx_model.specs.declared.script.ScriptWhat.{ScriptWhat}
use Rattle.knx_model.specs.declared.script.ScriptWhat.TheVariants.{LoseUp, LoseDown, RepeatUp, RepeatDown, LoseTo, LoseFrom, RepeatTo, Cut, Worn, CloseAfter, Refuse, DropChannel, Off, Standard}

-- ---- what one line says of a place

-- whether a line is the one that is wanted, where that says no more than what happens at its place; a line that says a value beside it, as a cut, is none
abbrev pub is_line : ScriptWhat → ScriptWhat → Bool
is_line (LoseUp n) (LoseUp k) = k == n
is_line (LoseDown n) (LoseDown k) = k == n
is_line (RepeatUp n) (RepeatUp k) = k == n
is_line (RepeatDown n) (RepeatDown k) = k == n
is_line (LoseTo device n) (LoseTo d k) = (d.raw == device.raw) && (k == n)
is_line (LoseFrom device n) (LoseFrom d k) = (d.raw == device.raw) && (k == n)
is_line (RepeatTo device n) (RepeatTo d k) = (d.raw == device.raw) && (k == n)
is_line (Worn device n) (Worn d k) = (d.raw == device.raw) && (k == n)
is_line (CloseAfter device n) (CloseAfter d k) = (d.raw == device.raw) && (k == n)
is_line (DropChannel n) (DropChannel k) = k == n
is_line (Off device) (Off d) = d.raw == device.raw
is_line (Standard device) (Standard d) = d.raw == device.raw
is_line _ _ = false

-- how many octets of the write are new
abbrev pub cut_at : ℕ → ℕ → ScriptWhat → Option ℕ
cut_at device n (Cut d k octets) = if (d.raw == device) && (k == n) then Some octets else None
cut_at device n _ = None

abbrev pub status_at : ℕ → ScriptWhat → Option ℕ
status_at n (Refuse k status) = if k == n then Some status else None
status_at n _ = None

-- ---- what the script says

abbrev pub Script : Type 0
Script = List ScriptWhat

abbrev pub script_of : List ScriptLine → Script
script_of ls = map (λ (l : ScriptLine). l.what) ls

abbrev pub has_line : ScriptWhat → Script → Bool
has_line line script = list_any (is_line line) script

abbrev pub or_later : Option ℕ → Option ℕ → Option ℕ
or_later None later = later
or_later (Some x) later = Some x

abbrev pub first_said : (ScriptWhat → Option ℕ) → Script → Option ℕ
first_said what [] = None
first_said what (line ∷ script) = or_later (what line) (first_said what script)

abbrev pub loses_up : Script → ℕ → Bool
loses_up script n = has_line (LoseUp n) script

abbrev pub loses_down : Script → ℕ → Bool
loses_down script n = has_line (LoseDown n) script

abbrev pub repeats_up : Script → ℕ → Bool
repeats_up script n = has_line (RepeatUp n) script

abbrev pub repeats_down : Script → ℕ → Bool
repeats_down script n = has_line (RepeatDown n) script

abbrev pub loses_to : Script → ℕ → ℕ → Bool
loses_to script device n = has_line (LoseTo (record { raw = device }) n) script

abbrev pub loses_from : Script → ℕ → ℕ → Bool
loses_from script device n = has_line (LoseFrom (record { raw = device }) n) script

abbrev pub repeats_to : Script → ℕ → ℕ → Bool
repeats_to script device n = has_line (RepeatTo (record { raw = device }) n) script

abbrev pub wears : Script → ℕ → ℕ → Bool
wears script device n = has_line (Worn (record { raw = device }) n) script

abbrev pub closes : Script → ℕ → ℕ → Bool
closes script device n = has_line (CloseAfter (record { raw = device }) n) script

abbrev pub drops : Script → ℕ → Bool
drops script n = has_line (DropChannel n) script

abbrev pub is_off : Script → ℕ → Bool
is_off script device = has_line (Off (record { raw = device })) script

abbrev pub is_standard : Script → ℕ → Bool
is_standard script device = has_line (Standard (record { raw = device })) script

abbrev pub cuts : Script → ℕ → ℕ → Option ℕ
cuts script device n = first_said (cut_at device n) script

abbrev pub refuses : Script → ℕ → Option ℕ
refuses script n = first_said (status_at n) script
