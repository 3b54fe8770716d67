-- The places that lines of a script name, each with its kind, its device and its number, and 0 where the kind has none; a cut has the number of
-- octets that are new beside its place. Refused connect requests and group telegrams are no places.
use Rattle.std.specs.Prelude.{ℕ, Bool, ◌==◌, ◌&&◌, [], ◌∷◌, Option, Some, None, if◌then◌else◌}
use Rattle.knx_model.specs.declared.script.ScriptWhat.{ScriptWhat}
use Rattle.knx_model.specs.declared.script.ScriptWhat.TheVariants.{LoseUp, LoseDown, RepeatUp, RepeatDown, LoseTo, LoseFrom, RepeatTo, Cut, Worn, CloseAfter, Refuse, DropChannel, Off, Standard, Group}
use Rattle.line_model.specs.Lines.{Script, or_later}
use Rattle.script_index.specs.declared.place.Kind.{Kind}
use Rattle.script_index.specs.declared.place.Kind.TheVariants as kinds
use Rattle.script_index.specs.declared.place.Place.{Place}

-- the order of the kinds
abbrev pub number_of : Kind → ℕ
number_of kinds.LoseUp = 0
number_of kinds.LoseDown = 1
number_of kinds.RepeatUp = 2
number_of kinds.RepeatDown = 3
number_of kinds.DropChannel = 4
number_of kinds.LoseTo = 5
number_of kinds.LoseFrom = 6
number_of kinds.RepeatTo = 7
number_of kinds.Worn = 8
number_of kinds.CloseAfter = 9
number_of kinds.Cut = 10
number_of kinds.Off = 11
number_of kinds.Standard = 12

abbrev pub place : Kind → ℕ → ℕ → Place
place kind device n = record { kind = number_of kind; device = device; n = n }

-- the place of a line, and what is said beside it
abbrev pub placed : ScriptWhat → Option (Place × ℕ)
placed (LoseUp n) = Some (place kinds.LoseUp 0 n, 0)
placed (LoseDown n) = Some (place kinds.LoseDown 0 n, 0)
placed (RepeatUp n) = Some (place kinds.RepeatUp 0 n, 0)
placed (RepeatDown n) = Some (place kinds.RepeatDown 0 n, 0)
placed (DropChannel n) = Some (place kinds.DropChannel 0 n, 0)
placed (LoseTo d n) = Some (place kinds.LoseTo d.raw n, 0)
placed (LoseFrom d n) = Some (place kinds.LoseFrom d.raw n, 0)
placed (RepeatTo d n) = Some (place kinds.RepeatTo d.raw n, 0)
placed (Worn d n) = Some (place kinds.Worn d.raw n, 0)
placed (CloseAfter d n) = Some (place kinds.CloseAfter d.raw n, 0)
placed (Cut d n octets) = Some (place kinds.Cut d.raw n, octets)
placed (Off d) = Some (place kinds.Off d.raw 0, 0)
placed (Standard d) = Some (place kinds.Standard d.raw 0, 0)
placed (Refuse n status) = None
placed (Group after group service) = None

abbrev pub same_place : Place → Place → Bool
same_place p q = (p.kind == q.kind) && ((p.device == q.device) && (p.n == q.n))

-- what the script says of a place: the earliest line that names it
abbrev pub value_in : Place → Option (Place × ℕ) → Option ℕ
value_in q None = None
value_in q (Some p) = if same_place p.0 q then Some p.1 else None

abbrev pub value_at : Place → Script → Option ℕ
value_at q [] = None
value_at q (line ∷ script) = or_later (value_in q (placed line)) (value_at q script)
