-- What a step of a hub's closing adds to the record: each entry is right where it stands, by the record and how far the closing was then.
use Rattle.std.specs.Prelude.{List, [], ◌∷◌, ◌++◌, Option, Some, None}
use Rattle.line_model.specs.Record.{Entry, Placed, entries}
use Rattle.line_model.specs.LinkStory.{newest_time}
use Rattle.line_model.specs.Closing as line
use Rattle.hub_work.specs.declared.closing.Closing.{Closing}
use Rattle.hub_core.specs.Closes.{HasCome, resumed}

-- from here on in the closing P holds of each entry, behind these entries, the newest first
abbrev pub EachFrom : (List Entry → line.Closing → Entry → Type 0) → line.Closing → List Entry → List Entry → Type 0
EachFrom P s before [] = Unit {0}
EachFrom P s before (x ∷ l) = P (l ++ before) (resumed s l) x × EachFrom P s before l

-- what a step of the closing adds, which begins it where it hasn't begun
abbrev pub EachOn : (List Entry → line.Closing → Entry → Type 0) → Option Closing → List Placed → List Placed → Type 0
EachOn P None old added = line.EachSince P (newest_time (entries old)) (entries old) (entries added)
EachOn P (Some c) old added = (s : line.Closing) → HasCome (Some c) s → EachFrom P s (entries old) (entries added)

abbrev pub ClosesOn : Option Closing → List Placed → List Placed → Type 0
ClosesOn c old added = EachOn line.ClosesSo c old added

abbrev pub WaitsOn : Option Closing → List Placed → List Placed → Type 0
WaitsOn c old added = EachOn line.WaitsSo c old added
